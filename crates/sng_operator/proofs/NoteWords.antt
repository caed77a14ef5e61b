-- The words of a note, found in the row that has it alone.
use Rattle.std.specs.Prelude.{ℕ, ◌≡◌, ◌-◌, ◌+◌, true, List, [], ◌∷◌, ◌++◌, length, take}
use Rattle.std.specs.Prelude.{codes}
use Rattle.std.proofs.Common.{◌∙◌, ap, arith}
use Rattle.std.proofs.lemmas.List.{append-nil, length-append}
use Rattle.std.proofs.Math.Seq.{take-append_seam}
use Rattle.std.proofs.lemmas.Fmt.{decimal_digit}
use Rattle.std.specs.Fmt.{decimal}
use Rattle.sng_book.specs.declared.decision.Decision.{Decision}
use Rattle.sng_book.specs.declared.event.EventKind.TheVariants.{Up}
use Rattle.sng_book.specs.declared.out.Out.{Out}
use Rattle.sng_book.specs.declared.out.Out.TheVariants.{Send, Wire, Note}
use Rattle.sng_book.specs.Printing.{row_text, outs_text, kind_text, decision_text}
use Rattle.sng_operator.specs.Denials.{is_denial, words_in, words_of}

-- `row 0 0 up`, a line feed and `note ` before the words
abbrev behind_front : List ℕ → List ℕ
behind_front words =
    114 ∷ 111 ∷ 119 ∷ 32 ∷ 48 ∷ 32 ∷ 48 ∷ 32 ∷ 117 ∷ 112 ∷ 10 ∷ 110 ∷ 111 ∷ 116 ∷ 101 ∷ 32 ∷ words

-- what stands before the last byte
before_last : (words : List ℕ) → take (length (words ++ 10 ∷ []) - 1) (words ++ 10 ∷ []) ≡ words
before_last words =
    let joined : length (words ++ 10 ∷ []) ≡ length words + 1 = length-append words (10 ∷ []) in
    let counted : length (words ++ 10 ∷ []) - 1 ≡ length words = omega arith in
    ap (λ n. take n (words ++ 10 ∷ [])) counted ∙ take-append_seam words (10 ∷ [])

in_line : (words : List ℕ) → words_in (behind_front (words ++ 10 ∷ [])) ≡ words
in_line words =
    let line : List ℕ = words ++ 10 ∷ [] in
    let counted : length (behind_front line) - 1 - 16 ≡ length line - 1 = omega arith in
    ap (λ n. take n line) counted ∙ before_last words

in_row : (decision : Decision) → words_in (row_text 0 0 Up (Note decision ∷ [])) ≡ decision_text decision
in_row decision =
    let words : List ℕ = decision_text decision in
    let row : List ℕ → List ℕ = λ zero.
    codes "row " ++ zero ++ codes " " ++ zero ++ codes " " ++ kind_text Up ++ 10 ∷ []
    ++ outs_text (Note decision ∷ []) in
    let digit : decimal 0 ≡ 48 ∷ [] = decimal_digit 0 (omega arith) in
    ap (λ zero. words_in (row zero)) digit
    ∙ ap (λ line. words_in (behind_front line)) (append-nil (words ++ 10 ∷ []))
    ∙ in_line words

pub words_of_row : (out : Out) → is_denial out ≡ true → words_in (row_text 0 0 Up (out ∷ [])) ≡ words_of out
words_of_row (Send to datagram) denied = search
words_of_row (Wire packet) denied = search
words_of_row (Note decision) denied = in_row decision
