-- Who has come, and whose turn it was.
use Rattle.std.proofs.Common.{ℕ, ◌≡◌, ◌<◌, ◌+◌, List, [], ◌∷◌, ◌++◌, length, take, drop, get_or, sym, ◌∙◌, ap}
use Rattle.std.proofs.Common.{arith}
use Rattle.std.specs.List.{AllZip}
use Rattle.std.proofs.lemmas.List.{append_assoc, drop_more, get_or_at, length-take-le, set_at}
use Rattle.std.proofs.lemmas.List.Elements.{All-append, All-nil, All-cons, all_zip_more, length_all_zip}
use Rattle.std.specs.declared.time.Duration.{Duration}
use Rattle.std.specs.Prelude.{slice_set}
use Rattle.sng_serve.specs.Visits.{HasCome, HasComeTo, HaveCome}
use Rattle.sng_serve.specs.declared.visit.Visit.{Visit}

-- one more has come
pub one_more : (now : Duration) (before there after : List Visit) → HaveCome now before there
    → HasComeTo now there after → HaveCome now before after
one_more now before there after came one =
    let alone = All-cons (HasCome now) one.visit [] one.has_come (All-nil (HasCome now)) in
    record {
      more = came.more ++ one.visit ∷ [];
      each = All-append (HasCome now) came.more (one.visit ∷ []) came.each alone;
      others = one.others ∙ ap (λ l. l ++ one.visit ∷ []) came.others
          ∙ append_assoc before came.more (one.visit ∷ []);
    }

-- one more has had his turn, of whom x was the state before it and v is that behind it
pub turned_more : {X : Type 0} (R : X → X → Type 0) (xs ys turned : List X) (i : ℕ) (x v : X) → i < length xs
    → AllZip R (take i xs) turned → ys ≡ turned ++ drop i xs → x ≡ get_or ys i x → R x v
    → (more : List X) × AllZip R (take (i + 1) xs) more × (slice_set ys i v ≡ more ++ drop (i + 1) xs)
turned_more R xs ys turned i x v within zip is read turn =
    let long : length turned ≡ i = sym (length_all_zip R _ _ zip) ∙ length-take-le i xs (omega arith) in
    let split = is ∙ ap (λ l. turned ++ l) (drop_more xs i x within) in
    let here : x ≡ get_or xs i x =
    read ∙ ap (λ l. get_or l i x) split ∙ get_or_at turned (get_or xs i x) (drop (i + 1) xs) x i long in
    let written = ap (λ l. slice_set l i v) split ∙ set_at turned (get_or xs i x) (drop (i + 1) xs) v i long in (
      turned ++ v ∷ [],
      all_zip_more R xs turned i x v within here zip turn,
      written ∙ sym (append_assoc turned (v ∷ []) (drop (i + 1) xs)),
    )
