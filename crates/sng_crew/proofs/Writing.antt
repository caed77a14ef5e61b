-- What was written, put together.
use Rattle.std.proofs.Common.{ℕ, Bool, true, false, ◌+◌, ◌≤◌, ◌≡◌, List, [], ◌∷◌, ◌++◌, map, take, drop, refl}
use Rattle.std.proofs.Common.{sym, ◌∙◌, ap, arith}
use Rattle.std.proofs.lemmas.List.{append_assoc, append-nil, map-append, take-append-drop, take-take}
use Rattle.std.proofs.lemmas.List.{drop-take}
use Rattle.std.proofs.lemmas.Grind.{flat_map-append}
use Rattle.std.proofs.lemmas.Bool.{false≢true}
use Rattle.std.specs.List.{flat_map}
use Rattle.sng_crew.specs.declared.connection.Call.{Call}
use Rattle.sng_crew.specs.declared.connection.Call.TheVariants.{Wrote, NotWritten}
use Rattle.sng_book.specs.declared.out.Out.{Out}
use Rattle.sng_book.specs.declared.out.Out.TheVariants.{Send, Wire, Note}
use Rattle.sng_desk.specs.Acts.{Moves}
use Rattle.sng_crew.specs.Wires.{wires_in}
use Rattle.sng_crew.specs.Turning.{Writes, fails}
use Rattle.sng_desk.proofs.Going.{moves_on}

pub wires_on : (outs more : List Out) → wires_in (outs ++ more) ≡ wires_in outs ++ wires_in more
wires_on [] more = refl
wires_on (Wire bytes ∷ outs) more = ap (λ w. bytes ++ w) (wires_on outs more)
    ∙ sym (append_assoc bytes (wires_in outs) (wires_in more))
wires_on (Send to bytes ∷ outs) more = wires_on outs more
wires_on (Note note ∷ outs) more = wires_on outs more

-- one write, and then others
pub writes_on : {U : Type 0} (tells : U → Bool) (did : U → List Call) (a b c : U) (bytes more : List ℕ)
    (fine : Bool)
    → Writes tells did a b bytes true → Writes tells did b c more fine
    → Writes tells did a c (bytes ++ more) fine
writes_on tells did a b c bytes more fine w v = record {
  written = w.written ++ v.written;
  left = v.left;
  calls =
      let all = moves_on tells did a b c (map (λ x. Wrote x) w.written ++ []) (map (λ x. Wrote x) v.written
      ++ fails fine) w.calls v.calls in
      rw (
        map-append (λ x. Wrote x) w.written v.written,
        append_assoc (map (λ x. Wrote x) w.written)
            (map (λ x. Wrote x) v.written) (fails fine),
      ) (rw (append-nil (map (λ x. Wrote x) w.written)) at
      all);
  whole =
      let whole : flat_map (λ x. x) w.written ≡ bytes = sym (append-nil (flat_map (λ x. x) w.written))
      ∙ ap (λ l. flat_map (λ x. x) w.written ++ l) (sym (w.all refl)) ∙ w.whole in
      rw (
        flat_map-append (λ x. x) w.written v.written,
        append_assoc (flat_map (λ x. x) w.written)
            (flat_map (λ x. x) v.written) v.left,
        whole,
        v.whole,
      ) refl;
  all = v.all;
}

-- a failure leaves all that was still to come
pub writes_less : {U : Type 0} (tells : U → Bool) (did : U → List Call) (a b : U) (bytes more all : List ℕ)
    → all ≡ bytes ++ more
    → Writes tells did a b bytes false → Writes tells did a b all false
writes_less tells did a b bytes more all e w = record {
  written = w.written;
  left = w.left ++ more;
  calls = w.calls;
  whole = sym (append_assoc (flat_map (λ x. x) w.written) w.left more) ∙ ap (λ x. x ++ more) w.whole ∙ sym e;
  all = λ t. absurd (false≢true t);
}

pub take_join : {X : Type 0} → (i n : ℕ) (xs : List X) → take (i + n) xs ≡ take i xs ++ take n (drop i xs)
take_join i n xs =
    let le : i ≤ i + n = omega arith in
    sym (take-append-drop i (take (i + n) xs)) ∙ ap (λ l. l ++ drop i (take (i + n) xs))
    (take-take i (i + n) xs le) ∙ ap (λ l. take i xs ++ l) (drop-take i n xs)

pub writes_one : {U : Type 0} (tells : U → Bool) (did : U → List Call) (a b : U) (piece : List ℕ)
    → Moves tells did a b (Wrote piece ∷ []) → Writes tells did a b piece true
writes_one tells did a b piece m = record {
  written = piece ∷ [];
  left = [];
  calls = m;
  whole = rw
      (append-nil piece, append-nil piece) refl;
  all = λ t. refl;
}

pub writes_fail : {U : Type 0} (tells : U → Bool) (did : U → List Call) (a b : U)
    → Moves tells did a b (NotWritten ∷ []) → Writes tells did a b [] false
writes_fail tells did a b m = record { written = []; left = []; calls = m; whole = refl; all = λ t. refl }
