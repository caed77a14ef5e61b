-- The addresses of a client are the same, whether the events are read forwards or backwards.
use Rattle.std.proofs.Common.{◌≡◌, ℕ, Bool, true, false, List, [], ◌∷◌, ◌++◌, map, reverse, refl}
use Rattle.std.proofs.Common.{ap, ap₂, sym, ◌∙◌}
use Rattle.std.specs.Prelude.{◌||◌}
use Rattle.std.proofs.lemmas.Grind.{flat_map-append}
use Rattle.std.proofs.lemmas.List.{append-nil, reverse-append}
use Rattle.std.proofs.lemmas.List.Folds.{flat_map-map, list_any-append}
use Rattle.sng_book.specs.declared.address.Address.{Address}
use Rattle.sng_book.specs.declared.event.Event.{Event}
use Rattle.sng_book.specs.declared.row.Row.{Row}
use Rattle.sng_book.specs.Traces.{same_address, is_own}
use Rattle.sng_isolation.specs.Own.{named_from, named_in, own_of}
use Rattle.sng_two_runs.specs.Runs.{named_by}
use Rattle.sng_two_runs.proofs.Traces.{SameOwn}

either_way : (a b : Bool) → (a || b) ≡ (b || a)
either_way true true = refl
either_way true false = refl
either_way false true = refl
either_way false false = refl

own_append : (place : Address) (own more : List Address)
    → is_own (own ++ more) place ≡ (is_own own place || is_own more place)
own_append place own more = list_any-append (same_address place) own more

own_backwards : (id : List ℕ) (events : List Event)
    → SameOwn (named_by id (reverse events)) (named_by id events)
own_backwards id [] place = refl
own_backwards id (event ∷ events) place =
    ap (λ (given : List Event). is_own (named_by id given) place) (reverse-append (event ∷ []) events)
    ∙ ap (λ (own : List Address). is_own own place)
    (flat_map-append (named_from id) (reverse events) (event ∷ []))
    ∙ own_append place (named_by id (reverse events)) (named_by id (event ∷ []))
    ∙ ap₂ (λ (a b : Bool). a || b) (own_backwards id events place)
    (ap (λ (own : List Address). is_own own place) (append-nil (named_from id event)))
    ∙ either_way (is_own (named_by id events) place) (is_own (named_from id event) place)
    ∙ sym (own_append place (named_from id event) (named_by id events))

own_told : (id : List ℕ) (events : List Event) (h : List Row) → map (λ row. row.event) h ≡ reverse events
    → SameOwn (named_in id h) (named_by id events)
own_told id events h told place =
    ap (λ (own : List Address). is_own own place) (sym (flat_map-map (named_from id) (λ row. row.event) h))
    ∙ ap (λ (given : List Event). is_own (named_by id given) place) told
    ∙ own_backwards id events place

-- in two books of these events
pub own_both : (id : List ℕ) (first second : List Event) (h k : List Row)
    → map (λ row. row.event) h ≡ reverse first → map (λ row. row.event) k ≡ reverse second
    → SameOwn (own_of id h k) (named_by id first ++ named_by id second)
own_both id first second h k told also place =
    own_append place (named_in id h) (named_in id k)
    ∙ ap₂ (λ (a b : Bool). a || b) (own_told id first h told place) (own_told id second k also place)
    ∙ sym (own_append place (named_by id first) (named_by id second))
