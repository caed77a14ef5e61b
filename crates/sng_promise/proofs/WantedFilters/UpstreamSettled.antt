-- What makes the broker keep just the wanted filters still does as more waits.
use Rattle.std.proofs.Common.{◌≡◌, ℕ, Bool, true, false, List, [], ◌∷◌, ◌++◌, refl, ap, sym, ◌∙◌}
use Rattle.std.proofs.Common.{map}
use Rattle.std.specs.Prelude.{◌&&◌, ◌||◌, not, filter}
use Rattle.std.specs.Str.{bytes_eq}
use Rattle.sng_outbox.specs.declared.item.Item.{Item}
use Rattle.sng_outbox.specs.declared.item.Item.TheVariants as item
use Rattle.sng_history.specs.Links.{wants}
use Rattle.sng_history.specs.State.{State}
use Rattle.sng_history.proofs.WantedKept.{or_back}
use Rattle.sng_history.proofs.Wanted.{subscribes, subscribes_both}
use Rattle.sng_promise.proofs.WantedFilters.UpstreamSpeaks.{unsubscribes, settled}

-- once what waits left, the broker keeps the filter just where it is wanted
abbrev pub Owes : State → List ℕ → Bool → Type 0
Owes s text kept = settled (wants s.link.wanted text) s.link.waiting text kept ≡ wants s.link.wanted text

-- ---- more waits

pub unsubscribes_both : (xs ys : List Item) (text : List ℕ)
    → unsubscribes (xs ++ ys) text ≡ (unsubscribes xs text || unsubscribes ys text)
unsubscribes_both [] ys text = refl
unsubscribes_both (item.Unsubscribe filter ∷ xs) ys text =
    ap (λ b. bytes_eq text filter || b) (unsubscribes_both xs ys text)
    ∙ or_back (bytes_eq text filter) (unsubscribes xs text) (unsubscribes ys text)
unsubscribes_both (item.Publish p ∷ xs) ys text = unsubscribes_both xs ys text
unsubscribes_both (item.Subscribe filter ∷ xs) ys text = unsubscribes_both xs ys text
unsubscribes_both (item.Acknowledge packet_id ∷ xs) ys text = unsubscribes_both xs ys text
unsubscribes_both (item.Ping ∷ xs) ys text = unsubscribes_both xs ys text

-- the filter is wanted then as before, or is not, and an UNSUBSCRIBE joins, or begins to be, and a SUBSCRIBE
-- does
moved_true : (a b u : Bool) → ((a || u) ≡ true) → ((a || b) || u) ≡ true
moved_true true b u is = refl
moved_true false true u is = refl
moved_true false false u is = is

moved_false : (a b u : Bool) → ((not a && u) ≡ false) → (not (a || b) && u) ≡ false
moved_false true b u is = refl
moved_false false true u is = refl
moved_false false false u is = is

begun_true : (a b u : Bool) → b ≡ true → ((a || b) || u) ≡ true
begun_true true b u is = refl
begun_true false true u is = refl
begun_true false false u is = absurd cc

ended_false : (a b u : Bool) → b ≡ true → (not (a || b) && u) ≡ false
ended_false true b u is = refl
ended_false false true u is = refl
ended_false false false u is = absurd cc

pub settled_moved : (w v : Bool) (items more : List Item) (text : List ℕ) (u : Bool)
    → settled w items text u ≡ w
    → (w ≡ true → v ≡ false → unsubscribes more text ≡ true)
    → (w ≡ false → v ≡ true → subscribes more text ≡ true) → settled v (items ++ more) text u ≡ v
settled_moved true true items more text u was ends begins =
    ap (λ b. b || u) (subscribes_both items more text)
    ∙ moved_true (subscribes items text) (subscribes more text) u was
settled_moved true false items more text u was ends begins =
    ap (λ b. not b && u) (unsubscribes_both items more text)
    ∙ ended_false (unsubscribes items text) (unsubscribes more text) u (ends refl refl)
settled_moved false true items more text u was ends begins =
    ap (λ b. b || u) (subscribes_both items more text)
    ∙ begun_true (subscribes items text) (subscribes more text) u (begins refl refl)
settled_moved false false items more text u was ends begins =
    ap (λ b. not b && u) (unsubscribes_both items more text)
    ∙ moved_false (unsubscribes items text) (unsubscribes more text) u was

pub settled_more : (w : Bool) (items more : List Item) (text : List ℕ) (u : Bool) → settled w items text u ≡ w
    → settled w (items ++ more) text u ≡ w
settled_more w items more text u was =
    settled_moved w w items more text u was
    (λ is is_not. absurd (let bad : true ≡ false = sym is ∙ is_not in cc))
    (λ is_not is. absurd (let bad : true ≡ false = sym is ∙ is_not in cc))

-- what the broker keeps already
pub settled_right : (w : Bool) (items : List Item) (text : List ℕ) → settled w items text w ≡ w
settled_right true items text = or_true (subscribes items text)
  where
    or_true : (a : Bool) → (a || true) ≡ true
    or_true true = refl
    or_true false = refl
settled_right false items text = and_false (unsubscribes items text)
  where
    and_false : (a : Bool) → (not a && false) ≡ false
    and_false true = refl
    and_false false = refl

-- the SUBSCRIBEs that are owed leave before what waits
pub settled_front : (w : Bool) (texts : List (List ℕ)) (items : List Item) (text : List ℕ) (u : Bool)
    → settled w items text u ≡ w
    → settled w (map item.Subscribe texts ++ items) text u ≡ w
settled_front true texts items text u was =
    let first = map item.Subscribe texts in
    ap (λ b. b || u) (subscribes_both first items text)
    ∙ front_true (subscribes first text) (subscribes items text) u was
  where
    front_true : (a b u : Bool) → (b || u) ≡ true → ((a || b) || u) ≡ true
    front_true true b u is = refl
    front_true false b u is = is
settled_front false texts items text u was =
    ap (λ b. not b && u)
    (unsubscribes_both (map item.Subscribe texts) items text
    ∙ ap (λ b. b || unsubscribes items text) (none_ends texts))
    ∙ was
  where
    none_ends : (texts : List (List ℕ)) → unsubscribes (map item.Subscribe texts) text ≡ false
    none_ends [] = refl
    none_ends (one ∷ texts) = none_ends texts

-- less is kept of a filter that is not wanted
pub settled_less : (w : Bool) (items : List Item) (text : List ℕ) (u v : Bool) → settled w items text u ≡ w
    → (w ≡ true → v ≡ u)
    → (w ≡ false → v ≡ true → u ≡ true) → settled w items text v ≡ w
settled_less true items text u v was same less = ap (λ b. subscribes items text || b) (same refl) ∙ was
settled_less false items text u v was same less = fewer (unsubscribes items text) u v was (less refl)
  where
    fewer : (a u v : Bool) → (not a && u) ≡ false → (v ≡ true → u ≡ true) → (not a && v) ≡ false
    fewer true u v none less = refl
    fewer false u false none less = refl
    fewer false u true none less = absurd (let bad : true ≡ false = sym (less refl) ∙ none in cc)
