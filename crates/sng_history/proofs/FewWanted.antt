-- No more filters are wanted than may stand for all clients.
use Rattle.std.proofs.Common.{◌≡◌, ℕ, ◌+◌, ◌*◌, ◌≤◌, Bool, true, false, List, [], ◌∷◌, ◌++◌, map, length}
use Rattle.std.proofs.Common.{refl, ap, sym, ◌∙◌, arith}
use Rattle.std.proofs.Common.{length-append}
use Rattle.std.specs.Prelude.{◌||◌, if◌then◌else◌}
use Rattle.std.specs.Str.{bytes_eq}
use Rattle.std.proofs.lemmas.List.{length-map}
use Rattle.sng_fan.specs.declared.held.Held.{Held}
use Rattle.sng_fan.specs.declared.limits.TheConstants.{MAX_SUBSCRIPTIONS}
use Rattle.sng_fan.specs.Subscriptions.{stands, IsOneClients}
use Rattle.sng_history.specs.Clients.{Client}
use Rattle.sng_history.specs.Links.{Wanted, wants}
use Rattle.sng_history.specs.Standing.{holds, is_held}
use Rattle.sng_history.specs.State.{State}
use Rattle.sng_history.specs.Good.{Each, WantedOnce, Good}
use Rattle.sng_history.proofs.Own.{same_self, same_means, flip}
use Rattle.sng_history.proofs.Booleans.{or_right}

-- the text is one of these
abbrev is_among : List ℕ → List (List ℕ) → Bool
is_among text [] = false
is_among text (one ∷ texts) = bytes_eq text one || is_among text texts

-- all but the first that is this text
abbrev remove : List ℕ → List (List ℕ) → List (List ℕ)
remove text [] = []
remove text (one ∷ texts) = if bytes_eq text one then texts else one ∷ remove text texts

removed_by : (text one : List ℕ) (texts : List (List ℕ)) (b : Bool) → (b || is_among text texts) ≡ true
    → (is_among text texts ≡ true → length (remove text texts) + 1 ≡ length texts)
    → length (let all : List (List ℕ) = if b then texts else one ∷ remove text texts in all) + 1
    ≡ length (one ∷ texts)
removed_by text one texts true there rest = omega arith
removed_by text one texts false there rest = omega (arith, rest there)

removed : (text : List ℕ) (texts : List (List ℕ)) → is_among text texts ≡ true
    → length (remove text texts) + 1 ≡ length texts
removed text [] there = absurd (let e = there in cc)
removed text (one ∷ texts) there = removed_by text one texts (bytes_eq text one) there (removed text texts)

among_by : (text other one : List ℕ) (texts : List (List ℕ)) (b c : Bool) → bytes_eq text one ≡ b
    → bytes_eq other one ≡ c
    → bytes_eq other text ≡ false → (c || is_among other texts) ≡ true
    → (is_among other texts ≡ true → is_among other (remove text texts) ≡ true)
    → is_among other (if b then texts else one ∷ remove text texts) ≡ true
among_by text other one texts true true is same away there rest =
    absurd
    (let here : one ≡ text = sym (same_means text one is) in let bad : true ≡ false = sym same
    ∙ (ap (bytes_eq other) here ∙ away) in cc)
among_by text other one texts true false is same away there rest = there
among_by text other one texts false true is same away there rest = rw same refl
among_by text other one texts false false is same away there rest = rw same (rest there)

among_left : (text other : List ℕ) (texts : List (List ℕ)) → bytes_eq other text ≡ false
    → is_among other texts ≡ true
    → is_among other (remove text texts) ≡ true
among_left text other [] away there = there
among_left text other (one ∷ texts) away there =
    among_by text other one texts (bytes_eq text one) (bytes_eq other one) refl refl away there
    (among_left text other texts away)

other_way : (wanted : List Wanted) (text other : List ℕ) (b : Bool) → bytes_eq other text ≡ b
    → wants wanted text ≡ false
    → wants wanted other ≡ true → b ≡ false
other_way wanted text other true is none there =
    absurd (let bad : true ≡ false = sym there ∙ (ap (wants wanted) (same_means other text is) ∙ none) in cc)
other_way wanted text other false is none there = refl

few : (wanted : List Wanted) (texts : List (List ℕ)) → WantedOnce wanted
    → ((text : List ℕ) → wants wanted text ≡ true → is_among text texts ≡ true) → length wanted ≤ length texts
few [] texts once all = omega arith
few (w ∷ wanted) texts once all =
    let there : is_among w.filter texts ≡ true =
    all w.filter (ap (λ b. b || wants wanted w.filter) (same_self w.filter)) in
    let less = few wanted (remove w.filter texts) once.1
    (λ text is. among_left w.filter text texts
    (other_way wanted w.filter text (bytes_eq text w.filter) refl once.0 is)
    (all text (or_right (bytes_eq text w.filter) (wants wanted text) is))) in
    omega (arith, less, removed w.filter texts there)

-- the filters of all clients
abbrev all_texts : List Client → List (List ℕ)
all_texts [] = []
all_texts (x ∷ xs) = map (λ h. h.filter) x.filters ++ all_texts xs

first_among : (text x : List ℕ) (xs ys : List (List ℕ)) (b c : Bool) → bytes_eq text x ≡ c
    → (c || is_among text xs) ≡ b
    → (b || is_among text ys) ≡ true
    → (is_among text xs ≡ b → is_among text (xs ++ ys) ≡ true) → is_among text (x ∷ xs ++ ys) ≡ true
first_among text x xs ys b true same is there rest = rw same refl
first_among text x xs ys b false same is there rest = rw same (rest is)

among_both : (text : List ℕ) (xs ys : List (List ℕ)) (b : Bool) → is_among text xs ≡ b
    → (b || is_among text ys) ≡ true
    → is_among text (xs ++ ys) ≡ true
among_both text [] ys true is there = absurd (let e = is in cc)
among_both text [] ys false is there = there
among_both text (x ∷ xs) ys b is there =
    first_among text x xs ys b (bytes_eq text x) refl is there (λ same. among_both text xs ys b same there)

or_turned : (a b : List ℕ) (t u : Bool) → bytes_eq a b ≡ t → bytes_eq b a ≡ u → t ≡ u
or_turned a b true true one two = refl
or_turned a b false false one two = refl
or_turned a b true false one two = absurd (let bad : true ≡ false = sym one ∙ flip a b two in cc)
or_turned a b false true one two = absurd (let bad : true ≡ false = sym two ∙ flip b a one in cc)

stands_among : (held : List Held) (text : List ℕ)
    → stands held text ≡ is_among text (map (λ h. h.filter) held)
stands_among [] text = refl
stands_among (h ∷ held) text =
    rw (
      or_turned h.filter text (bytes_eq h.filter text) (bytes_eq text h.filter) refl refl,
      stands_among held text,
    ) refl

later : (b c d : Bool) → (c ≡ true → d ≡ true) → (b || c) ≡ true → (b || d) ≡ true
later true c d follows is = refl
later false c d follows is = follows is

held_among : (xs : List Client) (text : List ℕ) → is_held xs text ≡ true → is_among text (all_texts xs) ≡ true
held_among [] text there = there
held_among (x ∷ xs) text there =
    among_both text (map (λ h. h.filter) x.filters) (all_texts xs) (holds text x)
    (sym (stands_among x.filters text))
    (later (holds text x) (is_held xs text) (is_among text (all_texts xs)) (held_among xs text) there)

few_texts : (xs : List Client) → Each (λ x. IsOneClients x.filters) xs
    → length (all_texts xs) ≤ MAX_SUBSCRIPTIONS * length xs
few_texts [] each = omega arith
few_texts (x ∷ xs) each =
    let one : length x.filters ≤ MAX_SUBSCRIPTIONS = each.0.1 in
    let texts : length (map (λ (h : Held). h.filter) x.filters) ≡ length x.filters =
    length-map x.filters (λ (h : Held). h.filter) in
    omega (arith, length-append (map (λ (h : Held). h.filter) x.filters) (all_texts xs), few_texts xs each.1)

pub few_wanted : (s : State) → Good s → length s.link.wanted ≤ MAX_SUBSCRIPTIONS * length s.clients
few_wanted s good =
    let all =
    few s.link.wanted (all_texts s.clients) good.wanted_once
    (λ text is. held_among s.clients text (sym (good.wanted_held text) ∙ is)) in
    omega (arith, all, few_texts s.clients good.once)
