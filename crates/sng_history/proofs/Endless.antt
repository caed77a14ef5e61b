-- Where no subscription ends in a row, nothing is let go of upstream.
use Rattle.std.proofs.Common.{◌≡◌, ℕ, Bool, true, List, [], ◌∷◌, ◌++◌, map, refl, ap, sym, ◌∙◌}
use Rattle.std.specs.Prelude.{◌||◌, not, filter}
use Rattle.std.specs.List.{list_any}
use Rattle.std.proofs.lemmas.List.{append-nil}
use Rattle.std.proofs.Math.Seq.{drop-nil, take-nil}
use Rattle.sng_grants.specs.Limits.{Limits}
use Rattle.sng_outbox.specs.declared.item.Item.TheVariants as item
use Rattle.sng_fan.specs.declared.held.Held.{Held}
use Rattle.sng_fan.specs.Subscriptions.{has_text, stands}
use Rattle.sng_history.specs.Causes.{Cause}
use Rattle.sng_history.specs.Clients.{Client}
use Rattle.sng_history.specs.Links.{Wanted, is_filter_of, wants}
use Rattle.sng_history.specs.Standing.{holds, is_held, ended, released_from, released, dropped_of}
use Rattle.sng_history.specs.Standing.{unsubscribes, places_left, still_wanted}
use Rattle.sng_history.specs.State.{State, policy_by}
use Rattle.sng_history.specs.Steps.{newcomers_for, client_next, clients_next}
use Rattle.sng_history.specs.Good.{Good}
use Rattle.sng_history.proofs.Own.{same_self}
use Rattle.sng_history.proofs.NothingNew.{or_follows}
use Rattle.sng_history.proofs.SaysParts.{drops_for}
use Rattle.sng_history.proofs.Booleans.{or_right}

-- ---- what stands for a client itself

-- each of these is among all of them, by its text
abbrev pub EachAmong : {A : Type 0} → (List ℕ → A → Bool) → (A → List ℕ) → List A → List A → Type 0
EachAmong has text all [] = Unit {0}
EachAmong has text all (x ∷ xs) = (list_any (has (text x)) all ≡ true) × EachAmong has text all xs

among_more : {A : Type 0} (has : List ℕ → A → Bool) (text : A → List ℕ) (y : A) (all xs : List A)
    → EachAmong has text all xs → EachAmong has text (y ∷ all) xs
among_more has text y all [] each = tt
among_more has text y all (x ∷ xs) each =
    (or_right (has (text x) y) (list_any (has (text x)) all) each.0, among_more has text y all xs each.1)

each_among : {A : Type 0} (has : List ℕ → A → Bool) (text : A → List ℕ) → ((x : A) → has (text x) x ≡ true)
    → (xs : List A) → EachAmong has text xs xs
each_among has text own [] = tt
each_among has text own (x ∷ xs) = (
  ap (λ b. b || list_any (has (text x)) xs) (own x),
  among_more has text x xs xs (each_among has text own xs),
)

-- each of these stands among them
abbrev pub EachIn : List Held → List Held → Type 0
EachIn all held = EachAmong has_text (λ h. h.filter) all held

pub each_in : (held : List Held) → EachIn held held
each_in held = each_among has_text (λ h. h.filter) (λ h. same_self h.filter) held

-- what stood stands still
abbrev pub Keeps : Client → Client → Type 0
Keeps x y = (text : List ℕ) → holds text x ≡ true → holds text y ≡ true

none_of : (all after held : List Held) → ((text : List ℕ) → stands all text ≡ true → stands after text ≡ true)
    → EachIn all held → filter (λ h. not (stands after h.filter)) held ≡ []
none_of all after [] keeps each = refl
none_of all after (h ∷ held) keeps each = rw (keeps h.filter each.0) (none_of all after held keeps each.1)

pub none_ended : (x y : Client) → Keeps x y → ended x y ≡ []
none_ended x y keeps =
    ap (map (λ h. h.filter)) (none_of x.filters y.filters x.filters keeps (each_in x.filters))

none_released : (f : Client → Client) (earlier xs : List Client) → ((x : Client) → Keeps x (f x))
    → released_from earlier xs (map f xs) ≡ []
none_released f earlier [] keeps = refl
none_released f earlier (x ∷ xs) keeps =
    rw (none_ended x (f x) (keeps x)) (none_released f (earlier ++ f x ∷ []) xs keeps)

-- ---- wanted filters

-- each of these is wanted
abbrev pub EachWanted : List Wanted → List Wanted → Type 0
EachWanted all wanted = EachAmong is_filter_of (λ w. w.filter) all wanted

pub each_wanted : (wanted : List Wanted) → EachWanted wanted wanted
each_wanted wanted = each_among is_filter_of (λ w. w.filter) (λ w. same_self w.filter) wanted

pub all_still : (after : List Client) (all wanted : List Wanted)
    → ((text : List ℕ) → wants all text ≡ true → is_held after text ≡ true) → EachWanted all wanted
    → still_wanted after wanted ≡ wanted
all_still after all [] held each = refl
all_still after all (w ∷ wanted) held each =
    rw (held w.filter each.0, all_still after all wanted held each.1) refl

held_still : (f : Client → Client) (xs : List Client) (text : List ℕ) → ((x : Client) → Keeps x (f x))
    → is_held xs text ≡ true → is_held (map f xs) text ≡ true
held_still f [] text keeps is = is
held_still f (x ∷ xs) text keeps is =
    or_follows (holds text x) (is_held xs text) (holds text (f x)) (is_held (map f xs) text) (keeps x text)
    (held_still f xs text keeps) is

-- ---- a row in which no subscription ends

abbrev pub Endless : State → Cause → Type 0
Endless s c = (newcomers_for s c ≡ []) × ((x : Client) → Keeps x (client_next s c x))

present : (s : State) (c : Cause) → newcomers_for s c ≡ []
    → clients_next s c ≡ map (client_next s c) s.clients
present s c none =
    ap (λ xs. map (client_next s c) (s.clients ++ xs)) none
    ∙ ap (map (client_next s c)) (append-nil s.clients)

pub endless_released : (s : State) (c : Cause) → Endless s c → released s.clients (clients_next s c) ≡ []
endless_released s c e =
    ap (released s.clients) (present s c e.0) ∙ none_released (client_next s c) [] s.clients e.1

-- nothing is let go of upstream,
pub endless_unsubscribes : (s : State) (c : Cause) (limits : Limits) → Endless s c
    → unsubscribes limits s.link (released s.clients (clients_next s c)) ≡ []
endless_unsubscribes s c limits e =
    ap (unsubscribes limits s.link) (endless_released s c e)
    ∙ ap (map (λ r. item.Unsubscribe r.filter)) (take-nil (places_left limits s.link))

-- nothing is dropped,
pub endless_drops : (s : State) (c : Cause) → Endless s c → drops_for s c ≡ []
endless_drops s c e =
    let limits = (policy_by c s.policy).limits in
    ap (dropped_of limits s.link) (none_released (client_next s c) [] s.clients e.1)
    ∙ drop-nil (places_left limits s.link)

-- and the wanted filters stay
pub endless_wanted : (s : State) (c : Cause) → Good s → Endless s c
    → still_wanted (clients_next s c) s.link.wanted ≡ s.link.wanted
endless_wanted s c good e =
    all_still (clients_next s c) s.link.wanted s.link.wanted
    (λ text is. ap (λ xs. is_held xs text) (present s c e.0)
    ∙ held_still (client_next s c) s.clients text e.1 (sym (good.wanted_held text) ∙ is))
    (each_wanted s.link.wanted)
