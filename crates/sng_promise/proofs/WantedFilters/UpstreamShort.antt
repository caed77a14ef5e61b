-- No filter that stands for a client is longer than a packet can say, nor is one that waits to be ended
-- upstream.
use Rattle.std.proofs.Common.{◌≡◌, ℕ, zero, suc, ◌≤◌, Bool, true, false, List, [], ◌∷◌, ◌++◌, map, length}
use Rattle.std.proofs.Common.{refl, if◌then◌else◌}
use Rattle.std.specs.Prelude.{not, ◌||◌, filter, take}
use Rattle.sng_fan.specs.declared.held.Held.{Held}
use Rattle.sng_fan.specs.Subscriptions.{stands}
use Rattle.sng_outbox.specs.declared.item.Item.TheVariants as item
use Rattle.sng_history.specs.Causes.{Cause}
use Rattle.sng_history.specs.Clients.{Client}
use Rattle.sng_history.specs.Standing.{Release, holds, is_held, ended, releases_of, released_from, released}
use Rattle.sng_history.specs.Standing.{unsubscribes, places_left}
use Rattle.sng_history.specs.State.{State}
use Rattle.sng_history.specs.State.{policy_by}
use Rattle.sng_history.specs.Steps.{clients_next}
use Rattle.sng_history.specs.Good.{Each}
use Rattle.sng_promise.proofs.WantedFilters.HeldFilters.{OwnFilters, AreFilters, are_keep, stands_filter}
use Rattle.sng_promise.proofs.WantedFilters.HeldFilters.{filter_short}
use Rattle.sng_history.proofs.WaitingItems.{Added, each_next, waiting_next}
use Rattle.sng_promise.proofs.WantedFilters.UpstreamSpeaks.{ShortEnd, ShortEnds}
use Rattle.sng_grants.specs.Limits.{Limits}

-- ---- what stands for somebody

pub held_short : (xs : List Client) (text : List ℕ) → Each OwnFilters xs → is_held xs text ≡ true
    → length text ≤ 65535
held_short [] text short stood = absurd cc
held_short (x ∷ xs) text short stood =
    at (holds text x) refl stood (λ later. held_short xs text short.1 later)
  where
    at : (b : Bool) → holds text x ≡ b → (b || is_held xs text) ≡ true
        → (is_held xs text ≡ true → length text ≤ 65535)
        → length text ≤ 65535
    at true is stood rest = filter_short text (stands_filter x.filters text short.0 is)
    at false is stood rest = rest stood

-- ---- what waits to be ended upstream

ends_added : Added ShortEnd
ends_added = record { publish = λ p. tt; subscribe = λ filter. tt; acknowledge = λ packet_id. tt; ping = tt }

-- what is let go of stood for somebody
abbrev ShortReleases : List Release → Type 0
ShortReleases [] = Unit {0}
ShortReleases (r ∷ rs) = (length r.filter ≤ 65535) × ShortReleases rs

abbrev ShortList : List (List ℕ) → Type 0
ShortList [] = Unit {0}
ShortList (text ∷ texts) = (length text ≤ 65535) × ShortList texts

short_list : (held : List Held) → AreFilters held → ShortList (map (λ h. h.filter) held)
short_list [] are = tt
short_list (h ∷ held) are = (filter_short h.filter are.0, short_list held are.1)

releases_by : (r : Release) (rs : List Release) (b : Bool) → length r.filter ≤ 65535 → ShortReleases rs
    → ShortReleases (if b then rs else r ∷ rs)
releases_by r rs true one short = short
releases_by r rs false one short = (one, short)

short_releases : (client : List ℕ) (others : List ℕ → Bool) (texts : List (List ℕ)) → ShortList texts
    → ShortReleases (releases_of client others texts)
short_releases client others [] short = tt
short_releases client others (text ∷ texts) short =
    releases_by (record { client = client; filter = text }) (releases_of client others texts)
    (others text) short.0
    (short_releases client others texts short.1)

releases_append : (xs ys : List Release) → ShortReleases xs → ShortReleases ys → ShortReleases (xs ++ ys)
releases_append [] ys one two = two
releases_append (x ∷ xs) ys one two = (one.0, releases_append xs ys one.1 two)

short_from : (earlier xs ys : List Client) → Each OwnFilters xs → ShortReleases (released_from earlier xs ys)
short_from earlier [] ys short = tt
short_from earlier (x ∷ xs) [] short = tt
short_from earlier (x ∷ xs) (y ∷ ys) short =
    releases_append (releases_of x.id (λ text. is_held earlier text || is_held xs text) (ended x y))
    (released_from (earlier ++ y ∷ []) xs ys)
    (short_releases x.id (λ text. is_held earlier text || is_held xs text) (ended x y)
    (short_list (filter (λ h. not (stands y.filters h.filter)) x.filters)
    (are_keep (λ h. not (stands y.filters h.filter)) x.filters short.0)))
    (short_from (earlier ++ y ∷ []) xs ys short.1)

ends_released : (n : ℕ) (rs : List Release) → ShortReleases rs
    → ShortEnds (map (λ r. item.Unsubscribe r.filter) (take n rs))
ends_released zero rs short = tt
ends_released (suc n) [] short = tt
ends_released (suc n) (r ∷ rs) short = (short.0, ends_released n rs short.1)

ends_let_go : (limits : Limits) (s : State) (after : List Client) → Each OwnFilters s.clients
    → ShortEnds (unsubscribes limits s.link (released s.clients after))
ends_let_go limits s after short =
    ends_released (places_left limits s.link) (released s.clients after) (short_from [] s.clients after short)

pub ends_next : (s : State) (c : Cause) → Each OwnFilters s.clients → ShortEnds s.link.waiting
    → ShortEnds (waiting_next s c)
ends_next s c short all =
    each_next ShortEnd ends_added s c (ends_let_go (policy_by c s.policy).limits s (clients_next s c) short) all
