-- What the begin and the end of a connection do to a client in two states that it cannot tell apart.
use Rattle.std.proofs.Common.{◌≡◌, ℕ, Bool, true, false, List, [], ◌∷◌, refl, sym, ◌∙◌}
use Rattle.std.proofs.Common.{if◌then◌else◌}
use Rattle.sng_outbox.specs.Sending.{publishes}
use Rattle.sng_outbox.specs.declared.in_flight.InFlight.{InFlight}
use Rattle.sng_outbox.specs.declared.item.Item.{Item}
use Rattle.sng_book.specs.declared.address.Address.{Address}
use Rattle.sng_book.specs.declared.outcome.Outcome.{Outcome}
use Rattle.sng_book.specs.declared.outcome.Outcome.TheVariants.{Allowed, Denied}
use Rattle.sng_history.specs.Causes.{ByUp, ByDown}
use Rattle.sng_history.specs.Exits.{subscribing}
use Rattle.sng_history.specs.Exits.{agains_of, sent_again, resending}
use Rattle.sng_history.specs.Exits.{subscribe_out, subscribe_packet}
use Rattle.sng_history.specs.Links.{Link, resumed}
use Rattle.sng_history.specs.Links.{filters_wanted, subscribe_sent}
use Rattle.sng_history.specs.Links.{may_open, next_packet_id}
use Rattle.sng_history.specs.State.{State}
use Rattle.sng_history.specs.Steps.{outs_by, next_by}
use Rattle.sng_isolation.proofs.Alike.{mine, Alike, Sound, GoesOn}
use Rattle.sng_isolation.proofs.Silent.{Silent, silent_both}
use Rattle.sng_isolation.proofs.Waits.{mine_publishes}
use Rattle.sng_isolation.proofs.Common.{kept_common}

silent_again : (id : List ℕ) (own : List Address) (sent : InFlight) (o : Outcome)
    → Silent id own (sent_again sent o)
silent_again id own sent Allowed = refl
silent_again id own sent (Denied rule) = refl

silent_resending : (id : List ℕ) (own : List Address) (flights : List InFlight) (outcomes : List Outcome)
    → Silent id own (resending flights outcomes)
silent_resending id own [] outcomes = refl
silent_resending id own (sent ∷ flights) [] = refl
silent_resending id own (sent ∷ flights) (o ∷ outcomes) =
    silent_both id own (sent_again sent o) (resending flights outcomes) (silent_again id own sent o)
    (silent_resending id own flights outcomes)

silent_out : (id : List ℕ) (own : List Address) (link : Link) (filter : List ℕ)
    → Silent id own (subscribe_out link filter)
silent_out id own link filter = by_open (may_open link.wanted filter)
  where
    by_open : (b : Bool)
        → Silent id own (if b then subscribe_packet (next_packet_id link) filter ∷ [] else [])
    by_open true = refl
    by_open false = refl

silent_subscribing : (id : List ℕ) (own : List Address) (link : Link) (filters : List (List ℕ))
    → Silent id own (subscribing link filters)
silent_subscribing id own link [] = refl
silent_subscribing id own link (filter ∷ filters) =
    let next = subscribe_sent link filter in
    silent_both id own (subscribe_out link filter) (subscribing next filters) (silent_out id own link filter)
    (silent_subscribing id own next filters)

silent_up : (id : List ℕ) (own : List Address) (s : State) → Silent id own (outs_by s ByUp)
silent_up id own s =
    let outcomes = agains_of s.policy s.link.in_flight in
    silent_both id own (resending s.link.in_flight outcomes)
    (subscribing (resumed s.link s.clock outcomes) (filters_wanted s.link))
    (silent_resending id own s.link.in_flight outcomes)
    (silent_subscribing id own (resumed s.link s.clock outcomes) (filters_wanted s.link))

pub common_up : (id : List ℕ) (own : List Address) (s t : State) → Sound id own s → Sound id own t
    → Alike id s t → GoesOn id own s t ByUp ByUp
common_up id own s t sound also alike = record {
  traces = silent_up id own s ∙ sym (silent_up id own t);
  alike = record {
    kept = kept_common id s t ByUp refl alike (λ x is it. refl);
    policy = alike.policy;
    clock = alike.clock;
    up = refl;
    waits = kept_waits s ∙ (alike.waits ∙ sym (kept_waits t));
  };
}
  where
    by_up : (b : Bool) (items : List Item) → mine id (if b then publishes items else items) ≡ mine id items
    by_up true items = mine_publishes id items
    by_up false items = refl

    kept_waits : (r : State) → mine id (next_by r ByUp).link.waiting ≡ mine id r.link.waiting
    kept_waits r = by_up r.up r.link.waiting

pub common_down : (id : List ℕ) (own : List Address) (s t : State) → Sound id own s → Sound id own t
    → Alike id s t → GoesOn id own s t ByDown ByDown
common_down id own s t sound also alike = record {
  traces = refl;
  alike = record {
    kept = kept_common id s t ByDown refl alike (λ x is it. refl);
    policy = alike.policy;
    clock = alike.clock;
    up = refl;
    waits =
        mine_publishes id s.link.waiting ∙ (alike.waits ∙ sym (mine_publishes id t.link.waiting));
  };
}
