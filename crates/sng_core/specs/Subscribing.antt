-- What code makes of a SUBSCRIBE and an UNSUBSCRIBE of one client at its place, with no notes and no search.
use Rattle.std.specs.Prelude.{ℕ, ◌+◌, ◌≡◌, Bool, true, false, ◌&&◌, ◌||◌, not, take, drop, List, [], ◌∷◌}
use Rattle.std.specs.Prelude.{◌++◌, Option, Some, None, Ok, Err, if◌then◌else◌}
use Rattle.std.specs.declared.result.Result.{Result}
use Rattle.sng_grants.specs.declared.policy.Policy.{Policy}
use Rattle.sng_fan.specs.Subscriptions.{is_full}
use Rattle.sng_ids.specs.Ids.{Ids, is_full_for}
use Rattle.sng_frames.specs.declared.frame.SnFrame.TheVariants as frame
use Rattle.sng_frames.specs.declared.messages.subscribe.TopicRequest.{TopicRequest}
use Rattle.sng_outbox.specs.declared.item.Item.{Item}
use Rattle.sng_outbox.specs.declared.item.Item.TheVariants as item
use Rattle.sng_book.specs.declared.decision.Decision.TheVariants as note
use Rattle.sng_book.specs.declared.decision.Who.TheVariants as who
use Rattle.sng_book.specs.declared.outcome.Denial.{Denial}
use Rattle.sng_book.specs.declared.outcome.Outcome.{Outcome}
use Rattle.sng_book.specs.declared.outcome.Outcome.TheVariants.{Allowed, Denied}
use Rattle.sng_book.specs.declared.out.Out.{Out}
use Rattle.sng_book.specs.declared.out.Out.TheVariants.{Note}
use Rattle.sng_history.specs.Requests.{gets_id}
use Rattle.sng_history.specs.Clients.{Client, subscribed, unsubscribed}
use Rattle.sng_history.specs.Links.{Wanted}
use Rattle.sng_history.specs.Standing.{holds, is_held}
use Rattle.sng_history.specs.Packets.{has_place}
use Rattle.sng_history.specs.State.{State, subscribe_item, joined}
use Rattle.sng_history.specs.Verdicts.{and_then, coverage, may_ask, in_turn, filter_in, subscribe_room}
use Rattle.sng_history.specs.Answers.{refused, suback, unsuback}
use Rattle.sng_history.specs.Entering.{heard_at}
use Rattle.sng_sessions.specs.Moving.{moved_at}
use Rattle.sng_sessions.specs.Standing.{client_at}
use Rattle.sng_wanted.specs.Filters.{without_wanted}
use Rattle.sng_core.specs.declared.filters.JudgedFilter.{JudgedFilter}

-- an ask that is denied before a filter was read
abbrev pub unread_filter : Denial → JudgedFilter
unread_filter rule = record { filter = None; outcome = Denied rule }

abbrev pub subscribe_named : State → Client → TopicRequest → Result (List ℕ) Denial → JudgedFilter
subscribe_named s x r (Ok filter) =
    record {
      filter = Some filter;
      outcome = and_then (coverage s.policy x.id filter) (subscribe_room s x r filter);
    }
subscribe_named s x r (Err rule) = unread_filter rule

abbrev pub subscribe_by : State → Client → TopicRequest → Outcome → JudgedFilter
subscribe_by s x r Allowed = subscribe_named s x r (filter_in s.policy r.flags.id_type r.topic)
subscribe_by s x r (Denied rule) = unread_filter rule

-- how a SUBSCRIBE comes out
abbrev pub subscribe_judged : State → TopicRequest → Client → JudgedFilter
subscribe_judged s r x = subscribe_by s x r (may_ask s.policy x)

-- the SUBACK
abbrev pub subscribe_reply : TopicRequest → Client → Option (List ℕ) → Outcome → List Out
subscribe_reply r x (Some filter) Allowed = suback x.address r x.ids filter ∷ []
subscribe_reply r x None Allowed = []
subscribe_reply r x filter (Denied rule) = refused x.address (frame.Subscribe r) rule

abbrev pub subscribe_noted : TopicRequest → Client → JudgedFilter → List Out
subscribe_noted r x j =
    Note (note.Subscribe (who.Client x.id) j.filter j.outcome) ∷ subscribe_reply r x j.filter j.outcome

abbrev pub subscribe_outs : State → TopicRequest → Client → List Out
subscribe_outs s r x = subscribe_noted r x (subscribe_judged s r x)

-- the client that asked is heard, and the filter stands for it where that was allowed
abbrev pub stands_next : ℕ → TopicRequest → JudgedFilter → Client → Client
stands_next clock r j x = subscribed (Some r) j.filter j.outcome (heard_at clock x)

-- the state with what it asks for
abbrev pub asked_for : State → JudgedFilter → State
asked_for s j =
    let items = subscribe_item j.filter j.outcome in
    record s {
      link = record s.link
          { waiting = s.link.waiting ++ items; wanted = joined s.link.wanted items };
    }

abbrev pub stands_at : State → TopicRequest → ℕ → JudgedFilter → State
stands_at s r place j =
    record (asked_for s j) { clients = moved_at place (stands_next s.clock r j) s.clients }

-- the state after the SUBSCRIBE of the client at this place, or of nobody
abbrev pub stood : State → TopicRequest → Option ℕ → State
stood s r None = s
stood s r (Some place) = stands_at s r place (subscribe_judged s r (client_at s.clients place))

-- the name, where there is one, has no id and none is left
abbrev pub is_name_full : Option (List ℕ) → Ids → Bool
is_name_full None ids = false
is_name_full (Some name) ids = is_full_for name ids

-- there is room for all that the subscription takes
pub record HasRoom (s : State) (x : Client) (r : TopicRequest) (filter : List ℕ) : Type 0 where
  pub ids : (gets_id r.flags.id_type filter && is_full_for filter x.ids) ≡ false
  pub filters : is_full x.filters filter ≡ false
  pub waits : has_place s.policy.limits s.link ≡ true

-- where it was allowed
abbrev pub IsAllowed : State → Client → TopicRequest → JudgedFilter → Type 0
IsAllowed s x r j = (filter : List ℕ) → j.filter ≡ Some filter → j.outcome ≡ Allowed → HasRoom s x r filter

-- ---- an UNSUBSCRIBE

abbrev pub unsubscribe_named : Result (List ℕ) Denial → JudgedFilter
unsubscribe_named (Ok filter) = record { filter = Some filter; outcome = Allowed }
unsubscribe_named (Err rule) = unread_filter rule

abbrev pub unsubscribe_by : Policy → TopicRequest → Outcome → JudgedFilter
unsubscribe_by policy r Allowed = unsubscribe_named (filter_in policy r.flags.id_type r.topic)
unsubscribe_by policy r (Denied rule) = unread_filter rule

-- how an UNSUBSCRIBE comes out
abbrev pub unsubscribe_judged : Policy → TopicRequest → Client → JudgedFilter
unsubscribe_judged policy r x = unsubscribe_by policy r (in_turn x)

-- the filter stands for another client than the one at this place
abbrev pub others_hold : List Client → ℕ → List ℕ → Bool
others_hold xs place filter = is_held (take place xs) filter || is_held (drop (place + 1) xs) filter

-- it stands for the client at this place alone
abbrev pub holds_alone : List Client → ℕ → List ℕ → Bool
holds_alone xs place filter = holds filter (client_at xs place) && not (others_hold xs place filter)

-- what is let go as the subscription to the filter ends
abbrev pub let_go : List Client → ℕ → Option (List ℕ) → Outcome → List (List ℕ)
let_go xs place (Some filter) Allowed = if holds_alone xs place filter then filter ∷ [] else []
let_go xs place (Some filter) (Denied rule) = []
let_go xs place None outcome = []

-- the broker is told of it where there is place, and else that is noted
abbrev pub told_of : Bool → List (List ℕ) → List Item
told_of place [] = []
told_of place (filter ∷ filters) = if place then item.Unsubscribe filter ∷ [] else []

abbrev pub untold_of : Bool → List (List ℕ) → List Out
untold_of place [] = []
untold_of place (filter ∷ filters) = if place then [] else Note note.Outbox ∷ []

abbrev pub unwanted : List Wanted → List (List ℕ) → List Wanted
unwanted wanted [] = wanted
unwanted wanted (filter ∷ filters) = without_wanted wanted filter

abbrev pub unsubscribe_noted : State → TopicRequest → ℕ → JudgedFilter → List Out
unsubscribe_noted s r place j =
    let x = client_at s.clients place in
    Note (note.Unsubscribe (who.Client x.id) j.filter j.outcome)
    ∷ (untold_of (has_place s.policy.limits s.link) (let_go s.clients place j.filter j.outcome)
    ++ unsuback x.address r ∷ [])

abbrev pub unsubscribe_outs : State → TopicRequest → Option ℕ → List Out → List Out
unsubscribe_outs s r None stranger = stranger
unsubscribe_outs s r (Some place) stranger =
    unsubscribe_noted s r place (unsubscribe_judged s.policy r (client_at s.clients place))

-- the client that asked is heard, and the filter ends for it where that was allowed
abbrev pub ends_next : ℕ → JudgedFilter → Client → Client
ends_next clock j x = unsubscribed j.filter j.outcome (heard_at clock x)

abbrev pub let_go_next : State → ℕ → JudgedFilter → State
let_go_next s place j =
    let gone = let_go s.clients place j.filter j.outcome in
    record s {
      link =
          record s.link {
            waiting = s.link.waiting ++ told_of (has_place s.policy.limits s.link) gone;
            wanted = unwanted s.link.wanted gone;
          };
    }

abbrev pub ends_at : State → ℕ → JudgedFilter → State
ends_at s place j =
    record (let_go_next s place j) { clients = moved_at place (ends_next s.clock j) s.clients }

-- the state after the UNSUBSCRIBE of the client at this place, or of nobody
abbrev pub ended : State → TopicRequest → Option ℕ → State
ended s r None = s
ended s r (Some place) = ends_at s place (unsubscribe_judged s.policy r (client_at s.clients place))
