-- What of the subscriptions ends as another policy comes into force: one ending after another, in the order
-- in which they come.
use Rattle.std.specs.Prelude.{ℕ, suc, ◌-◌, Bool, List, [], ◌∷◌, ◌++◌, if◌then◌else◌, Option, Some, None}
use Rattle.sng_grants.specs.Limits.{Limits}
use Rattle.sng_grants.specs.declared.policy.Policy.{Policy}
use Rattle.sng_fan.specs.declared.held.Held.{Held}
use Rattle.sng_outbox.specs.declared.item.Item.TheVariants as item
use Rattle.sng_book.specs.declared.decision.Decision.TheVariants as note
use Rattle.sng_book.specs.declared.outcome.Outcome.{Outcome}
use Rattle.sng_book.specs.declared.outcome.Outcome.TheVariants.{Allowed, Denied}
use Rattle.sng_book.specs.declared.out.Out.{Out}
use Rattle.sng_book.specs.declared.out.Out.TheVariants.{Note}
use Rattle.sng_history.specs.Clients.{Client, without}
use Rattle.sng_history.specs.Links.{Link}
use Rattle.sng_history.specs.Packets.{has_place}
use Rattle.sng_history.specs.Standing.{is_held}
use Rattle.sng_history.specs.Verdicts.{coverage}
use Rattle.sng_link.specs.declared.room.Room.{Room}
use Rattle.sng_wanted.specs.Filters.{without_wanted}
use Rattle.sng_sessions.specs.Moving.{moved_at}
use Rattle.sng_endings.specs.declared.replacing.SubscriptionEnd.{SubscriptionEnd}

-- an ending, where there is one
abbrev pub ending_list : Option SubscriptionEnd → List SubscriptionEnd
ending_list None = []
ending_list (Some ending) = ending ∷ []

-- the filter stands for nobody any more: it is wanted no more, and the broker is told so where the limits leave
-- place for that
abbrev pub let_go : Limits → Link → List ℕ → Link
let_go limits link text = record link {
  waiting = if has_place limits link then link.waiting ++ item.Unsubscribe text ∷ [] else link.waiting;
  wanted = without_wanted link.wanted text;
}

-- and where they leave none that is noted
abbrev pub untold_of : Limits → Link → List Out
untold_of limits link = if has_place limits link then [] else Note note.Outbox ∷ []

-- the clients once one filter stands no more for the client at its place
abbrev pub ended_clients : List Client → SubscriptionEnd → List Client
ended_clients xs e = moved_at e.place (without e.filter) xs

-- the link after one ending, and what it lets out, where the filter stands for somebody still, or does not
abbrev pub ended_link : Limits → Link → List Client → List ℕ → Link
ended_link limits link after text = if is_held after text then link else let_go limits link text

abbrev pub ended_notes : Limits → Link → List Client → List ℕ → List Out
ended_notes limits link after text = if is_held after text then [] else untold_of limits link

-- the room for publishes once a filter has ended that somebody holds still, or nobody: of that the broker is
-- told where there is place
abbrev pub room_left : Bool → Room → Room
room_left held room = if held then room else record room { places = room.places - 1 }

-- what an ending moves of the state: the clients, and the link to the broker
pub record Moved : Type 0 where
  pub link : Link
  pub clients : List Client

abbrev pub moved : Link → List Client → Moved
moved link clients = record { link = link; clients = clients }

abbrev pub ended_next : Limits → Moved → SubscriptionEnd → Moved
ended_next limits m e =
    let after = ended_clients m.clients e in
    moved (ended_link limits m.link after e.filter) after

abbrev pub ended_outs : Limits → Moved → SubscriptionEnd → List Out
ended_outs limits m e = Note e.note ∷ ended_notes limits m.link (ended_clients m.clients e) e.filter

-- one after another
abbrev pub all_next : Limits → Moved → List SubscriptionEnd → Moved
all_next limits m [] = m
all_next limits m (e ∷ endings) = all_next limits (ended_next limits m e) endings

abbrev pub all_outs : Limits → Moved → List SubscriptionEnd → List Out
all_outs limits m [] = []
all_outs limits m (e ∷ endings) =
    ended_outs limits m e ++ all_outs limits (ended_next limits m e) endings

-- the ending of a filter that is denied to the client at this place
abbrev pub ending_of : ℕ → List ℕ → List ℕ → Outcome → List SubscriptionEnd
ending_of place client text Allowed = []
ending_of place client text (Denied rule) =
    record { place = place; filter = text; note = note.End client text (Denied rule) } ∷ []

-- those of the filters of one client, in order
abbrev pub endings_by : Policy → ℕ → List ℕ → List Held → List SubscriptionEnd
endings_by policy place client [] = []
endings_by policy place client (h ∷ held) =
    ending_of place client h.filter (coverage policy client h.filter) ++ endings_by policy place client held

-- and those of all clients from this place on
abbrev pub endings_from : Policy → ℕ → List Client → List SubscriptionEnd
endings_from policy place [] = []
endings_from policy place (x ∷ xs) =
    endings_by policy place x.id x.filters ++ endings_from policy (suc place) xs
