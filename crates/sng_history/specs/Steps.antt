-- One step of the state: what it lets out, and the state after it. The program is proved to do just this, and
-- this to keep a history lawful.
use Rattle.std.specs.Prelude.{◌&&◌, not, List, [], ◌∷◌, ◌++◌, map, if◌then◌else◌, Option, Some}
use Rattle.std.specs.List.{flat_map}
use Rattle.sng_frames.specs.declared.messages.connect.Connect.{Connect}
use Rattle.sng_frames.specs.declared.messages.publish.Publish.{Publish}
use Rattle.sng_outbox.specs.declared.item.Item.{Item}
use Rattle.sng_book.specs.Denials.{is_allowed}
use Rattle.sng_book.specs.declared.decision.Decision.{Decision}
use Rattle.sng_book.specs.declared.event.Event.{Event}
use Rattle.sng_book.specs.declared.out.Out.{Out}
use Rattle.sng_history.specs.Causes.{Cause, cause_of, publish_asked}
use Rattle.sng_history.specs.Causes.{ByConnect, ByMessage, BySource, ByBroken, ByPacket, ByUp, ByDown, ByTake}
use Rattle.sng_history.specs.Causes.{ByReplace, ByTick}
use Rattle.sng_history.specs.Clients.{Client, blank, client_by}
use Rattle.sng_history.specs.State.{State, policy_by, clock_by, up_by, around, is_known, asked_by, link_by}
use Rattle.sng_history.specs.Verdicts.{entry, source_ask}
use Rattle.sng_history.specs.Whole.{Notes, whole_by}
use Rattle.sng_history.specs.Lawful.{fixed_for, exits_for}

-- the notes of each client, and of what leaves
abbrev pub notes_for : State → Cause → Notes
notes_for s c = record { of = fixed_for s c; exits = exits_for s c }

abbrev pub outs_by : State → Cause → List Out
outs_by s c = whole_by s c (notes_for s c)

-- what an event lets out
abbrev pub outs_of : State → Event → List Out
outs_of s e = outs_by s (cause_of e)

-- who is accepted for the first time
abbrev pub entrants : State → Connect → List Client
entrants s connect =
    if is_allowed (entry s connect) && not (is_known connect.client_id s.clients)
    then blank connect.client_id ∷ [] else []

abbrev pub newcomers_for : State → Cause → List Client
newcomers_for s (ByConnect from connect) = entrants s connect
newcomers_for s (ByMessage from request) = []
newcomers_for s (BySource from p) = []
newcomers_for s (ByBroken from rule) = []
newcomers_for s (ByPacket p) = []
newcomers_for s ByUp = []
newcomers_for s ByDown = []
newcomers_for s ByTake = []
newcomers_for s (ByReplace policy) = []
newcomers_for s (ByTick clock) = []

-- one client after the step
abbrev pub client_next : State → Cause → Client → Client
client_next s c x = client_by (around s c) (fixed_for s c x) x

-- all clients after it
abbrev pub clients_next : State → Cause → List Client
clients_next s c = map (client_next s c) (s.clients ++ newcomers_for s c)

-- what the notes of a client ask for, given the PUBLISH that the row holds
abbrev pub asked_by_all : Option Publish → List Decision → List Item
asked_by_all p notes = flat_map (λ said. asked_by p said) notes

-- what is asked for, and allowed
abbrev pub asked_for : State → Cause → List Item
asked_for s (ByMessage from request) =
    flat_map (λ x. asked_by_all (publish_asked request) (fixed_for s (ByMessage from request) x)) s.clients
asked_for s (BySource from p) = asked_by (Some p) (source_ask s from.ip p)
asked_for s (ByConnect from connect) = []
asked_for s (ByBroken from rule) = []
asked_for s (ByPacket p) = []
asked_for s ByUp = []
asked_for s ByDown = []
asked_for s ByTake = []
asked_for s (ByReplace policy) = []
asked_for s (ByTick clock) = []

abbrev pub next_by : State → Cause → State
next_by s c = record {
  policy = policy_by c s.policy;
  clock = clock_by c s.clock;
  up = up_by c s.up;
  link = link_by s c (exits_for s c) (asked_for s c) (clients_next s c);
  clients = clients_next s c;
}

-- and the state after it
abbrev pub next_of : State → Event → State
next_of s e = next_by s (cause_of e)
