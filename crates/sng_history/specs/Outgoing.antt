-- How what waits for a client comes out: the notes of a hand-over, each message judged by the policy in force
-- as its turn comes (RFC 9431, 2.3; MQTT-SN 1.2, 6.10 and 6.14).
use Rattle.std.specs.Prelude.{ℕ, ◌&&◌, Bool, true, false, List, [], ◌∷◌, ◌++◌, map, is_some, is_none}
use Rattle.std.specs.Prelude.{if◌then◌else◌, Option, Some}
use Rattle.sng_text.specs.declared.qos.Qos.{Qos}
use Rattle.sng_text.specs.declared.qos.Qos.TheVariants.{AtMostOnce, AtLeastOnce}
use Rattle.sng_grants.specs.declared.policy.Policy.{Policy}
use Rattle.sng_policy.specs.Grants.{receive_grant}
use Rattle.sng_policy.specs.declared.permission.Permission.TheVariants as permission
use Rattle.sng_states.specs.States.{takes_messages}
use Rattle.sng_ids.specs.Ids.{Ids, is_full_for}
use Rattle.sng_queue.specs.Messages.{Message}
use Rattle.sng_book.specs.declared.decision.Decision.{Decision}
use Rattle.sng_book.specs.declared.decision.Decision.TheVariants as note
use Rattle.sng_book.specs.declared.decision.Who.TheVariants as who
use Rattle.sng_book.specs.declared.outcome.Place.TheVariants as place
use Rattle.sng_book.specs.declared.outcome.Denial.TheVariants.{Form, Room, Peer}
use Rattle.sng_book.specs.declared.outcome.FormDenial.TheVariants.{OutOfTurn}
use Rattle.sng_book.specs.declared.outcome.RoomDenial.TheVariants.{Full}
use Rattle.sng_book.specs.declared.outcome.PeerDenial.TheVariants.{ClientRefused, Gone}
use Rattle.sng_book.specs.declared.outcome.Outcome.{Outcome}
use Rattle.sng_book.specs.declared.outcome.Outcome.TheVariants.{Allowed, Denied}
use Rattle.sng_history.specs.Arriving.{joins, turned_away}
use Rattle.sng_history.specs.Handing.{known_as}
use Rattle.sng_history.specs.Clients.{Client}
use Rattle.sng_history.specs.Verdicts.{name_outcome}

-- what the policy says to a message for the client under the name
abbrev pub receive : Policy → List ℕ → List ℕ → Outcome
receive policy client name =
    name_outcome permission.Subscribe (Some client) name (receive_grant policy client name)

-- behind a message at QoS 1 nothing leaves until it is acknowledged
abbrev pub behind : Qos → List Decision → List Decision
behind AtMostOnce more = more
behind AtLeastOnce more = []

-- a message that the client may receive: it is handed over where the client knows its name, else an id is
-- announced while there is one, and nothing more leaves until that is answered
abbrev pub offered : List ℕ → Message → Bool → Bool → List Decision → List Decision
offered client m true full more = note.Hand client m.name Allowed ∷ behind m.qos more
offered client m false true more = note.Hand client m.name (Denied (Room (Full place.Ids))) ∷ more
offered client m false false more = note.Announce client m.name ∷ []

-- a message is judged as its turn comes
abbrev pub judged_turn : Policy → List ℕ → Ids → Message → Outcome → List Decision → List Decision
judged_turn policy client ids m Allowed more =
    offered client m (is_some (known_as policy ids m.name)) (is_full_for m.name ids) more
judged_turn policy client ids m (Denied rule) more = note.Hand client m.name (Denied rule) ∷ more

-- of what waits, the oldest first, all that leaves until an exchange is open
abbrev pub turns : Policy → List ℕ → Ids → List Message → List Decision
turns policy client ids [] = []
turns policy client ids (m ∷ more) =
    judged_turn policy client ids m (receive policy client m.name) (turns policy client ids more)

-- the client takes messages, and no exchange is open
abbrev pub is_free : Client → Bool
is_free x = takes_messages x.phase && is_none x.buffer.exchange

-- what leaves then
abbrev pub handed_over : Policy → Client → List Decision
handed_over policy x = if is_free x then turns policy x.id x.ids x.buffer.waiting else []

-- as a client leaves, or begins a clean session, all that waits for it is gone
abbrev pub all_gone : List ℕ → List Message → List Decision
all_gone client waiting = map (λ m. note.Hand client m.name (Denied (Peer Gone))) waiting

-- the client refuses the id that was announced for the front
abbrev pub refusals : List ℕ → ℕ → List Message → List Decision
refusals client code [] = []
refusals client code (m ∷ more) = note.Hand client m.name (Denied (Peer (ClientRefused code))) ∷ []

abbrev pub out_of_turn : List ℕ → List Decision
out_of_turn client = note.Frame (who.Client client) (Denied (Form OutOfTurn)) ∷ []

-- a message of the broker that is due to the client: it is turned away, or joins what waits; and what may
-- leave then leaves
abbrev pub delivered_notes : Policy → Option Message → Client → List Decision
delivered_notes policy due x =
    turned_away x.id due x.buffer ++ handed_over policy (record x { buffer = joins due x.buffer })
