-- What code lets out for one client at its place, with no notes and no search.
use Rattle.std.specs.Prelude.{ℕ, true, List, [], ◌∷◌, ◌++◌, Option, Some, None, Ok, Err, if◌then◌else◌}
use Rattle.std.specs.declared.result.Result.{Result}
use Rattle.sng_frames.specs.declared.frame.SnFrame.{SnFrame}
use Rattle.sng_book.specs.declared.address.Address.{Address}
use Rattle.sng_book.specs.declared.decision.Decision.TheVariants as note
use Rattle.sng_book.specs.declared.decision.Who.TheVariants as who
use Rattle.sng_book.specs.declared.outcome.Denial.{Denial}
use Rattle.sng_book.specs.declared.outcome.Denial.TheVariants.{Form}
use Rattle.sng_book.specs.declared.outcome.FormDenial.TheVariants.{NotSupported}
use Rattle.sng_book.specs.declared.outcome.Outcome.{Outcome}
use Rattle.sng_book.specs.declared.outcome.Outcome.TheVariants.{Allowed, Denied}
use Rattle.sng_book.specs.declared.out.Out.{Out}
use Rattle.sng_book.specs.declared.out.Out.TheVariants.{Note, Send}
use Rattle.sng_history.specs.Clients.{Client}
use Rattle.sng_grants.specs.declared.policy.Policy.{Policy}
use Rattle.sng_outbox.specs.declared.item.Item.{Item}
use Rattle.sng_outbox.specs.declared.item.Item.TheVariants as item
use Rattle.sng_history.specs.Exits.{exits_of, leaving, agains_of}
use Rattle.sng_history.specs.State.{State, qos_of}
use Rattle.sng_outbox.specs.Sending.{publishes}
use Rattle.sng_outbox.specs.declared.item.Publication.{Publication}
use Rattle.sng_outbox.specs.declared.origin.Origin.TheVariants as origin
use Rattle.sng_ids.specs.Ids.{id_for}
use Rattle.sng_frames.specs.Writing.{written}
use Rattle.sng_frames.specs.declared.flags.TopicIdType.{TopicIdType}
use Rattle.sng_frames.specs.declared.frame.SnFrame.TheVariants as frame
use Rattle.sng_frames.specs.declared.messages.publish.Publish.{Publish}
use Rattle.sng_history.specs.Links.{link_after, outgoing, resumed, filters_wanted, subscribes_sent}
use Rattle.sng_history.specs.Verdicts.{exit, and_then, room, may_ask, name_given, id_room, name_in}
use Rattle.sng_core.specs.declared.verdict.Judged.{Judged}
use Rattle.sng_history.specs.Answers.{denied_note, refused, code_of, regack, puback, dismissed}
use Rattle.sng_turns.specs.HandingOver.{gone_outs}
use Rattle.sng_sessions.specs.Moving.{moved_at}
pub use Rattle.sng_history.specs.Entering.{heard_at, left_at, entering, entered, hearing}
pub use Rattle.sng_sessions.specs.Standing.{place_at, place_of, client_at, told_at}

abbrev pub at_place : List Client → Option ℕ → Option Client
at_place xs None = None
at_place xs (Some place) = Some (client_at xs place)

-- the client at a place is moved by the function, where there is one
abbrev pub moved_if : Option ℕ → (Client → Client) → List Client → List Client
moved_if None f xs = xs
moved_if (Some place) f xs = moved_at place f xs

-- a client takes its leave, and what waits for it is gone
abbrev pub left_outs : Client → List Out
left_outs x = Note (note.Left x.id) ∷ dismissed x.address ∷ gone_outs x.id x.buffer.waiting

-- a client's message that is not taken
abbrev pub unsupported_outs : SnFrame → Client → List Out
unsupported_outs message x =
    Note (denied_note message (who.Client x.id) (Form NotSupported)) ∷ refused x.address message
    (Form NotSupported)

-- a datagram of a client that is not a message
abbrev pub broken_outs : Denial → Client → List Out
broken_outs rule x = Note (note.Frame (who.Client x.id) (Denied rule)) ∷ []

-- what a message lets out, that comes from this client, or from nobody
abbrev pub found_outs : List Out → (Client → List Out) → Option Client → List Out
found_outs stranger f None = stranger
found_outs stranger f (Some x) = f x

-- the state with more that waits
abbrev pub joined : State → List Item → State
joined s items = record s { link = record s.link { waiting = s.link.waiting ++ items } }

-- ---- asks of a client

-- an ask that is denied before a name was read
abbrev pub unread : Denial → Judged
unread rule = record { name = None; outcome = Denied rule }

abbrev pub register_named : Policy → Client → Result (List ℕ) Denial → Judged
register_named policy x (Ok name) =
    record {
      name = Some name;
      outcome = and_then (exit policy (origin.Client x.id) name) (id_room name x.ids);
    }
register_named policy x (Err rule) = unread rule

abbrev pub register_by : Policy → Client → List ℕ → Outcome → Judged
register_by policy x text Allowed = register_named policy x (name_given text)
register_by policy x text (Denied rule) = unread rule

-- how a REGISTER of this name comes out
abbrev pub register_judged : Policy → Client → List ℕ → Judged
register_judged policy x text = register_by policy x text (may_ask policy x)

-- the REGACK
abbrev pub register_reply : ℕ → Client → Option (List ℕ) → Outcome → List Out
register_reply msg_id x (Some name) Allowed = regack x.address (id_for name x.ids) msg_id ∷ []
register_reply msg_id x None Allowed = []
register_reply msg_id x name (Denied rule) =
    Send x.address (written (frame.RegisterAck
    (record { topic_id = 0; msg_id = msg_id; code = code_of rule }))) ∷ []

abbrev pub register_noted : ℕ → Client → Judged → List Out
register_noted msg_id x j =
    Note (note.Register (who.Client x.id) j.name j.outcome) ∷ register_reply msg_id x j.name j.outcome

abbrev pub register_outs : Policy → ℕ → List ℕ → Client → List Out
register_outs policy msg_id text x = register_noted msg_id x (register_judged policy x text)

-- the client that asked is heard, and is told the id where it was allowed
abbrev pub register_next : Policy → ℕ → List ℕ → Client → Client
register_next policy clock text x = let j = register_judged policy x text in told_at clock j.name j.outcome x

abbrev pub publish_named : Policy → Outcome → Client → Result (List ℕ) Denial → Judged
publish_named policy room x (Ok name) =
    record { name = Some name; outcome = and_then (exit policy (origin.Client x.id) name) room }
publish_named policy room x (Err rule) = unread rule

abbrev pub publish_by : Policy → Outcome → Client → TopicIdType → ℕ → Outcome → Judged
publish_by policy room x id_type id Allowed =
    publish_named policy room x (name_in policy (Some x.ids) id_type id)
publish_by policy room x id_type id (Denied rule) = unread rule

-- how a PUBLISH under this topic id comes out, given whether there is room for it
abbrev pub publish_judged : Policy → Outcome → Client → TopicIdType → ℕ → Judged
publish_judged policy room x id_type id = publish_by policy room x id_type id (may_ask policy x)

-- what is sent to this address, where there is a datagram for it
abbrev pub sent_to : Address → Option (List ℕ) → List Out
sent_to to None = []
sent_to to (Some datagram) = Send to datagram ∷ []

-- the PUBACK
abbrev pub publish_reply : Address → Publish → Outcome → List Out
publish_reply to p Allowed = puback to p p.flags.qos
publish_reply to p (Denied rule) = refused to (frame.Publish p) rule

abbrev pub publish_noted : Publish → Client → Judged → List Out
publish_noted p x j =
    Note (note.Publish (who.Client x.id) j.name j.outcome) ∷ publish_reply x.address p j.outcome

-- the publish that was asked for under this name, where it was allowed
abbrev pub publication_by : List ℕ → Publish → Option (List ℕ) → Outcome → Option Publication
publication_by id p (Some name) Allowed =
    Some (record {
      origin = origin.Client id;
      name = name;
      payload = p.payload;
      qos = qos_of p.flags.qos;
      retain = p.flags.retain;
    })
publication_by id p (Some name) (Denied rule) = None
publication_by id p None outcome = None

abbrev pub items_of : Option Publication → List Item
items_of None = []
items_of (Some publication) = item.Publish publication ∷ []

-- how the PUBLISH of a client comes out in this state
abbrev pub carried_judged : State → Publish → Client → Judged
carried_judged s p x = publish_judged s.policy (room s (qos_of p.flags.qos)) x p.flags.id_type p.topic_id

abbrev pub carried_outs : State → Publish → Client → List Out
carried_outs s p x = publish_noted p x (carried_judged s p x)

abbrev pub carried_items : State → Publish → Client → List Item
carried_items s p x = let j = carried_judged s p x in items_of (publication_by x.id p j.name j.outcome)

-- the state after the PUBLISH of the client at this place, or of nobody
abbrev pub carried : State → Publish → Option ℕ → State
carried s p None = s
carried s p (Some place) =
    record (joined s (carried_items s p (client_at s.clients place)))
    { clients = moved_at place (heard_at s.clock) s.clients }

-- ---- the link

-- what has to leave does, where there is a connection
abbrev pub taken_outs : State → List Out
taken_outs s = if s.up then leaving s.link (outgoing s.link) (exits_of s.policy (outgoing s.link)) else []

abbrev pub taken_next : State → State
taken_next s =
    record s {
      link = if s.up then
          record (link_after s.link (outgoing s.link) (exits_of s.policy (outgoing s.link))) { waiting = [] }
          else s.link;
    }

-- a connection begins: where one was up, that one ended, what is in flight is judged and sent again, and each
-- filter that is wanted is subscribed anew
abbrev pub begun_next : State → State
begun_next s = record s {
  up = true;
  link =
      record (subscribes_sent (resumed s.link s.clock (agains_of s.policy s.link.in_flight))
      (filters_wanted s.link)) {
        waiting = if s.up then publishes s.link.waiting else s.link.waiting;
      };
}
