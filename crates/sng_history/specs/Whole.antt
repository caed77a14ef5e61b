-- The whole of what a row lets out, given the state before, the cause, and the notes that the row has of each
-- client and of what leaves.
use Rattle.std.specs.Prelude.{ℕ, Bool, true, false, ◌&&◌, ◌||◌, not, List, [], ◌∷◌, ◌++◌, map, drop}
use Rattle.std.specs.Prelude.{if◌then◌else◌, Option, Some, None}
use Rattle.std.specs.List.{flat_map}
use Rattle.std.specs.Str.{bytes_eq}
use Rattle.sng_states.specs.States.{has_session, is_due_messages}
use Rattle.sng_ids.specs.Ids.{id_for}
use Rattle.sng_frames.specs.declared.messages.connect.Connect.{Connect}
use Rattle.sng_frames.specs.declared.frame.SnFrame.TheVariants as frame
use Rattle.sng_book.specs.declared.address.Address.{Address}
use Rattle.sng_book.specs.declared.decision.Decision.{Decision}
use Rattle.sng_book.specs.declared.decision.Decision.TheVariants as note
use Rattle.sng_book.specs.declared.decision.Who.TheVariants as who
use Rattle.sng_book.specs.declared.outcome.Denial.{Denial}
use Rattle.sng_book.specs.declared.outcome.Denial.TheVariants.{Form}
use Rattle.sng_book.specs.declared.outcome.FormDenial.TheVariants.{NotSupported, NoSession}
use Rattle.sng_book.specs.declared.outcome.Outcome.{Outcome}
use Rattle.sng_book.specs.declared.outcome.Outcome.TheVariants.{Allowed, Denied}
use Rattle.sng_book.specs.declared.out.Out.{Out}
use Rattle.sng_book.specs.declared.out.Out.TheVariants.{Note}
use Rattle.sng_history.specs.Causes.{Request, ToPing, ToLeave, ToSleep, ToRegister, ToPublish, ToSubscribe}
use Rattle.sng_history.specs.Causes.{ToUnsubscribe, ToConfirm, ToAcknowledge, ToState, Untaken}
use Rattle.sng_history.specs.Causes.{ToPublishOnce, ToRelease}
use Rattle.sng_history.specs.Causes.{Cause, request_of}
use Rattle.sng_history.specs.Causes.{ByConnect, ByMessage, BySource, ByBroken, ByPacket, ByUp, ByDown, ByTake}
use Rattle.sng_history.specs.Causes.{ByReplace, ByTick}
use Rattle.sng_history.specs.Handing.{known_as, front, handed_outs, announced_out, repeated_outs}
use Rattle.sng_history.specs.Clients.{Client, Around, same_address, is_from, is_author, let_in, start_by}
use Rattle.sng_history.specs.Clients.{note_by, notes_by, client_by, is_drained}
use Rattle.sng_history.specs.Standing.{Release, released, dropped_of, drop_note, drop_notes}
use Rattle.sng_history.specs.Notes.{notes_of, exits_in}
use Rattle.sng_history.specs.State.{State, around, later, policy_by}
use Rattle.sng_history.specs.Ticking.{with_wills, ping_dropped}
use Rattle.sng_history.specs.Verdicts.{source_ask, entry, is_active, ping_verdict, is_repeat}
use Rattle.sng_history.specs.Answers.{denied_note, code_of, refused, regack, puback, suback, unsuback}
use Rattle.sng_history.specs.Answers.{statement_answer, statement_refused, dismissed, connack, welcome, pong}
use Rattle.sng_history.specs.Answers.{pubrec, pubcomp}
use Rattle.sng_history.specs.Exits.{leaving, beginning}
use Rattle.sng_history.specs.Packets.{answer_of, answer_outs}
use Rattle.sng_history.specs.Links.{outgoing}

-- what a row's notes say that its cause alone need not fix: the notes of each client, and the outcomes of the
-- items that leave
pub record Notes : Type 0 where
  pub of : Client → List Decision
  pub exits : List Outcome

abbrev pub notes_in : List Out → Notes
notes_in outs = record { of = λ x. notes_of x.id outs; exits = exits_in outs }

-- ---- the frames of a note

abbrev pub takes_leave : Request → Bool
takes_leave ToLeave = true
takes_leave (ToPing client) = false
takes_leave (ToSleep duration) = false
takes_leave (ToRegister r) = false
takes_leave (ToPublish p) = false
takes_leave (ToPublishOnce p) = false
takes_leave (ToRelease id) = false
takes_leave (ToSubscribe r) = false
takes_leave (ToUnsubscribe r) = false
takes_leave (ToConfirm r) = false
takes_leave (ToAcknowledge r) = false
takes_leave (ToState statement) = false
takes_leave (Untaken message) = false

-- a client that takes its leave is answered by DISCONNECT; one that another client at its address puts out is
-- not
abbrev pub farewell : Option Request → Address → List Out
farewell None to = []
farewell (Some request) to = if takes_leave request then dismissed to ∷ [] else []

-- the answer to a client's message that is denied; a PINGREQ that names another client is answered by
-- DISCONNECT
abbrev pub denied_to : Request → Address → Denial → List Out
denied_to (ToPing client) to (Form NoSession) = dismissed to ∷ []
denied_to (ToPing client) to rule = []
denied_to ToLeave to rule = []
denied_to (ToSleep duration) to rule = []
denied_to (ToRegister r) to rule = refused to (frame.Register r) rule
denied_to (ToPublish p) to rule = refused to (frame.Publish p) rule
denied_to (ToPublishOnce p) to rule = refused to (frame.Publish p) rule
denied_to (ToRelease id) to rule = []
denied_to (ToSubscribe r) to rule = refused to (frame.Subscribe r) rule
denied_to (ToUnsubscribe r) to rule = refused to (frame.Unsubscribe r) rule
denied_to (ToConfirm r) to rule = []
denied_to (ToAcknowledge r) to rule = []
denied_to (ToState statement) to rule = statement_refused statement to rule
denied_to (Untaken message) to rule = refused to message rule

abbrev pub denied_by : Option Request → Address → Denial → List Out
denied_by None to rule = []
denied_by (Some request) to rule = denied_to request to rule

-- the answer to a client's message that is allowed and noted under this name or filter: REGACK tells the id
-- that the name has then, PUBACK acknowledges a publish at QoS 1 and PUBREC one at QoS 2, and SUBACK and
-- UNSUBACK a subscription and its end
abbrev pub granted_to : Request → Client → Option (List ℕ) → List Out
granted_to (ToRegister r) x (Some name) = regack x.address (id_for name x.ids) r.msg_id ∷ []
granted_to (ToRegister r) x None = []
granted_to (ToPublish p) x name = puback x.address p p.flags.qos
granted_to (ToPublishOnce p) x name = pubrec x.address p.msg_id ∷ []
granted_to (ToRelease id) x name = []
granted_to (ToSubscribe r) x (Some filter) = suback x.address r x.ids filter ∷ []
granted_to (ToSubscribe r) x None = []
granted_to (ToUnsubscribe r) x filter = unsuback x.address r ∷ []
granted_to (ToPing client) x name = []
granted_to ToLeave x name = []
granted_to (ToSleep duration) x name = []
granted_to (ToConfirm r) x name = []
granted_to (ToAcknowledge r) x name = []
granted_to (ToState statement) x name = statement_answer statement x.address ∷ []
granted_to (Untaken message) x name = []

abbrev pub granted_by : Option Request → Client → Option (List ℕ) → List Out
granted_by None x name = []
granted_by (Some request) x name = granted_to request x name

abbrev pub replied : Cause → Client → Option (List ℕ) → Outcome → List Out
replied c x name Allowed = granted_by (request_of c) x name
replied c x name (Denied rule) = denied_by (request_of c) x.address rule

-- an UNSUBSCRIBE that finds no place is noted, where the client's end of this filter asked for it
abbrev pub dropped_with : List Release → List ℕ → Option (List ℕ) → List Out
dropped_with dropped client None = []
dropped_with dropped client (Some filter) = drop_note dropped client filter

-- a message that is handed over is sent, under the topic id by which the client knows its name
abbrev pub handed_frames : Around → Client → List ℕ → Outcome → List Out
handed_frames a x name Allowed =
    handed_outs x.address x.number (front x.buffer) (known_as a.policy x.ids name)
handed_frames a x name (Denied rule) = []

-- what is open is sent again, with the ids of its first sending
abbrev pub repeated_frames : Client → Outcome → List Out
repeated_frames x Allowed = repeated_outs x.address x.buffer x.buffer.exchange
repeated_frames x (Denied rule) = []

-- what follows a note of a client, which is as it is at that place: the note of an UNSUBSCRIBE that is
-- dropped, and frames
abbrev pub frames_of : Around → List Release → Client → Decision → List Out
frames_of a dropped x (note.Left id) = farewell (request_of a.cause) x.address
frames_of a dropped x (note.Register who name outcome) = replied a.cause x name outcome
frames_of a dropped x (note.Publish who name outcome) = replied a.cause x name outcome
frames_of a dropped x (note.Subscribe who filter outcome) = replied a.cause x filter outcome
frames_of a dropped x (note.Unsubscribe who filter outcome) =
    dropped_with dropped x.id filter ++ replied a.cause x filter outcome
frames_of a dropped x (note.Will who name outcome) = replied a.cause x name outcome
frames_of a dropped x (note.Frame who outcome) = replied a.cause x None outcome
frames_of a dropped x (note.End id filter outcome) = drop_note dropped x.id filter
frames_of a dropped x (note.Connect id outcome) = []
frames_of a dropped x (note.Announce id name) = announced_out x.address x.number x.ids name ∷ []
frames_of a dropped x (note.Hand id name outcome) = handed_frames a x name outcome
frames_of a dropped x (note.Retry id name outcome) = repeated_frames x outcome
frames_of a dropped x (note.Forward who name outcome) = []
frames_of a dropped x (note.Again who name outcome) = []
frames_of a dropped x (note.Lost id) = []
frames_of a dropped x note.Outbox = []

-- a client's notes, each with what follows it
abbrev pub spell : Around → List Release → Client → List Decision → List Out
spell a dropped x [] = []
spell a dropped x (said ∷ notes) =
    Note said ∷ (frames_of a dropped x said ++ spell a dropped (note_by a said x) notes)

-- ---- the part of a client

-- the answer to a message that makes no note: a PINGREQ of an active client is answered by PINGRESP (MQTT-SN
-- 1.2, 6.11), a DISCONNECT with Duration by DISCONNECT (6.14), a PUBLISH that repeats one that was received
-- by PUBREC, and a PUBREL by PUBCOMP (6.6)
abbrev pub pong_by : Outcome → Address → List Out
pong_by Allowed to = pong to ∷ []
pong_by (Denied rule) to = []

abbrev pub answer_to : Request → Client → List Out
answer_to (ToPing client) x = if is_active x.phase then pong_by (ping_verdict client x) x.address else []
answer_to (ToSleep duration) x = if is_due_messages x.phase then dismissed x.address ∷ [] else []
answer_to ToLeave x = []
answer_to (ToRegister r) x = []
answer_to (ToPublish p) x = []
answer_to (ToPublishOnce p) x = if is_repeat p x then pubrec x.address p.msg_id ∷ [] else []
answer_to (ToRelease id) x = if is_active x.phase then pubcomp x.address id ∷ [] else []
answer_to (ToSubscribe r) x = []
answer_to (ToUnsubscribe r) x = []
answer_to (ToConfirm r) x = []
answer_to (ToAcknowledge r) x = []
answer_to (ToState statement) x = []
answer_to (Untaken message) x = []

abbrev pub answer : Option Request → Client → List Out
answer None x = []
answer (Some request) x = answer_to request x

-- an awake client for which nothing is left is told so by PINGRESP (MQTT-SN 1.2, 6.14)
abbrev pub drained_outs : Client → List Out
drained_outs x = if is_drained x then pong x.address ∷ [] else []

-- all that a row lets out for one client
abbrev pub part : Around → List Release → List Decision → Client → List Out
part a dropped notes x =
    (if is_author a.cause x then answer (request_of a.cause) x else [])
    ++ (spell a dropped (start_by a x) notes ++ drained_outs (notes_by a notes (start_by a x)))

-- ---- the row

-- one of these clients is where the datagram came from
abbrev pub any_from : Cause → List Client → Bool
any_from c [] = false
any_from c (x ∷ xs) = is_from c x || any_from c xs

-- a message from an address at which no client is: it is noted, and one that needs a session is answered by
-- DISCONNECT
abbrev pub stranger_to : Address → Request → List Out
stranger_to from (ToPing client) =
    Note (note.Frame (who.Address from) (Denied (Form NoSession))) ∷ dismissed from ∷ []
stranger_to from (ToSleep duration) =
    Note (note.Frame (who.Address from) (Denied (Form NoSession))) ∷ dismissed from ∷ []
stranger_to from ToLeave =
    Note (note.Frame (who.Address from) (Denied (Form NoSession))) ∷ dismissed from ∷ []
stranger_to from (ToRegister r) =
    Note (note.Register (who.Address from) None (Denied (Form NoSession))) ∷ dismissed from ∷ []
stranger_to from (ToPublish p) =
    Note (note.Publish (who.Address from) None (Denied (Form NoSession))) ∷ dismissed from ∷ []
stranger_to from (ToPublishOnce p) =
    Note (note.Publish (who.Address from) None (Denied (Form NoSession))) ∷ dismissed from ∷ []
stranger_to from (ToRelease id) =
    Note (note.Frame (who.Address from) (Denied (Form NoSession))) ∷ dismissed from ∷ []
stranger_to from (ToSubscribe r) =
    Note (note.Subscribe (who.Address from) None (Denied (Form NoSession))) ∷ dismissed from ∷ []
stranger_to from (ToUnsubscribe r) =
    Note (note.Unsubscribe (who.Address from) None (Denied (Form NoSession))) ∷ dismissed from ∷ []
stranger_to from (ToConfirm r) =
    Note (note.Frame (who.Address from) (Denied (Form NoSession))) ∷ dismissed from ∷ []
stranger_to from (ToAcknowledge r) =
    Note (note.Frame (who.Address from) (Denied (Form NoSession))) ∷ dismissed from ∷ []
stranger_to from (ToState statement) =
    Note (note.Will (who.Address from) None (Denied (Form NoSession))) ∷ dismissed from ∷ []
stranger_to from (Untaken message) = Note (denied_note message (who.Address from) (Form NotSupported)) ∷ []

-- the clients after the row, by its notes of each
abbrev pub moved_by : State → Cause → Notes → List Client
moved_by s c notes = map (λ x. client_by (around s c) (notes.of x) x) s.clients

-- the filters that stand for nobody any more after the row, in order, and those of them of which the broker
-- is not told for want of place
abbrev pub releases : State → Cause → Notes → List Release
releases s c notes = released s.clients (moved_by s c notes)

abbrev pub drops : State → Cause → Notes → List Release
drops s c notes = dropped_of (policy_by c s.policy).limits s.link (releases s c notes)

-- what the row lets out for each client, in order
abbrev pub client_rows : State → Cause → List Release → Notes → List Out
client_rows s c dropped notes = flat_map (λ x. part (around s c) dropped (notes.of x) x) s.clients

-- a message of one client, or of nobody
abbrev pub frame_row : State → Cause → List Out → Notes → List Out
frame_row s c stranger notes =
    if any_from c s.clients then client_rows s c (drops s c notes) notes else stranger

-- a client that connects from another address is dismissed where it was
abbrev pub moved : Address → List ℕ → Client → List Out
moved from id x =
    if bytes_eq id x.id then (if has_session x.phase && not (same_address x.address from)
    then dismissed x.address ∷ [] else []) else []

-- what another client lets out as one connects
abbrev pub beside : Around → Notes → List ℕ → Client → List Out
beside a notes id x = if bytes_eq id x.id then [] else part a [] (notes.of x) x

-- what becomes of what waits for the one that connects, behind the note that it is accepted
abbrev pub entering_part : Around → Notes → Address → Connect → Client → List Out
entering_part a notes from connect x =
    if bytes_eq connect.client_id x.id then spell a [] (let_in a.clock from connect x) (drop 1 (notes.of x))
    else []

-- what a clean session drops is noted before its answer; else what waits is handed over behind it
abbrev pub around_welcome : Bool → List Out → Out → List Out
around_welcome true own ack = own ++ ack ∷ []
around_welcome false own ack = ack ∷ own

-- a CONNECT that is accepted: the client is dismissed where it was before, another client at the address
-- leaves, what a clean session ends is dropped where it finds no place, and CONNACK answers, or WILLTOPICREQ
abbrev pub entry_row : State → Address → Connect → Notes → List Out
entry_row s from connect notes =
    let c = ByConnect from connect in
    flat_map (moved from connect.client_id) s.clients
    ++ (flat_map (beside (around s c) notes connect.client_id) s.clients
    ++ (drop_notes (drops s c notes)
    ++ around_welcome connect.flags.clean (flat_map (entering_part (around s c) notes from connect) s.clients)
    (welcome connect from)))

abbrev pub entry_outs : State → Address → Connect → Notes → Outcome → List Out
entry_outs s from connect notes Allowed =
    Note (note.Connect connect.client_id Allowed) ∷ entry_row s from connect notes
entry_outs s from connect notes (Denied rule) =
    Note (note.Connect connect.client_id (Denied rule)) ∷ connack from (code_of rule) ∷ []

-- the whole row. At a tick the PINGREQ to the broker that finds no place is noted behind all clients. As the
-- policy is replaced, each client's subscriptions end that it does not cover any more; where the broker
-- refuses one, it needs no word of the end
abbrev pub whole_by : State → Cause → Notes → List Out
whole_by s (ByConnect from connect) notes = entry_outs s from connect notes (entry s connect)
whole_by s (ByMessage from request) notes =
    frame_row s (ByMessage from request) (stranger_to from request) notes
whole_by s (BySource from p) notes = Note (source_ask s from.ip p) ∷ []
whole_by s (ByBroken from rule) notes =
    frame_row s (ByBroken from rule) (Note (note.Frame (who.Address from) (Denied rule)) ∷ []) notes
whole_by s (ByPacket p) notes =
    client_rows s (ByPacket p) [] notes ++ answer_outs s.policy.limits s.up s.link (answer_of p)
whole_by s ByUp notes = beginning s.link s.clock notes.exits
whole_by s ByDown notes = []
whole_by s ByTake notes = if s.up then leaving s.link (outgoing s.link) notes.exits else []
whole_by s (ByReplace policy) notes =
    client_rows s (ByReplace policy) (drops s (ByReplace policy) notes) notes
whole_by s (ByTick clock) notes =
    client_rows s (ByTick clock) [] notes
    ++ ping_dropped s.policy.limits s.up (with_wills s.policy.limits s.link (later s.clock clock) s.clients)
    (later s.clock clock)
