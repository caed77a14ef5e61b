-- PUBCOMP goes out in the row of a PUBREL alone (MQTT-SN 1.2, 5.4.15 and 6.6).
use Rattle.std.proofs.Common.{◌≡◌, Bool, true, false, List, [], ◌∷◌, ◌++◌, refl, ap, sym, subst, ◌∙◌}
use Rattle.std.proofs.Common.{if◌then◌else◌, Ok, Err}
use Rattle.std.specs.Prelude.{drop, Option, Some, None}
use Rattle.std.specs.List.{flat_map, list_any}
use Rattle.std.specs.Str.{bytes_eq}
use Rattle.std.specs.declared.result.Result.{Result}
use Rattle.sng_frames.specs.Grammar.{type_of}
use Rattle.sng_frames.specs.MessageTypes.{octet_of}
use Rattle.sng_frames.specs.Reading.{frame_of}
use Rattle.sng_frames.specs.Writing.{written, part_of}
use Rattle.sng_frames.specs.declared.fault.FrameFault.{FrameFault}
use Rattle.sng_frames.specs.declared.qos.FrameQos.{FrameQos}
use Rattle.sng_frames.specs.declared.qos.FrameQos.TheVariants as qos
use Rattle.sng_frames.specs.declared.messages.connect.Connect.{Connect}
use Rattle.sng_frames.specs.declared.messages.publish.Publish.{Publish}
use Rattle.sng_frames.specs.declared.frame.SnFrame.{SnFrame}
use Rattle.sng_frames.specs.declared.frame.SnFrame.TheVariants as frame
use Rattle.sng_states.specs.States.{is_due_messages}
use Rattle.sng_book.specs.declared.address.Address.{Address}
use Rattle.sng_book.specs.declared.decision.Decision.{Decision}
use Rattle.sng_book.specs.declared.decision.Decision.TheVariants as note
use Rattle.sng_book.specs.declared.decision.Who.TheVariants as who
use Rattle.sng_book.specs.declared.outcome.Outcome.{Outcome}
use Rattle.sng_book.specs.declared.outcome.Outcome.TheVariants.{Allowed, Denied}
use Rattle.sng_book.specs.declared.event.Event.{Event}
use Rattle.sng_book.specs.declared.event.Event.TheVariants.{Datagram, Broker, Up, Down, Take, Replace, Tick}
use Rattle.sng_book.specs.declared.out.Out.{Out}
use Rattle.sng_book.specs.declared.out.Out.TheVariants.{Send, Wire, Note}
use Rattle.sng_book.specs.declared.row.Row.{Row}
use Rattle.sng_history.specs.Answers.{code_of, connack, dismissed, pong, pubrec, welcome}
use Rattle.sng_history.specs.Causes.{Request, Cause, request_of, cause_of, datagram_cause, publish_cause}
use Rattle.sng_history.specs.Causes.{ToPing, ToLeave, ToSleep, ToRegister, ToPublish, ToPublishOnce, ToRelease}
use Rattle.sng_history.specs.Causes.{ToSubscribe, ToUnsubscribe, ToConfirm, ToAcknowledge, ToState, Untaken}
use Rattle.sng_history.specs.Causes.{ByConnect, ByMessage, BySource, ByBroken, ByPacket, ByUp, ByDown, ByTake}
use Rattle.sng_history.specs.Causes.{ByReplace, ByTick}
use Rattle.sng_history.specs.Clients.{Client, Around, is_author, is_drained, let_in, notes_by, start_by}
use Rattle.sng_history.specs.Lawful.{Lawful}
use Rattle.sng_history.specs.Packets.{answer_of, answer_outs, has_place}
use Rattle.sng_history.specs.Standing.{Release, drop_notes}
use Rattle.sng_history.specs.State.{State, opening, state_of, around, later}
use Rattle.sng_history.specs.Steps.{notes_for, outs_by}
use Rattle.sng_history.specs.Ticking.{is_ping_due, ping_dropped, with_wills}
use Rattle.sng_history.specs.Verdicts.{entry, is_active, is_repeat, ping_verdict}
use Rattle.sng_history.specs.Whole.{Notes, answer, any_from, around_welcome, beside, client_rows}
use Rattle.sng_history.specs.Whole.{drained_outs, drops, entering_part, entry_outs, frame_row, moved, part}
use Rattle.sng_history.specs.Whole.{pong_by, spell, stranger_to}
use Rattle.sng_laws.specs.LawsOnce.{is_pubcomp, is_release, EachCompletes}
use Rattle.sng_laws.specs.LawsReached.{is_type, type_octet}
use Rattle.sng_laws.specs.ViewsMessages.{message_in, message_at}
use Rattle.sng_history.proofs.Keeping.{exact_by}
use Rattle.sng_promise.proofs.InForce.PromiseRefuses.{type_written}
use Rattle.sng_promise.proofs.Sleepers.SeenFrames.{spell_none, stranger_none}
use Rattle.sng_promise.proofs.Sleepers.SeenFramesAnswers.{NoPong, connack_none, dismissed_none, drops_none}
use Rattle.sng_promise.proofs.Sleepers.SeenFramesAnswers.{pubrec_none}
use Rattle.sng_promise.proofs.Sleepers.SeenPongs.{moved_none, packet_none, ping_dropped_none, take_none}
use Rattle.sng_promise.proofs.Sleepers.SeenPongs.{up_none, welcome_none}

-- ---- outs among which it is not

abbrev Closed : List Out → Type 0
Closed [] = Unit {0}
Closed (Send to datagram ∷ outs) = (is_type 14 (type_octet datagram) ≡ false) × Closed outs
Closed (Note said ∷ outs) = Closed outs
Closed (Wire packet ∷ outs) = Closed outs

none_sent : (outs : List Out) → Closed outs → list_any is_pubcomp outs ≡ false
none_sent [] closed = refl
none_sent (Send to datagram ∷ outs) closed = rw closed.0 (none_sent outs closed.1)
none_sent (Note said ∷ outs) closed = none_sent outs closed
none_sent (Wire packet ∷ outs) closed = none_sent outs closed

none_closed : (outs : List Out) → NoPong outs → Closed outs
none_closed [] none = tt
none_closed (Send to datagram ∷ outs) none = (none.0.1, none_closed outs none.1)
none_closed (Note said ∷ outs) none = none_closed outs none
none_closed (Wire packet ∷ outs) none = none_closed outs none

both_closed : (xs ys : List Out) → Closed xs → Closed ys → Closed (xs ++ ys)
both_closed [] ys one two = two
both_closed (Send to datagram ∷ xs) ys one two = (one.0, both_closed xs ys one.1 two)
both_closed (Note said ∷ xs) ys one two = both_closed xs ys one two
both_closed (Wire packet ∷ xs) ys one two = both_closed xs ys one two

closed_if : (b : Bool) (xs ys : List Out) → Closed xs → Closed ys → Closed (if b then xs else ys)
closed_if true xs ys one two = one
closed_if false xs ys one two = two

closed_flat : (f : Client → List Out) (xs : List Client) → ((x : Client) → Closed (f x))
    → Closed (flat_map f xs)
closed_flat f [] each = tt
closed_flat f (x ∷ xs) each = both_closed (f x) (flat_map f xs) (each x) (closed_flat f xs each)

pong_closed : (to : Address) → Closed (pong to ∷ [])
pong_closed to =
    (type_is frame.PingResponse refl, tt)
  where
    type_is : (message : SnFrame) → is_type 14 (Some (octet_of (type_of message))) ≡ false
        → is_type 14 (type_octet (written message)) ≡ false
    type_is message other =
        ap (is_type 14) (type_written (octet_of (type_of message)) (part_of message)) ∙ other

-- ---- the part of a client

abbrev is_releasing : Option Request → Bool
is_releasing (Some (ToRelease number)) = true
is_releasing other = false

ponged_closed : (o : Outcome) (to : Address) → Closed (pong_by o to)
ponged_closed Allowed to = pong_closed to
ponged_closed (Denied rule) to = tt

answer_closed : (request : Option Request) (x : Client) → is_releasing request ≡ false
    → Closed (answer request x)
answer_closed None x other = tt
answer_closed (Some (ToPing client)) x other =
    closed_if (is_active x.phase) (pong_by (ping_verdict client x) x.address) []
    (ponged_closed (ping_verdict client x) x.address) tt
answer_closed (Some (ToSleep duration)) x other =
    closed_if (is_due_messages x.phase) (dismissed x.address ∷ []) []
    (none_closed (dismissed x.address ∷ []) (dismissed_none x.address)) tt
answer_closed (Some (ToPublishOnce p)) x other =
    closed_if (is_repeat p x) (pubrec x.address p.msg_id ∷ []) []
    (none_closed (pubrec x.address p.msg_id ∷ []) (pubrec_none x.address p.msg_id)) tt
answer_closed (Some (ToRelease number)) x other = absurd cc
answer_closed (Some ToLeave) x other = tt
answer_closed (Some (ToRegister r)) x other = tt
answer_closed (Some (ToPublish p)) x other = tt
answer_closed (Some (ToSubscribe r)) x other = tt
answer_closed (Some (ToUnsubscribe r)) x other = tt
answer_closed (Some (ToConfirm r)) x other = tt
answer_closed (Some (ToAcknowledge r)) x other = tt
answer_closed (Some (ToState statement)) x other = tt
answer_closed (Some (Untaken message)) x other = tt

spell_closed : (a : Around) (dropped : List Release) (x : Client) (notes : List Decision)
    → Closed (spell a dropped x notes)
spell_closed a dropped x notes = none_closed (spell a dropped x notes) (spell_none a dropped x notes)

part_closed : (a : Around) (dropped : List Release) (notes : List Decision) (x : Client)
    → is_releasing (request_of a.cause) ≡ false
    → Closed (part a dropped notes x)
part_closed a dropped notes x other =
    let y = start_by a x in
    let z = notes_by a notes y in
    let own : List Out = if is_author a.cause x then answer (request_of a.cause) x else [] in
    both_closed own (spell a dropped y notes ++ drained_outs z)
    (closed_if (is_author a.cause x) (answer (request_of a.cause) x) []
    (answer_closed (request_of a.cause) x other) tt)
    (both_closed (spell a dropped y notes) (drained_outs z) (spell_closed a dropped y notes)
    (closed_if (is_drained z) (pong z.address ∷ []) [] (pong_closed z.address) tt))

rows_closed : (s : State) (c : Cause) (dropped : List Release) (n : Notes)
    → is_releasing (request_of c) ≡ false
    → Closed (client_rows s c dropped n)
rows_closed s c dropped n other =
    closed_flat (λ x. part (around s c) dropped (n.of x) x) s.clients
    (λ x. part_closed (around s c) dropped (n.of x) x other)

frame_closed : (s : State) (c : Cause) (stranger : List Out) (n : Notes)
    → is_releasing (request_of c) ≡ false → NoPong stranger
    → Closed (frame_row s c stranger n)
frame_closed s c stranger n other none =
    closed_if (any_from c s.clients) (client_rows s c (drops s c n) n) stranger
    (rows_closed s c (drops s c n) n other) (none_closed stranger none)

-- ---- a CONNECT

welcomed_closed : (clean : Bool) (own : List Out) (connect : Connect) (from : Address) → Closed own
    → Closed (around_welcome clean own (welcome connect from))
welcomed_closed true own connect from closed =
    both_closed own (welcome connect from ∷ []) closed
    (none_closed (welcome connect from ∷ []) (welcome_none connect from))
welcomed_closed false own connect from closed =
    both_closed (welcome connect from ∷ []) own
    (none_closed (welcome connect from ∷ []) (welcome_none connect from)) closed

entry_closed : (s : State) (from : Address) (connect : Connect) (n : Notes) (o : Outcome)
    → Closed (entry_outs s from connect n o)
entry_closed s from connect n (Denied rule) =
    none_closed (connack from (code_of rule) ∷ []) (connack_none from (code_of rule))
entry_closed s from connect n Allowed =
    let c = ByConnect from connect in
    let a = around s c in
    let id = connect.client_id in
    let others = flat_map (beside a n id) s.clients in
    let noted = drop_notes (drops s c n) in
    let entering = flat_map (entering_part a n from connect) s.clients in
    let last = around_welcome connect.flags.clean entering (welcome connect from) in
    both_closed (flat_map (moved from id) s.clients) (others ++ (noted ++ last))
    (closed_flat (moved from id) s.clients (λ x. none_closed (moved from id x) (moved_none from id x)))
    (both_closed others (noted ++ last)
    (closed_flat (beside a n id) s.clients
    (λ x. closed_if (bytes_eq id x.id) [] (part a [] (n.of x) x) tt (part_closed a [] (n.of x) x refl)))
    (both_closed noted last (none_closed noted (drops_none (drops s c n)))
    (welcomed_closed connect.flags.clean entering connect from
    (closed_flat (entering_part a n from connect) s.clients
    (λ x. let y = let_in a.clock from connect x in
    closed_if (bytes_eq id x.id) (spell a [] y (drop 1 (n.of x))) []
    (spell_closed a [] y (drop 1 (n.of x))) tt)))))

-- ---- the row

row_closed : (s : State) (c : Cause) → is_releasing (request_of c) ≡ false → Closed (outs_by s c)
row_closed s (ByConnect from connect) other =
    entry_closed s from connect (notes_for s (ByConnect from connect)) (entry s connect)
row_closed s (ByMessage from request) other =
    let c = ByMessage from request in
    frame_closed s c (stranger_to from request) (notes_for s c) other (stranger_none from request)
row_closed s (BySource from p) other = tt
row_closed s (ByBroken from rule) other =
    let c = ByBroken from rule in
    frame_closed s c (Note (note.Frame (who.Address from) (Denied rule)) ∷ []) (notes_for s c) other tt
row_closed s (ByPacket p) other =
    let c = ByPacket p in
    both_closed (client_rows s c [] (notes_for s c)) (answer_outs s.policy.limits s.up s.link (answer_of p))
    (rows_closed s c [] (notes_for s c) other)
    (none_closed (answer_outs s.policy.limits s.up s.link (answer_of p)) (packet_none s (answer_of p)))
row_closed s ByUp other = none_closed (outs_by s ByUp) (up_none s)
row_closed s ByDown other = tt
row_closed s ByTake other = none_closed (outs_by s ByTake) (take_none s s.up refl)
row_closed s (ByReplace policy) other =
    let c = ByReplace policy in rows_closed s c (drops s c (notes_for s c)) (notes_for s c) other
row_closed s (ByTick clock) other =
    let c = ByTick clock in
    let now = later s.clock clock in
    let link = with_wills s.policy.limits s.link now s.clients in
    both_closed (client_rows s c [] (notes_for s c)) (ping_dropped s.policy.limits s.up link now)
    (rows_closed s c [] (notes_for s c) other)
    (none_closed (ping_dropped s.policy.limits s.up link now)
    (ping_dropped_none (is_ping_due s.up link now) (has_place s.policy.limits link)))

-- ---- the event and its cause

same_publish : (from : Address) (p : Publish) (q : FrameQos)
    → is_releasing (request_of (publish_cause from p q)) ≡ false
same_publish from p qos.WithoutSession = refl
same_publish from p qos.AtMostOnce = refl
same_publish from p qos.AtLeastOnce = refl
same_publish from p qos.ExactlyOnce = refl

same_datagram : (from : Address) (read : Result SnFrame FrameFault)
    → is_releasing (request_of (datagram_cause from read)) ≡ is_release (message_in read)
same_datagram from (Ok (frame.Publish p)) = same_publish from p p.flags.qos
same_datagram from (Ok (frame.Disconnect None)) = refl
same_datagram from (Ok (frame.Disconnect (Some duration))) = refl
same_datagram from (Ok message) = refl
same_datagram from (Err broke) = refl

same_release : (e : Event) → is_releasing (request_of (cause_of e)) ≡ is_release (message_at e)
same_release (Datagram from datagram) = same_datagram from (frame_of datagram)
same_release (Broker packet) = refl
same_release Up = refl
same_release Down = refl
same_release Take = refl
same_release (Replace policy) = refl
same_release (Tick clock) = refl

-- ---- the law

sent_by : (b : Bool) (outs : List Out) → (b ≡ false → Closed outs) → list_any is_pubcomp outs ≡ true → b ≡ true
sent_by true outs closed sent = refl
sent_by false outs closed sent =
    absurd (let e : false ≡ true = sym (none_sent outs (closed refl)) ∙ sent in cc)

pub completes_law : (h : List Row) → Lawful opening h → EachCompletes h
completes_law [] l = tt
completes_law (row ∷ h) l =
    let s = state_of opening h in
    let c = cause_of row.event in (
      completes_law h l.0,
      sent_by (is_release (message_at row.event)) row.outs
          (λ other. subst Closed (sym (exact_by s c row.outs l.1))
          (row_closed s c (same_release row.event ∙ other))),
    )
