-- Behind each note that announces a name its REGISTER goes out, and its id stands for the name: each lawful
-- row.
use Rattle.std.proofs.Common.{◌≡◌, ℕ, Bool, true, false, List, [], ◌∷◌, ◌++◌, refl, ap, sym, ◌∙◌, subst}
use Rattle.std.proofs.Common.{if◌then◌else◌, Ok, Err}
use Rattle.std.specs.Prelude.{◌&&◌, not, drop, Option, Some, None}
use Rattle.std.specs.List.{flat_map}
use Rattle.std.specs.declared.result.Result.{Result}
use Rattle.std.specs.Str.{bytes_eq}
use Rattle.sng_grants.specs.Limits.{Limits}
use Rattle.sng_text.specs.Texts.{is_name}
use Rattle.sng_policy.specs.Grants.{lists_source}
use Rattle.sng_states.specs.States.{has_session}
use Rattle.sng_queue.specs.Messages.{Message}
use Rattle.sng_frames.specs.declared.messages.connect.Connect.{Connect}
use Rattle.sng_frames.specs.declared.messages.publish.Publish.{Publish}
use Rattle.sng_frames.specs.declared.frame.SnFrame.{SnFrame}
use Rattle.sng_frames.specs.declared.frame.SnFrame.TheVariants as frame
use Rattle.sng_book.specs.declared.address.Address.{Address}
use Rattle.sng_book.specs.declared.decision.Decision.{Decision}
use Rattle.sng_book.specs.declared.decision.Decision.TheVariants as note
use Rattle.sng_book.specs.declared.decision.Who.{Who}
use Rattle.sng_book.specs.declared.decision.Who.TheVariants as who
use Rattle.sng_book.specs.declared.event.Event.{Event}
use Rattle.sng_book.specs.declared.event.Event.TheVariants as event
use Rattle.sng_book.specs.declared.outcome.Denial.{Denial}
use Rattle.sng_book.specs.declared.outcome.Denial.TheVariants.{Form, Grant}
use Rattle.sng_book.specs.declared.outcome.FormDenial.TheVariants.{NotSupported, BadName}
use Rattle.sng_book.specs.declared.outcome.GrantDenial.TheVariants.{UnknownSource}
use Rattle.sng_book.specs.declared.outcome.Outcome.{Outcome}
use Rattle.sng_book.specs.declared.outcome.Outcome.TheVariants.{Allowed, Denied}
use Rattle.sng_book.specs.declared.out.Out.{Out}
use Rattle.sng_book.specs.declared.out.Out.TheVariants.{Send, Wire, Note}
use Rattle.sng_book.specs.declared.row.Row.{Row}
use Rattle.sng_history.specs.Causes.{Request, ToPing, ToLeave, ToSleep, ToRegister, ToPublish, ToSubscribe}
use Rattle.sng_history.specs.Causes.{ToUnsubscribe, ToConfirm, ToAcknowledge, ToState, Untaken}
use Rattle.sng_history.specs.Causes.{Cause, cause_of, ByConnect, ByMessage, BySource, ByBroken, ByPacket}
use Rattle.sng_history.specs.Causes.{ByUp, ByDown, ByTake, ByReplace, ByTick}
use Rattle.sng_history.specs.Causes.{ToPublishOnce, ToRelease}
use Rattle.sng_history.specs.Notes.{notes_of}
use Rattle.sng_history.specs.Clients.{Client, subscribe_of, same_address, is_here, is_author, start_by}
use Rattle.sng_history.specs.Clients.{let_in}
use Rattle.sng_history.specs.Standing.{Release, drop_notes}
use Rattle.sng_history.specs.State.{State, opening, state_of, around, later}
use Rattle.sng_history.specs.Links.{Link}
use Rattle.sng_history.specs.Packets.{Answer, Delivers, Acknowledges, Grants, Refuses, Confirms, Strange}
use Rattle.sng_history.specs.Packets.{answer_of, answer_outs, owed, has_place, dropped}
use Rattle.sng_history.specs.Ticking.{with_wills, is_ping_due, ping_dropped}
use Rattle.sng_history.specs.Verdicts.{entry, named_ask, name_in}
use Rattle.sng_history.specs.Answers.{denied_note, dismissed, welcome}
use Rattle.sng_history.specs.Whole.{spell, part, any_from, stranger_to, drops, moved, beside, entering_part}
use Rattle.sng_history.specs.Whole.{around_welcome, entry_outs, frame_row}
use Rattle.sng_history.specs.Lawful.{Lawful, entering_notes, fixed_for, fixed_to}
use Rattle.sng_history.specs.Steps.{notes_for, newcomers_for, outs_by, outs_of}
use Rattle.sng_history.specs.Good.{Each}
use Rattle.sng_laws.specs.LawsLink.{is_exit, OnlyExits}
use Rattle.sng_laws.specs.ViewsMessages.{message_at, subscribe_in}
use Rattle.sng_laws.specs.ViewsClients.{names_told}
use Rattle.sng_laws.specs.ViewsHanding.{due_of}
use Rattle.sng_laws.specs.LawsState.{ClientShown}
use Rattle.sng_laws.specs.LawsNames.{TellsSo, AllTell, EachTells}
use Rattle.sng_history.proofs.Own.{each_map, each_with}
use Rattle.sng_history.proofs.Told.{tells}
use Rattle.sng_history.proofs.Says.{says}
use Rattle.sng_history.proofs.Spelled.{AllAbout}
use Rattle.sng_history.proofs.Sent.{drops_sent}
use Rattle.sng_history.proofs.Keeping.{each_left, exact_by}
use Rattle.sng_history.proofs.Stayed.{enters_by, beside_notes}
use Rattle.sng_promise.proofs.Clients.SeenNotes.{admitted_notes, names_by_notes, names_notes}
use Rattle.sng_promise.proofs.Handing.SeenFollows.{View}
use Rattle.sng_promise.proofs.Handing.SeenHandingNotes.{view_by, Moved}
use Rattle.sng_promise.proofs.Handing.SeenViewNotes.{view_of}
use Rattle.sng_promise.proofs.Handing.SeenViews.{view_start, start_same, subscribe_same}
use Rattle.sng_promise.proofs.Handing.SeenMailed.{Mailed}
use Rattle.sng_promise.proofs.Handing.SeenProgress.{due_after, start_view, row_moved}
use Rattle.sng_promise.proofs.Clients.SeenState.{Stands, stands}
use Rattle.sng_promise.proofs.Clients.LawAdmits.{modest_notes, request_note, note_if, ends_note, packet_note}
use Rattle.sng_promise.proofs.Clients.LawStrangers.{tick_note}
use Rattle.sng_promise.proofs.Clients.LawStrangersConnects as connects
use Rattle.sng_promise.proofs.Link.LawExits.{row_exits}
use Rattle.sng_promise.proofs.Handing.LawAnnounces.{tell_both, tell_if, tell_flat, tell_sent, Tellings}
use Rattle.sng_promise.proofs.Handing.LawAnnounces.{spell_tells}
use Rattle.sng_promise.proofs.Handing.LawAnnounces.{part_tells}

abbrev Names : Type 0
Names = List ℕ → List (List ℕ)

-- what is known of a client in a row of this cause, where each was told such names by then
pub record Ready (told : Names) (s : State) (c : Cause) (x : Client) : Type 0 where
  pub due : List Message
  pub view : View
  pub moved : Moved (around s c) x.id due (fixed_for s c x) view (start_by (around s c) x)
  pub tells : Tellings (around s c) told x.id (fixed_for s c x) view

-- ---- the notes of a client that does not connect accept nobody

modest_fixed : (s : State) (c : Cause) (x : Client) (id : List ℕ) → enters_by c x ≡ false
    → admitted_notes id (fixed_for s c x) ≡ false
modest_fixed s (ByConnect from connect) x id other =
    ap (admitted_notes id) (beside_notes s from connect x other)
    ∙ connects.beside_notes s from connect x id (is_here x from) (entry s connect)
modest_fixed s (ByMessage from request) x id other =
    note_if id (fixed_to s request x) (is_here x from) (request_note s request x id)
modest_fixed s (BySource from p) x id other = refl
modest_fixed s (ByBroken from rule) x id other =
    note_if id (note.Frame (who.Client x.id) (Denied rule) ∷ []) (is_here x from) refl
modest_fixed s (ByPacket p) x id other = packet_note s p x id
modest_fixed s ByUp x id other = refl
modest_fixed s ByDown x id other = refl
modest_fixed s ByTake x id other = refl
modest_fixed s (ByReplace policy) x id other = ends_note policy id x.id x.filters
modest_fixed s (ByTick clock) x id other = tick_note s (later s.clock clock) x id

-- ---- the clients

client_tells : (told : Names) (s : State) (c : Cause) (dropped : List Release) (x : Client)
    → enters_by c x ≡ false → Ready told s c x
    → AllTell told (part (around s c) dropped (fixed_for s c x) x)
client_tells told s c dropped x other ready =
    part_tells (around s c) dropped told x.id ready.due (fixed_for s c x) ready.view x ready.moved
    (tells s c x) (modest_fixed s c x x.id other) ready.tells

rows_tell : (told : Names) (s : State) (c : Cause) (dropped : List Release)
    → ((x : Client) → enters_by c x ≡ false) → Each (Ready told s c) s.clients
    → AllTell told (flat_map (λ x. part (around s c) dropped (fixed_for s c x) x) s.clients)
rows_tell told s c dropped other each =
    let f : Client → List Out = λ x. part (around s c) dropped (fixed_for s c x) x in
    tell_flat told f s.clients
    (each_map (Ready told s c) (λ x. AllTell told (f x)) s.clients
    (λ x ready. client_tells told s c dropped x (other x) ready) each)

frame_tells : (told : Names) (s : State) (c : Cause) (stranger : List Out)
    → ((x : Client) → enters_by c x ≡ false) → Each (Ready told s c) s.clients → AllTell told stranger
    → AllTell told (frame_row s c stranger (notes_for s c))
frame_tells told s c stranger other each none =
    let dropped = drops s c (notes_for s c) in
    tell_if told (any_from c s.clients)
    (flat_map (λ x. part (around s c) dropped (fixed_for s c x) x) s.clients) stranger
    (rows_tell told s c dropped other each) none

denied_tells : (told : Names) (message : SnFrame) (whom : Who) (rule : Denial)
    → AllTell told (Note (denied_note message whom rule) ∷ [])
denied_tells told (frame.Register r) whom rule = (tt, tt)
denied_tells told (frame.Publish p) whom rule = (tt, tt)
denied_tells told (frame.Subscribe r) whom rule = (tt, tt)
denied_tells told (frame.Unsubscribe r) whom rule = (tt, tt)
denied_tells told (frame.WillTopic topic) whom rule = (tt, tt)
denied_tells told (frame.WillMessage message) whom rule = (tt, tt)
denied_tells told (frame.WillTopicUpdate topic) whom rule = (tt, tt)
denied_tells told (frame.WillMessageUpdate message) whom rule = (tt, tt)
denied_tells told message whom rule = (tt, tt)

stranger_tells : (told : Names) (from : Address) (request : Request) → AllTell told (stranger_to from request)
stranger_tells told from (ToPing client) = (tt, tt)
stranger_tells told from (ToSleep duration) = (tt, tt)
stranger_tells told from ToLeave = (tt, tt)
stranger_tells told from (ToRegister r) = (tt, tt)
stranger_tells told from (ToPublish p) = (tt, tt)
stranger_tells told from (ToPublishOnce p) = (tt, tt)
stranger_tells told from (ToRelease n) = (tt, tt)
stranger_tells told from (ToSubscribe r) = (tt, tt)
stranger_tells told from (ToUnsubscribe r) = (tt, tt)
stranger_tells told from (ToConfirm r) = (tt, tt)
stranger_tells told from (ToAcknowledge r) = (tt, tt)
stranger_tells told from (ToState statement) = (tt, tt)
stranger_tells told from (Untaken message) = denied_tells told message (who.Address from) (Form NotSupported)

-- ---- a CONNECT

moved_tells : (told : Names) (from : Address) (id : List ℕ) (x : Client) → AllTell told (moved from id x)
moved_tells told from id x =
    let away = has_session x.phase && not (same_address x.address from) in
    let bye : List Out = if away then dismissed x.address ∷ [] else [] in
    tell_if told (bytes_eq id x.id) bye [] (tell_if told away (dismissed x.address ∷ []) [] tt tt) tt

beside_tells : (told : Names) (s : State) (from : Address) (connect : Connect) (x : Client) (own : Bool)
    → bytes_eq connect.client_id x.id ≡ own → Ready told s (ByConnect from connect) x
    → (let c = ByConnect from connect in
    AllTell told (if own then [] else part (around s c) [] (fixed_for s c x) x))
beside_tells told s from connect x true is ready = tt
beside_tells told s from connect x false is ready = client_tells told s (ByConnect from connect) [] x is ready

-- who is let in is so from wherever it was heard before
let_in_same : (clock : ℕ) (from : Address) (connect : Connect) (x : Client) (b : Bool)
    → let_in clock from connect (if b then record x { heard = clock } else x) ≡ let_in clock from connect x
let_in_same clock from connect x true = refl
let_in_same clock from connect x false = refl

own_notes : (s : State) (from : Address) (connect : Connect) (x : Client)
    → bytes_eq connect.client_id x.id ≡ true → entry s connect ≡ Allowed
    → fixed_for s (ByConnect from connect) x
    ≡ note.Connect x.id Allowed ∷ entering_notes s from connect x Allowed
own_notes s from connect x is may = rw (is, may) refl

own_tells : (told : Names) (s : State) (from : Address) (connect : Connect) (x : Client)
    → bytes_eq connect.client_id x.id ≡ true → entry s connect ≡ Allowed
    → Ready told s (ByConnect from connect) x
    → (let c = ByConnect from connect in
    AllTell told (spell (around s c) [] (let_in s.clock from connect x)
    (entering_notes s from connect x Allowed)))
own_tells told s from connect x is may ready =
    let c = ByConnect from connect in
    let a = around s c in
    let notes = entering_notes s from connect x Allowed in
    let first = note.Connect x.id Allowed in
    let fixed = own_notes s from connect x is may in
    let y = start_by a x in
    let moved : Moved a x.id ready.due (first ∷ notes) ready.view y =
    subst (λ all. Moved a x.id ready.due all ready.view y) fixed ready.moved in
    let tellings : Tellings a told x.id (first ∷ notes) ready.view =
    subst (λ all. Tellings a told x.id all ready.view) fixed ready.tells in
    let about : AllAbout x.id (first ∷ notes) = subst (AllAbout x.id) fixed (tells s c x) in
    subst (λ z. AllTell told (spell a [] z notes)) (let_in_same s.clock from connect x (is_author c x))
    (spell_tells a [] told x.id ready.due notes (view_by a x.id ready.due first ready.view)
    (let_in s.clock from connect y) moved.1 about.1
    (modest_notes x.id notes (connects.entering_modest s from connect x x.id Allowed)) tellings)

entering_tells : (told : Names) (s : State) (from : Address) (connect : Connect) (x : Client) (own : Bool)
    → bytes_eq connect.client_id x.id ≡ own → entry s connect ≡ Allowed
    → Ready told s (ByConnect from connect) x
    → (let c = ByConnect from connect in
    AllTell told (if own then spell (around s c) [] (let_in s.clock from connect x)
    (drop 1 (fixed_for s c x)) else []))
entering_tells told s from connect x true is may ready =
    let a = around s (ByConnect from connect) in
    subst (λ notes. AllTell told (spell a [] (let_in s.clock from connect x) notes))
    (sym (ap (drop 1) (own_notes s from connect x is may))) (own_tells told s from connect x is may ready)
entering_tells told s from connect x false is may ready = tt

welcome_tells : (told : Names) (connect : Connect) (from : Address) (will : Bool) → connect.flags.will ≡ will
    → AllTell told (welcome connect from ∷ [])
welcome_tells told connect from true is = rw is tt
welcome_tells told connect from false is = rw is tt

around_tells : (told : Names) (connect : Connect) (from : Address) (clean : Bool) (own : List Out)
    → AllTell told own
    → AllTell told (around_welcome clean own (welcome connect from))
around_tells told connect from true own all =
    tell_both told own (welcome connect from ∷ []) all
    (welcome_tells told connect from connect.flags.will refl)
around_tells told connect from false own all =
    tell_both told (welcome connect from ∷ []) own (welcome_tells told connect from connect.flags.will refl)
    all

entry_tells : (told : Names) (s : State) (from : Address) (connect : Connect) (o : Outcome)
    → entry s connect ≡ o → Each (Ready told s (ByConnect from connect)) s.clients
    → AllTell told (entry_outs s from connect (notes_for s (ByConnect from connect)) o)
entry_tells told s from connect (Denied rule) is each = (tt, tt)
entry_tells told s from connect Allowed is each =
    let c = ByConnect from connect in
    let a = around s c in
    let n = notes_for s c in
    let id = connect.client_id in
    let movings = flat_map (moved from id) s.clients in
    let others = flat_map (beside a n id) s.clients in
    let noted = drop_notes (drops s c n) in
    let entering = flat_map (entering_part a n from connect) s.clients in
    let last = around_welcome connect.flags.clean entering (welcome connect from) in (
      tt,
      tell_both told movings (others ++ (noted ++ last))
          (tell_flat told (moved from id) s.clients
          (each_map (Ready told s c) (λ x. AllTell told (moved from id x)) s.clients
          (λ x ready. moved_tells told from id x) each))
          (tell_both told others (noted ++ last)
          (tell_flat told (beside a n id) s.clients
          (each_map (Ready told s c) (λ x. AllTell told (beside a n id x)) s.clients
          (λ x ready. beside_tells told s from connect x (bytes_eq id x.id) refl ready) each))
          (tell_both told noted last (tell_sent told noted (drops_sent (drops s c n)))
          (around_tells told connect from connect.flags.clean entering
          (tell_flat told (entering_part a n from connect) s.clients
          (each_map (Ready told s c) (λ x. AllTell told (entering_part a n from connect x)) s.clients
          (λ x ready. entering_tells told s from connect x (bytes_eq id x.id) refl is ready) each))))),
    )

-- ---- the broker

dropped_tells : (told : Names) (place : Bool) (packet_id : Option ℕ) → AllTell told (dropped place packet_id)
dropped_tells told place None = tt
dropped_tells told true (Some packet_id) = tt
dropped_tells told false (Some packet_id) = (tt, tt)

delivered_tells : (told : Names) (named place : Bool) (packet_id : Option ℕ)
    → AllTell told ((if named then [] else Note (note.Frame who.Broker (Denied (Form BadName))) ∷ [])
    ++ dropped place packet_id)
delivered_tells told true place packet_id = dropped_tells told place packet_id
delivered_tells told false place packet_id = (tt, dropped_tells told place packet_id)

answer_tells : (limits : Limits) (told : Names) (up : Bool) (link : Link) (answer : Answer)
    → AllTell told (answer_outs limits up link answer)
answer_tells limits told up link (Delivers p) =
    delivered_tells told (is_name p.name) (has_place limits link) (owed up p)
answer_tells limits told up link (Acknowledges packet_id) = tt
answer_tells limits told up link (Grants packet_id) = tt
answer_tells limits told up link (Refuses packet_id) = tt
answer_tells limits told up link Confirms = tt
answer_tells limits told up link Strange = (tt, tt)

ping_tells : (told : Names) (due place : Bool)
    → (let noted : List Out = if due then (if place then [] else Note note.Outbox ∷ []) else [] in
    AllTell told noted)
ping_tells told true true = tt
ping_tells told true false = (tt, tt)
ping_tells told false place = tt

-- what leaves for the broker announces nothing
exit_tells : (told : Names) (said : Decision) (outs : List Out) → is_exit said ≡ true
    → TellsSo told said outs
exit_tells told (note.Announce client name) outs only = absurd cc
exit_tells told (note.Forward whom name outcome) outs only = tt
exit_tells told (note.Again whom name outcome) outs only = tt
exit_tells told (note.Connect client outcome) outs only = tt
exit_tells told (note.Left client) outs only = tt
exit_tells told (note.Register whom name outcome) outs only = tt
exit_tells told (note.Publish whom name outcome) outs only = tt
exit_tells told (note.Subscribe whom filter outcome) outs only = tt
exit_tells told (note.Unsubscribe whom filter outcome) outs only = tt
exit_tells told (note.Will whom name outcome) outs only = tt
exit_tells told (note.Hand client name outcome) outs only = tt
exit_tells told (note.Retry client name outcome) outs only = tt
exit_tells told (note.End client filter outcome) outs only = tt
exit_tells told (note.Lost client) outs only = tt
exit_tells told note.Outbox outs only = tt
exit_tells told (note.Frame whom outcome) outs only = tt

exits_tell : (told : Names) (outs : List Out) → OnlyExits outs → AllTell told outs
exits_tell told [] only = tt
exits_tell told (Wire packet ∷ outs) only = exits_tell told outs only
exits_tell told (Note said ∷ outs) only = (exit_tells told said outs only.0, exits_tell told outs only.1)
exits_tell told (Send to datagram ∷ outs) only = absurd only

source_tells : (told : Names) (s : State) (from : Address) (p : Publish)
    → AllTell told (outs_by s (BySource from p))
source_tells told s from p = by_listed (lists_source s.policy from.ip)
  where
    named_tells : (read : Result (List ℕ) Denial) → AllTell told (Note (named_ask s from.ip read) ∷ [])
    named_tells (Ok name) = (tt, tt)
    named_tells (Err rule) = (tt, tt)

    by_listed : (b : Bool) → AllTell told
        (Note (if b then named_ask s from.ip (name_in s.policy None p.flags.id_type p.topic_id)
        else note.Publish (who.Source from.ip) None (Denied (Grant UnknownSource))) ∷ [])
    by_listed true = named_tells (name_in s.policy None p.flags.id_type p.topic_id)
    by_listed false = (tt, tt)

-- ---- the row

row_tells : (told : Names) (s : State) (c : Cause) → Each (Ready told s c) s.clients
    → AllTell told (outs_by s c)
row_tells told s (ByConnect from connect) each = entry_tells told s from connect (entry s connect) refl each
row_tells told s (ByMessage from request) each =
    frame_tells told s (ByMessage from request) (stranger_to from request) (λ x. refl) each
    (stranger_tells told from request)
row_tells told s (BySource from p) each = source_tells told s from p
row_tells told s (ByBroken from rule) each =
    frame_tells told s (ByBroken from rule) (Note (note.Frame (who.Address from) (Denied rule)) ∷ [])
    (λ x. refl) each (tt, tt)
row_tells told s (ByPacket p) each =
    let c = ByPacket p in
    tell_both told (flat_map (λ x. part (around s c) [] (fixed_for s c x) x) s.clients)
    (answer_outs s.policy.limits s.up s.link (answer_of p)) (rows_tell told s c [] (λ x. refl) each)
    (answer_tells s.policy.limits told s.up s.link (answer_of p))
row_tells told s ByUp each = exits_tell told (outs_by s ByUp) (row_exits s event.Up refl)
row_tells told s ByDown each = tt
row_tells told s ByTake each = exits_tell told (outs_by s ByTake) (row_exits s event.Take refl)
row_tells told s (ByReplace policy) each =
    let c = ByReplace policy in rows_tell told s c (drops s c (notes_for s c)) (λ x. refl) each
row_tells told s (ByTick clock) each =
    let c = ByTick clock in
    let now = later s.clock clock in
    let link = with_wills s.policy.limits s.link now s.clients in
    tell_both told (flat_map (λ x. part (around s c) [] (fixed_for s c x) x) s.clients)
    (ping_dropped s.policy.limits s.up link now) (rows_tell told s c [] (λ x. refl) each)
    (ping_tells told (is_ping_due s.up link now) (has_place s.policy.limits link))

-- ---- the law

-- a client in a row, by what the rows show of it
ready : (by : ℕ) (h : List Row) (s : State) (e : Event) (x : Client) → ClientShown h x → Mailed h x
    → notes_of x.id (outs_of s e) ≡ fixed_for s (cause_of e) x
    → Ready (λ client. names_told client (record { by = by; event = e; outs = outs_of s e } ∷ h)) s
    (cause_of e) x
ready by h s e x shown mailed own =
    let c = cause_of e in
    let fixed = fixed_for s c x in
    let names = names_told x.id h in
    let view = start_view c x (view_of x.id h) in
    let start : view_start x.id e h ≡ view =
    start_same h x e (record {
      phase = shown.phase;
      address = shown.address;
      number = mailed.given;
      exchange = mailed.exchange;
    }) in
    record {
      due = due_after c x (due_of x.id h);
      view = view;
      moved = row_moved s c x (due_of x.id h) (view_of x.id h) mailed;
      tells =
          names_by_notes (subscribe_in (message_at e)) x.id (outs_of s e) names
          ∙ (ap (λ notes. names_notes (subscribe_in (message_at e)) x.id notes names) own
          ∙ (ap (λ r. names_notes r x.id fixed names) (sym (subscribe_same e))
          ∙ ap (λ w. names_notes (subscribe_of c) x.id fixed w.told) start));
    }

tell_row : (by : ℕ) (h : List Row) (s : State) (e : Event) → Stands h s
    → AllTell (λ client. names_told client (record { by = by; event = e; outs = outs_of s e } ∷ h))
    (outs_of s e)
tell_row by h s e st =
    let c = cause_of e in
    let outs = outs_of s e in
    let Own : Client → Type 0 = λ x. notes_of x.id outs ≡ fixed_for s c x in
    let Both : Client → Type 0 = λ x. ClientShown h x × Mailed h x in
    let told : Names = λ client. names_told client (record { by = by; event = e; outs = outs } ∷ h) in
    row_tells told s c
    (each_with Both Own (Ready told s c) s.clients (λ x both own. ready by h s e x both.0 both.1 own)
    (each_with (ClientShown h) (Mailed h) Both s.clients (λ x one two. (one, two))
    st.shown.clients st.shown.mailed)
    (each_left Own s.clients (newcomers_for s c) (says s c st.good.apart).own))

pub announced_law : (h : List Row) → Lawful opening h → EachTells h
announced_law [] l = tt
announced_law (row ∷ h) l =
    let s = state_of opening h in (
      announced_law h l.0,
      subst (λ outs. AllTell (λ client. names_told client
          (record { by = row.by; event = row.event; outs = outs } ∷ h)) outs)
          (sym (exact_by s (cause_of row.event) row.outs l.1))
          (tell_row row.by h s row.event (stands h l.0)),
    )
