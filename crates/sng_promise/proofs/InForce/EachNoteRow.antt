-- What holds of each note that a cause fixes of a client, and of each that is nobody's, holds of each note of
-- its row.
use Rattle.std.proofs.Common.{ℕ, Bool, true, false, List, [], ◌∷◌, ◌++◌, refl, if◌then◌else◌}
use Rattle.std.specs.Prelude.{◌&&◌, not, drop}
use Rattle.std.specs.List.{flat_map}
use Rattle.std.specs.Str.{bytes_eq}
use Rattle.sng_states.specs.States.{has_session}
use Rattle.sng_frames.specs.Writing.{written}
use Rattle.sng_frames.specs.declared.messages.connect.Connect.{Connect}
use Rattle.sng_frames.specs.declared.frame.SnFrame.TheVariants as frame
use Rattle.sng_frames.specs.declared.return_code.TheConstants.ReturnCode.{ACCEPTED}
use Rattle.sng_book.specs.declared.address.Address.{Address}
use Rattle.sng_book.specs.declared.decision.Decision.{Decision}
use Rattle.sng_book.specs.declared.decision.Decision.TheVariants as note
use Rattle.sng_book.specs.declared.decision.Who.TheVariants as who
use Rattle.sng_book.specs.declared.outcome.Outcome.{Outcome}
use Rattle.sng_book.specs.declared.outcome.Outcome.TheVariants.{Allowed, Denied}
use Rattle.sng_book.specs.declared.out.Out.{Out}
use Rattle.sng_book.specs.declared.out.Out.TheVariants.{Send, Note}
use Rattle.sng_history.specs.Causes.{Cause}
use Rattle.sng_history.specs.Causes.{ByConnect, ByMessage, BySource, ByBroken, ByPacket, ByUp, ByDown, ByTake}
use Rattle.sng_history.specs.Causes.{ByReplace, ByTick}
use Rattle.sng_history.specs.Clients.{Client, same_address, let_in}
use Rattle.sng_history.specs.Standing.{Release, drop_notes}
use Rattle.sng_history.specs.State.{State, around, later}
use Rattle.sng_history.specs.Packets.{answer_of, answer_outs, has_place}
use Rattle.sng_history.specs.Ticking.{with_wills, is_ping_due, ping_dropped}
use Rattle.sng_history.specs.Verdicts.{entry}
use Rattle.sng_history.specs.Answers.{dismissed, connack, welcome}
use Rattle.sng_history.specs.Lawful.{fixed_for}
use Rattle.sng_history.specs.Whole.{spell, part, any_from, stranger_to, drops, moved}
use Rattle.sng_history.specs.Whole.{beside, entering_part}
use Rattle.sng_history.specs.Whole.{around_welcome, entry_outs, frame_row}
use Rattle.sng_history.specs.Steps.{notes_for, outs_by}
use Rattle.sng_history.specs.Good.{Each}
use Rattle.sng_history.proofs.Own.{each_all, each_map}
use Rattle.sng_history.proofs.Hands.{Every}
use Rattle.sng_history.proofs.Sent.{drops_sent}
use Rattle.sng_history.proofs.SaysUpstream.{take_none, up_none, mute_packet, foreign_source}
use Rattle.sng_history.proofs.Says.{mute_stranger}
use Rattle.sng_promise.proofs.InForce.EachNote.{EachNote, of_nobody, Fixes, Beside, note_both, note_flat}
use Rattle.sng_promise.proofs.InForce.EachNote.{note_if}
use Rattle.sng_promise.proofs.InForce.EachNote.{note_sent, note_foreign, note_spell, note_part}

-- ---- the row

abbrev FixedEach : (Decision → Type 0) → State → Cause → Type 0
FixedEach P s c = Each (λ x. Every P (fixed_for s c x)) s.clients

note_rows : (P : Decision → Type 0) (s : State) (c : Cause) (dropped : List Release) → P note.Outbox
    → FixedEach P s c
    → EachNote P (flat_map (λ x. part (around s c) dropped (fixed_for s c x) x) s.clients)
note_rows P s c dropped outbox own =
    let f : Client → List Out = λ x. part (around s c) dropped (fixed_for s c x) x in
    note_flat P f s.clients
    (each_map (λ x. Every P (fixed_for s c x)) (λ x. EachNote P (f x)) s.clients
    (λ x every. note_part P (around s c) dropped (fixed_for s c x) x outbox every) own)

note_frame : (P : Decision → Type 0) (s : State) (c : Cause) (stranger : List Out) → P note.Outbox
    → FixedEach P s c → EachNote P stranger
    → EachNote P (frame_row s c stranger (notes_for s c))
note_frame P s c stranger outbox own none =
    let dropped = drops s c (notes_for s c) in
    note_if P (any_from c s.clients)
    (flat_map (λ x. part (around s c) dropped (fixed_for s c x) x) s.clients) stranger
    (note_rows P s c dropped outbox own) none

note_moved : (P : Decision → Type 0) (from : Address) (id : List ℕ) (x : Client)
    → EachNote P (moved from id x)
note_moved P from id x =
    let elsewhere = has_session x.phase && not (same_address x.address from) in
    let bye : List Out = if elsewhere then dismissed x.address ∷ [] else [] in
    note_if P (bytes_eq id x.id) bye [] (note_if P elsewhere (dismissed x.address ∷ []) [] tt tt) tt

every_drop : (P : Decision → Type 0) (notes : List Decision) → Every P notes → Every P (drop 1 notes)
every_drop P [] every = tt
every_drop P (said ∷ notes) every = every.1

note_welcome : (P : Decision → Type 0) (clean : Bool) (own : List Out) (connect : Connect) (from : Address)
    → EachNote P own
    → EachNote P (around_welcome clean own (welcome connect from))
note_welcome P clean own connect from all = by_will clean connect.flags.will all
  where
    by_will : (clean will : Bool) → EachNote P own
        → EachNote P (around_welcome clean own
        (if will then Send from (written frame.WillTopicRequest) else connack from ACCEPTED))
    by_will true true all = note_both P own (Send from (written frame.WillTopicRequest) ∷ []) all tt
    by_will true false all = note_both P own (connack from ACCEPTED ∷ []) all tt
    by_will false true all = all
    by_will false false all = all

-- what the clients let out beside the one that connects, and what that one does
note_beside : (P : Decision → Type 0) (s : State) (from : Address) (connect : Connect) → P note.Outbox
    → FixedEach P s (ByConnect from connect)
    → (let c = ByConnect from connect in
    EachNote P (flat_map (beside (around s c) (notes_for s c) connect.client_id) s.clients))
note_beside P s from connect outbox own =
    let c = ByConnect from connect in
    let a = around s c in
    let f = beside a (notes_for s c) connect.client_id in
    note_flat P f s.clients
    (each_map (λ x. Every P (fixed_for s c x)) (λ x. EachNote P (f x)) s.clients
    (λ x every. note_if P (bytes_eq connect.client_id x.id) [] (part a [] (fixed_for s c x) x) tt
    (note_part P a [] (fixed_for s c x) x outbox every)) own)

note_entering : (P : Decision → Type 0) (s : State) (from : Address) (connect : Connect) → P note.Outbox
    → FixedEach P s (ByConnect from connect)
    → (let c = ByConnect from connect in
    EachNote P (flat_map (entering_part (around s c) (notes_for s c) from connect) s.clients))
note_entering P s from connect outbox own =
    let c = ByConnect from connect in
    let a = around s c in
    let f = entering_part a (notes_for s c) from connect in
    note_flat P f s.clients
    (each_map (λ x. Every P (fixed_for s c x)) (λ x. EachNote P (f x)) s.clients
    (λ x every. let y = let_in s.clock from connect x in
    note_if P (bytes_eq connect.client_id x.id) (spell a [] y (drop 1 (fixed_for s c x))) []
    (note_spell P a [] y (drop 1 (fixed_for s c x)) outbox (every_drop P (fixed_for s c x) every)) tt) own)

note_entry : (P : Decision → Type 0) (s : State) (from : Address) (connect : Connect) (o : Outcome)
    → P note.Outbox
    → P (note.Connect connect.client_id o) → FixedEach P s (ByConnect from connect)
    → EachNote P (entry_outs s from connect (notes_for s (ByConnect from connect)) o)
note_entry P s from connect (Denied rule) outbox first own = (first, tt)
note_entry P s from connect Allowed outbox first own =
    let c = ByConnect from connect in
    let a = around s c in
    let notes = notes_for s c in
    let movings = flat_map (moved from connect.client_id) s.clients in
    let others = flat_map (beside a notes connect.client_id) s.clients in
    let entering = flat_map (entering_part a notes from connect) s.clients in
    let dropped = drop_notes (drops s c notes) in
    let last = around_welcome connect.flags.clean entering (welcome connect from) in (
      first,
      note_both P movings (others ++ (dropped ++ last))
          (note_flat P (moved from connect.client_id) s.clients
          (each_all (λ x. EachNote P (moved from connect.client_id x)) s.clients
          (λ x. note_moved P from connect.client_id x)))
          (note_both P others (dropped ++ last) (note_beside P s from connect outbox own)
          (note_both P dropped last (note_sent P dropped outbox (drops_sent (drops s c notes)))
          (note_welcome P connect.flags.clean entering connect from
          (note_entering P s from connect outbox own)))),
    )

note_ping : (P : Decision → Type 0) (due place : Bool) → P note.Outbox
    → (let noted : List Out = if due then (if place then [] else Note note.Outbox ∷ []) else [] in
    EachNote P noted)
note_ping P true true outbox = tt
note_ping P true false outbox = (outbox, tt)
note_ping P false place outbox = tt

-- what holds of the notes that the cause fixes, and of those of no client, holds of each of the row
pub note_fixed : (P : Decision → Type 0) (s : State) (c : Cause) → Fixes P s c → EachNote P (outs_by s c)
note_fixed P s (ByConnect from connect) fixes =
    note_entry P s from connect (entry s connect) fixes.dropped fixes.nobody.0 fixes.own
note_fixed P s (ByMessage from request) fixes =
    note_frame P s (ByMessage from request) (stranger_to from request) fixes.dropped fixes.own fixes.nobody
note_fixed P s (BySource from p) fixes = fixes.nobody
note_fixed P s (ByBroken from rule) fixes =
    note_frame P s (ByBroken from rule)
    (Note (note.Frame (who.Address from) (Denied rule)) ∷ []) fixes.dropped fixes.own fixes.nobody
note_fixed P s (ByPacket p) fixes =
    let c = ByPacket p in
    note_both P (flat_map (λ x. part (around s c) [] (fixed_for s c x) x) s.clients)
    (answer_outs s.policy.limits s.up s.link (answer_of p))
    (note_rows P s c [] fixes.dropped fixes.own) fixes.nobody
note_fixed P s ByUp fixes = fixes.nobody
note_fixed P s ByDown fixes = tt
note_fixed P s ByTake fixes = fixes.nobody
note_fixed P s (ByReplace policy) fixes =
    note_rows P s (ByReplace policy)
    (drops s (ByReplace policy) (notes_for s (ByReplace policy))) fixes.dropped fixes.own
note_fixed P s (ByTick clock) fixes =
    let c = ByTick clock in
    let link = with_wills s.policy.limits s.link (later s.clock clock) s.clients in
    let last = ping_dropped s.policy.limits s.up link (later s.clock clock) in
    note_both P (flat_map (λ x. part (around s c) [] (fixed_for s c x) x) s.clients) last
    (note_rows P s c [] fixes.dropped fixes.own)
    (note_ping P (is_ping_due s.up link (later s.clock clock)) (has_place s.policy.limits link) fixes.dropped)

-- ---- where it holds of each note of nobody

nobody_each : (P : Decision → Type 0) (s : State) (c : Cause) → Beside P → EachNote P (of_nobody s c)
nobody_each P s (ByConnect from connect) is = (is.entry connect.client_id (entry s connect), tt)
nobody_each P s (ByMessage from request) is =
    note_foreign P (stranger_to from request) is (mute_stranger from request).notes
nobody_each P s (BySource from p) is =
    note_foreign P (outs_by s (BySource from p)) is (foreign_source s from.ip p).notes
nobody_each P s (ByBroken from rule) is =
    (is.foreign (note.Frame (who.Address from) (Denied rule)) (λ id. refl), tt)
nobody_each P s (ByPacket p) is =
    note_foreign P (answer_outs s.policy.limits s.up s.link (answer_of p)) is
    (mute_packet s.policy.limits s.up s.link (answer_of p)).notes
nobody_each P s ByUp is = note_foreign P (outs_by s ByUp) is (up_none s)
nobody_each P s ByDown is = tt
nobody_each P s ByTake is = note_foreign P (outs_by s ByTake) is (λ id. take_none s id s.up refl)
nobody_each P s (ByReplace policy) is = tt
nobody_each P s (ByTick clock) is = tt

pub note_row : (P : Decision → Type 0) (s : State) (c : Cause) → Beside P
    → ((x : Client) → Every P (fixed_for s c x))
    → EachNote P (outs_by s c)
note_row P s c is every =
    note_fixed P s c
    (record {
      dropped = is.foreign note.Outbox (λ id. refl);
      nobody = nobody_each P s c is;
      own = each_all (λ x. Every P (fixed_for s c x)) s.clients every;
    })
