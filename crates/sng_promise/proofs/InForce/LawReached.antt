-- The rows of which that holds: each lawful one.
use Rattle.std.proofs.Common.{◌≡◌, ℕ, Bool, true, false, List, [], ◌∷◌, ◌++◌, refl, sym, subst, if◌then◌else◌}
use Rattle.std.specs.Prelude.{◌&&◌, not, drop, Option, Some, None}
use Rattle.std.specs.List.{flat_map}
use Rattle.std.specs.Str.{bytes_eq}
use Rattle.sng_grants.specs.Limits.{Limits}
use Rattle.sng_text.specs.Texts.{is_name}
use Rattle.sng_states.specs.States.{has_session}
use Rattle.sng_frames.specs.declared.messages.connect.Connect.{Connect}
use Rattle.sng_frames.specs.declared.frame.SnFrame.TheVariants as frame
use Rattle.sng_frames.specs.declared.return_code.TheConstants.ReturnCode.{ACCEPTED}
use Rattle.sng_book.specs.declared.address.Address.{Address}
use Rattle.sng_book.specs.declared.decision.Decision.TheVariants as note
use Rattle.sng_book.specs.declared.decision.Who.TheVariants as who
use Rattle.sng_book.specs.declared.outcome.Denial.TheVariants.{Form}
use Rattle.sng_book.specs.declared.outcome.FormDenial.TheVariants.{BadName}
use Rattle.sng_book.specs.declared.outcome.Outcome.{Outcome}
use Rattle.sng_book.specs.declared.outcome.Outcome.TheVariants.{Allowed, Denied}
use Rattle.sng_book.specs.declared.out.Out.{Out}
use Rattle.sng_book.specs.declared.out.Out.TheVariants.{Send, Wire, Note}
use Rattle.sng_book.specs.declared.event.Event.TheVariants as event
use Rattle.sng_book.specs.declared.row.Row.{Row}
use Rattle.sng_history.specs.Causes.{Request, ToPing, ToLeave, ToSleep, ToRegister, ToPublish, ToSubscribe}
use Rattle.sng_history.specs.Causes.{ToUnsubscribe, ToConfirm}
use Rattle.sng_history.specs.Causes.{ToAcknowledge, ToState, Untaken}
use Rattle.sng_history.specs.Causes.{Cause, cause_of, ByConnect, ByMessage, BySource, ByBroken, ByPacket}
use Rattle.sng_history.specs.Causes.{ByUp, ByDown, ByTake, ByReplace}
use Rattle.sng_history.specs.Causes.{ByTick}
use Rattle.sng_history.specs.Causes.{ToPublishOnce, ToRelease}
use Rattle.sng_history.specs.Clients.{Client, same_address, let_in}
use Rattle.sng_history.specs.Standing.{Release, drop_notes}
use Rattle.sng_history.specs.State.{State, opening, state_of, around, later}
use Rattle.sng_history.specs.Links.{Link}
use Rattle.sng_history.specs.Packets.{Answer, Delivers, Acknowledges, Grants, Refuses, Confirms, Strange}
use Rattle.sng_history.specs.Packets.{answer_of, answer_outs, owed}
use Rattle.sng_history.specs.Packets.{has_place, dropped}
use Rattle.sng_history.specs.Ticking.{with_wills, is_ping_due, ping_dropped}
use Rattle.sng_history.specs.Verdicts.{entry}
use Rattle.sng_history.specs.Answers.{code_of, dismissed, welcome}
use Rattle.sng_history.specs.Whole.{Notes, spell, part, any_from, stranger_to, drops, client_rows, frame_row}
use Rattle.sng_history.specs.Whole.{moved, beside}
use Rattle.sng_history.specs.Whole.{entering_part, around_welcome, entry_outs}
use Rattle.sng_history.specs.Lawful.{Lawful}
use Rattle.sng_history.specs.Steps.{notes_for, outs_by}
use Rattle.sng_laws.specs.LawsLink.{OnlyExits}
use Rattle.sng_laws.specs.LawsReached.{lets_reach, Reaches, EachReaches}
use Rattle.sng_history.proofs.Keeping.{exact_by}
use Rattle.sng_promise.proofs.Link.LawExits.{row_exits}
use Rattle.sng_promise.proofs.InForce.LawReaches.{reach_both, reach_if, reach_flat, calm, dismissed_reach}
use Rattle.sng_promise.proofs.InForce.LawReaches.{connack_reach, drops_reach}
use Rattle.sng_promise.proofs.InForce.LawReaches.{spell_reach, part_reach}

-- ---- the clients

rows_reach : (s : State) (c : Cause) (dropped : List Release) (n : Notes)
    → Reaches false (client_rows s c dropped n)
rows_reach s c dropped n =
    reach_flat (λ x. part (around s c) dropped (n.of x) x) s.clients
    (λ x. part_reach (around s c) dropped (n.of x) x)

frame_reach : (s : State) (c : Cause) (stranger : List Out) (n : Notes) → Reaches false stranger
    → Reaches false (frame_row s c stranger n)
frame_reach s c stranger n none =
    reach_if (any_from c s.clients) (client_rows s c (drops s c n) n) stranger
    (rows_reach s c (drops s c n) n) none

stranger_reach : (from : Address) (request : Request) → Reaches false (stranger_to from request)
stranger_reach from (ToPing client) = dismissed_reach from
stranger_reach from (ToSleep duration) = dismissed_reach from
stranger_reach from ToLeave = dismissed_reach from
stranger_reach from (ToRegister r) = dismissed_reach from
stranger_reach from (ToPublish p) = dismissed_reach from
stranger_reach from (ToPublishOnce p) = dismissed_reach from
stranger_reach from (ToRelease n) = dismissed_reach from
stranger_reach from (ToSubscribe r) = dismissed_reach from
stranger_reach from (ToUnsubscribe r) = dismissed_reach from
stranger_reach from (ToConfirm r) = dismissed_reach from
stranger_reach from (ToAcknowledge r) = dismissed_reach from
stranger_reach from (ToState statement) = dismissed_reach from
stranger_reach from (Untaken message) = tt

-- ---- a CONNECT

moved_reach : (from : Address) (id : List ℕ) (x : Client) → Reaches false (moved from id x)
moved_reach from id x =
    let away = has_session x.phase && not (same_address x.address from) in
    let bye : List Out = if away then dismissed x.address ∷ [] else [] in
    reach_if (bytes_eq id x.id) bye []
    (reach_if away (dismissed x.address ∷ []) [] (dismissed_reach x.address) tt) tt

around_reach : (connect : Connect) (from : Address) (clean will : Bool) (own : List Out)
    → connect.flags.will ≡ will → Reaches false own
    → Reaches false (around_welcome clean own (welcome connect from))
around_reach connect from true true own is calm_own =
    reach_both false own (welcome connect from ∷ []) calm_own (rw is (calm from frame.WillTopicRequest refl))
around_reach connect from true false own is calm_own =
    reach_both false own (welcome connect from ∷ []) calm_own (rw is (connack_reach from ACCEPTED))
around_reach connect from false true own is calm_own =
    reach_both false (welcome connect from ∷ []) own (rw is (calm from frame.WillTopicRequest refl)) calm_own
around_reach connect from false false own is calm_own =
    reach_both false (welcome connect from ∷ []) own (rw is (connack_reach from ACCEPTED)) calm_own

entry_reach : (s : State) (from : Address) (connect : Connect) (n : Notes) (o : Outcome)
    → Reaches false (entry_outs s from connect n o)
entry_reach s from connect n (Denied rule) = connack_reach from (code_of rule)
entry_reach s from connect n Allowed =
    let c = ByConnect from connect in
    let a = around s c in
    let id = connect.client_id in
    let movings = flat_map (moved from id) s.clients in
    let others = flat_map (beside a n id) s.clients in
    let noted = drop_notes (drops s c n) in
    let entering = flat_map (entering_part a n from connect) s.clients in
    let last = around_welcome connect.flags.clean entering (welcome connect from) in
    reach_both false movings (others ++ (noted ++ last))
    (reach_flat (moved from id) s.clients (moved_reach from id))
    (reach_both false others (noted ++ last)
    (reach_flat (beside a n id) s.clients
    (λ x. reach_if (bytes_eq id x.id) [] (part a [] (n.of x) x) tt (part_reach a [] (n.of x) x)))
    (reach_both false noted last (drops_reach (drops s c n))
    (around_reach connect from connect.flags.clean connect.flags.will entering refl
    (reach_flat (entering_part a n from connect) s.clients
    (λ x. let y = let_in a.clock from connect x in
    reach_if (bytes_eq id x.id) (spell a [] y (drop 1 (n.of x))) []
    (spell_reach a [] y (drop 1 (n.of x))) tt)))))

-- ---- the broker

dropped_reach : (place : Bool) (packet_id : Option ℕ) → Reaches false (dropped place packet_id)
dropped_reach place None = tt
dropped_reach true (Some packet_id) = tt
dropped_reach false (Some packet_id) = tt

delivered_reach : (named place : Bool) (packet_id : Option ℕ)
    → Reaches false ((if named then [] else Note (note.Frame who.Broker (Denied (Form BadName))) ∷ [])
    ++ dropped place packet_id)
delivered_reach true place packet_id = dropped_reach place packet_id
delivered_reach false place packet_id = dropped_reach place packet_id

answer_reach : (limits : Limits) (up : Bool) (link : Link) (answer : Answer)
    → Reaches false (answer_outs limits up link answer)
answer_reach limits up link (Delivers p) = delivered_reach (is_name p.name) (has_place limits link) (owed up p)
answer_reach limits up link (Acknowledges packet_id) = tt
answer_reach limits up link (Grants packet_id) = tt
answer_reach limits up link (Refuses packet_id) = tt
answer_reach limits up link Confirms = tt
answer_reach limits up link Strange = tt

ping_reach : (due place : Bool)
    → (let noted : List Out = if due then (if place then [] else Note note.Outbox ∷ []) else [] in
    Reaches false noted)
ping_reach true true = tt
ping_reach true false = tt
ping_reach false place = tt

-- what leaves for the broker goes to no client
exits_reach : (b : Bool) (outs : List Out) → OnlyExits outs → Reaches b outs
exits_reach b [] only = tt
exits_reach b (Wire packet ∷ outs) only = exits_reach false outs only
exits_reach b (Note said ∷ outs) only = exits_reach (lets_reach said) outs only.1
exits_reach b (Send to datagram ∷ outs) only = absurd only

-- ---- the row

row_reach : (s : State) (c : Cause) → Reaches false (outs_by s c)
row_reach s (ByConnect from connect) =
    entry_reach s from connect (notes_for s (ByConnect from connect)) (entry s connect)
row_reach s (ByMessage from request) =
    let c = ByMessage from request in
    frame_reach s c (stranger_to from request) (notes_for s c) (stranger_reach from request)
row_reach s (BySource from p) = tt
row_reach s (ByBroken from rule) =
    let c = ByBroken from rule in
    frame_reach s c (Note (note.Frame (who.Address from) (Denied rule)) ∷ []) (notes_for s c) tt
row_reach s (ByPacket p) =
    let c = ByPacket p in
    reach_both false (client_rows s c [] (notes_for s c)) (answer_outs s.policy.limits s.up s.link (answer_of p))
    (rows_reach s c [] (notes_for s c))
    (answer_reach s.policy.limits s.up s.link (answer_of p))
row_reach s ByUp = exits_reach false (outs_by s ByUp) (row_exits s event.Up refl)
row_reach s ByDown = tt
row_reach s ByTake = exits_reach false (outs_by s ByTake) (row_exits s event.Take refl)
row_reach s (ByReplace policy) =
    let c = ByReplace policy in rows_reach s c (drops s c (notes_for s c)) (notes_for s c)
row_reach s (ByTick clock) =
    let c = ByTick clock in
    let link = with_wills s.policy.limits s.link (later s.clock clock) s.clients in
    reach_both false (client_rows s c [] (notes_for s c))
    (ping_dropped s.policy.limits s.up link (later s.clock clock))
    (rows_reach s c [] (notes_for s c))
    (ping_reach (is_ping_due s.up link (later s.clock clock)) (has_place s.policy.limits link))

-- ---- the law

pub reached_law : (h : List Row) → Lawful opening h → EachReaches h
reached_law [] l = tt
reached_law (row ∷ h) l =
    let s = state_of opening h in
    let c = cause_of row.event in
    (reached_law h l.0, subst (Reaches false) (sym (exact_by s c row.outs l.1)) (row_reach s c))
