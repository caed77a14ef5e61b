-- What is kept of the messages for a client moves as the rows show where it is lost, and where what is open
-- is sent again.
use Rattle.std.proofs.Common.{◌≡◌, ℕ, Bool, true, false, List, [], ◌∷◌, ◌++◌, refl, ap, sym, ◌∙◌, subst}
use Rattle.std.proofs.Common.{if◌then◌else◌}
use Rattle.std.specs.Prelude.{Option, Some, None, slice_get, ◌||◌, ◌&&◌}
use Rattle.sng_grants.specs.Limits.{Limits}
use Rattle.sng_states.specs.States.{takes_messages}
use Rattle.sng_queue.specs.declared.exchange.Exchange.{Exchange}
use Rattle.sng_queue.specs.declared.exchange.Exchange.TheVariants.{Announcing, Acknowledging}
use Rattle.sng_queue.specs.declared.exchange.Sending.{Sending}
use Rattle.sng_queue.specs.Messages.{Message}
use Rattle.sng_queue.specs.Buffers.{Buffer, settle}
use Rattle.sng_book.specs.declared.decision.Decision.{Decision}
use Rattle.sng_book.specs.declared.decision.Decision.TheVariants as note
use Rattle.sng_book.specs.declared.decision.Who.TheVariants as who
use Rattle.sng_book.specs.declared.outcome.Denial.{Denial}
use Rattle.sng_book.specs.declared.outcome.Outcome.{Outcome}
use Rattle.sng_book.specs.declared.outcome.Outcome.TheVariants.{Allowed, Denied}
use Rattle.sng_history.specs.Clients.{Client, Around, closed, told, note_by, lost, repeated}
use Rattle.sng_history.specs.Outgoing.{handed_over, all_gone, receive}
use Rattle.sng_laws.specs.ViewsHanding.{Opening, Announced, HandedOver, is_refused_at_once}
use Rattle.sng_laws.specs.LawsState.{exchange_shown}
use Rattle.sng_laws.specs.LawsHanding.{IsFront}
use Rattle.sng_laws.specs.LawsTurns.{name_open, is_free_at, AtTick, is_at_tick, is_judged_again}
use Rattle.sng_history.proofs.Own.{same_self}
use Rattle.sng_promise.proofs.Handing.SeenFollows.{IsFor, View, Follows, idle_with}
use Rattle.sng_promise.proofs.Handing.SeenTurns.{come_out, closed_view}
use Rattle.sng_promise.proofs.Handing.SeenTurns.{closed_follows, repeated_follows}
use Rattle.sng_promise.proofs.Handing.SeenHandingNotes.{view_by, Shown, occasion_by, Step, Moved}
use Rattle.sng_promise.proofs.Handing.SeenHandingNotes.{denied_moved}
use Rattle.sng_promise.proofs.Handing.SeenHanding.{handed_moved}
use Rattle.sng_promise.proofs.Handing.SeenHandingNotes.{at}
use Rattle.sng_promise.proofs.Handing.SeenHanding.{gone_moved, never_refused, DeniedByPolicy, policy_denies}
use Rattle.sng_history.specs.Losing.{before, unplaced, will_dropped, lost_notes, tick_notes, judged_again}
use Rattle.sng_history.specs.Losing.{message_again, exchange_again}
use Rattle.sng_history.specs.Losing.{again_notes}
use Rattle.sng_history.specs.Ticking.{will_of, testaments, all_placed, is_lost_at, is_repeating}
use Rattle.sng_history.specs.Ticking.{is_unanswered}
use Rattle.sng_history.specs.Room.{room_in}
use Rattle.sng_history.specs.Links.{Link}
use Rattle.sng_outbox.specs.declared.item.Publication.{Publication}
use Rattle.sng_laws.specs.ViewsSendings.{Last}
use Rattle.sng_queue.specs.declared.kind.TopicIdKind.{TopicIdKind}
use Rattle.sng_promise.proofs.Handing.Takes.{taking_same}
use Rattle.sng_promise.proofs.Handing.SeenAsked.{quiet_shown, quiet_will, both_true}

-- ---- it is lost

view_lost : (a : Around) (id : List ℕ) (due : List Message) (v : View)
    → view_by a id due (note.Lost id) v ≡ closed_view v
view_lost a id due v = rw (same_self id) refl

-- behind notes come others that move nothing of this
moved_more : (a : Around) (id : List ℕ) (due : List Message) (xs ys : List Decision) (v : View) (x : Client)
    → Moved a id due xs v x
    → ((w : View) (y : Client) → Shown due w y → Moved a id due ys w y) → Moved a id due (xs ++ ys) v x
moved_more a id due [] ys v x moved rest = rest v x moved
moved_more a id due (said ∷ xs) ys v x moved rest =
    (moved.0, moved_more a id due xs ys (view_by a id due said v) (note_by a said x) moved.1 rest)

unplaced_moved : (a : Around) (id : List ℕ) (due : List Message) (p : Publication) (o : Outcome) (v : View)
    (x : Client) → Shown due v x
    → Moved a id due (unplaced id p o) v x
unplaced_moved a id due p Allowed v x shown = shown
unplaced_moved a id due p (Denied rule) v x shown =
    quiet_shown a id due (note.Will (who.Client id) (Some p.name) (Denied rule)) v x
    (quiet_will a id id due (Some p.name) rule) shown

dropped_moved : (limits : Limits) (a : Around) (id : List ℕ) (due : List Message) (link : Link)
    (ps : List Publication)
    (v : View) (x : Client)
    → Shown due v x
    → Moved a id due (will_dropped limits link id ps) v x
dropped_moved limits a id due link [] v x shown = shown
dropped_moved limits a id due link (p ∷ ps) v x shown =
    unplaced_moved a id due p (room_in limits link p.qos) v x shown

lost_moved : (limits : Limits) (a : Around) (id : List ℕ) (due : List Message) (link : Link)
    (ps : List Publication) (v : View)
    (x : Client) → Shown due v x
    → Moved a id due (note.Lost id ∷ (all_gone id x.buffer.waiting ++ will_dropped limits link id ps)) v x
lost_moved limits a id due link ps v x shown =
    let notes = all_gone id x.buffer.waiting ++ will_dropped limits link id ps in (
      record { phase = λ m fits. rw (same_self id) refl; turn = tt },
      subst (λ w. Moved a id due notes w (lost x)) (sym (view_lost a id due v))
          (moved_more a id due (all_gone id x.buffer.waiting) (will_dropped limits link id ps) (closed_view v)
          (lost x)
          (gone_moved a id due x.buffer.waiting (closed_view v)
          (lost x) refl refl shown.settling shown.telling shown.given)
          (λ w y is. dropped_moved limits a id due link ps w y is)),
    )

-- ---- what is open is sent again

step_again : (a : Around) (v : View) (x : Client) (name : List ℕ) (o : Outcome)
    → takes_messages x.phase ≡ true
    → name_open v.progress.unanswered ≡ Some name
    → Step a x.id (note.Retry x.id name o) v x
step_again a v x name o takes opens = record {
  phase = λ m fits. ap Some (sym (by_outcome o));
  turn = λ own. (taking_same x.phase ∙ takes, opens);
}
  where
    by_outcome : (o : Outcome) → (repeated a.clock o x).phase ≡ x.phase
    by_outcome Allowed = refl
    by_outcome (Denied rule) = refl

retry_moved : (a : Around) (due : List Message) (v : View) (x : Client) (name : List ℕ)
    → takes_messages x.phase ≡ true
    → name_open v.progress.unanswered ≡ Some name → Shown due v x
    → Moved a x.id due (note.Retry x.id name Allowed ∷ []) v x
retry_moved a due v x name takes opens shown = (
  step_again a v x name Allowed takes opens,
  rw (same_self x.id) (repeated_follows due v x.ids x.number a.clock x.buffer shown),
)

closes_moved : (a : Around) (due : List Message) (v : View) (x : Client) (name : List ℕ) (rule : Denial)
    → takes_messages x.phase ≡ true
    → name_open v.progress.unanswered ≡ Some name → Shown due v x
    → Moved a x.id due (note.Retry x.id name (Denied rule) ∷ handed_over a.policy (closed x)) v x
closes_moved a due v x name rule takes opens shown = (
  step_again a v x name (Denied rule) takes opens,
  subst (λ w. Moved a x.id due (handed_over a.policy (closed x)) w (closed x)) (sym same)
      (handed_moved a due (closed_view v) (closed x) (closed_follows due v x.ids x.number x.buffer shown)),
)
  where
    same : view_by a x.id due (note.Retry x.id name (Denied rule)) v ≡ closed_view v
    same = rw (same_self x.id) refl

-- what is open is what is shown
open_is : (o : Option Opening) (told : List (List ℕ)) (number : ℕ) (last : Last) (waiting : List Message)
    (sent : Sending)
    → IsFor o told waiting
    → Some (Announcing sent) ≡ exchange_shown o told number last
    → (name : List ℕ) × ((o ≡ Some (Announced name)) × IsFront name waiting)
open_is None told number last waiting sent front is = absurd cc
open_is (Some (Announced name)) told number last waiting sent front is = (name, (refl, front.1))
open_is (Some (HandedOver m)) told number last waiting sent front is = absurd cc

message_is : (o : Option Opening) (told : List (List ℕ)) (number : ℕ) (last : Last) (sent : Sending)
    (k : TopicIdKind) (m : Message)
    → Some (Acknowledging sent k m) ≡ exchange_shown o told number last → o ≡ Some (HandedOver m)
message_is None told number last sent k m is = absurd cc
message_is (Some (Announced name)) told number last sent k m is = absurd cc
message_is (Some (HandedOver one)) told number last sent k m is =
    let same : one ≡ m = cc in ap (λ one. Some (HandedOver one)) same

-- the announced front is judged again
front_judged : (a : Around) (due : List Message) (v : View) (x : Client) (sent : Sending) (m : Message)
    (more : List Message) (o : Outcome)
    → is_refused_at_once o ≡ false → DeniedByPolicy o → occasion_by a.cause ≡ AtTick
    → takes_messages x.phase ≡ true
    → x.buffer ≡ record { waiting = m ∷ more; exchange = Some (Announcing sent) } → Shown due v x
    → Moved a x.id due (judged_again a.policy x (Announcing sent) m o) v x
front_judged a due v x sent m more Allowed waits denies ticks takes full shown =
    let f : Follows due v x.ids x.number (record { waiting = m ∷ more; exchange = Some (Announcing sent) }) =
    subst (Follows due v x.ids x.number) full shown in
    let opens = open_is v.progress.unanswered v.told x.number v.last (m ∷ more) sent f.front f.exchange in
    retry_moved a due v x m.name takes (ap name_open opens.1.0 ∙ ap Some (sym opens.1.1)) shown
front_judged a due v x sent m more (Denied rule) waits denies ticks takes full shown =
    let f : Follows due v x.ids x.number (record { waiting = m ∷ more; exchange = Some (Announcing sent) }) =
    subst (Follows due v x.ids x.number) full shown in
    let opens = open_is v.progress.unanswered v.told x.number v.last (m ∷ more) sent f.front f.exchange in
    let again : is_judged_again (at v x) ≡ true = rw (taking_same x.phase, takes, opens.1.0) refl in
    let y : Client = record x { buffer = idle_with more } in
    subst (λ b. Moved a x.id due (note.Hand x.id m.name (Denied rule)
    ∷ handed_over a.policy (record x { buffer = b })) v x)
    (sym (ap settle full))
    (denied_moved a x.id due (handed_over a.policy y) v x m more (Some (Announcing sent)) rule waits
    (denies (occasion_by a.cause) (at v x)
    (or_second (is_free_at (at v x)) (is_at_tick (occasion_by a.cause) && is_judged_again (at v x))
    (rw (ticks, again) refl))) full refl shown
    (λ after. handed_moved a due (come_out v m.name (Denied rule)) y after))
  where
    or_second : (b c : Bool) → c ≡ true → (b || c) ≡ true
    or_second true c is = refl
    or_second false c is = is

announced_again : (a : Around) (due : List Message) (v : View) (x : Client) (sent : Sending)
    (waiting : List Message)
    → occasion_by a.cause ≡ AtTick → takes_messages x.phase ≡ true
    → x.buffer ≡ record { waiting = waiting; exchange = Some (Announcing sent) } → Shown due v x
    → Moved a x.id due (message_again a.policy x (Announcing sent) (slice_get waiting 0)) v x
announced_again a due v x sent [] ticks takes full shown = shown
announced_again a due v x sent (m ∷ more) ticks takes full shown =
    front_judged a due v x sent m more (receive a.policy x.id m.name)
    (never_refused a.policy x.id m.name) (policy_denies a.policy x.id m.name) ticks takes full shown

handed_judged : (a : Around) (due : List Message) (v : View) (x : Client) (sent : Sending) (k : TopicIdKind)
    (m : Message) (o : Outcome)
    → takes_messages x.phase ≡ true → x.buffer.exchange ≡ Some (Acknowledging sent k m) → Shown due v x
    → Moved a x.id due (judged_again a.policy x (Acknowledging sent k m) m o) v x
handed_judged a due v x sent k m o takes is shown = by_outcome o
  where
    opens : name_open v.progress.unanswered ≡ Some m.name
    opens =
        ap name_open (message_is v.progress.unanswered v.told x.number v.last sent k m
        (sym is ∙ shown.exchange))

    by_outcome : (o : Outcome) → Moved a x.id due (judged_again a.policy x (Acknowledging sent k m) m o) v x
    by_outcome Allowed = retry_moved a due v x m.name takes opens shown
    by_outcome (Denied rule) = closes_moved a due v x m.name rule takes opens shown

exchange_moved : (a : Around) (due : List Message) (v : View) (x : Client) (e : Option Exchange)
    → occasion_by a.cause ≡ AtTick → takes_messages x.phase ≡ true
    → x.buffer.exchange ≡ e → Shown due v x
    → Moved a x.id due (exchange_again a.policy x e) v x
exchange_moved a due v x None ticks takes is shown = shown
exchange_moved a due v x (Some (Announcing sent)) ticks takes is shown =
    announced_again a due v x sent x.buffer.waiting ticks takes
    (ap (λ e. let b : Buffer = record { waiting = x.buffer.waiting; exchange = e } in b) is) shown
exchange_moved a due v x (Some (Acknowledging sent k m)) ticks takes is shown =
    handed_judged a due v x sent k m (receive a.policy x.id m.name) takes is shown

again_moved : (a : Around) (due : List Message) (clock : ℕ) (v : View) (x : Client)
    → occasion_by a.cause ≡ AtTick → Shown due v x
    → Moved a x.id due (again_notes a.policy clock x) v x
again_moved a due clock v x ticks shown = by_due (is_repeating clock x) refl
  where
    by_due : (b : Bool) → is_repeating clock x ≡ b
        → Moved a x.id due (if b then exchange_again a.policy x x.buffer.exchange else []) v x
    by_due true is =
        exchange_moved a due v x x.buffer.exchange ticks
        (both_true (takes_messages x.phase) (is_unanswered clock x.buffer.exchange) is).0 refl shown
    by_due false is = shown

pub tick_moved : (a : Around) (due : List Message) (link : Link) (clock : ℕ) (xs : List Client) (v : View)
    (x : Client) → occasion_by a.cause ≡ AtTick → Shown due v x
    → Moved a x.id due (tick_notes a.policy link clock xs x) v x
tick_moved a due link clock xs v x ticks shown = by_overdue (is_lost_at clock x)
  where
    by_overdue : (b : Bool)
        → Moved a x.id due
        (if b then lost_notes a.policy.limits (all_placed a.policy.limits link (testaments clock (before x.id xs))) x
        else again_notes a.policy clock x) v x
    by_overdue true =
        lost_moved a.policy.limits a x.id due (all_placed a.policy.limits link (testaments clock (before x.id xs)))
        (will_of x.id x.wills.will) v x shown
    by_overdue false = again_moved a due clock v x ticks shown
