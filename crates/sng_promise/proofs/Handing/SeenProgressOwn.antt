-- What is kept of the messages for a client after a message of its own, or a CONNECT, is what the rows show
-- of them.
use Rattle.std.proofs.Common.{◌≡◌, ℕ, Bool, true, false, List, [], ◌∷◌, ◌++◌, refl, ap, sym, subst}
use Rattle.std.proofs.Common.{if◌then◌else◌}
use Rattle.std.specs.Prelude.{◌&&◌, ◌==◌, Some, Option, None, not}
use Rattle.sng_states.specs.declared.state.ClientState.TheVariants.{Active, Dialogue}
use Rattle.sng_states.specs.States.{is_due_messages}
use Rattle.sng_frames.specs.declared.messages.connect.Connect.{Connect}
use Rattle.sng_frames.specs.declared.messages.publish.Publish.{Publish}
use Rattle.sng_queue.specs.Messages.{Message}
use Rattle.sng_book.specs.Denials.{is_allowed}
use Rattle.sng_book.specs.declared.address.Address.{Address}
use Rattle.sng_book.specs.declared.decision.Decision.TheVariants as note
use Rattle.sng_book.specs.declared.decision.Who.TheVariants as who
use Rattle.sng_book.specs.declared.outcome.Denial.{Denial}
use Rattle.sng_book.specs.declared.outcome.Denial.TheVariants.{Form}
use Rattle.sng_book.specs.declared.outcome.FormDenial.TheVariants.{NotSupported}
use Rattle.sng_book.specs.declared.outcome.Outcome.{Outcome}
use Rattle.sng_book.specs.declared.outcome.Outcome.TheVariants.{Allowed, Denied}
use Rattle.sng_history.specs.Causes.{Request, ToPing, ToLeave, ToRegister, ToPublish, ToSubscribe}
use Rattle.sng_history.specs.Causes.{ToUnsubscribe, ToConfirm, ToAcknowledge}
use Rattle.sng_history.specs.Causes.{Untaken, ToState, ToSleep}
use Rattle.sng_history.specs.Causes.{ByConnect, ByMessage}
use Rattle.sng_history.specs.Causes.{ToPublishOnce, ToRelease}
use Rattle.sng_history.specs.Clients.{Client, Around, is_confirming, is_acknowledging, answered_by, received}
use Rattle.sng_history.specs.Clients.{cleaned, publish_released}
use Rattle.sng_history.specs.Clients.{subscribe_of, note_by, opened, awake}
use Rattle.sng_history.specs.Clients.{asleep, is_waking}
use Rattle.sng_history.specs.State.{State, around}
use Rattle.sng_history.specs.Verdicts.{ping_verdict, is_active, is_repeat, publish_once_ask}
use Rattle.sng_history.specs.Answers.{denied_note}
use Rattle.sng_history.specs.Outgoing.{handed_over, all_gone, out_of_turn}
use Rattle.sng_history.specs.Lawful.{denial_of, fixed_to, entering_notes}
use Rattle.sng_history.proofs.Own.{same_self}
use Rattle.sng_history.proofs.Asks.{of_register, of_publish, of_subscribe, of_unsubscribe, of_publish_once}
use Rattle.sng_history.proofs.Steady.{received_steady}
use Rattle.sng_promise.proofs.Names.SeenIds.{telling_none}
use Rattle.sng_promise.proofs.Handing.SeenFollows.{View}
use Rattle.sng_promise.proofs.Handing.SeenTurns.{closed_view, closed_follows, entered_follows}
use Rattle.sng_promise.proofs.Handing.SeenHandingNotes.{view_by, Shown, Step, Moved}
use Rattle.sng_promise.proofs.Handing.SeenHanding.{handed_moved}
use Rattle.sng_promise.proofs.Handing.SeenHanding.{gone_moved}
use Rattle.sng_promise.proofs.Handing.SeenAsked.{quiet_shown, quiet_denied, registered_moved}
use Rattle.sng_promise.proofs.Handing.SeenAsked.{subscribed_follows}
use Rattle.sng_promise.proofs.Handing.SeenAsked.{subscribed_step}
use Rattle.sng_promise.proofs.Handing.SeenAsked.{unsubscribed_step, unsubscribed_follows, left_moved}
use Rattle.sng_promise.proofs.Handing.SeenAnswered.{statement_moved, confirmed_view, confirm_moved}
use Rattle.sng_promise.proofs.Handing.SeenAnswered.{puback_moved}

-- ---- a message of the client

-- what the message shows before any note
abbrev pub answered_view : Request → Client → View → View
answered_view (ToConfirm r) x v = if (r.code.0 == 0) && is_confirming r x then confirmed_view v else v
answered_view (ToAcknowledge r) x v = if is_acknowledging r x then closed_view v else v
answered_view (ToPing client) x v = v
answered_view (ToSleep duration) x v = if is_due_messages x.phase then closed_view v else v
answered_view ToLeave x v = v
answered_view (ToRegister r) x v = v
answered_view (ToPublish p) x v = v
answered_view (ToPublishOnce p) x v = v
answered_view (ToRelease n) x v = v
answered_view (ToSubscribe r) x v = v
answered_view (ToUnsubscribe r) x v = v
answered_view (ToState statement) x v = v
answered_view (Untaken message) x v = v

-- a PINGREQ may wake the client
ping_moved : (a : Around) (due : List Message) (v : View) (x : Client) (clock : ℕ) (o : Outcome)
    (wakes : Bool) → Shown due v x
    → let y : Client = record x { heard = clock } in
    Moved a x.id due (denial_of x.id o ++ (if wakes then handed_over a.policy (awake x) else [])) v
    (if wakes then awake y else y)
ping_moved a due v x clock Allowed true shown =
    handed_moved a due v (awake (record x { heard = clock })) shown
ping_moved a due v x clock Allowed false shown = shown
ping_moved a due v x clock (Denied rule) true shown = (
  record { phase = λ m fits. refl; turn = tt },
  handed_moved a due v (awake (record x { heard = clock })) shown,
)
ping_moved a due v x clock (Denied rule) false shown = (record { phase = λ m fits. refl; turn = tt }, shown)

-- by a DISCONNECT with Duration it falls asleep
sleep_moved : (a : Around) (due : List Message) (v : View) (x : Client) (clock duration : ℕ)
    (due_messages : Bool) → Shown due v x
    → let y : Client = record x { heard = clock } in
    Moved a x.id due (if due_messages then [] else out_of_turn x.id)
    (if due_messages then closed_view v else v)
    (if due_messages then asleep duration y else y)
sleep_moved a due v x clock duration true shown = closed_follows due v x.ids x.number x.buffer shown
sleep_moved a due v x clock duration false shown = (record { phase = λ m fits. refl; turn = tt }, shown)

-- a PUBLISH at QoS 2 that is allowed opens its MsgId, and shows nothing of messages for the client
received_shown : (due : List Message) (v : View) (x : Client) (number : Option ℕ) (o : Outcome)
    → Shown due v x
    → Shown due v (received number o x)
received_shown due v x None o shown = shown
received_shown due v x (Some number) Allowed shown = shown
received_shown due v x (Some number) (Denied rule) shown = shown

once_moved : (s : State) (from : Address) (p : Publish) (due : List Message) (v : View) (x : Client)
    (first : Bool) → Shown due v x
    → Moved (around s (ByMessage from (ToPublishOnce p))) x.id due
    (if first then publish_once_ask s x p ∷ [] else []) v (record x { heard = s.clock })
once_moved s from p due v x true shown =
    let a = around s (ByMessage from (ToPublishOnce p)) in
    let y : Client = record x { heard = s.clock } in
    of_publish_once (λ said. Moved a x.id due (said ∷ []) v y) s x p
    (λ name o. (
      record {
        phase = λ m fits. ap Some (sym (received_steady (Some p.msg_id) o y).phase);
        turn = tt;
      },
      received_shown due v y (Some p.msg_id) o shown,
    ))
once_moved s from p due v x false shown = shown

-- a PUBREL closes one
release_moved : (a : Around) (due : List Message) (v : View) (x : Client) (clock number : ℕ) (active : Bool)
    → Shown due v x
    → let y : Client = record x { heard = clock } in
    Moved a x.id due (if active then [] else out_of_turn x.id) v
    (if active then publish_released number y else y)
release_moved a due v x clock number true shown = shown
release_moved a due v x clock number false shown = (record { phase = λ m fits. refl; turn = tt }, shown)

request_moved : (s : State) (from : Address) (request : Request) (due : List Message) (v : View) (x : Client)
    → Shown due v x
    → Moved (around s (ByMessage from request)) x.id due (fixed_to s request x) (answered_view request x v)
    (answered_by (Some request) (record x { heard = s.clock }))
request_moved s from (ToPing client) due v x shown =
    ping_moved (around s (ByMessage from (ToPing client))) due v x s.clock (ping_verdict client x)
    (is_waking client x) shown
request_moved s from (ToSleep duration) due v x shown =
    sleep_moved (around s (ByMessage from (ToSleep duration))) due v x s.clock duration
    (is_due_messages x.phase) shown
request_moved s from ToLeave due v x shown =
    left_moved (around s (ByMessage from ToLeave)) x.id due v (record x { heard = s.clock }) shown
request_moved s from (ToRegister r) due v x shown =
    let a = around s (ByMessage from (ToRegister r)) in
    let y : Client = record x { heard = s.clock } in
    of_register (λ said. Moved a x.id due (said ∷ []) v y) s.policy x r.name
    (λ name o. registered_moved a x.id due v y name o shown)
request_moved s from (ToPublish p) due v x shown =
    let a = around s (ByMessage from (ToPublish p)) in
    let y : Client = record x { heard = s.clock } in
    of_publish (λ said. Moved a x.id due (said ∷ []) v y) s x p
    (λ name o. (record { phase = λ m fits. refl; turn = tt }, shown))
request_moved s from (ToPublishOnce p) due v x shown = once_moved s from p due v x (not (is_repeat p x)) shown
request_moved s from (ToRelease n) due v x shown =
    release_moved (around s (ByMessage from (ToRelease n))) due v x s.clock n (is_active x.phase) shown
request_moved s from (ToSubscribe r) due v x shown =
    let a = around s (ByMessage from (ToSubscribe r)) in
    let y : Client = record x { heard = s.clock } in
    of_subscribe (λ said. Moved a x.id due (said ∷ []) v y) s x r
    (λ filter o. (
      subscribed_step a v y x.id filter o,
      subscribed_follows due v y x.id (subscribe_of a.cause) filter o shown,
    ))
request_moved s from (ToUnsubscribe r) due v x shown =
    let a = around s (ByMessage from (ToUnsubscribe r)) in
    let y : Client = record x { heard = s.clock } in
    of_unsubscribe (λ said. Moved a x.id due (said ∷ []) v y) s.policy x r
    (λ filter o. (unsubscribed_step a v y x.id filter o, unsubscribed_follows due v y filter o shown))
request_moved s from (ToConfirm r) due v x shown =
    confirm_moved (around s (ByMessage from (ToConfirm r))) due v x s.clock r (is_confirming r x)
    (r.code.0 == 0) refl refl refl shown
request_moved s from (ToAcknowledge r) due v x shown =
    puback_moved (around s (ByMessage from (ToAcknowledge r))) due v (record x { heard = s.clock })
    (is_acknowledging r x) shown
request_moved s from (ToState statement) due v x shown = statement_moved s from statement due v x shown
request_moved s from (Untaken message) due v x shown =
    let a = around s (ByMessage from (Untaken message)) in
    quiet_shown a x.id due (denied_note message (who.Client x.id) (Form NotSupported)) v
    (record x { heard = s.clock })
    (quiet_denied a x.id due message (Form NotSupported)) shown

pub message_moved : (s : State) (from : Address) (request : Request) (due : List Message) (v : View)
    (x : Client)
    (here : Bool) → Shown due v x
    → let y : Client = if here then answered_by (Some request) (record x { heard = s.clock }) else x in
    Moved (around s (ByMessage from request)) x.id due (if here then fixed_to s request x else [])
    (if here then answered_view request x v else v) y
message_moved s from request due v x true shown = request_moved s from request due v x shown
message_moved s from request due v x false shown = shown

-- ---- a CONNECT

view_entered : (a : Around) (id : List ℕ) (due : List Message) (v : View)
    → view_by a id due (note.Connect id Allowed) v ≡ record (closed_view v) { told = []; known = [] }
view_entered a id due v = rw (same_self id) refl

view_denied : (a : Around) (id : List ℕ) (due : List Message) (v : View) (rule : Denial)
    → view_by a id due (note.Connect id (Denied rule)) v ≡ v
view_denied a id due v rule = rw (same_self id) refl

entering_moved : (a : Around) (due : List Message) (v : View) (x : Client) (from : Address) (duration : ℕ)
    (will clean : Bool)
    → Shown due v x
    → let z : Client =
    opened will (cleaned clean (record x
    { address = from; ids = []; duration = duration; heard = a.clock })) in
    let w : View = record (closed_view v) { told = []; known = [] } in
    Moved a x.id due (if clean then all_gone x.id x.buffer.waiting else handed_over a.policy z) w z
entering_moved a due v x from duration true true shown =
    let z : Client =
    opened true (cleaned true (record x
    { address = from; ids = []; duration = duration; heard = a.clock })) in
    let w : View = record (closed_view v) { told = []; known = [] } in
    gone_moved a x.id due x.buffer.waiting w z refl refl shown.settling telling_none shown.given
entering_moved a due v x from duration false true shown =
    let z : Client =
    opened false (cleaned true (record x
    { address = from; ids = []; duration = duration; heard = a.clock })) in
    let w : View = record (closed_view v) { told = []; known = [] } in
    gone_moved a x.id due x.buffer.waiting w z refl refl shown.settling telling_none shown.given
entering_moved a due v x from duration true false shown =
    let z : Client =
    opened true (cleaned false (record x
    { address = from; ids = []; duration = duration; heard = a.clock })) in
    let w : View = record (closed_view v) { told = []; known = [] } in
    handed_moved a due w z (entered_follows due v x.ids x.number x.buffer shown)
entering_moved a due v x from duration false false shown =
    let z : Client =
    opened false (cleaned false (record x
    { address = from; ids = []; duration = duration; heard = a.clock })) in
    let w : View = record (closed_view v) { told = []; known = [] } in
    handed_moved a due w z (entered_follows due v x.ids x.number x.buffer shown)

heard_shown : (due : List Message) (v : View) (x : Client) (heard : Bool) (clock : ℕ) → Shown due v x
    → Shown due v (if heard then record x { heard = clock } else x)
heard_shown due v x true clock shown = shown
heard_shown due v x false clock shown = shown

-- who is let in is active, or in a dialogue
entered_phase : (will clean : Bool) (x : Client)
    → (opened will (cleaned clean x)).phase ≡ (if will then Dialogue else Active)
entered_phase true clean x = refl
entered_phase false clean x = refl

entered_step : (s : State) (from : Address) (connect : Connect) (v : View) (x : Client)
    → Step (around s (ByConnect from connect)) x.id (note.Connect x.id Allowed) v x
entered_step s from connect v x = record {
  phase = λ m fits. rw (same_self x.id, fits.connects)
      (ap Some (sym (entered_phase connect.flags.will connect.flags.clean
      (let y : Client = record x { address = from; ids = []; duration = connect.duration; heard = s.clock } in
      y))));
  turn = tt;
}

own_moved : (s : State) (from : Address) (connect : Connect) (due : List Message) (v : View) (x : Client)
    (here : Bool) (o : Outcome)
    → Shown due v x
    → let y : Client = if here then record x { heard = s.clock } else x in
    Moved (around s (ByConnect from connect)) x.id due
    (note.Connect x.id o ∷ entering_notes s from connect x o) v y
own_moved s from connect due v x true Allowed shown =
    let a = around s (ByConnect from connect) in
    let y : Client = record x { heard = s.clock } in (
      entered_step s from connect v y,
      subst (λ w. Moved a x.id due (entering_notes s from connect x Allowed) w
          (note_by a (note.Connect x.id Allowed) y))
          (sym (view_entered a x.id due v))
          (entering_moved a due v y from connect.duration connect.flags.will connect.flags.clean shown),
    )
own_moved s from connect due v x false Allowed shown =
    let a = around s (ByConnect from connect) in (
      entered_step s from connect v x,
      subst (λ w. Moved a x.id due (entering_notes s from connect x Allowed) w
          (note_by a (note.Connect x.id Allowed) x))
          (sym (view_entered a x.id due v))
          (entering_moved a due v x from connect.duration connect.flags.will connect.flags.clean shown),
    )
own_moved s from connect due v x here (Denied rule) shown =
    let y : Client = if here then record x { heard = s.clock } else x in (
      record { phase = λ m fits. rw (same_self x.id) refl; turn = tt },
      subst (λ w. Shown due w y) (sym (view_denied (around s (ByConnect from connect)) x.id due v rule))
          (heard_shown due v x here s.clock shown),
    )

pub connect_moved : (s : State) (from : Address) (connect : Connect) (due : List Message) (v : View)
    (x : Client)
    (own here : Bool)
    (o : Outcome)
    → Shown due v x
    → let y : Client = if here then record x { heard = s.clock } else x in
    let notes = if own
    then note.Connect x.id o ∷ entering_notes s from connect x o
    else (if is_allowed o then (if here then note.Left x.id ∷ all_gone x.id x.buffer.waiting else [])
    else []) in
    Moved (around s (ByConnect from connect)) x.id due notes v y
connect_moved s from connect due v x true here o shown = own_moved s from connect due v x here o shown
connect_moved s from connect due v x false true Allowed shown =
    left_moved (around s (ByConnect from connect)) x.id due v (record x { heard = s.clock }) shown
connect_moved s from connect due v x false false Allowed shown = shown
connect_moved s from connect due v x false here (Denied rule) shown = heard_shown due v x here s.clock shown
