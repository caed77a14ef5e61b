-- What a client states of its will, and a REGACK and a PUBACK, move what is kept of the messages for it as
-- the rows show.
use Rattle.std.proofs.Common.{◌≡◌, ℕ, Bool, true, false, List, [], ◌∷◌, ◌++◌, refl, ap, sym, ◌∙◌, subst}
use Rattle.std.proofs.Common.{if◌then◌else◌, arith}
use Rattle.std.specs.Prelude.{◌&&◌, ◌==◌, Option, Some, None}
use Rattle.std.proofs.lemmas.Bool.Decides.{nat_tests}
use Rattle.sng_states.specs.declared.state.ClientState.TheVariants.{Active}
use Rattle.sng_states.specs.States.{takes_messages}
use Rattle.sng_ids.specs.Ids.{confirmed}
use Rattle.sng_frames.specs.declared.messages.acks.TopicAck.{TopicAck}
use Rattle.sng_queue.specs.Exchanges.{awaits_ack}
use Rattle.sng_queue.specs.Messages.{Message}
use Rattle.sng_queue.specs.Buffers.{Buffer, settle}
use Rattle.sng_book.specs.Denials.{is_allowed}
use Rattle.sng_book.specs.declared.address.Address.{Address}
use Rattle.sng_book.specs.declared.decision.Decision.TheVariants as note
use Rattle.sng_book.specs.declared.decision.Who.TheVariants as who
use Rattle.sng_book.specs.declared.outcome.Denial.TheVariants.{Peer}
use Rattle.sng_book.specs.declared.outcome.PeerDenial.TheVariants.{ClientRefused}
use Rattle.sng_book.specs.declared.outcome.Outcome.{Outcome}
use Rattle.sng_book.specs.declared.outcome.Outcome.TheVariants.{Allowed, Denied}
use Rattle.sng_history.specs.Causes.{Statement, StatesTopic, StatesMessage, UpdatesTopic, UpdatesMessage}
use Rattle.sng_history.specs.Causes.{ToState}
use Rattle.sng_history.specs.Causes.{ByMessage}
use Rattle.sng_history.specs.Handing.{answers_announcement}
use Rattle.sng_history.specs.Clients.{Client, Around, is_confirming, closed, confirmed_with, told}
use Rattle.sng_history.specs.Clients.{statement_of, stated, stated_by}
use Rattle.sng_history.specs.State.{State, around}
use Rattle.sng_history.specs.Outgoing.{handed_over, refusals, out_of_turn}
use Rattle.sng_history.specs.Lawful.{confirmations}
use Rattle.sng_laws.specs.ViewsClients.{with_name, id_told, ends_dialogue}
use Rattle.sng_laws.specs.ViewsHanding.{Opening, Announced, HandedOver, name_announced}
use Rattle.sng_laws.specs.LawsState.{exchange_shown}
use Rattle.sng_laws.specs.LawsHanding.{IsFront}
use Rattle.sng_laws.specs.LawsTurns.{AtRegack, is_at_regack, is_judged_again}
use Rattle.sng_history.proofs.Own.{same_self}
use Rattle.sng_promise.proofs.Handing.SeenFollows.{IsFor, View, Follows, idle_with}
use Rattle.sng_promise.proofs.Handing.SeenTurns.{come_out, closed_view}
use Rattle.sng_promise.proofs.Handing.SeenTurns.{closed_follows, confirmed_follows}
use Rattle.sng_promise.proofs.Handing.Takes.{taking_same}
use Rattle.sng_promise.proofs.Handing.SeenHandingNotes.{Shown, at, occasion_by, Step, Moved, denied_moved}
use Rattle.sng_promise.proofs.Handing.SeenHanding.{handed_moved}
use Rattle.sng_history.specs.WillAsks.{statement_turn, statement_verdict, statement_object, dialogue_goes_on}
use Rattle.sng_history.specs.WillAsks.{statement_notes}
use Rattle.sng_laws.specs.ViewsSendings.{Last}
use Rattle.sng_promise.proofs.Handing.SeenAsked.{left_moved, both_true}
use Rattle.sng_history.proofs.Awaited.{awaits_none}

-- ---- what it states of its will

stated_phase : (statement : Option Statement) (o : Outcome) (x : Client)
    → (if is_allowed o && ends_dialogue statement then Some Active else Some x.phase)
    ≡ Some (stated_by statement o x).phase
stated_phase None Allowed x = refl
stated_phase None (Denied rule) x = refl
stated_phase (Some statement) (Denied rule) x = refl
stated_phase (Some (StatesTopic None)) Allowed x = refl
stated_phase (Some (StatesTopic (Some w))) Allowed x = refl
stated_phase (Some (StatesMessage message)) Allowed x = refl
stated_phase (Some (UpdatesTopic topic)) Allowed x = refl
stated_phase (Some (UpdatesMessage message)) Allowed x = refl

stated_step : (a : Around) (v : View) (x : Client) (name : Option (List ℕ)) (o : Outcome)
    → Step a x.id (note.Will (who.Client x.id) name o) v x
stated_step a v x name o = record {
  phase = λ m fits. rw (same_self x.id, fits.states) (stated_phase (statement_of a.cause) o x);
  turn = tt;
}

goes_on_moved : (s : State) (from : Address) (statement : Statement) (due : List Message) (v : View)
    (x : Client) (name : Option (List ℕ))
    (o : Outcome)
    (turn : Bool) → Shown due v x
    → let y : Client = record x { heard = s.clock } in
    Moved (around s (ByMessage from (ToState statement))) x.id due
    (note.Will (who.Client x.id) name o ∷ (if turn then dialogue_goes_on s.policy statement x o else [])) v y
goes_on_moved s from statement due v x name Allowed true shown =
    let a = around s (ByMessage from (ToState statement)) in
    let y : Client = record x { heard = s.clock } in
    (stated_step a v y name Allowed, handed_moved a due v (stated statement y) shown)
goes_on_moved s from statement due v x name (Denied rule) true shown =
    let a = around s (ByMessage from (ToState statement)) in
    let y : Client = record x { heard = s.clock } in
    (stated_step a v y name (Denied rule), left_moved a x.id due v y shown)
goes_on_moved s from statement due v x name Allowed false shown = (
  stated_step (around s (ByMessage from (ToState statement))) v
      (record x { heard = s.clock }) name Allowed,
  shown,
)
goes_on_moved s from statement due v x name (Denied rule) false shown = (
  stated_step (around s (ByMessage from (ToState statement))) v (record x { heard = s.clock }) name
      (Denied rule),
  shown,
)

pub statement_moved : (s : State) (from : Address) (statement : Statement) (due : List Message) (v : View)
    (x : Client) → Shown due v x
    → Moved (around s (ByMessage from (ToState statement))) x.id due (statement_notes s.policy statement x) v
    (record x { heard = s.clock })
statement_moved s from (StatesTopic topic) due v x shown =
    let st = StatesTopic topic in
    goes_on_moved s from st due v x (statement_object s.policy st x) (statement_verdict s.policy st x)
    (is_allowed (statement_turn st x)) shown
statement_moved s from (StatesMessage message) due v x shown =
    let st = StatesMessage message in
    goes_on_moved s from st due v x (statement_object s.policy st x) (statement_verdict s.policy st x)
    (is_allowed (statement_turn st x)) shown
statement_moved s from (UpdatesTopic topic) due v x shown =
    let st = UpdatesTopic topic in
    goes_on_moved s from st due v x (statement_object s.policy st x)
    (statement_verdict s.policy st x) false shown
statement_moved s from (UpdatesMessage message) due v x shown =
    let st = UpdatesMessage message in
    goes_on_moved s from st due v x (statement_object s.policy st x)
    (statement_verdict s.policy st x) false shown

-- ---- a REGACK and a PUBACK

-- what a REGACK answers that has its turn
record Answered (o : Option Opening) (told : List (List ℕ)) (r : TopicAck) : Type 0 where
  name : List ℕ
  opened : o ≡ Some (Announced name)
  id : id_told name told ≡ r.topic_id

sent_answered : (name : List ℕ) (told : List (List ℕ)) (number : ℕ) (last : Last) (r : TopicAck)
    → answers_announcement (exchange_shown (Some (Announced name)) told number last) r ≡ true
    → Answered (Some (Announced name)) told r
sent_answered name told number last r is =
    let same : (id_told name told == r.topic_id) ≡ true =
    (both_true (id_told name told == r.topic_id) (number == r.msg_id) is).0 in
    let equal : id_told name told ≡ r.topic_id = grind (arith, nat_tests, same) in
    record { name = name; opened = refl; id = equal }

shown_answered : (o : Option Opening) (told : List (List ℕ)) (number : ℕ) (last : Last) (r : TopicAck)
    → answers_announcement (exchange_shown o told number last) r ≡ true → Answered o told r
shown_answered None told number last r turn = absurd cc
shown_answered (Some (Announced name)) told number last r turn = sent_answered name told number last r turn
shown_answered (Some (HandedOver m)) told number last r turn = absurd cc

answered : (due : List Message) (v : View) (x : Client) (r : TopicAck) → Shown due v x
    → answers_announcement x.buffer.exchange r ≡ true
    → Answered v.progress.unanswered v.told r
answered due v x r shown turn =
    shown_answered v.progress.unanswered v.told x.number v.last r
    (ap (λ e. answers_announcement e r) (sym shown.exchange) ∙ turn)

-- what a REGACK in turn that accepts the id shows
abbrev pub confirmed_view : View → View
confirmed_view v = record (closed_view v) { known = with_name (name_announced v.progress.unanswered) v.known }

confirmed_shown : (due : List Message) (v : View) (x : Client) (r : TopicAck)
    → Answered v.progress.unanswered v.told r → Shown due v x
    → Shown due (confirmed_view v) (record (closed x) { ids = confirmed r.topic_id x.ids })
confirmed_shown due v x r is shown =
    let front : IsFor (Some (Announced is.name)) v.told x.buffer.waiting =
    subst (λ o. IsFor o v.told x.buffer.waiting) is.opened shown.front in
    let named : name_announced v.progress.unanswered ≡ Some is.name = ap name_announced is.opened in
    let f = confirmed_follows due v x.ids x.number x.buffer is.name front.0 shown in
    subst
    (λ name. Follows due (record (closed_view v) { known = with_name name v.known })
    (confirmed r.topic_id x.ids) x.number
    (record x.buffer { exchange = None }))
    (sym named)
    (subst
    (λ k. Follows due (record (closed_view v) { known = with_name (Some is.name) v.known })
    (confirmed k x.ids) x.number
    (record x.buffer { exchange = None })) is.id f)

refused_waiting : (a : Around) (due : List Message) (v : View) (x : Client) (code : ℕ)
    (waiting : List Message) (name : List ℕ)
    → (is_at_regack (occasion_by a.cause) code && is_judged_again (at v x)) ≡ true
    → x.buffer.waiting ≡ waiting → IsFront name waiting
    → awaits_ack x.buffer.exchange ≡ false → Shown due v x
    → Moved a x.id due (refusals x.id code waiting
    ++ handed_over a.policy (record x { buffer = settle x.buffer })) v x
refused_waiting a due v x code [] name so is front unawaited shown = absurd front
refused_waiting a due v x code (m ∷ more) name so is front unawaited shown =
    let e = x.buffer.exchange in
    let y : Client = record x { buffer = idle_with more } in
    let full : x.buffer ≡ record { waiting = m ∷ more; exchange = e } =
    ap (λ w. let b : Buffer = record { waiting = w; exchange = e } in b) is in
    let settled : settle x.buffer ≡ idle_with more = ap settle full ∙ rw unawaited refl in
    subst (λ b. Moved a x.id due (note.Hand x.id m.name (Denied (Peer (ClientRefused code)))
    ∷ handed_over a.policy (record x { buffer = b })) v x)
    (sym settled)
    (denied_moved a x.id due (handed_over a.policy y) v x m more e (Peer (ClientRefused code)) refl
    so full unawaited shown
    (λ after. handed_moved a due (come_out v m.name (Denied (Peer (ClientRefused code)))) y after))

-- the announced front may be refused
refusable : (a : Around) (v : View) (x : Client) (r : TopicAck) (name : List ℕ)
    → occasion_by a.cause ≡ AtRegack r.code.0 → takes_messages x.phase ≡ true
    → v.progress.unanswered ≡ Some (Announced name)
    → (is_at_regack (occasion_by a.cause) r.code.0 && is_judged_again (at v x)) ≡ true
refusable a v x r name by takes opened =
    let same : (r.code.0 == r.code.0) ≡ true = grind (arith, nat_tests) in
    rw (by, same, taking_same x.phase, takes, opened) refl

refused_moved : (a : Around) (due : List Message) (v : View) (x : Client) (r : TopicAck)
    → occasion_by a.cause ≡ AtRegack r.code.0 → takes_messages x.phase ≡ true
    → answers_announcement x.buffer.exchange r ≡ true
    → Shown due v x
    → Moved a x.id due (refusals x.id r.code.0 x.buffer.waiting
    ++ handed_over a.policy (record x { buffer = settle x.buffer })) v x
refused_moved a due v x r by takes turn shown =
    let is = answered due v x r shown turn in
    let front : IsFor (Some (Announced is.name)) v.told x.buffer.waiting =
    subst (λ o. IsFor o v.told x.buffer.waiting) is.opened shown.front in
    refused_waiting a due v x r.code.0 x.buffer.waiting is.name (refusable a v x r is.name by takes is.opened)
    refl front.1
    (awaits_none x.buffer.exchange r turn) shown

-- a REGACK that has its turn, by whether it accepts the id
abbrev confirming : TopicAck → Bool → Client → Client
confirming r accepts x = if accepts then record (closed x) { ids = confirmed r.topic_id x.ids } else x

regack_moved : (a : Around) (due : List Message) (v : View) (x : Client) (r : TopicAck) (accepts : Bool)
    → occasion_by a.cause ≡ AtRegack r.code.0 → takes_messages x.phase ≡ true
    → answers_announcement x.buffer.exchange r ≡ true → Shown due v x
    → let notes = if accepts then handed_over a.policy
    (confirming r accepts x) else refusals x.id r.code.0 x.buffer.waiting
    ++ handed_over a.policy (record x { buffer = settle x.buffer }) in
    let w : View = if accepts then confirmed_view v else v in
    Moved a x.id due notes w (confirming r accepts x)
regack_moved a due v x r true by takes turn shown =
    let is = answered due v x r shown turn in
    handed_moved a due (confirmed_view v) (record (closed x) { ids = confirmed r.topic_id x.ids })
    (confirmed_shown due v x r is shown)
regack_moved a due v x r false by takes turn shown = refused_moved a due v x r by takes turn shown

pub confirm_moved : (a : Around) (due : List Message) (v : View) (x : Client) (heard : ℕ) (r : TopicAck)
    (turn accepts : Bool)
    → occasion_by a.cause ≡ AtRegack r.code.0 → is_confirming r x ≡ turn → (r.code.0 == 0) ≡ accepts
    → Shown due v x
    → let notes = if turn then confirmations a.policy r x else out_of_turn x.id in
    let y : Client = record x { heard = heard } in
    let z : Client = if turn then confirmed_with r y else y in
    Moved a x.id due notes (if accepts && turn then confirmed_view v else v) z
confirm_moved a due v x heard r true true by is code shown =
    let both = both_true (takes_messages x.phase) (answers_announcement x.buffer.exchange r) is in
    rw code (regack_moved a due v (record x { heard = heard }) r true by both.0 both.1 shown)
confirm_moved a due v x heard r true false by is code shown =
    let both = both_true (takes_messages x.phase) (answers_announcement x.buffer.exchange r) is in
    rw code (regack_moved a due v (record x { heard = heard }) r false by both.0 both.1 shown)
confirm_moved a due v x heard r false true by is code shown =
    (record { phase = λ m fits. refl; turn = tt }, shown)
confirm_moved a due v x heard r false false by is code shown =
    (record { phase = λ m fits. refl; turn = tt }, shown)

pub puback_moved : (a : Around) (due : List Message) (v : View) (x : Client) (turn : Bool) → Shown due v x
    → let notes = if turn then handed_over a.policy (closed x) else out_of_turn x.id in
    let y : Client = if turn then closed x else x in
    Moved a x.id due notes (if turn then closed_view v else v) y
puback_moved a due v x true shown =
    handed_moved a due (closed_view v) (closed x) (closed_follows due v x.ids x.number x.buffer shown)
puback_moved a due v x false shown = (record { phase = λ m fits. refl; turn = tt }, shown)
