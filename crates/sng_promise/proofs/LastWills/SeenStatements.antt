-- What is kept of a client's will after a message is what the rows show of it.
use Rattle.std.proofs.Common.{◌≡◌, ℕ, Bool, true, false, List, [], ◌∷◌, refl, ◌∙◌, subst}
use Rattle.std.proofs.Common.{if◌then◌else◌}
use Rattle.std.specs.Prelude.{Option, Some, None, not}
use Rattle.sng_frames.specs.declared.messages.connect.Connect.{Connect}
use Rattle.sng_frames.specs.declared.frame.SnFrame.{SnFrame}
use Rattle.sng_frames.specs.declared.frame.SnFrame.TheVariants as frame
use Rattle.sng_grants.specs.declared.policy.Policy.{Policy}
use Rattle.sng_fan.specs.declared.held.Held.{Held}
use Rattle.sng_book.specs.Denials.{is_allowed}
use Rattle.sng_book.specs.declared.address.Address.{Address}
use Rattle.sng_book.specs.declared.decision.Decision.{Decision}
use Rattle.sng_book.specs.declared.decision.Decision.TheVariants as note
use Rattle.sng_book.specs.declared.decision.Who.{Who}
use Rattle.sng_book.specs.declared.decision.Who.TheVariants as who
use Rattle.sng_book.specs.declared.outcome.Denial.{Denial}
use Rattle.sng_book.specs.declared.outcome.Denial.TheVariants.{Form, Peer}
use Rattle.sng_book.specs.declared.outcome.FormDenial.TheVariants.{NotSupported}
use Rattle.sng_book.specs.declared.outcome.PeerDenial.TheVariants.{BrokerRefused}
use Rattle.sng_book.specs.declared.outcome.Outcome.{Outcome}
use Rattle.sng_book.specs.declared.outcome.Outcome.TheVariants.{Allowed, Denied}
use Rattle.sng_history.specs.Causes.{Statement, StatesTopic, StatesMessage, UpdatesTopic, UpdatesMessage}
use Rattle.sng_history.specs.Causes.{statement_asked, ToSleep}
use Rattle.sng_history.specs.Causes.{Request, ToPing, ToLeave, ToRegister, ToPublish, ToSubscribe}
use Rattle.sng_history.specs.Causes.{ToUnsubscribe, ToConfirm, ToAcknowledge}
use Rattle.sng_history.specs.Causes.{ToState, Untaken}
use Rattle.sng_history.specs.Causes.{ByConnect, ByMessage}
use Rattle.sng_history.specs.Causes.{ToPublishOnce, ToRelease}
use Rattle.sng_history.specs.Clients.{Around, Client, is_confirming, is_acknowledging}
use Rattle.sng_history.specs.Clients.{closed, let_in}
use Rattle.sng_history.specs.Clients.{stated, note_by, notes_by}
use Rattle.sng_history.specs.Answers.{denied_note}
use Rattle.sng_history.specs.Outgoing.{out_of_turn, all_gone, handed_over}
use Rattle.sng_history.specs.Standing.{holds}
use Rattle.sng_history.specs.State.{State, around}
use Rattle.sng_history.specs.Verdicts.{ping_verdict, coverage, is_active, is_repeat, publish_once_ask}
use Rattle.sng_history.specs.WillAsks.{turn, statement_turn, statement_verdict, statement_object}
use Rattle.sng_history.specs.WillAsks.{dialogue_goes_on, statement_notes}
use Rattle.sng_history.specs.WillAsks.{statement_ask, statement_read, topic_at, topic_read, topic_granted}
use Rattle.sng_history.specs.Lawful.{confirmations, entering_notes, denial_of, end_of, ends_under}
use Rattle.sng_history.specs.Lawful.{refused_end, fixed_to}
use Rattle.sng_history.specs.Lawful.{woken_notes}
use Rattle.sng_laws.specs.ViewsMessages.{Message as Spoken, statement_in}
use Rattle.sng_laws.specs.ViewsWills.{Stating, stating_by}
use Rattle.sng_history.proofs.Own.{same_self}
use Rattle.sng_history.proofs.Asks.{of_register, of_publish, of_subscribe, of_unsubscribe, of_publish_once}
use Rattle.sng_history.proofs.Hands.{Every, every_append, every_if, every_handed, every_gone}
use Rattle.sng_history.proofs.Hands.{every_confirmation}
use Rattle.sng_history.proofs.Hands.{every_woken}
use Rattle.sng_promise.proofs.Handing.SeenHandingNotes.{Fits}
use Rattle.sng_history.proofs.Kept.{let_in_id}
use Rattle.sng_promise.proofs.LastWills.SeenWillsKept.{stating_notes, WilledAt, Keeps, keeps_all}
use Rattle.sng_promise.proofs.LastWills.SeenWillsKept.{keeps_subscribe, keeps_unsubscribe, keeps_publish}
use Rattle.sng_promise.proofs.LastWills.SeenWillsKept.{keeps_end, keeps_register, keeps_messages}
use Rattle.sng_promise.proofs.LastWills.SeenWillsKept.{keeps_denied, keeps_left, keeps_connect}
use Rattle.sng_promise.proofs.LastWills.SeenWills.{stated_willed}
use Rattle.sng_promise.proofs.LastWills.SeenWills.{both_so}
use Rattle.sng_states.specs.States.{is_due_messages}

-- ---- a statement

-- what comes behind a statement
keeps_goes_on : (a : Around) (m : Option Spoken) (policy : Policy) (statement : Statement) (x : Client)
    (o : Outcome)
    → Every (Keeps a m x.id) (dialogue_goes_on policy statement x o)
keeps_goes_on a m policy statement x Allowed =
    every_handed (Keeps a m x.id) policy (stated statement x) (keeps_messages a m x.id x.id)
keeps_goes_on a m policy statement x (Denied rule) =
    (keeps_left a m x.id, every_gone (Keeps a m x.id) x.id x.buffer.waiting (keeps_messages a m x.id x.id))

abbrev pub will_around : State → Address → Statement → Around
will_around s from statement =
    record { policy = s.policy; clock = s.clock; cause = ByMessage from (ToState statement) }

-- the statement itself, by its verdict
first_willed : (s : State) (from : Address) (statement : Statement) (m : Option Spoken) (x : Client)
    (now : Stating)
    (name : Option (List ℕ)) (o : Outcome)
    → (o ≡ Allowed → statement_turn statement x ≡ Allowed) → statement_in m ≡ Some statement → WilledAt x now
    → let a = will_around s from statement in
    let said = note.Will (who.Client x.id) name o in
    WilledAt (note_by a said x) (stating_by m x.id said now)
first_willed s from statement m x now name Allowed turn is willed =
    rw (same_self x.id, is) (stated_willed statement x now (turn refl) willed)
first_willed s from statement m x now name (Denied rule) turn is willed =
    keeps_denied (will_around s from statement) m x.id (who.Client x.id) name rule x now willed

turn_so : (policy : Policy) (statement : Statement) (x : Client)
    → statement_verdict policy statement x ≡ Allowed
    → statement_turn statement x ≡ Allowed
turn_so policy statement x is =
    (both_so (statement_turn statement x) (topic_read policy x.id (topic_at statement x))
    (both_so (statement_read policy statement x) (topic_granted policy x.id (topic_at statement x)) is).0).0

turn_heard : (statement : Statement) (x : Client) (heard : ℕ)
    → statement_turn statement (record x { heard = heard }) ≡ statement_turn statement x
turn_heard (StatesTopic topic) x heard = refl
turn_heard (StatesMessage message) x heard = refl
turn_heard (UpdatesTopic topic) x heard = refl
turn_heard (UpdatesMessage message) x heard = refl

spoken_willed : (s : State) (from : Address) (statement : Statement) (m : Option Spoken) (x : Client)
    (now : Stating) (more : List Decision)
    → statement_in m ≡ Some statement → Every (Keeps (will_around s from statement) m x.id) more
    → WilledAt x now
    → let a = will_around s from statement in
    let notes = statement_ask s.policy statement x ∷ more in
    WilledAt (notes_by a notes (record x { heard = s.clock })) (stating_notes m x.id notes now)
spoken_willed s from statement m x now more is every willed =
    let a = will_around s from statement in
    let y : Client = record x { heard = s.clock } in
    let said = statement_ask s.policy statement x in
    keeps_all a m x.id more (note_by a said y) (stating_by m x.id said now) every
    (first_willed s from statement m y now (statement_object s.policy statement x)
    (statement_verdict s.policy statement x)
    (λ allowed. turn_heard statement x s.clock ∙ turn_so s.policy statement x allowed) is
    (record { will = willed.will; stage = willed.stage; empty = willed.empty }))

pub statement_willed : (s : State) (from : Address) (statement : Statement) (m : Option Spoken) (x : Client)
    (now : Stating)
    → statement_in m ≡ Some statement → WilledAt x now
    → let a = will_around s from statement in
    WilledAt (notes_by a (statement_notes s.policy statement x) (record x { heard = s.clock }))
    (stating_notes m x.id (statement_notes s.policy statement x) now)
statement_willed s from (StatesTopic topic) m x now is willed =
    let st = StatesTopic topic in
    let o = statement_verdict s.policy st x in
    let a = will_around s from st in
    spoken_willed s from st m x now
    (if is_allowed (statement_turn st x) then dialogue_goes_on s.policy st x o else []) is
    (every_if (Keeps a m x.id) (is_allowed (statement_turn st x)) (dialogue_goes_on s.policy st x o)
    (keeps_goes_on a m s.policy st x o)) willed
statement_willed s from (StatesMessage message) m x now is willed =
    let st = StatesMessage message in
    let o = statement_verdict s.policy st x in
    let a = will_around s from st in
    spoken_willed s from st m x now
    (if is_allowed (statement_turn st x) then dialogue_goes_on s.policy st x o else []) is
    (every_if (Keeps a m x.id) (is_allowed (statement_turn st x)) (dialogue_goes_on s.policy st x o)
    (keeps_goes_on a m s.policy st x o)) willed
statement_willed s from (UpdatesTopic topic) m x now is willed =
    spoken_willed s from (UpdatesTopic topic) m x now [] is tt willed
statement_willed s from (UpdatesMessage message) m x now is willed =
    spoken_willed s from (UpdatesMessage message) m x now [] is tt willed

-- ---- any other message

pub keeps_ends : (a : Around) (m : Option Spoken) (id own : List ℕ) (policy : Policy) (held : List Held)
    → Every (Keeps a m id) (ends_under policy own held)
keeps_ends a m id own policy [] = tt
keeps_ends a m id own policy (h ∷ held) =
    every_append (Keeps a m id) (end_of own h.filter (coverage policy own h.filter))
    (ends_under policy own held)
    (by_outcome (coverage policy own h.filter)) (keeps_ends a m id own policy held)
  where
    by_outcome : (o : Outcome) → Every (Keeps a m id) (end_of own h.filter o)
    by_outcome Allowed = tt
    by_outcome (Denied rule) = (keeps_end a m id own h.filter (Denied rule), tt)

pub keeps_refused : (a : Around) (m : Option Spoken) (id : List ℕ) (x : Client) (text : Option (List ℕ))
    → Every (Keeps a m id) (refused_end x text)
keeps_refused a m id x None = tt
keeps_refused a m id x (Some text) =
    every_if (Keeps a m id) (holds text x) (note.End x.id text (Denied (Peer BrokerRefused)) ∷ [])
    (keeps_end a m id x.id text (Denied (Peer BrokerRefused)), tt)

keeps_still : (a : Around) (m : Option Spoken) (id : List ℕ) (message : SnFrame) (whom : Who) (rule : Denial)
    → Keeps a m id (denied_note message whom rule)
keeps_still a m id (frame.Connect connect) whom rule = λ x now willed. willed
keeps_still a m id (frame.Register r) whom rule = keeps_register a m id whom None (Denied rule)
keeps_still a m id (frame.Publish p) whom rule = keeps_publish a m id whom None (Denied rule)
keeps_still a m id (frame.Subscribe r) whom rule = keeps_subscribe a m id whom None (Denied rule)
keeps_still a m id (frame.Unsubscribe r) whom rule = keeps_unsubscribe a m id whom None (Denied rule)
keeps_still a m id (frame.WillTopic topic) whom rule = keeps_denied a m id whom None rule
keeps_still a m id (frame.WillMessage message) whom rule = keeps_denied a m id whom None rule
keeps_still a m id (frame.WillTopicUpdate topic) whom rule = keeps_denied a m id whom None rule
keeps_still a m id (frame.WillMessageUpdate message) whom rule = keeps_denied a m id whom None rule
keeps_still a m id _ whom rule = λ x now willed. willed

keeps_denial : (a : Around) (m : Option Spoken) (id : List ℕ) (o : Outcome)
    → Every (Keeps a m id) (denial_of id o)
keeps_denial a m id Allowed = tt
keeps_denial a m id (Denied rule) = ((λ x now willed. willed), tt)

keeps_answered : (a : Around) (m : Option Spoken) (id : List ℕ) (notes : List Decision) (b : Bool)
    → Every (Keeps a m id) notes
    → Every (Keeps a m id) (if b then notes else out_of_turn id)
keeps_answered a m id notes true every = every
keeps_answered a m id notes false every = ((λ x now willed. willed), tt)

keeps_asleep : (a : Around) (m : Option Spoken) (id : List ℕ) (b : Bool)
    → Every (Keeps a m id) (if b then [] else out_of_turn id)
keeps_asleep a m id true = tt
keeps_asleep a m id false = ((λ x now willed. willed), tt)

pub keeps_to : (s : State) (a : Around) (m : Option Spoken) (request : Request) (x : Client)
    → statement_asked request ≡ None
    → Every (Keeps a m x.id) (fixed_to s request x)
keeps_to s a m (ToPing client) x none =
    every_append (Keeps a m x.id) (denial_of x.id (ping_verdict client x)) (woken_notes s.policy client x)
    (keeps_denial a m x.id (ping_verdict client x))
    (every_woken (Keeps a m x.id) s.policy client x (keeps_messages a m x.id x.id))
keeps_to s a m (ToSleep duration) x none = keeps_asleep a m x.id (is_due_messages x.phase)
keeps_to s a m ToLeave x none =
    (keeps_left a m x.id, every_gone (Keeps a m x.id) x.id x.buffer.waiting (keeps_messages a m x.id x.id))
keeps_to s a m (ToRegister r) x none = (
  of_register (Keeps a m x.id) s.policy x r.name
      (λ name o. keeps_register a m x.id (who.Client x.id) name o),
  tt,
)
keeps_to s a m (ToPublish p) x none =
    (of_publish (Keeps a m x.id) s x p (λ name o. keeps_publish a m x.id (who.Client x.id) name o), tt)
keeps_to s a m (ToPublishOnce p) x none =
    every_if (Keeps a m x.id) (not (is_repeat p x)) (publish_once_ask s x p ∷ []) (
      of_publish_once (Keeps a m x.id) s x p (λ name o. keeps_publish a m x.id (who.Client x.id) name o),
      tt,
    )
keeps_to s a m (ToRelease n) x none = keeps_asleep a m x.id (is_active x.phase)
keeps_to s a m (ToSubscribe r) x none =
    (of_subscribe (Keeps a m x.id) s x r (λ text o. keeps_subscribe a m x.id (who.Client x.id) text o), tt)
keeps_to s a m (ToUnsubscribe r) x none = (
  of_unsubscribe (Keeps a m x.id) s.policy x r
      (λ text o. keeps_unsubscribe a m x.id (who.Client x.id) text o),
  tt,
)
keeps_to s a m (ToConfirm r) x none =
    keeps_answered a m x.id (confirmations s.policy r x) (is_confirming r x)
    (every_confirmation (Keeps a m x.id) s.policy r x (keeps_messages a m x.id x.id))
keeps_to s a m (ToAcknowledge r) x none =
    keeps_answered a m x.id (handed_over s.policy (closed x)) (is_acknowledging r x)
    (every_handed (Keeps a m x.id) s.policy (closed x) (keeps_messages a m x.id x.id))
keeps_to s a m (ToState statement) x none = absurd cc
keeps_to s a m (Untaken message) x none =
    (keeps_still a m x.id message (who.Client x.id) (Form NotSupported), tt)

keeps_entering : (s : State) (a : Around) (m : Option Spoken) (from : Address) (connect : Connect)
    (x : Client) (o : Outcome)
    → Every (Keeps a m x.id) (entering_notes s from connect x o)
keeps_entering s a m from connect x (Denied rule) = tt
keeps_entering s a m from connect x Allowed = by_clean connect.flags.clean
  where
    by_clean : (clean : Bool)
        → Every (Keeps a m x.id) (if clean then all_gone x.id x.buffer.waiting
        else handed_over s.policy (let_in s.clock from connect x))
    by_clean true = every_gone (Keeps a m x.id) x.id x.buffer.waiting (keeps_messages a m x.id x.id)
    by_clean false =
        let y = let_in s.clock from connect x in
        subst (λ id. Every (Keeps a m id) (handed_over s.policy y)) (let_in_id s.clock from connect x)
        (every_handed (Keeps a m y.id) s.policy y (keeps_messages a m y.id y.id))

pub keeps_connects : (s : State) (from : Address) (connect : Connect) (m : Option Spoken) (x : Client)
    (own here : Bool) (o : Outcome)
    → Fits (ByConnect from connect) m
    → Every (Keeps (around s (ByConnect from connect)) m x.id)
    (if own
    then note.Connect x.id o ∷ entering_notes s from connect x o
    else (if is_allowed o then (if here then note.Left x.id ∷ all_gone x.id x.buffer.waiting else [])
    else []))
keeps_connects s from connect m x true here o fits = (
  keeps_connect s.policy s.clock from connect m x.id o fits,
  keeps_entering s (around s (ByConnect from connect)) m from connect x o,
)
keeps_connects s from connect m x false here o fits =
    let a = around s (ByConnect from connect) in
    let leaves = note.Left x.id ∷ all_gone x.id x.buffer.waiting in
    every_if (Keeps a m x.id) (is_allowed o) (if here then leaves else [])
    (every_if (Keeps a m x.id) here leaves
    (keeps_left a m x.id, every_gone (Keeps a m x.id) x.id x.buffer.waiting (keeps_messages a m x.id x.id)))
