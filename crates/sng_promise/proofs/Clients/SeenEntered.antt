-- One client as it states something of its will, and as it is let in: what is kept of it moves as what the
-- rows show of it.
use Rattle.std.proofs.Common.{◌≡◌, ℕ, Bool, true, false, List, [], ◌∷◌, refl, ap, sym, ◌∙◌, if◌then◌else◌}
use Rattle.std.proofs.Common.{subst}
use Rattle.std.specs.Prelude.{Option, Some, None}
use Rattle.sng_states.specs.declared.state.ClientState.{ClientState}
use Rattle.sng_frames.specs.declared.messages.connect.Connect.{Connect}
use Rattle.sng_book.specs.Denials.{is_allowed}
use Rattle.sng_book.specs.declared.address.Address.{Address}
use Rattle.sng_book.specs.declared.decision.Decision.{Decision}
use Rattle.sng_book.specs.declared.decision.Decision.TheVariants as note
use Rattle.sng_book.specs.declared.decision.Who.TheVariants as who
use Rattle.sng_book.specs.declared.outcome.Denial.{Denial}
use Rattle.sng_book.specs.declared.outcome.Outcome.{Outcome}
use Rattle.sng_book.specs.declared.outcome.Outcome.TheVariants.{Allowed, Denied}
use Rattle.sng_history.specs.Causes.{Statement, StatesTopic, StatesMessage, UpdatesTopic, UpdatesMessage}
use Rattle.sng_history.specs.Causes.{ByConnect, ByMessage}
use Rattle.sng_history.specs.Causes.{ToState}
use Rattle.sng_history.specs.Clients.{Client, Around, let_in, stated, stated_by, notes_by, is_drained, gone}
use Rattle.sng_history.specs.Outgoing.{all_gone, handed_over}
use Rattle.sng_history.specs.State.{State}
use Rattle.sng_history.specs.Lawful.{entering_notes}
use Rattle.sng_laws.specs.ViewsMessages.{Message as Spoken, Connects, States}
use Rattle.sng_laws.specs.ViewsClients.{phase_by, phase_entered}
use Rattle.sng_history.specs.WillAsks.{statement_turn, statement_verdict, statement_object, dialogue_goes_on}
use Rattle.sng_history.specs.WillAsks.{statement_notes}
use Rattle.sng_history.proofs.Own.{same_self}
use Rattle.sng_history.proofs.Hands.{every_handed, every_gone, every_if}
use Rattle.sng_promise.proofs.Clients.SeenClients.{Before, Shows, kept_of, heard_if, silent}
use Rattle.sng_promise.proofs.Clients.SeenUnmoved.{Ends, Unseen, ends_each}
use Rattle.sng_promise.proofs.Clients.SeenUnmoved.{unseen_messages}
use Rattle.sng_promise.proofs.Clients.SeenLeft.{shows_more, leave_shows}
use Rattle.sng_states.specs.declared.state.ClientState.TheVariants.{Active, Awake, Dialogue, Disconnected}

-- what is shown of the client by its statement
will_shows : (b : Before) (x : Client) (statement : Statement) (name : Option (List ℕ)) (o : Outcome)
    → b.message ≡ Some (States statement)
    → Shows x.id b [] x → Shows x.id b (note.Will (who.Client x.id) name o ∷ [])
    (stated_by (Some statement) o x)
will_shows b x statement name (Denied rule) is shown = rw (same_self x.id) shown
will_shows b x (StatesTopic None) name Allowed is shown =
    rw (same_self x.id, is) (refl, shown.1, shown.2, shown.3)
will_shows b x (StatesTopic (Some w)) name Allowed is shown = rw (same_self x.id, is) shown
will_shows b x (StatesMessage message) name Allowed is shown =
    rw (same_self x.id, is) (refl, shown.1, shown.2, shown.3)
will_shows b x (UpdatesTopic topic) name Allowed is shown = rw (same_self x.id, is) shown
will_shows b x (UpdatesMessage message) name Allowed is shown = rw (same_self x.id, is) shown

abbrev will_around : State → Address → Statement → Around
will_around s from statement =
    record { policy = s.policy; clock = s.clock; cause = ByMessage from (ToState statement) }

abbrev will_before : State → Address → Statement → Client → Before
will_before s from statement x = kept_of x (Some (States statement)) (Some from) None s.clock true

-- the dialogue goes on, or is over
goes_on_shows : (s : State) (from : Address) (statement : Statement) (x : Client) (name : Option (List ℕ))
    (o : Outcome) (turn : Bool)
    → let a = will_around s from statement in
    let n =
    note.Will (who.Client x.id) name o ∷ (if turn then dialogue_goes_on s.policy statement x o else []) in
    Shows x.id (will_before s from statement x) n (notes_by a n (heard_if true s.clock x))
goes_on_shows s from statement x name Allowed turn =
    let a = will_around s from statement in
    let b = will_before s from statement x in
    let y = stated statement (heard_if true s.clock x) in
    let more = if turn then handed_over s.policy (stated statement x) else [] in
    shows_more x.id b a (note.Will (who.Client x.id) name Allowed) more y
    (will_shows b (heard_if true s.clock x) statement name Allowed refl (refl, refl, refl, refl))
    (ends_each x.id a more y
    (every_if (Unseen a) turn (handed_over s.policy (stated statement x))
    (every_handed (Unseen a) s.policy (stated statement x) (unseen_messages a x.id))))
goes_on_shows s from statement x name (Denied rule) true =
    let a = will_around s from statement in
    let b = will_before s from statement x in
    let more = note.Left x.id ∷ all_gone x.id x.buffer.waiting in
    let Then : Option ClientState → Type 0 =
    λ phase. Shows x.id (let c : Before = record b { phase = phase } in c) more
    (notes_by a more (heard_if true s.clock x)) in
    let still : phase_by (Some (States statement)) x.id (note.Will (who.Client x.id) name (Denied rule))
    (Some x.phase) ≡ Some x.phase =
    rw (same_self x.id) refl in
    subst Then (sym still) (leave_shows a x (Some (States statement)) (Some from) None true)
goes_on_shows s from statement x name (Denied rule) false =
    will_shows (will_before s from statement x) (heard_if true s.clock x) statement name (Denied rule) refl
    (refl, refl, refl, refl)

spoken_shows : (s : State) (from : Address) (statement : Statement) (x : Client)
    → let a = will_around s from statement in
    let n = statement_notes s.policy statement x in
    Shows x.id (will_before s from statement x) n (notes_by a n (heard_if true s.clock x))
spoken_shows s from (StatesTopic topic) x =
    let st = StatesTopic topic in
    goes_on_shows s from st x (statement_object s.policy st x) (statement_verdict s.policy st x)
    (is_allowed (statement_turn st x))
spoken_shows s from (StatesMessage message) x =
    let st = StatesMessage message in
    goes_on_shows s from st x (statement_object s.policy st x) (statement_verdict s.policy st x)
    (is_allowed (statement_turn st x))
spoken_shows s from (UpdatesTopic topic) x =
    let st = UpdatesTopic topic in
    will_shows (will_before s from st x) (heard_if true s.clock x) st (statement_object s.policy st x)
    (statement_verdict s.policy st x) refl
    (refl, refl, refl, refl)
spoken_shows s from (UpdatesMessage message) x =
    let st = UpdatesMessage message in
    will_shows (will_before s from st x) (heard_if true s.clock x) st (statement_object s.policy st x)
    (statement_verdict s.policy st x) refl
    (refl, refl, refl, refl)

pub statement_shows : (s : State) (from : Address) (statement : Statement) (x : Client) (here : Bool)
    → let a = will_around s from statement in
    let n = if here then statement_notes s.policy statement x else [] in
    Shows x.id (kept_of x (Some (States statement)) (Some from) None s.clock here) n
    (notes_by a n (heard_if here s.clock x))
statement_shows s from statement x true = spoken_shows s from statement x
statement_shows s from statement x false = (refl, refl, refl, refl)

-- ---- it is let in

record LetIn (clock : ℕ) (from : Address) (connect : Connect) (y : Client) : Type 0 where
  phase : y.phase ≡ phase_entered (Some connect)
  address : y.address ≡ from
  duration : y.duration ≡ connect.duration
  heard : y.heard ≡ clock

let_in_as : (clock : ℕ) (from : Address) (connect : Connect) (x : Client)
    → LetIn clock from connect (let_in clock from connect x)
let_in_as clock from connect x = by_both connect.flags.clean connect.flags.will refl refl
  where
    by_both : (clean will : Bool) → connect.flags.clean ≡ clean → connect.flags.will ≡ will
        → LetIn clock from connect (let_in clock from connect x)
    by_both true true one two =
        rw (one, two) (record { phase = refl; address = refl; duration = refl; heard = refl })
    by_both true false one two =
        rw (one, two) (record { phase = refl; address = refl; duration = refl; heard = refl })
    by_both false true one two =
        rw (one, two) (record { phase = refl; address = refl; duration = refl; heard = refl })
    by_both false false one two =
        rw (one, two) (record { phase = refl; address = refl; duration = refl; heard = refl })

-- the client whose CONNECT is accepted, whatever was shown before
pub let_in_shows : (b : Before) (id : List ℕ) (clock : ℕ) (from : Address) (connect : Connect) (x : Client)
    → b.message ≡ Some (Connects connect) → b.from ≡ Some from → b.stated ≡ Some connect.duration
    → b.clock ≡ clock
    → Shows id b (note.Connect id Allowed ∷ []) (let_in clock from connect x)
let_in_shows b id clock from connect x comes at states now =
    let is = let_in_as clock from connect x in
    rw (same_self id, comes) (
      sym (ap Some is.phase),
      at ∙ sym (ap Some is.address),
      states ∙ sym (ap Some is.duration),
      ap Some now ∙ sym (ap Some is.heard),
    )

refused_shows : (x : Client) (m : Option Spoken) (from : Option Address) (stated : Option ℕ) (clock : ℕ)
    (rule : Denial) (spoke : Bool)
    → Shows x.id (kept_of x m from stated clock spoke) (note.Connect x.id (Denied rule) ∷ [])
    (heard_if spoke clock x)
refused_shows x m from stated clock rule true = rw (same_self x.id) (refl, refl, refl, refl)
refused_shows x m from stated clock rule false = rw (same_self x.id) (refl, refl, refl, refl)

abbrev entry_around : State → Address → Connect → Around
entry_around s from connect = record { policy = s.policy; clock = s.clock; cause = ByConnect from connect }

abbrev entry_notes : State → Address → Connect → Client → Bool → Bool → Outcome → List Decision
entry_notes s from connect x own here o =
    if own
    then note.Connect x.id o ∷ entering_notes s from connect x o
    else (if is_allowed o then (if here then note.Left x.id ∷ all_gone x.id x.buffer.waiting else []) else [])

-- what waits for it is gone, or is handed over
entering_ends : (s : State) (from : Address) (connect : Connect) (x y : Client)
    → Ends x.id (entry_around s from connect) y (entering_notes s from connect x Allowed)
entering_ends s from connect x y = by_clean connect.flags.clean
  where
    by_clean : (clean : Bool)
        → Ends x.id (entry_around s from connect) y
        (if clean then all_gone x.id x.buffer.waiting
        else handed_over s.policy (let_in s.clock from connect x))
    by_clean true =
        let a = entry_around s from connect in
        ends_each x.id a (all_gone x.id x.buffer.waiting) y
        (every_gone (Unseen a) x.id x.buffer.waiting (unseen_messages a x.id))
    by_clean false =
        let a = entry_around s from connect in
        let z = let_in s.clock from connect x in
        ends_each x.id a (handed_over s.policy z) y
        (every_handed (Unseen a) s.policy z (unseen_messages a z.id))

pub connect_shows : (s : State) (from : Address) (connect : Connect) (x : Client) (own here : Bool)
    (o : Outcome)
    → let n = entry_notes s from connect x own here o in
    Shows x.id (kept_of x (Some (Connects connect)) (Some from) (Some connect.duration) s.clock here) n
    (notes_by (entry_around s from connect) n (heard_if here s.clock x))
connect_shows s from connect x true here Allowed =
    let b = kept_of x (Some (Connects connect)) (Some from) (Some connect.duration) s.clock here in
    let y = let_in s.clock from connect (heard_if here s.clock x) in
    shows_more x.id b (entry_around s from connect) (note.Connect x.id Allowed)
    (entering_notes s from connect x Allowed) y
    (let_in_shows b x.id s.clock from connect (heard_if here s.clock x) refl refl refl refl)
    (entering_ends s from connect x y)
connect_shows s from connect x true here (Denied rule) =
    refused_shows x (Some (Connects connect)) (Some from) (Some connect.duration) s.clock rule here
connect_shows s from connect x false here Allowed =
    leave_shows (entry_around s from connect) x (Some (Connects connect)) (Some from)
    (Some connect.duration) here
connect_shows s from connect x false here (Denied rule) =
    silent x (Some (Connects connect)) (Some from) (Some connect.duration) s.clock here

-- who connects is not awake then, nor is who leaves; for anybody else nothing changes
same_drained : (x : Client) (here : Bool) (clock : ℕ) → is_drained x ≡ false
    → is_drained (heard_if here clock x) ≡ false
same_drained x true clock busy = busy
same_drained x false clock busy = busy

entered_awake : (will : Bool) → (if will then Dialogue else Active) ≡ Awake → ⊥
entered_awake true is = absurd cc
entered_awake false is = absurd cc

pub let_in_awake : (clock : ℕ) (from : Address) (connect : Connect) (x : Client)
    → (let_in clock from connect x).phase ≡ Awake → ⊥
let_in_awake clock from connect x is =
    entered_awake connect.flags.will (sym (let_in_as clock from connect x).phase ∙ is)

pub connect_busy : (s : State) (from : Address) (connect : Connect) (x : Client) (own here : Bool)
    (o : Outcome) → is_drained x ≡ false
    → let n = entry_notes s from connect x own here o in
    let z = notes_by (entry_around s from connect) n (heard_if here s.clock x) in
    z.phase ≡ Awake → is_drained z ≡ false
connect_busy s from connect x true here Allowed busy is =
    let y = let_in s.clock from connect (heard_if here s.clock x) in
    let ends = entering_ends s from connect x y in
    absurd
    (entered_awake connect.flags.will
    (sym (ends.alike.phase ∙ (let_in_as s.clock from connect (heard_if here s.clock x)).phase) ∙ is))
connect_busy s from connect x true here (Denied rule) busy is = same_drained x here s.clock busy
connect_busy s from connect x false true Allowed busy is =
    let a = entry_around s from connect in
    let y = gone (heard_if true s.clock x) in
    let more = all_gone x.id x.buffer.waiting in
    let ends =
    ends_each x.id a more y (every_gone (Unseen a) x.id x.buffer.waiting (unseen_messages a x.id)) in
    let bad : Disconnected ≡ Awake = sym ends.alike.phase ∙ is in absurd cc
connect_busy s from connect x false false Allowed busy is = busy
connect_busy s from connect x false here (Denied rule) busy is = same_drained x here s.clock busy
