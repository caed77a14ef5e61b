-- The rows show nothing of a client that was never accepted.
use Rattle.std.proofs.Common.{◌≡◌, ℕ, Bool, true, false, List, [], ◌∷◌, ◌++◌, refl, ap, sym, ◌∙◌, subst}
use Rattle.std.proofs.Common.{if◌then◌else◌}
use Rattle.std.specs.Prelude.{◌&&◌, ◌||◌, None, Option}
use Rattle.std.specs.List.{flat_map}
use Rattle.std.specs.Str.{bytes_eq}
use Rattle.sng_frames.specs.declared.messages.connect.Connect.{Connect}
use Rattle.sng_queue.specs.Messages.{Message}
use Rattle.sng_book.specs.declared.address.Address.{Address}
use Rattle.sng_book.specs.declared.decision.Decision.{Decision}
use Rattle.sng_book.specs.declared.decision.Decision.TheVariants as note
use Rattle.sng_book.specs.declared.decision.Who.TheVariants as who
use Rattle.sng_book.specs.declared.outcome.Denial.{Denial}
use Rattle.sng_book.specs.declared.outcome.Outcome.{Outcome}
use Rattle.sng_book.specs.declared.outcome.Outcome.TheVariants.{Allowed, Denied}
use Rattle.sng_book.specs.declared.event.Event.{Event}
use Rattle.sng_book.specs.declared.event.Event.TheVariants.{Datagram, Broker, Up, Down, Take, Replace, Tick}
use Rattle.sng_book.specs.declared.out.Out.{Out}
use Rattle.sng_book.specs.declared.out.Out.TheVariants.{Note}
use Rattle.sng_book.specs.declared.row.Row.{Row}
use Rattle.sng_history.specs.Causes.{Cause, cause_of}
use Rattle.sng_history.specs.Causes.{ByConnect, ByMessage, BySource, ByBroken, ByPacket, ByUp, ByDown, ByTake}
use Rattle.sng_history.specs.Causes.{ByReplace, ByTick}
use Rattle.sng_history.specs.Clients.{Around}
use Rattle.sng_history.specs.Packets.{answer_of, answer_outs}
use Rattle.sng_history.specs.Standing.{Release}
use Rattle.sng_history.specs.Notes.{notes_of}
use Rattle.sng_history.specs.State.{State, around, is_known, later}
use Rattle.sng_history.specs.Verdicts.{entry}
use Rattle.sng_history.specs.Whole.{any_from, stranger_to, entry_outs}
use Rattle.sng_history.specs.Lawful.{fixed_for}
use Rattle.sng_history.specs.Good.{Each}
use Rattle.sng_history.specs.Steps.{notes_for, outs_by, outs_of}
use Rattle.sng_laws.specs.ViewsClients.{phase_of, is_admitted, phase_after, phase_spoken, own_message}
use Rattle.sng_laws.specs.ViewsClients.{is_ponged, put_to_sleep}
use Rattle.sng_laws.specs.ViewsClients.{address_of}
use Rattle.sng_laws.specs.ViewsMessages.{Message as Spoken, message_at}
use Rattle.sng_laws.specs.ViewsHanding.{brought_in, meant_in, is_turned_back, due_of, no_progress}
use Rattle.sng_history.proofs.Own.{OnlyAbout, notes_append, each_all, absent}
use Rattle.sng_history.proofs.Kept.{unknown_away}
use Rattle.sng_history.proofs.Spelled.{part_other}
use Rattle.sng_history.proofs.Told.{tells}
use Rattle.sng_history.proofs.SaysUpstream.{take_none, up_none, mute_packet, foreign_source, mute_ping}
use Rattle.sng_history.proofs.SaysParts.{part_for, drops_for, row_for, only_beside, only_entering, beside_for}
use Rattle.sng_history.proofs.SaysParts.{entering_for}
use Rattle.sng_history.proofs.SaysConnect.{accepted_notes}
use Rattle.sng_history.proofs.Says.{mute_stranger}
use Rattle.sng_promise.proofs.Clients.LawStrangers.{none_meant, no_more}
use Rattle.sng_promise.proofs.Clients.SeenNotes.{phase_notes, phase_by_notes}
use Rattle.sng_promise.proofs.Handing.SeenFollows.{View}
use Rattle.sng_promise.proofs.Handing.SeenHandingNotes.{view_notes}
use Rattle.sng_promise.proofs.Handing.SeenViewNotes.{view_of}
use Rattle.sng_promise.proofs.Handing.SeenViews.{view_start, row_view, InForce}
use Rattle.sng_history.specs.Ticking.{with_wills, ping_dropped}
use Rattle.sng_laws.specs.ViewsWills.{Stating, nothing_stated, stating_of}
use Rattle.sng_promise.proofs.LastWills.SeenWillsKept.{stating_notes, stating_by_notes}
use Rattle.sng_laws.specs.ViewsSendings.{never}

-- ---- a row has no note of a client that is not known, unless it refuses its CONNECT

-- its notes show nothing
pub record Idle (id : List ℕ) (notes : List Decision) : Type 0 where
  pub view : (a : Around) (due : List Message) (v : View) → view_notes a id due notes v ≡ v
  pub phase : (m : Option Spoken) → phase_notes m id notes None ≡ None
  pub stating : (m : Option Spoken) (now : Stating) → stating_notes m id notes now ≡ now

none_idle : (id : List ℕ) (notes : List Decision) → notes ≡ [] → Idle id notes
none_idle id notes is =
    subst (Idle id) (sym is) (record { view = λ a due v. refl; phase = λ m. refl; stating = λ m now. refl })

refused_by : (id client : List ℕ) (rule : Denial) (b : Bool) → bytes_eq id client ≡ b
    → Idle id (if b then note.Connect client (Denied rule) ∷ [] else [])
refused_by id client rule true is =
    record { view = λ a due v. rw is refl; phase = λ m. rw is refl; stating = λ m now. rw is refl }
refused_by id client rule false is =
    record { view = λ a due v. refl; phase = λ m. refl; stating = λ m now. refl }

only_about : (s : State) (c : Cause) (dropped : List Release)
    → Each (OnlyAbout (part_for s c dropped)) s.clients
only_about s c dropped =
    each_all (OnlyAbout (part_for s c dropped)) s.clients
    (λ x id other. part_other (around s c) dropped (fixed_for s c x) x id other (tells s c x))

pub parts_none : (s : State) (c : Cause) (dropped : List Release) (id : List ℕ)
    → is_known id s.clients ≡ false
    → notes_of id (flat_map (part_for s c dropped) s.clients) ≡ []
parts_none s c dropped id unknown =
    absent (part_for s c dropped) id s.clients (only_about s c dropped) (unknown_away id s.clients unknown)

pub frame_none : (s : State) (c : Cause) (stranger : List Out) (id : List ℕ) (any : Bool)
    → any_from c s.clients ≡ any
    → is_known id s.clients ≡ false → notes_of id stranger ≡ []
    → notes_of id (row_for s c stranger) ≡ []
frame_none s c stranger id true is unknown none = rw is (parts_none s c (drops_for s c) id unknown)
frame_none s c stranger id false is unknown none = rw is none

or_first : (b c : Bool) → ((b && true) || c) ≡ false → b ≡ false
or_first true c is = absurd cc
or_first false c is = refl

entry_idle : (s : State) (from : Address) (connect : Connect) (id : List ℕ) (o : Outcome)
    → is_known id s.clients ≡ false
    → is_admitted id (entry_outs s from connect (notes_for s (ByConnect from connect)) o) ≡ false
    → Idle id (notes_of id (entry_outs s from connect (notes_for s (ByConnect from connect)) o))
entry_idle s from connect id Allowed unknown none =
    let outs = entry_outs s from connect (notes_for s (ByConnect from connect)) Allowed in
    let away = unknown_away id s.clients unknown in
    let other : bytes_eq id connect.client_id ≡ false = or_first (bytes_eq id connect.client_id) _ none in
    none_idle id (notes_of id outs)
    (rw other (accepted_notes s from connect id
    ∙ rw (
      absent (beside_for s from connect) id s.clients (only_beside s from connect) away,
      absent (entering_for s from connect) id s.clients
          (only_entering s from connect) away,
    ) refl))
entry_idle s from connect id (Denied rule) unknown none = by_name (bytes_eq id connect.client_id) refl
  where
    by_name : (b : Bool) → bytes_eq id connect.client_id ≡ b
        → Idle id ((if b then note.Connect connect.client_id (Denied rule) ∷ [] else []) ++ [])
    by_name true is = refused_by id connect.client_id rule true is
    by_name false is = refused_by id connect.client_id rule false is

row_idle : (s : State) (c : Cause) (id : List ℕ) → is_known id s.clients ≡ false
    → is_admitted id (outs_by s c) ≡ false
    → Idle id (notes_of id (outs_by s c))
row_idle s (ByConnect from connect) id unknown none =
    entry_idle s from connect id (entry s connect) unknown none
row_idle s (ByMessage from request) id unknown none =
    let c = ByMessage from request in
    none_idle id (notes_of id (outs_by s c))
    (frame_none s c (stranger_to from request) id (any_from c s.clients) refl unknown
    ((mute_stranger from request).notes id))
row_idle s (BySource from p) id unknown none =
    none_idle id (notes_of id (outs_by s (BySource from p))) ((foreign_source s from.ip p).notes id)
row_idle s (ByBroken from rule) id unknown none =
    let c = ByBroken from rule in
    none_idle id (notes_of id (outs_by s c))
    (frame_none s c (Note (note.Frame (who.Address from) (Denied rule)) ∷ []) id
    (any_from c s.clients) refl unknown refl)
row_idle s (ByPacket p) id unknown none =
    let c = ByPacket p in
    let own = flat_map (part_for s c []) s.clients in
    let rest = answer_outs s.policy.limits s.up s.link (answer_of p) in
    none_idle id (notes_of id (own ++ rest))
    (notes_append id own rest
    ∙ (ap (λ notes. notes ++ notes_of id rest) (parts_none s c [] id unknown)
    ∙ (mute_packet s.policy.limits s.up s.link (answer_of p)).notes id))
row_idle s ByUp id unknown none = none_idle id (notes_of id (outs_by s ByUp)) (up_none s id)
row_idle s ByDown id unknown none = none_idle id [] refl
row_idle s ByTake id unknown none = none_idle id (notes_of id (outs_by s ByTake)) (take_none s id s.up refl)
row_idle s (ByReplace policy) id unknown none =
    let c = ByReplace policy in
    none_idle id (notes_of id (outs_by s c)) (parts_none s c (drops_for s c) id unknown)
row_idle s (ByTick clock) id unknown none =
    let c = ByTick clock in
    let own = flat_map (part_for s c []) s.clients in
    let now = later s.clock clock in
    let link = with_wills s.policy.limits s.link now s.clients in
    none_idle id (notes_of id (own ++ ping_dropped s.policy.limits s.up link now))
    (notes_append id own (ping_dropped s.policy.limits s.up link now)
    ∙ (ap (λ notes. notes ++ notes_of id (ping_dropped s.policy.limits s.up link now)) (parts_none s c [] id unknown)
    ∙ (mute_ping s.policy.limits s.up link now).notes id))

-- ---- what the rows show of it

abbrev pub no_view : View
no_view = record { told = []; known = []; progress = no_progress; settled = []; last = never }

pub record Unheard (id : List ℕ) (h : List Row) : Type 0 where
  pub phase : phase_of id h ≡ None
  pub view : view_of id h ≡ no_view
  pub due : due_of id h ≡ []
  pub stating : stating_of id h ≡ nothing_stated

pub unheard_first : (id : List ℕ) → Unheard id []
unheard_first id = record { phase = refl; view = refl; due = refl; stating = refl }

-- it ends nothing and confirms nothing
pub start_none : (id : List ℕ) (e : Event) (h : List Row) → phase_of id h ≡ None
    → view_start id e h ≡ view_of id h
start_none id (Datagram from datagram) h away = rw away refl
start_none id (Broker packet) h away = refl
start_none id Up h away = refl
start_none id Down h away = refl
start_none id Take h away = refl
start_none id (Replace policy) h away = refl
start_none id (Tick clock) h away = refl

-- it says nothing
pub none_own : (place : Option Address) (e : Event) → own_message None place e ≡ None
none_own place (Datagram from datagram) = refl
none_own place (Broker packet) = refl
none_own place Up = refl
none_own place Down = refl
none_own place Take = refl
none_own place (Replace policy) = refl
none_own place (Tick clock) = refl

pub unheard_row : (by : ℕ) (h : List Row) (s : State) (e : Event) (id : List ℕ)
    → InForce (around s (cause_of e)) by h e (outs_of s e)
    → is_known id s.clients ≡ false → is_admitted id (outs_of s e) ≡ false → Unheard id h
    → Unheard id (record { by = by; event = e; outs = outs_of s e } ∷ h)
unheard_row by h s e id force unknown none before =
    let outs = outs_of s e in
    let rows = record { by = by; event = e; outs = outs } ∷ h in
    let idle = row_idle s (cause_of e) id unknown none in
    let m = message_at e in
    let place = address_of id h in
    let ponged = is_ponged place outs in
    record {
      phase =
          ap (λ p. put_to_sleep ponged (phase_after m id outs (phase_spoken id (own_message p place e) p)))
          before.phase
          ∙ (ap (λ own. put_to_sleep ponged (phase_after m id outs (phase_spoken id own None)))
          (none_own place e)
          ∙ ap (put_to_sleep ponged) (phase_by_notes m id outs None ∙ idle.phase m));
      view = row_view (around s (cause_of e)) id by h e outs force
          ∙ (idle.view (around s (cause_of e)) (due_of id rows) (view_start id e h)
          ∙ (start_none id e h before.phase ∙ before.view));
      stating = stating_by_notes (message_at e) id outs (stating_of id h)
          ∙ (idle.stating (message_at e) (stating_of id h) ∙ before.stating);
      due = no_more (is_turned_back id outs) (due_of id h) (meant_in id (brought_in e) h) before.due
          (none_meant id (brought_in e) h before.phase);
    }
