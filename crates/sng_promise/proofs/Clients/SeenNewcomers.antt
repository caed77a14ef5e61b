-- A client that is accepted for the first time is what the rows show of it.
use Rattle.std.proofs.Common.{◌≡◌, ℕ, List, [], ◌∷◌, refl, ap, sym, ◌∙◌, subst}
use Rattle.std.proofs.Common.{Ok}
use Rattle.std.specs.Prelude.{None}
use Rattle.sng_frames.specs.Reading.{frame_of}
use Rattle.sng_frames.specs.declared.messages.connect.Connect.{Connect}
use Rattle.sng_frames.specs.declared.frame.SnFrame.TheVariants as frame
use Rattle.sng_book.specs.declared.address.Address.{Address}
use Rattle.sng_book.specs.declared.decision.Decision.TheVariants as note
use Rattle.sng_book.specs.declared.outcome.Outcome.TheVariants.{Allowed}
use Rattle.sng_book.specs.declared.event.Event.TheVariants.{Datagram}
use Rattle.sng_book.specs.declared.out.Out.{Out}
use Rattle.sng_book.specs.declared.row.Row.{Row}
use Rattle.sng_history.specs.Causes.{ByConnect, datagram_cause, cause_of}
use Rattle.sng_history.specs.Clients.{blank, let_in, notes_by, start_by}
use Rattle.sng_history.specs.Notes.{notes_of}
use Rattle.sng_history.specs.State.{State, around}
use Rattle.sng_history.specs.Verdicts.{entry}
use Rattle.sng_history.specs.Lawful.{fixed_for}
use Rattle.sng_history.specs.Steps.{client_next}
use Rattle.sng_laws.specs.Views.{clock_at}
use Rattle.sng_laws.specs.ViewsMessages.{message_in, message_at}
use Rattle.sng_laws.specs.ViewsStanding.{standing_of}
use Rattle.sng_history.proofs.Own.{same_self}
use Rattle.sng_history.proofs.Kept.{client_id}
use Rattle.sng_history.proofs.SaysConnect.{blank_enters}
use Rattle.sng_promise.proofs.Clients.SeenClients.{Shows}
use Rattle.sng_promise.proofs.Clients.SeenClients.{moved_to}
use Rattle.sng_promise.proofs.Clients.SeenEntered.{let_in_shows, let_in_awake}
use Rattle.sng_promise.proofs.Handing.SeenDue.{datagram_brings}
use Rattle.sng_promise.proofs.Clients.SeenStrangers.{Unheard, start_none}
use Rattle.sng_promise.proofs.Handing.SeenMailed.{mailed_next, mailed_blank}
use Rattle.sng_promise.proofs.LastWills.SeenWillsKept.{Willed}
use Rattle.sng_promise.proofs.LastWills.SeenStated.{willed_next}
use Rattle.sng_promise.proofs.Handing.SeenHandingNotes.{Fits}
use Rattle.sng_promise.proofs.Handing.SeenViews.{event_fits, InForce}
use Rattle.sng_states.specs.declared.state.ClientState.TheVariants.{Disconnected}
use Rattle.sng_wills.specs.declared.will.Stage.TheVariants.{Closed}
use Rattle.sng_promise.proofs.Clients.SeenRows.{WillShown, before_row, shown_by, filters_row, Seen}

new_notes : (s : State) (from : Address) (connect : Connect) → entry s connect ≡ Allowed
    → fixed_for s (ByConnect from connect) (blank connect.client_id)
    ≡ note.Connect connect.client_id Allowed ∷ []
new_notes s from connect is =
    rw (same_self connect.client_id, is)
    (ap (λ notes. note.Connect connect.client_id Allowed ∷ notes)
    (blank_enters s from connect connect.flags.clean refl))

new_next : (s : State) (from : Address) (connect : Connect) → entry s connect ≡ Allowed
    → moved_to s (ByConnect from connect) (blank connect.client_id)
    ≡ let_in s.clock from connect (blank connect.client_id)
new_next s from connect is =
    let a = around s (ByConnect from connect) in
    ap (λ notes. notes_by a notes (start_by a (blank connect.client_id))) (new_notes s from connect is)

-- the client that connects, by the verdict
pub new_row : (by : ℕ) (h : List Row) (s : State) (from : Address) (datagram : List ℕ) (connect : Connect)
    (outs : List Out)
    → frame_of datagram ≡ Ok (frame.Connect connect)
    → InForce (around s (ByConnect from connect)) by h (Datagram from datagram) outs
    → s.clock ≡ clock_at h → entry s connect ≡ Allowed
    → notes_of connect.client_id outs ≡ fixed_for s (ByConnect from connect) (blank connect.client_id)
    → standing_of connect.client_id h ≡ [] → Unheard connect.client_id h
    → Seen (record { by = by; event = Datagram from datagram; outs = outs } ∷ h)
    (client_next s (ByConnect from connect) (blank connect.client_id))
new_row by h s from datagram connect outs read force clock is own none unheard =
    let id = connect.client_id in
    let e = Datagram from datagram in
    let c = ByConnect from connect in
    let cause : cause_of e ≡ c = ap (datagram_cause from) read in
    let mailed =
    mailed_next by h s c e outs (blank id) force own (datagram_brings by h from datagram outs id)
    (start_none id e h unheard.phase)
    (mailed_blank h id unheard) in
    let fits : Fits c (message_at e) = subst (λ d. Fits d (message_at e)) cause (event_fits e) in
    let blank_willed : WillShown h (blank id) =
    subst (Willed Disconnected (record { stage = Closed; will = None })) (sym unheard.stating)
    (record { will = refl; stage = refl; empty = refl }) in
    let willed = willed_next by h s c e outs (blank id) fits own blank_willed in
    record {
      shown =
          shown_by by h e outs id (note.Connect id Allowed ∷ []) (moved_to s c (blank id))
          (client_id (around s c) (fixed_for s c (blank id)) (blank id)) (own ∙ new_notes s from connect is)
          (subst (Shows id (before_row id e h) (note.Connect id Allowed ∷ []))
          (sym (new_next s from connect is))
          (let_in_shows (before_row id e h) id s.clock from connect (blank id) (ap message_in read) refl
          (rw read refl) (sym clock)))
          (λ wakes. absurd (let_in_awake s.clock from connect (blank id)
          (sym (ap (λ z. z.phase) (new_next s from connect is)) ∙ wakes)))
          mailed
          willed
          (subst
          (λ d. (client_next s d (blank id)).filters
          ≡ standing_of (client_next s d (blank id)).id
          (record { by = by; event = e; outs = outs } ∷ h)) cause
          (filters_row by h s e outs (blank id) (sym none)
          (subst (λ d. notes_of id outs ≡ fixed_for s d (blank id)) (sym cause) own)));
      mailed = mailed;
      willed = willed;
    }
