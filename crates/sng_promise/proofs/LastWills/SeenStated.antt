-- What is kept of a client's will after a row is what the rows show of it, by each cause.
use Rattle.std.proofs.Common.{◌≡◌, ℕ, Bool, true, false, List, [], ◌∷◌, refl, ap, sym, ◌∙◌, subst}
use Rattle.std.proofs.Common.{if◌then◌else◌}
use Rattle.std.specs.Prelude.{Option, Some, None}
use Rattle.std.specs.Str.{bytes_eq}
use Rattle.sng_book.specs.declared.address.Address.{Address}
use Rattle.sng_book.specs.declared.decision.Decision.TheVariants as note
use Rattle.sng_book.specs.declared.decision.Who.TheVariants as who
use Rattle.sng_book.specs.declared.outcome.Outcome.TheVariants.{Denied}
use Rattle.sng_book.specs.declared.out.Out.{Out}
use Rattle.sng_history.specs.Causes.{Statement}
use Rattle.sng_history.specs.Causes.{statement_asked}
use Rattle.sng_history.specs.Causes.{Request}
use Rattle.sng_history.specs.Causes.{ToState}
use Rattle.sng_history.specs.Causes.{Cause, ByConnect, ByMessage, BySource, ByBroken, ByPacket, ByUp, ByDown}
use Rattle.sng_history.specs.Causes.{ByTake, ByReplace, ByTick}
use Rattle.sng_history.specs.Clients.{Client, start_by, is_here}
use Rattle.sng_history.specs.Clients.{drained}
use Rattle.sng_history.specs.Clients.{message_due, notes_by}
use Rattle.sng_history.specs.Packets.{answer_of, refused_filter}
use Rattle.sng_history.specs.Notes.{notes_of}
use Rattle.sng_history.specs.Outgoing.{delivered_notes}
use Rattle.sng_history.specs.State.{State, around, later}
use Rattle.sng_history.specs.Verdicts.{entry}
use Rattle.sng_history.specs.WillAsks.{statement_notes}
use Rattle.sng_history.specs.Lawful.{refused_end, fixed_to, fixed_for}
use Rattle.sng_history.specs.Steps.{client_next}
use Rattle.sng_laws.specs.ViewsMessages.{Message as Spoken, statement_in, message_at}
use Rattle.sng_laws.specs.ViewsWills.{Stating, stating_of}
use Rattle.sng_history.proofs.Hands.{Every, every_append, every_if}
use Rattle.sng_history.proofs.Hands.{every_delivered}
use Rattle.sng_history.proofs.Statements.{every_tick}
use Rattle.sng_history.proofs.Steady.{start_lasts, drained_lasts}
use Rattle.sng_promise.proofs.Handing.SeenHandingNotes.{Fits}
use Rattle.sng_history.proofs.Kept.{client_id}
use Rattle.sng_promise.proofs.LastWills.SeenWillsKept.{stating_notes, stating_by_notes, WilledAt, Keeps}
use Rattle.sng_promise.proofs.LastWills.SeenWillsKept.{keeps_all}
use Rattle.sng_promise.proofs.LastWills.SeenWillsKept.{keeps_messages, willed_lasts, keeps_again}
use Rattle.sng_promise.proofs.LastWills.SeenWillsKept.{keeps_denied, keeps_lost}
use Rattle.sng_book.specs.declared.event.Event.{Event}
use Rattle.sng_book.specs.declared.row.Row.{Row}
use Rattle.sng_promise.proofs.LastWills.SeenStatements.{will_around, statement_willed, keeps_ends}
use Rattle.sng_promise.proofs.LastWills.SeenStatements.{keeps_refused}
use Rattle.sng_promise.proofs.LastWills.SeenStatements.{keeps_to, keeps_connects}

-- the client after the row, where each note keeps it so
moved_willed : (s : State) (c : Cause) (m : Option Spoken) (x : Client) (now : Stating)
    → Every (Keeps (around s c) m x.id) (fixed_for s c x) → WilledAt x now
    → WilledAt (client_next s c x) (stating_notes m x.id (fixed_for s c x) now)
moved_willed s c m x now every willed =
    let a = around s c in
    let z = notes_by a (fixed_for s c x) (start_by a x) in
    willed_lasts z (drained z) (stating_notes m x.id (fixed_for s c x) now) (drained_lasts z)
    (keeps_all a m x.id (fixed_for s c x) (start_by a x) now every
    (willed_lasts x (start_by a x) now (start_lasts a x) willed))

here_willed : (s : State) (from : Address) (statement : Statement) (m : Option Spoken) (x : Client)
    (now : Stating) (here : Bool)
    → statement_in m ≡ Some statement → WilledAt x now
    → let a = will_around s from statement in
    let notes = if here then statement_notes s.policy statement x else [] in
    let y : Client = if here then record x { heard = s.clock } else x in
    WilledAt (notes_by a notes y) (stating_notes m x.id notes now)
here_willed s from statement m x now true is willed = statement_willed s from statement m x now is willed
here_willed s from statement m x now false is willed = willed

message_willed_by : (s : State) (from : Address) (request : Request) (m : Option Spoken) (x : Client)
    (now : Stating)
    (asked : Option Statement)
    → statement_asked request ≡ asked
    → Fits (ByMessage from request) m → WilledAt x now
    → let c = ByMessage from request in
    WilledAt (client_next s c x) (stating_notes m x.id (fixed_for s c x) now)
message_willed_by s from (ToState statement) m x now asked is fits willed =
    let c = ByMessage from (ToState statement) in
    let z = notes_by (around s c) (fixed_for s c x) (start_by (around s c) x) in
    willed_lasts z (drained z) (stating_notes m x.id (fixed_for s c x) now) (drained_lasts z)
    (here_willed s from statement m x now (is_here x from) fits.states willed)
message_willed_by s from request m x now None is fits willed =
    let c = ByMessage from request in
    moved_willed s c m x now
    (every_if (Keeps (around s c) m x.id) (is_here x from) (fixed_to s request x)
    (keeps_to s (around s c) m request x is)) willed
message_willed_by s from request m x now (Some statement) is fits willed = absurd cc

-- what is kept of the client after a row is what its notes show
pub willed_row : (s : State) (c : Cause) (m : Option Spoken) (x : Client) (now : Stating) → Fits c m
    → WilledAt x now
    → WilledAt (client_next s c x) (stating_notes m x.id (fixed_for s c x) now)
willed_row s (ByConnect from connect) m x now fits willed =
    moved_willed s (ByConnect from connect) m x now
    (keeps_connects s from connect m x (bytes_eq connect.client_id x.id) (is_here x from)
    (entry s connect) fits) willed
willed_row s (ByMessage from request) m x now fits willed =
    message_willed_by s from request m x now (statement_asked request) refl fits willed
willed_row s (ByBroken from rule) m x now fits willed =
    let c = ByBroken from rule in
    moved_willed s c m x now
    (every_if (Keeps (around s c) m x.id) (is_here x from) (note.Frame (who.Client x.id) (Denied rule) ∷ [])
    ((λ y after is. is), tt)) willed
willed_row s (ByPacket p) m x now fits willed =
    let c = ByPacket p in
    let a = around s c in
    let due = message_due (answer_of p) x in
    let refused = refused_filter s.link (answer_of p) in
    moved_willed s c m x now
    (every_append (Keeps a m x.id) (refused_end x refused) (delivered_notes s.policy due x)
    (keeps_refused a m x.id x refused)
    (every_delivered (Keeps a m x.id) s.policy due x (keeps_messages a m x.id x.id))) willed
willed_row s (ByReplace policy) m x now fits willed =
    let c = ByReplace policy in
    moved_willed s c m x now (keeps_ends (around s c) m x.id x.id policy x.filters) willed
willed_row s (ByTick clock) m x now fits willed =
    let c = ByTick clock in
    let a = around s c in
    moved_willed s c m x now
    (every_tick (Keeps a m x.id) s.policy s.link (later s.clock clock) s.clients x (record {
      loses = keeps_lost a m x.id;
      drops = λ name rule. keeps_denied a m x.id (who.Client x.id) (Some name) rule;
      messages = keeps_messages a m x.id x.id;
    }) (keeps_again a m x.id x.id)) willed
willed_row s (BySource from p) m x now fits willed = moved_willed s (BySource from p) m x now tt willed
willed_row s ByUp m x now fits willed = moved_willed s ByUp m x now tt willed
willed_row s ByDown m x now fits willed = moved_willed s ByDown m x now tt willed
willed_row s ByTake m x now fits willed = moved_willed s ByTake m x now tt willed

-- the client after the row
pub willed_next : (by : ℕ) (h : List Row) (s : State) (c : Cause) (e : Event) (outs : List Out) (x : Client)
    → Fits c (message_at e)
    → notes_of x.id outs ≡ fixed_for s c x
    → WilledAt x (stating_of x.id h)
    → WilledAt (client_next s c x)
    (stating_of (client_next s c x).id (record { by = by; event = e; outs = outs } ∷ h))
willed_next by h s c e outs x fits own willed =
    let m = message_at e in
    let y = client_next s c x in
    let rows = record { by = by; event = e; outs = outs } ∷ h in
    let stated : stating_of x.id rows ≡ stating_notes m x.id (fixed_for s c x) (stating_of x.id h) =
    stating_by_notes m x.id outs (stating_of x.id h)
    ∙ ap (λ notes. stating_notes m x.id notes (stating_of x.id h)) own in
    subst (λ id. WilledAt y (stating_of id rows)) (sym (client_id (around s c) (fixed_for s c x) x))
    (subst (WilledAt y) (sym stated) (willed_row s c m x (stating_of x.id h) fits willed))
