-- What answers a message that is not supported, of who is at the address.
use Rattle.std.proofs.Common.{◌≡◌, Bool, true, false, List, [], ◌∷◌, ◌++◌, refl, ap, ◌∙◌}
use Rattle.std.proofs.Common.{if◌then◌else◌}
use Rattle.sng_frames.specs.declared.frame.SnFrame.{SnFrame}
use Rattle.sng_frames.specs.declared.frame.SnFrame.TheVariants as frame
use Rattle.sng_book.specs.declared.address.Address.{Address}
use Rattle.sng_book.specs.declared.decision.Decision.{Decision}
use Rattle.sng_book.specs.declared.decision.Who.TheVariants as who
use Rattle.sng_book.specs.declared.outcome.Denial.{Denial}
use Rattle.sng_book.specs.declared.outcome.Denial.TheVariants.{Form, Room}
use Rattle.sng_book.specs.declared.outcome.FormDenial.TheVariants.{NotSupported, UnknownId}
use Rattle.sng_book.specs.declared.outcome.RoomDenial.TheVariants.{UpstreamDown, Full}
use Rattle.sng_book.specs.declared.row.Row.{Row}
use Rattle.sng_history.specs.Causes.{Cause, ByMessage, Untaken}
use Rattle.sng_history.specs.Clients.{Around, Client, is_here, notes_by}
use Rattle.sng_history.specs.Clients.{is_drained}
use Rattle.sng_history.specs.State.{State}
use Rattle.sng_history.specs.Standing.{Release}
use Rattle.sng_history.specs.Answers.{denied_note, code_of}
use Rattle.sng_history.specs.Whole.{spell, stranger_to, drops, frame_row, drained_outs}
use Rattle.sng_history.specs.Steps.{notes_for}
use Rattle.sng_laws.specs.ViewsClients.{those_at}
use Rattle.sng_laws.specs.LawsAnswers.{answer_to, code_for}
use Rattle.sng_laws.specs.LawsUnsupported.{is_unsupported, unsupported_answer, unsupported_stranger}
use Rattle.sng_promise.proofs.Clients.SeenClients.{heard_if}
use Rattle.sng_history.proofs.EndlessRequests.{denied_stays}
use Rattle.sng_promise.proofs.Clients.SeenState.{Stands}
use Rattle.sng_promise.proofs.Clients.LawHere.{row_answer, each_part, settled}

abbrev pub by_cause : State → Cause → Around
by_cause s c = record { policy = s.policy; clock = s.clock; cause = c }

-- the ReturnCode of a rule
pub code_same : (rule : Denial) → code_of rule ≡ code_for rule
code_same (Form (UnknownId kind id)) = refl
code_same (Room UpstreamDown) = refl
code_same (Room (Full place)) = refl
code_same _ = refl

-- ---- not supported

unsupported_spell : (s : State) (from : Address) (message : SnFrame) (dropped : List Release) (x : Client)
    → is_unsupported message ≡ true
    → spell (by_cause s (ByMessage from (Untaken message))) dropped x
    (denied_note message (who.Client x.id) (Form NotSupported) ∷ [])
    ≡ unsupported_answer x.id
unsupported_spell s from (frame.Connect connect) dropped x is = absurd (let e = is in cc)
unsupported_spell s from (frame.Register register) dropped x is = absurd (let e = is in cc)
unsupported_spell s from (frame.Publish p) dropped x is = absurd (let e = is in cc)
unsupported_spell s from (frame.PublishRelease number) dropped x is = absurd (let e = is in cc)
unsupported_spell s from (frame.Subscribe r) dropped x is = absurd (let e = is in cc)
unsupported_spell s from (frame.Unsubscribe r) dropped x is = absurd (let e = is in cc)
unsupported_spell s from (frame.PingRequest client) dropped x is = absurd (let e = is in cc)
unsupported_spell s from (frame.Disconnect duration) dropped x is = absurd (let e = is in cc)
unsupported_spell s from (frame.RegisterAck r) dropped x is = absurd (let e = is in cc)
unsupported_spell s from (frame.PublishAck r) dropped x is = absurd (let e = is in cc)
unsupported_spell s from (frame.WillTopic topic) dropped x is = absurd (let e = is in cc)
unsupported_spell s from (frame.WillMessage message) dropped x is = absurd (let e = is in cc)
unsupported_spell s from (frame.WillTopicUpdate topic) dropped x is = absurd (let e = is in cc)
unsupported_spell s from (frame.WillMessageUpdate message) dropped x is = absurd (let e = is in cc)
unsupported_spell s from message dropped x is = refl

unsupported_part : (s : State) (from : Address) (message : SnFrame) (dropped : List Release) (x : Client)
    (b : Bool)
    → is_unsupported message ≡ true
    → is_drained x ≡ false
    → let a = by_cause s (ByMessage from (Untaken message)) in
    let notes : List Decision = if b then denied_note message (who.Client x.id) (Form NotSupported) ∷ []
    else [] in
    (if b then [] else []) ++ (spell a dropped (heard_if b s.clock x) notes
    ++ drained_outs (notes_by a notes (heard_if b s.clock x)))
    ≡ (if b then unsupported_answer x.id else [])
unsupported_part s from message dropped x true is busy =
    let a = by_cause s (ByMessage from (Untaken message)) in
    let y = heard_if true s.clock x in
    let outs = spell a dropped y (denied_note message (who.Client x.id) (Form NotSupported) ∷ []) in
    ap (λ z. outs ++ drained_outs z) (denied_stays a y x.id message)
    ∙ (settled outs y busy ∙ unsupported_spell s from message dropped y is)
unsupported_part s from message dropped x false is busy = settled [] x busy

unsupported_note : (from : Address) (message : SnFrame) → is_unsupported message ≡ true
    → stranger_to from (Untaken message) ≡ unsupported_stranger from
unsupported_note from (frame.Connect connect) is = absurd (let e = is in cc)
unsupported_note from (frame.Register register) is = absurd (let e = is in cc)
unsupported_note from (frame.Publish p) is = absurd (let e = is in cc)
unsupported_note from (frame.PublishRelease number) is = absurd (let e = is in cc)
unsupported_note from (frame.Subscribe r) is = absurd (let e = is in cc)
unsupported_note from (frame.Unsubscribe r) is = absurd (let e = is in cc)
unsupported_note from (frame.PingRequest client) is = absurd (let e = is in cc)
unsupported_note from (frame.Disconnect duration) is = absurd (let e = is in cc)
unsupported_note from (frame.RegisterAck r) is = absurd (let e = is in cc)
unsupported_note from (frame.PublishAck r) is = absurd (let e = is in cc)
unsupported_note from (frame.WillTopic topic) is = absurd (let e = is in cc)
unsupported_note from (frame.WillMessage message) is = absurd (let e = is in cc)
unsupported_note from (frame.WillTopicUpdate topic) is = absurd (let e = is in cc)
unsupported_note from (frame.WillMessageUpdate message) is = absurd (let e = is in cc)
unsupported_note from message is = refl

pub unsupported_row : (h : List Row) (s : State) (from : Address) (message : SnFrame)
    → is_unsupported message ≡ true → Stands h s
    → let c = ByMessage from (Untaken message) in
    frame_row s c (stranger_to from (Untaken message)) (notes_for s c)
    ≡ answer_to (unsupported_stranger from) unsupported_answer (those_at from h)
unsupported_row h s from message is st =
    let c = ByMessage from (Untaken message) in
    row_answer h s from c (stranger_to from (Untaken message)) unsupported_answer st.shown
    (λ x. refl)
    (each_part h s from c unsupported_answer st
    (λ x known rest. unsupported_part s from message (drops s c (notes_for s c)) x (is_here x from) is
    rest.busy))
    ∙ ap (λ outs. answer_to outs unsupported_answer (those_at from h)) (unsupported_note from message is)
