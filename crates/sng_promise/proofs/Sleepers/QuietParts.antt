-- A client that takes no messages is sent nothing but with a message of its own.
use Rattle.std.proofs.Common.{◌≡◌, Bool, true, false, List, [], ◌∷◌, ◌++◌, refl, ap, sym, ◌∙◌, subst}
use Rattle.std.proofs.Common.{if◌then◌else◌}
use Rattle.std.specs.Prelude.{◌&&◌, is_none, slice_get}
use Rattle.sng_states.specs.States.{takes_messages, is_awake}
use Rattle.sng_states.specs.declared.state.ClientState.{ClientState}
use Rattle.sng_states.specs.declared.state.ClientState.TheVariants.{Dialogue, Active, Asleep, Awake}
use Rattle.sng_states.specs.declared.state.ClientState.TheVariants.{Disconnected, Lost}
use Rattle.sng_book.specs.Denials.{is_allowed}
use Rattle.sng_book.specs.declared.decision.Decision.{Decision}
use Rattle.sng_book.specs.declared.decision.Decision.TheVariants as note
use Rattle.sng_book.specs.declared.out.Out.{Out}
use Rattle.sng_history.specs.Causes.{Cause, request_of}
use Rattle.sng_history.specs.Causes.{ByConnect, ByMessage, BySource, ByBroken, ByPacket, ByUp, ByDown, ByTake}
use Rattle.sng_history.specs.Causes.{ByReplace, ByTick}
use Rattle.sng_history.specs.Packets.{answer_of, refused_filter}
use Rattle.sng_history.specs.Arriving.{joins, turned_away}
use Rattle.sng_history.specs.Clients.{Around, Client, is_here, is_from, is_message, is_author, answered_by}
use Rattle.sng_history.specs.Clients.{message_due, delivered_by, start_by, note_by, notes_by}
use Rattle.sng_history.specs.Standing.{Release}
use Rattle.sng_history.specs.State.{State, around, later}
use Rattle.sng_history.specs.Verdicts.{entry}
use Rattle.sng_history.specs.Answers.{pong}
use Rattle.sng_history.specs.Outgoing.{handed_over, all_gone, delivered_notes}
use Rattle.sng_history.specs.Ticking.{testaments, all_placed, is_lost_at}
use Rattle.sng_history.specs.Losing.{before, lost_notes, again_notes}
use Rattle.sng_history.specs.Lawful.{refused_end, fixed_to, fixed_for}
use Rattle.sng_history.specs.Whole.{frames_of, spell, answer, drained_outs, part}
use Rattle.sng_history.proofs.Hands.{Every, every_append}
use Rattle.sng_history.proofs.Stayed.{enters_by, beside_notes}
use Rattle.sng_promise.proofs.Sleepers.QuietNotes.{NoneSent, none_both, Quiet, quiet_ends, quiet_refused}
use Rattle.sng_promise.proofs.Sleepers.QuietNotes.{quiet_away}
use Rattle.sng_promise.proofs.Sleepers.QuietNotes.{quiet_kept, quiet_lost, quiet_again, quiet_either}

-- ---- each cause but a CONNECT of its own, which came from elsewhere

none_from : (a : Around) (b : Bool) (notes : List Decision) → b ≡ false
    → Every (Quiet a) (if b then notes else [])
none_from a true notes is = absurd cc
none_from a false notes is = tt

quiet_beside : (a : Around) (allowed here : Bool) (notes : List Decision) → here ≡ false
    → Every (Quiet a) (if allowed then (if here then notes else []) else [])
quiet_beside a true true notes is = absurd cc
quiet_beside a true false notes is = tt
quiet_beside a false here notes is = tt

every_quiet : (s : State) (c : Cause) (x : Client) → enters_by c x ≡ false → is_from c x ≡ false
    → takes_messages x.phase ≡ false
    → Every (Quiet (around s c)) (fixed_for s c x)
every_quiet s (ByConnect from connect) x other away is =
    let a = around s (ByConnect from connect) in
    subst (Every (Quiet a)) (sym (beside_notes s from connect x other))
    (quiet_beside a (is_allowed (entry s connect)) (is_here x from)
    (note.Left x.id ∷ all_gone x.id x.buffer.waiting) away)
every_quiet s (ByMessage from request) x other away is =
    none_from (around s (ByMessage from request)) (is_here x from) (fixed_to s request x) away
every_quiet s (BySource from p) x other away is = tt
every_quiet s (ByBroken from rule) x other away is =
    none_from (around s (ByBroken from rule)) (is_here x from) _ away
every_quiet s (ByPacket p) x other away is =
    let a = around s (ByPacket p) in
    let text = refused_filter s.link (answer_of p) in
    let due = message_due (answer_of p) x in
    let y : Client = record x { buffer = joins due x.buffer } in
    every_append (Quiet a) (refused_end x text) (delivered_notes s.policy due x) (quiet_refused a x text)
    (every_append (Quiet a) (turned_away x.id due x.buffer) (handed_over s.policy y)
    (quiet_away a x.id due x.buffer)
    (quiet_kept a s.policy y is))
every_quiet s ByUp x other away is = tt
every_quiet s ByDown x other away is = tt
every_quiet s ByTake x other away is = tt
every_quiet s (ByReplace policy) x other away is =
    quiet_ends (around s (ByReplace policy)) policy x.id x.filters
every_quiet s (ByTick clock) x other away is =
    let a = around s (ByTick clock) in
    let now = later s.clock clock in
    let link = all_placed s.policy.limits s.link (testaments now (before x.id s.clients)) in
    quiet_either a (is_lost_at now x) (lost_notes s.policy.limits link x) (again_notes s.policy now x)
    (quiet_lost s.policy.limits s clock link x)
    (quiet_again a s.policy now x is)

-- ---- the part of the client

quiet_spell : (a : Around) (dropped : List Release) (x : Client) (notes : List Decision)
    → Every (Quiet a) notes
    → NoneSent (spell a dropped x notes)
quiet_spell a dropped x [] every = tt
quiet_spell a dropped x (said ∷ notes) every =
    none_both (frames_of a dropped x said) (spell a dropped (note_by a said x) notes)
    (every.0.sends dropped x)
    (quiet_spell a dropped (note_by a said x) notes every.1)

quiet_sleeps : (a : Around) (notes : List Decision) (x : Client) → Every (Quiet a) notes
    → is_awake x.phase ≡ false
    → is_awake (notes_by a notes x).phase ≡ false
quiet_sleeps a [] x every is = is
quiet_sleeps a (said ∷ notes) x every is =
    quiet_sleeps a notes (note_by a said x) every.1 (every.0.sleeps x is)

untaking : (phase : ClientState) → takes_messages phase ≡ false → is_awake phase ≡ false
untaking Asleep is = refl
untaking Dialogue is = refl
untaking Disconnected is = refl
untaking Lost is = refl
untaking Active is = absurd cc
untaking Awake is = absurd cc

undrained : (x : Client) → is_awake x.phase ≡ false → NoneSent (drained_outs x)
undrained x is =
    subst NoneSent
    (sym
    (ap
    (λ b. let outs : List Out = if b &&
    (is_none (slice_get x.buffer.waiting 0) && is_none x.buffer.exchange) then pong x.address ∷ [] else [] in
    outs)
    is))
    tt

delivered_phase : (c : Cause) (x : Client) → (delivered_by c x).phase ≡ x.phase
delivered_phase (ByPacket p) x = refl
delivered_phase (ByConnect from connect) x = refl
delivered_phase (ByMessage from request) x = refl
delivered_phase (BySource from p) x = refl
delivered_phase (ByBroken from rule) x = refl
delivered_phase ByUp x = refl
delivered_phase ByDown x = refl
delivered_phase ByTake x = refl
delivered_phase (ByReplace policy) x = refl
delivered_phase (ByTick clock) x = refl

no_author : (c : Cause) (x : Client) → is_from c x ≡ false → is_author c x ≡ false
no_author c x away = ap (λ b. is_message c && b) away ∙ neither (is_message c)
  where
    neither : (b : Bool) → (b && false) ≡ false
    neither true = refl
    neither false = refl

-- nothing is sent for it
pub quiet_part : (s : State) (c : Cause) (dropped : List Release) (x : Client) → enters_by c x ≡ false
    → is_from c x ≡ false
    → takes_messages x.phase ≡ false
    → NoneSent (part (around s c) dropped (fixed_for s c x) x)
quiet_part s c dropped x other away is =
    let a = around s c in
    let notes = fixed_for s c x in
    let quiet = every_quiet s c x other away is in
    let y = start_by a x in
    let still : is_author c x ≡ false = no_author c x away in
    let start : y ≡ delivered_by c x =
    ap (λ b. let z : Client = if b then answered_by (request_of c) (record x { heard = a.clock })
    else delivered_by c x in z) still in
    let sleeps : is_awake y.phase ≡ false =
    ap (λ z. is_awake z.phase) start ∙ (ap is_awake (delivered_phase c x) ∙ untaking x.phase is) in
    none_both (if is_author c x then answer (request_of c) x else [])
    (spell a dropped y notes ++ drained_outs (notes_by a notes y))
    (subst NoneSent (sym (ap (λ b. let outs : List Out = if b then answer (request_of c) x else [] in outs)
    still)) tt)
    (none_both (spell a dropped y notes) (drained_outs (notes_by a notes y))
    (quiet_spell a dropped y notes quiet)
    (undrained (notes_by a notes y) (quiet_sleeps a notes y quiet sleeps)))
