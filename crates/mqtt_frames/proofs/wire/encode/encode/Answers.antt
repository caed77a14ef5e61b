use Rattle.std.proofs.Common.{◌≡◌, ◌≤◌, ℕ, ◌+◌, true, false, length, refl, ap, sym, subst, Result, Ok, Err}
use Rattle.std.proofs.Common.{IsErrAnd, arith}
use Rattle.mqtt_frames.specs.declared.limits.TheConstants.{MAX_PACKET}
use Rattle.mqtt_frames.specs.declared.fault.StreamFault.{StreamFault}
use Rattle.mqtt_frames.specs.declared.fault.StreamFault.TheVariants.{Malformed, Memory}
use Rattle.mqtt_frames.specs.declared.packet.Packet.{Packet}
use Rattle.mqtt_frames.specs.Packets.{body, written}
use Rattle.mqtt_frames.specs.RemainingLength.{remaining_length}
use Rattle.mqtt_frames.specs.Spellable.{has_spelling}
use Rattle.mqtt_frames.specs.Grammar.{IsInRange, Spells, HasNoSpelling}
use Rattle.mqtt_frames.proofs.Spelling.{length-written, Spells-short, has_spelling-spelled}
use Rattle.mqtt_frames.proofs.wire.encode.encode.Goals as goal

-- nothing spells a packet that fails the test
no_spelling : (p : Packet) → length (written p) ≤ MAX_PACKET → has_spelling p ≡ false → HasNoSpelling p
no_spelling p short is =
    record { short = short; none = λ b s. let spelled = has_spelling-spelled p b s in cc }

-- a packet in range that passes it has a spelling
not_spelled : (p : Packet) → IsInRange p → has_spelling p ≡ true → HasNoSpelling p → ⊥
not_spelled p fits is lacks = lacks.none (written p) (Spells-short p fits is lacks.short)

-- what was measured is the size of what is written
short : (p : Packet) (rest size : ℕ) → rest ≡ length (body p) → size ≡ length (remaining_length rest)
    → 1 + size + rest ≤ MAX_PACKET → length (written p) ≤ MAX_PACKET
short p rest size is count fits = omega (arith, length-written p, ap (λ n. length (remaining_length n)) is)

not_malformed : {A : Type 0} (r : Result A StreamFault) → IsErrAnd r (λ e. e ≡ Memory) → r ≡ Err Malformed → ⊥
not_malformed (Ok x) memory is = cc
not_malformed (Err e) memory is = cc

pub returns-then-not-has_spelling-clause-malformed : goal.returns-then-not-has_spelling-clause-malformed
returns-then-not-has_spelling-clause-malformed c =
    let fits =
    short c.args.packet.now c.in-Some.rest c.size.result
    (c.in-Some.ensures.1) c.size.ensures.value c.if-all-gt-MAX_PACKET.false in
    (λ is. no_spelling c.args.packet.now fits (sym c.if-not-has_spelling.ensures.value), λ lacks. refl)

pub returns-in_err-write-clause-malformed : goal.returns-in_err-write-clause-malformed
returns-in_err-write-clause-malformed c = (
  λ is. absurd (not_malformed c.from_residual.result c.from_residual.ensures.1 is),
  λ lacks. absurd (not_spelled c.args.packet.now c.has_spelling.ensures.in_range
      (sym c.if-not-has_spelling.ensures.value) lacks),
)

pub returns-clause-malformed : goal.returns-clause-malformed
returns-clause-malformed c = (
  λ is. cc,
  λ lacks. absurd (not_spelled c.args.packet.now c.has_spelling.ensures.in_range
      (sym c.if-not-has_spelling.ensures.value) lacks),
)

pub returns-clause-spelled : goal.returns-clause-spelled
returns-clause-spelled c =
    let p = c.args.packet.now in
    let fits =
    short p c.in-Some.rest c.size.result
    (c.in-Some.ensures.1) c.size.ensures.value c.if-all-gt-MAX_PACKET.false in
    subst (Spells p) (sym c.in_ok-write.ensures)
    (Spells-short p c.has_spelling.ensures.in_range (sym c.if-not-has_spelling.ensures.value) fits)
