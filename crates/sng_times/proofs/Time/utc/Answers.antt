use Rattle.std.proofs.Common.{◌≡◌, ◌∙◌, ap, refl, ℕ, ℤ, pos, ◌*◌, ◌≤◌, ◌≤ℤ◌, ◌++◌, Bool, false, List, Option, None, arith, to_z, of_z}
use Rattle.std.specs.Int.{w128}
use Rattle.std.proofs.lemmas.Int.{to_z-of_z}
use Rattle.jiff_core.specs.declared.timestamp.Timestamp.{Timestamp}
use Rattle.jiff_fmt.specs.declared.temporal.printer.DateTimePrinter.{DateTimePrinter}
use Rattle.jiff_fmt.specs.Printer.{IsTimestampText, options}
use Rattle.jiff_fmt.specs.Text.{datetime_text, zulu_text}
use Rattle.sng_times.specs.Times.{IsDated}
use Rattle.sng_times.specs.declared.TheConstants.{NO_DATE}
use Rattle.sng_times.proofs.Time.utc.Goals as goal

-- what a printer of this form writes is the date
dated : (printer : DateTimePrinter) (instant : Timestamp) (ms : ℕ) (text : List ℕ)
    → options printer ≡ (false, 84, None) → instant.nanosecond ≡ pos (ms * 1000000)
    → IsTimestampText printer instant text → IsDated ms text
dated printer instant ms text plain at (shown, when, printed) = record {
  shown = shown;
  instant = when ∙ at;
  printed =
      printed
      ∙ ap (λ (o : Bool × ℕ × Option ℕ). datetime_text o.0 o.1 o.2 shown ++ zulu_text o.0) plain;
}

-- a time without a date is no instant that the library has
too_late : (nanos : ℤ) (ms : ℕ) → nanos ≡ pos (ms * 1000000) → nanos ≤ℤ pos 253402207200999999999
    → NO_DATE ≤ ms → ⊥
too_late nanos ms at fits late = grind (arith, at, fits, late)

pub returns-in-Ok : goal.returns-in-Ok
returns-in-Ok c =
    let at : to_z w128 (of_z w128 c.nanos_of.result) ≡ pos (c.args.self.0 * 1000000)
    = grind (arith, to_z-of_z, c.nanos_of.ensures) in
    record {
      dated = λ below. (
        c.timestamp_text.result.bytes,
        refl,
        dated c.new.result c.in-Ok.instant c.args.self.0 c.timestamp_text.result.bytes c.new.ensures
            (c.in-Ok.ensures.value ∙ at) c.timestamp_text.ensures,
      );
      dateless = λ late. absurd (too_late _ c.args.self.0 at (c.in-Ok.ensures.succeeds.0 refl).1 late);
    }
