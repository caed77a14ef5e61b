-- One step, after every lawful book.
use Rattle.std.proofs.Common.{◌≡◌, ℕ, List, sym, subst}
use Rattle.sng_frames.specs.Reading.{frame_of}
use Rattle.sng_book.specs.declared.address.Address.{Address}
use Rattle.sng_book.specs.declared.event.Event.TheVariants as event
use Rattle.sng_book.specs.declared.out.Out.{Out}
use Rattle.sng_book.specs.declared.row.Row.{Row}
use Rattle.sng_history.specs.Causes.{Cause, cause_of}
use Rattle.sng_history.specs.Good.{Good}
use Rattle.sng_history.specs.State.{State}
use Rattle.sng_history.specs.Steps.{outs_by, next_by}
use Rattle.sng_history.proofs.BookExact.{last_row, one_state}
use Rattle.sng_isolation.specs.Isolation.{IsForeign, LeavesAlone, OneStep}
use Rattle.sng_isolation.proofs.Alone.{alone}
use Rattle.sng_isolation.proofs.ForeignStep.{CameFrom, datagram_came}

moved_on : (id : List ℕ) (from : Address) (c : Cause) (s before after : State) (outs : List Out) → Good s
    → CameFrom from c → s ≡ before → outs ≡ outs_by s c → after ≡ next_by s c → IsForeign id before from c
    → LeavesAlone id before after outs
moved_on id from c s before after outs good came same lets_out leads foreign =
    let at : IsForeign id s from c = subst (λ (t : State). IsForeign id t from c) (sym same) foreign in
    let left : LeavesAlone id s (next_by s c) (outs_by s c) = alone id s from c good came at in
    let behind : LeavesAlone id s after (outs_by s c) =
    subst (λ (t : State). LeavesAlone id s t (outs_by s c)) (sym leads) left in
    let own : LeavesAlone id s after outs = subst (LeavesAlone id s after) (sym lets_out) behind in
    subst (λ (t : State). LeavesAlone id t after outs) same own

pub one_step : OneStep
one_step h by from bytes outs before after id book next foreign =
    let row : Row = record { by = by; event = event.Datagram from bytes; outs = outs } in
    let last = last_row row h after next in
    moved_on id from (cause_of row.event) last.before before after outs last.good
    (datagram_came from (frame_of bytes)) (one_state h last.before before last.book book) last.outs last.next
    foreign
