-- Each pair of digits is read as the hex library reads it.
use Rattle.std.proofs.Common.{◌*◌, ◌+◌, slice_index, refl, sym, ◌∙◌, arith}
use Rattle.hex.proofs.Pairs.{decode_step, decode_done, decode_err, decode_sized-pairs}
use Rattle.sng_script.proofs.DigitLemmas.{pair_some, pair_none}
use Rattle.sng_script.proofs.digits.read_digits.Goals as goal

pub returns-in-None : goal.returns-in-None
returns-in-None c =
    let digits = c.args.digits.now in
    let place = c.loop-place.place in
    let none =
    pair_none (slice_index digits (2 * place)) (slice_index digits (2 * place + 1)) (2 * place)
    (sym c.byte_of.ensures ∙ c.in-None.is) in
    let read =
    decode_sized-pairs _ _ c.if-digits-ne0.false c.if-digits-bytes.false
    ∙ decode_err digits c.loop-place.bytes place none.0 (omega arith) none.1 c.loop-place.invariant in
    rw read refl

pub loop-place-preserved : goal.loop-place-preserved
loop-place-preserved c =
    let digits = c.args.digits.now in
    let place = c.loop-place.place in
    decode_step digits c.loop-place.bytes place c.in-Some.byte (omega arith) (omega arith)
    (pair_some (slice_index digits (2 * place)) (slice_index digits (2 * place + 1)) (2 * place) c.in-Some.byte
    (sym c.byte_of.ensures ∙ c.in-Some.is)) c.loop-place.invariant

pub returns : goal.returns
returns c =
    let read =
    decode_sized-pairs _ _ c.if-digits-ne0.false c.if-digits-bytes.false
    ∙ decode_done _ c.loop-place.bytes c.loop-place.place (omega arith) (omega arith) c.loop-place.invariant in
    rw read (refl, refl)
