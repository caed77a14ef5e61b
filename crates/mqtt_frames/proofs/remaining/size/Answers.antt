use Rattle.std.proofs.Common.{arith}
use Rattle.mqtt_frames.proofs.Groups.{length-remaining_length, length-remaining_length-next}
use Rattle.mqtt_frames.proofs.Groups.{length-remaining_length-last}
use Rattle.mqtt_frames.proofs.remaining.size.Goals as goal

pub overflow_add-bytes : goal.overflow_add-bytes
overflow_add-bytes c =
    omega (
      arith,
      c.loop-rest.invariant,
      length-remaining_length c.args.number,
      length-remaining_length-next c.loop-rest.rest c.loop-rest-test.true,
    )

pub loop-rest-preserved : goal.loop-rest-preserved
loop-rest-preserved c =
    omega (arith, c.loop-rest.invariant, length-remaining_length-next c.loop-rest.rest c.loop-rest-test.true)

pub returns-clause-value : goal.returns-clause-value
returns-clause-value c =
    omega (arith, c.loop-rest.invariant, length-remaining_length-last c.loop-rest.rest c.loop-rest-test.false)

pub returns-clause-small : goal.returns-clause-small
returns-clause-small c =
    omega (
      arith,
      c.loop-rest.invariant,
      length-remaining_length c.args.number,
      length-remaining_length-last c.loop-rest.rest c.loop-rest-test.false,
    )
