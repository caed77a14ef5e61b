-- Those with whom nothing is due are passed over, first and behind each with whom something may be.
use Rattle.std.proofs.Common.{◌<◌, ◌++◌, drop, length, suc, ap, sym, ◌∙◌, arith, rules}
use Rattle.sng_core.specs.Dues.{dues_plan}
use Rattle.sng_core.specs.Forms.{client_at}
use Rattle.sng_core.proofs.Passing.{Alike, passed, next_one, more_outs, more_dues, more_room}
use Rattle.sng_core.proofs.tick.dues.Goals as goal

pub loop-place-init : goal.loop-place-init
loop-place-init c =
    let xs = c.args.sessions.now in
    let first = c.next_due-place.result in
    let alike : Alike c.args.policy.now c.args.clock c.args.room.now 0 first xs =
    passed c.args.policy.now c.args.clock c.args.room.now 0 first xs c.next_due-place.ensures.after
    c.next_due-place.ensures.quiet in
    record {
      outs = ap (λ outs. c.args.outs.now ++ outs) (sym alike.outs);
      dues =
          ap (λ dues. dues ++ dues_plan c.args.policy.now c.args.clock c.args.room.now first (drop first xs))
          c.new-dues.ensures.items
          ∙ sym alike.dues;
      room = sym alike.left;
    }

pub loop-place-preserved : goal.loop-place-preserved
loop-place-preserved c =
    let xs = c.args.sessions.now in
    let place = c.loop-place.place in
    let policy = c.args.policy.now in
    let clock = c.args.clock in
    let room = c.loop-place.room in
    let left = c.due_with.new.room in
    let next = c.next_due-place-in-loop-place.result in
    let here : c.loop-place.place < length c.args.sessions.now = search rules in
    let parted = next_one xs place here in
    let alike : Alike policy clock left (suc place) next xs =
    passed policy clock left (suc place) next xs
    (omega (arith, c.next_due-place-in-loop-place.ensures.after))
    (λ other after before.
    c.next_due-place-in-loop-place.ensures.quiet other (omega (arith, after)) before) in
    record {
      outs =
          more_outs policy clock room left xs (client_at xs place) place next c.loop-place.outs
          c.due_with.new.outs _ parted c.in_ok-due.ensures.outs c.in_ok-due.ensures.room alike
          c.loop-place.invariant.outs;
      dues =
          more_dues policy clock room left xs (client_at xs place) place next c.loop-place.dues.items
          c.add.new.dues.items _ parted
          (c.in_ok-add.ensures ∙ ap (λ due. c.loop-place.dues.items ++ due) c.in_ok-due.ensures.due)
          c.in_ok-due.ensures.room alike c.loop-place.invariant.dues;
      room =
          more_room policy clock room left _ xs (client_at xs place) place next parted
          c.in_ok-due.ensures.room alike c.loop-place.invariant.room;
    }
