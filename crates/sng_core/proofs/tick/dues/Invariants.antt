use Rattle.std.proofs.Common.{◌≡◌, ◌++◌, ◌-◌, drop, length}
use Rattle.sng_core.specs.Dues.{dues_outs, dues_plan, dues_room}
use Rattle.sng_core.proofs.tick.dues.Given as goal

abbrev pub invariant-loop-place : goal.invariant-loop-place
invariant-loop-place l = record {
  outs : l.outs ++ dues_outs l.policy l.clock l.room (drop l.place l.sessions)
      ≡ l.initial.outs ++ dues_outs l.policy l.clock l.initial.room l.sessions;
  dues : l.dues.items ++ dues_plan l.policy l.clock l.room l.place (drop l.place l.sessions)
      ≡ dues_plan l.policy l.clock l.initial.room 0 l.sessions;
  room : dues_room l.clock l.room (drop l.place l.sessions) ≡ dues_room l.clock l.initial.room l.sessions;
}

abbrev pub decreases-loop-place : goal.decreases-loop-place
decreases-loop-place l = length l.sessions - l.place
