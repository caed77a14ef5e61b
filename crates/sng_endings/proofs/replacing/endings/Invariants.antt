use Rattle.std.proofs.Common.{◌≡◌, ◌++◌, drop, length}
use Rattle.sng_endings.specs.Replacing.{endings_from}
use Rattle.sng_endings.proofs.replacing.endings.Given as goal

abbrev pub invariant-loop-place : goal.invariant-loop-place
invariant-loop-place l = record {
  so_far : l.endings.items ++ endings_from l.policy l.place (drop l.place l.sessions)
      ≡ endings_from l.policy 0 l.sessions;
  end : l.place-end ≡ length l.sessions;
}
