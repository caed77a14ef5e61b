use Rattle.std.proofs.Common.{◌≡◌, ◌+◌, ◌≤◌, length}
use Rattle.sng_questions.specs.Ends.{ends_in}
use Rattle.sng_questions.proofs.ends.ends_in.Given as goal

-- what was counted and what is still to come are all
abbrev pub invariant-loop-grant : goal.invariant-loop-grant
invariant-loop-grant g l = record {
  counted : l.count + ends_in l.grant-iterator ≡ ends_in l.fn.listed;
  few : l.count + length l.grant-iterator ≤ length l.fn.listed;
}
