use Rattle.std.proofs.Common.{◌≡◌, ◌++◌, drop}
use Rattle.sng_turns.specs.Delivering.{holders_outs, holders_kept, AreWithin}
use Rattle.sng_turns.proofs.deliver.deliver_each.Given as goal

abbrev pub invariant-loop-holder : goal.invariant-loop-holder
invariant-loop-holder l = record {
  within : AreWithin l.sessions (drop l.holder-index l.holders);
  outs : l.outs ++ holders_outs l.policy l.message l.sessions (drop l.holder-index l.holders)
      ≡ l.initial.outs ++ holders_outs l.policy l.message l.sessions l.holders;
  kept : l.kept.items ++ holders_kept l.policy l.message l.sessions (drop l.holder-index l.holders)
      ≡ holders_kept l.policy l.message l.sessions l.holders;
}
