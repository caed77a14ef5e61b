use Rattle.std.proofs.Common.{◌≡◌, ◌≤◌, ◌++◌, true, not, take}
use Rattle.sng_desk.specs.Acts.{sends_in}
use Rattle.sng_crew.proofs.memory.devices.MemoryDatagrams.pass_outs.Given as goal

abbrev pub invariant-loop-out : goal.invariant-loop-out
invariant-loop-out l = record {
  told : not l.self.has_lost ≡ true → not l.fn.self.has_lost ≡ true;
  kept : not l.self.has_lost ≡ true → l.self.kept.items ≡ l.fn.self.kept.items
      ++ sends_in (take l.out-index l.outs);
  gave : (l.self.next ≡ l.fn.self.next) × (l.self.datagrams ≡ l.fn.self.datagrams);
  unsent : l.fn.self.unsent ≤ l.self.unsent;
  failures : l.self.failures ≡ l.fn.self.failures;
  over : l.self.is_over ≡ l.fn.self.is_over;
}
