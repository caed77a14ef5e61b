use Rattle.std.proofs.Common.{◌↔◌, IsTrue, List, ◌++◌, ap, ap₂, ◌∙◌}
use Rattle.sng_book.specs.declared.address.Address.{Address}
use Rattle.sng_book.specs.declared.row.Row.{Row}
use Rattle.sng_book.specs.Traces.{trace_in}
use Rattle.sng_two_runs.specs.Runs.{IsHistory, TracesAgree, named_by}
use Rattle.sng_two_runs.proofs.Agreement.{Compared, both_found, agreed, held_apart}
use Rattle.sng_two_runs.proofs.comparison.two_runs.Goals as goal

made : (c : goal.After-drop-rows-2)
    → Compared c.args.id.now c.args.first.now c.args.second.now c.in_ok-rows.rows.items
    c.in_ok-others.others.items c.push_own-2.new.own.items c.as_slice-5.result.now c.as_slice-6.result.now
made c = record {
  told = c.in_ok-rows.ensures.events;
  lawful = c.in_ok-rows.ensures.lawful;
  also_told = c.in_ok-others.ensures.events;
  also_lawful = c.in_ok-others.ensures.lawful;
  owned =
      c.in_ok-push_own-2.ensures
      ∙ ap (λ (own : List Address). own ++ named_by c.args.id.now c.args.second.now)
      (c.in_ok-push_own.ensures
      ∙ ap (λ (own : List Address). own ++ named_by c.args.id.now c.args.first.now) c.new-own.ensures.items);
  found =
      c.as_slice-5.ensures.value ∙ c.in_ok-one.ensures
      ∙ ap₂ (trace_in c.args.id.now) c.as_slice-2.ensures.value c.as_slice.ensures.value;
  also_found =
      c.as_slice-6.ensures.value ∙ c.in_ok-other.ensures
      ∙ ap₂ (trace_in c.args.id.now) c.as_slice-4.ensures.value c.as_slice-3.ensures.value;
}

told : (c : goal.After-drop-rows-2) (h k : List Row) → IsHistory c.args.first.now h
    → IsHistory c.args.second.now k
    → IsTrue c.all_same.result ↔ TracesAgree c.args.id.now h k
told c h k history also =
    agreed c.args.id.now h k c.as_slice-5.result.now c.as_slice-6.result.now c.all_same.result
    (both_found c.args.id.now c.args.first.now c.args.second.now c.in_ok-rows.rows.items
    c.in_ok-others.others.items c.push_own-2.new.own.items c.as_slice-5.result.now c.as_slice-6.result.now
    (made c) h k history also)
    c.all_same.ensures

pub returns-clause-agree : goal.returns-clause-agree
returns-clause-agree c h k history also = told c h k history also

pub returns-clause-apart : goal.returns-clause-apart
returns-clause-apart c h k history also look =
    held_apart c.args.id.now c.args.first.now c.args.second.now h k c.all_same.result
    (told c h k history also) history also look
