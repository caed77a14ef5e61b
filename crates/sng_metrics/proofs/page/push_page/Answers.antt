use Rattle.std.proofs.Common.{◌++◌}
use Rattle.sng_metrics.specs.Figures.{count_families, families_of, state_families}
use Rattle.sng_metrics.specs.Gauges.{fault_families}
use Rattle.sng_metrics.specs.Pages.{page_text}
use Rattle.sng_metrics.proofs.PageLemmas.{page_of_three}
use Rattle.sng_metrics.proofs.PushLemmas.{pushed_as, pushed_three}
use Rattle.sng_metrics.proofs.page.push_page.Goals as goal

pub returns : goal.returns
returns c =
    let state = state_families c.args.figures.now in
    let counts = count_families c.args.tally.now in
    let faults = fault_families c.args.figures.now in
    pushed_as c.push_faults.result c.args.text.now.items
    (page_text state ++ (page_text counts ++ page_text faults))
    (page_text (families_of c.args.tally.now c.args.figures.now)) c.push_faults.new.text.items
    (pushed_three c.push_faults.result c.args.text.now.items (page_text state)
    c.push_state.new.text.items (page_text counts) c.push_counts.new.text.items (page_text faults)
    c.push_faults.new.text.items c.in_ok-push_state.ensures c.in_ok-push_counts.ensures
    c.push_faults.ensures)
    (page_of_three state counts faults)
