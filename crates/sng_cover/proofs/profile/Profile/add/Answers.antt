use Rattle.std.proofs.Common.{◌≡◌, max, rules, ◌∙◌}
use Rattle.sng_cover.proofs.Gathering.{longest_more, runs_more}
use Rattle.sng_cover.proofs.profile.Profile.add.Goals as goal

pub returns : goal.returns
returns c = λ granted before.
    let greater : c.max-self.result ≡ max c.of-shape.result.fixed c.args.self.now.longest = search rules in
    record {
      longest =
          greater ∙ longest_more c.args.filter.now granted _ _ c.of-shape.ensures.shape.fixed before.longest;
      runs = runs_more c.args.filter.now granted _ _ c.mark_runs.ensures before.runs;
    }
