use Rattle.std.proofs.Common.{◌≡◌, ℕ, List, true, false, sym, ap, ◌∙◌}
use Rattle.sng_cover.specs.Reaches.{fits}
use Rattle.sng_cover.proofs.Gathering.{reached_more, reached_same}
use Rattle.sng_cover.proofs.question.Question.add.Goals as goal

pub returns-then-fits : goal.returns-then-fits
returns-then-fits c = λ asked granted before.
    let fit : fits asked c.args.filter.now ≡ true =
    ap (λ (text : List ℕ). fits text c.args.filter.now) (sym before.asked_is) ∙ sym c.fits.ensures.value
    ∙ c.if-fits.true in
    record {
      asked_is = before.asked_is;
      filter = before.filter;
      own = before.own;
      reached =
          reached_more asked c.args.filter.now granted _ _ c.of.result c.of.ensures.filter fit
          c.of.ensures.shape c.add.ensures before.reached;
    }

pub returns-else-fits : goal.returns-else-fits
returns-else-fits c = λ asked granted before.
    let fit : fits asked c.args.filter.now ≡ false =
    ap (λ (text : List ℕ). fits text c.args.filter.now) (sym before.asked_is) ∙ sym c.fits.ensures.value
    ∙ c.if-fits.false in
    record {
      asked_is = before.asked_is;
      filter = before.filter;
      own = before.own;
      reached = reached_same asked c.args.filter.now granted _ c.fits.ensures.granted_is fit before.reached;
    }
