use Rattle.std.proofs.Common.{subst, sym, ◌∙◌, ap}
use Rattle.sng_history.specs.Causes.{ByBroken}
use Rattle.sng_core.specs.Forms.{place_at, at_place, found_outs, broken_outs}
use Rattle.sng_core.proofs.IdleRows.{broken_row}
use Rattle.sng_core.proofs.Rows.{broken_from}
use Rattle.sng_history.specs.State.{State}
use Rattle.sng_history.specs.Steps.{outs_by}
use Rattle.sng_history.specs.Good.{Good}
use Rattle.sng_core.specs.contracts.parts.Parts.{the_view}
use Rattle.sng_core.proofs.Found.{here_within}
use Rattle.sng_core.proofs.parts.Parts.broken.Goals as goal

pub returns-clause-outs : goal.returns-clause-outs
returns-clause-outs c =
    let s : State = the_view c.self.inside in
    let good : Good s = subst Good (sym c.self.view_is) c.requires.good in
    c.in_ok-outs.ensures
    ∙ (ap (λ place. found_outs (broken_from c.args.from c.args.rule) (broken_outs c.args.rule)
    (at_place s.clients place))
    (c.requires.at ∙ ap (λ t. place_at c.args.from t.clients) (sym c.self.view_is))
    ∙ ((broken_row s c.args.from c.args.rule good).outs
    ∙ ap (λ t. outs_by t (ByBroken c.args.from c.args.rule)) c.self.view_is))

pub returns-clause-next : goal.returns-clause-next
returns-clause-next c = (broken_row c.args.self.now c.args.from c.args.rule c.requires.good).next

pub broken-requires : goal.broken-requires
broken-requires c =
    let s : State = the_view c.self.inside in
    here_within c.args.from s.clients c.args.at
    (c.requires.at ∙ ap (λ t. place_at c.args.from t.clients) (sym c.self.view_is))
