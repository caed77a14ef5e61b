use Rattle.std.proofs.Common.{not, rules}
use Rattle.std.proofs.lemmas.Fn.{filter_same}
use Rattle.sng_serve.specs.Visits.{is_over}
use Rattle.sng_serve.proofs.reception.forget_all.Goals as goal

pub returns-clause-left : goal.returns-clause-left
returns-clause-left c =
    filter_same _ (λ visit. not (is_over visit)) _ (λ x b f' k. search rules) _ _ c.retain.ensures.filtered
