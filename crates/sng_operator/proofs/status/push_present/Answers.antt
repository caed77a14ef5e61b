use Rattle.sng_operator.proofs.Appends.{three}
use Rattle.sng_operator.proofs.status.push_present.Goals as goal

pub returns : goal.returns
returns c =
    three _ _ _ _ _ _ _ _
    c.in_ok-push_count.ensures c.in_ok-push_count-2.ensures c.push_count-3.ensures
