use Rattle.sng_operator.proofs.Appends.{five}
use Rattle.sng_operator.proofs.status.push_status.Goals as goal

pub returns : goal.returns
returns c =
    five _ _ _ _ _ _ _ _ _ _ _ _
    c.in_ok-push_broker.ensures c.in_ok-push_clients.ensures c.in_ok-push_waiting.ensures
    c.in_ok-push_policy.ensures
    c.push_rows.ensures
