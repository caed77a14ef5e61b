use Rattle.sng_promise.proofs.Standing.FiltersHeld.{AllHave}
use Rattle.sng_promise.proofs.policies.policies_have_filters.Given as goal

-- where those that are left have filters, all have
abbrev pub invariant-loop-grant : goal.invariant-loop-grant
invariant-loop-grant l = AllHave l.grant-iterator → AllHave l.policy.clients
