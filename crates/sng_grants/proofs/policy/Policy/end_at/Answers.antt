use Rattle.sng_grants.proofs.EndLemmas.{few_left}
use Rattle.sng_grants.proofs.policy.Policy.end_at.Goals as goal

pub invariant_of-self : goal.invariant_of-self
invariant_of-self c = record {
  clients = few_left c.args.clock c.self.inside.clients _ _ c.end_at.ensures c.self.invariant.clients;
  sources = few_left c.args.clock c.self.inside.sources _ _ c.end_at-2.ensures c.self.invariant.sources;
  topics = c.self.invariant.topics;
}
