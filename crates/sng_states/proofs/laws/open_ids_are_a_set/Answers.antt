use Rattle.sng_states.proofs.OpenIdLemmas.{none_open, few_admitted, few_without, one_list}
use Rattle.sng_states.proofs.laws.open_ids_are_a_set.Goals as goal

pub returns-clause-few : goal.returns-clause-few
returns-clause-few c = λ id ids kept. (none_open, few_admitted id ids kept, few_without id ids kept)

pub returns-clause-one : goal.returns-clause-one
returns-clause-one c = one_list
