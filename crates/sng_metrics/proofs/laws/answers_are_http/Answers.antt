use Rattle.sng_metrics.proofs.AnswerLemmas.{is_answer}
use Rattle.sng_metrics.proofs.laws.answers_are_http.Goals as goal

pub returns : goal.returns
returns c = is_answer
