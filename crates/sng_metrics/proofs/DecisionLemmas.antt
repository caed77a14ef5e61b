-- However a decision came out, the page has a sample that counts it.
use Rattle.std.proofs.Common.{◌≡◌, true, refl}
use Rattle.std.specs.Prelude.{not}
use Rattle.sng_book.specs.declared.decision.Decision.{Decision}
use Rattle.sng_book.specs.declared.decision.Decision.TheVariants as decision
use Rattle.sng_book.specs.declared.outcome.Outcome.{Outcome}
use Rattle.sng_book.specs.declared.outcome.Outcome.TheVariants as outcome
use Rattle.sng_metrics.specs.Counts.{is_done, may_come}
use Rattle.sng_tally.specs.Kinds.{kind_of, outcome_kind, outcome_of}

judged : (how : Outcome) → not (is_done (outcome_kind how)) ≡ true
judged outcome.Allowed = refl
judged (outcome.Denied denial) = refl

pub is_told : (decision : Decision) → may_come (kind_of decision) (outcome_of decision) ≡ true
is_told (decision.Connect client how) = judged how
is_told (decision.Register who name how) = judged how
is_told (decision.Publish who name how) = judged how
is_told (decision.Subscribe who filter how) = judged how
is_told (decision.Unsubscribe who filter how) = judged how
is_told (decision.Will who name how) = judged how
is_told (decision.Announce client name) = refl
is_told (decision.Hand client name how) = judged how
is_told (decision.Retry client name how) = judged how
is_told (decision.Forward who name how) = judged how
is_told (decision.Again who name how) = judged how
is_told (decision.End client filter how) = judged how
is_told (decision.Lost client) = refl
is_told (decision.Left client) = refl
is_told decision.Outbox = refl
is_told (decision.Frame who how) = judged how
