use Rattle.std.proofs.Common.{◌≡◌, IfOk, subst, arith}
use Rattle.std.specs.Str.{IsValidUpTo}
use Rattle.sng_config.specs.Reading.{settled, outcome_of}
use Rattle.sng_config.proofs.TurnLemmas.{outcome-not_utf8}
use Rattle.sng_config.proofs.DocumentLemmas.{read-document}
use Rattle.sng_config.proofs.reading.settings_of.Goals as goal

pub returns-in-Err-clause-refused : goal.returns-in-Err-clause-refused
returns-in-Err-clause-refused c =
    let text = c.args.text.now in
    let at = c.valid_up_to.result in
    let valid : IsValidUpTo text at = rw c.valid_up_to.ensures c.in-Err.ensures.cases.1 in
    (at, outcome-not_utf8 text at valid, (at, omega arith, omega (arith, valid.short), c.of-place.ensures))

pub returns-in-Ok-clause-document : goal.returns-in-Ok-clause-document
returns-in-Ok-clause-document c =
    let same : c.in-Ok.text.now ≡ c.args.text.now = c.in-Ok.ensures.cases.0 in
    read-document c.args.text.now c.read.result
    (subst (λ text. IfOk c.read.result (λ found. outcome_of text ≡ settled found)) same
    c.read.ensures.settled)
