use Rattle.std.proofs.Common.{◌≡◌, IfOk, Err, ap, subst, sym, ◌∙◌}
use Rattle.sng_history.specs.Causes.{datagram_cause}
use Rattle.sng_history.specs.Steps.{outs_by}
use Rattle.sng_core.proofs.parts.Parts.datagram.Goals as goal

pub returns-in-Ok-clause-outs : goal.returns-in-Ok-clause-outs
returns-in-Ok-clause-outs c =
    subst (λ r. IfOk c.message.result (λ outs. outs ≡ outs_by c.args.self.now (datagram_cause c.args.from r)))
    (sym c.in-Ok.ensures.ok) c.message.ensures.outs

pub returns-in-Err-NotSupported-clause-outs : goal.returns-in-Err-NotSupported-clause-outs
returns-in-Err-NotSupported-clause-outs c =
    subst (λ r. IfOk c.broken.result (λ outs. outs ≡ outs_by c.args.self.now (datagram_cause c.args.from r)))
    (sym (c.decode.ensures.not_supported.0
    (c.in-Err-NotSupported.is ∙ ap Err c.in-Err-NotSupported.field-0-is))) c.broken.ensures.outs

pub returns-in-Err-Malformed-clause-outs : goal.returns-in-Err-Malformed-clause-outs
returns-in-Err-Malformed-clause-outs c =
    subst (λ r. IfOk c.broken-in-Err-Malformed.result
    (λ outs. outs ≡ outs_by c.args.self.now (datagram_cause c.args.from r)))
    (sym (c.decode.ensures.malformed.0 (c.in-Err-Malformed.is ∙ ap Err c.in-Err-Malformed.field-0-is)))
    c.broken-in-Err-Malformed.ensures.outs
