-- As the message asks.
use Rattle.std.proofs.Common.{◌≡◌, IfOk, OnOk, ap, subst, sym, ◌∙◌}
use Rattle.sng_history.specs.Steps.{outs_by, next_by}
use Rattle.sng_core.specs.Requesting.{caused}
use Rattle.sng_core.proofs.parts.Parts.message.Goals as goal

pub returns-in-Entry-clause-outs : goal.returns-in-Entry-clause-outs
returns-in-Entry-clause-outs c =
    subst (λ k. IfOk c.connect.result (λ outs. outs ≡ outs_by c.args.self.now k))
    (sym (c.ask_of.ensures c.args.from ∙ ap (caused c.args.from) c.in-Entry.is)) c.connect.ensures.outs

pub returns-in-Entry-clause-next : goal.returns-in-Entry-clause-next
returns-in-Entry-clause-next c =
    subst (λ k. OnOk c.connect.result (c.connect.new.self ≡ next_by c.args.self.now k))
    (sym (c.ask_of.ensures c.args.from ∙ ap (caused c.args.from) c.in-Entry.is)) c.connect.ensures.next

pub returns-in-Source-clause-outs : goal.returns-in-Source-clause-outs
returns-in-Source-clause-outs c =
    subst (λ k. IfOk c.source.result (λ outs. outs ≡ outs_by c.args.self.now k))
    (sym (c.ask_of.ensures c.args.from ∙ ap (caused c.args.from) c.in-Source.is)) c.source.ensures.outs

pub returns-in-Source-clause-next : goal.returns-in-Source-clause-next
returns-in-Source-clause-next c =
    subst (λ k. OnOk c.source.result (c.source.new.self ≡ next_by c.args.self.now k))
    (sym (c.ask_of.ensures c.args.from ∙ ap (caused c.args.from) c.in-Source.is)) c.source.ensures.next

pub returns-in-Request-clause-outs : goal.returns-in-Request-clause-outs
returns-in-Request-clause-outs c =
    subst (λ k. IfOk c.request.result (λ outs. outs ≡ outs_by c.args.self.now k))
    (sym (c.ask_of.ensures c.args.from ∙ ap (caused c.args.from) c.in-Request.is)) c.request.ensures.outs

pub returns-in-Request-clause-next : goal.returns-in-Request-clause-next
returns-in-Request-clause-next c =
    subst (λ k. OnOk c.request.result (c.request.new.self ≡ next_by c.args.self.now k))
    (sym (c.ask_of.ensures c.args.from ∙ ap (caused c.args.from) c.in-Request.is)) c.request.ensures.next
