-- A PUBLISH is carried on, at each QoS.
use Rattle.std.proofs.Common.{◌≡◌, IfOk, OnOk, Some, subst, sym}
use Rattle.sng_core.specs.Requesting.{request_next, request_outs}
use Rattle.sng_core.specs.Forms.{client_at, carried_outs}
use Rattle.sng_core.specs.Receiving.{once_next, once_outs}
use Rattle.sng_core.proofs.parts.Parts.requested.Goals as goal

pub returns-in-Publish-clause-outs : goal.returns-in-Publish-clause-outs
returns-in-Publish-clause-outs c =
    let place = c.args.place in
    let p = c.in-Publish.publish in
    subst (λ request. IfOk c.carry.result (λ outs. outs ≡ request_outs c.args.self.now place request))
    (sym c.in-Publish.is)
    (subst (λ s. IfOk c.carry.result (λ outs. outs ≡ carried_outs s p (client_at s.clients place)))
    c.self.view_is c.carry.ensures.outs)

pub returns-in-PublishOnce-clause-outs : goal.returns-in-PublishOnce-clause-outs
returns-in-PublishOnce-clause-outs c =
    let place = c.args.place in
    let p = c.in-PublishOnce.publish in
    subst (λ request. IfOk c.receive.result (λ outs. outs ≡ request_outs c.args.self.now place request))
    (sym c.in-PublishOnce.is)
    (subst (λ s. IfOk c.receive.result (λ outs. outs ≡ once_outs s p (client_at s.clients place)))
    c.self.view_is c.receive.ensures.outs)

pub returns-in-PublishOnce-clause-next : goal.returns-in-PublishOnce-clause-next
returns-in-PublishOnce-clause-next c =
    let place = c.args.place in
    let p = c.in-PublishOnce.publish in
    subst (λ request. OnOk c.receive.result (c.receive.new.self ≡ request_next c.args.self.now place request))
    (sym c.in-PublishOnce.is)
    (subst (λ s. OnOk c.receive.result (c.receive.new.self ≡ once_next s p (Some place)))
    c.self.view_is c.receive.ensures.next)
