-- The holders are all to whom the message may be due.
use Rattle.std.proofs.Common.{◌++◌, sym, ap, ◌∙◌, subst}
use Rattle.std.proofs.lemmas.Result.{IfOk-weaker, on_ok_weaker}
use Rattle.sng_sessions.specs.Holding.{holders_from}
use Rattle.sng_turns.specs.Delivering.{holders_outs, holders_kept, AreWithin}
use Rattle.sng_turns.proofs.HolderLemmas.{outs-all, kept-all, all-within}
use Rattle.sng_turns.proofs.deliver.deliver.Goals as goal

pub deliver_each-requires-clause-within : goal.deliver_each-requires-clause-within
deliver_each-requires-clause-within c =
    subst (AreWithin c.args.sessions.now) (sym (c.as_slice.ensures.value ∙ c.in_ok-holders.ensures
    ∙ ap (λ name. holders_from 0 name c.args.sessions.now) c.name.ensures))
    (all-within c.args.message.now.content.name c.args.sessions.now)

pub returns-clause-outs : goal.returns-clause-outs
returns-clause-outs c =
    let holders_are = c.as_slice.ensures.value ∙ c.in_ok-holders.ensures
    ∙ ap (λ name. holders_from 0 name c.args.sessions.now) c.name.ensures in
    on_ok_weaker c.deliver_each.result
    (λ said. said ∙ ap (λ outs. c.args.outs.now ++ outs)
    (ap (holders_outs c.args.policy.now c.args.message.now c.args.sessions.now) holders_are
    ∙ outs-all c.args.policy.now c.args.message.now c.args.sessions.now))
    c.deliver_each.ensures.outs

pub returns-clause-kept : goal.returns-clause-kept
returns-clause-kept c =
    let holders_are = c.as_slice.ensures.value ∙ c.in_ok-holders.ensures
    ∙ ap (λ name. holders_from 0 name c.args.sessions.now) c.name.ensures in
    IfOk-weaker c.deliver_each.result _ _
    (λ kept is. is
    ∙ (ap (holders_kept c.args.policy.now c.args.message.now c.args.sessions.now) holders_are
    ∙ kept-all c.args.policy.now c.args.message.now c.args.sessions.now))
    c.deliver_each.ensures.kept
