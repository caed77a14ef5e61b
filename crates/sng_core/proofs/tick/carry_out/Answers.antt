-- One more is carried out.
use Rattle.std.proofs.Common.{ap, sym, ◌∙◌, arith}
use Rattle.sng_core.specs.Dues.{due_clients, due_link}
use Rattle.sng_core.proofs.DueLemmas.{clients-more, link-more, first-places, one-places, places-fewer, none-left}
use Rattle.sng_core.proofs.tick.carry_out.Goals as goal

pub carry_out_one-requires : goal.carry_out_one-requires
carry_out_one-requires c =
    one-places _ _ _ c.before.before.before.before.before.loop-due.link c.in-Some.ensures.steps.0 c.loop-due.invariant.has

pub loop-due-preserved : goal.loop-due-preserved
loop-due-preserved c =
    let due = c.in-Some.due in
    let clock = c.args.clock in
    let limits = c.args.limits in
    let steps = c.in-Some.ensures.steps.0 in
    record {
      sessions =
          c.carry_out_one.ensures.sessions
          ∙ (ap (λ xs. due_clients clock xs due) c.loop-due.invariant.sessions
          ∙ sym (clients-more clock c.loop-due.yielded due c.args.sessions.now));
      link =
          c.carry_out_one.ensures.link ∙ (ap (λ link. due_link limits link due) c.loop-due.invariant.link
          ∙ sym (link-more limits c.loop-due.yielded due c.args.link.now.link));
      has =
          places-fewer _ _ c.carry_out_one.new.link (omega arith) (c.carry_out_one.ensures.room _
          (first-places _ _ _ 0 c.before.before.before.before.before.before.loop-due.link steps
          (places-fewer _ _ c.before.before.before.before.before.before.loop-due.link (omega arith)
          c.loop-due.invariant.has)));
      room = λ count has.
          c.carry_out_one.ensures.room _
          (first-places _ _ _ count c.before.before.before.before.before.before.loop-due.link steps (c.loop-due.invariant.room count has));
    }

pub returns-clause-room : goal.returns-clause-room
returns-clause-room c =
    λ count has.
    let rest = c.loop-due.due-iterator.rest in
    none-left rest.items count c.loop-due.link (omega (arith, c.in-None.ensures.steps.0, rest.ok))
    (c.loop-due.invariant.room count has)
