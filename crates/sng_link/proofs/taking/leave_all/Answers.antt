use Rattle.std.proofs.Common.{◌≡◌, ◌++◌, Bool, List, [], ap, ◌∙◌, refl}
use Rattle.sng_history.specs.Links.{Link, Wanted}
use Rattle.sng_history.specs.Exits.{exits_of, leaving}
use Rattle.sng_link.specs.Flights.{link_of}
use Rattle.sng_link.specs.Steps.{Logged}
use Rattle.sng_link.specs.declared.step.Step.{Step}
use Rattle.sng_link.proofs.Renewing.{on_err, stands_anew}
use Rattle.sng_link.proofs.taking.leave_all.Goals as goal

pub leave_owed-requires : goal.leave_owed-requires
leave_owed-requires c = (
  c.args.ids.now.marks,
  c.args.wanted.now.wanted,
  link_of c.args.outbox.now.sending c.args.ids.now c.args.wanted.now.wanted 0,
  rw c.requires.no_log (c.requires.stands 0),
)

pub leave_waiting-requires : goal.leave_waiting-requires
leave_waiting-requires c pinged =
    let link = link_of c.args.outbox.now.sending c.args.ids.now c.args.wanted.now.wanted pinged in
    let gone =
    c.in_ok-leave_owed.ensures.subscribed c.args.ids.now.marks c.args.wanted.now.wanted link
    (rw c.requires.no_log (c.requires.stands pinged)) in
    stands_anew _ _ _ _ _ _ _ gone.2.stands

pub returns-clause-outs : goal.returns-clause-outs
returns-clause-outs c pinged =
    let link = link_of c.args.outbox.now.sending c.args.ids.now c.args.wanted.now.wanted pinged in
    let gone =
    c.in_ok-leave_owed.ensures.subscribed c.args.ids.now.marks c.args.wanted.now.wanted link
    (rw c.requires.no_log (c.requires.stands pinged)) in
    let now : Link =
    link_of c.args.outbox.now.sending c.leave_owed.new.ids c.leave_owed.new.wanted.wanted pinged in
    let waiting = c.args.outbox.now.sending.waiting in
    c.in_ok-all.ensures.outs pinged
    ∙ ap (λ l. l ++ leaving now waiting (exits_of c.args.policy.now waiting))
    (gone.1 ∙ ap (λ l. l ++ gone.0) c.in_ok-outs.ensures) ∙ gone.2.outs_left

pub returns-clause-after : goal.returns-clause-after
returns-clause-after c pinged =
    let link = link_of c.args.outbox.now.sending c.args.ids.now c.args.wanted.now.wanted pinged in
    let gone =
    c.in_ok-leave_owed.ensures.subscribed c.args.ids.now.marks c.args.wanted.now.wanted link
    (rw c.requires.no_log (c.requires.stands pinged)) in
    c.in_ok-all.ensures.after pinged
    ∙ ap (λ (l : Link). record l { waiting = [] }) gone.2.link_left

nothing_yet : (marks : List Bool) (wanted : List Wanted) (log : List Step) → log ≡ []
    → Logged marks wanted log marks wanted
nothing_yet marks wanted log none = rw none (record { can = tt; marks_back = refl; wanted_back = refl })

pub returns-in_err-outs-clause-logged : goal.returns-in_err-outs-clause-logged
returns-in_err-outs-clause-logged c =
    on_err _ _ (nothing_yet c.args.ids.now.marks c.args.wanted.now.wanted c.args.log.now.items
    c.requires.no_log)

pub returns-in_err-leave_owed-clause-logged : goal.returns-in_err-leave_owed-clause-logged
returns-in_err-leave_owed-clause-logged c =
    let link = link_of c.args.outbox.now.sending c.args.ids.now c.args.wanted.now.wanted 0 in
    on_err _ _ (c.in_err-leave_owed.ensures.logged c.args.ids.now.marks c.args.wanted.now.wanted link
    (rw c.requires.no_log (c.requires.stands 0)))

pub returns-in_err-all-clause-logged : goal.returns-in_err-all-clause-logged
returns-in_err-all-clause-logged c =
    let link = link_of c.args.outbox.now.sending c.args.ids.now c.args.wanted.now.wanted 0 in
    let same = c.in_err-all.ensures.err in
    let logged : Logged c.args.ids.now.marks c.args.wanted.now.wanted c.leave_owed.new.log.items
    c.leave_waiting.new.ids.marks c.leave_waiting.new.wanted.wanted =
    rw (same.1, same.2) (c.leave_owed.ensures.logged c.args.ids.now.marks c.args.wanted.now.wanted link
    (rw c.requires.no_log (c.requires.stands 0))) in
    on_err _ _ logged
