-- Something waits, or nothing.
use Rattle.std.proofs.Common.{[], ◌∷◌, ◌++◌, slice_get, sym, ap, ◌∙◌}
use Rattle.std.specs.Option.{option_copied}
use Rattle.std.proofs.lemmas.List.{append_assoc}
use Rattle.sng_book.specs.declared.decision.Decision.TheVariants as note
use Rattle.sng_book.specs.declared.outcome.Denial.TheVariants.{Peer}
use Rattle.sng_book.specs.declared.outcome.PeerDenial.TheVariants.{ClientRefused}
use Rattle.sng_book.specs.declared.outcome.Outcome.TheVariants.{Denied}
use Rattle.sng_book.specs.declared.out.Out.TheVariants.{Note}
use Rattle.sng_history.specs.Entering.{heard_at}
use Rattle.sng_sessions.specs.Standing.{client_at}
use Rattle.sng_core.specs.Confirming.{served_outs, served_next, refusing_outs, refusing_next}
use Rattle.sng_core.proofs.ConfirmLemmas.{moved-here, nothing-waits, one-waits}
use Rattle.sng_core.proofs.confirm.refuse.Goals as goal

pub returns-in_default-clause-next : goal.returns-in_default-clause-next
returns-in_default-clause-next c =
    let xs = c.args.sessions.now in
    let x = client_at xs c.args.place in
    c.hear.ensures
    ∙ moved-here (heard_at c.args.clock)
    (λ y. refusing_next c.args.policy.now c.args.clock y y.buffer.waiting) xs c.args.place c.requires
    (sym (ap (refusing_next c.args.policy.now c.args.clock x)
    (nothing-waits x.buffer.waiting
    (ap (λ b. slice_get b.waiting 0) (sym c.queue.ensures)
    ∙ (sym c.at.ensures ∙ ap option_copied c.in_default.is)))))

pub returns-clause-outs : goal.returns-clause-outs
returns-clause-outs c =
    let x = client_at c.args.sessions.now c.args.place in
    let policy = c.args.policy.now in
    let outs = c.args.outs in
    let refused = Denied (Peer (ClientRefused c.args.code)) in
    let there = one-waits x.buffer.waiting c.in-Some.front.now
    (ap (λ b. slice_get b.waiting 0) (sym c.queue.ensures)
    ∙ (sym c.at.ensures ∙ ap option_copied c.in-Some.is)) in
    c.in_ok-served.ensures.outs
    ∙ (ap (λ o. o ++ served_outs policy 0 1 x) (c.in_ok-note_hand.ensures
    ∙ (λ i. outs ++ Note (note.Hand (c.id.ensures i) (c.name.ensures.value i) refused) ∷ []))
    ∙ (append_assoc outs (Note (note.Hand x.id c.in-Some.front.now.name refused) ∷ [])
    (served_outs policy 0 1 x)
    ∙ ap (λ ms. outs ++ refusing_outs policy c.args.code x ms) (sym there)))

pub returns-clause-next : goal.returns-clause-next
returns-clause-next c =
    let xs = c.args.sessions.now in
    let x = client_at xs c.args.place in
    let policy = c.args.policy.now in
    let there = one-waits x.buffer.waiting c.in-Some.front.now
    (ap (λ b. slice_get b.waiting 0) (sym c.queue.ensures)
    ∙ (sym c.at.ensures ∙ ap option_copied c.in-Some.is)) in
    c.in_ok-served.ensures.next
    ∙ moved-here (served_next policy c.args.clock 0 1)
    (λ y. refusing_next policy c.args.clock y y.buffer.waiting) xs c.args.place c.requires
    (sym (ap (refusing_next policy c.args.clock x) there))
