use Rattle.std.proofs.Common.{◌≡◌, ◌+◌, ◌∷◌, ◌++◌, [], suc, ap, sym, ◌∙◌, arith}
use Rattle.std.proofs.lemmas.List.{append_assoc}
use Rattle.sng_book.specs.declared.decision.Decision.TheVariants as note
use Rattle.sng_book.specs.declared.out.Out.TheVariants.{Note}
use Rattle.sng_core.specs.Connecting.{dropped_notes}
use Rattle.sng_core.proofs.ReleasingLink.{one_more_note}
use Rattle.sng_core.proofs.entry.dropped_notes.Goals as goal

pub loop-turn-preserved : goal.loop-turn-preserved
loop-turn-preserved c =
    let outs = c.args.outs.now in
    let i = c.loop-turn.turn in
    let one : i + 1 ≡ suc i = omega arith in
    c.in_ok-push.ensures.ok
    ∙ (ap (λ more. more ++ Note note.Outbox ∷ []) c.loop-turn.invariant
    ∙ (append_assoc outs (dropped_notes i) (Note note.Outbox ∷ [])
    ∙ (ap (λ more. outs ++ more) (one_more_note i) ∙ ap (λ n. outs ++ dropped_notes n) (sym one))))
