-- The id that is confirmed is known, and any other as it was.
use Rattle.std.proofs.Common.{sym, ap, is_some, ◌∙◌}
use Rattle.sng_turns.proofs.KnownLemmas.{told-now, told-before, told-none, some-copied}
use Rattle.sng_turns.proofs.known.confirmed_id.Goals as goal
use Rattle.sng_turns.proofs.known.confirmed_id.Goals.{
  else-id_for-id-via-then-id_for-id+else-is_some,
}
use Rattle.sng_turns.proofs.known.confirmed_id.Goals.{else-id_for-id-via-else-id_for-id}

pub returns-then-is_some : goal.returns-then-is_some
returns-then-is_some c =
    told-now c.args.name.now c.args.id c.args.ids.now
    (sym c.id_for.ensures ∙ c.if-id_for-id.true)
    (ap is_some (sym c.name_of.ensures)
    ∙ (some-copied c.name_of.result ∙ (sym c.is_some.ensures ∙ c.if-is_some.true)))

pub returns : goal.returns
returns c = c.id_of.ensures ∙ elim c.else-id_for-id.branch [
  | else-id_for-id-via-then-id_for-id+else-is_some w ↦
      told-none c.args.name.now c.args.id c.args.ids.now
      (ap is_some (sym w.name_of.ensures)
      ∙ (some-copied w.name_of.result ∙ (sym w.is_some.ensures ∙ w.if-is_some.false)))
  | else-id_for-id-via-else-id_for-id w ↦
      told-before c.args.name.now c.args.id c.args.ids.now
      (λ e. w.if-id_for-id.false (c.id_for.ensures ∙ e))
]
