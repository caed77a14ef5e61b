-- The write of the mark is `confirmed`, and an id that was not given changes nothing.
use Rattle.std.proofs.Common.{◌-◌, true, sym, ap, ◌∙◌, is_some, true≢false, arith}
use Rattle.indexmap.specs.Layout.{length-set_value_at}
use Rattle.sng_ids.proofs.IdLemmas.{confirmed-place, confirmed_at-past, set_value_at-confirmed}
use Rattle.sng_ids.proofs.table.IdTable.confirm.Goals as goal
use Rattle.sng_ids.proofs.table.IdTable.confirm.Goals.{in-Some, in_default}

pub invariant_of-self : goal.invariant_of-self
invariant_of-self c =
    elim c.match-get_index_mut.branch [
      | in-Some w ↦
          let entries = c.self.inside.names.entries in
          let place = c.from-place.result - 1 in
          rw w.self-inside-is (omega (arith, length-set_value_at entries place true, c.self.invariant))
      | in_default w ↦ rw w.self-inside-is c.self.invariant
    ]

pub returns-clause-ids : goal.returns-clause-ids
returns-clause-ids c =
    let given = c.if-id-eq0.false in
    elim c.match-get_index_mut.branch [
      | in-Some w ↦
          rw (w.self-inside-is, ← c.self.view_is, confirmed-place _ _ given, ← c.from-place.ensures)
          (set_value_at-confirmed _ _)
      | in_default w ↦
          rw (w.self-inside-is, ← c.self.view_is, confirmed-place _ _ given, ← c.from-place.ensures)
          (sym (confirmed_at-past _ _
          (λ within. true≢false
          (sym (c.get_index_mut.ensures.found.1 within) ∙ ap is_some w.in_default.is))))
    ]
