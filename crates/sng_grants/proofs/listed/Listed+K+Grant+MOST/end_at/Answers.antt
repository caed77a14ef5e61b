use Rattle.std.proofs.Common.{◌≡◌, ◌≤◌, not, sym, ap, subst, ◌∙◌, length}
use Rattle.std.specs.List.Sorted.{IsStrictlySortedBy}
use Rattle.std.specs.Map.{keys_of}
use Rattle.sng_grants.specs.Listed.{entries_in}
use Rattle.sng_grants.specs.Sources.{is_reached, left_at}
use Rattle.sng_grants.proofs.OrderLemmas.{kept-filter}
use Rattle.sng_grants.proofs.listed.Listed+K+Grant+MOST.end_at.Goals as goal
use Rattle.sng_grants.proofs.listed.Listed+K+Grant+MOST.end_at.Goals.{in-Some, in_default}

pub invariant_of-self : goal.invariant_of-self
invariant_of-self g c =
    let cmp = g.K.Ord.cmp in
    let before = entries_in c.self.inside.entries (λ table. table.value.entries) in
    let after = entries_in c.match-self.self-inside.entries (λ table. table.value.entries) in
    elim c.match-self.branch [
      | in-Some w ↦
          let left : after ≡ left_at c.args.clock before =
          ap (λ inside. entries_in inside.entries (λ table. table.value.entries)) w.self-inside-is
          ∙ w.leave.ensures
          ∙ ap (λ table. left_at c.args.clock table.entries) w.deref_mut.ensures.value
          ∙ ap (λ boxed. left_at c.args.clock (entries_in boxed (λ table. table.value.entries)))
          (sym w.in-Some.is) in
          kept-filter (λ entry. not (is_reached c.args.clock entry.1.until)) cmp g.row.MOST before after left
          c.self.invariant
      | in_default w ↦
          let same : before ≡ after =
          ap (λ inside. entries_in inside.entries (λ table. table.value.entries)) (sym w.self-inside-is) in
          subst (λ es. (length es ≤ g.row.MOST) × IsStrictlySortedBy cmp (keys_of es)) same c.self.invariant
    ]
