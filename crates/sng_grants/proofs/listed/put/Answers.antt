use Rattle.std.proofs.Common.{is_some, sym, ap, ◌∙◌, true≢false}
use Rattle.std.specs.Map.{keys_of}
use Rattle.sng_grants.proofs.OrderLemmas.{searchable, replaced, shifted, absent_between}
use Rattle.sng_grants.proofs.listed.put.Goals as goal
use Rattle.sng_grants.proofs.listed.put.Goals.{in-Ok+in_ok-insert-in-Ok, in-Err+in_ok-shift_insert-in-Err}

pub shift_insert-requires-clause-below_len : goal.shift_insert-requires-clause-below_len
shift_insert-requires-clause-below_len g c there =
    let es = c.args.table.now.entries in
    let total = g.met.K.Ord.total in
    let rises = searchable g.K.Ord.cmp total (keys_of es) c.args.key c.requires in
    let none = absent_between g.K.Ord.cmp total c.args.key c.args.value g.K.PartialEq.eq
    g.met.K.Ord.matches_eq es c.in-Err.place c.in-Err.ensures.bound (c.in-Err.ensures.position rises) in
    absurd (true≢false (sym there ∙ ap is_some none))

pub returns-clause-ok : goal.returns-clause-ok
returns-clause-ok g c =
    let es = c.args.table.now.entries in
    let key = c.args.key in
    let value = c.args.value in
    let total = g.met.K.Ord.total in
    let ties = g.met.K.Ord.matches_eq in
    elim c.match-binary_search_keys.branch [
      | in-Ok+in_ok-insert-in-Ok w ↦
          ap (λ table. table.entries) w.table-is ∙ w.in_ok-insert-in-Ok.ensures.entries
          ∙ replaced g.K.Ord.cmp total key value g.K.PartialEq.eq ties es w.in-Ok.field-0 c.requires
          w.in-Ok.ensures.bound w.in-Ok.ensures.ok
      | in-Err+in_ok-shift_insert-in-Err w ↦
          let rises = searchable g.K.Ord.cmp total (keys_of es) key c.requires in
          ap (λ table. table.entries) w.table-is ∙ w.in_ok-shift_insert-in-Err.ensures.entries
          ∙ shifted g.K.Ord.cmp total key value g.K.PartialEq.eq ties es w.in-Err.place w.in-Err.ensures.bound
          (w.in-Err.ensures.position rises)
    ]
