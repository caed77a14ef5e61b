-- A name that the map does not have goes last in it.
use Rattle.std.proofs.Common.{◌≡◌, ◌+◌, None, false, sym, ap, ◌∙◌, is_some}
use Rattle.std.specs.Str.{bytes_eq}
use Rattle.indexmap.proofs.CallerLemmas.{insert_entry-new}
use Rattle.indexmap.specs.IndexMap.{get}
use Rattle.sng_ids.specs.Ids.{place_of}
use Rattle.sng_ids.proofs.IdLemmas.{none-is_some, id_for-new, with_name-new}
use Rattle.sng_ids.proofs.table.IdTable.give.Goals as goal
use Rattle.sng_ids.proofs.table.IdTable.give.Goals.{in-Ok, in-Err}

none_of : (c : goal.Joined-insert-2) → get bytes_eq c.self.inside.names c.args.name ≡ None
none_of c = none-is_some _ (sym c.get_index_of.ensures.found ∙ ap is_some c.in_default.is)

pub returns-clause-ok : goal.returns-clause-ok
returns-clause-ok c =
    elim c.match-insert.branch [
      | in-Ok w ↦
          let names = c.self.inside.names in
          let absent : place_of c.args.name names.entries ≡ None =
          sym c.get_index_of.ensures.index ∙ c.in_default.is in
          rw (w.result-is, ← c.self.view_is) (
            ap (λ n. n + 1) c.len-place.ensures.len ∙ sym (id_for-new _ _ absent),
            w.in-Ok.ensures.entries
                ∙ insert_entry-new bytes_eq names c.args.name false (none_of c)
                ∙ sym (with_name-new _ _ absent),
          )
      | in-Err w ↦ rw w.result-is tt
    ]
