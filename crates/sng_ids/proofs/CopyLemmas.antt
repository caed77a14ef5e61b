-- Names that are inserted in the order of their ids have the same ids.
use Rattle.std.proofs.Common.{◌≡◌, ℕ, Bool, List, [], ◌∷◌, ◌++◌, sym, subst, append_assoc}
use Rattle.std.proofs.lemmas.Cmp.{nat_list_eq_equiv}
use Rattle.std.specs.List.{IsDistinct}
use Rattle.std.specs.Map.{keys_of}
use Rattle.std.specs.Str.{bytes_eq}
use Rattle.indexmap.specs.IndexMap.{insert_entry}
use Rattle.indexmap.proofs.MapLemmas.{absent_before, absent_from_lookup, insert_entry-absent}
use Rattle.sng_ids.specs.Ids.{Ids}

-- the next of all the names is not among those before it, so it goes last
pub next-inserted : (all before rest : Ids) (name : List ℕ) (mark : Bool) → IsDistinct bytes_eq (keys_of all)
    → before ++ (name, mark) ∷ rest ≡ all
    → insert_entry bytes_eq before name mark ++ rest ≡ all
next-inserted all before rest name mark distinct is =
    let entry : List ℕ × Bool = (name, mark) in
    let apart : IsDistinct bytes_eq (keys_of (before ++ entry ∷ rest)) =
    subst (λ ids. IsDistinct bytes_eq (keys_of ids)) (sym is) distinct in
    let absent = absent_before nat_list_eq_equiv before rest entry apart in
    let last : insert_entry bytes_eq before name mark ≡ before ++ entry ∷ [] =
    insert_entry-absent bytes_eq name mark before (absent_from_lookup (bytes_eq name) before absent) in
    rw (last, append_assoc) is
