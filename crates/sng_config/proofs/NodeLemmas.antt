-- A table of TOML with one more key.
use Rattle.std.proofs.Common.{◌≡◌, ℕ, true, false, cond, List, Ordering, Less, Equal, Greater, nat_cmp, Some}
use Rattle.std.proofs.Common.{None, option_map, refl, sym, ap, ◌∙◌, ◌⊎◌, inl, inr}
use Rattle.std.proofs.lemmas.Bool.{cases_Bool, false≢true}
use Rattle.std.proofs.lemmas.Option.{none-some}
use Rattle.std.proofs.lemmas.Map.Text.{is_eq-slice_cmp}
use Rattle.std.proofs.lemmas.Slice.Eq.{bytes_eq-Decides}
use Rattle.std.specs.Cmp.Lexicographic.{slice_cmp}
use Rattle.std.specs.Str.{bytes_eq}
use Rattle.toml.specs.Data.{get_member, same_key}
use Rattle.toml.specs.Tables.{Node, Nodes, no_nodes, node, close, close_node, get_node, insert}

cases_ordering : (o : Ordering) → (o ≡ Less) ⊎ ((o ≡ Equal) ⊎ (o ≡ Greater))
cases_ordering Less = inl refl
cases_ordering Equal = inr (inl refl)
cases_ordering Greater = inr (inr refl)

-- keys that are the same
pub same_key-true : (a b : List ℕ) → same_key a b ≡ true → a ≡ b
same_key-true a b same = (bytes_eq-Decides a b).0 (sym (is_eq-slice_cmp a b) ∙ same)

pub same_key-false : (a b : List ℕ) → bytes_eq a b ≡ false → same_key b a ≡ false
same_key-false a b apart =
    elim (cases_Bool (same_key b a)) [
      | inl same ↦ absurd (false≢true (sym apart ∙ (bytes_eq-Decides a b).1 (sym (same_key-true b a same))))
      | inr other ↦ other
    ]

-- a new key changes no other
pub get_node-insert_other : (j k : List ℕ) (x : Node) (ns : Nodes) → same_key j k ≡ false
    → get_node k ns ≡ None
    → get_node j (insert k x ns) ≡ get_node j ns
get_node-insert_other j k x no_nodes other none = rw other refl
get_node-insert_other j k x (node l y ns) other none =
    elim (cases_ordering (slice_cmp nat_cmp k l)) [
      | inl less ↦ rw (less, other) refl
      | inr further ↦ elim further [
        | inl tie ↦ absurd (none-some y (sym (rw tie at none)))
        | inr more ↦
            rw more (ap (cond (same_key j l) (Some y))
            (get_node-insert_other j k x ns other (rw more at none)))
      ]
    ]

-- what is found in the table as it is read, and behind that
pub get_member-close : (k : List ℕ) (ns : Nodes)
    → get_member k (close ns) ≡ option_map close_node (get_node k ns)
get_member-close k no_nodes = refl
get_member-close k (node l y ns) =
    elim (cases_ordering (slice_cmp nat_cmp k l)) [
      | inl less ↦ rw less (get_member-close k ns)
      | inr further ↦ elim further [
        | inl tie ↦ rw tie refl
        | inr more ↦ rw more (get_member-close k ns)
      ]
    ]
