-- The list of those that were found.
use Rattle.std.proofs.Common.{◌≡◌, ℕ, true, List, [], ◌∷◌, map, Some, cond, refl, sym, ap, ap₂}
use Rattle.std.proofs.Common.{◌∙◌, subst}
use Rattle.std.specs.Borrow.{Bor}
use Rattle.std.specs.BTreeMap.{BTreeMap, IsOrdered, get, is_at}
use Rattle.std.specs.Cmp.{unsigned_ties}
use Rattle.std.specs.List.Sorted.{IsStrictlySortedBy}
use Rattle.std.specs.Map.{lookup, keys_of}
use Rattle.std.specs.Ordering.{nat_cmp}
use Rattle.sng_text.specs.Texts.{is_name}
use Rattle.sng_text.specs.declared.qos.Qos.{Qos}
use Rattle.sng_standing.specs.declared.holder.Holder.{Holder}
use Rattle.sng_standing.specs.declared.node.Node.{Node}
use Rattle.sng_standing.specs.Standing.{HasFilters}
use Rattle.sng_standing.specs.Greatest.{greatest_at}
use Rattle.sng_standing.specs.Found.{best_of, AreFound}
use Rattle.sng_standing.specs.Holders.{holder_of, qos_of, AreHolders}
use Rattle.sng_standing.proofs.Matched.{is_greatest}

qos_of-map : (n : ℕ) (es : List (ℕ × Qos)) → qos_of n (map holder_of es) ≡ lookup (is_at (nat_cmp n)) es
qos_of-map n [] = refl
qos_of-map n (e ∷ es) = ap₂ (λ b x. cond b (Some e.1) x) (unsigned_ties n e.0) (qos_of-map n es)

clients-map : (es : List (ℕ × Qos)) → map (λ (h : Holder). h.client) (map holder_of es) ≡ keys_of es
clients-map [] = refl
clients-map (e ∷ es) = ap (λ ks. e.0 ∷ ks) (clients-map es)

-- the list of a map that has what was found
pub are_listed : (found : List (Bor (BTreeMap ℕ Qos))) (holders : BTreeMap ℕ Qos) (list : List Holder)
    → list ≡ map holder_of holders.entries → IsOrdered nat_cmp holders
    → ((n : ℕ) → get nat_cmp holders n ≡ best_of found n) → AreFound found list
are_listed found holders list list_is sorted each = (
  subst (IsStrictlySortedBy nat_cmp)
      (sym (ap (map (λ (h : Holder). h.client)) list_is ∙ clients-map holders.entries)) sorted,
  λ n. ap (qos_of n) list_is ∙ qos_of-map n holders.entries ∙ each n,
)

pub are_holders : (root : Node) (name : List ℕ) (found : List (Bor (BTreeMap ℕ Qos))) (list : List Holder)
    → AreFound found list → ((n : ℕ) → best_of found n ≡ greatest_at root n name)
    → HasFilters root → is_name name ≡ true → AreHolders root name list
are_holders root name found list are each has named =
    (are.0, λ n. is_greatest root n name (qos_of n list) has named (sym (each n) ∙ sym (are.1 n)))
