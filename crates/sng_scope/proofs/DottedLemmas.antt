-- An address is read from its four numbers between points.
use Rattle.std.proofs.Common.{◌≡◌, ℕ, List, [], ◌∷◌, ◌++◌, length, map, Some, refl, sym, codes, arith}
use Rattle.std.proofs.Common.{append_assoc}
use Rattle.std.specs.Fmt.{decimal}
use Rattle.std.specs.List.{join_with_byte}
use Rattle.sng_text.specs.Ipv4.{IsAddress, ipv4_of}
use Rattle.sng_text.proofs.AddressLemmas.{addresses_are_decimal}
use Rattle.sng_scope.specs.Written.{dotted}

four : (a b c d : List ℕ)
    → a ++ codes "." ++ b ++ codes "." ++ c ++ codes "." ++ d
    ≡ a ++ (46 ∷ (b ++ (46 ∷ (c ++ (46 ∷ d)))))
four a b c d = simp (append_assoc) refl

dotted-join : (ip : List ℕ) → length ip ≡ 4 → dotted ip ≡ join_with_byte 46 (map decimal ip)
dotted-join [] is = absurd (omega arith)
dotted-join (a ∷ []) is = absurd (omega arith)
dotted-join (a ∷ b ∷ []) is = absurd (omega arith)
dotted-join (a ∷ b ∷ c ∷ []) is = absurd (omega arith)
dotted-join (a ∷ b ∷ c ∷ d ∷ []) is = four (decimal a) (decimal b) (decimal c) (decimal d)
dotted-join (a ∷ b ∷ c ∷ d ∷ e ∷ ip) is = absurd (omega arith)

pub dotted-read : (ip : List ℕ) → IsAddress ip → ipv4_of (dotted ip) ≡ Some ip
dotted-read ip is = (addresses_are_decimal (dotted ip) ip).1 (is, sym (dotted-join ip is.0))
