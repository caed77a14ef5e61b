-- Which text of a policy is known to be in force, and what becomes of one that is given.
use Rattle.std.specs.Prelude.{ℕ, ◌≡◌, ◌⊎◌, Bool, true, false, List, Option, Some, None, option_map, Ok, Err}
use Rattle.std.specs.Str.{bytes_eq}
use Rattle.sng_scope.specs.Policies.{policy_of}
use Rattle.sng_scope.specs.declared.fault.PolicyFault.TheVariants.{Memory}
use Rattle.sng_operator.specs.declared.fate.Fate.{Fate}
use Rattle.sng_operator.specs.declared.fate.Fate.TheVariants.{Unchanged, Taken, Refused}
use Rattle.sng_operator.specs.declared.lists.Lists.{Lists}
use Rattle.sng_operator.specs.declared.in_force.InForce.{InForce}
use Rattle.sng_operator.specs.declared.in_force.Proposal.{Proposal}

-- whether the text is the one that is known
abbrev pub is_text : Option (List ℕ) → List ℕ → Bool
is_text (Some known) text = bytes_eq known text
is_text None text = false

-- how much a policy lists that was given
abbrev pub lists_of : Option Proposal → Option Lists
lists_of given = option_map (λ p. p.lists) given

-- the text behind the act on what was given
abbrev pub text_after : Bool → Option (List ℕ) → Option Proposal → Option (List ℕ)
text_after refused text None = text
text_after true text (Some given) = text
text_after false text (Some given) = given.text

abbrev pub in_force_after : Bool → InForce → Option (List ℕ)
in_force_after refused known = text_after refused known.text known.proposal

-- what becomes of a text where this one is known to be in force: that one again changes nothing; of any other
-- comes the policy that it is, or it is refused for its first fault, or for want of memory
abbrev pub Becomes : Option (List ℕ) → List ℕ → Fate → Type 0
Becomes known text Unchanged = is_text known text ≡ true
Becomes known text (Taken policy) = (is_text known text ≡ false) × (policy_of text ≡ Ok policy)
Becomes known text (Refused fault) =
    (is_text known text ≡ false) × ((fault ≡ Memory) ⊎ (policy_of text ≡ Err fault))
