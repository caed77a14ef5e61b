-- Whether a source may ever publish. A publish at QoS -1 names its topic by a short topic name or by a
-- predefined topic id (MQTT-SN 1.2, 6.8).
use Rattle.std.specs.Prelude.{ℕ, ◌≡◌, ◌⊎◌, ◌↔◌, Bool, true, false, ◌&&◌, ◌||◌, List, [], ◌∷◌, All}
use Rattle.sng_text.specs.Matching.{matches}
use Rattle.sng_text.specs.Texts.{is_filter}
use Rattle.sng_grants.specs.declared.scope.Pair.{Pair}
use Rattle.sng_policy.specs.Grants.{is_granted}
use Rattle.sng_policy.specs.declared.permission.Permission.TheVariants.{Publish}
use Rattle.sng_questions.specs.ShortNames.{IsShortName, matches_short}

-- the filter matches the name of a predefined topic id
abbrev pub matches_topic : List (ℕ × List ℕ) → List ℕ → Bool
matches_topic [] filter = false
matches_topic (topic ∷ topics) filter = matches filter topic.1 || matches_topic topics filter

-- the pair lets a source publish some name that it can say
abbrev pub lets_publish : List (ℕ × List ℕ) → Pair → Bool
lets_publish topics pair = pair.publishes && (matches_short pair.filter || matches_topic topics pair.filter)

-- one of the pairs does
abbrev pub may_publish : List (ℕ × List ℕ) → List Pair → Bool
may_publish topics [] = false
may_publish topics (pair ∷ pairs) = lets_publish topics pair || may_publish topics pairs

-- some topic id is predefined for the name
abbrev pub IsPredefined : List (ℕ × List ℕ) → List ℕ → Type 0
IsPredefined [] name = ⊥
IsPredefined (topic ∷ topics) name = (topic.1 ≡ name) ⊎ IsPredefined topics name

-- a source can say the name at QoS -1
abbrev pub CanSay : List (ℕ × List ℕ) → List ℕ → Type 0
CanSay topics name = IsShortName name ⊎ IsPredefined topics name

-- the test passes exactly where some name is granted for publishing that a source can say
abbrev pub PublishersAreFound : Type 0
PublishersAreFound = (topics : List (ℕ × List ℕ)) (pairs : List Pair)
    → All (λ pair. is_filter pair.filter ≡ true) pairs
    → (may_publish topics pairs ≡ true)
    ↔ ((name : List ℕ) × CanSay topics name × (is_granted Publish pairs name ≡ true))
