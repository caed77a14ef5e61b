-- What is warned of in a policy that is accepted, and how it is printed.
use Rattle.std.specs.Prelude.{ℕ, suc, ◌≡◌, Bool, false, ◌&&◌, not, nat_eq, nat_lt, List, [], ◌∷◌, ◌++◌}
use Rattle.std.specs.Prelude.{codes, if◌then◌else◌, Option, Some, None, Result, Ok, Err}
use Rattle.std.specs.Fmt.{decimal}
use Rattle.std.specs.List.{starts_with}
use Rattle.sng_book.specs.Printing.{ip_text}
use Rattle.sng_grants.specs.Topics.{id_of}
use Rattle.sng_grants.specs.declared.grant.Grant.{Grant}
use Rattle.sng_grants.specs.declared.policy.Policy.{Policy}
use Rattle.sng_grants.specs.declared.scope.Pair.{Pair}
use Rattle.sng_places.specs.declared.location.Part.TheVariants.{Clients}
use Rattle.sng_places.specs.declared.location.Location.{Location}
use Rattle.sng_scope.specs.declared.fault.PolicyFault.{PolicyFault}
use Rattle.sng_questions.specs.Places.{index_text, member_text, place_text}
use Rattle.sng_questions.specs.Publishing.{may_publish}
use Rattle.sng_questions.specs.Redundant.{says_nothing_new}

-- ---- lines

-- the line of a member that stands more than once
abbrev pub repeated_text : Location → List ℕ
repeated_text place = codes "warning: "
    ++ (place_text place ++ (codes " stands more than once: " ++ codes "the last counts\n"))

abbrev pub repeated_lines : List Location → List ℕ
repeated_lines [] = []
repeated_lines (place ∷ places) = repeated_text place ++ repeated_lines places

abbrev pub at_text : Option ℕ → List ℕ
at_text None = []
at_text (Some index) = index_text index

-- the line of a warning about a member, or about a pair of its scope
abbrev pub warning_text : List ℕ → Option ℕ → List ℕ → List ℕ
warning_text member pair words = codes "warning: " ++ (member ++ (at_text pair ++ (words ++ codes "\n")))

-- ---- pairs

-- no permissions; or another pair grants all of it
unfoldable pub use_lines : List ℕ → List Pair → ℕ → Pair → List ℕ
use_lines member pairs index pair =
    if not pair.publishes && not pair.subscribes
    then warning_text member (Some index) (codes " has no permissions: it grants nothing")
    else (if says_nothing_new pairs 0 index pair
    then warning_text member (Some index) (codes " says nothing new: another pair includes it")
    else [])

-- a filter that looks like a shared subscription
unfoldable pub share_lines : List ℕ → ℕ → Pair → List ℕ
share_lines member index pair =
    if starts_with nat_eq pair.filter (codes "$share/")
    then warning_text member (Some index) (codes " begins with $share/: no shared subscription")
    else []

-- of the pairs of a scope those from this place on
abbrev pub pairs_lines : List ℕ → List Pair → ℕ → List Pair → List ℕ
pairs_lines member scope index [] = []
pairs_lines member scope index (pair ∷ pairs) =
    (use_lines member scope index pair ++ share_lines member index pair)
    ++ pairs_lines member scope (suc index) pairs

abbrev pub scope_lines : List ℕ → List Pair → List ℕ
scope_lines member [] = warning_text member None (codes " has no pairs: all is denied")
scope_lines member (pair ∷ pairs) = pairs_lines member (pair ∷ pairs) 0 (pair ∷ pairs)

-- ---- clients, sources and topics

-- a scope that has ended before anything began
abbrev pub end_lines : List ℕ → Option ℕ → List ℕ
end_lines member None = []
end_lines member (Some end) =
    if nat_eq end 0 then warning_text member None (codes " ends at 0: it is never in force") else []

abbrev pub clients_lines : List (List ℕ × Grant) → List ℕ
clients_lines [] = []
clients_lines (client ∷ clients) =
    (end_lines (member_text Clients client.0) client.1.until
    ++ scope_lines (member_text Clients client.0) client.1.scope)
    ++ clients_lines clients

-- a source with pairs, none of which lets it publish
abbrev pub silent_lines : List (ℕ × List ℕ) → List ℕ → List Pair → List ℕ
silent_lines topics member [] = []
silent_lines topics member (pair ∷ pairs) =
    if may_publish topics (pair ∷ pairs)
    then []
    else warning_text member None
    (codes " can never publish: no name of two bytes and none under topics is granted")

abbrev pub source_lines : List (ℕ × List ℕ) → List ℕ → Grant → List ℕ
source_lines topics member grant =
    end_lines member grant.until
    ++ (silent_lines topics member grant.scope ++ scope_lines member grant.scope)

abbrev pub sources_lines : List (ℕ × List ℕ) → List (List ℕ × Grant) → List ℕ
sources_lines topics [] = []
sources_lines topics (source ∷ sources) =
    source_lines topics (codes "sources." ++ ip_text source.0) source.1 ++ sources_lines topics sources

-- the name of a topic id is that of a lesser id, too: messages for clients go out under the least
abbrev pub is_lesser : Option ℕ → ℕ → Bool
is_lesser None id = false
is_lesser (Some least) id = nat_lt least id

abbrev pub lesser_text : ℕ → List ℕ
lesser_text id =
    warning_text (codes "topics." ++ decimal id) None
    (codes " has the name of a lesser id: messages for clients go out under the least")

abbrev pub topic_lines : List (ℕ × List ℕ) → ℕ → List ℕ → List ℕ
topic_lines topics id name = if is_lesser (id_of topics name) id then lesser_text id else []

-- of the topics these
abbrev pub topics_lines : (topics rest : List (ℕ × List ℕ)) → List ℕ
topics_lines topics [] = []
topics_lines topics (topic ∷ rest) = topic_lines topics topic.0 topic.1 ++ topics_lines topics rest

-- what is warned of in a policy
abbrev pub policy_lines : Policy → List ℕ
policy_lines policy =
    clients_lines policy.clients
    ++ (sources_lines policy.topics policy.sources ++ topics_lines policy.topics policy.topics)

-- the lines are those of some members that stand more than once, of which a policy does not tell, and then
-- those of the policy
pub record AreWarnings (policy : Policy) (lines : List ℕ) : Type 0 where
  pub repeated : List Location
  pub printed : lines ≡ repeated_lines repeated ++ policy_lines policy

-- the lines are those of what was read of a text: of one that is refused there are none
abbrev pub AreWarningsOf : Result Policy PolicyFault → List ℕ → Type 0
AreWarningsOf (Ok policy) lines = AreWarnings policy lines
AreWarningsOf (Err fault) lines = lines ≡ []
