-- The verdict on a PUBLISH without a session, by the law's table.
use Rattle.std.proofs.Common.{◌≡◌, ℕ, Bool, true, false, List, [], ◌∷◌, refl, ap, sym, if◌then◌else◌, length}
use Rattle.std.proofs.Common.{◌∙◌}
use Rattle.std.specs.Prelude.{not, nat_lt, Option, Some, None}
use Rattle.sng_text.specs.Texts.{is_name}
use Rattle.sng_text.specs.declared.qos.Qos.TheVariants.{AtMostOnce}
use Rattle.sng_grants.specs.Sources.{scope_of}
use Rattle.sng_grants.specs.declared.scope.Pair.{Pair}
use Rattle.sng_policy.specs.Grants.{is_granted, lists_source, topic}
use Rattle.sng_policy.specs.declared.permission.Permission.TheVariants as permission
use Rattle.sng_frames.specs.declared.flags.TopicIdType.{TopicIdType}
use Rattle.sng_frames.specs.declared.flags.TopicIdType.TheVariants.{Normal, Predefined, Short, Reserved}
use Rattle.sng_frames.specs.declared.messages.publish.Publish.{Publish}
use Rattle.sng_outbox.specs.declared.origin.Origin.TheVariants as origin
use Rattle.sng_book.specs.declared.address.Address.{Address}
use Rattle.sng_book.specs.declared.decision.Decision.TheVariants as note
use Rattle.sng_book.specs.declared.decision.Who.TheVariants as who
use Rattle.sng_book.specs.declared.outcome.IdKind.TheVariants as kind
use Rattle.sng_book.specs.declared.outcome.Place.TheVariants as place
use Rattle.sng_book.specs.declared.outcome.Denial.TheVariants.{Form, Grant, Room}
use Rattle.sng_book.specs.declared.outcome.FormDenial.TheVariants.{BadName, IdType, UnknownId}
use Rattle.sng_book.specs.declared.outcome.GrantDenial.TheVariants.{UnknownSource, MissingPub}
use Rattle.sng_book.specs.declared.outcome.RoomDenial.TheVariants.{UpstreamDown, Full}
use Rattle.sng_book.specs.declared.out.Out.TheVariants.{Note}
use Rattle.sng_book.specs.declared.row.Row.{Row}
use Rattle.sng_history.specs.State.{State}
use Rattle.sng_history.specs.Verdicts.{source_ask, named_ask, name_in, verdict, octets_of}
use Rattle.sng_laws.specs.LawsRules.{Rule, judged, may_publish}
use Rattle.sng_laws.specs.LawsAnswers.{needs_session, is_bad_short, is_nameless, name_read, or_empty}
use Rattle.sng_laws.specs.LawsAnswers.{source_answer}
use Rattle.sng_promise.proofs.Clients.SeenOrder.{StateShown}
use Rattle.sng_grants.specs.Limits.{Limits}
use Rattle.sng_grants.specs.declared.policy.Policy.{Policy}
use Rattle.sng_laws.specs.Views.{last_limits}

-- what forbids a publish under a name
abbrev name_rules : State → List Pair → List ℕ → List Rule
name_rules s pairs name =
    (not (is_granted permission.Publish pairs name), Grant (MissingPub name))
    ∷ (not s.up, Room UpstreamDown)
    ∷ (not (nat_lt (length s.link.waiting) s.policy.limits.waiting), Room (Full place.Outbox))
    ∷ []

tail_ruled : (s : State) (source name : List ℕ) (pairs : List Pair) (g u r : Bool)
    → scope_of s.policy.sources source ≡ Some pairs
    → is_granted permission.Publish pairs name ≡ g → s.up ≡ u
    → nat_lt (length s.link.waiting) s.policy.limits.waiting ≡ r
    → verdict s (origin.Source source) name AtMostOnce ≡ judged (name_rules s pairs name)
tail_ruled s source name pairs true true true scope granted up free = rw (scope, granted, up, free) refl
tail_ruled s source name pairs true true false scope granted up full = rw (scope, granted, up, full) refl
tail_ruled s source name pairs true false r scope granted down free = rw (scope, granted, down) refl
tail_ruled s source name pairs false u r scope missing up free = rw (scope, missing) refl

name_ruled : (s : State) (source name : List ℕ) (pairs : List Pair)
    → scope_of s.policy.sources source ≡ Some pairs
    → verdict s (origin.Source source) name AtMostOnce ≡ judged (name_rules s pairs name)
name_ruled s source name pairs scope =
    tail_ruled s source name pairs (is_granted permission.Publish pairs name) s.up
    (nat_lt (length s.link.waiting) s.policy.limits.waiting) scope refl refl refl

-- what forbids a publish of a listed device
abbrev type_rules : State → List Pair → TopicIdType → ℕ → List Rule
type_rules s pairs type id =
    (needs_session type, Form IdType)
    ∷ (is_bad_short type id, Form BadName)
    ∷ (is_nameless s.policy type id, Form (UnknownId kind.Predefined id))
    ∷ name_rules s pairs (or_empty (name_read s.policy type id))

abbrev TypeRuled : State → List ℕ → List Pair → TopicIdType → ℕ → Type 0
TypeRuled s source pairs type id =
    named_ask s source (name_in s.policy None type id)
    ≡ note.Publish (who.Source source) (name_read s.policy type id) (judged (type_rules s pairs type id))

short_ruled : (s : State) (source : List ℕ) (pairs : List Pair) (id : ℕ) (b : Bool)
    → scope_of s.policy.sources source ≡ Some pairs → is_name (octets_of id) ≡ b
    → TypeRuled s source pairs Short id
short_ruled s source pairs id true scope good =
    rw good (ap (note.Publish (who.Source source) (Some (octets_of id)))
    (name_ruled s source (octets_of id) pairs scope))
short_ruled s source pairs id false scope bad = rw bad refl

predefined_ruled : (s : State) (source : List ℕ) (pairs : List Pair) (id : ℕ) (t : Option (List ℕ))
    → scope_of s.policy.sources source ≡ Some pairs → topic s.policy id ≡ t
    → TypeRuled s source pairs Predefined id
predefined_ruled s source pairs id (Some name) scope is =
    rw is (ap (note.Publish (who.Source source) (Some name)) (name_ruled s source name pairs scope))
predefined_ruled s source pairs id None scope is = rw is refl

type_ruled : (s : State) (source : List ℕ) (pairs : List Pair) (type : TopicIdType) (id : ℕ)
    → scope_of s.policy.sources source ≡ Some pairs → TypeRuled s source pairs type id
type_ruled s source pairs Short id scope = short_ruled s source pairs id (is_name (octets_of id)) scope refl
type_ruled s source pairs Predefined id scope =
    predefined_ruled s source pairs id (topic s.policy id) scope refl
type_ruled s source pairs Normal id scope = refl
type_ruled s source pairs Reserved id scope = refl

-- what forbids a publish of a device, as the state says it, by these limits
abbrev rules_by : State → List ℕ → Publish → Limits → List Rule
rules_by s source p limits =
    let name = or_empty (name_read s.policy p.flags.id_type p.topic_id) in
    (not (lists_source s.policy source), Grant UnknownSource)
    ∷ (needs_session p.flags.id_type, Form IdType)
    ∷ (is_bad_short p.flags.id_type p.topic_id, Form BadName)
    ∷ (is_nameless s.policy p.flags.id_type p.topic_id, Form (UnknownId kind.Predefined p.topic_id))
    ∷ (not (may_publish (scope_of s.policy.sources source) name), Grant (MissingPub name))
    ∷ (not s.up, Room UpstreamDown)
    ∷ (not (nat_lt (length s.link.waiting) limits.waiting), Room (Full place.Outbox))
    ∷ []

abbrev state_rules : State → List ℕ → Publish → List Rule
state_rules s source p = rules_by s source p s.policy.limits

abbrev StateRuled : State → List ℕ → Publish → Type 0
StateRuled s source p =
    source_ask s source p
    ≡ note.Publish (who.Source source)
    (if lists_source s.policy source then name_read s.policy p.flags.id_type p.topic_id else None)
    (judged (state_rules s source p))

source_ruled : (s : State) (source : List ℕ) (p : Publish) (scope : Option (List Pair))
    → scope_of s.policy.sources source ≡ scope → StateRuled s source p
source_ruled s source p None is = rw is refl
source_ruled s source p (Some pairs) is = rw is (type_ruled s source pairs p.flags.id_type p.topic_id is)

pub source_row : (h : List Row) (s : State) (from : Address) (p : Publish) → StateShown h s
    → Note (source_ask s from.ip p) ∷ [] ≡ source_answer h from p
source_row h s from p shown =
    let limits : s.policy.limits ≡ last_limits h = ap (λ (policy : Policy). policy.limits) shown.policy in
    let name = if lists_source s.policy from.ip then name_read s.policy p.flags.id_type p.topic_id else None in
    rw (sym shown.policy, sym shown.up, sym shown.waits)
    (ap (λ said. Note said ∷ []) (source_ruled s from.ip p (scope_of s.policy.sources from.ip) refl)
    ∙ ap (λ (l : Limits). Note (note.Publish (who.Source from.ip) name (judged (rules_by s from.ip p l))) ∷ [])
    limits)
