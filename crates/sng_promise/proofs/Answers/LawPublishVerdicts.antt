-- The verdict on a PUBLISH of a session by the law's tables.
use Rattle.std.proofs.Common.{◌≡◌, ℕ, zero, suc, ◌+◌, Bool, true, false, List, [], ◌∷◌, length, refl}
use Rattle.std.proofs.Common.{ap, ◌∙◌, if◌then◌else◌, arith}
use Rattle.std.specs.Prelude.{◌&&◌, not, nat_lt, filter, count_by, slice_get, Option, Some, None, Err, Ok}
use Rattle.std.specs.Prelude.{nat_le}
use Rattle.std.specs.declared.result.Result.{Result}
use Rattle.std.proofs.lemmas.List.Sums.{sum_by-append}
use Rattle.std.proofs.lemmas.Bool.Decides.{nat_tests}
use Rattle.sng_grants.specs.Limits.{flight_limit}
use Rattle.sng_text.specs.Texts.{is_name}
use Rattle.sng_grants.specs.Sources.{scope_of}
use Rattle.sng_policy.specs.Grants.{lists, topic}
use Rattle.sng_ids.specs.Ids.{name_of}
use Rattle.sng_frames.specs.declared.flags.TopicIdType.{TopicIdType}
use Rattle.sng_frames.specs.declared.flags.TopicIdType.TheVariants.{Normal, Predefined, Short, Reserved}
use Rattle.sng_frames.specs.declared.qos.FrameQos.{FrameQos}
use Rattle.sng_frames.specs.declared.qos.FrameQos.TheVariants as qos
use Rattle.sng_frames.specs.declared.messages.publish.Publish.{Publish}
use Rattle.sng_outbox.specs.Sending.{is_at_least_once, asks_for_ack, load}
use Rattle.sng_outbox.specs.declared.item.Item.{Item}
use Rattle.sng_outbox.specs.declared.item.Item.TheVariants as item
use Rattle.sng_outbox.specs.declared.item.Publication.{Publication}
use Rattle.sng_outbox.specs.declared.origin.Origin.TheVariants as origin
use Rattle.sng_book.specs.declared.decision.Decision.TheVariants as note
use Rattle.sng_book.specs.declared.decision.Decision.{Decision}
use Rattle.sng_book.specs.declared.decision.Who.TheVariants as who
use Rattle.sng_book.specs.declared.outcome.IdKind.TheVariants as kind
use Rattle.sng_book.specs.declared.outcome.Place.TheVariants as place
use Rattle.sng_book.specs.declared.outcome.Denial.TheVariants.{Form, Grant, Room}
use Rattle.sng_book.specs.declared.outcome.Denial.{Denial}
use Rattle.sng_book.specs.declared.outcome.FormDenial.TheVariants.{BadName, IdType, UnknownId}
use Rattle.sng_book.specs.declared.outcome.GrantDenial.TheVariants.{MissingPub}
use Rattle.sng_book.specs.declared.outcome.RoomDenial.TheVariants.{UpstreamDown, Full}
use Rattle.sng_book.specs.declared.outcome.Outcome.TheVariants.{Allowed, Denied}
use Rattle.sng_book.specs.declared.outcome.Outcome.{Outcome}
use Rattle.sng_book.specs.declared.row.Row.{Row}
use Rattle.sng_history.specs.Clients.{Client}
use Rattle.sng_history.specs.State.{State, qos_of}
use Rattle.sng_history.specs.Room.{has_flight}
use Rattle.sng_history.specs.Verdicts.{and_then, octets_of, name_in, exit, once_room, room}
use Rattle.sng_laws.specs.ViewsLink.{waiting, publications}
use Rattle.sng_laws.specs.ViewsFlight.{in_flight}
use Rattle.sng_laws.specs.LawsRules.{Rule, judged, may_publish}
use Rattle.sng_laws.specs.LawsAnswers.{is_bad_short, is_nameless, or_empty}
use Rattle.sng_laws.specs.LawsAsks.{is_acknowledged, is_reserved, told_as, is_untold, name_meant}
use Rattle.sng_laws.specs.LawsAsks.{unacknowledged}
use Rattle.sng_laws.specs.ViewsOpenIds.{is_open}
use Rattle.sng_promise.proofs.Names.Marked.{marked}
use Rattle.sng_promise.proofs.Clients.SeenOrder.{StateShown}
use Rattle.sng_promise.proofs.Answers.LawRules.{listed_exit}
use Rattle.sng_states.specs.declared.limits.TheConstants.{MAX_OPEN_IDS}

-- what of the room forbids a publish: the connection, a MsgId more, a publish at QoS 1 more, an item more
abbrev pub room_table : Bool → Bool → Bool → Bool → List Rule
room_table u e f r =
    (not u, Room UpstreamDown) ∷ (e, Room (Full place.Exchanges)) ∷ (f, Room (Full place.InFlight))
    ∷ (not r, Room (Full place.Outbox))
    ∷ []

room_judged : (u e f r : Bool)
    → (let last : Outcome = if not f then (if r then Allowed else Denied (Room (Full place.Outbox)))
    else Denied (Room (Full place.InFlight)) in
    if u then (if e then Denied (Room (Full place.Exchanges)) else last) else Denied (Room UpstreamDown))
    ≡ judged (room_table u e f r)
room_judged false e f r = refl
room_judged true true f r = refl
room_judged true false true r = refl
room_judged true false false true = refl
room_judged true false false false = refl

-- how many of these ask for an acknowledgement
load_cons : (one : Item) (items : List Item)
    → count_by asks_for_ack (one ∷ items) ≡ (if asks_for_ack one then 1 else 0) + count_by asks_for_ack items
load_cons one items = omega (arith, sum_by-append (λ i. if asks_for_ack i then 1 else 0) (one ∷ []) items)

load_step : (b : Bool) (n : ℕ) (p : Publication) (ps : List Publication) → n ≡ length ps
    → (if b then 1 else 0) + n ≡ length (let all : List Publication = if b then p ∷ ps else ps in all)
load_step true n p ps is = omega (arith, is)
load_step false n p ps is = omega (arith, is)

pub load_shown : (items : List Item)
    → count_by asks_for_ack items ≡ length (filter (λ p. is_at_least_once p.qos) (publications items))
load_shown [] = refl
load_shown (item.Publish p ∷ items) =
    load_cons (item.Publish p) items
    ∙ load_step (is_at_least_once p.qos) (count_by asks_for_ack items) p
    (filter (λ p. is_at_least_once p.qos) (publications items))
    (load_shown items)
load_shown (item.Subscribe text ∷ items) =
    omega (arith, load_cons (item.Subscribe text) items, load_shown items)
load_shown (item.Unsubscribe text ∷ items) =
    omega (arith, load_cons (item.Unsubscribe text) items, load_shown items)
load_shown (item.Acknowledge packet_id ∷ items) =
    omega (arith, load_cons (item.Acknowledge packet_id) items, load_shown items)
load_shown (item.Ping ∷ items) = omega (arith, load_cons item.Ping items, load_shown items)

pub load_same : (h : List Row) (s : State) → StateShown h s → s.link.in_flight ≡ in_flight h
    → load (record { waiting = s.link.waiting; in_flight = s.link.in_flight }) ≡ unacknowledged h
load_same h s shown flights =
    ap (λ n. n + length s.link.in_flight) (load_shown s.link.waiting)
    ∙ (ap (λ items. length (filter (λ p. is_at_least_once p.qos) (publications items))
    + length s.link.in_flight) shown.waits
    ∙ ap (λ sent. length (filter (λ p. is_at_least_once p.qos) (publications (waiting h))) + length sent)
    flights)

-- there is no place among those in flight
abbrev pub is_crowded : State → FrameQos → Bool
is_crowded s q =
    is_acknowledged q && not (nat_lt
    (load (record { waiting = s.link.waiting; in_flight = s.link.in_flight }))
    (flight_limit s.policy.limits))

not_not : (b : Bool) → b ≡ not (not b)
not_not true = refl
not_not false = refl

flight_free : (s : State) (q : FrameQos) → has_flight s.policy.limits s.link (qos_of q) ≡ not (is_crowded s q)
flight_free s qos.AtLeastOnce =
    not_not (nat_lt (load (record { waiting = s.link.waiting; in_flight = s.link.in_flight }))
    (flight_limit s.policy.limits))
flight_free s qos.AtMostOnce = refl
flight_free s qos.ExactlyOnce =
    not_not (nat_lt (load (record { waiting = s.link.waiting; in_flight = s.link.in_flight }))
    (flight_limit s.policy.limits))
flight_free s qos.WithoutSession = refl

abbrev pub has_items : State → Bool
has_items s = nat_lt (length s.link.waiting) s.policy.limits.waiting

-- at another QoS than 2
pub room_free : (s : State) (q : FrameQos) → room s (qos_of q)
    ≡ judged (room_table s.up false (is_crowded s q) (has_items s))
room_free s q = rw (flight_free s q) (room_judged s.up false (is_crowded s q) (has_items s))

-- at QoS 2, where the MsgId is not open
full_same : (n : ℕ) → nat_le MAX_OPEN_IDS n ≡ not (nat_lt n MAX_OPEN_IDS)
full_same n = grind (arith, nat_tests)

abbrev room_by : Bool → Bool → Bool → Bool → Outcome
room_by u e r flies =
    let last : Outcome = if flies then (if r then Allowed else Denied (Room (Full place.Outbox)))
    else Denied (Room (Full place.InFlight)) in
    if u then (if e then Denied (Room (Full place.Exchanges)) else last) else Denied (Room UpstreamDown)

pub once_free : (s : State) (x : Client) (p : Publish) (q : FrameQos) → q ≡ qos.ExactlyOnce
    → is_open p.msg_id x.unreleased ≡ false
    → once_room s x p
    ≡ judged (room_table s.up (not (nat_lt (length x.unreleased) MAX_OPEN_IDS)) (is_crowded s q) (has_items s))
once_free s x p q is absent =
    let full = not (nat_lt (length x.unreleased) MAX_OPEN_IDS) in
    rw (is, absent, full_same (length x.unreleased))
    (ap (room_by s.up full (has_items s)) (flight_free s qos.ExactlyOnce)
    ∙ room_judged s.up full (is_crowded s qos.ExactlyOnce) (has_items s))

-- what forbids a publish of a client under a name, as the state says it, where the room says the rest
abbrev state_table : State → List ℕ → List ℕ → List Rule → List Rule
state_table s id name rest =
    (not (may_publish (scope_of s.policy.clients id) name), Grant (MissingPub name)) ∷ rest

granted_first : (name : List ℕ) (g : Bool) (more : Outcome) (rest : List Rule) → more ≡ judged rest
    → and_then (if g then Allowed else Denied (Grant (MissingPub name))) more
    ≡ judged ((not g, Grant (MissingPub name)) ∷ rest)
granted_first name true more rest is = is
granted_first name false more rest is = refl

verdict_judged : (s : State) (id name : List ℕ) (more : Outcome) (rest : List Rule)
    → lists s.policy id ≡ true → more ≡ judged rest
    → and_then (exit s.policy (origin.Client id) name) more ≡ judged (state_table s id name rest)
verdict_judged s id name more rest listed is =
    rw (listed_exit s.policy id name listed)
    (granted_first name (may_publish (scope_of s.policy.clients id) name) more rest is)

-- what forbids a publish of a client that may ask
abbrev pub type_table : State → List ℕ → List (List ℕ) → TopicIdType → ℕ → List Rule → List Rule
type_table s id told type topic_id rest =
    (is_reserved type, Form IdType)
    ∷ (is_bad_short type topic_id, Form BadName)
    ∷ (is_nameless s.policy type topic_id, Form (UnknownId kind.Predefined topic_id))
    ∷ (is_untold told type topic_id, Form (UnknownId kind.Normal topic_id))
    ∷ state_table s id (or_empty (name_meant s.policy told type topic_id)) rest

-- the note of an ask under the name that was read, where the room says this
abbrev pub said_of : State → Client → Outcome → Result (List ℕ) Denial → Decision
said_of s x more (Ok name) =
    note.Publish (who.Client x.id) (Some name) (and_then (exit s.policy (origin.Client x.id) name) more)
said_of s x more (Err rule) = note.Publish (who.Client x.id) None (Denied rule)

abbrev TypeJudged : State → Client → List (List ℕ) → List (List ℕ) → TopicIdType → ℕ → Outcome → List Rule
    → Type 0
TypeJudged s x told knows type topic_id more rest =
    said_of s x more (name_in s.policy (Some (marked told knows)) type topic_id)
    ≡ note.Publish (who.Client x.id) (name_meant s.policy told type topic_id)
    (judged (type_table s x.id told type topic_id rest))

short_judged : (s : State) (x : Client) (told knows : List (List ℕ)) (topic_id : ℕ) (more : Outcome)
    (rest : List Rule) (b : Bool)
    → lists s.policy x.id ≡ true → more ≡ judged rest
    → is_name (octets_of topic_id) ≡ b
    → TypeJudged s x told knows Short topic_id more rest
short_judged s x told knows topic_id more rest true listed room good =
    rw good (ap (note.Publish (who.Client x.id) (Some (octets_of topic_id)))
    (verdict_judged s x.id (octets_of topic_id) more rest listed room))
short_judged s x told knows topic_id more rest false listed room bad = rw bad refl

predefined_judged : (s : State) (x : Client) (told knows : List (List ℕ)) (topic_id : ℕ) (more : Outcome)
    (rest : List Rule) (t : Option (List ℕ))
    → lists s.policy x.id ≡ true → more ≡ judged rest → topic s.policy topic_id ≡ t
    → TypeJudged s x told knows Predefined topic_id more rest
predefined_judged s x told knows topic_id more rest (Some name) listed room is =
    rw is (ap (note.Publish (who.Client x.id) (Some name)) (verdict_judged s x.id name more rest listed room))
predefined_judged s x told knows topic_id more rest None listed room is = rw is refl

named_at : (names knows : List (List ℕ)) (place : ℕ)
    → name_of (suc place) (marked names knows) ≡ slice_get names place
named_at [] knows place = refl
named_at (name ∷ names) knows zero = refl
named_at (name ∷ names) knows (suc place) = named_at names knows place

named_as : (id : ℕ) (names knows : List (List ℕ)) → name_of id (marked names knows) ≡ told_as id names
named_as zero names knows = refl
named_as (suc place) names knows = named_at names knows place

normal_judged : (s : State) (x : Client) (told knows : List (List ℕ)) (topic_id : ℕ) (more : Outcome)
    (rest : List Rule) (t : Option (List ℕ))
    → lists s.policy x.id ≡ true → more ≡ judged rest → told_as topic_id told ≡ t
    → TypeJudged s x told knows Normal topic_id more rest
normal_judged s x told knows topic_id more rest (Some name) listed room is =
    rw (named_as topic_id told knows, is)
    (ap (note.Publish (who.Client x.id) (Some name)) (verdict_judged s x.id name more rest listed room))
normal_judged s x told knows topic_id more rest None listed room is =
    rw (named_as topic_id told knows, is) refl

pub type_judged : (s : State) (x : Client) (told knows : List (List ℕ)) (type : TopicIdType) (topic_id : ℕ)
    (more : Outcome) (rest : List Rule)
    → lists s.policy x.id ≡ true → more ≡ judged rest → TypeJudged s x told knows type topic_id more rest
type_judged s x told knows Short topic_id more rest listed room =
    short_judged s x told knows topic_id more rest (is_name (octets_of topic_id)) listed room refl
type_judged s x told knows Predefined topic_id more rest listed room =
    predefined_judged s x told knows topic_id more rest (topic s.policy topic_id) listed room refl
type_judged s x told knows Normal topic_id more rest listed room =
    normal_judged s x told knows topic_id more rest (told_as topic_id told) listed room refl
type_judged s x told knows Reserved topic_id more rest listed room = refl
