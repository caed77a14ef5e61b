-- What one connection gets of a message.
use Rattle.std.proofs.Common.{◌≡◌, ℕ, ◌+◌, ◌==◌, ◌≤◌, Bool, true, false, true≢false, ◌||◌, List, [], ◌∷◌}
use Rattle.std.proofs.Common.{◌++◌, if◌then◌else◌, cond, is_some, Option, Some, None, refl, sym, subst, ◌∙◌}
use Rattle.std.proofs.Common.{ap}
use Rattle.std.proofs.Common.{arith}
use Rattle.std.specs.List.{Any, count_by, list_any}
use Rattle.std.proofs.lemmas.Bool.{eqb-true, eq-eqb, and_parts, and_from}
use Rattle.std.proofs.lemmas.List.Folds.{Any-from_list_any, list_any-from_Any}
use Rattle.std.proofs.lemmas.List.Sums.{sum_by-cons}
use Rattle.sng_text.specs.Matching.{matches}
use Rattle.sng_text.specs.Texts.{name_fault}
use Rattle.sng_text.specs.declared.fault.TextFault.{TextFault}
use Rattle.sng_text.specs.declared.qos.Qos.{Qos}
use Rattle.sng_text.specs.declared.qos.Qos.TheVariants.{AtMostOnce, AtLeastOnce}
use Rattle.mqtt_frames.specs.declared.packet.Packet.{Packet}
use Rattle.mqtt_frames.specs.declared.packet.Packet.TheVariants as packet
use Rattle.mqtt_frames.specs.declared.packet.Publish.{Publish}
use Rattle.sng_broker.specs.declared.parts.Message.{Message}
use Rattle.sng_broker.specs.declared.parts.Peer.{Peer}
use Rattle.sng_broker.specs.declared.parts.Subscription.{Subscription}
use Rattle.sng_broker.specs.Brokers.{Broker, is_peer, is_open, is_at_least_once, fits, fits_surely, EachOnce}
use Rattle.sng_broker.specs.Steps.{Stepped, id_for, packet_of, gets, gets_surely, copy_for, fan_out}
use Rattle.sng_broker.specs.Steps.{message_of}
use Rattle.sng_broker.specs.Steps.{delivered, dropped, greeted, published, step, taken}
use Rattle.sng_broker.specs.Laws.{sent_to, Fits, IsSure, IsOneCopy, OneCopyEach, PublishGoesOnce}
use Rattle.sng_broker.proofs.Peers.{or_false}

sent_both : (conn : ℕ) (xs ys : List (ℕ × Packet))
    → sent_to conn (xs ++ ys) ≡ sent_to conn xs ++ sent_to conn ys
sent_both conn [] ys = refl
sent_both conn (x ∷ xs) ys =
    elim (x.0 == conn) as (λ b. (if b then x.1 ∷ sent_to conn (xs ++ ys) else sent_to conn (xs ++ ys))
    ≡ (if b then x.1 ∷ sent_to conn xs else sent_to conn xs) ++ sent_to conn ys) [
      | true ↦ ap (λ l. x.1 ∷ l) (sent_both conn xs ys)
      | false ↦ sent_both conn xs ys
    ]

-- a connection gets at most what is its own
foreign : (standing : List Subscription) (m : Message) (peer : Peer) (conn : ℕ) → is_peer conn peer ≡ false
    → sent_to conn (copy_for standing m peer) ≡ []
foreign standing m peer conn is =
    elim (gets standing m peer.conn)
    as (λ b. sent_to conn (if b then
    (peer.conn, packet_of false (id_for (gets_surely standing m peer.conn) peer.last_id) m) ∷ []
    else []) ≡ []) [
      | true ↦ rw is refl
      | false ↦ refl
    ]

unwanted : (standing : List Subscription) (m : Message) (peer : Peer) (conn : ℕ) (b : Bool)
    → is_peer conn peer ≡ b → gets standing m conn ≡ false → sent_to conn (copy_for standing m peer) ≡ []
unwanted standing m peer conn false is none = foreign standing m peer conn is
unwanted standing m peer conn true is none =
    let same : peer.conn ≡ conn = eqb-true peer.conn conn is in
    rw (same, none) refl

own : (standing : List Subscription) (m : Message) (peer : Peer) (conn : ℕ) → is_peer conn peer ≡ true
    → gets standing m conn ≡ true
    → sent_to conn (copy_for standing m peer)
    ≡ packet_of false (id_for (gets_surely standing m conn) peer.last_id) m ∷ []
own standing m peer conn is some =
    let same : peer.conn ≡ conn = eqb-true peer.conn conn is in
    rw (same, some, rw same at is) refl

nobody : (standing : List Subscription) (m : Message) (peers : List Peer) (conn : ℕ)
    → is_open peers conn ≡ false
    → sent_to conn (fan_out standing m peers) ≡ []
nobody standing m [] conn absent = refl
nobody standing m (peer ∷ peers) conn absent =
    let both = or_false (is_peer conn peer) (is_open peers conn) absent in
    sent_both conn (copy_for standing m peer) (fan_out standing m peers)
    ∙ ap (λ l. l ++ sent_to conn (fan_out standing m peers)) (foreign standing m peer conn both.0)
    ∙ nobody standing m peers conn both.1

no_filter : (standing : List Subscription) (m : Message) (peers : List Peer) (conn : ℕ)
    → gets standing m conn ≡ false → sent_to conn (fan_out standing m peers) ≡ []
no_filter standing m [] conn none = refl
no_filter standing m (peer ∷ peers) conn none =
    sent_both conn (copy_for standing m peer) (fan_out standing m peers)
    ∙ ap (λ l. l ++ sent_to conn (fan_out standing m peers)) (unwanted standing m peer conn _ refl none)
    ∙ no_filter standing m peers conn none

some_counted : {X : Type 0} (p : X → Bool) (xs : List X) → list_any p xs ≡ true → 1 ≤ count_by p xs
some_counted p [] there = absurd (true≢false (sym there))
some_counted p (x ∷ xs) there =
    let all : count_by p (x ∷ xs) ≡ cond {A = ℕ} (p x) 1 0 + count_by p xs =
    sum_by-cons (λ y. cond (p y) 1 0) x xs in
    let more : 1 ≤ cond {A = ℕ} (p x) 1 0 + count_by p xs =
    elim (p x) as (λ b. (b || list_any p xs) ≡ true → 1 ≤ cond {A = ℕ} b 1 0 + count_by p xs) [
      | true ↦ λ _. omega arith
      | false ↦ λ later. let some = some_counted p xs later in omega arith
    ] there in
    omega arith

-- a connection that is first is not among the others
alone : (peer : Peer) (peers : List Peer) (conn : ℕ) (b : Bool) → is_peer conn peer ≡ true
    → list_any (is_peer conn) peers ≡ b
    → count_by (is_peer conn) (peer ∷ peers) ≤ 1 → list_any (is_peer conn) peers ≡ false
alone peer peers conn false is rest once = rest
alone peer peers conn true is rest once =
    let here : cond {A = ℕ} (is_peer conn peer) 1 0 ≡ 1 = rw is refl in
    let all : count_by (is_peer conn) (peer ∷ peers)
    ≡ cond {A = ℕ} (is_peer conn peer) 1 0 + count_by (is_peer conn) peers =
    sum_by-cons (λ x. cond (is_peer conn x) 1 0) peer peers in
    let some = some_counted (is_peer conn) peers rest in
    absurd (omega arith)

rest_once : (peer : Peer) (peers : List Peer) → EachOnce (peer ∷ peers) → EachOnce peers
rest_once peer peers once = λ conn.
    let all : count_by (is_peer conn) (peer ∷ peers)
    ≡ cond {A = ℕ} (is_peer conn peer) 1 0 + count_by (is_peer conn) peers =
    sum_by-cons (λ x. cond (is_peer conn x) 1 0) peer peers in
    omega (arith, once conn)

-- one copy goes to a connection that gets the message
abbrev OneFor : List Subscription → Message → List Peer → ℕ → Type 0
OneFor standing m peers conn =
    (last : ℕ) × (sent_to conn (fan_out standing m peers)
    ≡ packet_of false (id_for (gets_surely standing m conn) last) m ∷ [])

one_by : (standing : List Subscription) (m : Message) (peer : Peer) (peers : List Peer) (conn : ℕ) (b : Bool)
    → is_peer conn peer ≡ b → EachOnce (peer ∷ peers)
    → (b || is_open peers conn) ≡ true → gets standing m conn ≡ true
    → (is_open peers conn ≡ true → OneFor standing m peers conn) → OneFor standing m (peer ∷ peers) conn
one_by standing m peer peers conn true is once there some later =
    let others : is_open peers conn ≡ false = alone peer peers conn _ is refl (once conn) in (
      peer.last_id,
      sent_both conn (copy_for standing m peer) (fan_out standing m peers)
          ∙ ap (λ l. l ++ sent_to conn (fan_out standing m peers)) (own standing m peer conn is some)
          ∙ ap (λ l. packet_of false (id_for (gets_surely standing m conn) peer.last_id) m ∷ l)
          (nobody standing m peers conn others),
    )
one_by standing m peer peers conn false is once there some later =
    let one = later there in (
      one.0,
      sent_both conn (copy_for standing m peer) (fan_out standing m peers)
          ∙ ap (λ l. l ++ sent_to conn (fan_out standing m peers)) (foreign standing m peer conn is)
          ∙ one.1,
    )

one_for : (standing : List Subscription) (m : Message) (peers : List Peer) (conn : ℕ) → EachOnce peers
    → is_open peers conn ≡ true → gets standing m conn ≡ true → OneFor standing m peers conn
one_for standing m [] conn once there some = absurd (true≢false (sym there))
one_for standing m (peer ∷ peers) conn once there some =
    one_by standing m peer peers conn _ refl once there some
    (λ later. one_for standing m peers conn (rest_once peer peers once) later some)

-- the tests in words
fitting : (conn : ℕ) (name : List ℕ) (s : Subscription) → Fits conn name s → fits conn name s ≡ true
fitting conn name s (here, matching) =
    and_from (s.conn == conn) (matches s.filter name) (eq-eqb s.conn conn here) matching

fitted : (conn : ℕ) (name : List ℕ) (s : Subscription) → fits conn name s ≡ true → Fits conn name s
fitted conn name s is =
    let both = and_parts (s.conn == conn) (matches s.filter name) is in
    (eqb-true s.conn conn both.0, both.1)

pub sure_is : (q : Qos) → is_at_least_once q ≡ true → q ≡ AtLeastOnce
sure_is AtMostOnce is = absurd (true≢false (sym is))
sure_is AtLeastOnce is = refl

among : {X : Type 0} (P Q : X → Type 0) (xs : List X) → ((x : X) → P x → Q x) → Any P xs → Any Q xs
among P Q xs by (k, x, within, here, holds) = (k, x, within, here, by x holds)

pub id_is : (surely : Bool) (last : ℕ) → is_some (id_for surely last) ≡ surely
id_is true last = refl
id_is false last = refl

abbrev Surely : ℕ → List ℕ → Subscription → Type 0
Surely conn name s = Fits conn name s × (s.qos ≡ AtLeastOnce)

surely_is : (conn : ℕ) (name : List ℕ) (s : Subscription) → fits_surely conn name s ≡ true
    → Surely conn name s
surely_is conn name s is =
    let both = and_parts (is_at_least_once s.qos) (fits conn name s) is in
    (fitted conn name s both.1, sure_is s.qos both.0)

is_surely : (conn : ℕ) (name : List ℕ) (s : Subscription) → Surely conn name s
    → fits_surely conn name s ≡ true
is_surely conn name s (fit, sure) =
    and_from (is_at_least_once s.qos) (fits conn name s) (ap is_at_least_once sure) (fitting conn name s fit)

sure : (standing : List Subscription) (m : Message) (conn : ℕ) → gets_surely standing m conn ≡ true
    → IsSure m conn standing
sure standing m conn is =
    let both = and_parts (is_at_least_once m.qos) (list_any (fits_surely conn m.name) standing) is in
    let some = Any-from_list_any (fits_surely conn m.name) standing both.1 in (
      sure_is m.qos both.0,
      among (λ s. fits_surely conn m.name s ≡ true) (Surely conn m.name) standing
          (surely_is conn m.name) some,
    )

surely : (standing : List Subscription) (m : Message) (conn : ℕ) → IsSure m conn standing
    → gets_surely standing m conn ≡ true
surely standing m conn (one, some) =
    let fit =
    among (Surely conn m.name) (λ s. fits_surely conn m.name s ≡ true) standing
    (is_surely conn m.name) some in
    and_from (is_at_least_once m.qos) (list_any (fits_surely conn m.name) standing) (ap is_at_least_once one)
    (list_any-from_Any (fits_surely conn m.name) standing fit)

gotten : (standing : List Subscription) (m : Message) (conn : ℕ) → Any (Fits conn m.name) standing
    → gets standing m conn ≡ true
gotten standing m conn some =
    list_any-from_Any (fits conn m.name) standing
    (among (Fits conn m.name) (λ s. fits conn m.name s ≡ true) standing (fitting conn m.name) some)

unless : (standing : List Subscription) (m : Message) (conn : ℕ) (b : Bool) → gets standing m conn ≡ b
    → (Any (Fits conn m.name) standing → ⊥) → gets standing m conn ≡ false
unless standing m conn false is none = is
unless standing m conn true is none =
    let some = Any-from_list_any (fits conn m.name) standing is in
    absurd (none (among (λ s. fits conn m.name s ≡ true) (Fits conn m.name) standing
    (fitted conn m.name) some))

copied : (standing : List Subscription) (m : Message) (peers : List Peer) (conn : ℕ)
    → OneFor standing m peers conn → IsOneCopy m conn standing (sent_to conn (fan_out standing m peers))
copied standing m peers conn (last, is) =
    let b = gets_surely standing m conn in (
      id_for b last,
      is,
      (
        λ some. sure standing m conn (sym (id_is b last) ∙ some),
        λ is_sure. id_is b last ∙ surely standing m conn is_sure,
      ),
    )

pub one_copy_each : OneCopyEach
one_copy_each = λ b m once conn. (
  λ there some. copied b.standing m b.peers conn
      (one_for b.standing m b.peers conn once there (gotten b.standing m conn some)),
  λ absent. nobody b.standing m b.peers conn absent,
  λ none. no_filter b.standing m b.peers conn (unless b.standing m conn _ refl none),
)

-- the step of a PUBLISH under a topic name, of an open connection
publish_steps : (b : Broker) (conn : ℕ) (p : Publish) → is_open b.peers conn ≡ true → name_fault p.name ≡ None
    → step b conn (packet.Publish p) ≡ delivered b conn p
publish_steps b conn p there named =
    subst (λ (open' : Bool). (if open' then taken b conn (packet.Publish p) else
    greeted b conn (packet.Publish p)) ≡ published b conn p) (sym there) refl
    ∙ subst (λ (fault : Option TextFault). (elim fault as (λ _. Stepped) [
      | None ↦ delivered b conn p
      | Some fault ↦ dropped b conn
    ]) ≡ delivered b conn p) (sym named) refl

-- so the message of a PUBLISH goes in each step
pub publish_goes_once : (b : Broker) (conn : ℕ) (asked : Packet) → EachOnce b.peers
    → PublishGoesOnce b conn asked (step b conn asked).outs
publish_goes_once b conn asked once p is there named = (
  fan_out b.standing (message_of p) b.peers,
  ap (λ q. (step b conn q).outs) is ∙ ap (λ s. s.outs) (publish_steps b conn p there named),
  one_copy_each b (message_of p) once,
)
