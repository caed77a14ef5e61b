-- The worked rows of wills and of lost clients are lawful, or not, by computation.
use Rattle.std.proofs.Common.{◌≡◌, ℕ, true, List, [], ◌∷◌, refl, ap, subst}
use Rattle.mqtt_frames.specs.RemainingLength.{remaining_length}
use Rattle.sng_frames.specs.declared.messages.connect.Connect.{Connect}
use Rattle.sng_book.specs.declared.decision.Decision.TheVariants.{Left, Lost}
use Rattle.sng_book.specs.declared.event.Event.TheVariants.{Datagram, Take, Tick}
use Rattle.sng_book.specs.declared.outcome.Denial.TheVariants.{Grant}
use Rattle.sng_book.specs.declared.outcome.GrantDenial.TheVariants.{MissingPub}
use Rattle.sng_book.specs.declared.outcome.Outcome.TheVariants.{Allowed, Denied}
use Rattle.sng_book.specs.declared.out.Out.{Out}
use Rattle.sng_book.specs.declared.out.Out.TheVariants.{Wire, Note}
use Rattle.sng_book.specs.declared.row.Row.{Row}
use Rattle.sng_history.specs.Causes.{ByConnect, cause_of}
use Rattle.sng_history.specs.State.{State, opening, after, state_of}
use Rattle.sng_history.specs.Lawful.{LawfulRow, Lawful}
use Rattle.sng_promise.specs.Examples.{row}
use Rattle.sng_promise.specs.ExamplesClients.{home, s1, t1, t2, lets_in, welcome, refusal, disconnect, bye}
use Rattle.sng_promise.specs.ExamplesClients.{forward_t1, packet_t1}
use Rattle.sng_promise.specs.ExamplesWills.{connect_will, topic_t1, topic_t2, message_31, asks_topic}
use Rattle.sng_promise.specs.ExamplesWills.{asks_message, states}
use Rattle.sng_promise.specs.ExamplesWills.{ping_broker, packet_twice, will_asked, will_refused, topic_stated}
use Rattle.sng_promise.specs.ExamplesWills.{will_stated}
use Rattle.sng_promise.specs.ExamplesWills.{minute_half, lost_s1, will_published, left_s1, will_unpublished}
use Rattle.sng_promise.specs.ExamplesWills.{awaits_topic, is_silent, is_lost}
use Rattle.sng_history.proofs.ExampleIds.{s1_utf8, s1_chars}
use Rattle.sng_promise.proofs.Examples.WorkedClients.{hello}
use Rattle.sng_promise.proofs.Examples.WorkedAsks.{t1_utf8, t2_utf8, up_one, then, came}

-- ---- the states, one after the other

abbrev hello_will : Connect
hello_will = record (hello s1) { flags = record (hello s1).flags { will = true } }

abbrev asked_in : State
asked_in = after up_one (ByConnect home hello_will) (lets_in s1 ∷ asks_topic ∷ [])

cause_will : cause_of (Datagram home connect_will) ≡ ByConnect home hello_will
cause_will = rw (s1_utf8, s1_chars) refl

asked_is : awaits_topic ≡ asked_in
asked_is = ap (λ c. after up_one c (lets_in s1 ∷ asks_topic ∷ [])) cause_will

abbrev topics : State → State
topics s = then s (Datagram home topic_t1) (states t1 Allowed ∷ asks_message ∷ [])

abbrev topic_in : State
topic_in = topics asked_in

abbrev messages : State → State
messages s = then s (Datagram home message_31) (states t1 Allowed ∷ welcome home ∷ [])

abbrev stated_in : State
stated_in = messages topic_in

stated_is : state_of opening will_stated ≡ stated_in
stated_is = ap (λ s. messages (topics s)) asked_is

-- ---- a will that is stated

asked : Lawful opening will_asked
asked = (
  (
    (tt, record { whole = refl; exits = refl; clients = tt }),
    record { whole = refl; exits = refl; clients = tt },
  ),
  record {
    whole = rw (s1_utf8, s1_chars) refl;
    exits = rw (s1_utf8, s1_chars) refl;
    clients = rw (s1_utf8, s1_chars) (record { fixed = refl }, tt);
  },
)

pub refused : Lawful opening will_refused
refused = (
  asked,
  came will_asked asked_in (Datagram home topic_t2)
      (states t2 (Denied (Grant (MissingPub t2))) ∷ refusal home ∷ Note (Left s1) ∷ []) asked_is
      (record { whole = refl; exits = refl; clients = (record { fixed = rw t2_utf8 refl }, tt) }),
)

topic : Lawful opening topic_stated
topic = (
  asked,
  came will_asked asked_in (Datagram home topic_t1) (states t1 Allowed ∷ asks_message ∷ []) asked_is
      (record { whole = refl; exits = refl; clients = (record { fixed = rw t1_utf8 refl }, tt) }),
)

stated : Lawful opening will_stated
stated = (
  topic,
  came topic_stated topic_in (Datagram home message_31) (states t1 Allowed ∷ welcome home ∷ [])
      (ap topics asked_is)
      (record { whole = refl; exits = refl; clients = (record { fixed = rw t1_utf8 refl }, tt) }),
)

-- ---- the client is silent

abbrev waits_in : State
waits_in = then stated_in (Tick 30000) []

abbrev silent_in : State
silent_in = then waits_in Take (ping_broker ∷ [])

silent_is : is_silent ≡ silent_in
silent_is = ap (λ s. then (then s (Tick 30000) []) Take (ping_broker ∷ [])) stated_is

abbrev ping_waits : List Row
ping_waits = row (Tick 30000) [] ∷ will_stated

waits : Lawful opening ping_waits
waits = (
  stated,
  came will_stated stated_in (Tick 30000) [] stated_is
      (record { whole = refl; exits = refl; clients = (record { fixed = refl }, tt) }),
)

half : Lawful opening minute_half
unfolding remaining_length
half = (
  waits,
  came ping_waits waits_in Take (ping_broker ∷ []) (ap (λ s. then s (Tick 30000) []) stated_is)
      (record { whole = refl; exits = refl; clients = (record { fixed = refl }, tt) }),
)

-- ---- it is lost, and its will is published

abbrev lost_in : State
lost_in = then silent_in (Tick 90000) (Note (Lost s1) ∷ [])

lost_is : is_lost ≡ lost_in
lost_is = ap (λ s. then s (Tick 90000) (Note (Lost s1) ∷ [])) silent_is

lost : Lawful opening lost_s1
lost = (
  half,
  came minute_half silent_in (Tick 90000) (Note (Lost s1) ∷ []) silent_is
      (record { whole = refl; exits = refl; clients = (record { fixed = refl }, tt) }),
)

pub published : Lawful opening will_published
unfolding remaining_length
published = (
  lost,
  came lost_s1 lost_in Take (forward_t1 Allowed ∷ packet_t1 1 ∷ ping_broker ∷ []) lost_is
      (record { whole = refl; exits = refl; clients = (record { fixed = refl }, tt) }),
)

-- ---- it takes its leave, and its will is not

abbrev left_in : State
left_in = then silent_in (Datagram home disconnect) (Note (Left s1) ∷ bye home ∷ [])

left_is : state_of opening left_s1 ≡ left_in
left_is = ap (λ s. then s (Datagram home disconnect) (Note (Left s1) ∷ bye home ∷ [])) silent_is

left : Lawful opening left_s1
left = (
  half,
  came minute_half silent_in (Datagram home disconnect) (Note (Left s1) ∷ bye home ∷ []) silent_is
      (record { whole = refl; exits = refl; clients = (record { fixed = refl }, tt) }),
)

abbrev quiet : List Row
quiet = row (Tick 90000) [] ∷ left_s1

stays : Lawful opening quiet
stays = (
  left,
  came left_s1 left_in (Tick 90000) [] left_is
      (record { whole = refl; exits = refl; clients = (record { fixed = refl }, tt) }),
)

pub unpublished : Lawful opening will_unpublished
unfolding remaining_length
unpublished = (
  stays,
  came quiet (then left_in (Tick 90000) []) Take (ping_broker ∷ []) (ap (λ s. then s (Tick 90000) []) left_is)
      (record { whole = refl; exits = refl; clients = (record { fixed = refl }, tt) }),
)

-- ---- rows that may not come

-- the dialogue goes on with a topic that is not granted
pub not_ungranted : LawfulRow awaits_topic (Datagram home topic_t2) (states t2 Allowed ∷ asks_message ∷ [])
    → ⊥
not_ungranted l =
    let outs : List Out = states t2 Allowed ∷ asks_message ∷ [] in
    let at : LawfulRow asked_in (Datagram home topic_t2) outs =
    subst (λ s. LawfulRow s (Datagram home topic_t2) outs) asked_is l in
    let e = rw t2_utf8 at at.clients.0.fixed in cc

-- the client is kept one tick more
pub not_kept : LawfulRow is_silent (Tick 90000) [] → ⊥
not_kept l =
    let at : LawfulRow silent_in (Tick 90000) [] = subst (λ s. LawfulRow s (Tick 90000) []) silent_is l in
    let e = at.clients.0.fixed in cc

-- the first octet of the packet behind a note, which says the QoS
abbrev first_octet : List Out → ℕ
first_octet (Note said ∷ Wire (octet ∷ octets) ∷ outs) = octet
first_octet _ = 0

not_both : ◌≡◌ {A = ℕ} 0x34 0x32 → ⊥
not_both is = cc

-- its will leaves at QoS 2
pub not_exactly_once : LawfulRow is_lost Take (forward_t1 Allowed ∷ packet_twice ∷ ping_broker ∷ []) → ⊥
unfolding remaining_length
not_exactly_once l =
    let outs : List Out = forward_t1 Allowed ∷ packet_twice ∷ ping_broker ∷ [] in
    let at : LawfulRow lost_in Take outs = subst (λ s. LawfulRow s Take outs) lost_is l in
    not_both (ap first_octet at.whole)
