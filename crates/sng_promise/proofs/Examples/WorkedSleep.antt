-- The worked rows of clients that sleep, and of what is sent again, are lawful, or not, by computation.
use Rattle.std.proofs.Common.{◌≡◌, ℕ, true, false, List, [], ◌∷◌, ◌++◌, map, refl, ap, ◌∙◌, subst}
use Rattle.std.specs.Prelude.{take, Some}
use Rattle.sng_text.specs.declared.qos.Qos.TheVariants.{AtMostOnce, AtLeastOnce}
use Rattle.sng_queue.specs.Messages.{Message, message}
use Rattle.sng_queue.specs.declared.kind.TopicIdKind.TheVariants as kind
use Rattle.sng_queue.specs.declared.exchange.Exchange.TheVariants.{Acknowledging}
use Rattle.sng_outbox.specs.declared.item.Item.TheVariants as item
use Rattle.sng_book.specs.declared.decision.Decision.TheVariants.{Lost}
use Rattle.sng_book.specs.declared.event.Event.TheVariants.{Datagram, Broker, Tick}
use Rattle.sng_book.specs.declared.outcome.Outcome.TheVariants.{Allowed}
use Rattle.sng_book.specs.declared.out.Out.{Out}
use Rattle.sng_book.specs.declared.out.Out.TheVariants.{Note}
use Rattle.sng_book.specs.declared.row.Row.{Row}
use Rattle.sng_history.specs.Causes.{ByMessage, ToPing, cause_of}
use Rattle.sng_history.specs.Clients.{Client}
use Rattle.sng_history.specs.State.{State, opening, after, state_of}
use Rattle.sng_history.specs.Lawful.{LawfulRow, Lawful}
use Rattle.sng_promise.specs.Examples.{row}
use Rattle.sng_promise.specs.ExamplesClients.{home, s1, ab, ping_s1, pong, bye, stands_ab, stands_under_a}
use Rattle.sng_promise.specs.ExamplesClients.{message_ab, announces_ab, announcement_ab, accept_ab, hands_ab}
use Rattle.sng_promise.specs.ExamplesClients.{handed_ab}
use Rattle.sng_promise.specs.ExamplesSleep.{sleeps_s1, asleep_s1, buffered_ab, woken_s1, drained_s1}
use Rattle.sng_promise.specs.ExamplesSleep.{sleeps_again, is_asleep, is_buffered, is_woken}
use Rattle.sng_promise.specs.ExamplesSleep.{message_one, handed_one, handed_again, acknowledges_one}
use Rattle.sng_promise.specs.ExamplesSleep.{retries_ab}
use Rattle.sng_promise.specs.ExamplesSleep.{open_one, again_one, answered_one, tried_out, given_up}
use Rattle.sng_promise.specs.ExamplesSleep.{is_tried_out}
use Rattle.sng_history.proofs.ExampleIds.{s1_utf8, s1_chars}
use Rattle.sng_promise.proofs.Examples.WorkedAsks.{then, came}
use Rattle.sng_promise.proofs.Examples.WorkedSubscriptions.{ab_utf8, stands}
use Rattle.sng_promise.proofs.Examples.WorkedMessages.{under_in, under_is, ab_in, ab_is, stands_under}

-- the message as it waits
abbrev one_ab : Message
one_ab = message ab (0x31 ∷ []) AtMostOnce false

-- ---- the states, one after the other

abbrev sleeping : State → State
sleeping s = then s (Datagram home sleeps_s1) (bye home ∷ [])

abbrev buffering : State → State
buffering s = then s (Broker message_ab) []

abbrev waking : State → State
waking s = then s (Datagram home ping_s1) (announces_ab ∷ announcement_ab ∷ [])

abbrev draining : State → State
draining s =
    then s (Datagram home accept_ab)
    (hands_ab Allowed ∷ handed_ab ∷ hands_ab Allowed ∷ handed_ab ∷ pong home ∷ [])

abbrev asleep_in : State
asleep_in = sleeping under_in

asleep_is : state_of opening asleep_s1 ≡ asleep_in
asleep_is = ap sleeping under_is

-- the client, where so many messages wait for it
abbrev waiting_for : ℕ → Client → Client
waiting_for n x = record x { buffer = record x.buffer { waiting = take n (one_ab ∷ one_ab ∷ []) } }

abbrev waiting_in : State → ℕ → State
waiting_in s n = record s { clients = map (waiting_for n) s.clients }

first_is : buffering asleep_in ≡ waiting_in asleep_in 1
first_is = rw ab_utf8 refl

second_is : buffering (waiting_in asleep_in 1) ≡ waiting_in asleep_in 2
second_is = rw ab_utf8 refl

abbrev buffered_in : State
buffered_in = waiting_in asleep_in 2

buffered_is : is_buffered ≡ buffered_in
buffered_is = ap (λ s. buffering (buffering s)) asleep_is ∙ (ap buffering first_is ∙ second_is)

cause_ping : cause_of (Datagram home ping_s1) ≡ ByMessage home (ToPing (Some s1))
cause_ping = rw (s1_utf8, s1_chars) refl

abbrev woken_in : State
woken_in = after buffered_in (ByMessage home (ToPing (Some s1))) (announces_ab ∷ announcement_ab ∷ [])

woken_is : is_woken ≡ woken_in
woken_is =
    ap waking buffered_is ∙ ap (λ c. after buffered_in c (announces_ab ∷ announcement_ab ∷ [])) cause_ping

-- it knows the id of the name then
abbrev told_ab : Client → Client
told_ab x = record x { ids = (ab, true) ∷ []; number = 1 }

abbrev drained_in : State
drained_in = record asleep_in { clients = map told_ab asleep_in.clients }

drained_is : draining woken_in ≡ drained_in
drained_is = refl

-- ---- it sleeps, wakes, and sleeps again

asleep : Lawful opening asleep_s1
asleep = (
  stands_under,
  came stands_under_a under_in (Datagram home sleeps_s1) (bye home ∷ []) under_is
      (record { whole = refl; exits = refl; clients = (record { fixed = refl }, tt) }),
)

abbrev one_waits : List Row
one_waits = row (Broker message_ab) [] ∷ asleep_s1

first : Lawful opening one_waits
first = (
  asleep,
  came asleep_s1 asleep_in (Broker message_ab) [] asleep_is
      (record { whole = rw ab_utf8 refl; exits = refl; clients = (record { fixed = rw ab_utf8 refl }, tt) }),
)

buffered : Lawful opening buffered_ab
buffered = (
  first,
  came one_waits (waiting_in asleep_in 1) (Broker message_ab) [] (ap buffering asleep_is ∙ first_is)
      (record { whole = rw ab_utf8 refl; exits = refl; clients = (record { fixed = rw ab_utf8 refl }, tt) }),
)

woken : Lawful opening woken_s1
woken = (
  buffered,
  came buffered_ab buffered_in (Datagram home ping_s1) (announces_ab ∷ announcement_ab ∷ []) buffered_is
      (record {
        whole = rw (s1_utf8, s1_chars) refl;
        exits = rw (s1_utf8, s1_chars) refl;
        clients = rw (s1_utf8, s1_chars) (record { fixed = refl }, tt);
      }),
)

drained : Lawful opening drained_s1
drained = (
  woken,
  came woken_s1 woken_in (Datagram home accept_ab)
      (hands_ab Allowed ∷ handed_ab ∷ hands_ab Allowed ∷ handed_ab ∷ pong home ∷ []) woken_is
      (record { whole = refl; exits = refl; clients = (record { fixed = refl }, tt) }),
)

pub again_asleep : Lawful opening sleeps_again
again_asleep = (
  drained,
  came drained_s1 drained_in (Broker message_ab) [] (ap draining woken_is ∙ drained_is)
      (record { whole = rw ab_utf8 refl; exits = refl; clients = (record { fixed = rw ab_utf8 refl }, tt) }),
)

-- ---- a message at QoS 1 is sent again

abbrev handing : State → State
handing s = then s (Broker message_one) (hands_ab Allowed ∷ handed_one ∷ [])

abbrev retrying : ℕ → State → State
retrying clock s = then s (Tick clock) (retries_ab Allowed ∷ handed_again ∷ [])

-- it is open, with the clock of its last sending and how often it was sent again
abbrev open_for : ℕ → ℕ → Client → Client
open_for sent tries x =
    record x {
      number = 1;
      buffer = record x.buffer {
        exchange =
            Some (Acknowledging (record { topic_id = 1; msg_id = 1; sent = sent; tries = tries }) kind.Normal
            (message ab (0x31 ∷ []) AtLeastOnce false));
      };
    }

abbrev open_at : State → ℕ → ℕ → State
open_at s sent tries = record s { clients = map (open_for sent tries) s.clients }

abbrev open_in : State
open_in =
    open_at (record ab_in {
      link =
          record ab_in.link { waiting = ab_in.link.waiting ++ item.Acknowledge 5 ∷ [] };
    }) 0 0

open_is : state_of opening open_one ≡ open_in
open_is = ap handing ab_is ∙ rw ab_utf8 refl

opened : Lawful opening open_one
opened = (
  stands,
  came stands_ab ab_in (Broker message_one) (hands_ab Allowed ∷ handed_one ∷ []) ab_is
      (record { whole = rw ab_utf8 refl; exits = refl; clients = (record { fixed = rw ab_utf8 refl }, tt) }),
)

abbrev early : List Row
early = row (Tick 9999) [] ∷ open_one

abbrev early_in : State
early_in = then open_in (Tick 9999) []

not_yet : Lawful opening early
not_yet = (
  opened,
  came open_one open_in (Tick 9999) [] open_is
      (record { whole = refl; exits = refl; clients = (record { fixed = refl }, tt) }),
)

abbrev again_in : State
again_in = retrying 10000 early_in

again_is : state_of opening again_one ≡ again_in
again_is = ap (λ s. retrying 10000 (then s (Tick 9999) [])) open_is

again : Lawful opening again_one
again = (
  not_yet,
  came early early_in (Tick 10000) (retries_ab Allowed ∷ handed_again ∷ [])
      (ap (λ s. then s (Tick 9999) []) open_is)
      (record { whole = refl; exits = refl; clients = (record { fixed = refl }, tt) }),
)

-- ---- it is answered

abbrev acknowledging : State → State
acknowledging s = then s (Datagram home acknowledges_one) []

abbrev acknowledged_run : List Row
acknowledged_run = row (Datagram home acknowledges_one) [] ∷ again_one

acknowledged : Lawful opening acknowledged_run
acknowledged = (
  again,
  came again_one again_in (Datagram home acknowledges_one) [] again_is
      (record { whole = refl; exits = refl; clients = (record { fixed = refl }, tt) }),
)

pub answered : Lawful opening answered_one
answered = (
  acknowledged,
  came acknowledged_run (acknowledging again_in) (Tick 20000) [] (ap acknowledging again_is)
      (record { whole = refl; exits = refl; clients = (record { fixed = refl }, tt) }),
)

-- ---- or given up

abbrev twice_in : State
twice_in = retrying 20000 again_in

abbrev tried_in : State
tried_in = retrying 30000 twice_in

tried_is : is_tried_out ≡ tried_in
tried_is = ap (λ s. retrying 30000 (retrying 20000 s)) again_is

abbrev twice_run : List Row
twice_run = row (Tick 20000) (retries_ab Allowed ∷ handed_again ∷ []) ∷ again_one

twice : Lawful opening twice_run
twice = (
  again,
  came again_one again_in (Tick 20000) (retries_ab Allowed ∷ handed_again ∷ []) again_is
      (record { whole = refl; exits = refl; clients = (record { fixed = refl }, tt) }),
)

tried : Lawful opening tried_out
tried = (
  twice,
  came twice_run twice_in (Tick 30000) (retries_ab Allowed ∷ handed_again ∷ []) (ap (retrying 20000) again_is)
      (record { whole = refl; exits = refl; clients = (record { fixed = refl }, tt) }),
)

pub gave_up : Lawful opening given_up
gave_up = (
  tried,
  came tried_out tried_in (Tick 40000) (Note (Lost s1) ∷ []) tried_is
      (record { whole = refl; exits = refl; clients = (record { fixed = refl }, tt) }),
)

-- ---- rows that may not come

-- PINGRESP comes though something is open, and waits
pub not_early : LawfulRow is_buffered (Datagram home ping_s1)
    (announces_ab ∷ announcement_ab ∷ pong home ∷ []) → ⊥
not_early l =
    let outs : List Out = announces_ab ∷ announcement_ab ∷ pong home ∷ [] in
    let at : LawfulRow buffered_in (Datagram home ping_s1) outs =
    subst (λ s. LawfulRow s (Datagram home ping_s1) outs) buffered_is l in
    let e = rw (s1_utf8, s1_chars) at at.whole in cc

-- a client that sleeps is sent a message
pub not_asleep : LawfulRow is_asleep (Broker message_ab) (announces_ab ∷ announcement_ab ∷ []) → ⊥
not_asleep l =
    let outs : List Out = announces_ab ∷ announcement_ab ∷ [] in
    let at : LawfulRow asleep_in (Broker message_ab) outs =
    subst (λ s. LawfulRow s (Broker message_ab) outs) asleep_is l in
    let e = rw ab_utf8 at at.clients.0.fixed in cc

-- it is sent again a fourth time
pub not_fourth : LawfulRow is_tried_out (Tick 40000) (retries_ab Allowed ∷ handed_again ∷ []) → ⊥
not_fourth l =
    let outs : List Out = retries_ab Allowed ∷ handed_again ∷ [] in
    let at : LawfulRow tried_in (Tick 40000) outs = subst (λ s. LawfulRow s (Tick 40000) outs) tried_is l in
    let e = at.clients.0.fixed in cc
