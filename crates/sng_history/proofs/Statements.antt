-- The notes of a statement of a will, and those of a tick, by which a client is lost, or what is open with it
-- is sent again: what holds of each of their kinds holds of all of them.
use Rattle.std.proofs.Common.{◌≡◌, ℕ, Bool, true, false, List, [], ◌∷◌, ◌++◌, refl, ◌∙◌}
use Rattle.std.specs.Prelude.{if◌then◌else◌, Option, Some, None}
use Rattle.sng_grants.specs.Limits.{Limits}
use Rattle.sng_grants.specs.declared.policy.Policy.{Policy}
use Rattle.sng_queue.specs.Messages.{Message}
use Rattle.sng_queue.specs.Buffers.{settle}
use Rattle.sng_queue.specs.declared.exchange.Exchange.{Exchange}
use Rattle.sng_queue.specs.declared.exchange.Exchange.TheVariants.{Announcing, Acknowledging}
use Rattle.sng_outbox.specs.declared.item.Publication.{Publication}
use Rattle.sng_book.specs.Denials.{is_allowed}
use Rattle.sng_book.specs.declared.decision.Decision.{Decision}
use Rattle.sng_book.specs.declared.decision.Decision.TheVariants as note
use Rattle.sng_book.specs.declared.decision.Who.TheVariants as who
use Rattle.sng_book.specs.declared.outcome.Denial.{Denial}
use Rattle.sng_book.specs.declared.outcome.Outcome.{Outcome}
use Rattle.sng_book.specs.declared.outcome.Outcome.TheVariants.{Allowed, Denied}
use Rattle.sng_history.specs.Causes.{Statement, StatesTopic, StatesMessage, UpdatesTopic, UpdatesMessage}
use Rattle.sng_history.specs.Clients.{Around, Client, closed, stated, stated_by, statement_of, note_by}
use Rattle.sng_history.specs.Clients.{notes_by}
use Rattle.sng_history.specs.Links.{Link}
use Rattle.sng_history.specs.Room.{room_in}
use Rattle.sng_history.specs.Outgoing.{receive, all_gone}
use Rattle.sng_history.specs.Ticking.{is_repeating, is_lost_at, will_of, testaments, all_placed}
use Rattle.sng_history.specs.Losing.{before, unplaced, will_dropped, lost_notes}
use Rattle.sng_history.specs.Losing.{message_open, judged_again, message_again, exchange_again, again_notes}
use Rattle.sng_history.specs.Losing.{tick_notes}
use Rattle.sng_history.specs.WillAsks.{statement_turn, statement_object, statement_verdict, dialogue_goes_on}
use Rattle.sng_history.specs.WillAsks.{in_dialogue_notes}
use Rattle.sng_history.specs.WillAsks.{statement_follows, statement_notes}
use Rattle.sng_history.proofs.Steady.{handed_steady, repeated_steady}
use Rattle.sng_history.proofs.Hands.{Every, every_append, every_if, OfMessages, every_handed, every_gone}

-- ---- a statement

-- it holds of each note that a statement of the client may make: of the statement itself, that the client
-- leaves, and of messages
pub record OfStatement (P : Decision → Type 0) (client : List ℕ) : Type 0 where
  pub states : (name : Option (List ℕ)) (outcome : Outcome) → P (note.Will (who.Client client) name outcome)
  pub leaves : P (note.Left client)
  pub messages : OfMessages P client

every_goes_on : (P : Decision → Type 0) (policy : Policy) (statement : Statement) (x : Client) (o : Outcome)
    → OfStatement P x.id
    → Every P (dialogue_goes_on policy statement x o)
every_goes_on P policy statement x Allowed of = every_handed P policy (stated statement x) of.messages
every_goes_on P policy statement x (Denied rule) of =
    (of.leaves, every_gone P x.id x.buffer.waiting of.messages)

every_dialogue : (P : Decision → Type 0) (policy : Policy) (statement : Statement) (x : Client)
    → OfStatement P x.id
    → Every P (in_dialogue_notes policy statement x)
every_dialogue P policy statement x of =
    let o = statement_verdict policy statement x in
    every_if P (is_allowed (statement_turn statement x)) (dialogue_goes_on policy statement x o)
    (every_goes_on P policy statement x o of)

every_follows : (P : Decision → Type 0) (policy : Policy) (statement : Statement) (x : Client)
    → OfStatement P x.id
    → Every P (statement_follows policy statement x)
every_follows P policy (StatesTopic topic) x of = every_dialogue P policy (StatesTopic topic) x of
every_follows P policy (StatesMessage message) x of = every_dialogue P policy (StatesMessage message) x of
every_follows P policy (UpdatesTopic topic) x of = tt
every_follows P policy (UpdatesMessage message) x of = tt

pub every_statement : (P : Decision → Type 0) (policy : Policy) (statement : Statement) (x : Client)
    → OfStatement P x.id
    → Every P (statement_notes policy statement x)
every_statement P policy statement x of = (
  of.states (statement_object policy statement x) (statement_verdict policy statement x),
  every_follows P policy statement x of,
)

-- ---- a client that is lost

-- it holds of each note that a tick may make of the client: that it is lost, of its messages, and that its
-- will found no place
pub record OfLost (P : Decision → Type 0) (client : List ℕ) : Type 0 where
  pub loses : P (note.Lost client)
  pub drops : (name : List ℕ) (rule : Denial) → P (note.Will (who.Client client) (Some name) (Denied rule))
  pub messages : OfMessages P client

every_unplaced : (P : Decision → Type 0) (client : List ℕ) (p : Publication) (o : Outcome) → OfLost P client
    → Every P (unplaced client p o)
every_unplaced P client p Allowed of = tt
every_unplaced P client p (Denied rule) of = (of.drops p.name rule, tt)

pub every_dropped : (P : Decision → Type 0) (limits : Limits) (link : Link) (client : List ℕ)
    (ps : List Publication) → OfLost P client → Every P (will_dropped limits link client ps)
every_dropped P limits link client [] of = tt
every_dropped P limits link client (p ∷ ps) of = every_unplaced P client p (room_in limits link p.qos) of

pub every_lost : (P : Decision → Type 0) (limits : Limits) (link : Link) (x : Client) → OfLost P x.id
    → Every P (lost_notes limits link x)
every_lost P limits link x of =
    let will = will_of x.id x.wills.will in
    let goes = every_gone P x.id x.buffer.waiting of.messages in (
      of.loses,
      every_append P (all_gone x.id x.buffer.waiting) (will_dropped limits link x.id will) goes
          (every_dropped P limits link x.id will of),
    )

-- ---- what is sent again

-- it holds of each note of what is open with the client and was not answered in time
pub record OfAgain (P : Decision → Type 0) (client : List ℕ) : Type 0 where
  pub again : (name : List ℕ) (outcome : Outcome) → P (note.Retry client name outcome)
  pub messages : OfMessages P client

every_judged_again : (P : Decision → Type 0) (policy : Policy) (x : Client) (open_one : Exchange)
    (m : Message) (o : Outcome)
    → OfAgain P x.id → Every P (judged_again policy x open_one m o)
every_judged_again P policy x open_one m Allowed of = (of.again m.name Allowed, tt)
every_judged_again P policy x (Announcing sent) m (Denied rule) of =
    let y : Client = record x { buffer = settle x.buffer } in
    (of.messages.hands m.name (Denied rule), every_handed P policy y of.messages)
every_judged_again P policy x (Acknowledging sent k one) m (Denied rule) of =
    (of.again m.name (Denied rule), every_handed P policy (closed x) of.messages)

every_message_again : (P : Decision → Type 0) (policy : Policy) (x : Client) (open_one : Exchange)
    (m : Option Message) → OfAgain P x.id
    → Every P (message_again policy x open_one m)
every_message_again P policy x open_one None of = tt
every_message_again P policy x open_one (Some m) of =
    every_judged_again P policy x open_one m (receive policy x.id m.name) of

every_exchange_again : (P : Decision → Type 0) (policy : Policy) (x : Client) (open_ones : Option Exchange)
    → OfAgain P x.id
    → Every P (exchange_again policy x open_ones)
every_exchange_again P policy x None of = tt
every_exchange_again P policy x (Some open_one) of =
    every_message_again P policy x open_one (message_open x.buffer open_one) of

pub every_again : (P : Decision → Type 0) (policy : Policy) (clock : ℕ) (x : Client) → OfAgain P x.id
    → Every P (again_notes policy clock x)
every_again P policy clock x of =
    every_if P (is_repeating clock x) (exchange_again policy x x.buffer.exchange)
    (every_exchange_again P policy x x.buffer.exchange of)

-- ---- a tick

every_either : (P : Decision → Type 0) (b : Bool) (one two : List Decision) → Every P one → Every P two
    → Every P (if b then one else two)
every_either P true one two first second = first
every_either P false one two first second = second

pub every_tick : (P : Decision → Type 0) (policy : Policy) (link : Link) (clock : ℕ) (xs : List Client)
    (x : Client) → OfLost P x.id
    → ((name : List ℕ) (outcome : Outcome) → P (note.Retry x.id name outcome))
    → Every P (tick_notes policy link clock xs x)
every_tick P policy link clock xs x of again =
    let left = all_placed policy.limits link (testaments clock (before x.id xs)) in
    every_either P (is_lost_at clock x) (lost_notes policy.limits left x) (again_notes policy clock x)
    (every_lost P policy.limits left x of)
    (every_again P policy clock x (record { again = again; messages = of.messages }))

-- ---- what they leave of a client

pub notes_both : (a : Around) (one two : List Decision) (x : Client)
    → notes_by a (one ++ two) x ≡ notes_by a two (notes_by a one x)
notes_both a [] two x = refl
notes_both a (said ∷ one) two x = notes_both a one two (note_by a said x)

-- a statement moves how its client stands, and its will
pub record Stated (x y : Client) : Type 0 where
  pub id : y.id ≡ x.id
  pub address : y.address ≡ x.address
  pub ids : y.ids ≡ x.ids
  pub number : y.number ≡ x.number
  pub buffer : y.buffer ≡ x.buffer
  pub filters : y.filters ≡ x.filters
  pub duration : y.duration ≡ x.duration
  pub heard : y.heard ≡ x.heard

pub stated_keeps : (statement : Option Statement) (o : Outcome) (x : Client)
    → Stated x (stated_by statement o x)
stated_keeps (Some statement) Allowed x =
    record {
      id = refl;
      address = refl;
      ids = refl;
      number = refl;
      buffer = refl;
      filters = refl;
      duration = refl;
      heard = refl;
    }
stated_keeps (Some statement) (Denied rule) x =
    record {
      id = refl;
      address = refl;
      ids = refl;
      number = refl;
      buffer = refl;
      filters = refl;
      duration = refl;
      heard = refl;
    }
stated_keeps None o x =
    record {
      id = refl;
      address = refl;
      ids = refl;
      number = refl;
      buffer = refl;
      filters = refl;
      duration = refl;
      heard = refl;
    }

-- one that is denied moves nothing
pub denied_stated : (statement : Option Statement) (rule : Denial) (x : Client)
    → stated_by statement (Denied rule) x ≡ x
denied_stated (Some statement) rule x = refl
denied_stated None rule x = refl

-- the note leaves where its client is, and what stands for it
pub record Placid (a : Around) (said : Decision) : Type 0 where
  pub address : (x : Client) → (note_by a said x).address ≡ x.address
  pub filters : (x : Client) → (note_by a said x).filters ≡ x.filters

messages_placid : (a : Around) (client : List ℕ) → OfMessages (Placid a) client
messages_placid a client = record {
  announces = λ name. record { address = λ x. refl; filters = λ x. refl };
  hands =
      λ name o. record {
        address = λ x. (handed_steady a name o x).address;
        filters = λ x. (handed_steady a name o x).filters;
      };
}

will_placid : (a : Around) (client : List ℕ) (name : Option (List ℕ)) (o : Outcome)
    → Placid a (note.Will (who.Client client) name o)
will_placid a client name o = record {
  address = λ x. (stated_keeps (statement_of a.cause) o x).address;
  filters = λ x. (stated_keeps (statement_of a.cause) o x).filters;
}

pub statement_placid : (a : Around) (policy : Policy) (statement : Statement) (x : Client)
    → Every (Placid a) (statement_notes policy statement x)
statement_placid a policy statement x = every_statement (Placid a) policy statement x (record {
  states = will_placid a x.id;
  leaves = record { address = λ y. refl; filters = λ y. refl };
  messages = messages_placid a x.id;
})

again_placid : (a : Around) (client name : List ℕ) (o : Outcome) → Placid a (note.Retry client name o)
again_placid a client name o = record {
  address = λ x. (repeated_steady a.clock o x).address;
  filters = λ x. (repeated_steady a.clock o x).filters;
}

pub tick_placid : (a : Around) (policy : Policy) (link : Link) (clock : ℕ) (xs : List Client) (x : Client)
    → Every (Placid a) (tick_notes policy link clock xs x)
tick_placid a policy link clock xs x = every_tick (Placid a) policy link clock xs x (record {
  loses = record { address = λ y. refl; filters = λ y. refl };
  drops = λ name rule. will_placid a x.id (Some name) (Denied rule);
  messages = messages_placid a x.id;
}) (again_placid a x.id)

pub placid_address : (a : Around) (notes : List Decision) (x : Client) → Every (Placid a) notes
    → (notes_by a notes x).address ≡ x.address
placid_address a [] x every = refl
placid_address a (said ∷ notes) x every =
    placid_address a notes (note_by a said x) every.1 ∙ every.0.address x

pub placid_filters : (a : Around) (notes : List Decision) (x : Client) → Every (Placid a) notes
    → (notes_by a notes x).filters ≡ x.filters
placid_filters a [] x every = refl
placid_filters a (said ∷ notes) x every =
    placid_filters a notes (note_by a said x) every.1 ∙ every.0.filters x
