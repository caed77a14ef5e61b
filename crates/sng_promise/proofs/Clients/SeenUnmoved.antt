-- Notes that move nothing of what the rows show of a client, and the end of its subscriptions.
use Rattle.std.proofs.Common.{◌≡◌, ℕ, Bool, true, false, List, [], ◌∷◌, ◌++◌, refl, ap, ◌∙◌, if◌then◌else◌}
use Rattle.std.specs.Prelude.{Option, Some, None}
use Rattle.sng_grants.specs.declared.policy.Policy.{Policy}
use Rattle.sng_states.specs.declared.state.ClientState.{ClientState}
use Rattle.sng_fan.specs.declared.held.Held.{Held}
use Rattle.sng_queue.specs.Buffers.{settle}
use Rattle.mqtt_frames.specs.declared.packet.Packet.{Packet}
use Rattle.sng_frames.specs.declared.messages.subscribe.TopicRequest.{TopicRequest}
use Rattle.sng_book.specs.declared.decision.Decision.{Decision}
use Rattle.sng_book.specs.declared.decision.Decision.TheVariants as note
use Rattle.sng_book.specs.declared.outcome.Denial.TheVariants.{Peer}
use Rattle.sng_book.specs.declared.outcome.PeerDenial.TheVariants.{BrokerRefused}
use Rattle.sng_book.specs.declared.outcome.Outcome.{Outcome}
use Rattle.sng_book.specs.declared.outcome.Outcome.TheVariants.{Allowed, Denied}
use Rattle.sng_history.specs.Causes.{ByPacket}
use Rattle.sng_history.specs.Clients.{Client, Around, message_due, delivered_by, subscribed, without}
use Rattle.sng_history.specs.Clients.{unsubscribed, received}
use Rattle.sng_history.specs.Clients.{is_turned_away, handed, note_by, notes_by}
use Rattle.sng_history.specs.Packets.{answer_of, refused_filter}
use Rattle.sng_history.specs.Outgoing.{delivered_notes}
use Rattle.sng_history.specs.Standing.{holds}
use Rattle.sng_history.specs.State.{State}
use Rattle.sng_history.specs.Verdicts.{coverage}
use Rattle.sng_history.specs.Lawful.{fixed_for, end_of, ends_under, refused_end}
use Rattle.sng_laws.specs.ViewsMessages.{Message as Spoken}
use Rattle.sng_laws.specs.ViewsClients.{phase_by, admits}
use Rattle.sng_history.proofs.Hands.{Every, OfMessages, every_append, every_delivered}
use Rattle.sng_promise.proofs.Clients.SeenNotes.{phase_notes, admitted_notes}
use Rattle.sng_promise.proofs.Clients.SeenClients.{Before, Shows, kept_of, moved_to}

-- ---- notes that move nothing of this

-- of what is shown here the two clients have the same
pub record Alike (x y : Client) : Type 0 where
  pub phase : y.phase ≡ x.phase
  pub address : y.address ≡ x.address
  pub duration : y.duration ≡ x.duration
  pub heard : y.heard ≡ x.heard

pub shows_alike : (id : List ℕ) (b : Before) (n : List Decision) (x y : Client) → Alike x y → Shows id b n x
    → Shows id b n y
shows_alike id b n x y same shows = rw (same.phase, same.address, same.duration, same.heard) shows

pub alike_self : (x : Client) → Alike x x
alike_self x = record { phase = refl; address = refl; duration = refl; heard = refl }

pub alike_on : (x y z : Client) → Alike x y → Alike y z → Alike x z
alike_on x y z one two = record {
  phase = two.phase ∙ one.phase;
  address = two.address ∙ one.address;
  duration = two.duration ∙ one.duration;
  heard = two.heard ∙ one.heard;
}

pub alike_received : (number : Option ℕ) (o : Outcome) (x : Client) → Alike x (received number o x)
alike_received None o x = alike_self x
alike_received (Some number) Allowed x = record { phase = refl; address = refl; duration = refl; heard = refl }
alike_received (Some number) (Denied rule) x = alike_self x

pub alike_subscribed : (r : Option TopicRequest) (filter : Option (List ℕ)) (o : Outcome) (x : Client)
    → Alike x (subscribed r filter o x)
alike_subscribed None filter o x = alike_self x
alike_subscribed (Some r) None o x = alike_self x
alike_subscribed (Some r) (Some filter) Allowed x =
    record { phase = refl; address = refl; duration = refl; heard = refl }
alike_subscribed (Some r) (Some filter) (Denied rule) x = alike_self x

pub alike_unsubscribed : (filter : Option (List ℕ)) (o : Outcome) (x : Client)
    → Alike x (unsubscribed filter o x)
alike_unsubscribed None o x = alike_self x
alike_unsubscribed (Some filter) Allowed x =
    record { phase = refl; address = refl; duration = refl; heard = refl }
alike_unsubscribed (Some filter) (Denied rule) x = alike_self x

pub alike_if : (b : Bool) (x y z : Client) → Alike x y → Alike x z → Alike x (if b then y else z)
alike_if true x y z one two = one
alike_if false x y z one two = two

-- notes move nothing of this
pub record Ends (id : List ℕ) (a : Around) (x : Client) (n : List Decision) : Type 0 where
  pub phase : (m : Option Spoken) (before : Option ClientState) → phase_notes m id n before ≡ before
  pub admits : admitted_notes id n ≡ false
  pub alike : Alike x (notes_by a n x)

pub ends_none : (id : List ℕ) (a : Around) (x : Client) → Ends id a x []
ends_none id a x = record { phase = λ m before. refl; admits = refl; alike = alike_self x }

-- a note that shows nothing of this and moves nothing of it
pub record Unseen (a : Around) (said : Decision) : Type 0 where
  pub phase : (m : Option Spoken) (id : List ℕ) (before : Option ClientState)
      → phase_by m id said before ≡ before
  pub admits : (id : List ℕ) → admits id said ≡ false
  pub alike : (x : Client) → Alike x (note_by a said x)

pub ends_each : (id : List ℕ) (a : Around) (n : List Decision) (x : Client) → Every (Unseen a) n
    → Ends id a x n
ends_each id a [] x every = ends_none id a x
ends_each id a (said ∷ n) x every =
    let rest = ends_each id a n (note_by a said x) every.1 in
    record {
      phase = λ m before. ap (phase_notes m id n) (every.0.phase m id before) ∙ rest.phase m before;
      admits = rw (every.0.admits id) rest.admits;
      alike = alike_on x (note_by a said x) (notes_by a n (note_by a said x)) (every.0.alike x) rest.alike;
    }

-- messages for a client are announced and handed over, turned away or gone
alike_handed : (a : Around) (name : List ℕ) (o : Outcome) (x : Client) → Alike x (handed a name o x)
alike_handed a name Allowed x = record { phase = refl; address = refl; duration = refl; heard = refl }
alike_handed a name (Denied rule) x =
    let y : Client = record x { buffer = settle x.buffer } in
    alike_if (is_turned_away rule) x x y (alike_self x)
    (record { phase = refl; address = refl; duration = refl; heard = refl })

pub unseen_messages : (a : Around) (client : List ℕ) → OfMessages (Unseen a) client
unseen_messages a client = record {
  announces = λ name. record {
    phase = λ m id before. refl;
    admits = λ id. refl;
    alike = λ x. record { phase = refl; address = refl; duration = refl; heard = refl };
  };
  hands =
      λ name o. record {
        phase = λ m id before. refl;
        admits = λ id. refl;
        alike = λ x. alike_handed a name o x;
      };
}

-- ---- its subscriptions end

end_first : (id own text : List ℕ) (a : Around) (x : Client) (o : Outcome) (n : List Decision)
    → ((y : Client) → Ends id a y n)
    → Ends id a x (end_of own text o ++ n)
end_first id own text a x Allowed n rest = rest x
end_first id own text a x (Denied rule) n rest =
    let more = rest (without text x) in
    record {
      phase = more.phase;
      admits = more.admits;
      alike = alike_on x (without text x) (notes_by a n (without text x))
          (record { phase = refl; address = refl; duration = refl; heard = refl }) more.alike;
    }

pub ends_all : (id own : List ℕ) (a : Around) (policy : Policy) (held : List Held) (x : Client)
    → Ends id a x (ends_under policy own held)
ends_all id own a policy [] x = ends_none id a x
ends_all id own a policy (h ∷ held) x =
    end_first id own h.filter a x (coverage policy own h.filter) (ends_under policy own held)
    (λ y. ends_all id own a policy held y)

pub ends_show : (x : Client) (m : Option Spoken) (a : Around) (clock : ℕ) (n : List Decision)
    → Ends x.id a x n
    → Shows x.id (kept_of x m None None clock false) n (notes_by a n x)
ends_show x m a clock n ends =
    shows_alike x.id (kept_of x m None None clock false) n x (notes_by a n x) ends.alike
    (rw (ends.phase m (Some x.phase), ends.admits) (refl, refl, refl, refl))

-- a packet of the broker ends a subscription that it refuses, and a message of it comes to the client
refused_unseen : (a : Around) (x : Client) (text : Option (List ℕ)) → Every (Unseen a) (refused_end x text)
refused_unseen a x None = tt
refused_unseen a x (Some text) = by_held (holds text x)
  where
    by_held : (b : Bool)
        → Every (Unseen a) (if b then note.End x.id text (Denied (Peer BrokerRefused)) ∷ [] else [])
    by_held true = (
      record {
        phase = λ m id before. refl;
        admits = λ id. refl;
        alike = λ y. record { phase = refl; address = refl; duration = refl; heard = refl };
      },
      tt,
    )
    by_held false = tt

pub packet_shows : (s : State) (x : Client) (m : Option Spoken) (p : Packet)
    → let c = ByPacket p in
    Shows x.id (kept_of x m None None s.clock false) (fixed_for s c x) (moved_to s c x)
packet_shows s x m p =
    let c = ByPacket p in
    let a : Around = record { policy = s.policy; clock = s.clock; cause = c } in
    let due = message_due (answer_of p) x in
    let y = delivered_by c x in
    let one = refused_end x (refused_filter s.link (answer_of p)) in
    let two = delivered_notes s.policy due x in
    let ends = ends_each x.id a (one ++ two) y
    (every_append (Unseen a) one two (refused_unseen a x (refused_filter s.link (answer_of p)))
    (every_delivered (Unseen a) s.policy due x (unseen_messages a x.id))) in
    shows_alike x.id (kept_of x m None None s.clock false) (one ++ two) x (notes_by a (one ++ two) y)
    (alike_on x y (notes_by a (one ++ two) y)
    (record { phase = refl; address = refl; duration = refl; heard = refl }) ends.alike)
    (rw (ends.phase m (Some x.phase), ends.admits) (refl, refl, refl, refl))
