-- The notes of messages for a client: that an id is announced, and that one is handed over, turned away or
-- gone. What holds of each of these holds of all that come as what waits is handed over.
use Rattle.std.proofs.Common.{◌≡◌, ℕ, Bool, true, false, List, [], ◌∷◌, ◌++◌, refl, ap, sym, ◌∙◌}
use Rattle.std.specs.Prelude.{◌==◌, if◌then◌else◌, is_some, Option, Some, None}
use Rattle.sng_text.specs.declared.qos.Qos.{Qos}
use Rattle.sng_text.specs.declared.qos.Qos.TheVariants.{AtMostOnce, AtLeastOnce}
use Rattle.sng_grants.specs.declared.policy.Policy.{Policy}
use Rattle.sng_ids.specs.Ids.{Ids, is_full_for}
use Rattle.sng_queue.specs.Messages.{Message}
use Rattle.sng_queue.specs.Buffers.{Buffer, nothing, settle}
use Rattle.sng_frames.specs.declared.messages.acks.TopicAck.{TopicAck}
use Rattle.sng_book.specs.declared.decision.Decision.{Decision}
use Rattle.sng_book.specs.declared.decision.Decision.TheVariants as note
use Rattle.sng_book.specs.declared.outcome.Place.TheVariants as place
use Rattle.sng_book.specs.declared.outcome.Denial.TheVariants.{Room, Peer}
use Rattle.sng_book.specs.declared.outcome.RoomDenial.TheVariants.{Full}
use Rattle.sng_book.specs.declared.outcome.PeerDenial.TheVariants.{ClientRefused, Gone}
use Rattle.sng_book.specs.declared.outcome.Outcome.{Outcome}
use Rattle.sng_book.specs.declared.outcome.Outcome.TheVariants.{Allowed, Denied}
use Rattle.sng_history.specs.Arriving.{arrival, joins, turned_away_by, turned_away}
use Rattle.sng_history.specs.Handing.{known_as}
use Rattle.sng_history.specs.Clients.{Client, Around, confirmed_with, is_waking, awake, note_by, notes_by}
use Rattle.sng_history.specs.Entering.{served}
use Rattle.sng_history.specs.Outgoing.{receive, behind, offered, judged_turn, turns, is_free, handed_over}
use Rattle.sng_history.specs.Outgoing.{all_gone, refusals, delivered_notes}
use Rattle.sng_history.specs.Lawful.{confirmations, woken_notes}
use Rattle.sng_history.proofs.Steady.{Steady, steady_self, steady_then, confirmed_id, announced_steady}
use Rattle.sng_history.proofs.Steady.{handed_steady}

-- something holds of each of the notes
abbrev pub Every : (Decision → Type 0) → List Decision → Type 0
Every P [] = Unit {0}
Every P (said ∷ notes) = P said × Every P notes

pub every_append : (P : Decision → Type 0) (xs ys : List Decision) → Every P xs → Every P ys
    → Every P (xs ++ ys)
every_append P [] ys one two = two
every_append P (said ∷ xs) ys one two = (one.0, every_append P xs ys one.1 two)

pub every_if : (P : Decision → Type 0) (b : Bool) (notes : List Decision) → Every P notes
    → Every P (if b then notes else [])
every_if P true notes every = every
every_if P false notes every = tt

-- it holds of each note of messages for the client
pub record OfMessages (P : Decision → Type 0) (client : List ℕ) : Type 0 where
  pub announces : (name : List ℕ) → P (note.Announce client name)
  pub hands : (name : List ℕ) (outcome : Outcome) → P (note.Hand client name outcome)

every_behind : (P : Decision → Type 0) (q : Qos) (more : List Decision) → Every P more
    → Every P (behind q more)
every_behind P AtMostOnce more every = every
every_behind P AtLeastOnce more every = tt

every_offered : (P : Decision → Type 0) (client : List ℕ) (m : Message) (known full : Bool)
    (more : List Decision) → OfMessages P client → Every P more → Every P (offered client m known full more)
every_offered P client m true full more of every = (of.hands m.name Allowed, every_behind P m.qos more every)
every_offered P client m false true more of every = (of.hands m.name (Denied (Room (Full place.Ids))), every)
every_offered P client m false false more of every = (of.announces m.name, tt)

every_judged : (P : Decision → Type 0) (policy : Policy) (client : List ℕ) (ids : Ids) (m : Message)
    (o : Outcome) (more : List Decision) → OfMessages P client → Every P more
    → Every P (judged_turn policy client ids m o more)
every_judged P policy client ids m Allowed more of every =
    every_offered P client m (is_some (known_as policy ids m.name)) (is_full_for m.name ids) more of every
every_judged P policy client ids m (Denied rule) more of every = (of.hands m.name (Denied rule), every)

pub every_turn : (P : Decision → Type 0) (policy : Policy) (client : List ℕ) (ids : Ids)
    (waiting : List Message) → OfMessages P client → Every P (turns policy client ids waiting)
every_turn P policy client ids [] of = tt
every_turn P policy client ids (m ∷ more) of =
    every_judged P policy client ids m (receive policy client m.name) (turns policy client ids more) of
    (every_turn P policy client ids more of)

pub every_handed : (P : Decision → Type 0) (policy : Policy) (x : Client) → OfMessages P x.id
    → Every P (handed_over policy x)
every_handed P policy x of =
    every_if P (is_free x) (turns policy x.id x.ids x.buffer.waiting)
    (every_turn P policy x.id x.ids x.buffer.waiting of)

pub every_woken : (P : Decision → Type 0) (policy : Policy) (client : Option (List ℕ)) (x : Client)
    → OfMessages P x.id
    → Every P (woken_notes policy client x)
every_woken P policy client x of =
    every_if P (is_waking client x) (handed_over policy (awake x)) (every_handed P policy (awake x) of)

pub every_gone : (P : Decision → Type 0) (client : List ℕ) (waiting : List Message) → OfMessages P client
    → Every P (all_gone client waiting)
every_gone P client [] of = tt
every_gone P client (m ∷ more) of = (of.hands m.name (Denied (Peer Gone)), every_gone P client more of)

every_refusal : (P : Decision → Type 0) (client : List ℕ) (code : ℕ) (waiting : List Message)
    → OfMessages P client → Every P (refusals client code waiting)
every_refusal P client code [] of = tt
every_refusal P client code (m ∷ more) of = (of.hands m.name (Denied (Peer (ClientRefused code))), tt)

every_turned : (P : Decision → Type 0) (client name : List ℕ) (o : Outcome) → OfMessages P client
    → Every P (turned_away_by client name o)
every_turned P client name Allowed of = tt
every_turned P client name (Denied rule) of = (of.hands name (Denied rule), tt)

every_away : (P : Decision → Type 0) (client : List ℕ) (due : Option Message) (b : Buffer)
    → OfMessages P client → Every P (turned_away client due b)
every_away P client None b of = tt
every_away P client (Some m) b of = every_turned P client m.name (arrival b m) of

pub every_delivered : (P : Decision → Type 0) (policy : Policy) (due : Option Message) (x : Client)
    → OfMessages P x.id → Every P (delivered_notes policy due x)
every_delivered P policy due x of =
    let y : Client = record x { buffer = joins due x.buffer } in
    every_append P (turned_away x.id due x.buffer) (handed_over policy y) (every_away P x.id due x.buffer of)
    (every_handed P policy y of)

every_confirmed : (P : Decision → Type 0) (policy : Policy) (r : TopicAck) (x : Client) (accepted : Bool)
    → OfMessages P x.id
    → Every P (if accepted then handed_over policy (confirmed_with r x)
    else refusals x.id r.code.0 x.buffer.waiting
    ++ handed_over policy (record x { buffer = settle x.buffer }))
every_confirmed P policy r x true of = every_handed P policy (confirmed_with r x) (rw (confirmed_id r x) of)
every_confirmed P policy r x false of =
    let y : Client = record x { buffer = settle x.buffer } in
    every_append P (refusals x.id r.code.0 x.buffer.waiting) (handed_over policy y)
    (every_refusal P x.id r.code.0 x.buffer.waiting of) (every_handed P policy y of)

pub every_confirmation : (P : Decision → Type 0) (policy : Policy) (r : TopicAck) (x : Client)
    → OfMessages P x.id → Every P (confirmations policy r x)
every_confirmation P policy r x of = every_confirmed P policy r x (r.code.0 == 0) of

-- ---- what they leave of a client

-- the note leaves who the client is, where and how it stands, and what stands for it
abbrev pub Calm : Around → Decision → Type 0
Calm a said = (x : Client) → Steady x (note_by a said x)

pub messages_calm : (a : Around) (client : List ℕ) → OfMessages (Calm a) client
messages_calm a client =
    record {
      announces = λ name x. announced_steady a.clock name x;
      hands = λ name outcome x. handed_steady a name outcome x;
    }

pub notes_calm : (a : Around) (notes : List Decision) (x : Client) → Every (Calm a) notes
    → Steady x (notes_by a notes x)
notes_calm a [] x every = steady_self x
notes_calm a (said ∷ notes) x every =
    steady_then x (note_by a said x) (notes_by a notes (note_by a said x)) (every.0 x)
    (notes_calm a notes (note_by a said x) every.1)

pub served_steady : (a : Around) (x : Client) → Steady x (served a x)
served_steady a x =
    notes_calm a (handed_over a.policy x) x (every_handed (Calm a) a.policy x (messages_calm a x.id))

-- what nothing waits for is gone already
pub gone_stays : (a : Around) (client : List ℕ) (waiting : List Message) (x : Client) → x.buffer ≡ nothing
    → notes_by a (all_gone client waiting) x ≡ x
gone_stays a client [] x none = refl
gone_stays a client (m ∷ more) x none =
    let y : Client = record x { buffer = settle x.buffer } in
    let empty : settle x.buffer ≡ nothing = ap settle none in
    gone_stays a client more y empty
    ∙ ap (λ b. let z : Client = record x { buffer = b } in z) (empty ∙ sym none)
