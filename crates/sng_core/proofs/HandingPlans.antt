-- What one message after another lets out as it is handed over, and what its client comes to.
use Rattle.std.proofs.Common.{◌≡◌, ℕ, suc, Bool, true, false, List, [], ◌∷◌, ◌++◌, length, refl}
use Rattle.std.proofs.Common.{ap, sym, ◌∙◌, subst}
use Rattle.std.specs.Prelude.{if◌then◌else◌, ◌==◌, is_some, Option, Some, None}
use Rattle.std.specs.Option.{option_map}
use Rattle.sng_text.specs.declared.qos.Qos.{Qos}
use Rattle.sng_text.specs.declared.qos.Qos.TheVariants.{AtMostOnce, AtLeastOnce}
use Rattle.sng_grants.specs.declared.policy.Policy.{Policy}
use Rattle.sng_policy.specs.Grants.{topic_id}
use Rattle.sng_ids.specs.Ids.{Ids, id_of, is_full_for}
use Rattle.sng_queue.specs.declared.kind.TopicIdKind.TheVariants as kind
use Rattle.sng_queue.specs.Messages.{Message}
use Rattle.sng_queue.specs.Buffers.{settle}
use Rattle.sng_book.specs.declared.decision.Decision.TheVariants as note
use Rattle.sng_book.specs.declared.outcome.Denial.TheVariants.{Room}
use Rattle.sng_book.specs.declared.outcome.RoomDenial.TheVariants.{Full}
use Rattle.sng_book.specs.declared.outcome.Place.TheVariants as place
use Rattle.sng_book.specs.declared.outcome.Outcome.{Outcome}
use Rattle.sng_book.specs.declared.outcome.Outcome.TheVariants.{Allowed, Denied}
use Rattle.sng_book.specs.declared.out.Out.{Out}
use Rattle.sng_book.specs.declared.out.Out.TheVariants.{Note}
use Rattle.sng_history.specs.Handing.{Known, known_by, given_id, known_as, number_by, number_handed}
use Rattle.sng_history.specs.Handing.{buffer_by, buffer_handed, handed_out, handed_outs}
use Rattle.sng_history.specs.Clients.{Around, Client, notes_by}
use Rattle.sng_history.specs.Standing.{Release}
use Rattle.sng_history.specs.Outgoing.{receive, behind, offered, judged_turn, turns}
use Rattle.sng_history.specs.Whole.{spell}
use Rattle.sng_sessions.specs.Handed.{handed_by}
use Rattle.sng_sessions.specs.declared.handing.Opens.{Opens}
use Rattle.sng_sessions.specs.declared.handing.Opens.TheVariants.{Nothing, Announcing, Awaiting}
use Rattle.sng_sessions.specs.declared.handing.Handed.{Handed}
use Rattle.sng_turns.specs.declared.known.KnownId.{KnownId}
use Rattle.sng_turns.specs.HandingOver.{known_of, predefined, fixed_id, normal, known_id, offer_outs}
use Rattle.sng_turns.specs.HandingOver.{turn_outs, awaiting, offer_opens, turn_opens}
use Rattle.sng_turns.specs.HandingOver.{message_opens, is_open, hand_outs, hand_plan}
use Rattle.sng_history.proofs.Turns.{denied_settles}

-- the client, where these wait and no exchange is open
abbrev pub waits : Client → List Message → Client
waits x waiting = record x { buffer = record { waiting = waiting; exchange = None } }

-- nothing more is let out, or settled, behind an exchange that begins
abbrev until : Opens → List Out → List Out
until o outs = if is_open o then [] else outs

abbrev pub hand_by : ℕ → Opens → Handed → Handed
hand_by at o behind = if is_open o then record { settled = at; opens = o } else behind

-- ---- by which topic id

normal_same : (told : Option ℕ) → option_map known_of (normal told) ≡ option_map (known_by kind.Normal) told
normal_same None = refl
normal_same (Some id) = refl

given_same : (fixed : Option ℕ) (ids : Ids) (name : List ℕ)
    → option_map known_of (known_id (predefined fixed) ids name) ≡ given_id fixed (id_of name ids)
given_same None ids name = normal_same (id_of name ids)
given_same (Some id) ids name = refl

short_same : (policy : Policy) (ids : Ids) (name : List ℕ) (short : Bool) → (length name == 2) ≡ short
    → option_map known_of (known_id (fixed_id policy name) ids name) ≡ known_as policy ids name
short_same policy ids name true is = rw is refl
short_same policy ids name false is = rw is (given_same (topic_id policy name) ids name)

-- code knows a name by the id of the definitions
known_same : (policy : Policy) (ids : Ids) (name : List ℕ)
    → option_map known_of (known_id (fixed_id policy name) ids name) ≡ known_as policy ids name
known_same policy ids name = short_same policy ids name (length name == 2) refl

-- ---- what the policy forbids is settled

-- the client once the front left under this id
abbrev leaves : Around → Message → List Message → Client → Option Known → Client
leaves a m more x known = record x {
  number = number_handed x.number (Some m);
  buffer = buffer_handed (waits x (m ∷ more)).buffer (Some m) known x.number a.clock;
}

-- ---- what is let out

-- what holds of the rest
abbrev Spelled : Around → List Release → List ℕ → List Message → Type 0
Spelled a dropped client more =
    (x : Client) → hand_outs a.policy client x.address x.ids 0 x.number more
    ≡ spell a dropped (waits x more) (turns a.policy client x.ids more)

behind_spelled : (a : Around) (dropped : List Release) (client : List ℕ) (m : Message) (more : List Message)
    (x : Client) (q : Qos) (k : KnownId) → Spelled a dropped client more
    → until (awaiting q k) (hand_outs a.policy client x.address x.ids 0 x.number more)
    ≡ spell a dropped (let y : Client =
    record x {
      number = number_by q x.number;
      buffer = buffer_by q (waits x (m ∷ more)).buffer (known_of k) x.number a.clock;
    } in y)
    (behind q (turns a.policy client x.ids more))
behind_spelled a dropped client m more x AtMostOnce k rest = rest x
behind_spelled a dropped client m more x AtLeastOnce k rest = refl

offered_spelled : (a : Around) (dropped : List Release) (client : List ℕ) (m : Message) (more : List Message)
    (x : Client) (k : Option KnownId) (full : Bool)
    → known_as a.policy x.ids m.name ≡ option_map known_of k → is_full_for m.name x.ids ≡ full
    → Spelled a dropped client more
    → offer_outs client x.address x.ids x.number m k
    ++ until (offer_opens x.ids m k) (hand_outs a.policy client x.address x.ids 0 x.number more)
    ≡ spell a dropped (waits x (m ∷ more))
    (offered client m (is_some (option_map known_of k)) full (turns a.policy client x.ids more))
offered_spelled a dropped client m more x (Some k) full is fits rest =
    let first : Out = Note (note.Hand client m.name Allowed) in
    let outs = hand_outs a.policy client x.address x.ids 0 x.number more in
    subst (λ known. first ∷ handed_out x.address x.number m (known_of k) ∷ until (awaiting m.qos k) outs
    ≡ first ∷ (handed_outs x.address x.number (Some m) known
    ++ spell a dropped (leaves a m more x known) (behind m.qos (turns a.policy client x.ids more))))
    (sym is) (ap (λ outs. first ∷ handed_out x.address x.number m (known_of k) ∷ outs)
    (behind_spelled a dropped client m more x m.qos k rest))
offered_spelled a dropped client m more x None true is fits rest =
    rw fits (ap (λ outs. Note (note.Hand client m.name (Denied (Room (Full place.Ids)))) ∷ outs) (rest x))
offered_spelled a dropped client m more x None false is fits rest = rw fits refl

judged_spelled : (a : Around) (dropped : List Release) (client : List ℕ) (m : Message) (more : List Message)
    (x : Client) (o : Outcome) → receive a.policy client m.name ≡ o → Spelled a dropped client more
    → (let k = known_id (fixed_id a.policy m.name) x.ids m.name in
    turn_outs client x.address x.ids x.number m o k
    ++ until (turn_opens x.ids m o k) (hand_outs a.policy client x.address x.ids 0 x.number more))
    ≡ spell a dropped (waits x (m ∷ more))
    (judged_turn a.policy client x.ids m o (turns a.policy client x.ids more))
judged_spelled a dropped client m more x Allowed is rest =
    let k = known_id (fixed_id a.policy m.name) x.ids m.name in
    let full = is_full_for m.name x.ids in
    let same = known_same a.policy x.ids m.name in
    offered_spelled a dropped client m more x k full (sym same) refl rest
    ∙ ap (λ known. spell a dropped (waits x (m ∷ more))
    (offered client m (is_some known) full (turns a.policy client x.ids more))) same
judged_spelled a dropped client m more x (Denied rule) is rest =
    ap (λ outs. Note (note.Hand client m.name (Denied rule)) ∷ outs)
    (rest x ∙ ap (λ y. spell a dropped y (turns a.policy client x.ids more))
    (sym (denied_settles a.policy client m.name rule (waits x (m ∷ more)) is)))

pub turns_spelled : (a : Around) (dropped : List Release) (client : List ℕ) (waiting : List Message)
    → Spelled a dropped client waiting
turns_spelled a dropped client [] x = refl
turns_spelled a dropped client (m ∷ more) x =
    judged_spelled a dropped client m more x (receive a.policy client m.name) refl
    (turns_spelled a dropped client more)

-- ---- what it comes to

-- one message more is settled before
abbrev pub further : Handed → Handed
further h = record h { settled = suc h.settled }

further_by : (at : ℕ) (o : Opens) (h : Handed) → hand_by (suc at) o (further h) ≡ further (hand_by at o h)
further_by at Nothing h = refl
further_by at (Announcing name) h = refl
further_by at (Awaiting kind id) h = refl

pub plan_further : (policy : Policy) (id : List ℕ) (ids : Ids) (more at : ℕ) (waiting : List Message)
    → hand_plan policy id ids more (suc at) waiting ≡ further (hand_plan policy id ids more at waiting)
plan_further policy id ids more at [] = refl
plan_further policy id ids more at (m ∷ waiting) =
    ap (hand_by (suc at) (message_opens policy id ids more m))
    (plan_further policy id ids more (suc at) waiting)
    ∙ further_by at (message_opens policy id ids more m) (hand_plan policy id ids more (suc at) waiting)

-- a message that is settled first leaves the front
pub settled_first : (clock : ℕ) (policy : Policy) (id : List ℕ) (ids : Ids) (more at : ℕ)
    (waiting : List Message) (x : Client)
    → handed_by clock (hand_plan policy id ids more (suc at) waiting) x
    ≡ handed_by clock (hand_plan policy id ids more at waiting)
    (let y : Client = record x { buffer = settle x.buffer } in y)
settled_first clock policy id ids more at waiting x =
    ap (λ h. handed_by clock h x) (plan_further policy id ids more at waiting)

abbrev Moved : Around → List ℕ → List Message → Type 0
Moved a client more =
    (x : Client) → handed_by a.clock (hand_plan a.policy client x.ids 0 0 more) (waits x more)
    ≡ notes_by a (turns a.policy client x.ids more) (waits x more)

-- behind a message that is settled at once come the others
rest_moved : (a : Around) (client : List ℕ) (m : Message) (more : List Message) (x : Client)
    → Moved a client more
    → handed_by a.clock (hand_plan a.policy client x.ids 0 1 more) (waits x (m ∷ more))
    ≡ notes_by a (turns a.policy client x.ids more) (waits x more)
rest_moved a client m more x rest =
    settled_first a.clock a.policy client x.ids 0 0 more (waits x (m ∷ more)) ∙ rest x

behind_moved : (a : Around) (client : List ℕ) (m : Message) (more : List Message) (x : Client) (q : Qos)
    (k : KnownId) → Moved a client more
    → handed_by a.clock (hand_by 0 (awaiting q k) (hand_plan a.policy client x.ids 0 1 more))
    (waits x (m ∷ more))
    ≡ notes_by a (behind q (turns a.policy client x.ids more))
    (let y : Client = record x {
      number = number_by q x.number;
      buffer = buffer_by q (waits x (m ∷ more)).buffer (known_of k) x.number a.clock;
    } in y)
behind_moved a client m more x AtMostOnce k rest = rest_moved a client m more x rest
behind_moved a client m more x AtLeastOnce k rest = refl

offered_moved : (a : Around) (client : List ℕ) (m : Message) (more : List Message) (x : Client)
    (k : Option KnownId) (full : Bool)
    → known_as a.policy x.ids m.name ≡ option_map known_of k → is_full_for m.name x.ids ≡ full
    → Moved a client more
    → handed_by a.clock (hand_by 0 (offer_opens x.ids m k) (hand_plan a.policy client x.ids 0 1 more))
    (waits x (m ∷ more))
    ≡ notes_by a (offered client m (is_some (option_map known_of k)) full (turns a.policy client x.ids more))
    (waits x (m ∷ more))
offered_moved a client m more x (Some k) full is fits rest =
    subst (λ known. handed_by a.clock
    (hand_by 0 (awaiting m.qos k) (hand_plan a.policy client x.ids 0 1 more)) (waits x (m ∷ more))
    ≡ notes_by a (behind m.qos (turns a.policy client x.ids more)) (leaves a m more x known))
    (sym is) (behind_moved a client m more x m.qos k rest)
offered_moved a client m more x None true is fits rest = rw fits (rest_moved a client m more x rest)
offered_moved a client m more x None false is fits rest =
    ap (λ full. handed_by a.clock
    (hand_by 0 (if full then Nothing else Announcing m.name) (hand_plan a.policy client x.ids 0 1 more))
    (waits x (m ∷ more))) fits
    ∙ rw fits refl

judged_moved : (a : Around) (client : List ℕ) (m : Message) (more : List Message) (x : Client) (o : Outcome)
    → receive a.policy client m.name ≡ o → Moved a client more
    → handed_by a.clock (hand_by 0 (turn_opens x.ids m o (known_id (fixed_id a.policy m.name) x.ids m.name))
    (hand_plan a.policy client x.ids 0 1 more)) (waits x (m ∷ more))
    ≡ notes_by a (judged_turn a.policy client x.ids m o (turns a.policy client x.ids more))
    (waits x (m ∷ more))
judged_moved a client m more x Allowed is rest =
    let k = known_id (fixed_id a.policy m.name) x.ids m.name in
    let full = is_full_for m.name x.ids in
    let same = known_same a.policy x.ids m.name in
    offered_moved a client m more x k full (sym same) refl rest
    ∙ ap (λ known. notes_by a (offered client m (is_some known) full (turns a.policy client x.ids more))
    (waits x (m ∷ more))) same
judged_moved a client m more x (Denied rule) is rest =
    rest_moved a client m more x rest
    ∙ ap (notes_by a (turns a.policy client x.ids more))
    (sym (denied_settles a.policy client m.name rule (waits x (m ∷ more)) is))

pub turns_moved : (a : Around) (client : List ℕ) (waiting : List Message) → Moved a client waiting
turns_moved a client [] x = refl
turns_moved a client (m ∷ more) x =
    judged_moved a client m more x (receive a.policy client m.name) refl (turns_moved a client more)
