-- What a hand-over to one client lets out and comes to, message by message, with no notes.
use Rattle.std.specs.Prelude.{ℕ, suc, ◌==◌, Bool, true, false, List, [], ◌∷◌, ◌++◌, length, if◌then◌else◌}
use Rattle.std.specs.Prelude.{Option, Some, None}
use Rattle.sng_text.specs.declared.qos.Qos.{Qos}
use Rattle.sng_text.specs.declared.qos.Qos.TheVariants.{AtMostOnce, AtLeastOnce}
use Rattle.sng_grants.specs.declared.policy.Policy.{Policy}
use Rattle.sng_policy.specs.Grants.{topic_id}
use Rattle.sng_ids.specs.Ids.{Ids, id_of, is_full_for, confirmed}
use Rattle.sng_queue.specs.Messages.{Message, message}
use Rattle.sng_queue.specs.declared.kind.TopicIdKind.TheVariants as kind
use Rattle.sng_book.specs.declared.address.Address.{Address}
use Rattle.sng_book.specs.declared.decision.Decision.TheVariants as note
use Rattle.sng_book.specs.declared.outcome.Place.TheVariants as place
use Rattle.sng_book.specs.declared.outcome.Denial.TheVariants.{Room, Peer}
use Rattle.sng_book.specs.declared.outcome.RoomDenial.TheVariants.{Full}
use Rattle.sng_book.specs.declared.outcome.PeerDenial.TheVariants.{Gone}
use Rattle.sng_book.specs.declared.outcome.Outcome.{Outcome}
use Rattle.sng_book.specs.declared.outcome.Outcome.TheVariants.{Allowed, Denied}
use Rattle.sng_book.specs.declared.out.Out.{Out}
use Rattle.sng_book.specs.declared.out.Out.TheVariants.{Note}
use Rattle.sng_history.specs.Requests.{id_in}
use Rattle.sng_history.specs.Handing.{Known, handed_out, announced_out}
use Rattle.sng_history.specs.Outgoing.{receive}
use Rattle.sng_sessions.specs.declared.handing.Opens.{Opens}
use Rattle.sng_sessions.specs.declared.handing.Opens.TheVariants.{Nothing, Announcing, Awaiting}
use Rattle.sng_sessions.specs.declared.handing.Handed.{Handed}
use Rattle.sng_turns.specs.declared.known.KnownId.{KnownId}
use Rattle.sng_turns.specs.declared.turn.Mail.{Mail}

-- ---- by which topic id

abbrev pub known_of : KnownId → Known
known_of k = record { kind = k.kind; id = k.id }

abbrev pub predefined : Option ℕ → Option KnownId
predefined None = None
predefined (Some id) = Some (record { kind = kind.Predefined; id = id })

-- the topic id that a name has for each client
abbrev pub fixed_id : Policy → List ℕ → Option KnownId
fixed_id policy name =
    if length name == 2 then Some (record { kind = kind.Short; id = id_in name })
    else predefined (topic_id policy name)

abbrev pub normal : Option ℕ → Option KnownId
normal None = None
normal (Some id) = Some (record { kind = kind.Normal; id = id })

-- else the one that the client was told, and knows
abbrev pub known_id : Option KnownId → Ids → List ℕ → Option KnownId
known_id (Some k) ids name = Some k
known_id None ids name = normal (id_of name ids)

-- the id that was confirmed, where 0 is none
abbrev pub id_or_none : Option ℕ → ℕ
id_or_none None = 0
id_or_none (Some id) = id

-- ---- the turn of one message

-- the message that has its turn
abbrev pub mail_of : Mail → Message
mail_of m = message m.name.now m.payload.now m.qos m.retain

abbrev pub offer_outs : List ℕ → Address → Ids → ℕ → Message → Option KnownId → List Out
offer_outs id to ids number m (Some k) =
    Note (note.Hand id m.name Allowed) ∷ handed_out to number m (known_of k) ∷ []
offer_outs id to ids number m None =
    if is_full_for m.name ids
    then Note (note.Hand id m.name (Denied (Room (Full place.Ids)))) ∷ []
    else Note (note.Announce id m.name) ∷ announced_out to number ids m.name ∷ []

-- what is let out for a message that comes out so
abbrev pub turn_outs : List ℕ → Address → Ids → ℕ → Message → Outcome → Option KnownId → List Out
turn_outs id to ids number m Allowed known = offer_outs id to ids number m known
turn_outs id to ids number m (Denied rule) known = Note (note.Hand id m.name (Denied rule)) ∷ []

abbrev pub awaiting : Qos → KnownId → Opens
awaiting AtMostOnce k = Nothing
awaiting AtLeastOnce k = Awaiting k.kind k.id

abbrev pub offer_opens : Ids → Message → Option KnownId → Opens
offer_opens ids m (Some k) = awaiting m.qos k
offer_opens ids m None = if is_full_for m.name ids then Nothing else Announcing m.name

-- and the exchange that begins by it
abbrev pub turn_opens : Ids → Message → Outcome → Option KnownId → Opens
turn_opens ids m Allowed known = offer_opens ids m known
turn_opens ids m (Denied rule) known = Nothing

-- the same by the policy, for a client that knows its ids and one more (0 is none)
abbrev pub message_outs : Policy → List ℕ → Address → Ids → ℕ → ℕ → Message → List Out
message_outs policy id to ids more number m =
    turn_outs id to ids number m (receive policy id m.name)
    (known_id (fixed_id policy m.name) (confirmed more ids) m.name)

abbrev pub message_opens : Policy → List ℕ → Ids → ℕ → Message → Opens
message_opens policy id ids more m =
    turn_opens ids m (receive policy id m.name)
    (known_id (fixed_id policy m.name) (confirmed more ids) m.name)

-- ---- a hand-over

abbrev pub is_open : Opens → Bool
is_open Nothing = false
is_open (Announcing name) = true
is_open (Awaiting kind id) = true

-- what is let out by a hand-over of what waits
abbrev pub hand_outs : Policy → List ℕ → Address → Ids → ℕ → ℕ → List Message → List Out
hand_outs policy id to ids more number [] = []
hand_outs policy id to ids more number (m ∷ waiting) =
    message_outs policy id to ids more number m
    ++ (if is_open (message_opens policy id ids more m) then []
    else hand_outs policy id to ids more number waiting)

-- and what it comes to, where the first of these messages stands at this place
abbrev pub hand_plan : Policy → List ℕ → Ids → ℕ → ℕ → List Message → Handed
hand_plan policy id ids more place [] = record { settled = place; opens = Nothing }
hand_plan policy id ids more place (m ∷ waiting) =
    if is_open (message_opens policy id ids more m)
    then record { settled = place; opens = message_opens policy id ids more m }
    else hand_plan policy id ids more (suc place) waiting

-- ---- what is gone

abbrev pub gone_outs : List ℕ → List Message → List Out
gone_outs id [] = []
gone_outs id (m ∷ waiting) = Note (note.Hand id m.name (Denied (Peer Gone))) ∷ gone_outs id waiting
