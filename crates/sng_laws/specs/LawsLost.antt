-- What a tick of the clock lets out, in the views' words: which clients are lost, what becomes of their wills
-- and of what waits for them, what is sent again to others, and the PINGREQ to the broker (MQTT-SN 1.2,
-- 5.4.4, 6.3 and 6.13; MQTT 3.1.1, 3.1.2.10).
use Rattle.std.specs.Prelude.{ℕ, ◌+◌, ◌-◌, ◌*◌, ◌==◌, ◌≡◌, nat_lt, nat_le, Bool, true, false, ◌&&◌, ◌||◌, not}
use Rattle.std.specs.Prelude.{List, [], ◌∷◌, ◌++◌, filter, length, drop, if◌then◌else◌, Option, Some, None}
use Rattle.std.specs.Str.{bytes_eq}
use Rattle.sng_states.specs.States.{has_session}
use Rattle.sng_states.specs.declared.state.ClientState.{ClientState}
use Rattle.sng_states.specs.declared.limits.TheConstants.{SILENCE_MS_PER_SECOND}
use Rattle.sng_queue.specs.Messages.{Message}
use Rattle.sng_queue.specs.declared.kind.TopicIdKind.{TopicIdKind}
use Rattle.sng_queue.specs.declared.kind.TopicIdKind.TheVariants as kind
use Rattle.sng_queue.specs.declared.limits.TheConstants.{MAX_TRIES}
use Rattle.sng_frames.specs.Writing.{written}
use Rattle.sng_frames.specs.declared.flags.TopicIdType.{TopicIdType}
use Rattle.sng_frames.specs.declared.flags.TopicIdType.TheVariants as type
use Rattle.sng_frames.specs.declared.frame.SnFrame.TheVariants as frame
use Rattle.sng_book.specs.declared.address.Address.{Address}
use Rattle.sng_outbox.specs.declared.item.Item.{Item}
use Rattle.sng_outbox.specs.declared.item.Item.TheVariants as item
use Rattle.sng_outbox.specs.declared.item.Publication.{Publication}
use Rattle.sng_grants.specs.Limits.{flight_limit}
use Rattle.sng_book.specs.declared.decision.Decision.{Decision}
use Rattle.sng_book.specs.declared.decision.Decision.TheVariants as note
use Rattle.sng_book.specs.declared.decision.Who.TheVariants as who
use Rattle.sng_book.specs.declared.outcome.Place.TheVariants as place
use Rattle.sng_book.specs.declared.outcome.Denial.TheVariants.{Room}
use Rattle.sng_book.specs.declared.outcome.RoomDenial.TheVariants.{Full}
use Rattle.sng_book.specs.declared.outcome.Outcome.{Outcome}
use Rattle.sng_book.specs.declared.outcome.Outcome.TheVariants.{Allowed, Denied}
use Rattle.sng_book.specs.declared.event.Event.{Event}
use Rattle.sng_book.specs.declared.event.Event.TheVariants.{Tick}
use Rattle.sng_book.specs.declared.out.Out.{Out}
use Rattle.sng_book.specs.declared.out.Out.TheVariants.{Send, Wire, Note}
use Rattle.sng_book.specs.declared.row.Row.{Row}
use Rattle.sng_history.specs.declared.limits.TheConstants.{RETRY_MS}
use Rattle.sng_laws.specs.Views.{last_limits, ticks, greatest}
use Rattle.sng_laws.specs.ViewsClients.{phase_of, address_of, duration_of, heard_of, accepted, id_told}
use Rattle.sng_laws.specs.ViewsHanding.{Opening, Announced, HandedOver, is_at_least_once, is_taking}
use Rattle.sng_laws.specs.ViewsHanding.{is_idle, progress_of, waits_for}
use Rattle.sng_laws.specs.ViewsSendings.{Last, last_of}
use Rattle.sng_laws.specs.ViewsFlight.{in_flight}
use Rattle.sng_laws.specs.ViewsLink.{waiting, publications, published_for, is_ping_due, pinged}
use Rattle.sng_laws.specs.ViewsWills.{will_of}
use Rattle.sng_laws.specs.LawsRules.{Rule, judged}
use Rattle.sng_laws.specs.LawsHanding.{unset}
use Rattle.sng_laws.specs.LawsHanding.{Mailing, mailing, frame_qos, handed_awake, is_awake}
use Rattle.sng_laws.specs.LawsRules.{receive_rules}
use Rattle.sng_laws.specs.LawsHanding.{gone_answer}

-- ---- who is lost

-- a client with a session that stated a Duration other than 0, in seconds, and was silent for
-- `SILENCE_MS_PER_SECOND` for each of them, in ms
abbrev pub is_silent : Option ClientState → Option ℕ → Option ℕ → ℕ → Bool
is_silent (Some phase) (Some duration) (Some heard) clock =
    has_session phase && (not (duration == 0) && nat_le (duration * SILENCE_MS_PER_SECOND) (clock - heard))
is_silent None duration heard clock = false
is_silent (Some phase) None heard clock = false
is_silent (Some phase) (Some duration) None clock = false

-- something is open with a client that takes messages, and was sent last `RETRY_MS` ago or more
abbrev pub is_unanswered : List Row → ℕ → List ℕ → Bool
is_unanswered h clock id =
    is_taking (phase_of id h) && (not (is_idle (progress_of id h).unanswered)
    && nat_le RETRY_MS (clock - (last_of id h).at))

-- and it was sent again `MAX_TRIES` times
abbrev pub is_given_up : List Row → ℕ → List ℕ → Bool
is_given_up h clock id = is_unanswered h clock id && nat_le MAX_TRIES (last_of id h).tries

abbrev pub is_due_to_be_lost : List Row → ℕ → List ℕ → Bool
is_due_to_be_lost h clock id =
    is_silent (phase_of id h) (duration_of id h) (heard_of id h) clock || is_given_up h clock id

-- ---- what is sent again

-- the REGISTER of the announced name and the PUBLISH of the message, with the ids of the first sending and
-- the PUBLISH with DUP (5.3.1 and 6.13)
abbrev pub register_again : Mailing → List ℕ → Out
register_again c name =
    Send c.address (written (frame.Register
    (record { topic_id = id_told name c.told; msg_id = c.number; name = name })))

abbrev pub type_of : TopicIdKind → TopicIdType
type_of kind.Normal = type.Normal
type_of kind.Predefined = type.Predefined
type_of kind.Short = type.Short

abbrev pub publish_again : Mailing → Last → Message → Out
publish_again c last m =
    Send c.address (written (frame.Publish (record {
      flags =
          record unset { dup = true; qos = frame_qos m.qos; retain = m.retain; id_type = type_of last.kind };
      topic_id = last.topic_id;
      msg_id = c.number;
      payload = m.payload;
    })))

-- what is open is judged by the policy in force. Allowed, it is sent again; denied, it is open no more, with
-- which an announced message is settled, and what may leave then leaves
abbrev pub announced_again : Bool → Mailing → List ℕ → List Message → Outcome → List Out
announced_again awake c name waits Allowed = Note (note.Retry c.id name Allowed) ∷ register_again c name ∷ []
announced_again awake c name waits (Denied rule) =
    Note (note.Hand c.id name (Denied rule)) ∷ handed_awake awake c (drop 1 waits)

abbrev pub handed_again : Bool → Mailing → Last → Message → List Message → Outcome → List Out
handed_again awake c last m waits Allowed =
    Note (note.Retry c.id m.name Allowed) ∷ publish_again c last m ∷ []
handed_again awake c last m waits (Denied rule) =
    Note (note.Retry c.id m.name (Denied rule)) ∷ handed_awake awake c waits

abbrev pub opening_again : Bool → Mailing → Last → List Message → Option Opening → List Out
opening_again awake c last waits None = []
opening_again awake c last waits (Some (Announced name)) =
    announced_again awake c name waits (judged (receive_rules c.policy c.id name))
opening_again awake c last waits (Some (HandedOver m)) =
    handed_again awake c last m waits (judged (receive_rules c.policy c.id m.name))

abbrev pub again_at : List Row → List ℕ → Option Address → List Out
again_at h id None = []
again_at h id (Some place) =
    opening_again (is_awake (phase_of id h)) (mailing h id place) (last_of id h) (waits_for id h)
    (progress_of id h).unanswered

abbrev pub again_answer : List Row → ℕ → List ℕ → List Out
again_answer h clock id = if is_unanswered h clock id then again_at h id (address_of id h) else []

-- ---- its will

-- what denies it a place where these items wait: at QoS 1, as many publishes of QoS 1 that wait or are in flight
-- as the policy in force allows, and as many items that wait
abbrev pub place_rules : List Row → List Item → Publication → List Rule
place_rules h items p = (
  is_at_least_once p.qos
      && not (nat_lt (length (filter (λ one. is_at_least_once one.qos) (publications items))
      + length (in_flight h)) (flight_limit (last_limits h))),
  Room (Full place.InFlight),
)
    ∷ (not (nat_lt (length items) (last_limits h).waiting), Room (Full place.Outbox))
    ∷ []

-- it waits, or it is noted that it found no place
abbrev pub placed_by : Publication → Outcome → List Item
placed_by p Allowed = item.Publish p ∷ []
placed_by p (Denied rule) = []

abbrev pub refused_by : List ℕ → Publication → Outcome → List Out
refused_by id p Allowed = []
refused_by id p (Denied rule) = Note (note.Will (who.Client id) (Some p.name) (Denied rule)) ∷ []

abbrev pub will_placed : List Row → List Item → List Publication → List Item
will_placed h items [] = []
will_placed h items (p ∷ ps) = placed_by p (judged (place_rules h items p))

abbrev pub will_refused : List Row → List Item → List ℕ → List Publication → List Out
will_refused h items id [] = []
will_refused h items id (p ∷ ps) = refused_by id p (judged (place_rules h items p))

-- ---- the row

-- the PINGREQ that is due and finds no place is noted last
abbrev pub ping_noted : List Row → ℕ → List Item → List Out
ping_noted h clock items =
    if is_ping_due (Tick clock) h (pinged h) && not (nat_lt (length items) (last_limits h).waiting)
    then Note note.Outbox ∷ [] else []

-- in the order of first acceptance, each client that is lost: so, what waited for it is gone, and where its
-- will finds no place behind these items that is noted; a will that finds one waits behind them. With any
-- other what was not answered in time is sent again. The first number is the clock that came, and the second
-- the greatest so far
abbrev pub tick_parts : List Row → ℕ → ℕ → List Item → List (List ℕ) → List Out
tick_parts h came clock items [] = ping_noted h came items
tick_parts h came clock items (id ∷ ids) =
    if is_due_to_be_lost h clock id
    then Note (note.Lost id)
    ∷ (gone_answer h id
    ++ (will_refused h items id (published_for id (will_of id h))
    ++ tick_parts h came clock (items ++ will_placed h items (published_for id (will_of id h))) ids))
    else again_answer h clock id ++ tick_parts h came clock items ids

abbrev pub tick_answer : List Row → ℕ → List Out
tick_answer h came = tick_parts h came (greatest (came ∷ ticks h)) (waiting h) (accepted h)

-- ---- nobody else is lost

abbrev pub says_lost : List ℕ → Decision → Bool
says_lost id (note.Lost client) = bytes_eq id client
says_lost id other = false

-- the row notes that the client is lost
abbrev pub is_lost_in : List ℕ → List Out → Bool
is_lost_in id [] = false
is_lost_in id (Note said ∷ outs) = says_lost id said || is_lost_in id outs
is_lost_in id (Send to datagram ∷ outs) = is_lost_in id outs
is_lost_in id (Wire packet ∷ outs) = is_lost_in id outs

-- with this event the client is lost: as the clock moves, where it was silent for too long or answered no try
abbrev pub is_losing : Event → List Row → List ℕ → Bool
is_losing (Tick clock) earlier id = is_due_to_be_lost earlier (greatest (clock ∷ ticks earlier)) id
is_losing other earlier id = false

abbrev pub LostExactly : List ℕ → List Row → Type 0
LostExactly id [] = Unit {0}
LostExactly id (row ∷ earlier) =
    LostExactly id earlier × (is_lost_in id row.outs ≡ is_losing row.event earlier id)
