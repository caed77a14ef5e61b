-- What the rows show of subscriptions: which filters stand for a client, at which QoS, and whether a filter
-- stands for anybody.
use Rattle.std.specs.Prelude.{ℕ, Bool, false, ◌&&◌, List, [], ◌∷◌, ◌++◌}
use Rattle.std.specs.Prelude.{if◌then◌else◌, Option, Some, None}
use Rattle.std.specs.List.{list_any}
use Rattle.std.specs.Str.{bytes_eq}
use Rattle.sng_text.specs.declared.qos.Qos.{Qos}
use Rattle.sng_text.specs.declared.qos.Qos.TheVariants.{AtMostOnce, AtLeastOnce}
use Rattle.sng_fan.specs.Subscriptions.{stands, with_filter, without_filter}
use Rattle.sng_fan.specs.declared.held.Held.{Held}
use Rattle.sng_frames.specs.declared.messages.subscribe.TopicRequest.{TopicRequest}
use Rattle.sng_frames.specs.declared.qos.FrameQos.{FrameQos}
use Rattle.sng_frames.specs.declared.qos.FrameQos.TheVariants as qos
use Rattle.sng_book.specs.Denials.{is_allowed}
use Rattle.sng_book.specs.declared.decision.Decision.{Decision}
use Rattle.sng_book.specs.declared.decision.Decision.TheVariants as note
use Rattle.sng_book.specs.declared.out.Out.{Out}
use Rattle.sng_book.specs.declared.out.Out.TheVariants.{Send, Wire, Note}
use Rattle.sng_book.specs.declared.row.Row.{Row}
use Rattle.sng_history.specs.Links.{Wanted}
use Rattle.sng_laws.specs.ViewsMessages.{Message, Connects}
use Rattle.sng_laws.specs.ViewsMessages.{message_at}
use Rattle.sng_laws.specs.ViewsMessages.{subscribe_in}
use Rattle.sng_laws.specs.ViewsClients.{speaks_of, accepted}

-- ---- the filters that stand for a client

-- the message is a CONNECT with CleanSession
abbrev pub is_clean : Option Message → Bool
is_clean (Some (Connects connect)) = connect.flags.clean
is_clean other = false

-- messages go to a client at QoS 0 or 1
abbrev pub qos_downstream : FrameQos → Qos
qos_downstream qos.AtMostOnce = AtMostOnce
qos_downstream qos.AtLeastOnce = AtLeastOnce
qos_downstream qos.ExactlyOnce = AtLeastOnce
qos_downstream qos.WithoutSession = AtMostOnce

-- the filter of the note stands at the QoS that the SUBSCRIBE asks for: in its place where it stood, else
-- behind all others
abbrev pub joined_by : Option TopicRequest → Option (List ℕ) → List Held → List Held
joined_by None text before = before
joined_by (Some r) None before = before
joined_by (Some r) (Some text) before = with_filter before text (qos_downstream r.flags.qos)

-- the filter of the note stands no more
abbrev pub left_by : Option (List ℕ) → List Held → List Held
left_by None before = before
left_by (Some text) before = without_filter before text

-- a SUBSCRIBE that is allowed lets its filter stand; an UNSUBSCRIBE that is allowed ends it, an `end` note
-- does, and a clean CONNECT that is accepted ends all
abbrev pub standing_by : Option Message → List ℕ → Decision → List Held → List Held
standing_by m id (note.Connect client outcome) before =
    if bytes_eq id client && (is_allowed outcome && is_clean m) then [] else before
standing_by m id (note.Subscribe whom text outcome) before =
    if speaks_of id whom && is_allowed outcome then joined_by (subscribe_in m) text before else before
standing_by m id (note.Unsubscribe whom text outcome) before =
    if speaks_of id whom && is_allowed outcome then left_by text before else before
standing_by m id (note.End client text outcome) before =
    if bytes_eq id client then without_filter before text else before
standing_by m id other before = before

abbrev pub standing_after : Option Message → List ℕ → List Out → List Held → List Held
standing_after m id [] before = before
standing_after m id (Note said ∷ outs) before = standing_after m id outs (standing_by m id said before)
standing_after m id (Send to datagram ∷ outs) before = standing_after m id outs before
standing_after m id (Wire packet ∷ outs) before = standing_after m id outs before

-- the filters that stand for the client, in the order in which each stood first
abbrev pub standing_of : List ℕ → List Row → List Held
standing_of id [] = []
standing_of id (row ∷ earlier) = standing_after (message_at row.event) id row.outs (standing_of id earlier)

-- ---- the filters that stand for anybody

-- the filter stands for one of these clients
abbrev pub held_by : List (List ℕ) → List Row → List ℕ → Bool
held_by ids h text = list_any (λ id. stands (standing_of id h) text) ids

-- it stands for somebody
abbrev pub held_in : List Row → List ℕ → Bool
held_in h text = held_by (accepted h) h text

-- the filter of a SUBSCRIBE that the note allows
abbrev pub begun_with : Option (List ℕ) → Bool → List (List ℕ)
begun_with None allowed = []
begun_with (Some text) allowed = if allowed then text ∷ [] else []

abbrev pub begun_by : Decision → List (List ℕ)
begun_by (note.Subscribe whom text outcome) = begun_with text (is_allowed outcome)
begun_by other = []

abbrev pub begun_in : List Out → List (List ℕ)
begun_in [] = []
begun_in (Note said ∷ outs) = begun_by said ++ begun_in outs
begun_in (Send to datagram ∷ outs) = begun_in outs
begun_in (Wire packet ∷ outs) = begun_in outs

-- the filters that a SUBSCRIBE lets stand, by the notes of its row
abbrev pub begun : Option TopicRequest → List Out → List (List ℕ)
begun None outs = []
begun (Some r) outs = begun_in outs

-- it is this filter
abbrev pub is_for : List ℕ → Wanted → Bool
is_for text w = bytes_eq text w.filter

-- a filter that is not among these comes last
abbrev pub joining : List Wanted → List (List ℕ) → List Wanted
joining wanted [] = wanted
joining wanted (text ∷ texts) =
    joining (if list_any (is_for text) wanted then wanted
    else wanted ++ record { filter = text; open_id = None; owed = false } ∷ []) texts
