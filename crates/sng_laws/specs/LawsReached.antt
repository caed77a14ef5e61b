-- The promise of what goes out: nothing that carries a topic goes to a client, by the octets of each datagram
-- (MQTT-SN 1.2, 5.2), and no PUBLISH to the broker (MQTT 3.1.1, 3.3), but behind a note that lets it go.
use Rattle.std.specs.Prelude.{ℕ, ◌≡◌, ◌==◌, Bool, true, false, ◌||◌, List, [], ◌∷◌, slice_get, if◌then◌else◌}
use Rattle.std.specs.Prelude.{Option, Some, None, ◌/◌}
use Rattle.sng_frames.specs.declared.frame.SnFrame.{SnFrame}
use Rattle.sng_frames.specs.declared.frame.SnFrame.TheVariants as frame
use Rattle.sng_book.specs.Denials.{is_allowed}
use Rattle.sng_book.specs.declared.decision.Decision.{Decision}
use Rattle.sng_book.specs.declared.decision.Decision.TheVariants as note
use Rattle.sng_book.specs.declared.out.Out.{Out}
use Rattle.sng_book.specs.declared.out.Out.TheVariants.{Send, Wire, Note}
use Rattle.sng_book.specs.declared.row.Row.{Row}

-- the type of a datagram (MQTT-SN 1.2, 5.2.1 and 5.2.2): its second octet, or the fourth where its length has
-- three
abbrev pub type_octet : List ℕ → Option ℕ
type_octet [] = None
type_octet (size ∷ octets) = if size == 1 then slice_get octets 2 else slice_get octets 0

abbrev pub is_type : ℕ → Option ℕ → Bool
is_type kind None = false
is_type kind (Some octet) = octet == kind

-- a PUBLISH or a REGISTER
abbrev pub carries_topic : List ℕ → Bool
carries_topic datagram = is_type 12 (type_octet datagram) || is_type 10 (type_octet datagram)

-- of messages it is those that carry a topic to a client
abbrev pub is_topical : SnFrame → Bool
is_topical (frame.Publish p) = true
is_topical (frame.Register r) = true
is_topical other = false

-- the note lets a message or an announcement go to a client
abbrev pub lets_reach : Decision → Bool
lets_reach (note.Hand client name outcome) = is_allowed outcome
lets_reach (note.Announce client name) = true
lets_reach (note.Retry client name outcome) = is_allowed outcome
lets_reach other = false

-- a PUBLISH or a REGISTER goes to a client only at once behind a note that lets it go; `lets` is whether the
-- out before is such a note
abbrev pub Reaches : Bool → List Out → Type 0
Reaches lets [] = Unit {0}
Reaches lets (Note said ∷ outs) = Reaches (lets_reach said) outs
Reaches lets (Send to datagram ∷ outs) = (carries_topic datagram ≡ true → lets ≡ true) × Reaches false outs
Reaches lets (Wire packet ∷ outs) = Reaches false outs

abbrev pub EachReaches : List Row → Type 0
EachReaches [] = Unit {0}
EachReaches (row ∷ earlier) = EachReaches earlier × Reaches false row.outs

-- ---- to the broker

-- a PUBLISH, by its first octet (MQTT 3.1.1, 2.2)
abbrev pub is_publish_packet : List ℕ → Bool
is_publish_packet [] = false
is_publish_packet (first ∷ octets) = first / 16 == 3

-- the note lets a publish go to the broker
abbrev pub lets_go : Decision → Bool
lets_go (note.Forward who name outcome) = is_allowed outcome
lets_go (note.Again who name outcome) = is_allowed outcome
lets_go other = false

-- a PUBLISH goes to the broker only at once behind a note that lets it go; `lets` is whether the out before
-- is such a note
abbrev pub Announced : Bool → List Out → Type 0
Announced lets [] = Unit {0}
Announced lets (Note said ∷ outs) = Announced (lets_go said) outs
Announced lets (Send to datagram ∷ outs) = Announced false outs
Announced lets (Wire sent ∷ outs) = (is_publish_packet sent ≡ true → lets ≡ true) × Announced false outs

abbrev pub EachAnnounced : List Row → Type 0
EachAnnounced [] = Unit {0}
EachAnnounced (row ∷ earlier) = EachAnnounced earlier × Announced false row.outs
