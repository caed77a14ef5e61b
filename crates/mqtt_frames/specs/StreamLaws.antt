-- What ties the stream to the grammar, and its pieces to the whole of its bytes.
use Rattle.std.specs.Prelude.{◌≡◌, ℕ, ◌≤◌, List, [], ◌∷◌, ◌++◌, length, Some, None, Ok, Err}
use Rattle.std.specs.declared.option.Option.{Option}
use Rattle.std.specs.declared.result.Result.{Result}
use Rattle.mqtt_frames.specs.declared.limits.TheConstants.{MAX_PACKET}
use Rattle.mqtt_frames.specs.declared.fault.PacketFault.{PacketFault}
use Rattle.mqtt_frames.specs.declared.fault.StreamFault.{StreamFault}
use Rattle.mqtt_frames.specs.declared.packet.Packet.{Packet}
use Rattle.mqtt_frames.specs.declared.wire.decode.Front.TheVariants as fronts
use Rattle.mqtt_frames.specs.Faults.{stream_fault}
use Rattle.mqtt_frames.specs.Grammar.{Spells}
use Rattle.mqtt_frames.specs.Fronts.{decode}
use Rattle.mqtt_frames.specs.Streams.{End, Rest, Fault, Read, with_packets, read_all, State, Reading, Kept}
use Rattle.mqtt_frames.specs.Streams.{fed}
use Rattle.mqtt_frames.specs.Laws.{AreBytes}

-- the bytes begin with spellings of the packets, in order, each of at most MAX_PACKET bytes, and the rest
-- follows
abbrev pub SpellsStream : List Packet → List ℕ → List ℕ → Type 0
SpellsStream [] bytes rest = bytes ≡ rest
SpellsStream (p ∷ packets) bytes rest =
    (b : List ℕ) × (others : List ℕ) × Spells p b × (length b ≤ MAX_PACKET) × (bytes ≡ b ++ others)
    × SpellsStream packets others rest

-- packets that are spelled are read, and behind them what follows
abbrev pub ReadsTheStream : Type 0
ReadsTheStream =
    (packets : List Packet) (bytes rest : List ℕ) → SpellsStream packets bytes rest
    → read_all bytes ≡ with_packets packets (read_all rest)

-- the rest is an unfinished packet, or begins with that fault
abbrev pub EndsAt : List ℕ → End → Type 0
EndsAt rest (Rest bytes) = (bytes ≡ rest) × (decode rest ≡ fronts.Waiting)
EndsAt rest (Fault fault) = decode rest ≡ fronts.Faulty fault

-- the packets that are read are spelled, one behind the other, up to an unfinished packet or a fault
abbrev pub ReadsWhatStands : Type 0
ReadsWhatStands =
    (bytes : List ℕ) → AreBytes bytes
    → (rest : List ℕ) × SpellsStream (read_all bytes).packets bytes rest × EndsAt rest (read_all bytes).ending

-- where a fault is reported no packet of at most MAX_PACKET bytes stands, whatever follows
abbrev pub FaultIsNoPacket : Type 0
FaultIsNoPacket =
    (bytes more b rest : List ℕ) (fault : PacketFault) (p : Packet) → decode bytes ≡ fronts.Faulty fault
    → Spells p b → length b ≤ MAX_PACKET → bytes ++ more ≡ b ++ rest → ⊥

-- what a stream answered in all, the first fault that it reported, and its state then
pub record Story : Type 0 where
  pub packets : List Packet
  pub reported : Option StreamFault
  pub state : State

-- an answer before the others
abbrev pub with_answer : Result (List Packet) StreamFault → Story → Story
with_answer (Ok packets) later =
    record { packets = packets ++ later.packets; reported = later.reported; state = later.state }
with_answer (Err fault) later = record { packets = later.packets; reported = Some fault; state = later.state }

-- piece by piece, from a state on
abbrev pub story_of : State → List (List ℕ) → Story
story_of state [] = record { packets = []; reported = None; state = state }
story_of state (piece ∷ pieces) = with_answer (fed state piece).0 (story_of (fed state piece).1 pieces)

-- the bytes of all pieces
abbrev pub joined : List (List ℕ) → List ℕ
joined [] = []
joined (piece ∷ pieces) = piece ++ joined pieces

-- the fault that was reported, or is kept
abbrev pub known_fault : Option StreamFault → State → Option StreamFault
known_fault (Some fault) state = Some fault
known_fault None (Kept fault) = Some (stream_fault fault)
known_fault None _ = None

abbrev pub fault_at : End → Option StreamFault
fault_at (Rest bytes) = None
fault_at (Fault fault) = Some (stream_fault fault)

-- the bytes of an unfinished packet are held
abbrev pub IsHeld : End → State → Type 0
IsHeld (Rest bytes) state = state ≡ Reading bytes
IsHeld (Fault fault) state = Unit {0}

pub record Tells (story : Story) (read : Read) : Type 0 where
  pub packets : story.packets ≡ read.packets
  pub fault : known_fault story.reported story.state ≡ fault_at read.ending
  pub held : IsHeld read.ending story.state

-- however the bytes are cut, the packets that were answered, the fault that was reported or is kept, and what
-- is held, are those of all the bytes
abbrev pub IsCutAnyhow : Type 0
IsCutAnyhow = (pieces : List (List ℕ)) → Tells (story_of (Reading []) pieces) (read_all (joined pieces))
