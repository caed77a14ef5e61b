-- What is answered to bytes, by what stands at their front: five laws that part all of them.
use Rattle.std.specs.Prelude.{◌≡◌, ◌↔◌, ℕ, ◌≤◌, List, length, take}
use Rattle.mqtt_frames.specs.declared.limits.TheConstants.{MAX_PACKET}
use Rattle.mqtt_frames.specs.declared.fault.PacketFault.TheVariants.{Malformed, NotSupported, TooLong}
use Rattle.mqtt_frames.specs.declared.packet.Packet.{Packet}
use Rattle.mqtt_frames.specs.declared.wire.decode.Front.TheVariants as fronts
use Rattle.mqtt_frames.specs.Grammar.{Spells}
use Rattle.mqtt_frames.specs.Fronts.{decode}
use Rattle.mqtt_frames.specs.Laws.{AreBytes}
use Rattle.mqtt_frames.specs.Standing.{IsUnfinished, IsTooLong, IsUnsupported}

-- the first bytes spell the packet, and are not too many
pub record Stands (p : Packet) (size : ℕ) (b : List ℕ) : Type 0 where
  pub spelled : Spells p (take size b)
  pub short : size ≤ MAX_PACKET
  pub within : size ≤ length b

-- a packet is read exactly where the first bytes spell it
abbrev pub ReadsWhatStandsThere : Type 0
ReadsWhatStandsThere =
    (b : List ℕ) (p : Packet) (size : ℕ) → AreBytes b → (decode b ≡ fronts.Whole p size) ↔ Stands p size b

-- more bytes are waited for exactly where a packet is not finished
abbrev pub WaitsForTheUnfinished : Type 0
WaitsForTheUnfinished = (b : List ℕ) → AreBytes b → (decode b ≡ fronts.Waiting) ↔ IsUnfinished b

abbrev pub RefusesTheTooLong : Type 0
RefusesTheTooLong = (b : List ℕ) → AreBytes b → (decode b ≡ fronts.Faulty TooLong) ↔ IsTooLong b

abbrev pub RefusesTheUnsupported : Type 0
RefusesTheUnsupported = (b : List ℕ) → AreBytes b → (decode b ≡ fronts.Faulty NotSupported) ↔ IsUnsupported b

-- nothing of that stands at the front
pub record IsNothing (b : List ℕ) : Type 0 where
  pub finished : ¬ IsUnfinished b
  pub short : ¬ IsTooLong b
  pub supported : ¬ IsUnsupported b
  pub none : (p : Packet) (size : ℕ) → ¬ Stands p size b

-- malformed are all other bytes
abbrev pub RefusesTheRest : Type 0
RefusesTheRest = (b : List ℕ) → AreBytes b → (decode b ≡ fronts.Faulty Malformed) ↔ IsNothing b
