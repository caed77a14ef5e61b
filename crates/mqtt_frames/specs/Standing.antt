-- What stands at the front of bytes where no packet is read, in the standard's words (MQTT 3.1.1, sections 2
-- and 3).
use Rattle.std.specs.Prelude.{◌≡◌, ◌≢◌, ℕ, ◌+◌, ◌<◌, ◌≤◌, ◌⊎◌, Bool, List, [], ◌∷◌, ◌++◌, length, take, drop}
use Rattle.mqtt_frames.specs.declared.limits.TheConstants.{MAX_PACKET}
use Rattle.mqtt_frames.specs.declared.packet.Packet.{Packet}
use Rattle.mqtt_frames.specs.Packets.{flag, protocol, first_byte}
use Rattle.mqtt_frames.specs.Grammar.{SpellsLength}

-- the bytes begin with a whole fixed header of so many bytes: a first byte, and a Remaining Length of that
-- value (2.2)
pub record BeginsWith (first start value : ℕ) (b : List ℕ) : Type 0 where
  pub remaining : List ℕ
  pub behind : List ℕ
  pub spelled : SpellsLength value remaining
  pub count : start ≡ 1 + length remaining
  pub bytes : b ≡ first ∷ (remaining ++ behind)

-- in each of the bytes there is the mark that another one follows (2.2.3)
abbrev pub AreMarked : List ℕ → Type 0
AreMarked [] = Unit {0}
AreMarked (b ∷ bytes) = (128 ≤ b) × AreMarked bytes

-- the fixed header is not whole: fewer than four bytes of a Remaining Length, and another one follows the
-- last
abbrev pub IsHeaderCut : List ℕ → Type 0
IsHeaderCut [] = Unit {0}
IsHeaderCut (first ∷ rest) = AreMarked rest × (length rest < 4)

-- a packet that is read begins with the byte (2.2.1 and 2.2.2)
pub record IsFirst (first : ℕ) : Type 0 where
  pub packet : Packet
  pub is : first_byte packet ≡ first

-- a PUBLISH at QoS 2: packet type 3, DUP, QoS bits 10 and RETAIN (3.3.1)
pub record IsPublishAtQos2 (first : ℕ) : Type 0 where
  pub dup : Bool
  pub retain : Bool
  pub is : first ≡ 0x30 + flag dup 8 + 4 + flag retain 1

-- it, PUBREC, PUBREL or PUBCOMP (3.5 to 3.7)
abbrev pub IsOfQos2 : ℕ → Type 0
IsOfQos2 first = IsPublishAtQos2 first ⊎ ((first ≡ 0x50) ⊎ ((first ≡ 0x62) ⊎ (first ≡ 0x70)))

-- the variable header of a CONNECT with a will, a user name or a password, or with reserved flags (3.1.2.3)
pub record HasOtherFlags (body : List ℕ) : Type 0 where
  pub flags : ℕ
  pub rest : List ℕ
  pub not_none : flags ≢ 0
  pub not_clean : flags ≢ 2
  pub bytes : body ≡ protocol ++ (flags ∷ rest)

-- the bytes begin with a whole CONNECT of such flags
pub record IsOtherConnect (first start value : ℕ) (b : List ℕ) : Type 0 where
  pub connect : first ≡ 0x10
  pub short : start + value ≤ MAX_PACKET
  pub whole : start + value ≤ length b
  pub flags : HasOtherFlags (take value (drop start b))

-- a part of a packet that may be read, or nothing
pub record IsPartOf (first start value : ℕ) (b : List ℕ) : Type 0 where
  pub kind : IsFirst first
  pub short : start + value ≤ MAX_PACKET
  pub part : length b < start + value

pub record IsLonger (first start value : ℕ) : Type 0 where
  pub kind : IsFirst first
  pub long : MAX_PACKET < start + value

-- a fixed header, and of it that
pub record Begins (Has : ℕ → ℕ → ℕ → Type 0) (b : List ℕ) : Type 0 where
  pub first : ℕ
  pub start : ℕ
  pub value : ℕ
  pub header : BeginsWith first start value b
  pub has : Has first start value

-- less than a packet: a fixed header that is not whole, or one behind which bytes are missing
abbrev pub IsUnfinished : List ℕ → Type 0
IsUnfinished b = IsHeaderCut b ⊎ Begins (λ first start value. IsPartOf first start value b) b

-- the fixed header of a packet of more bytes than are read
abbrev pub IsTooLong : List ℕ → Type 0
IsTooLong b = Begins IsLonger b

-- a packet of a kind that is not read, by its fixed header or by its flags
abbrev pub IsUnsupported : List ℕ → Type 0
IsUnsupported b = Begins (λ first start value. IsOfQos2 first ⊎ IsOtherConnect first start value b) b
