-- What ties writing and reading to the grammar.
use Rattle.std.specs.Prelude.{◌≡◌, ℕ, ◌<◌, ◌≤◌, ◌⊎◌, ◌++◌, true, List, [], ◌∷◌, length, take}
use Rattle.mqtt_frames.specs.declared.limits.TheConstants.{MAX_PACKET, MAX_REMAINING}
use Rattle.mqtt_frames.specs.declared.packet.Packet.{Packet}
use Rattle.mqtt_frames.specs.declared.wire.decode.Front.TheVariants as fronts
use Rattle.mqtt_frames.specs.Packets.{body, written}
use Rattle.mqtt_frames.specs.Spellable.{has_spelling}
use Rattle.mqtt_frames.specs.Grammar.{Spells, IsInRange}
use Rattle.mqtt_frames.specs.Fronts.{decode}

-- a packet with texts whose length is a number of two bytes, identifiers other than 0 and lists that are not
-- empty is
-- written as bytes that spell it, where its Remaining Length has a spelling
abbrev pub WritesASpelling : Type 0
WritesASpelling =
    (p : Packet) → IsInRange p → has_spelling p ≡ true → length (body p) ≤ MAX_REMAINING
    → Spells p (written p)

-- no bytes spell two packets
abbrev pub SpellsOne : Type 0
SpellsOne = (b : List ℕ) (one other : Packet) → Spells one b → Spells other b → one ≡ other

-- what spells a packet in at most MAX_PACKET bytes is read as it, whatever follows
abbrev pub ReadsASpelling : Type 0
ReadsASpelling =
    (p : Packet) (b more : List ℕ) → Spells p b → length b ≤ MAX_PACKET
    → decode (b ++ more) ≡ fronts.Whole p (length b)

abbrev pub AreBytes : List ℕ → Type 0
AreBytes [] = Unit {0}
AreBytes (b ∷ bytes) = (b < 256) × AreBytes bytes

-- a packet at the front of bytes is spelled by just those bytes, at most MAX_PACKET of them
abbrev pub ReadsWhatIsSpelled : Type 0
ReadsWhatIsSpelled =
    (p : Packet) (bytes : List ℕ) (size : ℕ) → AreBytes bytes → decode bytes ≡ fronts.Whole p size
    → Spells p (take size bytes) × (size ≤ MAX_PACKET)

-- what is written is read again, whatever follows
abbrev pub ReadsWhatIsWritten : Type 0
ReadsWhatIsWritten =
    (p : Packet) (more : List ℕ) → IsInRange p → has_spelling p ≡ true → length (written p) ≤ MAX_PACKET
    → decode (written p ++ more) ≡ fronts.Whole p (length (written p))

-- the written spelling is the shortest: every other one is longer
abbrev pub WritesTheShortest : Type 0
WritesTheShortest = (p : Packet) (b : List ℕ) → Spells p b → (b ≡ written p) ⊎ (length (written p) < length b)
