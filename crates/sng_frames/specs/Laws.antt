-- What ties decoding and encoding to the grammar.
use Rattle.std.specs.Prelude.{◌≡◌, ◌↔◌, ◌⊎◌, ℕ, ◌<◌, ◌≤◌, List, length, All, Ok, Err}
use Rattle.sng_frames.specs.declared.fault.FrameFault.TheVariants.{Malformed, NotSupported}
use Rattle.sng_frames.specs.declared.frame.SnFrame.{SnFrame}
use Rattle.sng_frames.specs.declared.limits.TheConstants.{MAX_DATAGRAM}
use Rattle.sng_frames.specs.Grammar.{Spells, IsInRange, TopicFits, IsUnsupported}
use Rattle.sng_frames.specs.Reading.{frame_of}
use Rattle.sng_frames.specs.Writing.{written}

abbrev pub AreOctets : List ℕ → Type 0
AreOctets b = All (λ octet. octet < 256) b

-- a frame is decoded exactly from the bytes that spell it, up to MAX_DATAGRAM of them
abbrev pub ReadsTheGrammar : Type 0
ReadsTheGrammar =
    (b : List ℕ) (frame : SnFrame) → AreOctets b
    → (frame_of b ≡ Ok frame) ↔ ((length b ≤ MAX_DATAGRAM) × Spells frame b)

-- not supported are just the bytes, up to MAX_DATAGRAM of them, of gateway discovery and of forwarder
-- encapsulation
abbrev pub RefusesTheUnsupported : Type 0
RefusesTheUnsupported =
    (b : List ℕ) → AreOctets b
    → (frame_of b ≡ Err NotSupported) ↔ ((length b ≤ MAX_DATAGRAM) × IsUnsupported b)

-- malformed are all others: more than MAX_DATAGRAM bytes, and those that spell neither
abbrev pub RefusesTheRest : Type 0
RefusesTheRest =
    (b : List ℕ) → AreOctets b
    → (frame_of b ≡ Err Malformed) ↔
    (length b ≤ MAX_DATAGRAM → (¬ IsUnsupported b) × ((frame : SnFrame) → ¬ Spells frame b))

-- no bytes spell two frames
abbrev pub SpellsOne : Type 0
SpellsOne = (b : List ℕ) (one other : SnFrame) → Spells one b → Spells other b → one ≡ other

-- what is not supported spells no frame
abbrev pub SpellsNoneUnsupported : Type 0
SpellsNoneUnsupported = (b : List ℕ) (frame : SnFrame) → IsUnsupported b → ¬ Spells frame b

-- a frame is encoded as bytes that spell it, where its numbers, its ClientId and the octets of its topic fit
abbrev pub WritesASpelling : Type 0
WritesASpelling =
    (frame : SnFrame) → IsInRange frame → TopicFits frame
    → length (written frame) ≤ MAX_DATAGRAM → Spells frame (written frame)

-- so is each frame that has a spelling
abbrev pub WritesTheSpelled : Type 0
WritesTheSpelled = (frame : SnFrame) (b : List ℕ) → Spells frame b → Spells frame (written frame)

-- the written spelling is the shortest: every other one is longer
abbrev pub WritesTheShortest : Type 0
WritesTheShortest =
    (frame : SnFrame) (b : List ℕ) → Spells frame b → (b ≡ written frame)
    ⊎ (length (written frame) < length b)

-- what is encoded is decoded again
abbrev pub ReadsWhatIsWritten : Type 0
ReadsWhatIsWritten =
    (frame : SnFrame) → Spells frame (written frame) → length (written frame) ≤ MAX_DATAGRAM
    → frame_of (written frame) ≡ Ok frame
