-- What a datagram is read as, by what it spells.
use Rattle.std.proofs.Common.{◌≡◌, ℕ, ◌≤◌, Bool, true, false, List, length, Result, Ok, Err, if◌then◌else◌}
use Rattle.std.proofs.Common.{refl, sym, subst, ◌∙◌, nat_lt}
use Rattle.std.proofs.lemmas.Bool.{ltb-false, le-ltb}
use Rattle.sng_frames.specs.declared.fault.FrameFault.{FrameFault}
use Rattle.sng_frames.specs.declared.fault.FrameFault.TheVariants.{Malformed, NotSupported, TooLong, Memory}
use Rattle.sng_frames.specs.declared.frame.SnFrame.{SnFrame}
use Rattle.sng_frames.specs.declared.limits.TheConstants.{MAX_DATAGRAM}
use Rattle.sng_frames.specs.Grammar.{Spells, IsUnsupported}
use Rattle.sng_frames.specs.Laws.{AreOctets}
use Rattle.sng_frames.specs.Reading.{octets_read, frame_of}
use Rattle.sng_frames.proofs.Parsing.{Says, octets_read-says, octets_read-spelled, octets_read-unsupported}

-- a datagram that is not too long is read by its octets
frame_of-short : (b : List ℕ) → length b ≤ MAX_DATAGRAM → frame_of b ≡ octets_read (length b) b
frame_of-short b short = rw (le-ltb MAX_DATAGRAM (length b) short) refl

-- an answer that is no fault, or the fault of a type that is not read, is not that of a datagram too long
kept-ok : (b : Bool) (r : Result SnFrame FrameFault) (frame : SnFrame)
    → (if b then Err Malformed else r) ≡ Ok frame → (b ≡ false) × (r ≡ Ok frame)
kept-ok true r frame is = cc
kept-ok false r frame is = (refl, is)

kept-unsupported : (b : Bool) (r : Result SnFrame FrameFault)
    → (if b then Err Malformed else r) ≡ Err NotSupported → (b ≡ false) × (r ≡ Err NotSupported)
kept-unsupported true r is = cc
kept-unsupported false r is = (refl, is)

-- a frame is read where it is spelled, and only there
pub frame_of-reads : (b : List ℕ) (frame : SnFrame) → AreOctets b → frame_of b ≡ Ok frame
    → (length b ≤ MAX_DATAGRAM) × Spells frame b
frame_of-reads b frame are is =
    let k = kept-ok (nat_lt MAX_DATAGRAM (length b)) (octets_read (length b) b) frame is in
    (ltb-false MAX_DATAGRAM (length b) k.0, subst (Says b) k.1 (octets_read-says b are))

pub frame_of-spelled : (b : List ℕ) (frame : SnFrame) → length b ≤ MAX_DATAGRAM → Spells frame b
    → frame_of b ≡ Ok frame
frame_of-spelled b frame short s = frame_of-short b short ∙ octets_read-spelled b frame s

pub frame_of-refuses : (b : List ℕ) → AreOctets b → frame_of b ≡ Err NotSupported → (length b ≤ MAX_DATAGRAM)
    × IsUnsupported b
frame_of-refuses b are is =
    let k = kept-unsupported (nat_lt MAX_DATAGRAM (length b)) (octets_read (length b) b) is in
    (ltb-false MAX_DATAGRAM (length b) k.0, subst (Says b) k.1 (octets_read-says b are))

pub frame_of-unsupported : (b : List ℕ) → length b ≤ MAX_DATAGRAM → IsUnsupported b
    → frame_of b ≡ Err NotSupported
frame_of-unsupported b short s = frame_of-short b short ∙ octets_read-unsupported b s

-- what is malformed spells nothing, unless it is too long
pub frame_of-malformed : (b : List ℕ) → frame_of b ≡ Err Malformed → length b ≤ MAX_DATAGRAM
    → (IsUnsupported b → ⊥) × ((frame : SnFrame) → Spells frame b → ⊥)
frame_of-malformed b is short = (
  λ s. (let other = sym is ∙ frame_of-unsupported b short s in cc),
  λ frame s. (let other = sym is ∙ frame_of-spelled b frame short s in cc),
)

unspelled : (b : List ℕ) (r : Result SnFrame FrameFault) → (IsUnsupported b → ⊥)
    → ((frame : SnFrame) → Spells frame b → ⊥) → Says b r → r ≡ Err Malformed
unspelled b (Ok frame) no_type no_frame says = absurd (no_frame frame says)
unspelled b (Err Malformed) no_type no_frame says = refl
unspelled b (Err NotSupported) no_type no_frame says = absurd (no_type says)
unspelled b (Err TooLong) no_type no_frame says = absurd says
unspelled b (Err Memory) no_type no_frame says = absurd says

rest : (b : List ℕ) (test : Bool) → nat_lt MAX_DATAGRAM (length b) ≡ test → AreOctets b
    → (length b ≤ MAX_DATAGRAM → (IsUnsupported b → ⊥) × ((frame : SnFrame) → Spells frame b → ⊥))
    → frame_of b ≡ Err Malformed
rest b true long are none = rw long refl
rest b false long are none =
    let short = ltb-false MAX_DATAGRAM (length b) long in
    let no = none short in
    frame_of-short b short ∙ unspelled b (octets_read (length b) b) no.0 no.1 (octets_read-says b are)

-- bytes that spell nothing are malformed
pub frame_of-rest : (b : List ℕ) → AreOctets b
    → (length b ≤ MAX_DATAGRAM → (IsUnsupported b → ⊥) × ((frame : SnFrame) → Spells frame b → ⊥))
    → frame_of b ≡ Err Malformed
frame_of-rest b are none = rest b (nat_lt MAX_DATAGRAM (length b)) refl are none

-- no bytes spell two frames, and none that is not supported spell one
pub spells-one : (b : List ℕ) (one other : SnFrame) → Spells one b → Spells other b → one ≡ other
spells-one b one other s t =
    (let equal = sym (octets_read-spelled b one s) ∙ octets_read-spelled b other t in cc)

pub spells-none : (b : List ℕ) (frame : SnFrame) → IsUnsupported b → Spells frame b → ⊥
spells-none b frame u s =
    (let equal = sym (octets_read-spelled b frame s) ∙ octets_read-unsupported b u in cc)
