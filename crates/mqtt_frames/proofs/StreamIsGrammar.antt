-- The packets of a stream are those that the grammar spells, and do not depend on how it is cut.
use Rattle.std.proofs.Common.{◌≡◌, ℕ, zero, suc, ◌<◌, ◌≤◌, true, List, [], ◌∷◌, ◌++◌, length, take, drop}
use Rattle.std.proofs.Common.{length-drop, length-append, Some, refl, ap, sym, subst, ◌∙◌, append_assoc, inl}
use Rattle.std.proofs.Common.{inr, arith}
use Rattle.std.proofs.lemmas.List.{take-append-drop, append-nil}
use Rattle.std.proofs.Math.Seq.{drop-append_seam}
use Rattle.mqtt_frames.specs.declared.limits.TheConstants.{MAX_PACKET}
use Rattle.mqtt_frames.specs.declared.fault.PacketFault.{PacketFault}
use Rattle.mqtt_frames.specs.Faults.{stream_fault}
use Rattle.mqtt_frames.specs.declared.packet.Packet.{Packet}
use Rattle.mqtt_frames.specs.declared.wire.decode.Front.{Front}
use Rattle.mqtt_frames.specs.declared.wire.decode.Front.TheVariants as fronts
use Rattle.mqtt_frames.specs.Packets.{written}
use Rattle.mqtt_frames.specs.Spellable.{has_spelling}
use Rattle.mqtt_frames.specs.Grammar.{Spells, IsInRange}
use Rattle.mqtt_frames.specs.Fronts.{decode}
use Rattle.mqtt_frames.specs.Streams.{End, Rest, Fault, Read, with_packets, read_all, Reading, Kept, Failed}
use Rattle.mqtt_frames.specs.Streams.{settled_of}
use Rattle.mqtt_frames.specs.Laws.{AreBytes}
use Rattle.mqtt_frames.specs.StreamLaws.{SpellsStream, EndsAt, with_answer, story_of, joined, known_fault}
use Rattle.mqtt_frames.specs.StreamLaws.{Tells}
use Rattle.mqtt_frames.proofs.Spelling.{Spells-short}
use Rattle.mqtt_frames.proofs.SpelledIsRead.{front-read}
use Rattle.mqtt_frames.proofs.ReadIsSpelled.{front-spelled, AreBytes-drop}
use Rattle.mqtt_frames.proofs.StreamLemmas.{decode-more, decode-within, alone, read_all-waiting}
use Rattle.mqtt_frames.proofs.StreamLemmas.{read_all-faulty, read_all-whole, with_packets-both, WaitsAt}
use Rattle.mqtt_frames.proofs.StreamLemmas.{read_all-waits, continued_from, read_all-append}

pub written-read : (p : Packet) (more : List ℕ) → IsInRange p → has_spelling p ≡ true
    → length (written p) ≤ MAX_PACKET → decode (written p ++ more) ≡ fronts.Whole p (length (written p))
written-read p more fits is short = front-read p (written p) more (Spells-short p fits is short) short

pub stream-read : (packets : List Packet) (bytes rest : List ℕ) → SpellsStream packets bytes rest
    → read_all bytes ≡ with_packets packets (read_all rest)
stream-read [] bytes rest s = ap read_all s
stream-read (p ∷ packets) bytes rest s =
    let b = s.0 in
    let others = s.1 in
    ap read_all s.4
    ∙ read_all-whole (b ++ others) p (length b) (front-read p b others s.2 s.3)
    ∙ ap (λ (x : List ℕ). with_packets (p ∷ []) (read_all x)) (drop-append_seam b others)
    ∙ ap (with_packets (p ∷ [])) (stream-read packets others rest s.5)
    ∙ with_packets-both (p ∷ []) packets (read_all rest)

abbrev Stands : List ℕ → Read → Type 0
Stands bytes read = (rest : List ℕ) × SpellsStream read.packets bytes rest × EndsAt rest read.ending

stands-behind : (f : Front) (bytes : List ℕ) → AreBytes bytes → decode bytes ≡ f
    → ((others : List ℕ) → length others < length bytes → AreBytes others → Stands others (read_all others))
    → Stands bytes (read_all bytes)
stands-behind fronts.Waiting bytes are is next =
    subst (Stands bytes) (sym (read_all-waiting bytes is)) (bytes, refl, (refl, is))
stands-behind (fronts.Faulty fault) bytes are is next =
    subst (Stands bytes) (sym (read_all-faulty bytes fault is)) (bytes, refl, is)
stands-behind (fronts.Whole packet size) bytes are is next =
    let within = decode-within bytes packet size is in
    let spelled = front-spelled packet bytes size are is in
    let others = drop size bytes in
    let behind = next others (omega (arith, length-drop size bytes)) (AreBytes-drop size bytes are) in
    let short : length (take size bytes) ≤ MAX_PACKET =
    omega (
      arith,
      spelled.1,
      ap length (take-append-drop size bytes),
      length-append (take size bytes) (drop size bytes),
      length-drop size bytes,
    ) in
    subst (Stands bytes) (sym (read_all-whole bytes packet size is)) (
      behind.0,
      (take size bytes, others, spelled.0, short, sym (take-append-drop size bytes), behind.1),
      behind.2,
    )

stands-within : (most : ℕ) (bytes : List ℕ) → length bytes ≤ most → AreBytes bytes
    → Stands bytes (read_all bytes)
stands-within zero [] fits are = ([], refl, (refl, refl))
stands-within zero (b ∷ bytes) fits are = absurd (omega arith)
stands-within (suc most) bytes fits are =
    stands-behind (decode bytes) bytes are refl
    (λ others less those. stands-within most others (omega arith) those)

pub stream-stands : (bytes : List ℕ) → AreBytes bytes
    → (rest : List ℕ) × SpellsStream (read_all bytes).packets bytes rest × EndsAt rest (read_all bytes).ending
stream-stands bytes are = stands-within (length bytes) bytes (omega arith) are

pub no_packet : (bytes more b rest : List ℕ) (fault : PacketFault) (p : Packet)
    → decode bytes ≡ fronts.Faulty fault → Spells p b → length b ≤ MAX_PACKET → bytes ++ more ≡ b ++ rest → ⊥
no_packet bytes more b rest fault p is s short same =
    let whole = front-read p b rest s short in
    elim (decode-more bytes more) [
      | inl waits ↦ (let e : fronts.Faulty fault ≡ fronts.Waiting = sym is ∙ waits in cc)
      | inr equal ↦ (let e : fronts.Faulty fault ≡ fronts.Whole p (length b) = sym is ∙ sym equal
          ∙ ap decode same ∙ whole in cc)
    ]

-- piece by piece

failed-silent : (pieces : List (List ℕ)) → (story_of Failed pieces).packets ≡ []
failed-silent [] = refl
failed-silent (piece ∷ pieces) = failed-silent pieces

kept-silent : (fault : PacketFault) (pieces : List (List ℕ)) → (story_of (Kept fault) pieces).packets ≡ []
kept-silent fault [] = refl
kept-silent fault (piece ∷ pieces) = failed-silent pieces

kept-known : (fault : PacketFault) (pieces : List (List ℕ))
    → known_fault (story_of (Kept fault) pieces).reported (story_of (Kept fault) pieces).state
    ≡ Some (stream_fault fault)
kept-known fault [] = refl
kept-known fault (piece ∷ pieces) = refl

tells-next : (packets : List Packet) (e : End) (pieces : List (List ℕ)) → WaitsAt e
    → ((held : List ℕ) → decode held ≡ fronts.Waiting
    → Tells (story_of (Reading held) pieces) (read_all (held ++ joined pieces)))
    → Tells (with_answer (settled_of packets e).0 (story_of (settled_of packets e).1 pieces))
    (continued_from packets e (joined pieces))
tells-next packets (Rest held) pieces waits next =
    let later = next held waits in
    record {
      packets = ap (λ (ps : List Packet). packets ++ ps) later.packets;
      fault = later.fault;
      held = later.held;
    }
tells-next [] (Fault fault) pieces waits next =
    record { packets = failed-silent pieces; fault = refl; held = tt }
tells-next (p ∷ packets) (Fault fault) pieces waits next =
    record {
      packets = ap (λ (ps : List Packet). (p ∷ packets) ++ ps) (kept-silent fault pieces)
          ∙ append-nil (p ∷ packets);
      fault = kept-known fault pieces;
      held = tt;
    }

tells-from : (held : List ℕ) (pieces : List (List ℕ)) → decode held ≡ fronts.Waiting
    → Tells (story_of (Reading held) pieces) (read_all (held ++ joined pieces))
tells-from held [] waits =
    let all : read_all (held ++ []) ≡ alone (Rest held) =
    ap read_all (append-nil held) ∙ read_all-waiting held waits in
    subst (Tells (story_of (Reading held) [])) (sym all)
    (record { packets = refl; fault = refl; held = refl })
tells-from held (piece ∷ pieces) waits =
    let first = read_all (held ++ piece) in
    let all : read_all (held ++ (piece ++ joined pieces))
    ≡ continued_from first.packets first.ending (joined pieces) =
    ap read_all (sym (append_assoc held piece (joined pieces)))
    ∙ read_all-append (held ++ piece) (joined pieces) in
    subst (Tells (story_of (Reading held) (piece ∷ pieces))) (sym all)
    (tells-next first.packets first.ending pieces (read_all-waits (held ++ piece))
    (λ rest waits_too. tells-from rest pieces waits_too))

pub tells_all : (pieces : List (List ℕ)) → Tells (story_of (Reading []) pieces) (read_all (joined pieces))
tells_all pieces = tells-from [] pieces refl
