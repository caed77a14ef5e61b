-- Packet ids: one that is given is free, and a packet shows the one that it was written with.
use Rattle.std.proofs.Common.{◌≡◌, ℕ, ◌+◌, ◌-◌, ◌*◌, ◌/◌, ◌%◌, ◌≤◌, ◌==◌, Bool, true, false, List, [], ◌∷◌}
use Rattle.std.proofs.Common.{◌++◌, map, length, drop, cond}
use Rattle.std.proofs.Common.{refl, ap, sym, ◌∙◌, subst, arith, length-append}
use Rattle.std.specs.Prelude.{◌||◌, not, if◌then◌else◌, Some}
use Rattle.std.proofs.lemmas.Bool.{eqb-true, eqb-false, ne_eqb}
use Rattle.std.proofs.lemmas.List.{append_assoc, length-map}
use Rattle.std.proofs.Math.Seq.{drop-append_seam}
use Rattle.mqtt_frames.specs.Packets.{number_bytes, text_bytes, first_byte, body}
use Rattle.mqtt_frames.specs.RemainingLength.{remaining_length}
use Rattle.mqtt_frames.specs.declared.packet.Packet.TheVariants as packet
use Rattle.sng_outbox.specs.PacketIds.{is_used}
use Rattle.sng_outbox.specs.Sending.{has_id, without_first}
use Rattle.sng_outbox.specs.declared.in_flight.InFlight.{InFlight}
use Rattle.sng_outbox.specs.declared.item.Publication.{Publication}
use Rattle.sng_outbox.proofs.IdLemmas.{next_free}
use Rattle.sng_grants.specs.declared.limits.TheConstants.{MAX_FLIGHT}
use Rattle.sng_book.specs.declared.outcome.Outcome.{Outcome}
use Rattle.sng_book.specs.declared.outcome.Outcome.TheVariants.{Allowed, Denied}
use Rattle.sng_history.specs.Links.{Link, open_ids, next_packet_id, still_in_flight}
use Rattle.sng_history.specs.Exits.{packet_of}
use Rattle.sng_history.proofs.Ceilings.{ids_suffice}
use Rattle.sng_history.proofs.FewOpen.{FewOpen}
use Rattle.sng_laws.specs.ViewsFlight.{number_in, id_before, id_shown, others}
use Rattle.sng_laws.specs.LawsFlight.{AreIds}

-- ---- a number in its octets

number_shown : (n : ℕ) → n ≤ 65535 → n / 256 % 256 * 256 + n % 256 ≡ n
number_shown n small = omega arith

lengths : (front payload : List ℕ) (n : ℕ)
    → length (front ++ (number_bytes n ++ payload)) - (length payload + 2) ≡ length front
lengths front payload n =
    let all : length (front ++ (number_bytes n ++ payload))
    ≡ length front + length (number_bytes n ++ payload) =
    length-append front (number_bytes n ++ payload) in
    omega arith

before_payload : (front payload : List ℕ) (n : ℕ) → n ≤ 65535
    → id_before payload (front ++ (number_bytes n ++ payload)) ≡ n
before_payload front payload n small =
    ap (λ k. number_in (drop k (front ++ (number_bytes n ++ payload)))) (lengths front payload n)
    ∙ (ap number_in (drop-append_seam front (number_bytes n ++ payload)) ∙ number_shown n small)

-- the packet of a publish shows its packet id
pub shown : (p : Publication) (n : ℕ) → n ≤ 65535 → id_shown p (Some (packet_of p (Some n))) ≡ n
shown p n small =
    let whole =
    packet.Publish (record {
      dup = false;
      retain = p.retain;
      packet_id = Some n;
      name = p.name;
      payload = p.payload;
    }) in
    let head = remaining_length (length (body whole)) in
    let rest = number_bytes n ++ p.payload in
    ap (λ octets. id_before p.payload (first_byte whole ∷ octets))
    (sym (append_assoc head (text_bytes p.name) rest))
    ∙ before_payload (first_byte whole ∷ (head ++ text_bytes p.name)) p.payload n small

-- ---- among others

abbrev pub ids_of : List InFlight → List ℕ
ids_of flights = map (λ sent. sent.packet_id) flights

first_false : (a b : Bool) → (a || b) ≡ false → a ≡ false
first_false true b none = none
first_false false b none = refl

later_false : (a b : Bool) → (a || b) ≡ false → b ≡ false
later_false true b none = absurd (let e = none in cc)
later_false false b none = none

both_false : (a b : Bool) → a ≡ false → b ≡ false → (a || b) ≡ false
both_false true b one two = one
both_false false b one two = two

used_append : (xs ys : List ℕ) (n : ℕ) → is_used xs n ≡ false → is_used ys n ≡ false
    → is_used (xs ++ ys) n ≡ false
used_append [] ys n one two = two
used_append (x ∷ xs) ys n one two =
    both_false (x == n) (is_used (xs ++ ys) n) (first_false (x == n) (is_used xs n) one)
    (used_append xs ys n (later_false (x == n) (is_used xs n) one) two)

other_way : (a b : ℕ) → (a == b) ≡ false → (b == a) ≡ false
other_way a b is = ne_eqb b a (λ same. eqb-false a b is (sym same))

-- one more id, which none of them is
pub ids_push : (ids : List ℕ) (n : ℕ) → AreIds ids → 1 ≤ n → n ≤ 65535 → is_used ids n ≡ false
    → AreIds (ids ++ n ∷ [])
ids_push [] n are some small free = (some, small, refl, tt)
ids_push (one ∷ ids) n are some small free = (
  are.0,
  are.1,
  used_append ids (n ∷ []) one are.2
      (both_false (n == one) false (other_way one n (first_false (one == n) (is_used ids n) free)) refl),
  ids_push ids n are.3 some small (later_false (one == n) (is_used ids n) free),
)

-- ---- fewer

without_used_by : (sent : InFlight) (flights rest : List InFlight) (n : ℕ) (b : Bool)
    → is_used (ids_of (sent ∷ flights)) n ≡ false
    → is_used (ids_of rest) n ≡ false
    → is_used (ids_of (if b then flights else sent ∷ rest)) n ≡ false
without_used_by sent flights rest n true none less =
    later_false (sent.packet_id == n) (is_used (ids_of flights) n) none
without_used_by sent flights rest n false none less =
    both_false (sent.packet_id == n) (is_used (ids_of rest) n)
    (first_false (sent.packet_id == n) (is_used (ids_of flights) n) none) less

without_used : (flights : List InFlight) (k n : ℕ) → is_used (ids_of flights) n ≡ false
    → is_used (ids_of (without_first flights k)) n ≡ false
without_used [] k n none = refl
without_used (sent ∷ flights) k n none =
    without_used_by sent flights (without_first flights k) n (has_id k sent) none
    (without_used flights k n (later_false (sent.packet_id == n) (is_used (ids_of flights) n) none))

without_ids_by : (sent : InFlight) (flights rest : List InFlight) (b : Bool)
    → AreIds (ids_of (sent ∷ flights))
    → is_used (ids_of rest) sent.packet_id ≡ false → AreIds (ids_of rest)
    → AreIds (ids_of (if b then flights else sent ∷ rest))
without_ids_by sent flights rest true are free less = are.3
without_ids_by sent flights rest false are free less = (are.0, are.1, free, less)

pub without_ids : (flights : List InFlight) (k : ℕ) → AreIds (ids_of flights)
    → AreIds (ids_of (without_first flights k))
without_ids [] k are = tt
without_ids (sent ∷ flights) k are =
    without_ids_by sent flights (without_first flights k) (has_id k sent) are
    (without_used flights k sent.packet_id are.2)
    (without_ids flights k are.3)

-- where the ids are apart, the first with an id is the only one
none_same_by : (sent : InFlight) (rest : List InFlight) (b : Bool) → b ≡ false
    → cond (not b) (sent ∷ rest) rest ≡ sent ∷ rest
none_same_by sent rest true is = absurd (let e = is in cc)
none_same_by sent rest false is = refl

none_same : (flights : List InFlight) (k : ℕ) → is_used (ids_of flights) k ≡ false
    → others k flights ≡ flights
none_same [] k none = refl
none_same (sent ∷ flights) k none =
    ap (λ rest. cond (not (sent.packet_id == k)) (sent ∷ rest) rest)
    (none_same flights k (later_false (sent.packet_id == k) (is_used (ids_of flights) k) none))
    ∙ none_same_by sent flights (sent.packet_id == k)
    (first_false (sent.packet_id == k) (is_used (ids_of flights) k) none)

one_other_by : (sent : InFlight) (flights rest : List InFlight) (k : ℕ) (b : Bool) → (sent.packet_id == k) ≡ b
    → is_used (ids_of flights) sent.packet_id ≡ false
    → rest ≡ others k flights → (if b then flights else sent ∷ rest)
    ≡ cond (not b) (sent ∷ others k flights) (others k flights)
one_other_by sent flights rest k true is free later =
    let same : sent.packet_id ≡ k = eqb-true sent.packet_id k is in
    sym (none_same flights k (subst (λ n. is_used (ids_of flights) n ≡ false) same free))
one_other_by sent flights rest k false is free later = ap (λ more. sent ∷ more) later

pub one_other : (flights : List InFlight) (k : ℕ) → AreIds (ids_of flights)
    → without_first flights k ≡ others k flights
one_other [] k are = refl
one_other (sent ∷ flights) k are =
    one_other_by sent flights (without_first flights k) k (sent.packet_id == k) refl are.2
    (one_other flights k are.3)

still_used : (flights : List InFlight) (outcomes : List Outcome) (n : ℕ) → is_used (ids_of flights) n ≡ false
    → is_used (ids_of (still_in_flight flights outcomes)) n ≡ false
still_used [] outcomes n none = refl
still_used (sent ∷ flights) [] n none = none
still_used (sent ∷ flights) (Allowed ∷ outcomes) n none =
    both_false (sent.packet_id == n) (is_used (ids_of (still_in_flight flights outcomes)) n)
    (first_false (sent.packet_id == n) (is_used (ids_of flights) n) none)
    (still_used flights outcomes n (later_false (sent.packet_id == n) (is_used (ids_of flights) n) none))
still_used (sent ∷ flights) (Denied rule ∷ outcomes) n none =
    still_used flights outcomes n (later_false (sent.packet_id == n) (is_used (ids_of flights) n) none)

pub still_ids : (flights : List InFlight) (outcomes : List Outcome) → AreIds (ids_of flights)
    → AreIds (ids_of (still_in_flight flights outcomes))
still_ids [] outcomes are = tt
still_ids (sent ∷ flights) [] are = are
still_ids (sent ∷ flights) (Allowed ∷ outcomes) are =
    (are.0, are.1, still_used flights outcomes sent.packet_id are.2, still_ids flights outcomes are.3)
still_ids (sent ∷ flights) (Denied rule ∷ outcomes) are = still_ids flights outcomes are.3

-- ---- the next id

-- the packet ids of a link are apart, the last one that was given is in range, and few SUBSCRIBEs are open
pub record Fit (link : Link) : Type 0 where
  pub ids : AreIds (ids_of link.in_flight)
  pub last : link.last ≤ 65535
  pub few : FewOpen link.wanted

-- an id that may be given to one more publish
pub record Free (link : Link) (n : ℕ) : Type 0 where
  pub some : 1 ≤ n
  pub small : n ≤ 65535
  pub unused : is_used (ids_of link.in_flight) n ≡ false

first_unused : (xs ys : List ℕ) (n : ℕ) → is_used (xs ++ ys) n ≡ false → is_used xs n ≡ false
first_unused [] ys n none = refl
first_unused (x ∷ xs) ys n none =
    both_false (x == n) (is_used xs n) (first_false (x == n) (is_used (xs ++ ys) n) none)
    (first_unused xs ys n (later_false (x == n) (is_used (xs ++ ys) n) none))

pub next_is_free : (link : Link) → Fit link → length link.in_flight ≤ MAX_FLIGHT
    → Free link (next_packet_id link)
next_is_free link fit few =
    let count : length (ids_of link.in_flight) ≡ length link.in_flight =
    length-map link.in_flight (λ (sent : InFlight). sent.packet_id) in
    let all : length (ids_of link.in_flight ++ open_ids link.wanted)
    ≡ length (ids_of link.in_flight) + length (open_ids link.wanted) =
    length-append (ids_of link.in_flight) (open_ids link.wanted) in
    let free =
    next_free (ids_of link.in_flight ++ open_ids link.wanted) link.last
    (omega (arith, fit.few.few, few, ids_suffice)) fit.last in
    record {
      some = free.0;
      small = free.1;
      unused = first_unused (ids_of link.in_flight) (open_ids link.wanted)
          (next_packet_id link) free.2;
    }
