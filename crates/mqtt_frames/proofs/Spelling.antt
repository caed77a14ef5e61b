-- What is written is spelled.
use Rattle.std.proofs.Common.{◌≡◌, ◌≢◌, ℕ, zero, suc, ◌+◌, ◌^◌, ◌/◌, ◌%◌, ◌<◌, ◌≤◌, ◌==◌, ◌&&◌, not, Bool}
use Rattle.std.proofs.Common.{true, false, List, [], ◌∷◌, length, length-append, Option, Some, None, refl}
use Rattle.std.proofs.Common.{inl, inr, sym, subst, arith}
use Rattle.std.proofs.lemmas.Bool.{cases_lt, ltb-true}
use Rattle.std.proofs.lemmas.Bool.Decides.{nat_tests}
use Rattle.mqtt_frames.specs.declared.limits.TheConstants.{MAX_PACKET, MAX_REMAINING}
use Rattle.mqtt_frames.specs.declared.packet.Request.{Request}
use Rattle.mqtt_frames.specs.declared.packet.Packet.{Packet}
use Rattle.mqtt_frames.specs.declared.packet.Packet.TheVariants as variants
use Rattle.mqtt_frames.specs.RemainingLength.{groups, remaining_length}
use Rattle.mqtt_frames.specs.Packets.{number_bytes, text_bytes, id_bytes, requests_bytes, filters_bytes, body}
use Rattle.mqtt_frames.specs.Packets.{written}
use Rattle.mqtt_frames.specs.Spellable.{is_text, is_id, is_optional_id, are_requests, are_filters}
use Rattle.mqtt_frames.specs.Spellable.{has_spelling}
use Rattle.mqtt_frames.specs.Grammar.{SpellsNumber, SpellsId, SpellsText, SpellsGroups, SpellsLength}
use Rattle.mqtt_frames.specs.Grammar.{SpellsOptionalId, SpellsRequests, SpellsFilters, SpellsBody, Spells}
use Rattle.mqtt_frames.specs.Grammar.{IsOptionalInRange, IsInRange}
use Rattle.mqtt_frames.proofs.Groups.{groups-last, groups-next, length-remaining_length-last}
use Rattle.mqtt_frames.proofs.Groups.{length-remaining_length-next}

both : (a b : Bool) → (a && b) ≡ true → (a ≡ true) × (b ≡ true)
both true b is = (refl, is)
both false b is = cc

SpellsGroups-groups : (most n : ℕ) → n ≤ most → SpellsGroups n (groups most n)
SpellsGroups-groups zero n fits = inl (omega arith, refl, refl)
SpellsGroups-groups (suc most) n fits =
    elim (cases_lt n 128) [
      | inl small ↦ subst (SpellsGroups n) (sym (groups-last (suc most) n small)) (inl (small, refl, refl))
      | inr large ↦ subst (SpellsGroups n) (sym (groups-next most n large))
          (inr (
            omega arith,
            omega arith,
            (n / 128, omega arith, SpellsGroups-groups most (n / 128) (omega arith)),
          ))
    ]

at_most-one : (n : ℕ) → n < 128 → length (remaining_length n) ≤ 1
at_most-one n fits = omega (arith, length-remaining_length-last n fits)

at_most-two : (n : ℕ) → n < 16384 → length (remaining_length n) ≤ 2
at_most-two n fits =
    elim (cases_lt n 128) [
      | inl small ↦ omega (arith, at_most-one n small)
      | inr large ↦ omega (arith, length-remaining_length-next n large, at_most-one (n / 128) (omega arith))
    ]

pub at_most-three : (n : ℕ) → n < 2097152 → length (remaining_length n) ≤ 3
at_most-three n fits =
    elim (cases_lt n 128) [
      | inl small ↦ omega (arith, at_most-one n small)
      | inr large ↦ omega (arith, length-remaining_length-next n large, at_most-two (n / 128) (omega arith))
    ]

at_most-four : (n : ℕ) → n ≤ MAX_REMAINING → length (remaining_length n) ≤ 4
at_most-four n fits =
    elim (cases_lt n 128) [
      | inl small ↦ omega (arith, at_most-one n small)
      | inr large ↦ omega (arith, length-remaining_length-next n large, at_most-three (n / 128) (omega arith))
    ]

pub SpellsLength-remaining_length : (n : ℕ) → n ≤ MAX_REMAINING → SpellsLength n (remaining_length n)
unfolding remaining_length
SpellsLength-remaining_length n fits =
    record { groups = SpellsGroups-groups n n (omega arith); most = at_most-four n fits }

SpellsNumber-written : (n : ℕ) → n < 2 ^ 16 → SpellsNumber n (number_bytes n)
SpellsNumber-written n fits = record {
  high = n / 256 % 256;
  low = n % 256;
  is = record { high_fits = omega arith; low_fits = omega arith; value = omega arith };
  bytes = refl;
}

positive : (id : ℕ) → is_id id ≡ true → 0 < id
positive zero is = cc
positive (suc id) is = omega arith

SpellsId-written : (id : ℕ) → id < 2 ^ 16 → is_id id ≡ true → SpellsId id (number_bytes id)
SpellsId-written id fits is = record { positive = positive id is; number = SpellsNumber-written id fits }

SpellsText-written : (text : List ℕ) → is_text text ≡ true → SpellsText text (text_bytes text)
SpellsText-written text is = record {
  count = number_bytes (length text);
  number = SpellsNumber-written (length text) (ltb-true (length text) (2 ^ 16) is);
  bytes = refl;
}

SpellsOptionalId-written : (packet_id : Option ℕ) → IsOptionalInRange packet_id
    → is_optional_id packet_id ≡ true → SpellsOptionalId packet_id (id_bytes packet_id)
SpellsOptionalId-written None fits is = refl
SpellsOptionalId-written (Some id) fits is = SpellsId-written id (omega arith) is

SpellsRequests-written : (requests : List Request) → are_requests requests ≡ true
    → SpellsRequests requests (requests_bytes requests)
SpellsRequests-written [] are = refl
SpellsRequests-written (r ∷ requests) are =
    let parts = both (is_text r.filter) (are_requests requests) are in (
      text_bytes r.filter,
      requests_bytes requests,
      SpellsText-written r.filter parts.0,
      SpellsRequests-written requests parts.1,
      refl,
    )

SpellsFilters-written : (filters : List (List ℕ)) → are_filters filters ≡ true
    → SpellsFilters filters (filters_bytes filters)
SpellsFilters-written [] are = refl
SpellsFilters-written (f ∷ filters) are =
    let parts = both (is_text f) (are_filters filters) are in (
      text_bytes f,
      filters_bytes filters,
      SpellsText-written f parts.0,
      SpellsFilters-written filters parts.1,
      refl,
    )

not_empty : {A : Type 0} (xs : List A) → not (length xs == 0) ≡ true → xs ≢ []
not_empty [] is none = cc
not_empty (x ∷ xs) is none = cc

SpellsBody-written : (p : Packet) → IsInRange p → has_spelling p ≡ true → SpellsBody p (body p)
SpellsBody-written (variants.Connect c) fits is = record {
  keep_alive = number_bytes c.keep_alive;
  keep_alive_number = SpellsNumber-written c.keep_alive (omega arith);
  client_id = text_bytes c.client_id;
  client_id_text = SpellsText-written c.client_id is;
  bytes = refl;
}
SpellsBody-written (variants.ConnectAck a) fits is = refl
SpellsBody-written (variants.Publish p) fits is =
    let parts = both (is_optional_id p.packet_id) (is_text p.name) is in
    record {
      name = text_bytes p.name;
      name_text = SpellsText-written p.name parts.1;
      id = id_bytes p.packet_id;
      packet_id = SpellsOptionalId-written p.packet_id fits parts.0;
      bytes = refl;
    }
SpellsBody-written (variants.PublishAck id) fits is = SpellsId-written id (omega arith) is
SpellsBody-written (variants.Subscribe s) fits is =
    let parts = both (is_id s.packet_id && not (length s.requests == 0)) (are_requests s.requests) is in
    let front = both (is_id s.packet_id) (not (length s.requests == 0)) parts.0 in
    record {
      id_bytes = number_bytes s.packet_id;
      packet_id = SpellsId-written s.packet_id (omega arith) front.0;
      some = not_empty s.requests front.1;
      items_bytes = requests_bytes s.requests;
      listed = SpellsRequests-written s.requests parts.1;
      bytes = refl;
    }
SpellsBody-written (variants.SubscribeAck a) fits is =
    let parts = both (is_id a.packet_id) (not (length a.codes == 0)) is in
    record {
      id_bytes = number_bytes a.packet_id;
      packet_id = SpellsId-written a.packet_id (omega arith) parts.0;
      some = not_empty a.codes parts.1;
      items_bytes = _;
      listed = refl;
      bytes = refl;
    }
SpellsBody-written (variants.Unsubscribe u) fits is =
    let parts = both (is_id u.packet_id && not (length u.filters == 0)) (are_filters u.filters) is in
    let front = both (is_id u.packet_id) (not (length u.filters == 0)) parts.0 in
    record {
      id_bytes = number_bytes u.packet_id;
      packet_id = SpellsId-written u.packet_id (omega arith) front.0;
      some = not_empty u.filters front.1;
      items_bytes = filters_bytes u.filters;
      listed = SpellsFilters-written u.filters parts.1;
      bytes = refl;
    }
SpellsBody-written (variants.UnsubscribeAck id) fits is = SpellsId-written id (omega arith) is
SpellsBody-written variants.PingRequest fits is = refl
SpellsBody-written variants.PingResponse fits is = refl
SpellsBody-written variants.Disconnect fits is = refl

-- a packet whose texts, identifiers and lists have a spelling is written as bytes that spell it
pub Spells-written : (p : Packet) → IsInRange p → has_spelling p ≡ true → length (body p) ≤ MAX_REMAINING
    → Spells p (written p)
Spells-written p fits is short = record {
  behind = body p;
  variable = SpellsBody-written p fits is;
  remaining = remaining_length (length (body p));
  total = SpellsLength-remaining_length (length (body p)) short;
  bytes = refl;
}

pub length-written : (p : Packet)
    → length (written p) ≡ 1 + length (remaining_length (length (body p))) + length (body p)
length-written p = simp length-append (omega arith)

pub Spells-short : (p : Packet) → IsInRange p → has_spelling p ≡ true → length (written p) ≤ MAX_PACKET
    → Spells p (written p)
Spells-short p fits is short = Spells-written p fits is (omega (arith, length-written p))

-- the other way: what is spelled has such texts, identifiers and lists

is_id-positive : (id : ℕ) → 0 < id → is_id id ≡ true
is_id-positive id above = grind (arith, nat_tests)

is_text-spelled : (text b : List ℕ) → SpellsText text b → is_text text ≡ true
is_text-spelled text b s =
    let below : length text < 2 ^ 16 =
    omega (arith, s.number.is.value, s.number.is.high_fits, s.number.is.low_fits) in
    grind (arith, nat_tests)

are_requests-spelled : (requests : List Request) (b : List ℕ) → SpellsRequests requests b
    → are_requests requests ≡ true
are_requests-spelled [] b s = refl
are_requests-spelled (r ∷ requests) b s =
    rw (is_text-spelled r.filter s.0 s.2) (are_requests-spelled requests s.1 s.3)

are_filters-spelled : (filters : List (List ℕ)) (b : List ℕ) → SpellsFilters filters b
    → are_filters filters ≡ true
are_filters-spelled [] b s = refl
are_filters-spelled (f ∷ filters) b s = rw (is_text-spelled f s.0 s.2) (are_filters-spelled filters s.1 s.3)

has_items : {A : Type 0} (xs : List A) → xs ≢ [] → not (length xs == 0) ≡ true
has_items [] some = absurd (some refl)
has_items (x ∷ xs) some = let above : 0 < length (x ∷ xs) = omega arith in grind (arith, nat_tests)

is_optional_id-spelled : (packet_id : Option ℕ) (b : List ℕ) → SpellsOptionalId packet_id b
    → is_optional_id packet_id ≡ true
is_optional_id-spelled None b s = refl
is_optional_id-spelled (Some id) b s = is_id-positive id s.positive

has_spelling-body : (p : Packet) (b : List ℕ) → SpellsBody p b → has_spelling p ≡ true
has_spelling-body (variants.Connect c) b s = is_text-spelled c.client_id s.client_id s.client_id_text
has_spelling-body (variants.ConnectAck a) b s = refl
has_spelling-body (variants.Publish p) b s =
    rw (is_optional_id-spelled p.packet_id s.id s.packet_id) (is_text-spelled p.name s.name s.name_text)
has_spelling-body (variants.PublishAck id) b s = is_id-positive id s.positive
has_spelling-body (variants.Subscribe s) b l =
    rw (is_id-positive s.packet_id l.packet_id.positive, has_items s.requests l.some)
    (are_requests-spelled s.requests l.items_bytes l.listed)
has_spelling-body (variants.SubscribeAck a) b l =
    rw (is_id-positive a.packet_id l.packet_id.positive) (has_items a.codes l.some)
has_spelling-body (variants.Unsubscribe u) b l =
    rw (is_id-positive u.packet_id l.packet_id.positive, has_items u.filters l.some)
    (are_filters-spelled u.filters l.items_bytes l.listed)
has_spelling-body (variants.UnsubscribeAck id) b s = is_id-positive id s.positive
has_spelling-body variants.PingRequest b s = refl
has_spelling-body variants.PingResponse b s = refl
has_spelling-body variants.Disconnect b s = refl

pub has_spelling-spelled : (p : Packet) (b : List ℕ) → Spells p b → has_spelling p ≡ true
has_spelling-spelled p b s = has_spelling-body p s.behind s.variable
