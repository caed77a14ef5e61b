-- What is read is spelled by the grammar.
use Rattle.std.proofs.Common.{◌≡◌, ◌≢◌, ℕ, zero, suc, ◌+◌, ◌-◌, ◌*◌, ◌/◌, ◌%◌, ◌<◌, ◌≤◌, ◌==◌, Bool, true}
use Rattle.std.proofs.Common.{false, List, [], ◌∷◌, ◌++◌, length, take, drop, length-drop, if◌then◌else◌}
use Rattle.std.proofs.Common.{Option, Some, None, is_some, inl, inr, Result, Ok, Err, refl, ap, sym, subst}
use Rattle.std.proofs.Common.{◌∙◌, arith}
use Rattle.std.proofs.lemmas.Bool.{cases_lt, lt-ltb, le-ltb, eqb-true}
use Rattle.std.proofs.lemmas.List.{take-append-drop, append-nil, length-take, length-take-le}
use Rattle.std.proofs.Math.Seq.{take-add}
use Rattle.std.specs.Str.{bytes_eq}
use Rattle.std.specs.Cmp.Lexicographic.{same_text}
use Rattle.mqtt_frames.specs.declared.limits.TheConstants.{MAX_PACKET}
use Rattle.mqtt_frames.specs.declared.fault.PacketFault.{PacketFault}
use Rattle.mqtt_frames.specs.declared.fault.PacketFault.TheVariants.{Malformed, NotSupported, TooLong}
use Rattle.mqtt_frames.specs.declared.packet.Connect.{Connect}
use Rattle.mqtt_frames.specs.declared.packet.Publish.{Publish}
use Rattle.mqtt_frames.specs.declared.packet.Request.{Request}
use Rattle.mqtt_frames.specs.declared.packet.SubscribeCode.{SubscribeCode}
use Rattle.mqtt_frames.specs.declared.packet.SubscribeCode.TheVariants.{Granted, Refused}
use Rattle.mqtt_frames.specs.declared.packet.Packet.{Packet}
use Rattle.mqtt_frames.specs.declared.packet.Packet.TheVariants as variants
use Rattle.mqtt_frames.specs.declared.kind.PublishFlags.{PublishFlags}
use Rattle.mqtt_frames.specs.declared.kind.Kind.{Kind}
use Rattle.mqtt_frames.specs.declared.kind.Kind.TheVariants as kinds
use Rattle.mqtt_frames.specs.declared.header.Length.{Length}
use Rattle.mqtt_frames.specs.declared.header.Length.TheVariants as lengths
use Rattle.mqtt_frames.specs.declared.header.Header.{Header}
use Rattle.mqtt_frames.specs.declared.header.Header.TheVariants as headers
use Rattle.mqtt_frames.specs.declared.wire.decode.Front.TheVariants as fronts
use Rattle.mqtt_frames.specs.Packets.{flag, qos_bits, first_byte, code_byte, codes_bytes, protocol}
use Rattle.mqtt_frames.specs.Grammar.{SpellsNumber, SpellsId, SpellsText, SpellsGroups, SpellsOptionalId}
use Rattle.mqtt_frames.specs.Grammar.{SpellsRequests, SpellsFilters, SpellsBody, Spells}
use Rattle.mqtt_frames.specs.Kinds.{publish_flags, publish_kind, is_of_qos_2, kind_of}
use Rattle.mqtt_frames.specs.Reading.{◌>>=◌, number_at, id_at, text_at, at_end, connect_of, connect_behind}
use Rattle.mqtt_frames.specs.Reading.{connect_rest, session_of, connect_ack_of, optional_id_at, publish_of}
use Rattle.mqtt_frames.specs.Reading.{whole_id, qos_of, request_at, items_within, items_of, code_of, codes_of}
use Rattle.mqtt_frames.specs.Reading.{some_of, subscribe_of, subscribe_ack_of, unsubscribe_of, body_of}
use Rattle.mqtt_frames.specs.Headers.{behind_group, length_at, with_kind, with_length, header_at}
use Rattle.mqtt_frames.specs.Fronts.{sized, behind_header, decode}
use Rattle.mqtt_frames.specs.Laws.{AreBytes}
use Rattle.mqtt_frames.proofs.FieldLemmas.{bind_ok, guard_ok, pass_ok, either, link, done, ok_is, IsText}
use Rattle.mqtt_frames.proofs.FieldLemmas.{number_at-reads, id_at-reads, text_at-reads, request_at-reads}
use Rattle.mqtt_frames.proofs.FieldLemmas.{qos_of-reads}

AreBytes-behind : (xs ys : List ℕ) → AreBytes (xs ++ ys) → AreBytes ys
AreBytes-behind [] ys are = are
AreBytes-behind (x ∷ xs) ys are = AreBytes-behind xs ys are.1

AreBytes-front : (xs ys : List ℕ) → AreBytes (xs ++ ys) → AreBytes xs
AreBytes-front [] ys are = tt
AreBytes-front (x ∷ xs) ys are = (are.0, AreBytes-front xs ys are.1)

pub AreBytes-drop : (n : ℕ) (xs : List ℕ) → AreBytes xs → AreBytes (drop n xs)
AreBytes-drop n xs are =
    AreBytes-behind (take n xs) (drop n xs) (subst AreBytes (sym (take-append-drop n xs)) are)

AreBytes-take : (n : ℕ) (xs : List ℕ) → AreBytes xs → AreBytes (take n xs)
AreBytes-take n xs are =
    AreBytes-front (take n xs) (drop n xs) (subst AreBytes (sym (take-append-drop n xs)) are)

-- the fixed header

pub record IsLength (bytes : List ℕ) (n size : ℕ) : Type 0 where
  pub groups : SpellsGroups n (take size bytes)
  pub within : size ≤ length bytes

pub record IsBehind (b : ℕ) (l : Length) (n size : ℕ) : Type 0 where
  pub value : ℕ
  pub others : ℕ
  pub told : l ≡ lengths.Known value others
  pub total : n ≡ b - 128 + 128 * value
  pub count : size ≡ others + 1

pub behind_group-told : (b : ℕ) (l : Length) (n size : ℕ) → behind_group b l ≡ lengths.Known n size
    → IsBehind b l n size
behind_group-told b lengths.Unfinished n size is = absurd cc
behind_group-told b lengths.Overlong n size is = absurd cc
behind_group-told b (lengths.Known value others) n size is =
    record { value = value; others = others; told = refl; total = cc; count = cc }

pub length_at-spelled : (most : ℕ) (bytes : List ℕ) (n size : ℕ) → AreBytes bytes
    → length_at most bytes ≡ lengths.Known n size → IsLength bytes n size × (size ≤ most)
length_at-spelled zero bytes n size are is = absurd cc
length_at-spelled (suc most) [] n size are is = absurd cc
length_at-spelled (suc most) (b ∷ bytes) n size are is =
    elim (cases_lt b 128) [
      | inl small ↦ (let one : lengths.Known b 1 ≡ lengths.Known n size = rw (lt-ltb b 128 small) at is in
          let value : b ≡ n = cc in
          let count : 1 ≡ size = cc in
          subst (λ (k : ℕ). IsLength (b ∷ bytes) n k × (k ≤ suc most)) count
          (record { groups = inl (small, sym value, refl); within = omega arith }, omega arith))
      | inr large ↦ (let next = behind_group-told b (length_at most bytes) n size
          (rw (le-ltb b 128 large) at is) in
          let others = length_at-spelled most bytes next.value next.others are.1 next.told in
          let count : suc next.others ≡ size = omega (arith, next.count) in
          subst (λ (k : ℕ). IsLength (b ∷ bytes) n k × (k ≤ suc most)) count (
            record {
              groups = inr (large, are.0, (next.value, omega (arith, next.total), others.0.groups));
              within = omega (arith, others.0.within);
            },
            omega (arith, others.1),
          ))
    ]

-- the first byte of a kind
abbrev pub byte_of : Kind → ℕ
byte_of kinds.Connect = 16
byte_of kinds.ConnectAck = 32
byte_of (kinds.Publish f) = 48 + flag f.dup 8 + flag f.identified 2 + flag f.retain 1
byte_of kinds.PublishAck = 64
byte_of kinds.Subscribe = 130
byte_of kinds.SubscribeAck = 144
byte_of kinds.Unsubscribe = 162
byte_of kinds.UnsubscribeAck = 176
byte_of kinds.PingRequest = 192
byte_of kinds.PingResponse = 208
byte_of kinds.Disconnect = 224

pub flag-8 : (n : ℕ) → n < 2 → flag (n == 1) 8 ≡ 8 * n
flag-8 zero small = refl
flag-8 (suc zero) small = refl
flag-8 (suc (suc n)) small = absurd (omega arith)

pub flag-1 : (n : ℕ) → n < 2 → flag (n == 1) 1 ≡ n
flag-1 zero small = refl
flag-1 (suc zero) small = refl
flag-1 (suc (suc n)) small = absurd (omega arith)

publish_byte-is : (bits : ℕ) (identified : Bool) → bits < 16 → flag identified 2 ≡ 2 * (bits / 2 % 4)
    → byte_of (kinds.Publish (publish_flags bits identified)) ≡ 48 + bits
publish_byte-is bits identified small qos =
    omega (arith, flag-8 (bits / 8) (omega arith), flag-1 (bits % 2) (omega arith))

not_ok : {A : Type 0} (fault : PacketFault) (x : A) → Err fault ≡ done x → ⊥
not_ok fault x is = cc

publish_kind-reads : (bits : ℕ) (kind : Kind) → bits < 16 → publish_kind bits ≡ Ok kind
    → byte_of kind ≡ 48 + bits
publish_kind-reads bits kind small is =
    elim (either (bits / 2 % 4 == 0) _ _ kind is) [
      | inl none ↦ (let bits_are : bits / 2 % 4 ≡ 0 = eqb-true (bits / 2 % 4) 0 none.0 in
          ap byte_of (sym (ok_is _ kind none.1)) ∙ publish_byte-is bits false small (omega arith))
      | inr some ↦ elim (either (bits / 2 % 4 == 1) _ _ kind some.1) [
        | inl one ↦ (let bits_are : bits / 2 % 4 ≡ 1 = eqb-true (bits / 2 % 4) 1 one.0 in
            ap byte_of (sym (ok_is _ kind one.1)) ∙ publish_byte-is bits true small (omega arith))
        | inr more ↦ elim (either (bits / 2 % 4 == 2) (Err NotSupported) (Err Malformed) kind more.1) [
          | inl two ↦ absurd (not_ok NotSupported kind two.1)
          | inr three ↦ absurd (not_ok Malformed kind three.1)
        ]
      ]
    ]

pub kind_of-reads : (first : ℕ) (kind : Kind) → kind_of first ≡ Ok kind → byte_of kind ≡ first
kind_of-reads first kind is =
    link first 16 kinds.Connect _ kind byte_of refl (λ a.
    link first 32 kinds.ConnectAck _ kind byte_of refl (λ b.
    link first 64 kinds.PublishAck _ kind byte_of refl (λ c.
    let d = guard_ok (is_of_qos_2 first) NotSupported _ kind c in
    link first 130 kinds.Subscribe _ kind byte_of refl (λ e.
    link first 144 kinds.SubscribeAck _ kind byte_of refl (λ f.
    link first 162 kinds.Unsubscribe _ kind byte_of refl (λ g.
    link first 176 kinds.UnsubscribeAck _ kind byte_of refl (λ h.
    link first 192 kinds.PingRequest _ kind byte_of refl (λ i.
    link first 208 kinds.PingResponse _ kind byte_of refl (λ j.
    link first 224 kinds.Disconnect _ kind byte_of refl (λ k.
    let l = pass_ok (first / 16 == 3) Malformed (publish_kind (first % 16)) kind k in
    let high : first / 16 ≡ 3 = eqb-true (first / 16) 3 l.0 in
    let low = publish_kind-reads (first % 16) kind (omega arith) l.1 in
    omega arith) j) i) h) g) f) e) d.1) b) a) is

-- what was taken from the front
record Took (SpellsIt : List ℕ → Type 0) (bytes rest : List ℕ) : Type 0 where
  taken : List ℕ
  spelled : SpellsIt taken
  parts : bytes ≡ taken ++ rest
  others : AreBytes rest

number-took : (bytes : List ℕ) (x : ℕ × List ℕ) → AreBytes bytes → number_at bytes ≡ Ok x
    → Took (SpellsNumber x.0) bytes x.1
number-took bytes x are is =
    let s = number_at-reads bytes x is in
    let all = subst AreBytes s.parts are in
    record {
      taken = s.high ∷ s.low ∷ [];
      spelled =
          record {
            high = s.high;
            low = s.low;
            is = record { high_fits = all.0; low_fits = all.1.0; value = s.value };
            bytes = refl;
          };
      parts = s.parts;
      others = all.1.1;
    }

id-took : (bytes : List ℕ) (x : ℕ × List ℕ) → AreBytes bytes → id_at bytes ≡ Ok x
    → Took (SpellsId x.0) bytes x.1
id-took bytes x are is =
    let r = id_at-reads bytes x is in
    let s = r.1 in
    let all = subst AreBytes s.parts are in
    record {
      taken = s.high ∷ s.low ∷ [];
      spelled =
          record {
            positive = r.0;
            number = record {
              high = s.high;
              low = s.low;
              is = record { high_fits = all.0; low_fits = all.1.0; value = s.value };
              bytes = refl;
            };
          };
      parts = s.parts;
      others = all.1.1;
    }

is_text-took : (bytes text rest : List ℕ) → AreBytes bytes → IsText bytes text rest
    → Took (SpellsText text) bytes rest
is_text-took bytes text rest are t =
    let all = subst AreBytes t.parts are in
    record {
      taken = t.high ∷ t.low ∷ text;
      spelled = record {
        count = t.high ∷ t.low ∷ [];
        number =
            record {
              high = t.high;
              low = t.low;
              is = record { high_fits = all.0; low_fits = all.1.0; value = t.value };
              bytes = refl;
            };
        bytes = refl;
      };
      parts = t.parts;
      others = AreBytes-behind text rest all.1.1;
    }

text-took : (bytes : List ℕ) (x : List ℕ × List ℕ) → AreBytes bytes → text_at bytes ≡ Ok x
    → Took (SpellsText x.0) bytes x.1
text-took bytes x are is = is_text-took bytes x.0 x.1 are (text_at-reads bytes x is)

optional_id-took : (identified : Bool) (bytes : List ℕ) (x : Option ℕ × List ℕ) → AreBytes bytes
    → optional_id_at identified bytes ≡ Ok x
    → Took (SpellsOptionalId x.0) bytes x.1 × (is_some x.0 ≡ identified)
optional_id-took false bytes x are is =
    let same : (None, bytes) ≡ x = ok_is (None, bytes) x is in
    subst (λ (y : Option ℕ × List ℕ). Took (SpellsOptionalId y.0) bytes y.1 × (is_some y.0 ≡ false)) same
    (record { taken = []; spelled = refl; parts = refl; others = are }, refl)
optional_id-took true bytes x are is =
    let id = bind_ok (id_at bytes) (λ id. Ok (Some id.0, id.1)) x is in
    let same : (Some id.0.0, id.0.1) ≡ x = ok_is (Some id.0.0, id.0.1) x id.2 in
    let t = id-took bytes id.0 are id.1 in
    subst (λ (y : Option ℕ × List ℕ). Took (SpellsOptionalId y.0) bytes y.1 × (is_some y.0 ≡ true)) same
    (record { taken = t.taken; spelled = t.spelled; parts = t.parts; others = t.others }, refl)

at_end-is : {A : Type 0} (x y : A) (rest : List ℕ) → at_end x rest ≡ Ok y → (rest ≡ []) × (x ≡ y)
at_end-is x y [] is = (refl, ok_is x y is)
at_end-is x y (b ∷ rest) is = absurd cc

-- lists

requests-spelled : (most : ℕ) (bytes : List ℕ) (requests : List Request) → AreBytes bytes
    → items_within request_at most bytes ≡ Ok requests → SpellsRequests requests bytes
requests-spelled zero [] requests are is =
    subst (λ (rs : List Request). SpellsRequests rs []) (ok_is [] requests is) refl
requests-spelled (suc most) [] requests are is =
    subst (λ (rs : List Request). SpellsRequests rs []) (ok_is [] requests is) refl
requests-spelled zero (b ∷ bytes) requests are is = absurd cc
requests-spelled (suc most) (b ∷ bytes) requests are is =
    let item =
    bind_ok (request_at (b ∷ bytes))
    (λ item. items_within request_at most item.1 >>= λ items. Ok (item.0 ∷ items)) requests is in
    let others =
    bind_ok (items_within request_at most item.0.1) (λ items. Ok (item.0.0 ∷ items)) requests item.2 in
    let r = request_at-reads (b ∷ bytes) item.0 item.1 in
    let t = is_text-took (b ∷ bytes) item.0.0.filter r.behind are r.filter in
    let behind = subst AreBytes r.parts t.others in
    subst (λ (rs : List Request). SpellsRequests rs (b ∷ bytes))
    (ok_is (item.0.0 ∷ others.0) requests others.2) (
      t.taken,
      item.0.1,
      t.spelled,
      requests-spelled most item.0.1 others.0 behind.1 others.1,
      t.parts ∙ ap (λ (x : List ℕ). t.taken ++ x) r.parts,
    )

filters-spelled : (most : ℕ) (bytes : List ℕ) (filters : List (List ℕ)) → AreBytes bytes
    → items_within text_at most bytes ≡ Ok filters → SpellsFilters filters bytes
filters-spelled zero [] filters are is =
    subst (λ (fs : List (List ℕ)). SpellsFilters fs []) (ok_is [] filters is) refl
filters-spelled (suc most) [] filters are is =
    subst (λ (fs : List (List ℕ)). SpellsFilters fs []) (ok_is [] filters is) refl
filters-spelled zero (b ∷ bytes) filters are is = absurd cc
filters-spelled (suc most) (b ∷ bytes) filters are is =
    let item =
    bind_ok (text_at (b ∷ bytes))
    (λ item. items_within text_at most item.1 >>= λ items. Ok (item.0 ∷ items)) filters is in
    let others =
    bind_ok (items_within text_at most item.0.1) (λ items. Ok (item.0.0 ∷ items)) filters item.2 in
    let t = text-took (b ∷ bytes) item.0 are item.1 in
    subst (λ (fs : List (List ℕ)). SpellsFilters fs (b ∷ bytes))
    (ok_is (item.0.0 ∷ others.0) filters others.2)
    (t.taken, item.0.1, t.spelled, filters-spelled most item.0.1 others.0 t.others others.1, t.parts)

code_of-reads : (byte : ℕ) (code : SubscribeCode) → code_of byte ≡ Ok code → code_byte code ≡ byte
code_of-reads byte code is =
    link byte 128 Refused _ code code_byte refl (λ others.
    let qos = bind_ok (qos_of byte) (λ qos. Ok (Granted qos)) code others in
    ap code_byte (sym (ok_is (Granted qos.0) code qos.2)) ∙ qos_of-reads byte qos.0 qos.1) is

codes-spelled : (bytes : List ℕ) (codes : List SubscribeCode) → codes_of bytes ≡ Ok codes
    → bytes ≡ codes_bytes codes
codes-spelled [] codes is = ap codes_bytes (ok_is [] codes is)
codes-spelled (byte ∷ bytes) codes is =
    let code = bind_ok (code_of byte) (λ code. codes_of bytes >>= λ codes. Ok (code ∷ codes)) codes is in
    let others = bind_ok (codes_of bytes) (λ codes. Ok (code.0 ∷ codes)) codes code.2 in
    ap (λ b. b ∷ bytes) (sym (code_of-reads byte code.0 code.1))
    ∙ ap (λ (bs : List ℕ). code_byte code.0 ∷ bs) (codes-spelled bytes others.0 others.1)
    ∙ ap codes_bytes (ok_is (code.0 ∷ others.0) codes others.2)

-- there are bytes, and what they are all read as
some_of-is : {A : Type 0} (all_of : List ℕ → Result (List A) PacketFault) (bytes : List ℕ) (xs : List A)
    → some_of all_of bytes ≡ Ok xs → (bytes ≢ []) × (all_of bytes ≡ Ok xs)
some_of-is all_of [] xs is = absurd cc
some_of-is all_of (b ∷ bytes) xs is = (λ none. cc, is)

-- the variable header and the payload

abbrev IsBody : Kind → List ℕ → Packet → Type 0
IsBody kind body p = SpellsBody p body × (first_byte p ≡ byte_of kind)

record IsConnect (clean_session : Bool) (bytes : List ℕ) (p : Packet) : Type 0 where
  connect : Connect
  is : variants.Connect connect ≡ p
  clean : connect.clean_session ≡ clean_session
  keep_alive : List ℕ
  keep_alive_number : SpellsNumber connect.keep_alive keep_alive
  client_id : List ℕ
  client_id_text : SpellsText connect.client_id client_id
  parts : bytes ≡ keep_alive ++ client_id

connect_rest-spelled : (clean_session : Bool) (bytes : List ℕ) (p : Packet) → AreBytes bytes
    → connect_rest clean_session bytes ≡ Ok p → IsConnect clean_session bytes p
connect_rest-spelled clean_session bytes p are is =
    let keep =
    bind_ok (number_at bytes)
    (λ keep_alive. text_at keep_alive.1 >>= λ client_id. at_end
    (variants.Connect (record {
      clean_session = clean_session;
      keep_alive = keep_alive.0;
      client_id = client_id.0;
    })) client_id.1) p is in
    let k = number-took bytes keep.0 are keep.1 in
    let id =
    bind_ok (text_at keep.0.1)
    (λ client_id. at_end (variants.Connect
    (record { clean_session = clean_session; keep_alive = keep.0.0; client_id = client_id.0 }))
    client_id.1) p keep.2 in
    let t = text-took keep.0.1 id.0 k.others id.1 in
    let end =
    at_end-is (variants.Connect (record {
      clean_session = clean_session;
      keep_alive = keep.0.0;
      client_id = id.0.0;
    })) p id.0.1 id.2 in
    record {
      connect = record { clean_session = clean_session; keep_alive = keep.0.0; client_id = id.0.0 };
      is = end.1;
      clean = refl;
      keep_alive = k.taken;
      keep_alive_number = k.spelled;
      client_id = t.taken;
      client_id_text = t.spelled;
      parts = k.parts
          ∙ ap (λ (x : List ℕ). k.taken ++ x)
          (t.parts ∙ ap (λ (x : List ℕ). t.taken ++ x) end.0 ∙ append-nil t.taken);
    }

record IsFlagged (bytes : List ℕ) (p : Packet) : Type 0 where
  clean_session : Bool
  rest : List ℕ
  parts : bytes ≡ flag clean_session 2 ∷ rest
  connect : IsConnect clean_session rest p

connect_behind-spelled : (bytes : List ℕ) (p : Packet) → AreBytes bytes → connect_behind bytes ≡ Ok p
    → IsFlagged bytes p
connect_behind-spelled [] p are is = absurd cc
connect_behind-spelled (flags ∷ rest) p are is =
    elim (either (flags == 0) (connect_rest false rest)
    (if flags == 2 then connect_rest true rest else Err NotSupported) p is) [
      | inl none ↦ record {
        clean_session = false;
        rest = rest;
        parts = ap (λ f. f ∷ rest) (eqb-true flags 0 none.0);
        connect = connect_rest-spelled false rest p are.1 none.1;
      }
      | inr other ↦ (let two = pass_ok (flags == 2) NotSupported (connect_rest true rest) p other.1 in
          record {
            clean_session = true;
            rest = rest;
            parts = ap (λ f. f ∷ rest) (eqb-true flags 2 two.0);
            connect = connect_rest-spelled true rest p are.1 two.1;
          })
    ]

connect-spelled : (body : List ℕ) (p : Packet) → AreBytes body → connect_of body ≡ Ok p
    → IsBody kinds.Connect body p
connect-spelled body p are is =
    let t = pass_ok (bytes_eq (take 7 body) protocol) Malformed (connect_behind (drop 7 body)) p is in
    let front : take 7 body ≡ protocol = same_text (take 7 body) protocol (sym t.0) in
    let f = connect_behind-spelled (drop 7 body) p (AreBytes-drop 7 body are) t.1 in
    let c = f.connect in
    let whole : body ≡ protocol ++ (flag c.connect.clean_session 2 ∷ (c.keep_alive ++ c.client_id)) =
    sym (take-append-drop 7 body) ∙ ap (λ (x : List ℕ). x ++ drop 7 body) front
    ∙ ap (λ (x : List ℕ). protocol ++ x)
    (f.parts ∙ ap (λ (x : List ℕ). flag f.clean_session 2 ∷ x) c.parts
    ∙ ap (λ b. flag b 2 ∷ (c.keep_alive ++ c.client_id)) (sym c.clean)) in
    subst (IsBody kinds.Connect body) c.is (
      record {
        keep_alive = c.keep_alive;
        keep_alive_number = c.keep_alive_number;
        client_id = c.client_id;
        client_id_text = c.client_id_text;
        bytes = whole;
      },
      refl,
    )

session_of-reads : (flags : ℕ) (present : Bool) → session_of flags ≡ Ok present → flag present 1 ≡ flags
session_of-reads flags present is =
    link flags 0 false _ present (λ b. flag b 1) refl
    (λ one. link flags 1 true (Err Malformed) present (λ b. flag b 1) refl
    (λ more. absurd (not_ok Malformed present more)) one) is

ack-spelled : (body : List ℕ) (p : Packet) → connect_ack_of body ≡ Ok p → IsBody kinds.ConnectAck body p
ack-spelled [] p is = absurd cc
ack-spelled (a ∷ []) p is = absurd cc
ack-spelled (flags ∷ code ∷ []) p is =
    let present =
    bind_ok (session_of flags)
    (λ session_present. Ok (variants.ConnectAck (record { session_present = session_present; code = code })))
    p is in
    subst (IsBody kinds.ConnectAck (flags ∷ code ∷ []))
    (ok_is (variants.ConnectAck (record { session_present = present.0; code = code })) p present.2)
    (ap (λ f. f ∷ code ∷ []) (sym (session_of-reads flags present.0 present.1)), refl)
ack-spelled (a ∷ b ∷ c ∷ d) p is = absurd cc

identified-bits : (id : Option ℕ) (identified : Bool) → is_some id ≡ identified
    → qos_bits id ≡ flag identified 2
identified-bits None identified is = ap (λ b. flag b 2) is
identified-bits (Some id) identified is = ap (λ b. flag b 2) is

publish-spelled : (f : PublishFlags) (body : List ℕ) (p : Packet) → AreBytes body → publish_of f body ≡ Ok p
    → IsBody (kinds.Publish f) body p
publish-spelled f body p are is =
    let name =
    bind_ok (text_at body)
    (λ name. optional_id_at f.identified name.1 >>= λ id. Ok
    (variants.Publish (record {
      dup = f.dup;
      retain = f.retain;
      packet_id = id.0;
      name = name.0;
      payload = id.1;
    }))) p is in
    let n = text-took body name.0 are name.1 in
    let id =
    bind_ok (optional_id_at f.identified name.0.1)
    (λ id. Ok (variants.Publish (record {
      dup = f.dup;
      retain = f.retain;
      packet_id = id.0;
      name = name.0.0;
      payload = id.1;
    }))) p name.2 in
    let i = optional_id-took f.identified name.0.1 id.0 n.others id.1 in
    let publish : Publish =
    record { dup = f.dup; retain = f.retain; packet_id = id.0.0; name = name.0.0; payload = id.0.1 } in
    subst (IsBody (kinds.Publish f) body) (ok_is (variants.Publish publish) p id.2) (
      record {
        name = n.taken;
        name_text = n.spelled;
        id = i.0.taken;
        packet_id = i.0.spelled;
        bytes = n.parts ∙ ap (λ (x : List ℕ). n.taken ++ x) i.0.parts;
      },
      ap (λ (q : ℕ). 48 + flag f.dup 8 + q + flag f.retain 1) (identified-bits id.0.0 f.identified i.1),
    )

whole_id-spelled : (body : List ℕ) (id : ℕ) → AreBytes body → whole_id body ≡ Ok id → SpellsId id body
whole_id-spelled body id are is =
    let x = bind_ok (id_at body) (λ id. at_end id.0 id.1) id is in
    let t = id-took body x.0 are x.1 in
    let end = at_end-is x.0.0 id x.0.1 x.2 in
    let whole : t.taken ≡ body =
    sym (append-nil t.taken) ∙ ap (λ (y : List ℕ). t.taken ++ y) (sym end.0) ∙ sym t.parts in
    subst (λ (n : ℕ). SpellsId n body) end.1 (subst (SpellsId x.0.0) whole t.spelled)

subscribe-spelled : (body : List ℕ) (p : Packet) → AreBytes body → subscribe_of body ≡ Ok p
    → IsBody kinds.Subscribe body p
subscribe-spelled body p are is =
    let id =
    bind_ok (id_at body)
    (λ id. some_of (items_of request_at) id.1 >>= λ requests. Ok
    (variants.Subscribe (record { packet_id = id.0; requests = requests }))) p is in
    let t = id-took body id.0 are id.1 in
    let rs =
    bind_ok (some_of (items_of request_at) id.0.1)
    (λ requests. Ok (variants.Subscribe (record { packet_id = id.0.0; requests = requests }))) p id.2 in
    let some = some_of-is (items_of request_at) id.0.1 rs.0 rs.1 in
    let listed = requests-spelled (length id.0.1) id.0.1 rs.0 t.others some.1 in
    subst (IsBody kinds.Subscribe body)
    (ok_is (variants.Subscribe (record { packet_id = id.0.0; requests = rs.0 })) p rs.2) (
      record {
        id_bytes = t.taken;
        packet_id = t.spelled;
        some = λ none. some.0 (subst (λ (xs : List Request). SpellsRequests xs id.0.1) none listed);
        items_bytes = id.0.1;
        listed = listed;
        bytes = t.parts;
      },
      refl,
    )

unsubscribe-spelled : (body : List ℕ) (p : Packet) → AreBytes body → unsubscribe_of body ≡ Ok p
    → IsBody kinds.Unsubscribe body p
unsubscribe-spelled body p are is =
    let id =
    bind_ok (id_at body)
    (λ id. some_of (items_of text_at) id.1 >>= λ filters. Ok
    (variants.Unsubscribe (record { packet_id = id.0; filters = filters }))) p is in
    let t = id-took body id.0 are id.1 in
    let fs =
    bind_ok (some_of (items_of text_at) id.0.1)
    (λ filters. Ok (variants.Unsubscribe (record { packet_id = id.0.0; filters = filters }))) p id.2 in
    let some = some_of-is (items_of text_at) id.0.1 fs.0 fs.1 in
    let listed = filters-spelled (length id.0.1) id.0.1 fs.0 t.others some.1 in
    subst (IsBody kinds.Unsubscribe body)
    (ok_is (variants.Unsubscribe (record { packet_id = id.0.0; filters = fs.0 })) p fs.2) (
      record {
        id_bytes = t.taken;
        packet_id = t.spelled;
        some = λ none. some.0 (subst (λ (xs : List (List ℕ)). SpellsFilters xs id.0.1) none listed);
        items_bytes = id.0.1;
        listed = listed;
        bytes = t.parts;
      },
      refl,
    )

subscribe_ack-spelled : (body : List ℕ) (p : Packet) → AreBytes body → subscribe_ack_of body ≡ Ok p
    → IsBody kinds.SubscribeAck body p
subscribe_ack-spelled body p are is =
    let id =
    bind_ok (id_at body)
    (λ id. some_of codes_of id.1 >>= λ codes. Ok
    (variants.SubscribeAck (record { packet_id = id.0; codes = codes }))) p is in
    let t = id-took body id.0 are id.1 in
    let cs =
    bind_ok (some_of codes_of id.0.1)
    (λ codes. Ok (variants.SubscribeAck (record { packet_id = id.0.0; codes = codes }))) p id.2 in
    let some = some_of-is codes_of id.0.1 cs.0 cs.1 in
    let listed = codes-spelled id.0.1 cs.0 some.1 in
    subst (IsBody kinds.SubscribeAck body)
    (ok_is (variants.SubscribeAck (record { packet_id = id.0.0; codes = cs.0 })) p cs.2) (
      record {
        id_bytes = t.taken;
        packet_id = t.spelled;
        some = λ none. some.0 (listed ∙ ap codes_bytes none);
        items_bytes = id.0.1;
        listed = listed;
        bytes = t.parts;
      },
      refl,
    )

empty-spelled : (kind : Kind) (packet p : Packet) (body : List ℕ) → IsBody kind [] packet
    → at_end packet body ≡ Ok p → IsBody kind body p
empty-spelled kind packet p body spelled is =
    let end = at_end-is packet p body is in
    subst (IsBody kind body) end.1 (subst (λ (b : List ℕ). IsBody kind b packet) (sym end.0) spelled)

body-spelled : (kind : Kind) (body : List ℕ) (p : Packet) → AreBytes body → body_of kind body ≡ Ok p
    → IsBody kind body p
body-spelled kinds.Connect body p are is = connect-spelled body p are is
body-spelled kinds.ConnectAck body p are is = ack-spelled body p is
body-spelled (kinds.Publish f) body p are is = publish-spelled f body p are is
body-spelled kinds.PublishAck body p are is =
    let id = bind_ok (whole_id body) (λ id. Ok (variants.PublishAck id)) p is in
    subst (IsBody kinds.PublishAck body) (ok_is (variants.PublishAck id.0) p id.2)
    (whole_id-spelled body id.0 are id.1, refl)
body-spelled kinds.Subscribe body p are is = subscribe-spelled body p are is
body-spelled kinds.SubscribeAck body p are is = subscribe_ack-spelled body p are is
body-spelled kinds.Unsubscribe body p are is = unsubscribe-spelled body p are is
body-spelled kinds.UnsubscribeAck body p are is =
    let id = bind_ok (whole_id body) (λ id. Ok (variants.UnsubscribeAck id)) p is in
    subst (IsBody kinds.UnsubscribeAck body) (ok_is (variants.UnsubscribeAck id.0) p id.2)
    (whole_id-spelled body id.0 are id.1, refl)
body-spelled kinds.PingRequest body p are is =
    empty-spelled kinds.PingRequest variants.PingRequest p body (refl, refl) is
body-spelled kinds.PingResponse body p are is =
    empty-spelled kinds.PingResponse variants.PingResponse p body (refl, refl) is
body-spelled kinds.Disconnect body p are is =
    empty-spelled kinds.Disconnect variants.Disconnect p body (refl, refl) is

-- the whole packet

pub record IsHeader (first : ℕ) (bytes : List ℕ) (kind : Kind) (start rest : ℕ) : Type 0 where
  pub size : ℕ
  pub told : length_at 4 bytes ≡ lengths.Known rest size
  pub kind_is : kind_of first ≡ Ok kind
  pub begins : start ≡ 1 + size

with_kind-told : (r : Result Kind PacketFault) (size value : ℕ) (kind : Kind) (start rest : ℕ)
    → with_kind r size value ≡ headers.Known kind start rest → (r ≡ Ok kind) × (size ≡ start) × (value ≡ rest)
with_kind-told (Ok found) size value kind start rest is = (ap Ok cc, cc, cc)
with_kind-told (Err fault) size value kind start rest is = absurd cc

pub with_length-told : (first : ℕ) (l : Length) (bytes : List ℕ) (kind : Kind) (start rest : ℕ)
    → length_at 4 bytes ≡ l → with_length first l ≡ headers.Known kind start rest
    → IsHeader first bytes kind start rest
with_length-told first lengths.Unfinished bytes kind start rest l is = absurd cc
with_length-told first lengths.Overlong bytes kind start rest l is = absurd cc
with_length-told first (lengths.Known value size) bytes kind start rest l is =
    let k = with_kind-told (kind_of first) (1 + size) value kind start rest is in
    record {
      size = size;
      told = l ∙ ap (λ (n : ℕ). lengths.Known n size) k.2;
      kind_is = k.0;
      begins = sym k.1;
    }

sized-told : (n size : ℕ) (r : Result Packet PacketFault) (p : Packet) → sized n r ≡ fronts.Whole p size
    → (r ≡ Ok p) × (n ≡ size)
sized-told n size (Ok packet) p is = (ap Ok cc, cc)
sized-told n size (Err fault) p is = absurd cc

pub record IsBehindHeader (kind : Kind) (start rest : ℕ) (bytes : List ℕ) (p : Packet)
    (size : ℕ) : Type 0 where
  pub total : start + rest ≡ size
  pub short : start + rest ≤ MAX_PACKET
  pub enough : start + rest ≤ length bytes
  pub body : body_of kind (take rest (drop start bytes)) ≡ Ok p

pub behind_header-told : (kind : Kind) (start rest : ℕ) (bytes : List ℕ) (p : Packet) (size : ℕ)
    → behind_header (headers.Known kind start rest) bytes ≡ fronts.Whole p size
    → IsBehindHeader kind start rest bytes p size
behind_header-told kind start rest bytes p size is =
    elim (cases_lt MAX_PACKET (start + rest)) [
      | inl long ↦ absurd (let e : fronts.Faulty TooLong
          ≡ fronts.Whole p size = rw (lt-ltb MAX_PACKET (start + rest) long) at is in cc)
      | inr short ↦ elim (cases_lt (length bytes) (start + rest)) [
        | inl part ↦ absurd (let e : fronts.Waiting
            ≡ fronts.Whole p size =
            rw (le-ltb MAX_PACKET (start + rest) short, lt-ltb (length bytes) (start + rest) part) at
            is in cc)
        | inr whole ↦ (let s = sized-told (start + rest) size (body_of kind (take rest (drop start bytes))) p
            (rw (le-ltb MAX_PACKET (start + rest) short, le-ltb (length bytes) (start + rest) whole) at is) in
            record { total = s.1; short = short; enough = whole; body = s.0 })
      ]
    ]

told-spelled : (first : ℕ) (bytes : List ℕ) (kind : Kind) (start rest : ℕ) (p : Packet) (size : ℕ)
    → AreBytes (first ∷ bytes) → IsHeader first bytes kind start rest
    → IsBehindHeader kind start rest (first ∷ bytes) p size
    → Spells p (take size (first ∷ bytes)) × (size ≤ MAX_PACKET)
told-spelled first bytes kind start rest p size are h b =
    let n = h.size in
    let begins : start ≡ suc n = omega (arith, h.begins) in
    let at_body : take rest (drop start (first ∷ bytes)) ≡ take rest (drop n bytes) =
    ap (λ (k : ℕ). take rest (drop k (first ∷ bytes))) begins in
    let behind = take rest (drop n bytes) in
    let count : length behind ≡ rest =
    length-take-le rest (drop n bytes) (omega (arith, length-drop n bytes, b.enough)) in
    let l = length_at-spelled 4 bytes rest n are.1 h.told in
    let s =
    body-spelled kind behind p (AreBytes-take rest (drop n bytes) (AreBytes-drop n bytes are.1))
    (ap (body_of kind) (sym at_body) ∙ b.body) in
    let byte : first_byte p ≡ first = s.1 ∙ kind_of-reads first kind h.kind_is in
    let total : size ≡ suc (n + rest) = omega (arith, b.total) in (
      record {
        behind = behind;
        variable = s.0;
        remaining = take n bytes;
        total =
            record {
              groups = subst (λ (v : ℕ). SpellsGroups v (take n bytes)) (sym count) l.0.groups;
              most = omega (arith, length-take n bytes, l.1);
            };
        bytes = ap (λ (k : ℕ). take k (first ∷ bytes)) total
            ∙ ap (λ (x : List ℕ). first ∷ x) (take-add n rest bytes)
            ∙ ap (λ (f : ℕ). f ∷ (take n bytes ++ behind)) (sym byte);
      },
      omega (arith, b.total, b.short),
    )

front-spelled-at : (h : Header) (bytes : List ℕ) (p : Packet) (size : ℕ) → AreBytes bytes
    → header_at bytes ≡ h → behind_header h bytes ≡ fronts.Whole p size
    → Spells p (take size bytes) × (size ≤ MAX_PACKET)
front-spelled-at headers.Unfinished bytes p size are told is = absurd cc
front-spelled-at (headers.Faulty fault) bytes p size are told is = absurd cc
front-spelled-at (headers.Known kind start rest) [] p size are told is = absurd cc
front-spelled-at (headers.Known kind start rest) (first ∷ bytes) p size are told is =
    told-spelled first bytes kind start rest p size are
    (with_length-told first (length_at 4 bytes) bytes kind start rest refl told)
    (behind_header-told kind start rest (first ∷ bytes) p size is)

pub front-spelled : (p : Packet) (bytes : List ℕ) (size : ℕ) → AreBytes bytes
    → decode bytes ≡ fronts.Whole p size → Spells p (take size bytes) × (size ≤ MAX_PACKET)
front-spelled p bytes size are is = front-spelled-at (header_at bytes) bytes p size are refl is
