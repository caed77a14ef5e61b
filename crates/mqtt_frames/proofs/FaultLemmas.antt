-- Which faults the reading of a packet's parts answers.
use Rattle.std.proofs.Common.{◌≡◌, ◌≢◌, ℕ, zero, suc, ◌+◌, ◌/◌, ◌%◌, ◌<◌, ◌==◌, ◌||◌, Bool, true, false, List}
use Rattle.std.proofs.Common.{[], ◌∷◌, ◌++◌}
use Rattle.std.proofs.Common.{length, take, drop, nat_lt, if◌then◌else◌, Some, inl, inr, ◌⊎◌}
use Rattle.std.proofs.Common.{Result, Ok, Err, refl, ap, sym, subst, ◌∙◌, arith}
use Rattle.std.proofs.lemmas.Bool.{eqb-true}
use Rattle.std.proofs.lemmas.Bool.Decides.{nat_tests}
use Rattle.std.proofs.lemmas.List.{take-append-drop}
use Rattle.std.specs.Str.{bytes_eq}
use Rattle.std.specs.Cmp.Lexicographic.{same_text}
use Rattle.mqtt_frames.specs.declared.fault.PacketFault.{PacketFault}
use Rattle.mqtt_frames.specs.declared.fault.PacketFault.TheVariants.{Malformed, NotSupported}
use Rattle.mqtt_frames.specs.declared.packet.SubscribeCode.TheVariants.{Granted}
use Rattle.mqtt_frames.specs.declared.packet.Packet.{Packet}
use Rattle.mqtt_frames.specs.declared.packet.Packet.TheVariants as variants
use Rattle.mqtt_frames.specs.declared.kind.PublishFlags.{PublishFlags}
use Rattle.mqtt_frames.specs.declared.kind.Kind.{Kind}
use Rattle.mqtt_frames.specs.declared.kind.Kind.TheVariants as kinds
use Rattle.mqtt_frames.specs.Packets.{flag, protocol}
use Rattle.mqtt_frames.specs.Kinds.{publish_flags, publish_kind, is_of_qos_2, kind_of}
use Rattle.mqtt_frames.specs.Reading.{◌>>=◌, number_at, id_at, text_at, at_end, connect_of, connect_behind}
use Rattle.mqtt_frames.specs.Reading.{connect_rest, session_of}
use Rattle.mqtt_frames.specs.Reading.{connect_ack_of, optional_id_at, publish_of, whole_id, qos_of}
use Rattle.mqtt_frames.specs.Reading.{qos_behind, request_at}
use Rattle.mqtt_frames.specs.Reading.{items_within, items_of, code_of, codes_of, some_of, subscribe_of}
use Rattle.mqtt_frames.specs.Reading.{subscribe_ack_of}
use Rattle.mqtt_frames.specs.Reading.{unsubscribe_of, body_of}
use Rattle.mqtt_frames.specs.Standing.{IsOfQos2, HasOtherFlags}
use Rattle.mqtt_frames.proofs.ReadIsSpelled.{flag-8, flag-1}

abbrev failed : {A : Type 0} → PacketFault → Result A PacketFault
failed e = Err e

-- the only fault is Malformed
abbrev pub OnlyMalformed : {A : Type 0} → Result A PacketFault → Type 0
OnlyMalformed r = (e : PacketFault) → r ≡ Err e → e ≡ Malformed

err_is : {A : Type 0} (d e : PacketFault) → failed {A = A} d ≡ Err e → d ≡ e
err_is d e is = cc

ok_only : {A : Type 0} (x : A) → OnlyMalformed (Ok x)
ok_only x e is = absurd cc

fault_only : {A : Type 0} → OnlyMalformed {A = A} (Err Malformed)
fault_only e is = cc

bind_only : {A B : Type 0} (r : Result A PacketFault) (f : A → Result B PacketFault) → OnlyMalformed r
    → ((x : A) → OnlyMalformed (f x)) → OnlyMalformed (r >>= f)
bind_only (Ok x) f first next e is = next x e is
bind_only (Err d) f first next e is = let same : d ≡ e = cc in first e (ap Err same)

if_only : {A : Type 0} (b : Bool) (one other : Result A PacketFault) → OnlyMalformed one
    → OnlyMalformed other → OnlyMalformed (if b then one else other)
if_only true one other first second e is = first e is
if_only false one other first second e is = second e is

number_only : (bytes : List ℕ) → OnlyMalformed (number_at bytes)
number_only [] e is = cc
number_only (a ∷ []) e is = cc
number_only (a ∷ b ∷ rest) e is = absurd cc

id_only : (bytes : List ℕ) → OnlyMalformed (id_at bytes)
id_only bytes =
    bind_only (number_at bytes) (λ id. if id.0 == 0 then Err Malformed else Ok id) (number_only bytes)
    (λ id. if_only (id.0 == 0) (Err Malformed) (Ok id) fault_only (ok_only id))

text_only : (bytes : List ℕ) → OnlyMalformed (text_at bytes)
text_only bytes =
    bind_only (number_at bytes)
    (λ count. if nat_lt (length count.1) count.0 then Err Malformed
    else Ok (take count.0 count.1, drop count.0 count.1)) (number_only bytes)
    (λ count. if_only (nat_lt (length count.1) count.0) (Err Malformed)
    (Ok (take count.0 count.1, drop count.0 count.1)) fault_only
    (ok_only (take count.0 count.1, drop count.0 count.1)))

end_only : {A : Type 0} (x : A) (bytes : List ℕ) → OnlyMalformed (at_end x bytes)
end_only x [] e is = absurd cc
end_only x (b ∷ bytes) e is = cc

connect_rest-only : (clean_session : Bool) (bytes : List ℕ) → OnlyMalformed (connect_rest clean_session bytes)
connect_rest-only clean_session bytes =
    bind_only (number_at bytes) _ (number_only bytes)
    (λ keep_alive. bind_only (text_at keep_alive.1) _ (text_only keep_alive.1)
    (λ client_id. end_only _ client_id.1))

session_only : (flags : ℕ) → OnlyMalformed (session_of flags)
session_only flags =
    if_only (flags == 0) (Ok false) (if flags == 1 then Ok true else Err Malformed) (ok_only false)
    (if_only (flags == 1) (Ok true) (Err Malformed) (ok_only true) fault_only)

connect_ack-only : (body : List ℕ) → OnlyMalformed (connect_ack_of body)
connect_ack-only [] e is = cc
connect_ack-only (a ∷ []) e is = cc
connect_ack-only (flags ∷ code ∷ []) e is =
    bind_only (session_of flags)
    (λ session_present. Ok (variants.ConnectAck (record { session_present = session_present; code = code })))
    (session_only flags) (λ present. ok_only _) e is
connect_ack-only (a ∷ b ∷ c ∷ d) e is = cc

optional_id-only : (identified : Bool) (bytes : List ℕ) → OnlyMalformed (optional_id_at identified bytes)
optional_id-only false bytes e is = absurd cc
optional_id-only true bytes e is =
    bind_only (id_at bytes) (λ id. Ok (Some id.0, id.1)) (id_only bytes) (λ id. ok_only _) e is

whole_id-only : (body : List ℕ) → OnlyMalformed (whole_id body)
whole_id-only body = bind_only (id_at body) (λ id. at_end id.0 id.1) (id_only body) (λ id. end_only id.0 id.1)

qos_only : (byte : ℕ) → OnlyMalformed (qos_of byte)
qos_only byte =
    if_only (byte == 0) (Ok _) _ (ok_only _)
    (if_only (byte == 1) (Ok _) _ (ok_only _)
    (if_only (byte == 2) (Ok _) (Err Malformed) (ok_only _) fault_only))

qos_behind-only : (filter bytes : List ℕ) → OnlyMalformed (qos_behind filter bytes)
qos_behind-only filter [] e is = cc
qos_behind-only filter (byte ∷ rest) e is =
    bind_only (qos_of byte) (λ qos. Ok (record { filter = filter; qos = qos }, rest)) (qos_only byte)
    (λ qos. ok_only _) e is

request_only : (bytes : List ℕ) → OnlyMalformed (request_at bytes)
request_only bytes =
    bind_only (text_at bytes) (λ filter. qos_behind filter.0 filter.1) (text_only bytes)
    (λ filter. qos_behind-only filter.0 filter.1)

items_only : {A : Type 0} (item_at : List ℕ → Result (A × List ℕ) PacketFault)
    → ((bytes : List ℕ) → OnlyMalformed (item_at bytes)) → (most : ℕ) (bytes : List ℕ)
    → OnlyMalformed (items_within item_at most bytes)
items_only item_at each zero [] e is = absurd cc
items_only item_at each (suc most) [] e is = absurd cc
items_only item_at each zero (b ∷ bytes) e is = cc
items_only {A} item_at each (suc most) (b ∷ bytes) e is =
    bind_only (item_at (b ∷ bytes))
    (λ item. items_within item_at most item.1 >>= λ items. Ok (item.0 ∷ items)) (each (b ∷ bytes))
    (λ item. bind_only (items_within item_at most item.1) (λ items. Ok (item.0 ∷ items))
    (items_only item_at each most item.1) (λ items. ok_only (item.0 ∷ items))) e is

code_only : (byte : ℕ) → OnlyMalformed (code_of byte)
code_only byte =
    if_only (byte == 128) (Ok _) (qos_of byte >>= λ qos. Ok (Granted qos)) (ok_only _)
    (bind_only (qos_of byte) (λ qos. Ok (Granted qos)) (qos_only byte) (λ qos. ok_only (Granted qos)))

codes_only : (bytes : List ℕ) → OnlyMalformed (codes_of bytes)
codes_only [] e is = absurd cc
codes_only (byte ∷ bytes) e is =
    bind_only (code_of byte) (λ code. codes_of bytes >>= λ codes. Ok (code ∷ codes)) (code_only byte)
    (λ code. bind_only (codes_of bytes) (λ codes. Ok (code ∷ codes)) (codes_only bytes)
    (λ codes. ok_only (code ∷ codes))) e is

some_only : {A : Type 0} (all_of : List ℕ → Result (List A) PacketFault)
    → ((bytes : List ℕ) → OnlyMalformed (all_of bytes)) → (bytes : List ℕ)
    → OnlyMalformed (some_of all_of bytes)
some_only all_of each [] e is = cc
some_only all_of each (b ∷ bytes) e is = each (b ∷ bytes) e is

publish_only : (flags : PublishFlags) (body : List ℕ) → OnlyMalformed (publish_of flags body)
publish_only flags body =
    bind_only (text_at body) _ (text_only body)
    (λ name. bind_only (optional_id_at flags.identified name.1) _ (optional_id-only flags.identified name.1)
    (λ id. ok_only _))

subscribe_only : (body : List ℕ) → OnlyMalformed (subscribe_of body)
subscribe_only body =
    bind_only (id_at body) _ (id_only body)
    (λ id. bind_only (some_of (items_of request_at) id.1) _
    (some_only (items_of request_at)
    (λ bytes. items_only request_at request_only (length bytes) bytes) id.1) (λ requests. ok_only _))

subscribe_ack-only : (body : List ℕ) → OnlyMalformed (subscribe_ack_of body)
subscribe_ack-only body =
    bind_only (id_at body) _ (id_only body)
    (λ id. bind_only (some_of codes_of id.1) _ (some_only codes_of codes_only id.1) (λ codes. ok_only _))

unsubscribe_only : (body : List ℕ) → OnlyMalformed (unsubscribe_of body)
unsubscribe_only body =
    bind_only (id_at body) _ (id_only body)
    (λ id. bind_only (some_of (items_of text_at) id.1) _
    (some_only (items_of text_at) (λ bytes. items_only text_at text_only (length bytes) bytes) id.1)
    (λ filters. ok_only _))

-- a CONNECT of other flags is not supported

record IsOther (bytes : List ℕ) : Type 0 where
  flags : ℕ
  rest : List ℕ
  not_none : flags ≢ 0
  not_clean : flags ≢ 2
  is : bytes ≡ flags ∷ rest

differs : (a b : ℕ) → (a == b) ≡ false → a ≢ b
differs a b is same =
    let other : (b == b) ≡ false = subst (λ (n : ℕ). (n == b) ≡ false) same is in grind (arith, nat_tests)

-- which branch gave the fault
either_fault : {A : Type 0} (b : Bool) (one other : Result A PacketFault) (e : PacketFault)
    → (if b then one else other) ≡ Err e → ((b ≡ true) × (one ≡ Err e)) ⊎ ((b ≡ false) × (other ≡ Err e))
either_fault true one other e is = inl (refl, is)
either_fault false one other e is = inr (refl, is)

connect_behind-fault : (bytes : List ℕ) (e : PacketFault) → connect_behind bytes ≡ Err e
    → (e ≡ Malformed) ⊎ ((e ≡ NotSupported) × IsOther bytes)
connect_behind-fault [] e is = inl cc
connect_behind-fault (flags ∷ rest) e is =
    elim (either_fault (flags == 0) (connect_rest false rest)
    (if flags == 2 then connect_rest true rest else Err NotSupported) e is) [
      | inl none ↦ inl (connect_rest-only false rest e none.1)
      | inr some ↦ elim (either_fault (flags == 2) (connect_rest true rest) (Err NotSupported) e some.1) [
        | inl clean ↦ inl (connect_rest-only true rest e clean.1)
        | inr other ↦ (let same : NotSupported ≡ e = err_is {A = Packet} NotSupported e other.1 in
            inr (
              sym same,
              record {
                flags = flags;
                rest = rest;
                not_none = differs flags 0 some.0;
                not_clean = differs flags 2 other.0;
                is = refl;
              },
            ))
      ]
    ]

connect_fault : (body : List ℕ) (e : PacketFault) → connect_of body ≡ Err e
    → (e ≡ Malformed) ⊎ ((e ≡ NotSupported) × HasOtherFlags body)
connect_fault body e is =
    elim (either_fault (bytes_eq (take 7 body) protocol) (connect_behind (drop 7 body))
    (Err Malformed) e is) [
      | inl same ↦ elim (connect_behind-fault (drop 7 body) e same.1) [
        | inl malformed ↦ inl malformed
        | inr other ↦ (let o = other.1 in
            let front : take 7 body ≡ protocol = same_text (take 7 body) protocol (sym same.0) in
            inr (
              other.0,
              record {
                flags = o.flags;
                rest = o.rest;
                not_none = o.not_none;
                not_clean = o.not_clean;
                bytes = sym (take-append-drop 7 body) ∙ ap (λ (x : List ℕ). x ++ drop 7 body) front
                    ∙ ap (λ (x : List ℕ). protocol ++ x) o.is;
              },
            ))
      ]
      | inr none ↦ inl (sym (err_is {A = Packet} Malformed e none.1))
    ]

connect_flagged : (flags : ℕ) (rest : List ℕ) → (flags == 0) ≡ false → (flags == 2) ≡ false
    → connect_of (protocol ++ (flags ∷ rest)) ≡ Err NotSupported
connect_flagged flags rest none clean = rw (none, clean) refl

pub connect_other : (body : List ℕ) → HasOtherFlags body → connect_of body ≡ Err NotSupported
connect_other body h =
    let none : (h.flags == 0) ≡ false = let other = h.not_none in grind (arith, nat_tests) in
    let clean : (h.flags == 2) ≡ false = let other = h.not_clean in grind (arith, nat_tests) in
    ap connect_of h.bytes ∙ connect_flagged h.flags h.rest none clean

-- the fault of a body, by its kind
abbrev pub BodyFault : Kind → List ℕ → PacketFault → Type 0
BodyFault kind body e = (e ≡ Malformed) ⊎ ((e ≡ NotSupported) × (kind ≡ kinds.Connect) × HasOtherFlags body)

pub body_fault : (kind : Kind) (body : List ℕ) (e : PacketFault) → body_of kind body ≡ Err e
    → BodyFault kind body e
body_fault kinds.Connect body e is =
    elim (connect_fault body e is)
    [ inl malformed ↦ inl malformed | inr other ↦ inr (other.0, refl, other.1) ]
body_fault kinds.ConnectAck body e is = inl (connect_ack-only body e is)
body_fault (kinds.Publish f) body e is = inl (publish_only f body e is)
body_fault kinds.PublishAck body e is =
    inl (bind_only (whole_id body) (λ id. Ok (variants.PublishAck id)) (whole_id-only body)
    (λ id. ok_only (variants.PublishAck id)) e is)
body_fault kinds.Subscribe body e is = inl (subscribe_only body e is)
body_fault kinds.SubscribeAck body e is = inl (subscribe_ack-only body e is)
body_fault kinds.Unsubscribe body e is = inl (unsubscribe_only body e is)
body_fault kinds.UnsubscribeAck body e is =
    inl (bind_only (whole_id body) (λ id. Ok (variants.UnsubscribeAck id)) (whole_id-only body)
    (λ id. ok_only (variants.UnsubscribeAck id)) e is)
body_fault kinds.PingRequest body e is = inl (end_only variants.PingRequest body e is)
body_fault kinds.PingResponse body e is = inl (end_only variants.PingResponse body e is)
body_fault kinds.Disconnect body e is = inl (end_only variants.Disconnect body e is)

-- the first byte

skip : {A : Type 0} (b : Bool) (x : A) (others : Result A PacketFault) (e : PacketFault)
    → (if b then Ok x else others) ≡ Err e → others ≡ Err e
skip true x others e is = absurd cc
skip false x others e is = is

publish_byte-at_2 : (bits : ℕ) → bits < 16 → bits / 2 % 4 ≡ 2
    → 48 + bits ≡ 48 + flag (bits / 8 == 1) 8 + 4 + flag (bits % 2 == 1) 1
publish_byte-at_2 bits small two =
    omega (arith, flag-8 (bits / 8) (omega arith), flag-1 (bits % 2) (omega arith))

publish_kind-fault : (bits : ℕ) (e : PacketFault) → publish_kind bits ≡ Err e
    → ((e ≡ NotSupported) × (bits / 2 % 4 ≡ 2)) ⊎ (e ≡ Malformed)
publish_kind-fault bits e is =
    let one = skip (bits / 2 % 4 == 0) (kinds.Publish (publish_flags bits false)) _ e is in
    let two = skip (bits / 2 % 4 == 1) (kinds.Publish (publish_flags bits true)) _ e one in
    elim (either_fault (bits / 2 % 4 == 2) (Err NotSupported) (Err Malformed) e two) [
      | inl at_2 ↦ inl (sym (err_is {A = Kind} NotSupported e at_2.1), eqb-true (bits / 2 % 4) 2 at_2.0)
      | inr at_3 ↦ inr (sym (err_is {A = Kind} Malformed e at_3.1))
    ]

or_true : (a b : Bool) → (a || b) ≡ true → (a ≡ true) ⊎ (b ≡ true)
or_true true b is = inl refl
or_true false b is = inr is

of_qos_2 : (first : ℕ) → is_of_qos_2 first ≡ true → IsOfQos2 first
of_qos_2 first is =
    elim (or_true ((first == 80) || (first == 98)) (first == 112) is) [
      | inl two ↦ elim (or_true (first == 80) (first == 98) two) [
        | inl received ↦ inr (inl (eqb-true first 80 received))
        | inr released ↦ inr (inr (inl (eqb-true first 98 released)))
      ]
      | inr completed ↦ inr (inr (inr (eqb-true first 112 completed)))
    ]

pub kind_fault : (first : ℕ) (e : PacketFault) → kind_of first ≡ Err e
    → ((e ≡ NotSupported) × IsOfQos2 first) ⊎ (e ≡ Malformed)
kind_fault first e is =
    let a = skip (first == 16) kinds.Connect _ e is in
    let b = skip (first == 32) kinds.ConnectAck _ e a in
    let c = skip (first == 64) kinds.PublishAck _ e b in
    elim (either_fault (is_of_qos_2 first) (Err NotSupported) _ e c) [
      | inl qos_2 ↦ inl (sym (err_is {A = Kind} NotSupported e qos_2.1), of_qos_2 first qos_2.0)
      | inr d ↦ (let f = skip (first == 130) kinds.Subscribe _ e d.1 in
          let g = skip (first == 144) kinds.SubscribeAck _ e f in
          let h = skip (first == 162) kinds.Unsubscribe _ e g in
          let i = skip (first == 176) kinds.UnsubscribeAck _ e h in
          let j = skip (first == 192) kinds.PingRequest _ e i in
          let k = skip (first == 208) kinds.PingResponse _ e j in
          let l = skip (first == 224) kinds.Disconnect _ e k in
          elim (either_fault (first / 16 == 3) (publish_kind (first % 16)) (Err Malformed) e l) [
            | inl publish ↦ (let high : first / 16 ≡ 3 = eqb-true (first / 16) 3 publish.0 in
                elim (publish_kind-fault (first % 16) e publish.1) [
                  | inl at_2 ↦ (let byte = publish_byte-at_2 (first % 16) (omega arith) at_2.1 in
                      inl (
                        at_2.0,
                        inl (record {
                          dup = first % 16 / 8 == 1;
                          retain = first % 16 % 2 == 1;
                          is = omega arith;
                        }),
                      ))
                  | inr malformed ↦ inr malformed
                ])
            | inr none ↦ inr (sym (err_is {A = Kind} Malformed e none.1))
          ])
    ]

at_qos_2 : (dup retain : Bool) → kind_of (48 + flag dup 8 + 4 + flag retain 1) ≡ Err NotSupported
at_qos_2 true true = refl
at_qos_2 true false = refl
at_qos_2 false true = refl
at_qos_2 false false = refl

pub kind_of-qos_2 : (first : ℕ) → IsOfQos2 first → kind_of first ≡ Err NotSupported
kind_of-qos_2 first (inl p) = ap kind_of p.is ∙ at_qos_2 p.dup p.retain
kind_of-qos_2 first (inr (inl received)) = ap kind_of received
kind_of-qos_2 first (inr (inr (inl released))) = ap kind_of released
kind_of-qos_2 first (inr (inr (inr completed))) = ap kind_of completed
