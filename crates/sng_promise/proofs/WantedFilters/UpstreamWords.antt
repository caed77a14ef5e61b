-- What is said to the broker, and the packet ids that were given, are read from the packets again.
use Rattle.std.proofs.Common.{◌≡◌, ℕ, ◌+◌, ◌≤◌, ◌==◌, Bool, true, false, List, [], ◌∷◌, ◌++◌, length, refl}
use Rattle.std.proofs.Common.{ap, sym, ◌∙◌, if◌then◌else◌, Ok}
use Rattle.std.proofs.Common.{Err, arith, length-append}
use Rattle.std.specs.Prelude.{nat_lt, take, drop}
use Rattle.std.specs.declared.result.Result.{Result}
use Rattle.std.proofs.lemmas.List.{append-nil}
use Rattle.std.proofs.lemmas.Bool.{lt-ltb, ne_eqb}
use Rattle.mqtt_frames.specs.Packets.{first_byte, body, written}
use Rattle.mqtt_frames.specs.RemainingLength.{remaining_length}
use Rattle.mqtt_frames.specs.Reading.{◌>>=◌, body_of, text_at, optional_id_at, whole_id}
use Rattle.mqtt_frames.specs.Headers.{with_length, length_at}
use Rattle.mqtt_frames.specs.Kinds.{kind_of}
use Rattle.mqtt_frames.specs.Fronts.{decode, sized, behind_header}
use Rattle.mqtt_frames.specs.Grammar.{IsInRange}
use Rattle.mqtt_frames.specs.Spellable.{has_spelling}
use Rattle.mqtt_frames.specs.declared.limits.TheConstants.{MAX_PACKET}
use Rattle.mqtt_frames.specs.declared.fault.PacketFault.{PacketFault}
use Rattle.mqtt_frames.specs.declared.kind.Kind.{Kind}
use Rattle.mqtt_frames.specs.declared.kind.Kind.TheVariants as kinds
use Rattle.mqtt_frames.specs.declared.kind.PublishFlags.{PublishFlags}
use Rattle.mqtt_frames.specs.declared.header.Length.{Length}
use Rattle.mqtt_frames.specs.declared.header.Length.TheVariants as lengths
use Rattle.mqtt_frames.specs.declared.packet.RequestedQos.TheVariants as requested
use Rattle.mqtt_frames.specs.declared.packet.Publish.{Publish}
use Rattle.mqtt_frames.specs.declared.packet.Packet.{Packet}
use Rattle.mqtt_frames.specs.declared.packet.Packet.TheVariants as packet
use Rattle.mqtt_frames.specs.declared.wire.decode.Front.{Front}
use Rattle.mqtt_frames.proofs.Groups.{length-remaining_length}
use Rattle.mqtt_frames.proofs.SpelledIsRead.{kind_of-first}
use Rattle.mqtt_frames.proofs.StreamIsGrammar.{written-read}
use Rattle.sng_laws.specs.ViewsWanted.{words_in, words_read}
use Rattle.sng_laws.specs.ViewsFlight.{id_in, id_read}

-- ---- a packet that says nothing of filters

-- it says nothing of filters, and has no packet id that was given with it
pub record Silent (read : Front) : Type 0 where
  pub words : words_read read ≡ []
  pub ids : id_read read ≡ []

abbrev Quiet : Result Packet PacketFault → Type 0
Quiet read = (size : ℕ) → Silent (sized size read)

quiet_then : {A : Type 0} (r : Result A PacketFault) (f : A → Result Packet PacketFault)
    → ((x : A) → Quiet (f x)) → Quiet (r >>= f)
quiet_then (Ok x) f quiet size = quiet x size
quiet_then (Err fault) f quiet size = record { words = refl; ids = refl }

quiet_publish : (flags : PublishFlags) (bytes : List ℕ) → Quiet (body_of (kinds.Publish flags) bytes)
quiet_publish flags bytes =
    quiet_then (text_at bytes) _
    (λ name. quiet_then (optional_id_at flags.identified name.1) _
    (λ id size. record { words = refl; ids = refl }))

quiet_ack : (bytes : List ℕ) → Quiet (body_of kinds.PublishAck bytes)
quiet_ack bytes = quiet_then (whole_id bytes) _ (λ id size. record { words = refl; ids = refl })

quiet_if : (b : Bool) (one other : Front) → Silent one → Silent other → Silent (if b then one else other)
quiet_if true one other is is_not = is
quiet_if false one other is is_not = is_not

quiet_length : (first : ℕ) (kind : Kind) (at : Length) (bytes : List ℕ) → kind_of first ≡ Ok kind
    → ((rest : List ℕ) → Quiet (body_of kind rest)) → Silent (behind_header (with_length first at) bytes)
quiet_length first kind lengths.Unfinished bytes is quiet = record { words = refl; ids = refl }
quiet_length first kind lengths.Overlong bytes is quiet = record { words = refl; ids = refl }
quiet_length first kind (lengths.Known value size) bytes is quiet =
    rw is
    (quiet_if (nat_lt MAX_PACKET (1 + size + value)) _ _ (record { words = refl; ids = refl })
    (quiet_if (nat_lt (length bytes) (1 + size + value)) _ _ (record { words = refl; ids = refl })
    (quiet (take value (drop (1 + size) bytes)) (1 + size + value))))

pub publish_quiet : (p : Publish) → Silent (decode (written (packet.Publish p)))
publish_quiet p =
    let whole = packet.Publish p in
    let rest = remaining_length (length (body whole)) ++ body whole in
    quiet_length (first_byte whole) _ (length_at 4 rest) (first_byte whole ∷ rest) (kind_of-first whole)
    (λ bytes. quiet_publish _ bytes)

pub ack_quiet : (packet_id : ℕ) → Silent (decode (written (packet.PublishAck packet_id)))
ack_quiet packet_id =
    let whole = packet.PublishAck packet_id in
    let rest = remaining_length (length (body whole)) ++ body whole in
    quiet_length (first_byte whole) _ (length_at 4 rest) (first_byte whole ∷ rest)
    (kind_of-first whole) quiet_ack

-- ---- a SUBSCRIBE and an UNSUBSCRIBE by one filter

pub record IsId (n : ℕ) : Type 0 where
  pub some : 1 ≤ n
  pub small : n ≤ 65535

-- what is read is what was written
pub record Reads (p : Packet) : Type 0 where
  pub words : words_read (decode (written p)) ≡ words_in p
  pub ids : id_read (decode (written p)) ≡ id_in p

read_again : (p : Packet) → IsInRange p → has_spelling p ≡ true → length (body p) ≤ 65600 → Reads p
read_again p fits is short =
    let n = length (body p) in
    let count : length (written p) ≤ MAX_PACKET =
    omega (arith, length-append (remaining_length n) (body p), length-remaining_length n, short) in
    let whole = ap decode (sym (append-nil (written p))) ∙ written-read p [] fits is count in
    record { words = ap words_read whole; ids = ap id_read whole }

-- nor does a PINGREQ say anything of filters
pub ping_quiet : Silent (decode (written packet.PingRequest))
ping_quiet =
    let reads = read_again packet.PingRequest tt refl (omega arith) in
    record { words = reads.words; ids = reads.ids }

id_fits : (n : ℕ) → 1 ≤ n → (n == 0) ≡ false
id_fits n some = ne_eqb n 0 (λ same. omega (arith, same, some))

pub subscribe_read : (n : ℕ) (text : List ℕ) → IsId n → length text ≤ 65535
    → Reads (packet.Subscribe (record {
      packet_id = n;
      requests = record { filter = text; qos = requested.AtLeastOnce } ∷ [];
    }))
subscribe_read n text is short =
    let p =
    packet.Subscribe (record {
      packet_id = n;
      requests = record { filter = text; qos = requested.AtLeastOnce } ∷ [];
    }) in
    read_again p (omega (arith, is.small))
    (rw (id_fits n is.some, lt-ltb (length text) 65536 (omega (arith, short))) refl)
    (omega (arith, short, length-append text (1 ∷ [])))

pub unsubscribe_read : (n : ℕ) (text : List ℕ) → IsId n → length text ≤ 65535
    → Reads (packet.Unsubscribe (record { packet_id = n; filters = text ∷ [] }))
unsubscribe_read n text is short =
    let p = packet.Unsubscribe (record { packet_id = n; filters = text ∷ [] }) in
    read_again p (omega (arith, is.small))
    (rw (id_fits n is.some, lt-ltb (length text) 65536 (omega (arith, short))) refl)
    (omega (arith, short, length-append text []))
