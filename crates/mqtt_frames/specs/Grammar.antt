-- Which bytes spell which packet (MQTT 3.1.1, sections 1.5, 2 and 3), apart from how they are read or
-- written.
use Rattle.std.specs.Prelude.{◌≡◌, ◌≢◌, ℕ, ◌+◌, ◌*◌, ◌^◌, ◌<◌, ◌≤◌, ◌⊎◌, List, [], ◌∷◌, ◌++◌, length, Some}
use Rattle.std.specs.Prelude.{None}
use Rattle.std.specs.declared.option.Option.{Option}
use Rattle.mqtt_frames.specs.declared.limits.TheConstants.{MAX_PACKET}
use Rattle.mqtt_frames.specs.declared.packet.Connect.{Connect}
use Rattle.mqtt_frames.specs.declared.packet.Publish.{Publish}
use Rattle.mqtt_frames.specs.declared.packet.Request.{Request}
use Rattle.mqtt_frames.specs.declared.packet.SubscribeCode.{SubscribeCode}
use Rattle.mqtt_frames.specs.declared.packet.Packet.{Packet}
use Rattle.mqtt_frames.specs.declared.packet.Packet.TheVariants as variants
use Rattle.mqtt_frames.specs.Packets.{flag, protocol, qos_byte, codes_bytes, first_byte, written}

-- the two bytes are the number, the high one first (1.5.2)
pub record IsNumber (n high low : ℕ) : Type 0 where
  pub high_fits : high < 256
  pub low_fits : low < 256
  pub value : n ≡ high * 256 + low

-- the bytes are the number
pub record SpellsNumber (n : ℕ) (b : List ℕ) : Type 0 where
  pub high : ℕ
  pub low : ℕ
  pub is : IsNumber n high low
  pub bytes : b ≡ high ∷ low ∷ []

-- a packet identifier, which is not 0 (2.3.1)
pub record SpellsId (id : ℕ) (b : List ℕ) : Type 0 where
  pub positive : 0 < id
  pub number : SpellsNumber id b

-- a text, behind the number of its bytes (1.5.3)
pub record SpellsText (text b : List ℕ) : Type 0 where
  pub count : List ℕ
  pub number : SpellsNumber (length text) count
  pub bytes : b ≡ count ++ text

-- groups of seven bits, the low ones first; each byte that another one follows has 128 more (2.2.3)
abbrev pub SpellsGroups : ℕ → List ℕ → Type 0
SpellsGroups n [] = ⊥
SpellsGroups n (b ∷ bytes) =
    ((b < 128) × (n ≡ b) × (bytes ≡ []))
    ⊎ ((128 ≤ b) × (b < 256) × ((rest : ℕ) × (n + 128 ≡ b + 128 * rest) × SpellsGroups rest bytes))

-- a Remaining Length: any one to four bytes of the value, the shortest and those with empty groups at their
-- end
pub record SpellsLength (n : ℕ) (bytes : List ℕ) : Type 0 where
  pub groups : SpellsGroups n bytes
  pub most : length bytes ≤ 4

-- the variable header and the payload of a CONNECT without a will, a user name and a password: its flags have
-- CleanSession alone, of weight 2 (3.1)
pub record SpellsConnect (c : Connect) (b : List ℕ) : Type 0 where
  pub keep_alive : List ℕ
  pub keep_alive_number : SpellsNumber c.keep_alive keep_alive
  pub client_id : List ℕ
  pub client_id_text : SpellsText c.client_id client_id
  pub bytes : b ≡ protocol ++ (flag c.clean_session 2 ∷ (keep_alive ++ client_id))

-- the packet identifier of a PUBLISH; none at QoS 0 (3.3.2.2)
abbrev pub SpellsOptionalId : Option ℕ → List ℕ → Type 0
SpellsOptionalId None b = b ≡ []
SpellsOptionalId (Some id) b = SpellsId id b

-- a PUBLISH: the topic name, the packet identifier, the message (3.3)
pub record SpellsPublish (p : Publish) (b : List ℕ) : Type 0 where
  pub name : List ℕ
  pub name_text : SpellsText p.name name
  pub id : List ℕ
  pub packet_id : SpellsOptionalId p.packet_id id
  pub bytes : b ≡ name ++ (id ++ p.payload)

-- topic filters, each with the byte of its level (3.8.3)
abbrev pub SpellsRequests : List Request → List ℕ → Type 0
SpellsRequests [] b = b ≡ []
SpellsRequests (r ∷ requests) b =
    (filter : List ℕ) × (rest : List ℕ) × SpellsText r.filter filter × SpellsRequests requests rest
    × (b ≡ filter ++ (qos_byte r.qos ∷ rest))

-- topic filters (3.10.3)
abbrev pub SpellsFilters : List (List ℕ) → List ℕ → Type 0
SpellsFilters [] b = b ≡ []
SpellsFilters (f ∷ filters) b =
    (filter : List ℕ) × (rest : List ℕ) × SpellsText f filter × SpellsFilters filters rest
    × (b ≡ filter ++ rest)

-- a packet identifier, and behind it one thing or more of a kind (3.8, 3.9 and 3.10)
pub record SpellsListed {A : Type 0} (SpellsItems : List A → List ℕ → Type 0) (id : ℕ) (items : List A)
    (b : List ℕ) : Type 0 where
  pub id_bytes : List ℕ
  pub packet_id : SpellsId id id_bytes
  pub some : items ≢ []
  pub items_bytes : List ℕ
  pub listed : SpellsItems items items_bytes
  pub bytes : b ≡ id_bytes ++ items_bytes

abbrev pub SpellsCodes : List SubscribeCode → List ℕ → Type 0
SpellsCodes codes b = b ≡ codes_bytes codes

-- the variable header and the payload of a packet
abbrev pub SpellsBody : Packet → List ℕ → Type 0
SpellsBody (variants.Connect c) b = SpellsConnect c b
SpellsBody (variants.ConnectAck a) b = b ≡ flag a.session_present 1 ∷ a.code ∷ []
SpellsBody (variants.Publish p) b = SpellsPublish p b
SpellsBody (variants.PublishAck id) b = SpellsId id b
SpellsBody (variants.Subscribe s) b = SpellsListed SpellsRequests s.packet_id s.requests b
SpellsBody (variants.SubscribeAck a) b = SpellsListed SpellsCodes a.packet_id a.codes b
SpellsBody (variants.Unsubscribe u) b = SpellsListed SpellsFilters u.packet_id u.filters b
SpellsBody (variants.UnsubscribeAck id) b = SpellsId id b
SpellsBody variants.PingRequest b = b ≡ []
SpellsBody variants.PingResponse b = b ≡ []
SpellsBody variants.Disconnect b = b ≡ []

-- the bytes spell the packet; the Remaining Length counts all that follows it (2.2)
pub record Spells (p : Packet) (b : List ℕ) : Type 0 where
  pub behind : List ℕ
  pub variable : SpellsBody p behind
  pub remaining : List ℕ
  pub total : SpellsLength (length behind) remaining
  pub bytes : b ≡ first_byte p ∷ (remaining ++ behind)

-- the packet has no spelling, though its bytes would not be too many
pub record HasNoSpelling (p : Packet) : Type 0 where
  pub short : length (written p) ≤ MAX_PACKET
  pub none : (b : List ℕ) → ¬ Spells p b

-- the packet's numbers are numbers of two bytes
abbrev pub IsOptionalInRange : Option ℕ → Type 0
IsOptionalInRange None = Unit {0}
IsOptionalInRange (Some id) = id < 2 ^ 16

abbrev pub IsInRange : Packet → Type 0
IsInRange (variants.Connect c) = c.keep_alive < 2 ^ 16
IsInRange (variants.Publish p) = IsOptionalInRange p.packet_id
IsInRange (variants.PublishAck id) = id < 2 ^ 16
IsInRange (variants.Subscribe s) = s.packet_id < 2 ^ 16
IsInRange (variants.SubscribeAck a) = a.packet_id < 2 ^ 16
IsInRange (variants.Unsubscribe u) = u.packet_id < 2 ^ 16
IsInRange (variants.UnsubscribeAck id) = id < 2 ^ 16
IsInRange _ = Unit {0}
