-- The Flags octet (MQTT-SN 1.2, 5.3.4).
use Rattle.std.specs.Prelude.{ℕ, ◌+◌, ◌/◌, ◌%◌, ◌==◌, Bool, if◌then◌else◌}
use Rattle.sng_frames.specs.declared.flags.Flags.{Flags}
use Rattle.sng_frames.specs.declared.qos.FrameQos.{FrameQos}
use Rattle.sng_frames.specs.declared.qos.FrameQos.TheVariants.{AtMostOnce, AtLeastOnce, ExactlyOnce}
use Rattle.sng_frames.specs.declared.qos.FrameQos.TheVariants.{WithoutSession}
use Rattle.sng_frames.specs.declared.flags.TopicIdType.{TopicIdType}
use Rattle.sng_frames.specs.declared.flags.TopicIdType.TheVariants.{Normal, Predefined, Short, Reserved}

-- a bit, by its weight in the octet
abbrev pub bit : Bool → ℕ → ℕ
bit is_set weight = if is_set then weight else 0

-- bits 6 and 5: level 0, 1, 2 and -1
abbrev pub qos_bits : FrameQos → ℕ
qos_bits AtMostOnce = 0x00
qos_bits AtLeastOnce = 0x20
qos_bits ExactlyOnce = 0x40
qos_bits WithoutSession = 0x60

-- bits 1 and 0
abbrev pub id_type_bits : TopicIdType → ℕ
id_type_bits Normal = 0x00
id_type_bits Predefined = 0x01
id_type_bits Short = 0x02
id_type_bits Reserved = 0x03

-- the octet: DUP, QoS, Retain, Will, CleanSession and TopicIdType, from the highest bit down
abbrev pub flags_octet : Flags → ℕ
flags_octet f =
    bit f.dup 0x80 + qos_bits f.qos + bit f.retain 0x10 + bit f.will 0x08 + bit f.clean 0x04 + id_type_bits
    f.id_type

-- the level that a number of two bits means
abbrev pub qos_of : ℕ → FrameQos
qos_of bits =
    if bits == 0 then AtMostOnce
    else (if bits == 1 then AtLeastOnce else (if bits == 2 then ExactlyOnce else WithoutSession))

-- the type of topic id that a number of two bits means
abbrev pub id_type_of : ℕ → TopicIdType
id_type_of bits =
    if bits == 0 then Normal else (if bits == 1 then Predefined else (if bits == 2 then Short else Reserved))

-- the fields that an octet holds
abbrev pub flags_of : ℕ → Flags
flags_of octet = record {
  dup = octet / 0x80 % 2 == 1;
  qos = qos_of (octet / 0x20 % 4);
  retain = octet / 0x10 % 2 == 1;
  will = octet / 0x08 % 2 == 1;
  clean = octet / 0x04 % 2 == 1;
  id_type = id_type_of (octet % 4);
}
