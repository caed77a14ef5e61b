-- The faults of a stream of packets.
use Rattle.std.specs.Prelude.{ℕ}
use Rattle.mqtt_frames.specs.declared.fault.PacketFault.{PacketFault}
use Rattle.mqtt_frames.specs.declared.fault.PacketFault.TheVariants as packet
use Rattle.mqtt_frames.specs.declared.fault.StreamFault.{StreamFault}
use Rattle.mqtt_frames.specs.declared.fault.StreamFault.TheVariants.{Malformed, NotSupported, TooLong, Failed}
use Rattle.mqtt_frames.specs.declared.fault.StreamFault.TheVariants.{Memory}

-- the number by which a fault is printed
abbrev pub number_of : StreamFault → ℕ
number_of Malformed = 1
number_of NotSupported = 2
number_of TooLong = 3
number_of Failed = 4
number_of Memory = 5

-- the fault of a packet as the stream reports it
abbrev pub stream_fault : PacketFault → StreamFault
stream_fault packet.Malformed = Malformed
stream_fault packet.NotSupported = NotSupported
stream_fault packet.TooLong = TooLong
