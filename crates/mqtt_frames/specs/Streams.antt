-- Which packets a stream of bytes is, and what is answered when it comes in pieces (MQTT 3.1.1, 4.2 and 4.8).
use Rattle.std.specs.Prelude.{◌≡◌, ℕ, zero, suc, ◌<◌, List, [], ◌∷◌, ◌++◌, length, drop, Some, None, Ok, Err}
use Rattle.std.specs.declared.option.Option.{Option}
use Rattle.std.specs.declared.result.Result.{Result}
use Rattle.mqtt_frames.specs.declared.fault.PacketFault.{PacketFault}
use Rattle.mqtt_frames.specs.declared.fault.StreamFault.{StreamFault}
use Rattle.mqtt_frames.specs.declared.fault.StreamFault.TheVariants as faults
use Rattle.mqtt_frames.specs.declared.packet.Packet.{Packet}
use Rattle.mqtt_frames.specs.declared.wire.decode.Front.{Front}
use Rattle.mqtt_frames.specs.declared.wire.decode.Front.TheVariants as front
use Rattle.mqtt_frames.specs.declared.stream.StreamStatus.{StreamStatus}
use Rattle.mqtt_frames.specs.declared.stream.StreamStatus.TheVariants as status
use Rattle.mqtt_frames.specs.declared.pending.Remainder.{Remainder}
use Rattle.mqtt_frames.specs.declared.pending.Remainder.TheVariants as ending
use Rattle.mqtt_frames.specs.Faults.{stream_fault}
use Rattle.mqtt_frames.specs.Fronts.{decode}

-- what stands behind the packets of a stream
pub data End : Type 0 where
  -- the bytes of an unfinished packet, or none
  Rest : List ℕ → End
  -- a fault
  Fault : PacketFault → End

pub record Read : Type 0 where
  pub packets : List Packet
  pub ending : End

-- packets before the others
abbrev pub with_packets : List Packet → Read → Read
with_packets packets read = record { packets = packets ++ read.packets; ending = read.ending }

-- what stands at the front, and behind a packet what the others are
abbrev pub behind_front : Front → List ℕ → (List ℕ → Read) → Read
behind_front front.Waiting bytes others = record { packets = []; ending = Rest bytes }
behind_front (front.Faulty fault) bytes others = record { packets = []; ending = Fault fault }
behind_front (front.Whole packet size) bytes others = with_packets (packet ∷ []) (others (drop size bytes))

-- at most so many packets
abbrev pub read_within : ℕ → List ℕ → Read
read_within zero bytes = record { packets = []; ending = Rest bytes }
read_within (suc most) bytes = behind_front (decode bytes) bytes (read_within most)

-- the packets at the front of the bytes, up to an unfinished one or the first fault. Each has a byte or more
abbrev pub read_all : List ℕ → Read
read_all bytes = read_within (length bytes) bytes

-- a stream between two pieces
pub data State : Type 0 where
  -- the bytes of an unfinished packet were taken, or none
  Reading : List ℕ → State
  -- a fault stands behind the packets that were answered
  Kept : PacketFault → State
  -- a fault was reported
  Failed : State

-- where packets stand before a fault they are answered, and the fault is kept
abbrev pub settled_of : List Packet → End → Result (List Packet) StreamFault × State
settled_of packets (Rest bytes) = (Ok packets, Reading bytes)
settled_of [] (Fault fault) = (Err (stream_fault fault), Failed)
settled_of (packet ∷ packets) (Fault fault) = (Ok (packet ∷ packets), Kept fault)

abbrev pub settled : Read → Result (List Packet) StreamFault × State
settled read = settled_of read.packets read.ending

-- what is answered to a piece, and the state after it
abbrev pub fed : State → List ℕ → Result (List Packet) StreamFault × State
fed (Reading held) piece = settled (read_all (held ++ piece))
fed (Kept fault) piece = (Err (stream_fault fault), Failed)
fed Failed piece = (Err faults.Failed, Failed)

-- the state that a stream stands for
abbrev pub state_of : StreamStatus → List ℕ → State
state_of status.Reading held = Reading held
state_of (status.Kept fault) held = Kept fault
state_of status.Failed held = Failed

-- what is held is no whole packet; after a fault nothing is held
abbrev pub IsReady : StreamStatus → List ℕ → Type 0
IsReady status.Reading held = decode held ≡ front.Waiting
IsReady (status.Kept fault) held = held ≡ []
IsReady status.Failed held = held ≡ []

-- so many bytes at least are missing behind these before a packet is whole or has a fault
abbrev pub Lacks : List ℕ → ℕ → Type 0
Lacks held missing = (more : List ℕ) → length more < missing → decode (held ++ more) ≡ front.Waiting

-- an allocation can fail where a stream that reads is fed a byte or more
abbrev pub TakesMemory : State → List ℕ → Type 0
TakesMemory (Reading held) (b ∷ piece) = Unit {0}
TakesMemory _ _ = ⊥

-- what stands behind a packet that is whole, or the fault that its bytes have
abbrev pub behind_body : Result Packet PacketFault → List ℕ → Read
behind_body (Ok packet) behind = with_packets (packet ∷ []) (read_all behind)
behind_body (Err fault) behind = record { packets = []; ending = Fault fault }

-- packets, and behind them a fault, or the bytes that are held
abbrev pub read_of : List Packet → Option PacketFault → List ℕ → Read
read_of packets None held = record { packets = packets; ending = Rest held }
read_of packets (Some fault) held = record { packets = packets; ending = Fault fault }

abbrev pub ending_of : Remainder → End
ending_of (ending.Rest bytes) = Rest bytes.now
ending_of (ending.Fault fault) = Fault fault
