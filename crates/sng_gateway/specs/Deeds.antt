-- What a player does of a line, and how the stream of the broker's bytes stands behind it.
use Rattle.std.specs.Prelude.{ℕ, List, [], ◌∷◌, ◌++◌, map, codes, Option, Some, None, Result, Ok, Err}
use Rattle.std.specs.Fmt.{decimal}
use Rattle.mqtt_frames.specs.Faults.{number_of, stream_fault}
use Rattle.mqtt_frames.specs.Streams.{State, Reading, Kept, Failed, fed}
use Rattle.mqtt_frames.specs.declared.fault.StreamFault.{StreamFault}
use Rattle.mqtt_frames.specs.declared.fault.StreamFault.TheVariants as faults
use Rattle.mqtt_frames.specs.declared.packet.Packet.{Packet}
use Rattle.sng_book.specs.declared.event.Event.{Event}
use Rattle.sng_book.specs.declared.event.Event.TheVariants as events
use Rattle.sng_script.specs.Refused.{refused_text}
use Rattle.sng_script.specs.declared.script.Line.{Line}
use Rattle.sng_script.specs.declared.script.Line.TheVariants as lines

-- what a piece of the broker's bytes brings: packets, a fault behind them, and the stream then
pub record Arrival : Type 0 where
  pub packets : List Packet
  pub fault : Option StreamFault
  pub stream : State

-- by what the stream answers, and the stream then: a fault that it keeps behind packets comes at once, and
-- the stream has failed; one that had failed before answers no packets
abbrev pub arrival_by : Result (List Packet) StreamFault → State → Arrival
arrival_by (Ok packets) (Reading held) = record { packets = packets; fault = None; stream = Reading held }
arrival_by (Ok packets) (Kept fault) =
    record { packets = packets; fault = Some (stream_fault fault); stream = Failed }
arrival_by (Ok packets) Failed = record { packets = packets; fault = None; stream = Failed }
arrival_by (Err fault) stream = record { packets = []; fault = Some fault; stream = stream }

abbrev pub arrival : State → List ℕ → Arrival
arrival stream piece = arrival_by (fed stream piece).0 (fed stream piece).1

-- the stream behind an event: a connection that is accepted begins a new one, and nothing else does
abbrev pub stream_behind : Event → State → State
stream_behind (events.Datagram from datagram) stream = stream
stream_behind (events.Broker packet) stream = stream
stream_behind events.Up stream = Reading []
stream_behind events.Down stream = stream
stream_behind events.Take stream = stream
stream_behind (events.Replace policy) stream = stream
stream_behind (events.Tick clock) stream = stream

-- the stream behind a line
abbrev pub stream_by : State → Line → State
stream_by stream lines.Empty = stream
stream_by stream (lines.Event event) = stream_behind event stream
stream_by stream (lines.Refused fault) = stream
stream_by stream (lines.Broker piece) = (arrival stream piece).stream

-- the name of a fault, as it is told behind its number
abbrev pub name_of : StreamFault → List ℕ
name_of faults.Malformed = codes "Malformed"
name_of faults.NotSupported = codes "NotSupported"
name_of faults.TooLong = codes "TooLong"
name_of faults.Failed = codes "Failed"
name_of faults.Memory = codes "Memory"

-- the number of a fault and its name
abbrev pub fault_text : StreamFault → List ℕ
fault_text fault = decimal (number_of fault) ++ (codes " " ++ name_of fault)

-- the line that tells of a fault of the broker's bytes
abbrev pub fault_line : StreamFault → List ℕ
fault_line fault = codes "refused broker " ++ (fault_text fault ++ codes "\n")

-- what the player does
pub data Deed : Type 0 where
  -- a step with the event, and its row
  Step : Event → Deed
  -- tells the text, which makes no row
  Tell : List ℕ → Deed

-- each packet is an event
abbrev pub packet_deeds : List Packet → List Deed
packet_deeds packets = map (λ packet. Step (events.Broker packet)) packets

-- a fault is told, and the connection is lost with it
abbrev pub fault_deeds : Option StreamFault → List Deed
fault_deeds None = []
fault_deeds (Some fault) = Tell (fault_line fault) ∷ Step events.Down ∷ []

-- what the player does of a line, in order: an event is a step; a policy that is refused is told; of the
-- broker's bytes each packet is a step, and then comes their fault
abbrev pub deeds_of : State → Line → List Deed
deeds_of stream lines.Empty = []
deeds_of stream (lines.Event event) = Step event ∷ []
deeds_of stream (lines.Refused fault) = Tell (refused_text fault) ∷ []
deeds_of stream (lines.Broker piece) =
    packet_deeds (arrival stream piece).packets ++ fault_deeds (arrival stream piece).fault
