-- The packets in what a connection gives, piece by piece. A piece is fed to the stream, and then an empty
-- one, so that a fault behind its
-- packets is told at once.
use Rattle.std.specs.Prelude.{ℕ, Bool, true, false, ◌==◌, ◌||◌, List, [], Ok, Err}
use Rattle.std.specs.declared.result.Result.{Result}
use Rattle.mqtt_frames.specs.declared.fault.StreamFault.{StreamFault}
use Rattle.mqtt_frames.specs.declared.packet.Packet.{Packet}
use Rattle.mqtt_frames.specs.declared.packet.Packet.TheVariants.{ConnectAck}
use Rattle.mqtt_frames.specs.Streams.{State, fed}

-- the broker accepts the connection (3.2.2.3)
abbrev pub accepts : Packet → Bool
accepts (ConnectAck answer) = answer.code == 0
accepts _ = false

abbrev pub answered : Result (List Packet) StreamFault → List Packet
answered (Ok packets) = packets
answered (Err fault) = []

abbrev pub is_fault : Result (List Packet) StreamFault → Bool
is_fault (Ok packets) = false
is_fault (Err fault) = true

-- the packets that a piece completes, up to the first fault
abbrev pub packets_in : State → List ℕ → List Packet
packets_in rest bytes = answered (fed rest bytes).0

-- the piece has a fault
abbrev pub broken_in : State → List ℕ → Bool
broken_in rest bytes = is_fault (fed rest bytes).0 || is_fault (fed (fed rest bytes).1 []).0

-- what a piece leaves
abbrev pub left_by : State → List ℕ → State
left_by rest bytes = (fed (fed rest bytes).1 []).1
