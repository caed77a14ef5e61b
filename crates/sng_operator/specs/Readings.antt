-- What the words of a command line are read as.
use Rattle.std.specs.Prelude.{ℕ, ◌*◌, ◌/◌, List, true}
use Rattle.mqtt_frames.specs.Packets.{written}
use Rattle.mqtt_frames.specs.Parts.{connect_of_parts}
use Rattle.sng_history.specs.declared.limits.TheConstants.{PING_MS}

-- the CONNECT of the gateway with this id: a clean session, and in seconds a keep alive of twice the time
-- after which a PINGREQ is due
abbrev pub gateway_connect : List ℕ → List ℕ
gateway_connect id = written (connect_of_parts id true (2 * PING_MS / 1000))
