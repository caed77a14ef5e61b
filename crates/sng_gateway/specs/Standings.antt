-- How a player stands.
use Rattle.sng_gateway.specs.Playing.{Standing}
use Rattle.sng_gateway.specs.declared.player.Player.{Player}

abbrev pub standing : Player → Standing
standing player = record { state = player.core; rows = player.rows; stream = player.stream }
