-- Why a line is not read, and why a script is not played on.
use Rattle.std.specs.Prelude.{Option, Some, None}
use Rattle.sng_script.specs.declared.obstacle.Obstacle.{Obstacle}
use Rattle.sng_script.specs.declared.obstacle.Obstacle.TheVariants as obstacles
use Rattle.sng_script.specs.declared.script.LineFault.{LineFault}
use Rattle.sng_script.specs.declared.script.LineFault.TheVariants.{Unreadable, Memory}

-- what a line that is not read comes to
abbrev pub obstacle_of : LineFault → Obstacle
obstacle_of Unreadable = obstacles.Unreadable
obstacle_of Memory = obstacles.OutOfMemory

-- why this is not read: it can not be read at all, or else memory is wanting
abbrev pub fault_of : {A : Type 0} → Option A → LineFault
fault_of None = Unreadable
fault_of (Some said) = Memory
