-- The pause before a try to connect.
use Rattle.std.specs.Prelude.{ℕ, ◌-◌, ◌*◌, ◌^◌, min}

-- 200 ms behind the first try in vain, doubled by each further one, up to 5 s
abbrev pub pause_of : ℕ → ℕ
pause_of vain = min (200 * 2 ^ min (vain - 1) 10) 5000
