use Rattle.std.proofs.Common.{◌≡◌, ℕ, ◌<◌, ◌≤◌, length, suc, []}
use denote.Text.{Utf8}
use denote.Shadow.{shadow}
use Rattle.toml.specs.Parse.{skip_bom}
use Rattle.sng_config.specs.Reading.{entries}
use Rattle.sng_config.proofs.reading.read.Given as goal

abbrev pub invariant-entries : goal.invariant-entries
invariant-entries l =
    shadow (Utf8 l.rest) × (length l.rest ≤ length l.fn.text)
    × (m : ℕ) × (length l.rest < m)
    × (entries (suc (length l.fn.text)) l.fn.text [] (skip_bom l.fn.text)
    ≡ entries m l.fn.text l.settings l.rest)

abbrev pub decreases-entries : goal.decreases-entries
decreases-entries l = length l.rest
