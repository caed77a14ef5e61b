-- What an iterator over a candidate's levels has left to give.
use Rattle.std.specs.Prelude.{ℕ, List}
use Rattle.sng_text.specs.LevelsLeft.{levels_of_rest}
use Rattle.sng_cover.specs.Candidates.{candidate_levels}
use Rattle.sng_cover.specs.declared.gap.Candidate.{Candidate}

abbrev pub levels_left : Candidate → List (List ℕ)
levels_left candidate = candidate_levels candidate.left (levels_of_rest candidate.asked) candidate.fresh.now
