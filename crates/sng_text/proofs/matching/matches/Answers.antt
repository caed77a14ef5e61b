use Rattle.sng_text.proofs.NameLemmas.{name-plain, all_plain-levels_of}
use Rattle.sng_text.proofs.matching.matches.Goals as goal

pub match_levels-requires : goal.match_levels-requires
match_levels-requires c =
    rw c.text-name.ensures.value (all_plain-levels_of c.args.name.now
    (name-plain c.args.name.now c.text-name.ensures.name))
