use Rattle.sng_core.proofs.parts.Parts.stand.Goals as goal

pub keep-requires : goal.keep-requires
keep-requires c = c.requires c.in-Some.filter c.in-Some.is c.in-Allowed.is
