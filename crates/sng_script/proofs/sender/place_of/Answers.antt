use Rattle.sng_script.proofs.PlaceLemmas.{first_byte}
use Rattle.sng_script.proofs.sender.place_of.Goals as goal

pub returns : goal.returns
returns c = first_byte c.args.byte c.args.text.now c.memchr.result c.memchr.ensures
