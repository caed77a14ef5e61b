use Rattle.sng_check.proofs.Having.{no_book}
use Rattle.sng_check.proofs.laws.a_departure_is_no_book.Goals as goal

pub returns : goal.returns
returns c = no_book
