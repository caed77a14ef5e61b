use Rattle.sng_check.proofs.Having.{has_book}
use Rattle.sng_check.proofs.Unique.{same_book}
use Rattle.sng_check.proofs.laws.a_script_has_one_book.Goals as goal

pub returns : goal.returns
returns c = record { one = has_book; no_other = same_book }
