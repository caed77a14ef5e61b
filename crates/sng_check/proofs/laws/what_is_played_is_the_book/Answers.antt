use Rattle.sng_check.proofs.Having.{ended_book, stopped_book}
use Rattle.sng_check.proofs.laws.what_is_played_is_the_book.Goals as goal

pub returns : goal.returns
returns c = record { ended = ended_book; unreadable = stopped_book }
