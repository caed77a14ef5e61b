use Rattle.sng_promise.proofs.Examples.WorkedBooks.{denied}
use Rattle.sng_promise.proofs.Examples.WorkedEnds.{ended}
use Rattle.sng_promise.proofs.worked.lawful_books.Goals as goal

pub returns : goal.returns
returns c = record { denied = denied; ended = ended }
