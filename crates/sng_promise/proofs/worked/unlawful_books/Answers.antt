use Rattle.sng_promise.proofs.Examples.WorkedBooks.{not_let_out}
use Rattle.sng_promise.proofs.Examples.WorkedEnds.{not_kept}
use Rattle.sng_promise.proofs.worked.unlawful_books.Goals as goal

pub returns : goal.returns
returns c = record { let_out = not_let_out; kept = not_kept }
