use Rattle.sng_history.proofs.BookSteps.{book_kept, book_good, book_opening}
use Rattle.sng_history.proofs.step_keeps_books.Goals as goal

pub returns : goal.returns
returns c = record { kept = book_kept; opening = book_opening; good = book_good }
