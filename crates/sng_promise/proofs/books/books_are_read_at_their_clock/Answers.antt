use Rattle.sng_promise.proofs.BookShown.{shown_by}
use Rattle.sng_promise.proofs.books.books_are_read_at_their_clock.Goals as goal

pub returns : goal.returns
returns c = shown_by
