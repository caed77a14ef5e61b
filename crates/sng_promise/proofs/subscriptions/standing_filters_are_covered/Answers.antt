use Rattle.sng_promise.proofs.BookLaws.{book_filters, book_allowed, book_received}
use Rattle.sng_promise.proofs.subscriptions.standing_filters_are_covered.Goals as goal

pub returns : goal.returns
returns c = record { filters = book_filters; allowed = book_allowed; received = book_received }
