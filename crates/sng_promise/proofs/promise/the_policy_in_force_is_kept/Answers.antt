use Rattle.sng_promise.proofs.BookLaws.{book_told}
use Rattle.sng_promise.proofs.promise.the_policy_in_force_is_kept.Goals as goal

pub returns : goal.returns
returns c = record {
  notes = λ h book. (book_told h book).stands;
  reached = λ h book. (book_told h book).reaches;
  announced = λ h book. (book_told h book).announced;
}
