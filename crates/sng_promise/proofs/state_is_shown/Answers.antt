use Rattle.sng_promise.proofs.BookLaws.{book_state}
use Rattle.sng_promise.proofs.Clients.SeenState.{stands}
use Rattle.sng_promise.proofs.Clients.NeverAccepted.{never_accepted}
use Rattle.sng_promise.proofs.Link.SeenLast.{rest_shown}
use Rattle.sng_promise.proofs.OpenIds.OpenShown.{open_shown}
use Rattle.sng_promise.proofs.state_is_shown.Goals as goal

pub returns : goal.returns
returns c = record {
  policy = λ h s book. (book_state h s book).policy;
  clock = λ h s book. (book_state h s book).clock;
  up = λ h s book. (book_state h s book).up;
  waits = λ h l. (stands h l).shown.waits;
  rest = rest_shown;
  order = λ h l. (stands h l).shown.order;
  clients = λ h l. (stands h l).shown.clients;
  opened = open_shown;
  strangers = never_accepted;
}
