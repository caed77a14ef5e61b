-- What a tick of the clock lets out, and who is lost, in each lawful history.
use Rattle.std.proofs.Common.{◌≡◌, ℕ, List, [], ◌∷◌, ap, ◌∙◌}
use Rattle.sng_book.specs.declared.event.Event.TheVariants.{Tick}
use Rattle.sng_book.specs.declared.row.Row.{Row}
use Rattle.sng_history.specs.Causes.{cause_of}
use Rattle.sng_history.specs.State.{opening, state_of}
use Rattle.sng_history.specs.Lawful.{Lawful}
use Rattle.sng_history.specs.Steps.{outs_of}
use Rattle.sng_laws.specs.LawsLost.{tick_answer, is_lost_in, LostExactly}
use Rattle.sng_history.proofs.Keeping.{exact_by}
use Rattle.sng_promise.proofs.Clients.SeenState.{stands}
use Rattle.sng_promise.proofs.Link.SeenLast.{rest_shown}
use Rattle.sng_promise.proofs.Clients.NeverAccepted.{never_accepted}
use Rattle.sng_promise.proofs.Handing.LawSettled.{front_announced}
use Rattle.sng_promise.proofs.Ticks.LawTicks.{tick_row}
use Rattle.sng_promise.proofs.Ticks.LawLost.{row_lost}

-- what the step lets out with a tick
tick_outs : (h : List Row) → Lawful opening h → (came : ℕ)
    → outs_of (state_of opening h) (Tick came) ≡ tick_answer h came
tick_outs h l came = tick_row h (state_of opening h) came (stands h l) (rest_shown h l) (front_announced h l)

pub tick_law : (h : List Row) (row : Row) (came : ℕ) → Lawful opening (row ∷ h) → row.event ≡ Tick came
    → row.outs ≡ tick_answer h came
tick_law h row came l is =
    exact_by (state_of opening h) (cause_of row.event) row.outs l.1
    ∙ (ap (outs_of (state_of opening h)) is ∙ tick_outs h l.0 came)

pub lost_law : (h : List Row) → Lawful opening h → (id : List ℕ) → LostExactly id h
lost_law [] l id = tt
lost_law (row ∷ h) l id = (
  lost_law h l.0 id,
  ap (is_lost_in id) (exact_by (state_of opening h) (cause_of row.event) row.outs l.1)
      ∙ row_lost h (state_of opening h) row.event id (never_accepted h l.0 id)
      (λ came is. ap (outs_of (state_of opening h)) is ∙ tick_outs h l.0 came),
)
