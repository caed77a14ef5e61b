-- The laws of the filters that are wanted.
use Rattle.std.proofs.Common.{◌≡◌, ℕ, List, [], ◌∷◌, ap, sym, ◌∙◌, subst}
use Rattle.std.specs.List.{list_any}
use Rattle.sng_book.specs.declared.row.Row.{Row}
use Rattle.sng_history.specs.Links.{Wanted}
use Rattle.sng_history.specs.State.{opening, state_of}
use Rattle.sng_history.specs.Lawful.{Lawful}
use Rattle.sng_history.specs.Good.{WantedOnce}
use Rattle.sng_laws.specs.ViewsStanding.{is_for, held_in}
use Rattle.sng_laws.specs.ViewsWanted.{wanted}
use Rattle.sng_laws.specs.LawsStanding.{EachOnce}
use Rattle.sng_promise.proofs.Clients.SeenState.{stands}
use Rattle.sng_promise.proofs.Standing.StandingState.{standing_shown, held_shown}
use Rattle.sng_promise.proofs.WantedFilters.UpstreamWanted.{wanted_shown}

-- just those that stand for somebody
pub wanted_just : (h : List Row) → Lawful opening h → (text : List ℕ)
    → list_any (is_for text) (wanted h) ≡ held_in h text
wanted_just h l text =
    let s = state_of opening h in
    let was = stands h l in
    ap (list_any (is_for text)) (sym (wanted_shown h l).wanted)
    ∙ (was.good.wanted_held text ∙ sym (held_shown h s text was.shown.order (standing_shown h l).filters))

twice : (wanted : List Wanted) → WantedOnce wanted → EachOnce wanted
twice [] once = tt
twice (w ∷ wanted) once = (once.0, twice wanted once.1)

-- each once
pub wanted_once : (h : List Row) → Lawful opening h → EachOnce (wanted h)
wanted_once h l =
    subst EachOnce (wanted_shown h l).wanted
    (twice (state_of opening h).link.wanted (stands h l).good.wanted_once)
