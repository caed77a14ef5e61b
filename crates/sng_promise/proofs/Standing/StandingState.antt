-- For whom filters stand in the state that a lawful history leads to is what its rows show.
use Rattle.std.proofs.Common.{◌≡◌, ℕ, false, List, [], ◌∷◌, refl, ap, sym, ◌∙◌}
use Rattle.sng_book.specs.declared.row.Row.{Row}
use Rattle.sng_history.specs.Clients.{Client}
use Rattle.sng_history.specs.Standing.{is_held}
use Rattle.sng_history.specs.State.{State, opening, state_of}
use Rattle.sng_history.specs.Lawful.{Lawful}
use Rattle.sng_history.specs.Good.{Each}
use Rattle.sng_laws.specs.ViewsClients.{is_among, accepted}
use Rattle.sng_laws.specs.ViewsStanding.{standing_of, held_by, held_in}
use Rattle.sng_laws.specs.LawsState.{ClientShown}
use Rattle.sng_history.proofs.Own.{each_map}
use Rattle.sng_history.proofs.ClientIds.{ids_of}
use Rattle.sng_promise.proofs.Clients.SeenState.{stands}

-- what stands for a client is what the rows show
abbrev pub FiltersShown : List Row → Client → Type 0
FiltersShown h x = x.filters ≡ standing_of x.id h

pub record StandingShown (h : List Row) (s : State) : Type 0 where
  pub filters : Each (FiltersShown h) s.clients
  -- nothing stands for who was never accepted
  pub strangers : (id : List ℕ) → is_among id (accepted h) ≡ false → standing_of id h ≡ []

pub standing_shown : (h : List Row) → Lawful opening h → StandingShown h (state_of opening h)
standing_shown h l =
    let s = state_of opening h in
    let shown = (stands h l).shown in
    record {
      filters = each_map (ClientShown h) (FiltersShown h) s.clients (λ x is. is.filters) shown.clients;
      strangers = shown.strangers;
    }

-- ---- for whom a filter stands

held_same : (h : List Row) (xs : List Client) (text : List ℕ) → Each (FiltersShown h) xs
    → held_by (ids_of xs) h text ≡ is_held xs text
held_same h [] text shown = refl
held_same h (x ∷ xs) text shown = rw (sym shown.0, held_same h xs text shown.1) refl

pub held_shown : (h : List Row) (s : State) (text : List ℕ) → ids_of s.clients ≡ accepted h
    → Each (FiltersShown h) s.clients
    → held_in h text ≡ is_held s.clients text
held_shown h s text order shown =
    ap (λ ids. held_by ids h text) (sym order) ∙ held_same h s.clients text shown
