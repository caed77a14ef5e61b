-- Each filter that stands for a client is a topic filter.
use Rattle.std.proofs.Common.{◌≡◌, ℕ, Bool, true, false, List, [], ◌∷◌, refl, ap, sym, ◌∙◌, subst}
use Rattle.std.specs.Prelude.{◌||◌}
use Rattle.std.specs.Str.{bytes_eq}
use Rattle.sng_text.specs.Texts.{is_filter}
use Rattle.sng_fan.specs.Subscriptions.{stands}
use Rattle.sng_book.specs.declared.event.Event.{Event}
use Rattle.sng_book.specs.declared.out.Out.{Out}
use Rattle.sng_book.specs.declared.row.Row.{Row}
use Rattle.sng_history.specs.Causes.{cause_of}
use Rattle.sng_history.specs.Clients.{Client}
use Rattle.sng_history.specs.State.{State, opening, after, state_of}
use Rattle.sng_history.specs.Lawful.{Lawful}
use Rattle.sng_history.specs.Steps.{outs_of}
use Rattle.sng_history.specs.Good.{Each, Good}
use Rattle.sng_laws.specs.ViewsClients.{is_among}
use Rattle.sng_laws.specs.ViewsStanding.{standing_of}
use Rattle.sng_history.proofs.Own.{same_means}
use Rattle.sng_promise.proofs.WantedFilters.HeldFilters.{OwnFilters, filters_next, stands_filter}
use Rattle.sng_history.proofs.Keeping.{exact_by, next_same}
use Rattle.sng_history.proofs.ClientIds.{ids_of}
use Rattle.sng_promise.proofs.Clients.SeenState.{stands as state_stands}
use Rattle.sng_promise.proofs.Standing.StandingState.{FiltersShown, standing_shown}

are_after : (s : State) (e : Event) (outs : List Out) → outs ≡ outs_of s e → Good s
    → Each OwnFilters s.clients → Each OwnFilters (after s (cause_of e) outs).clients
are_after s e outs is good are =
    subst (λ o. Each OwnFilters (after s (cause_of e) o).clients) (sym is)
    (subst (λ t. Each OwnFilters t.clients) (sym (next_same s (cause_of e) good))
    (filters_next s (cause_of e) are))

pub are_filters : (h : List Row) → Lawful opening h → Each OwnFilters (state_of opening h).clients
are_filters [] l = tt
are_filters (row ∷ h) l =
    let s = state_of opening h in
    are_after s row.event row.outs (exact_by s (cause_of row.event) row.outs l.1)
    (state_stands h l.0).good (are_filters h l.0)

among_filters : (h : List Row) (id text : List ℕ) (xs : List Client) (b : Bool) → is_among id (ids_of xs) ≡ b
    → (b ≡ false → standing_of id h ≡ []) → Each OwnFilters xs → Each (FiltersShown h) xs
    → stands (standing_of id h) text ≡ true → is_filter text ≡ true
among_filters h id text xs false is none are shown stood =
    absurd (let bad : false ≡ true = subst (λ held. stands held text ≡ true) (none refl) stood in cc)
among_filters h id text [] true is none are shown stood = absurd cc
among_filters h id text (x ∷ xs) true is none are shown stood =
    at (bytes_eq id x.id) refl is
    (λ later. among_filters h id text xs true later (λ bad. absurd cc) are.1 shown.1 stood)
  where
    at : (same : Bool) → bytes_eq id x.id ≡ same → (same || is_among id (ids_of xs)) ≡ true
        → (is_among id (ids_of xs) ≡ true → is_filter text ≡ true) → is_filter text ≡ true
    at true same is rest =
        let e : id ≡ x.id = same_means id x.id same in
        stands_filter x.filters text are.0
        (subst (λ held. stands held text ≡ true) (ap (λ i. standing_of i h) e ∙ sym shown.0) stood)
    at false same is rest = rest is

pub standing_filter : (h : List Row) → Lawful opening h → (id text : List ℕ)
    → stands (standing_of id h) text ≡ true → is_filter text ≡ true
standing_filter h l id text stood =
    let s = state_of opening h in
    let shown = standing_shown h l in
    among_filters h id text s.clients (is_among id (ids_of s.clients)) refl
    (λ none. shown.strangers id (subst (λ ids. is_among id ids ≡ false) (state_stands h l).shown.order none))
    (are_filters h l) shown.filters stood
