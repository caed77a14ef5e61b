use Rattle.std.proofs.Common.{◌≡◌, ◌+◌, ◌<◌, ◌≤◌, ℕ, List, [], ◌∷◌, ◌++◌, true, length, take, sym, subst, ap}
use Rattle.std.proofs.Common.{◌∙◌, All}
use Rattle.std.proofs.lemmas.List.{take_more, take_all}
use Rattle.std.proofs.lemmas.List.Elements.{All-push}
use Rattle.sng_text.specs.Texts.{is_filter}
use Rattle.sng_cover.proofs.inclusion.are_filters.Goals as goal

abbrev IsFilter : List ℕ → Type 0
IsFilter filter = is_filter filter ≡ true

pub loop-filter-preserved : goal.loop-filter-preserved
loop-filter-preserved c =
    let filters : List (List ℕ) = c.args.filters.now in
    let i : ℕ = c.loop-filter.filter-index in
    let filter : List ℕ = c.filter-item.result in
    let within : i < length filters = c.loop-filter-test.true in
    let one_more : take (i + 1) filters ≡ take i filters ++ filter ∷ [] =
    take_more filters i filter within
    ∙ ap (λ (item : List ℕ). take i filters ++ item ∷ []) (sym c.filter-item.is) in
    subst (λ (some : List (List ℕ)). All IsFilter some) (sym one_more)
    (All-push IsFilter (take i filters) filter c.loop-filter.invariant c.text-text.ensures.filter)

pub returns : goal.returns
returns c =
    let past : length c.args.filters.now ≤ c.loop-filter.filter-index = c.loop-filter-test.false in
    subst (λ (some : List (List ℕ)). All IsFilter some)
    (take_all c.loop-filter.filter-index c.args.filters.now past) c.loop-filter.invariant
