-- What stands are filters, before a change and after it.
use Rattle.std.proofs.Common.{◌≡◌, ℕ, Bool, true, false, ◌&&◌, ◌==◌, List, Option, cond, is_some}
use Rattle.std.proofs.Common.{refl, sym, ap, ◌∙◌, subst, OnOk, OnErr}
use Rattle.std.proofs.lemmas.Bool.{and_parts}
use Rattle.std.specs.declared.result.Result.{Result}
use Rattle.std.specs.declared.result.Result.TheVariants.{Ok, Err}
use Rattle.sng_text.specs.Levels.{levels_of}
use Rattle.sng_text.specs.Texts.{is_filter}
use Rattle.sng_text.specs.declared.qos.Qos.{Qos}
use Rattle.sng_text.proofs.LevelLemmas.{levels_are_parts}
use Rattle.sng_standing.specs.declared.node.Node.{Node}
use Rattle.sng_standing.specs.Tree.{qos_left}
use Rattle.sng_standing.specs.Standing.{same_levels, IsBare, SaysSame, Moves, AreOfFilter, HasFilters}
use Rattle.sng_standing.proofs.Levels.{same_by_levels}

-- those of nobody
pub bare_filters : (node : Node) → IsBare node → HasFilters node
bare_filters node bare n levels held =
    let none : false ≡ true = sym (ap is_some (bare n levels)) ∙ held in absurd (cc)

same_filters : (before after : Node) → HasFilters before → SaysSame before after → HasFilters after
same_filters before after has same n levels held = has n levels (sym (ap is_some (same n levels)) ∙ held)

-- the levels of a filter's text
of_text : (filter : List ℕ) → is_filter filter ≡ true → AreOfFilter (levels_of filter)
of_text filter is =
    let parts = (levels_are_parts filter).1 in (ap levels_of parts, ap is_filter parts ∙ is)

moved_filters : (before after : Node) (client : ℕ) (filter : List ℕ) (now : Option Qos) → HasFilters before
    → is_filter filter ≡ true → Moves before after client (levels_of filter) now → HasFilters after
moved_filters before after client filter now has is moves n levels held =
    by ((client == n) && same_levels (levels_of filter) levels) refl
  where
    by : (here : Bool) → ((client == n) && same_levels (levels_of filter) levels) ≡ here → AreOfFilter levels
    by true here_is =
        let same = (and_parts (client == n) (same_levels (levels_of filter) levels) here_is).1 in
        subst AreOfFilter (same_by_levels (levels_of filter) levels same) (of_text filter is)
    by false here_is =
        let kept = moves n levels ∙ ap (λ b. cond b now (qos_left before n levels)) here_is in
        has n levels (sym (ap is_some kept) ∙ held)

-- after a step that changes nothing where it fails
pub filters_after : {T E : Type 0} (result : Result T E) (before after : Node) (client : ℕ) (filter : List ℕ)
    (now : Option Qos) → HasFilters before → is_filter filter ≡ true
    → OnOk result (Moves before after client (levels_of filter) now) → OnErr result (SaysSame before after)
    → HasFilters after
filters_after (Ok value) before after client filter now has is moves same =
    moved_filters before after client filter now has is moves
filters_after (Err error) before after client filter now has is moves same =
    same_filters before after has same
