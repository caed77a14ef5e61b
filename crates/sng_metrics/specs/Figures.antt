-- The page of figures: its families, in their order, and the answer that has it.
use Rattle.std.specs.Prelude.{ℕ, List, [], ◌∷◌, ◌++◌}
use Rattle.sng_metrics.specs.Answers.{answer_text}
use Rattle.sng_metrics.specs.Counts.{change_families, decisions_family, rows_family, traffic_families}
use Rattle.sng_metrics.specs.Gauges.{clients_family, fault_families, health_families, program_families}
use Rattle.sng_metrics.specs.Gauges.{waiting_families}
use Rattle.sng_metrics.specs.Pages.{Family, page_text}
use Rattle.sng_metrics.specs.declared.figures.Figures.{Figures}
use Rattle.sng_metrics.specs.declared.heard.Form.{Form}
use Rattle.sng_metrics.specs.declared.status.Media.TheVariants as media
use Rattle.sng_metrics.specs.declared.status.Status.TheVariants as status
use Rattle.sng_tally.specs.Tallies.{Tally}

-- what is so now
abbrev pub state_families : Figures → List Family
state_families figures =
    program_families figures
    ++ (health_families figures.health ++ (clients_family figures.clients ∷ waiting_families figures))

-- what is counted of rows
abbrev pub count_families : Tally → List Family
count_families tally =
    rows_family tally ∷ decisions_family tally ∷ (traffic_families tally ++ change_families tally)

-- all families of the page
abbrev pub families_of : Tally → Figures → List Family
families_of tally figures =
    state_families figures ++ (count_families tally ++ fault_families figures)

-- the answer that has the page
abbrev pub metrics_text : Form → Tally → Figures → List ℕ
metrics_text form tally figures =
    answer_text status.Ok media.Figures form (page_text (families_of tally figures))
