-- What planning takes into use, and how that is given back (MQTT 3.1.1, 2.3.1).
use Rattle.std.specs.Prelude.{ℕ, ◌≡◌, Bool, true, false, List, [], ◌∷◌, reverse, set, Option, Some, None}
use Rattle.sng_history.specs.Links.{Wanted}
use Rattle.sng_wanted.specs.Filters.{reopened, forgiven, IsFree}
use Rattle.sng_link.specs.declared.step.Step.{Step}

-- the marks with this packet id in use or not, where it is one
abbrev pub marked : List Bool → Option ℕ → Bool → List Bool
marked marks None mark = marks
marked marks (Some packet_id) mark = set marks packet_id mark

-- the marks once a step was taken: its packet id is in use, and the former one is free
abbrev pub forth_marks : List Bool → Step → List Bool
forth_marks marks step = marked (marked marks step.packet_id true) step.former false

-- and once it was taken back
abbrev pub back_marks : List Bool → Step → List Bool
back_marks marks step = marked (marked marks step.former true) step.packet_id false

abbrev pub reopened_at : List Wanted → Option ℕ → Option ℕ → Bool → List Wanted
reopened_at wanted None former owed = wanted
reopened_at wanted (Some packet_id) former owed = reopened wanted packet_id former owed

abbrev pub forgiven_at : List Wanted → Option (List ℕ) → List Wanted
forgiven_at wanted None = wanted
forgiven_at wanted (Some filter) = forgiven wanted filter

-- the filters once a step was taken back: the former SUBSCRIBE is the open one, or one is owed again; and none
-- is owed that came to be by it
abbrev pub back_wanted : List Wanted → Step → List Wanted
back_wanted wanted step =
    forgiven_at (reopened_at wanted step.packet_id step.former step.owed) step.owes

-- all steps were taken back, the newest being the first of these
abbrev pub undone_marks : List Bool → List Step → List Bool
undone_marks marks [] = marks
undone_marks marks (step ∷ earlier) = undone_marks (back_marks marks step) earlier

abbrev pub undone_wanted : List Wanted → List Step → List Wanted
undone_wanted wanted [] = wanted
undone_wanted wanted (step ∷ earlier) = undone_wanted (back_wanted wanted step) earlier

-- the former packet id is one that no filter has
abbrev pub IsBack : List Wanted → Option ℕ → Option ℕ → Type 0
IsBack wanted None former = Unit {0}
IsBack wanted (Some packet_id) former = IsFree wanted former

-- they can be taken back
abbrev pub CanUndo : List Wanted → List Step → Type 0
CanUndo wanted [] = Unit {0}
CanUndo wanted (step ∷ earlier) =
    IsBack wanted step.packet_id step.former × CanUndo (back_wanted wanted step) earlier

-- taken back, the steps of the log, the newest last, lead to where they began
pub record Logged (from : List Bool) (first : List Wanted) (log : List Step) (marks : List Bool)
    (wanted : List Wanted) : Type 0 where
  pub can : CanUndo wanted (reverse log)
  pub marks_back : undone_marks marks (reverse log) ≡ from
  pub wanted_back : undone_wanted wanted (reverse log) ≡ first
