-- What `sng status` reads off the answer of a gateway, and by which status it ends.
use Rattle.std.specs.Prelude.{ℕ, ◌≡◌, ◌==◌, Bool, true, List, Ok, if◌then◌else◌}
use Rattle.std.specs.List.{slice_split}
use Rattle.sng_metrics.specs.Healths.{is_well}
use Rattle.sng_metrics.specs.Responses.{IsReadOf}
use Rattle.sng_metrics.specs.Summaries.{IsSummaryIn}
use Rattle.sng_metrics.specs.declared.health.Health.{Health}
use Rattle.sng_metrics.specs.declared.response.Answer.{Answer}
use Rattle.sng_metrics.specs.declared.summary.Summary.{Summary}
use Rattle.sng_script.specs.Statuses.{ended}
use Rattle.sng_script.specs.declared.status.Status.{Status}
use Rattle.sng_script.specs.declared.status.Status.TheVariants.{Done, Unreadable}

-- some octets are an answer with status 200, whose content is a page with these figures
pub record IsOfAnswer (summary : Summary) : Type 0 where
  pub octets : List ℕ
  pub answer : Answer
  pub read : IsReadOf octets (Ok answer)
  pub code : answer.code ≡ 200
  pub figures : IsSummaryIn (slice_split (λ b. b == 10) answer.content.now) summary

abbrev pub is_well_by : Health → Bool
is_well_by health = is_well health.broker_is_up health.book_takes_rows

-- where all is well the command has done what it was to do
abbrev pub status_of : Health → Status
status_of health = if is_well_by health then Done else Unreadable

-- how it ends once the table was printed, or was not
pub record EndsBy (health : Health) (status : Status) : Type 0 where
  pub printed : Bool
  pub is_status : status ≡ ended (status_of health) printed

-- a gateway answered that all is well there
pub record IsWell : Type 0 where
  pub summary : Summary
  pub answer : IsOfAnswer summary
  pub well : is_well_by summary.health ≡ true
