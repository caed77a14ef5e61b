-- The families of a page that are counted of rows.
use Rattle.std.specs.Prelude.{ℕ, Bool, true, false, not, List, [], ◌∷◌, ◌++◌, codes, if◌then◌else◌}
use Rattle.sng_book.specs.Printing.{kind_text}
use Rattle.sng_book.specs.declared.event.EventKind.{EventKind}
use Rattle.sng_book.specs.declared.event.EventKind.TheVariants as event
use Rattle.sng_metrics.specs.Gauges.{labelled}
use Rattle.sng_metrics.specs.Pages.{Family, Pair, Sample, counted}
use Rattle.sng_metrics.specs.declared.metric.Metric.TheVariants as metric
use Rattle.sng_metrics.specs.declared.sample.Value.TheVariants.{Whole}
use Rattle.sng_metrics.specs.declared.counts.TheConstants.{EVENTS}
use Rattle.sng_tally.specs.Figures.{Rows, Outs, Decisions, Datagrams, Packets}
use Rattle.sng_tally.specs.Kinds.{is_denied, kind_word, rule_name}
use Rattle.sng_tally.specs.Tallies.{Tally, figure}
use Rattle.sng_tally.specs.declared.decision_kind.DecisionKind.{DecisionKind}
use Rattle.sng_tally.specs.declared.decision_kind.DecisionKind.TheVariants as kind
use Rattle.sng_tally.specs.declared.decision_kind.TheConstants.DecisionKind.{ALL as all_kinds}
use Rattle.sng_tally.specs.declared.outcome_kind.OutcomeKind.{OutcomeKind}
use Rattle.sng_tally.specs.declared.outcome_kind.TheConstants.OutcomeKind.{ALL as all_outcomes}
use Rattle.sng_tally.specs.declared.outcome_kind.OutcomeKind.TheVariants.{Allowed, Done, Denied}

-- ---- rows

abbrev pub row_sample : Tally → EventKind → Sample
row_sample tally kind = labelled (codes "event") (kind_text kind) (figure (Rows kind) tally)

abbrev pub row_samples : Tally → List EventKind → List Sample
row_samples tally [] = []
row_samples tally (kind ∷ kinds) = row_sample tally kind ∷ row_samples tally kinds

abbrev pub rows_family : Tally → Family
rows_family tally = record { metric = metric.Rows; samples = row_samples tally EVENTS }

-- ---- decisions

abbrev pub is_allowed : OutcomeKind → Bool
is_allowed Allowed = true
is_allowed Done = false
is_allowed (Denied by) = false

abbrev pub is_done : OutcomeKind → Bool
is_done Allowed = false
is_done Done = true
is_done (Denied by) = false

-- whether a decision of this kind can come out so
abbrev pub may_come : DecisionKind → OutcomeKind → Bool
may_come kind.Connect outcome = not (is_done outcome)
may_come kind.Register outcome = not (is_done outcome)
may_come kind.Publish outcome = not (is_done outcome)
may_come kind.Subscribe outcome = not (is_done outcome)
may_come kind.Unsubscribe outcome = not (is_done outcome)
may_come kind.Will outcome = not (is_done outcome)
may_come kind.Announce outcome = is_allowed outcome
may_come kind.Hand outcome = not (is_done outcome)
may_come kind.Retry outcome = not (is_done outcome)
may_come kind.Forward outcome = not (is_done outcome)
may_come kind.Again outcome = not (is_done outcome)
may_come kind.End outcome = not (is_done outcome)
may_come kind.Lost outcome = is_done outcome
may_come kind.Left outcome = is_done outcome
may_come kind.Outbox outcome = is_denied outcome
may_come kind.Frame outcome = not (is_done outcome)

-- how it came out, in a word
abbrev pub outcome_word : OutcomeKind → List ℕ
outcome_word Allowed = codes "allowed"
outcome_word Done = codes "done"
outcome_word (Denied by) = codes "denied"

-- the name of the rule that denied, where one did
abbrev pub rule_word : OutcomeKind → List ℕ
rule_word Allowed = []
rule_word Done = []
rule_word (Denied by) = rule_name by

abbrev pub decision_labels : DecisionKind → OutcomeKind → List Pair
decision_labels kind outcome =
    (codes "outcome", outcome_word outcome) ∷ (codes "kind", kind_word kind)
    ∷ (codes "rule", rule_word outcome) ∷ []

-- how many decisions of this kind came out so
abbrev pub came_sample : Tally → DecisionKind → OutcomeKind → Sample
came_sample tally kind outcome = record {
  labels = decision_labels kind outcome;
  value = Whole (figure (Outs (Decisions kind outcome)) tally);
}

-- the same, where any can
abbrev pub decision_sample : Tally → DecisionKind → OutcomeKind → List Sample
decision_sample tally kind outcome =
    if may_come kind outcome then came_sample tally kind outcome ∷ [] else []

unfoldable pub kind_samples : Tally → DecisionKind → List OutcomeKind → List Sample
kind_samples tally kind [] = []
kind_samples tally kind (outcome ∷ outcomes) =
    decision_sample tally kind outcome ++ kind_samples tally kind outcomes

unfoldable pub samples_of_kind : Tally → DecisionKind → List Sample
samples_of_kind tally kind = kind_samples tally kind all_outcomes

unfoldable pub decision_samples : Tally → List DecisionKind → List Sample
decision_samples tally [] = []
decision_samples tally (kind ∷ kinds) = samples_of_kind tally kind ++ decision_samples tally kinds

abbrev pub decisions_family : Tally → Family
decisions_family tally =
    record { metric = metric.Decisions; samples = decision_samples tally all_kinds }

-- ---- what came and what went

abbrev pub traffic_families : Tally → List Family
traffic_families tally =
    counted metric.DatagramsReceived (figure (Rows event.Datagram) tally)
    ∷ counted metric.DatagramsSent (figure (Outs Datagrams) tally)
    ∷ counted metric.PacketsReceived (figure (Rows event.Broker) tally)
    ∷ counted metric.PacketsSent (figure (Outs Packets) tally)
    ∷ []

-- how often the broker's connection and the policy changed
abbrev pub change_families : Tally → List Family
change_families tally =
    counted metric.ConnectionsMade (figure (Rows event.Up) tally)
    ∷ counted metric.ConnectionsLost (figure (Rows event.Down) tally)
    ∷ counted metric.PoliciesTaken (figure (Rows event.Replace) tally)
    ∷ []
