-- The families of a page that tell what is so now, and what the program counts beside its rows.
use Rattle.std.specs.Prelude.{ℕ, Bool, List, [], ◌∷◌, ◌++◌, codes, if◌then◌else◌}
use Rattle.sng_metrics.specs.Pages.{Family, Sample, counted, plain}
use Rattle.sng_metrics.specs.declared.figures.ClientFigures.{ClientFigures}
use Rattle.sng_metrics.specs.declared.figures.Figures.{Figures}
use Rattle.sng_metrics.specs.declared.health.Health.{Health}
use Rattle.sng_metrics.specs.declared.metric.Metric.TheVariants as metric
use Rattle.sng_metrics.specs.declared.sample.Value.{Value}
use Rattle.sng_metrics.specs.declared.sample.Value.TheVariants.{Whole, Millis}

-- a sample with one label
abbrev pub labelled : (name value : List ℕ) → ℕ → Sample
labelled name value count = record { labels = (name, value) ∷ []; value = Whole count }

-- the version, as a label
abbrev pub build_family : List ℕ → Family
build_family version =
    record { metric = metric.BuildInfo; samples = labelled (codes "version") version 1 ∷ [] }

abbrev pub program_families : Figures → List Family
program_families figures =
    build_family figures.version.now
    ∷ counted metric.Uptime figures.uptime
    ∷ plain metric.Clock (Millis figures.clock)
    ∷ []

-- 1 for what is so, and 0 for what is not
abbrev pub truth : Bool → Value
truth holds = if holds then Whole 1 else Whole 0

abbrev pub health_families : Health → List Family
health_families health =
    plain metric.BrokerUp (truth health.broker_is_up)
    ∷ plain metric.BookTakesRows (truth health.book_takes_rows)
    ∷ []

abbrev pub client_sample : List ℕ → ℕ → Sample
client_sample state count = labelled (codes "state") state count

-- those that are connected or asleep
abbrev pub present_samples : ClientFigures → List Sample
present_samples clients =
    client_sample (codes "active") clients.active
    ∷ client_sample (codes "asleep") clients.asleep
    ∷ client_sample (codes "awake") clients.awake
    ∷ []

-- those that are not connected yet, or no longer
abbrev pub absent_samples : ClientFigures → List Sample
absent_samples clients =
    client_sample (codes "in_dialogue") clients.in_dialogue
    ∷ client_sample (codes "disconnected") clients.disconnected
    ∷ client_sample (codes "lost") clients.lost
    ∷ []

abbrev pub clients_family : ClientFigures → Family
clients_family clients =
    record { metric = metric.Clients; samples = present_samples clients ++ absent_samples clients }

abbrev pub waiting_families : Figures → List Family
waiting_families figures =
    counted metric.Subscriptions figures.subscriptions
    ∷ counted metric.MessagesWaiting figures.messages_waiting
    ∷ counted metric.ItemsWaiting figures.items_waiting
    ∷ counted metric.InFlight figures.in_flight
    ∷ counted metric.RowsWaiting figures.rows_waiting
    ∷ []

abbrev pub fault_families : Figures → List Family
fault_families figures =
    counted metric.PoliciesRefused figures.refused_policies
    ∷ counted metric.RefusedEvents figures.refused_events
    ∷ counted metric.FailedSends figures.failed_sends
    ∷ []
