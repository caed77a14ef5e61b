-- The figures that matter, as they are read off the lines of a page.
use Rattle.std.specs.Prelude.{ℕ, Bool, ◌≡◌, ◌==◌, ◌⊎◌, IsOkAnd, List, Some, None, Ok, Err, codes}
use Rattle.sng_metrics.specs.Metrics.{name_of}
use Rattle.sng_metrics.specs.Readings.{figure_in, label_in}
use Rattle.sng_metrics.specs.declared.figures.ClientFigures.{ClientFigures}
use Rattle.sng_metrics.specs.declared.health.Health.{Health}
use Rattle.sng_metrics.specs.declared.metric.Metric.{Metric}
use Rattle.sng_metrics.specs.declared.metric.Metric.TheVariants as metric
use Rattle.sng_metrics.specs.declared.summary.Summary.{Summary}
use Rattle.sng_metrics.specs.declared.summary.SummaryFault.{SummaryFault}
use Rattle.sng_metrics.specs.declared.summary.SummaryFault.TheVariants.{Missing, Unreadable, Memory}
use Rattle.sng_metrics.specs.declared.summary.Traffic.{Traffic}

-- a figure without labels is this number
abbrev pub IsPlain : List (List ℕ) → Metric → ℕ → Type 0
IsPlain lines metric number = figure_in lines metric (codes " ") ≡ Ok number

-- what is so has the figure 1
abbrev pub IsTruth : List (List ℕ) → Metric → Bool → Type 0
IsTruth lines metric holds = IsOkAnd (figure_in lines metric (codes " ")) (λ number. holds ≡ (number == 1))

pub record IsHealthIn (lines : List (List ℕ)) (health : Health) : Type 0 where
  pub broker : IsTruth lines metric.BrokerUp health.broker_is_up
  pub book : IsTruth lines metric.BookTakesRows health.book_takes_rows

pub record AreClientsIn (lines : List (List ℕ)) (clients : ClientFigures) : Type 0 where
  pub active : figure_in lines metric.Clients (codes "{state=\"active\"} ") ≡ Ok clients.active
  pub asleep : figure_in lines metric.Clients (codes "{state=\"asleep\"} ") ≡ Ok clients.asleep
  pub awake : figure_in lines metric.Clients (codes "{state=\"awake\"} ") ≡ Ok clients.awake
  pub in_dialogue : figure_in lines metric.Clients (codes "{state=\"in_dialogue\"} ") ≡ Ok clients.in_dialogue
  pub disconnected : figure_in lines metric.Clients (codes "{state=\"disconnected\"} ")
      ≡ Ok clients.disconnected
  pub lost : figure_in lines metric.Clients (codes "{state=\"lost\"} ") ≡ Ok clients.lost

-- rows of all kinds, and decisions that were denied, whatever their other labels
pub record IsTrafficIn (lines : List (List ℕ)) (traffic : Traffic) : Type 0 where
  pub rows : figure_in lines metric.Rows (codes "{") ≡ Ok traffic.rows
  pub rows_waiting : IsPlain lines metric.RowsWaiting traffic.rows_waiting
  pub messages_waiting : IsPlain lines metric.MessagesWaiting traffic.messages_waiting
  pub in_flight : IsPlain lines metric.InFlight traffic.in_flight
  pub denied : figure_in lines metric.Decisions (codes "{outcome=\"denied\",") ≡ Ok traffic.denied
  pub received : IsPlain lines metric.DatagramsReceived traffic.received
  pub sent : IsPlain lines metric.DatagramsSent traffic.sent

abbrev pub IsVersionIn : List (List ℕ) → List ℕ → Type 0
IsVersionIn lines version =
    label_in lines (name_of metric.BuildInfo) (codes "{version=\"") ≡ Some version

pub record IsSummaryIn (lines : List (List ℕ)) (summary : Summary) : Type 0 where
  pub health : IsHealthIn lines summary.health
  pub clients : AreClientsIn lines summary.clients
  pub traffic : IsTrafficIn lines summary.traffic
  pub uptime : IsPlain lines metric.Uptime summary.uptime
  pub version : IsVersionIn lines summary.version.items

-- some figure is missing, or cannot be read
abbrev pub HasFault : List (List ℕ) → SummaryFault → Type 0
HasFault lines fault = (metric : Metric) × (labels : List ℕ) × (figure_in lines metric labels ≡ Err fault)

-- no line has the version
abbrev pub LacksVersion : List (List ℕ) → SummaryFault → Type 0
LacksVersion lines fault = (fault ≡ Missing metric.BuildInfo)
    × (label_in lines (name_of metric.BuildInfo) (codes "{version=\"") ≡ None)

-- why the lines are not read
abbrev pub IsFaultIn : List (List ℕ) → SummaryFault → Type 0
IsFaultIn lines fault = (fault ≡ Memory) ⊎ (LacksVersion lines fault ⊎ HasFault lines fault)
