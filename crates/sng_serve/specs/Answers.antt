-- What is answered to who asks for figures.
use Rattle.std.specs.Prelude.{ℕ, ◌≡◌, ◌+◌, ◌<◌, true, List, length}
use Rattle.sng_core.specs.Census.{census_of}
use Rattle.sng_core.specs.declared.census.ClientCounts.{ClientCounts}
use Rattle.sng_desk.specs.Sights.{Desk}
use Rattle.sng_metrics.specs.Answers.{health_text, refusal_text}
use Rattle.sng_metrics.specs.Figures.{metrics_text}
use Rattle.sng_metrics.specs.declared.figures.ClientFigures.{ClientFigures}
use Rattle.sng_metrics.specs.declared.figures.Figures.{Figures}
use Rattle.sng_metrics.specs.declared.health.Health.{Health as Healthy}
use Rattle.sng_metrics.specs.declared.heard.Form.{Form}
use Rattle.sng_metrics.specs.declared.heard.Form.TheVariants.{Whole}
use Rattle.sng_metrics.specs.declared.heard.Heard.{Heard}
use Rattle.sng_metrics.specs.declared.heard.Heard.TheVariants.{More, Asked, Refused}
use Rattle.sng_metrics.specs.declared.heard.Page.TheVariants.{Metrics, Health}
use Rattle.sng_metrics.specs.declared.heard.Refusal.TheVariants.{TooSlow}
use Rattle.sng_operator.specs.declared.version.TheConstants.{VERSION}
use Rattle.sng_serve.specs.declared.figures.Counts.{Counts}

-- ---- what the desk counts

-- all of it is counted of one state of the desk
pub record AreCountsOf (desk : Desk) (counts : Counts) : Type 0 where
  pub tally : counts.tally ≡ desk.tally
  pub census : counts.census ≡ census_of desk.state
  pub rows : counts.rows ≡ desk.before + length desk.rows
  pub limit : counts.limit ≡ desk.limit

abbrev pub AreOfSomeDesk : Counts → Type 0
AreOfSomeDesk counts = (desk : Desk) × AreCountsOf desk counts

-- ---- what is told of it

abbrev pub clients_of : ClientCounts → ClientFigures
clients_of counts = record {
  active = counts.active;
  asleep = counts.asleep;
  awake = counts.awake;
  in_dialogue = counts.in_dialogue;
  disconnected = counts.disconnected;
  lost = counts.lost;
}

-- the connection to the broker is that of the desk, and a full book takes no rows
pub record IsHealthOf (counts : Counts) (health : Healthy) : Type 0 where
  pub broker : health.broker_is_up ≡ counts.census.is_up
  pub room : health.book_takes_rows ≡ true → counts.rows < counts.limit

-- each figure that is counted at the desk stands at its own place
pub record AreFiguresOf (counts : Counts) (figures : Figures) : Type 0 where
  pub version : figures.version.now ≡ VERSION.now
  pub health : IsHealthOf counts figures.health
  pub clients : figures.clients ≡ clients_of counts.census.clients
  pub subscriptions : figures.subscriptions ≡ counts.census.clients.filters
  pub messages : figures.messages_waiting ≡ counts.census.clients.messages
  pub items : figures.items_waiting ≡ counts.census.items
  pub flight : figures.in_flight ≡ counts.census.in_flight

-- ---- the answers

-- the page of figures, which tells of one state of the desk
pub record IsMetricsAnswer (form : Form) (text : List ℕ) : Type 0 where
  pub counts : Counts
  pub desk : AreOfSomeDesk counts
  pub figures : Figures
  pub shown : AreFiguresOf counts figures
  pub is_text : text ≡ metrics_text form counts.tally figures

-- the health, of one state of the desk
pub record IsHealthAnswer (form : Form) (text : List ℕ) : Type 0 where
  pub counts : Counts
  pub desk : AreOfSomeDesk counts
  pub health : Healthy
  pub shown : IsHealthOf counts health
  pub is_text : text ≡ health_text form health

-- the answer to a visitor of whom this was heard: one of whom more was to come has used up his time
abbrev pub IsAnswer : Heard → List ℕ → Type 0
IsAnswer More text = text ≡ refusal_text Whole TooSlow
IsAnswer (Asked Metrics form) text = IsMetricsAnswer form text
IsAnswer (Asked Health form) text = IsHealthAnswer form text
IsAnswer (Refused refusal form) text = text ≡ refusal_text form refusal
