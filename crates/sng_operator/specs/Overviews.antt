-- What `status` prints.
use Rattle.std.specs.Prelude.{ℕ, Bool, true, false, List, ◌++◌, ◌-◌, codes}
use Rattle.sng_core.specs.declared.census.Census.{Census}
use Rattle.sng_core.specs.declared.census.ClientCounts.{ClientCounts}
use Rattle.sng_core.specs.declared.census.ListedCounts.{ListedCounts}
use Rattle.sng_questions.specs.Places.{count_text}
use Rattle.sng_operator.specs.declared.status.Overview.{Overview}

-- words, and a number at the end of the line
abbrev pub last_text : List ℕ → ℕ → List ℕ
last_text words count = count_text words count ++ codes "\n"

abbrev pub up_text : Bool → List ℕ
up_text true = codes "status broker: up"
up_text false = codes "status broker: not up"

abbrev pub broker_text : Census → List ℕ
broker_text census =
    up_text census.is_up ++ (count_text (codes ", waiting: ") census.items
    ++ last_text (codes ", in flight: ") census.in_flight)

abbrev pub present_text : ClientCounts → List ℕ
present_text clients =
    count_text (codes "status clients: active ") clients.active
    ++ (count_text (codes ", asleep ") clients.asleep ++ count_text (codes ", awake ") clients.awake)

abbrev pub absent_text : ClientCounts → List ℕ
absent_text clients =
    count_text (codes ", in dialogue ") clients.in_dialogue
    ++ (count_text (codes ", disconnected ") clients.disconnected ++ last_text (codes ", lost ") clients.lost)

abbrev pub clients_text : ClientCounts → List ℕ
clients_text clients = present_text clients ++ absent_text clients

abbrev pub waiting_text : ClientCounts → List ℕ
waiting_text clients =
    count_text (codes "status subscriptions: ") clients.filters
    ++ last_text (codes ", messages waiting: ") clients.messages

abbrev pub policy_text : ListedCounts → List ℕ
policy_text policy =
    count_text (codes "status policy: clients ") policy.clients
    ++ (count_text (codes ", sources ") policy.sources ++ last_text (codes ", topics ") policy.topics)

abbrev pub rows_text : Overview → List ℕ
rows_text overview =
    count_text (codes "status rows: ") overview.rows
    ++ last_text (codes ", left: ") (overview.limit - overview.rows)

-- the broker, the clients, what stands and waits for them, the policy, and the book: a line each
abbrev pub status_text : Overview → List ℕ
status_text overview =
    broker_text overview.census ++ (clients_text overview.census.clients
    ++ (waiting_text overview.census.clients ++ (policy_text overview.census.policy ++ rows_text overview)))
