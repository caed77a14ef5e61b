-- The table of `sng status`: a line for each of the figures that matter.
use Rattle.std.specs.Prelude.{ℕ, ◌/◌, ◌%◌, Bool, List, ◌++◌, codes, if◌then◌else◌}
use Rattle.std.specs.Fmt.{decimal}
use Rattle.sng_metrics.specs.Healths.{reason_of}
use Rattle.sng_metrics.specs.declared.figures.ClientFigures.{ClientFigures}
use Rattle.sng_metrics.specs.declared.health.Health.{Health}
use Rattle.sng_metrics.specs.declared.summary.Summary.{Summary}
use Rattle.sng_metrics.specs.declared.summary.Traffic.{Traffic}

-- words, and a number behind them
unfoldable pub number_text : List ℕ → ℕ → List ℕ
number_text words number = words ++ decimal number

unfoldable pub broker_text : Bool → List ℕ
broker_text is_up =
    if is_up then codes "broker            up\n" else codes "broker            not up\n"

unfoldable pub book_text : Bool → List ℕ
book_text takes_rows =
    if takes_rows then codes "book              takes rows\n" else codes "book              takes no rows\n"

unfoldable pub health_text : Health → List ℕ
health_text health =
    codes "health            " ++ (reason_of health.broker_is_up health.book_takes_rows
    ++ (broker_text health.broker_is_up ++ book_text health.book_takes_rows))

-- ---- clients

unfoldable pub present_text : ClientFigures → List ℕ
present_text clients =
    number_text (codes "clients           active ") clients.active
    ++ (number_text (codes ", asleep ") clients.asleep ++ number_text (codes ", awake ") clients.awake)

unfoldable pub absent_text : ClientFigures → List ℕ
absent_text clients =
    number_text (codes ", in dialogue ") clients.in_dialogue
    ++ (number_text (codes ", disconnected ") clients.disconnected
    ++ number_text (codes ", lost ") clients.lost)

unfoldable pub clients_text : ClientFigures → List ℕ
clients_text clients = present_text clients ++ absent_text clients

-- ---- what came, what went, and what waits

unfoldable pub counts_text : Traffic → List ℕ
counts_text traffic =
    number_text (codes "\nmessages waiting  ") traffic.messages_waiting
    ++ (number_text (codes "\nin flight         ") traffic.in_flight
    ++ (number_text (codes "\nrows              ") traffic.rows
    ++ (number_text (codes "\nrows waiting      ") traffic.rows_waiting
    ++ number_text (codes "\ndenied            ") traffic.denied)))

unfoldable pub datagrams_text : Traffic → List ℕ
datagrams_text traffic =
    number_text (codes "\ndatagrams         received ") traffic.received
    ++ number_text (codes ", sent ") traffic.sent

-- ---- the program

-- days, hours, minutes and seconds
unfoldable pub uptime_text : ℕ → List ℕ
uptime_text seconds =
    number_text (codes "\nuptime            ") (seconds / 86400)
    ++ (number_text (codes " d ") (seconds / 3600 % 24)
    ++ (number_text (codes " h ") (seconds / 60 % 60)
    ++ (number_text (codes " min ") (seconds % 60) ++ codes " s\n")))

unfoldable pub version_text : List ℕ → List ℕ
version_text version = codes "version           " ++ (version ++ codes "\n")

abbrev pub table_text : Summary → List ℕ
table_text summary =
    health_text summary.health
    ++ (clients_text summary.clients
    ++ (counts_text summary.traffic
    ++ (datagrams_text summary.traffic
    ++ (uptime_text summary.uptime ++ version_text summary.version.items))))
