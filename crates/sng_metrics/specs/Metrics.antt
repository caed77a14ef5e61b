-- The families of the page of figures: each has a name, a help text and a type.
use Rattle.std.specs.Prelude.{ℕ, List, codes}
use Rattle.sng_metrics.specs.declared.metric.Kind.{Kind}
use Rattle.sng_metrics.specs.declared.metric.Kind.TheVariants.{Counter, Gauge}
use Rattle.sng_metrics.specs.declared.metric.Metric.{Metric}
use Rattle.sng_metrics.specs.declared.metric.Metric.TheVariants as metric

abbrev pub name_of : Metric → List ℕ
name_of metric.BuildInfo = codes "sng_build_info"
name_of metric.Uptime = codes "sng_uptime_seconds"
name_of metric.Clock = codes "sng_clock_seconds"
name_of metric.BrokerUp = codes "sng_broker_up"
name_of metric.BookTakesRows = codes "sng_book_takes_rows"
name_of metric.Clients = codes "sng_clients"
name_of metric.Subscriptions = codes "sng_subscriptions"
name_of metric.MessagesWaiting = codes "sng_messages_waiting"
name_of metric.ItemsWaiting = codes "sng_items_waiting"
name_of metric.InFlight = codes "sng_publishes_in_flight"
name_of metric.RowsWaiting = codes "sng_rows_waiting"
name_of metric.Rows = codes "sng_rows_total"
name_of metric.Decisions = codes "sng_decisions_total"
name_of metric.DatagramsReceived = codes "sng_datagrams_received_total"
name_of metric.DatagramsSent = codes "sng_datagrams_sent_total"
name_of metric.PacketsReceived = codes "sng_packets_received_total"
name_of metric.PacketsSent = codes "sng_packets_sent_total"
name_of metric.ConnectionsMade = codes "sng_connections_made_total"
name_of metric.ConnectionsLost = codes "sng_connections_lost_total"
name_of metric.PoliciesTaken = codes "sng_policies_taken_total"
name_of metric.PoliciesRefused = codes "sng_policies_refused_total"
name_of metric.RefusedEvents = codes "sng_refused_events_total"
name_of metric.FailedSends = codes "sng_failed_sends_total"

-- none has a backslash or a line feed, so each is written as it is
abbrev pub help_of : Metric → List ℕ
help_of metric.BuildInfo = codes "The version of the program; always 1."
help_of metric.Uptime = codes "Since the gateway started."
help_of metric.Clock = codes "The clock of the gateway in Unix time, by which scopes end."
help_of metric.BrokerUp = codes "Whether the broker accepted the connection and it stands, 1 or 0."
help_of metric.BookTakesRows = codes "Whether the book has room for rows, 1 or 0."
help_of metric.Clients = codes "Clients by their state."
help_of metric.Subscriptions = codes "Filters that stand, each for each client for whom it does."
help_of metric.MessagesWaiting = codes "Messages that wait for clients."
help_of metric.ItemsWaiting = codes "Items that wait for the broker."
help_of metric.InFlight = codes "Publishes that the broker has not acknowledged yet."
help_of metric.RowsWaiting = codes "Rows of the book that are not known to be on disk yet."
help_of metric.Rows = codes "Rows of the book by the kind of their event."
help_of metric.Decisions = codes "Decisions by how they came out, by their kind, and by the rule that denied."
help_of metric.DatagramsReceived = codes "Datagrams of devices that made a row."
help_of metric.DatagramsSent = codes "Datagrams that were let out for devices."
help_of metric.PacketsReceived = codes "Packets of the broker that made a row."
help_of metric.PacketsSent = codes "Packets that were let out for the broker."
help_of metric.ConnectionsMade = codes "Connections that the broker accepted."
help_of metric.ConnectionsLost = codes "Connections to the broker that are over."
help_of metric.PoliciesTaken = codes "Policies that came into force."
help_of metric.PoliciesRefused = codes "Texts that are no policy and changed nothing."
help_of metric.RefusedEvents = codes "Events that were refused or lost for want of memory."
help_of metric.FailedSends = codes "Datagrams that could not be sent."

abbrev pub kind_of : Metric → Kind
kind_of metric.BuildInfo = Gauge
kind_of metric.Uptime = Gauge
kind_of metric.Clock = Gauge
kind_of metric.BrokerUp = Gauge
kind_of metric.BookTakesRows = Gauge
kind_of metric.Clients = Gauge
kind_of metric.Subscriptions = Gauge
kind_of metric.MessagesWaiting = Gauge
kind_of metric.ItemsWaiting = Gauge
kind_of metric.InFlight = Gauge
kind_of metric.RowsWaiting = Gauge
kind_of metric.Rows = Counter
kind_of metric.Decisions = Counter
kind_of metric.DatagramsReceived = Counter
kind_of metric.DatagramsSent = Counter
kind_of metric.PacketsReceived = Counter
kind_of metric.PacketsSent = Counter
kind_of metric.ConnectionsMade = Counter
kind_of metric.ConnectionsLost = Counter
kind_of metric.PoliciesTaken = Counter
kind_of metric.PoliciesRefused = Counter
kind_of metric.RefusedEvents = Counter
kind_of metric.FailedSends = Counter

abbrev pub kind_word : Kind → List ℕ
kind_word Counter = codes "counter"
kind_word Gauge = codes "gauge"
