-- The tree of filters says what each client holds, by its place among the clients (MQTT-SN 1.2, 6.9).
use Rattle.std.specs.Prelude.{ℕ, ◌≡◌, ◌==◌, false, List, [], ◌∷◌, Option, Some, None, if◌then◌else◌}
use Rattle.sng_text.specs.declared.qos.Qos.{Qos}
use Rattle.sng_fan.specs.declared.held.Held.{Held}
use Rattle.sng_fan.specs.Subscriptions.{has_text, IsOneClients}
use Rattle.sng_history.specs.Clients.{Client}
use Rattle.sng_sessions.specs.Standing.{client_at}
use Rattle.sng_standing.specs.declared.node.Node.{Node}
use Rattle.sng_standing.specs.Tree.{qos_at}

-- at which QoS the filter is one of these, if it is
abbrev pub qos_held : List Held → List ℕ → Option Qos
qos_held [] text = None
qos_held (h ∷ held) text = if has_text text h then Some h.qos else qos_held held text

-- it says of the client at this place that it holds just these, each of which stands once
abbrev pub SaysHeld : Node → ℕ → List Held → Type 0
SaysHeld root place held =
    ((text : List ℕ) → qos_at root place text ≡ qos_held held text) × IsOneClients held

-- it says of all others what it said before
abbrev pub SameOfOthers : Node → Node → ℕ → Type 0
SameOfOthers before after place = (other : ℕ) (text : List ℕ) → (place == other) ≡ false
    → qos_at after other text ≡ qos_at before other text

-- of each place it says what the client there holds, and behind the last that nobody holds anything
abbrev pub Keeps : Node → List Client → Type 0
Keeps root xs = (place : ℕ) → SaysHeld root place (client_at xs place).filters
