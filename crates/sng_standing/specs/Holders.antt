-- The clients that hold a filter, and those that hold one which matches a name (MQTT 3.1.1, 4.7).
use Rattle.std.specs.Prelude.{ℕ, ◌≡◌, ◌==◌, true, List, [], ◌∷◌, map, Some, None, if◌then◌else◌}
use Rattle.std.specs.Prelude.{is_some}
use Rattle.std.specs.List.{list_any}
use Rattle.std.specs.declared.option.Option.{Option}
use Rattle.std.specs.List.Sorted.{IsStrictlySortedBy}
use Rattle.std.specs.Ordering.{nat_cmp}
use Rattle.sng_fan.specs.Greatest.{greater}
use Rattle.sng_text.specs.Matching.{matches}
use Rattle.sng_text.specs.declared.qos.Qos.{Qos}
use Rattle.sng_standing.specs.declared.holder.Holder.{Holder}
use Rattle.sng_standing.specs.declared.node.Node.{Node}
use Rattle.sng_standing.specs.Tree.{qos_at}

-- a client with its QoS
abbrev pub holder_of : ℕ × Qos → Holder
holder_of entry = record { client = entry.0; qos = entry.1 }

-- the QoS of the client among these, where it is one of them
abbrev pub qos_of : ℕ → List Holder → Option Qos
qos_of client [] = None
qos_of client (h ∷ holders) = if client == h.client then Some h.qos else qos_of client holders

-- the numbers rise, so each client is there once
abbrev pub AreInOrder : List Holder → Type 0
AreInOrder holders = IsStrictlySortedBy nat_cmp (map (λ h. h.client) holders)

-- no filter of the client that matches the name has a greater QoS
abbrev pub NoneIsGreater : Node → ℕ → List ℕ → Qos → Type 0
NoneIsGreater root client name qos = (filter : List ℕ) (other : Qos) → matches filter name ≡ true
    → qos_at root client filter ≡ Some other → greater qos other ≡ qos

-- the client has a greatest QoS exactly where a filter of it matches, and it is that of one which matches
abbrev pub IsGreatestAt : Node → ℕ → List ℕ → Option Qos → Type 0
IsGreatestAt root client name None =
    (filter : List ℕ) → matches filter name ≡ true → qos_at root client filter ≡ None
IsGreatestAt root client name (Some qos) = NoneIsGreater root client name qos
    × ((filter : List ℕ) × (matches filter name ≡ true) × (qos_at root client filter ≡ Some qos))

-- these are the clients that hold a filter which matches the name, each with its greatest QoS
abbrev pub AreHolders : Node → List ℕ → List Holder → Type 0
AreHolders root name holders = AreInOrder holders
    × ((client : ℕ) → IsGreatestAt root client name (qos_of client holders))

-- these are the clients that hold the filter, and their numbers rise
abbrev pub AreClients : Node → List ℕ → List ℕ → Type 0
AreClients root filter clients = IsStrictlySortedBy nat_cmp clients
    × ((client : ℕ) → list_any (λ other. client == other) clients ≡ is_some (qos_at root client filter))
