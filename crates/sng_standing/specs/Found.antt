-- The filters that were found to match a name, each as the clients that hold it.
use Rattle.std.specs.Prelude.{ℕ, ◌≡◌, List, [], ◌∷◌, None}
use Rattle.std.specs.Borrow.{Bor}
use Rattle.std.specs.BTreeMap.{BTreeMap, get}
use Rattle.std.specs.Ordering.{nat_cmp}
use Rattle.std.specs.declared.option.Option.{Option}
use Rattle.sng_text.specs.declared.qos.Qos.{Qos}
use Rattle.sng_standing.specs.declared.holder.Holder.{Holder}
use Rattle.sng_standing.specs.Greatest.{joined}
use Rattle.sng_standing.specs.Holders.{qos_of, AreInOrder}

-- the greatest QoS at which the client holds one of these filters
abbrev pub best_of : List (Bor (BTreeMap ℕ Qos)) → ℕ → Option Qos
best_of [] client = None
best_of (holders ∷ others) client = joined (get nat_cmp holders.now client) (best_of others client)

-- these are the clients that hold one of these filters, each with its greatest QoS
abbrev pub AreFound : List (Bor (BTreeMap ℕ Qos)) → List Holder → Type 0
AreFound found holders = AreInOrder holders × ((client : ℕ) → qos_of client holders ≡ best_of found client)
