-- The clients to whom a message under a name goes (MQTT 3.1.1, 3.3 and 4.7), and those who hold one filter.
use Rattle.std.specs.Prelude.{ℕ, suc, List, [], ◌∷◌, ◌++◌, Option, Some, None, if◌then◌else◌}
use Rattle.sng_text.specs.declared.qos.Qos.{Qos}
use Rattle.sng_fan.specs.Greatest.{greatest_qos}
use Rattle.sng_history.specs.Clients.{Client}
use Rattle.sng_history.specs.Standing.{holds}
use Rattle.sng_standing.specs.declared.holder.Holder.{Holder}

-- the client at this place, where one of its filters matches
abbrev pub holder_at : ℕ → Option Qos → List Holder
holder_at place None = []
holder_at place (Some qos) = record { client = place; qos = qos } ∷ []

-- of the clients from this place on, in order, those with a filter that matches the name, with the greatest
-- QoS among them
abbrev pub holders_from : ℕ → List ℕ → List Client → List Holder
holders_from place name [] = []
holders_from place name (x ∷ xs) =
    holder_at place (greatest_qos x.filters name) ++ holders_from (suc place) name xs

-- the places of those from this one on for whom the filter stands, in order
abbrev pub places_from : ℕ → List ℕ → List Client → List ℕ
places_from place filter [] = []
places_from place filter (x ∷ xs) =
    (if holds filter x then place ∷ [] else []) ++ places_from (suc place) filter xs
