-- The publishes in flight as a connection begins: some stay, and the others are in flight no more. Then each
-- filter is subscribed anew (MQTT 3.1.1, 3.8 and 4.4).
use Rattle.std.specs.Prelude.{ℕ, ◌≡◌, Bool, true, false, List, [], ◌∷◌, ◌++◌, if◌then◌else◌, Some, None}
use Rattle.sng_outbox.specs.declared.in_flight.InFlight.{InFlight}
use Rattle.sng_outbox.specs.Sending.{without_first}
use Rattle.sng_history.specs.Links.{Wanted, wants}
use Rattle.sng_link.specs.Steps.{marked}
use Rattle.sng_link.specs.declared.step.Step.{Step}

-- those of which it is said that they stay
abbrev pub staying : List InFlight → List Bool → List InFlight
staying [] stays = []
staying (sent ∷ flights) [] = sent ∷ flights
staying (sent ∷ flights) (stay ∷ stays) = if stay then sent ∷ staying flights stays else staying flights stays

-- the packet id of one that does not stay is free
abbrev pub denied_id : ℕ → Bool → List ℕ
denied_id packet_id stay = if stay then [] else packet_id ∷ []

abbrev pub denied_ids : List InFlight → List Bool → List ℕ
denied_ids [] stays = []
denied_ids (sent ∷ flights) [] = []
denied_ids (sent ∷ flights) (stay ∷ stays) = denied_id sent.packet_id stay ++ denied_ids flights stays

-- those that are left once those with these packet ids are in flight no more
abbrev pub without_all : List InFlight → List ℕ → List InFlight
without_all flights [] = flights
without_all flights (packet_id ∷ ids) = without_all (without_first flights packet_id) ids

abbrev pub denied_step : ℕ → Bool → List Step
denied_step packet_id stay =
    if stay then []
    else record { packet_id = None; former = Some packet_id; owed = false; owes = None } ∷ []

abbrev pub denied_steps : List InFlight → List Bool → List Step
denied_steps [] stays = []
denied_steps (sent ∷ flights) [] = []
denied_steps (sent ∷ flights) (stay ∷ stays) = denied_step sent.packet_id stay ++ denied_steps flights stays

-- the marks once all that these steps give up is free
abbrev pub freed_all : List Bool → List Step → List Bool
freed_all marks [] = marks
freed_all marks (step ∷ log) = freed_all (marked marks step.former false) log

-- each of these filters is wanted
abbrev pub AllWanted : List Wanted → List (List ℕ) → Type 0
AllWanted wanted [] = Unit {0}
AllWanted wanted (filter ∷ filters) = (wants wanted filter ≡ true) × AllWanted wanted filters
