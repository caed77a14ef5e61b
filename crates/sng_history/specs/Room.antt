-- Whether one more publish may wait for the broker, by the limits of the policy in force (MQTT 3.1.1, 4.4: what
-- is in flight is bounded).
use Rattle.std.specs.Prelude.{Bool, true, nat_lt, if◌then◌else◌}
use Rattle.sng_text.specs.declared.qos.Qos.{Qos}
use Rattle.sng_text.specs.declared.qos.Qos.TheVariants.{AtMostOnce, AtLeastOnce}
use Rattle.sng_outbox.specs.Sending.{load}
use Rattle.sng_grants.specs.Limits.{Limits, flight_limit}
use Rattle.sng_book.specs.declared.outcome.Place.TheVariants as place
use Rattle.sng_book.specs.declared.outcome.Denial.TheVariants.{Room}
use Rattle.sng_book.specs.declared.outcome.RoomDenial.TheVariants.{Full}
use Rattle.sng_book.specs.declared.outcome.Outcome.{Outcome}
use Rattle.sng_book.specs.declared.outcome.Outcome.TheVariants.{Allowed, Denied}
use Rattle.sng_history.specs.Links.{Link}
use Rattle.sng_history.specs.Packets.{has_place}

-- one more publish at this QoS may wait or be in flight
abbrev pub has_flight : Limits → Link → Qos → Bool
has_flight limits link AtMostOnce = true
has_flight limits link AtLeastOnce =
    nat_lt (load (record { waiting = link.waiting; in_flight = link.in_flight })) (flight_limit limits)

-- whether there is room for one more publish at this QoS: among those in flight, then in the outbox
abbrev pub room_in : Limits → Link → Qos → Outcome
room_in limits link q =
    if has_flight limits link q then (if has_place limits link then Allowed else Denied (Room (Full place.Outbox)))
    else Denied (Room (Full place.InFlight))
