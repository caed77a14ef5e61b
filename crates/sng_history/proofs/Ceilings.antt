-- What the limits may come to together. A number that is too great is refused here.
use Rattle.std.proofs.Common.{ℕ, ◌+◌, ◌<◌, ◌≤◌}
use Rattle.std.proofs.Math.Dec.{lit<, lit≤}
use Rattle.sng_queue.specs.declared.limits.TheConstants.{MAX_WAITING_NAME, MAX_WAITING_PAYLOAD}
use Rattle.sng_frames.specs.declared.limits.TheConstants.{MAX_PAYLOAD, MAX_REGISTERED_NAME}
use Rattle.sng_grants.specs.declared.limits.TheConstants.{MAX_FLIGHT}
use Rattle.sng_history.specs.declared.limits.TheConstants.{MAX_OPEN_SUBSCRIBES}

-- each publish in flight and each open SUBSCRIBE has one packet id, and one of the 65,535 that there are is
-- always free
pub ids_suffice : MAX_FLIGHT + MAX_OPEN_SUBSCRIBES < 65535
ids_suffice = lit< tt

-- a PUBLISH with what waits fits a datagram, and so does a REGISTER
pub payload_fits : MAX_WAITING_PAYLOAD ≤ MAX_PAYLOAD
payload_fits = lit≤ tt

pub name_fits : MAX_WAITING_NAME ≤ MAX_REGISTERED_NAME
name_fits = lit≤ tt
