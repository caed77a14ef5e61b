use Rattle.std.proofs.Common.{◌≡◌, ◌++◌, drop}
use Rattle.mqtt_frames.specs.Packets.{requests_bytes}
use Rattle.mqtt_frames.proofs.subscribe.push_requests.Given as goal

abbrev pub invariant-loop-request : goal.invariant-loop-request
invariant-loop-request l =
    l.bytes.items ++ requests_bytes
    (drop l.request-index l.requests) ≡ l.fn.bytes.items ++ requests_bytes l.requests
