use Rattle.std.proofs.Common.{◌≡◌, ◌++◌, drop}
use Rattle.mqtt_frames.specs.Packets.{codes_bytes}
use Rattle.mqtt_frames.proofs.subscribe.push_codes.Given as goal

abbrev pub invariant-loop-code : goal.invariant-loop-code
invariant-loop-code l =
    l.bytes.items ++ codes_bytes (drop l.code-index l.codes) ≡ l.fn.bytes.items ++ codes_bytes l.codes
