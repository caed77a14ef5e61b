use Rattle.std.proofs.Common.{◌≡◌, drop, map}
use Rattle.httparse.specs.Spans.{header_bytes}
use Rattle.sng_metrics.specs.Responses.{length_field}
use Rattle.sng_metrics.proofs.response.length_field.Given as goal

abbrev pub invariant-loop-field : goal.invariant-loop-field
invariant-loop-field l =
    length_field (map (header_bytes l.octets) (drop l.field-index l.fields))
    ≡ length_field (map (header_bytes l.octets) l.fields)
