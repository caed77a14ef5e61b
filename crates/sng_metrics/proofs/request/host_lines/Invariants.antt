use Rattle.std.proofs.Common.{◌≡◌, take, map}
use Rattle.std.specs.List.{count_by}
use Rattle.sng_metrics.specs.Requests.{header_name, is_host}
use Rattle.sng_metrics.proofs.request.host_lines.Given as goal

abbrev pub invariant-loop-field : goal.invariant-loop-field
invariant-loop-field l = l.hosts ≡ count_by is_host (map (header_name l.octets) (take l.field-index l.fields))
