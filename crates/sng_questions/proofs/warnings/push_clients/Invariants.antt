use Rattle.std.proofs.Common.{◌≡◌, ◌++◌}
use Rattle.sng_questions.specs.Warnings.{clients_lines}
use Rattle.sng_questions.proofs.warnings.push_clients.Given as goal

abbrev pub invariant-loop-client : goal.invariant-loop-client
invariant-loop-client l =
    l.lines.items ++ clients_lines l.client-iterator ≡ l.fn.lines.items ++ clients_lines l.clients
