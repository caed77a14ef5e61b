use Rattle.std.proofs.Common.{◌≡◌, ◌==◌, length, rules}
use Rattle.sng_script.proofs.InputLemmas.{line_by_feed, line_by_input}
use Rattle.sng_script.proofs.input.read_line.Goals as goal

pub returns-in-Feed-clause-ok : goal.returns-in-Feed-clause-ok
returns-in-Feed-clause-ok g c = line_by_feed _ _ _ (rw c.in-Feed.is at c.in_ok-read_to_end_of_line.ensures.ok)

pub returns-in-Input-clause-ok : goal.returns-in-Input-clause-ok
returns-in-Input-clause-ok g c =
    let empty : c.is_empty.result ≡ (length c.read_to_end_of_line.new.text.items == 0) = search rules in
    line_by_input _ _ _ c.is_empty.result empty (rw c.in-Input.is at c.in_ok-read_to_end_of_line.ensures.ok)
