use Rattle.std.proofs.Common.{◌++◌, codes, append_assoc, ◌∙◌}
use Rattle.std.proofs.lemmas.Result.{IfOk-equal}
use Rattle.sng_book.specs.Printing.{name_text}
use Rattle.sng_questions.proofs.may.push_gap.Goals as goal

pub returns : goal.returns
returns c =
    let text = c.args.line.now.items in
    let front = codes "denied Uncovered " in
    let name = name_text c.args.gap.now in
    let end = codes "\n" in
    IfOk-equal _ _ (text ++ front ++ name ++ end) _
    (rw (c.in_ok-push_name.ensures, c.in_ok-extend_from_slice.ensures.items) at c.push_line_feed.ensures)
    (append_assoc (text ++ front) name end ∙ append_assoc text front (name ++ end))
