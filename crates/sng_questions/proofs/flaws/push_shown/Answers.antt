use Rattle.std.proofs.Common.{◌≤◌, length, sym, arith}
use Rattle.std.proofs.lemmas.List.{length-take-le}
use Rattle.sng_questions.proofs.flaws.push_shown.Goals as goal

pub slice_bounds-front-end : goal.slice_bounds-front-end
slice_bounds-front-end c =
    let fits : 200 ≤ length c.args.text.now = omega arith in
    sym (length-take-le 200 c.args.text.now fits)
