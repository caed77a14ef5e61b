use Rattle.std.proofs.Common.{◌≡◌, ◌+◌, ◌-◌, length, take, drop, sym, arith}
use Rattle.std.proofs.lemmas.List.{take_all, length-drop}
use Rattle.sng_text.proofs.Ipv4Lemmas.{parts_of-cut, parts_of-whole}
use Rattle.sng_text.proofs.ipv4.cut_at_point.Goals as goal

pub returns-in_err-at : goal.returns-in_err-at
returns-in_err-at c = rw c.from_residual.ensures (parts_of-whole c.args.text.now (sym c.in_err-at.ensures))

pub returns : goal.returns
returns c =
    let text = c.args.text.now in
    let at = c.in_ok-at.at in
    let whole : take (length text - (at + 1)) (drop (at + 1) text) ≡ drop (at + 1) text =
    take_all _ _ (omega (arith, length-drop (at + 1) text)) in
    rw whole (parts_of-cut text at (sym c.in_ok-at.ensures))
