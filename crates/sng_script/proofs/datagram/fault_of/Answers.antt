use Rattle.std.proofs.Common.{◌≡◌, ◌%◌, length, sym, arith}
use Rattle.std.proofs.lemmas.Grind.{common_steps}
use Rattle.sng_script.proofs.PieceLemmas.{digit_piece, other_piece}
use Rattle.sng_script.proofs.datagram.fault_of.Goals as goal

pub returns-then-not-are_digits : goal.returns-then-not-are_digits
returns-then-not-are_digits c =
    sym (other_piece c.args.text.now (λ all. let is = c.are_digits.ensures.1 all in (cc)))

pub returns : goal.returns
returns c =
    let even : length c.args.text.now % 2 ≡ 0 = omega arith in
    sym (digit_piece c.args.text.now (λ none. grind (arith, common_steps)) even
    (c.are_digits.ensures.0 (grind (arith, common_steps))))
