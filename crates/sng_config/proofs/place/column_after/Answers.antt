use Rattle.std.proofs.Common.{rules, ◌≡◌, ◌+◌, not, ◌==◌, ap, ◌∙◌, reverse, take_all, length, ℕ, take, arith}
use Rattle.std.specs.List.{prefix_len}
use Rattle.std.proofs.lemmas.Iterator.Adapters.{YieldsList-from_rev_slice}
use Rattle.std.proofs.lemmas.Iterator.Consumers.{count_from_yields_List}
use Rattle.std.proofs.lemmas.Iterator.Search.{YieldsList-from_take_while}
use Rattle.std.proofs.lemmas.List.Folds.{length-prefix_len}
use Rattle.toml_parser.specs.Lexical.{line_feed}
use Rattle.sng_config.proofs.place.column_after.Goals as goal
use borrow.Author.Tests.{tests}

pub returns : goal.returns
returns c =
    let bytes = c.args.before.now in
    let ordinary = λ (byte : ℕ). not (byte == line_feed) in
    let counted : c.count.result ≡ length (take (prefix_len ordinary (reverse bytes)) (reverse bytes)) =
    count_from_yields_List c.take_while.result c.count.result c.count.ensures.ran
    (YieldsList-from_take_while _ ordinary (YieldsList-from_rev_slice bytes cc)
    c.take_while.ensures.closure c.take_while.ensures.done (λ x b q k. search (rules, tests)))
    in
    rw (take_all (length bytes) bytes (omega arith))
    (ap (λ n. n + 1) (counted ∙ length-prefix_len ordinary (reverse bytes)))
