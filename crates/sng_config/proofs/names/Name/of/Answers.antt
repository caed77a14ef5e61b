use Rattle.std.proofs.Common.{rules, ◌≡◌, Bor, find, option_map, ◌∙◌}
use Rattle.std.proofs.lemmas.Iterator.{YieldsList-from_slice}
use Rattle.std.proofs.lemmas.Iterator.Search.{find_from_yields_List}
use Rattle.std.specs.Str.{bytes_eq}
use Rattle.sng_config.specs.declared.names.Name.{Name}
use Rattle.sng_config.specs.Names.{word_of, name_of}
use Rattle.sng_config.specs.declared.names.TheConstants.{NAMES}
use Rattle.sng_config.proofs.names.Name.of.Goals as goal
use borrow.Author.Tests.{tests}

pub returns : goal.returns
unfolding name_of
returns c =
    let found : option_map (λ (y : Bor Name). y.now) c.find.result
    ≡ find (λ name. bytes_eq (word_of name) c.args.word.now) NAMES =
    find_from_yields_List (λ name. bytes_eq (word_of name) c.args.word.now) _ _ c.find.result
    c.find.ensures.ran (YieldsList-from_slice NAMES (cc)) (λ x b q k. search (rules, tests))
    in c.copied.ensures ∙ found
