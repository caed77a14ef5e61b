use Rattle.std.proofs.Common.{rules, ◌≡◌, Bor, find, ◌∙◌, ap, Option, Some, None, refl}
use Rattle.std.specs.Option.{option_map}
use Rattle.std.proofs.lemmas.Iterator.{YieldsList-from_slice}
use Rattle.std.proofs.lemmas.Iterator.Search.{find_from_yields_List}
use Rattle.sng_config.specs.declared.settings.Entry.{Entry}
use Rattle.sng_config.specs.Values.{SetAt, entry_view, name_in, is_name}
use Rattle.sng_config.proofs.EntryLemmas.{map-find}
use Rattle.sng_config.proofs.settings.Settings.entry.Goals as goal
use borrow.Author.Tests.{tests}

-- the view of what a reference points to
behind : (o : Option (Bor Entry))
    → option_map (λ (y : Bor Entry). entry_view y.now) o
    ≡ option_map entry_view (option_map (λ (y : Bor Entry). y.now) o)
behind None = refl
behind (Some y) = refl

pub returns : goal.returns
returns c =
    let entries = c.self.inside.entries.items in
    let test = λ (entry : SetAt). is_name (name_in entry.set) c.args.name in
    let found : option_map (λ (y : Bor Entry). y.now) c.find.result
    ≡ find (λ entry. test (entry_view entry)) entries =
    find_from_yields_List (λ entry. test (entry_view entry)) _ _ c.find.result c.find.ensures.ran
    (YieldsList-from_slice entries (cc)) (λ x b q k. search (rules, tests))
    in behind c.find.result ∙ ap (option_map entry_view) found ∙ map-find entry_view test entries
    ∙ ap (find test) (search rules)
