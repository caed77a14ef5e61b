-- What a file sets is what TOML reads in it.
use Rattle.std.specs.Prelude.{◌≡◌, ℕ, List, Some, IsSome}
use Rattle.std.specs.declared.option.Option.{Option}
use Rattle.std.specs.Option.{option_map}
use Rattle.toml.specs.Data.{Data, Members, get_member}
use Rattle.toml.specs.Parse.{parse_document}
use Rattle.sng_config.specs.declared.names.Name.{Name}
use Rattle.sng_config.specs.Names.{word_of, name_of}
use Rattle.sng_config.specs.Values.{SetAt, data_of, entry_of}

-- the value that is set under a name, as TOML has it
abbrev pub value_in : Name → List SetAt → Option Data
value_in name entries = option_map (λ entry. data_of entry.set) (entry_of name entries)

-- the text is a document of TOML, in which each name has the value that is set, and no other name stands
abbrev pub IsDocumentOf : List SetAt → List ℕ → Type 0
IsDocumentOf entries text =
    (document : Members)
    × (parse_document text ≡ Some document)
    × ((name : Name) → get_member (word_of name) document ≡ value_in name entries)
    × ((key : List ℕ) (value : Data) → get_member key document ≡ Some value → IsSome (name_of key))
