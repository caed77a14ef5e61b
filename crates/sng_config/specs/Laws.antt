-- What is right of configuration files.
use Rattle.std.specs.Prelude.{◌≡◌, ℕ, List, Some}
use Rattle.sng_config.specs.declared.names.Name.{Name}
use Rattle.sng_config.specs.Names.{word_of, name_of}
use Rattle.sng_config.specs.Values.{SetAt}
use Rattle.sng_config.specs.Reading.{settled, outcome_of}
use Rattle.sng_config.specs.Documents.{IsDocumentOf}

-- each name is read where it is written
abbrev pub NamesAreReadBack : Type 0
NamesAreReadBack = (name : Name) → name_of (word_of name) ≡ Some name

-- what is set is what TOML reads
abbrev pub SettingsAreADocument : Type 0
SettingsAreADocument =
    (text : List ℕ) (found : List SetAt) → outcome_of text ≡ settled found → IsDocumentOf found text
