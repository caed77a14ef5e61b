-- How the words of a command line stand to the settings of a configuration file.
use Rattle.std.specs.Prelude.{ℕ, List, Some, None}
use Rattle.std.specs.declared.option.Option.{Option}
use Rattle.std.specs.Option.{option_map, option_or}
use Rattle.sng_config.specs.declared.names.TextName.{TextName}
use Rattle.sng_config.specs.Values.{SetAt, text_in}
use Rattle.sng_operator.specs.declared.config.Source.{Source}
use Rattle.sng_operator.specs.declared.config.Source.TheVariants.{CommandLine, File}

-- the line of the file that a word comes from
abbrev pub line_in : Source → Option ℕ
line_in CommandLine = None
line_in (File path line) = Some line

-- a word of the command line, or else that of the file, with its line
abbrev pub word_before : Option (List ℕ) → TextName → List SetAt → Option (List ℕ × Option ℕ)
word_before word name settings =
    option_or (option_map (λ bytes. (bytes, None)) word)
    (option_map (λ found. (found.1, Some found.0)) (text_in name settings))
