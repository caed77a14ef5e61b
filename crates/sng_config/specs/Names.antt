-- How the settings are named, and which numbers they take.
use Rattle.std.specs.Prelude.{ℕ, ◌^◌, ◌-◌, List, codes, find}
use Rattle.std.specs.declared.option.Option.{Option}
use Rattle.std.specs.Str.{bytes_eq}
use Rattle.sng_config.specs.declared.names.TextName.{TextName}
use Rattle.sng_config.specs.declared.names.TextName.TheVariants.{Listen, Broker, Id, Policy, Book, Metrics}
use Rattle.sng_config.specs.declared.names.NumberName.{NumberName}
use Rattle.sng_config.specs.declared.names.NumberName.TheVariants.{Workers, Tries, FloodEach, FloodAll}
use Rattle.sng_config.specs.declared.names.SwitchName.{SwitchName}
use Rattle.sng_config.specs.declared.names.SwitchName.TheVariants.{Verbose, Rows, NoWatch, LogTime}
use Rattle.sng_config.specs.declared.names.Name.{Name}
use Rattle.sng_config.specs.declared.names.Name.TheVariants.{Text, Number, Switch}
use Rattle.sng_config.specs.declared.names.TheConstants.{NAMES}
use Rattle.sng_config.specs.declared.limits.TheConstants.{MIN_WORKERS, MAX_WORKERS, MIN_FLOOD, MAX_FLOOD}

abbrev pub text_word : TextName → List ℕ
text_word Listen = codes "listen"
text_word Broker = codes "broker"
text_word Id = codes "id"
text_word Policy = codes "policy"
text_word Book = codes "book"
text_word Metrics = codes "metrics"

abbrev pub number_word : NumberName → List ℕ
number_word Workers = codes "workers"
number_word Tries = codes "tries"
number_word FloodEach = codes "flood-each"
number_word FloodAll = codes "flood-all"

abbrev pub switch_word : SwitchName → List ℕ
switch_word Verbose = codes "verbose"
switch_word Rows = codes "rows"
switch_word NoWatch = codes "no-watch"
switch_word LogTime = codes "log-time"

-- a name as it is written
abbrev pub word_of : Name → List ℕ
word_of (Text name) = text_word name
word_of (Number name) = number_word name
word_of (Switch name) = switch_word name

-- the name that is written so
unfoldable pub name_of : List ℕ → Option Name
name_of word = find (λ name. bytes_eq (word_of name) word) NAMES

-- the numbers that may be set
abbrev pub least_of : NumberName → ℕ
least_of Workers = MIN_WORKERS
least_of Tries = 0
least_of FloodEach = MIN_FLOOD
least_of FloodAll = MIN_FLOOD

abbrev pub most_of : NumberName → ℕ
most_of Workers = MAX_WORKERS
most_of Tries = 2 ^ 32 - 1
most_of FloodEach = MAX_FLOOD
most_of FloodAll = MAX_FLOOD
