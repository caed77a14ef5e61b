-- What the text of a configuration file sets, or the first entry that is refused: an entry after the other,
-- each as TOML reads it.
use Rattle.std.specs.Prelude.{ℕ, zero, suc, ◌-◌, ◌==◌, ◌||◌, if◌then◌else◌, List, [], ◌∷◌, ◌++◌, length, Some}
use Rattle.std.specs.Prelude.{None, Ok, Err}
use Rattle.std.specs.declared.option.Option.{Option}
use Rattle.std.specs.declared.result.Result.{Result}
use Rattle.std.specs.Str.Lossy.{utf8_valid_len}
use Rattle.toml_parser.specs.Lexical.{Read, first, skip_ws, skip_blank, left_bracket, left_brace}
use Rattle.toml_parser.specs.Strings.{Key}
use Rattle.toml.specs.Data.{Data}
use Rattle.toml.specs.Parse.{key_equals, atom, ends_line, skip_bom}
use Rattle.sng_config.specs.declared.names.Name.{Name}
use Rattle.sng_config.specs.Names.{name_of}
use Rattle.sng_config.specs.Places.{line_at}
use Rattle.sng_config.specs.Values.{Set, SetAt, set_of, line_of}

-- why an entry is refused
pub data Why : Type 0 where
  not_toml : Why
  tables : Why
  unknown : List ℕ → Why
  repeated : Name → ℕ → Why
  unfit : Name → Why

-- a setting that was not set before
abbrev pub new_name : Name → Option ℕ → Result Name Why
new_name name None = Ok name
new_name name (Some line) = Err (repeated name line)

abbrev pub known_name : List SetAt → List ℕ → Option Name → Result Name Why
known_name before word None = Err (unknown word)
known_name before word (Some name) = new_name name (line_of name before)

abbrev pub name_in_key : List SetAt → Key → Result Name Why
name_in_key before key =
    if length key.0 == 0 then known_name before key.1 (name_of key.1) else Err tables

abbrev pub before_rest : List ℕ → Result Name Why → Result (Name × List ℕ) Why
before_rest rest (Err why) = Err why
before_rest rest (Ok name) = Ok (name, rest)

abbrev pub after_key : List SetAt → Read Key → Result (Name × List ℕ) Why
after_key before None = Err not_toml
after_key before (Some read) = before_rest read.1 (name_in_key before read.0)

-- the name at the front, and what follows its `=`
unfoldable pub named : List SetAt → List ℕ → Result (Name × List ℕ) Why
named before start =
    if first start == left_bracket then Err tables else after_key before (key_equals start)

abbrev pub fitted : Name → List ℕ → Option Set → Result (Set × List ℕ) Why
fitted name rest None = Err (unfit name)
fitted name rest (Some set) = Ok (set, rest)

abbrev pub after_value : Name → Read Data → Result (Set × List ℕ) Why
after_value name None = Err not_toml
after_value name (Some read) =
    if ends_line (skip_ws read.1) then fitted name read.1 (set_of name read.0) else Err not_toml

-- the value at the front as the setting takes it, and what follows
unfoldable pub valued : Name → List ℕ → Result (Set × List ℕ) Why
valued name rest =
    if first rest == left_bracket || first rest == left_brace then Err (unfit name)
    else after_value name (atom rest)

abbrev pub after_name : Result (Name × List ℕ) Why → Result (Set × List ℕ) Why
after_name (Err why) = Err why
after_name (Ok read) = valued read.0 read.1

-- the setting at the front, and what follows
abbrev pub entry : List SetAt → List ℕ → Result (Set × List ℕ) Why
entry before start = after_name (named before start)

-- all settings, or the index at which the first entry begins that is refused
pub data Outcome : Type 0 where
  settled : List SetAt → Outcome
  refused : ℕ → Why → Outcome

-- after one entry
abbrev pub after_entry : (List SetAt → List ℕ → Outcome) → List ℕ → List SetAt → List ℕ
    → Result (Set × List ℕ) Why → Outcome
after_entry more text before start (Err why) = refused (length text - length start) why
after_entry more text before start (Ok read) =
    let line = line_at text (length text - length start) in
    more (before ++ record { line = line; set = read.0 } ∷ []) read.1

-- the rest of a text, which has fewer than n entries, behind those before
unfoldable pub entries : ℕ → List ℕ → List SetAt → List ℕ → Outcome
entries zero text before rest = refused (length text) not_toml
entries (suc n) text before rest =
    let start = skip_blank rest in
    if length start == 0 then settled before
    else after_entry (entries n text) text before start (entry before start)

-- what a text sets, which need not be UTF-8
unfoldable pub outcome_of : List ℕ → Outcome
outcome_of text =
    if utf8_valid_len text == length text
    then entries (suc (length text)) text [] (skip_bom text)
    else refused (utf8_valid_len text) not_toml
