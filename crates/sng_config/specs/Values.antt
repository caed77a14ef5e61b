-- Settings with their values, and what a file that sets them says of each.
use Rattle.std.specs.Prelude.{ℕ, ℤ, pos, negsuc, Bool, ◌&&◌, nat_le, if◌then◌else◌, List, Some, None, find}
use Rattle.std.specs.Prelude.{string_bytes, option_and_then}
use Rattle.std.specs.declared.option.Option.{Option}
use Rattle.std.specs.Option.{option_map}
use Rattle.std.specs.Str.{bytes_eq}
use Rattle.toml.specs.Data.{Data, string, integer, float, boolean, datetime, array, table}
use Rattle.toml.specs.Parse.{scalar_data}
use Rattle.sng_config.specs.declared.names.TextName.{TextName}
use Rattle.sng_config.specs.declared.names.NumberName.{NumberName}
use Rattle.sng_config.specs.declared.names.SwitchName.{SwitchName}
use Rattle.sng_config.specs.declared.names.Name.{Name}
use Rattle.sng_config.specs.declared.names.Name.TheVariants.{Text, Number, Switch}
use Rattle.sng_config.specs.declared.settings.Setting as settings
use Rattle.sng_config.specs.declared.settings.Setting.TheVariants.{Text, Number, Switch}
use Rattle.sng_config.specs.declared.settings.Entry.{Entry}
use Rattle.sng_config.specs.declared.value.Value as values
use Rattle.sng_config.specs.declared.value.Value.TheVariants.{Text, Scalar}
use Rattle.sng_config.specs.Names.{word_of, least_of, most_of}

-- a setting with its value
pub data Set : Type 0 where
  text : TextName → List ℕ → Set
  number : NumberName → ℕ → Set
  switch : SwitchName → Bool → Set

-- the line on which it stands, and the setting
pub record SetAt : Type 0 where
  pub line : ℕ
  pub set : Set

-- the settings as the code has them
abbrev pub set_view : settings.Setting → Set
set_view (Text name bytes) = text name (string_bytes bytes)
set_view (Number name n) = number name n
set_view (Switch name is_on) = switch name is_on

abbrev pub entry_view : Entry → SetAt
entry_view entry = record { line = entry.line; set = set_view entry.setting }

abbrev pub value_data : values.Value → Data
value_data (Text bytes) = string (string_bytes bytes)
value_data (Scalar scalar) = scalar_data scalar

-- what is set
abbrev pub name_in : Set → Name
name_in (text name bytes) = Text name
name_in (number name n) = Number name
name_in (switch name is_on) = Switch name

-- the number, where it is in the range of the setting
abbrev pub number_as : NumberName → ℤ → Option ℕ
number_as name (pos n) = if nat_le (least_of name) n && nat_le n (most_of name) then Some n else None
number_as name (negsuc n) = None

-- the setting of each kind with a value, where that is of the kind and in the range
abbrev pub text_set : TextName → Data → Option Set
text_set name (string bytes) = Some (text name bytes)
text_set name (integer z) = None
text_set name (float _) = None
text_set name (boolean is_on) = None
text_set name (datetime _) = None
text_set name (array _) = None
text_set name (table _) = None

abbrev pub number_set : NumberName → Data → Option Set
number_set name (string bytes) = None
number_set name (integer z) = option_map (number name) (number_as name z)
number_set name (float _) = None
number_set name (boolean is_on) = None
number_set name (datetime _) = None
number_set name (array _) = None
number_set name (table _) = None

abbrev pub switch_set : SwitchName → Data → Option Set
switch_set name (string bytes) = None
switch_set name (integer z) = None
switch_set name (float _) = None
switch_set name (boolean is_on) = Some (switch name is_on)
switch_set name (datetime _) = None
switch_set name (array _) = None
switch_set name (table _) = None

abbrev pub set_of : Name → Data → Option Set
set_of (Text name) value = text_set name value
set_of (Number name) value = number_set name value
set_of (Switch name) value = switch_set name value

-- the value as TOML has it
abbrev pub data_of : Set → Data
data_of (text name bytes) = string bytes
data_of (number name n) = integer (pos n)
data_of (switch name is_on) = boolean is_on

-- two names are one
abbrev pub is_name : Name → Name → Bool
is_name name other = bytes_eq (word_of name) (word_of other)

-- the first setting of this name
abbrev pub entry_of : Name → List SetAt → Option SetAt
entry_of name entries = find (λ entry. is_name (name_in entry.set) name) entries

abbrev pub line_of : Name → List SetAt → Option ℕ
line_of name entries = option_map (λ entry. entry.line) (entry_of name entries)

-- the value where it is of a kind; a text with its line
abbrev pub text_part : ℕ → Set → Option (ℕ × List ℕ)
text_part line (text name bytes) = Some (line, bytes)
text_part line (number name n) = None
text_part line (switch name is_on) = None

abbrev pub number_part : Set → Option ℕ
number_part (text name bytes) = None
number_part (number name n) = Some n
number_part (switch name is_on) = None

abbrev pub switch_part : Set → Option Bool
switch_part (text name bytes) = None
switch_part (number name n) = None
switch_part (switch name is_on) = Some is_on

-- what is set under a name
abbrev pub text_in : TextName → List SetAt → Option (ℕ × List ℕ)
text_in name entries =
    option_and_then (λ entry. text_part entry.line entry.set) (entry_of (Text name) entries)

abbrev pub number_in : NumberName → List SetAt → Option ℕ
number_in name entries = option_and_then (λ entry. number_part entry.set) (entry_of (Number name) entries)

abbrev pub switch_in : SwitchName → List SetAt → Option Bool
switch_in name entries = option_and_then (λ entry. switch_part entry.set) (entry_of (Switch name) entries)
