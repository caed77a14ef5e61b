-- Places in a text.
use Rattle.std.specs.Prelude.{ℕ, ◌+◌, ◌==◌, not, List, count_by, take, reverse}
use Rattle.std.specs.List.{prefix_len}
use Rattle.toml_parser.specs.Lexical.{line_feed}
use Rattle.sng_config.specs.declared.place.Place.{Place}

-- the number of the line of the byte at an index: one more than there are line feeds before it
abbrev pub line_at : List ℕ → ℕ → ℕ
line_at text index = count_by (λ byte. byte == line_feed) (take index text) + 1

-- the number of that byte in its line: one more than there are bytes before it up to a line feed
abbrev pub column_at : List ℕ → ℕ → ℕ
column_at text index = prefix_len (λ byte. not (byte == line_feed)) (reverse (take index text)) + 1

abbrev pub place_at : List ℕ → ℕ → Place
place_at text index = record { line = line_at text index; column = column_at text index }
