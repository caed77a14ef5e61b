-- Two clients, each with an address and a CONNECT, of which the worked examples of several crates speak.
use Rattle.std.specs.Prelude.{ℕ, codes, List, [], ◌∷◌}
use Rattle.sng_book.specs.declared.address.Address.{Address}

abbrev pub s1 : List ℕ
s1 = codes "s1"

abbrev pub s2 : List ℕ
s2 = codes "s2"

-- two addresses of one host
abbrev pub home : Address
home = record { ip = 10 ∷ 0 ∷ 0 ∷ 9 ∷ []; port = 4000 }

abbrev pub away : Address
away = record { ip = 10 ∷ 0 ∷ 0 ∷ 9 ∷ []; port = 4001 }

-- a CONNECT of each, with CleanSession and a Duration of 60 s
abbrev pub connect_s1 : List ℕ
connect_s1 = 0x08 ∷ 0x04 ∷ 0x04 ∷ 0x01 ∷ 0x00 ∷ 0x3c ∷ 0x73 ∷ 0x31 ∷ []

abbrev pub connect_s2 : List ℕ
connect_s2 = 0x08 ∷ 0x04 ∷ 0x04 ∷ 0x01 ∷ 0x00 ∷ 0x3c ∷ 0x73 ∷ 0x32 ∷ []
