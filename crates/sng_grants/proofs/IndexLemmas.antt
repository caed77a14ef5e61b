-- The index of topic names: the first id of each name stays, one entry after another.
use Rattle.std.proofs.Common.{ℕ, Option, Some, None}

-- the id that the index has, else what is still to come
abbrev pub or_later : Option ℕ → Option ℕ → Option ℕ
or_later (Some id) later = Some id
or_later None later = later
