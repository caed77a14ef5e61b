use Rattle.std.proofs.Common.{◌≡◌, ℕ, List}
use Rattle.std.specs.HashMap.{get}
use Rattle.std.specs.Str.{bytes_eq}
use Rattle.sng_grants.specs.Topics.{id_of}
use Rattle.sng_grants.proofs.IndexLemmas.{or_later}
use Rattle.sng_grants.proofs.topics.ids_of.Given as goal

abbrev pub invariant-loop-id : goal.invariant-loop-id
invariant-loop-id l =
    (name : List ℕ) → or_later (get bytes_eq l.ids name) (id_of l.id-iterator name) ≡ id_of l.names name
