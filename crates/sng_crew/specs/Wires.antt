-- The bytes for the broker in what receipts let out.
use Rattle.std.specs.Prelude.{ℕ, List, [], ◌∷◌, ◌++◌}
use Rattle.std.specs.List.{flat_map}
use Rattle.sng_book.specs.declared.out.Out.{Out}
use Rattle.sng_book.specs.declared.out.Out.TheVariants.{Send, Wire, Note}
use Rattle.sng_desk.specs.Sights.{Receipt}

-- the bytes of some outs for the broker
abbrev pub wires_in : List Out → List ℕ
wires_in [] = []
wires_in (Wire bytes ∷ outs) = bytes ++ wires_in outs
wires_in (Send to bytes ∷ outs) = wires_in outs
wires_in (Note note ∷ outs) = wires_in outs

abbrev pub wires_of : List Receipt → List ℕ
wires_of receipts = flat_map (λ r. wires_in r.outs) receipts
