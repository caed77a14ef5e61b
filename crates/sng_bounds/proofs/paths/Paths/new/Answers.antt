use Rattle.std.proofs.Common.{◌≡◌, ◌+◌, ◌*◌, subst, sym}
use Rattle.std.proofs.lemmas.List.{get_or-replicate}
use Rattle.std.proofs.lemmas.Nat.{mod_below}
use Rattle.std.proofs.Math.Dec.{lit<}
use Rattle.std.specs.Int.{w32, from_be_bytes}
use Rattle.sng_bounds.specs.Counts.{slot_of, rest_of}
use Rattle.sng_bounds.specs.declared.counts.TheConstants.{SLOTS}
use Rattle.sng_bounds.proofs.paths.Paths.new.Goals as goal

pub returns : goal.returns
returns c to = subst (λ ends. rest_of ends to ≡ 0)
    (sym (c.in_ok-vec.ensures.items_if_clones_equal (λ y same. same)))
    (get_or-replicate SLOTS (slot_of to) 0 0
    (mod_below (from_be_bytes w32 to.ip * 65536 + to.port) SLOTS (lit< tt)))
