use Rattle.std.proofs.Common.{◌≡◌, length, arith}
use Rattle.sng_outbox.proofs.MarkLemmas.{none_used}
use Rattle.sng_outbox.proofs.packet_ids.PacketIds.new.Goals as goal

pub returns-clause-none : goal.returns-clause-none
returns-clause-none c =
    let whole : length c.in_ok-vec.field-0.items ≡ 65536 = omega (arith, c.in_ok-vec.ensures.len) in
    none_used c.in_ok-vec.field-0.items 65536
    (c.in_ok-vec.ensures.items_if_clones_equal (λ y same. same)) whole
