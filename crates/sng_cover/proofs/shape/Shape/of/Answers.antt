use Rattle.std.proofs.Common.{sym, ◌∙◌}
use Rattle.sng_cover.proofs.Shapes.{shape_rest, shape_whole}
use Rattle.sng_cover.proofs.shape.Shape.of.Goals as goal

pub returns-then-ends_in_hash-clause-shape : goal.returns-then-ends_in_hash-clause-shape
returns-then-ends_in_hash-clause-shape c =
    let slashes = c.from-slashes.ensures ∙ c.slash_count.ensures in
    let hash = c.if-ends_in_hash.ensures in
    let text = c.text-text.ensures.value in
    shape_rest c.args.filter.now c.from-slashes.result c.text-text.ensures.filter (rw text at slashes)
    (rw text at (sym hash))

pub returns-else-ends_in_hash-clause-shape : goal.returns-else-ends_in_hash-clause-shape
returns-else-ends_in_hash-clause-shape c =
    let slashes = c.from-slashes.ensures ∙ c.slash_count.ensures in
    let hash = c.if-ends_in_hash.ensures in
    let text = c.text-text.ensures.value in
    shape_whole c.args.filter.now c.from-slashes.result c.text-text.ensures.filter (rw text at slashes)
    (rw text at (sym hash))
