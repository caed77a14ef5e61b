use Rattle.std.proofs.Common.{ℕ, List}
use Rattle.sng_text.proofs.CommonLemmas.{rest_of}
use Rattle.sng_cover.proofs.AlikeLemmas.{left-further}
use Rattle.sng_cover.proofs.alike.past_alike.Goals as goal

pub returns : goal.returns
returns c =
    let text : List ℕ = c.args.text.now in
    let other : List ℕ = c.args.other.now in
    let start : ℕ = c.level_start-start.result in
    let left = rw (rest_of text start, rest_of other start) at c.past_common.ensures in
    let same = c.same_front.ensures in
    left-further text other c.same_front.result start _ _ same.within same.beside same.same
    c.level_start-start.ensures.within c.level_start-start.ensures.slash left
