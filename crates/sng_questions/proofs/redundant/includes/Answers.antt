use Rattle.std.proofs.Common.{◌≡◌, ◌&&◌, Bool, true, false, refl, ◌∙◌}
use Rattle.std.proofs.lemmas.Result.{IfOk-weaker}
use Rattle.sng_questions.specs.Redundant.{includes, is_included, permits_all}
use Rattle.sng_questions.proofs.redundant.includes.Goals as goal

not_permitted : (permits included : Bool) → permits ≡ false → false ≡ (permits && included)
not_permitted permits included is = rw is refl

permitted : (permits included : Bool) → permits ≡ true → included ≡ (permits && included)
permitted permits included is = rw is refl

pub returns-then-not-permits_all : goal.returns-then-not-permits_all
unfolding includes
returns-then-not-permits_all c =
    not_permitted (permits_all c.args.pair.now c.args.other.now)
    (is_included c.args.other.now.filter c.args.pair.now.filter) (cc)

pub returns : goal.returns
unfolding includes
returns c =
    let included = is_included c.args.other.now.filter c.args.pair.now.filter in
    let all : included ≡ includes c.args.pair.now c.args.other.now =
    permitted (permits_all c.args.pair.now c.args.other.now) included (cc) in
    IfOk-weaker c.is_included.result (λ (is : Bool). is ≡ included)
    (λ (is : Bool). is ≡ includes c.args.pair.now c.args.other.now)
    (λ (is : Bool) (same : is ≡ included). same ∙ all) c.is_included.ensures
