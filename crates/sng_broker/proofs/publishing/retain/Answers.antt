use Rattle.std.proofs.Common.{◌≡◌, ◌==◌, true, false, not, length, rules, ap, ◌∙◌, ◌++◌, ◌∷◌, []}
use Rattle.std.proofs.lemmas.Fn.{filter_same}
use Rattle.std.specs.Str.{bytes_eq}
use Rattle.sng_broker.proofs.publishing.retain.Goals as goal

pub returns-then-not-is_empty : goal.returns-then-not-is_empty
returns-then-not-is_empty c =
    let kept =
    filter_same _ (λ k. not (bytes_eq k.name c.args.message.name)) _
    (λ x b f' k. search rules) _ _ c.retain.ensures.filtered in
    let some : (length c.args.message.payload == 0) ≡ false = search rules in
    rw some (c.push_reserved.ensures.items ∙ ap (λ l. l ++ c.args.message ∷ []) kept)

pub returns-else-not-is_empty : goal.returns-else-not-is_empty
returns-else-not-is_empty c =
    let kept =
    filter_same _ (λ k. not (bytes_eq k.name c.args.message.name)) _
    (λ x b f' k. search rules) _ _ c.retain.ensures.filtered in
    let none : (length c.args.message.payload == 0) ≡ true = search rules in
    rw none kept
