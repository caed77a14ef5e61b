use Rattle.std.proofs.Common.{◌≡◌, ◌++◌, ap, ◌∙◌}
use Rattle.sng_book.specs.Printing.{name_text}
use Rattle.sng_operator.specs.Commands.{front_of}
use Rattle.sng_operator.proofs.Appends.{three}
use Rattle.sng_operator.proofs.commands.push_unknown.Goals as goal

pub returns : goal.returns
returns c =
    let front = c.extend_from_slice.new.self.items in
    let shown : c.push_name.new.text.items ≡ front ++ name_text (front_of c.args.line.now) =
    c.in_ok-push_name.ensures ∙ ap (λ l. front ++ name_text l) c.front_of.ensures in
    three _ _ _ _ _ _ _ _ c.in_ok-extend_from_slice.ensures.items shown c.push_hint.ensures
