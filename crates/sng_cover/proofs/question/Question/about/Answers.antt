use Rattle.std.proofs.Common.{◌≡◌, ℕ, List, [], true, refl}
use Rattle.std.proofs.lemmas.List.Elements.{All-from_recursion}
use Rattle.sng_text.specs.Texts.{is_filter}
use Rattle.sng_cover.proofs.question.Question.about.Goals as goal

pub returns : goal.returns
returns c = record {
  asked_is = refl;
  filter = c.of.ensures.filter;
  own = c.of.ensures.shape;
  reached = record {
    are = All-from_recursion (λ (filter : List ℕ). is_filter filter ≡ true) [] tt;
    depths = c.new.ensures;
  };
}
