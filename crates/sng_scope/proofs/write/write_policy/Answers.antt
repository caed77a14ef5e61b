use Rattle.std.proofs.Common.{◌≡◌, ◌≤◌, Some, ap, sym, subst, ◌∙◌}
use Rattle.std.proofs.lemmas.Str.{is_utf8-from_IsUtf8}
use Rattle.serde_json.specs.Data.{depth}
use Rattle.serde_json.specs.Read.{max_depth}
use Rattle.serde_json.specs.View.{view}
use Rattle.serde_json.specs.Written.{has_float, compact_text}
use Rattle.sng_scope.specs.Written.{policy_data}
use Rattle.sng_scope.proofs.JsonLemmas.{policy_of-read}
use Rattle.sng_scope.proofs.PolicyBackLemmas.{policies_are_read_back}
use Rattle.sng_scope.proofs.ShapeLemmas.{policy-depth, policy-float}
use Rattle.sng_scope.proofs.write.write_policy.Goals as goal

pub returns-clause-text : goal.returns-clause-text
returns-clause-text c =
    let said : view c.in_ok-value.value ≡ policy_data c.args.policy.now = c.in_ok-value.ensures.json in
    c.in_ok-text.ensures.text (ap has_float said ∙ policy-float c.args.policy.now) ∙ ap compact_text said

pub returns-clause-read : goal.returns-clause-read
returns-clause-read c =
    let policy = c.args.policy.now in
    let said : view c.in_ok-value.value ≡ policy_data policy = c.in_ok-value.ensures.json in
    let shallow = subst (λ d. depth d ≤ max_depth) (sym said) (policy-depth policy) in
    policy_of-read c.in_ok-text.text.items (policy_data policy) policy
    (is_utf8-from_IsUtf8 c.in_ok-text.text.items c.in_ok-text.ensures.utf8)
    (c.in_ok-text.ensures.reads_back shallow ∙ ap Some said)
    (policies_are_read_back policy c.in_ok-value.ensures.within c.in_ok-value.ensures.ordered)
