use Rattle.std.proofs.Common.{◌≡◌, false, arith}
use Rattle.std.proofs.lemmas.Bool.Decides.{Decides-at}
use Rattle.std.proofs.lemmas.Grind.{common_steps}
use Rattle.sng_policy.specs.Grants.{same_scope}
use Rattle.sng_policy.proofs.SameLemmas.{same_scope-Decides}
use Rattle.sng_policy.proofs.listed.same_scope.Goals as goal

pub returns-in-Some-Some-clause-same : goal.returns-in-Some-Some-clause-same
returns-in-Some-Some-clause-same c =
    let value : c.same_grant.result ≡ same_scope c.args.before.now c.args.after.now c.args.client.now =
    grind (arith, common_steps) in
    Decides-at c.same_grant.result _ value
    (same_scope-Decides c.args.before.now c.args.after.now c.args.client.now)

pub returns-in_default-clause-same : goal.returns-in_default-clause-same
returns-in_default-clause-same c =
    let value : false ≡ same_scope c.args.before.now c.args.after.now c.args.client.now =
    grind (arith, common_steps) in
    Decides-at false _ value (same_scope-Decides c.args.before.now c.args.after.now c.args.client.now)

pub returns-in_default-2-clause-same : goal.returns-in_default-2-clause-same
returns-in_default-2-clause-same c =
    let value : false ≡ same_scope c.args.before.now c.args.after.now c.args.client.now =
    grind (arith, common_steps) in
    Decides-at false _ value (same_scope-Decides c.args.before.now c.args.after.now c.args.client.now)
