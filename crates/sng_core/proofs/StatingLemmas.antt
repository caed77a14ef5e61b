-- What follows a statement that is allowed, and one that is denied.
use Rattle.std.proofs.Common.{◌≡◌, ℕ, true, false, refl}
use Rattle.sng_grants.specs.declared.policy.Policy.{Policy}
use Rattle.sng_book.specs.Denials.{is_allowed}
use Rattle.sng_book.specs.declared.outcome.Outcome.{Outcome}
use Rattle.sng_book.specs.declared.outcome.Outcome.TheVariants.{Allowed, Denied}
use Rattle.sng_history.specs.Causes.{Statement}
use Rattle.sng_history.specs.Clients.{Client}
use Rattle.sng_core.specs.Stating.{kept_next, refused_next, following_next}

pub kept-follows : (policy : Policy) (clock : ℕ) (statement : Statement) (o : Outcome) (x : Client)
    → is_allowed o ≡ true
    → kept_next policy clock statement x ≡ following_next policy clock statement o x
kept-follows policy clock statement Allowed x is = refl
kept-follows policy clock statement (Denied rule) x is = absurd cc

pub refused-follows : (policy : Policy) (clock : ℕ) (statement : Statement) (o : Outcome) (x : Client)
    → is_allowed o ≡ false
    → refused_next clock statement x ≡ following_next policy clock statement o x
refused-follows policy clock statement Allowed x is = absurd cc
refused-follows policy clock statement (Denied rule) x is = refl
