-- A client that was never accepted has no state, and nothing waits for it.
use Rattle.std.proofs.Common.{◌≡◌, ℕ, zero, suc, false, List, [], length, refl, ap, ◌∙◌}
use Rattle.std.specs.Prelude.{drop, None}
use Rattle.sng_queue.specs.Messages.{Message}
use Rattle.sng_book.specs.declared.row.Row.{Row}
use Rattle.sng_history.specs.State.{opening}
use Rattle.sng_history.specs.Lawful.{Lawful}
use Rattle.sng_laws.specs.ViewsClients.{phase_of, is_among, accepted}
use Rattle.sng_laws.specs.ViewsHanding.{settled_of, waits_for}
use Rattle.sng_promise.proofs.Clients.SeenState.{stands}

pub never_accepted : (h : List Row) → Lawful opening h → (id : List ℕ) → is_among id (accepted h) ≡ false
    → phase_of id h ≡ None
never_accepted h l id none = ((stands h l).shown.unheard id none).phase

drop_none : (n : ℕ) → drop n (let none : List Message = [] in none) ≡ []
drop_none zero = refl
drop_none (suc n) = refl

pub none_waits : (h : List Row) → Lawful opening h → (id : List ℕ) → is_among id (accepted h) ≡ false
    → waits_for id h ≡ []
none_waits h l id none =
    ap (drop (length (settled_of id h))) ((stands h l).shown.unheard id none).due
    ∙ drop_none (length (settled_of id h))
