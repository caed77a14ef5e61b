-- No CONNECT brings a client to an address that is not its own.
use Rattle.std.proofs.Common.{◌≡◌, ℕ, false, List, ap, sym, ◌∙◌, subst}
use Rattle.std.specs.Str.{bytes_eq}
use Rattle.sng_book.specs.declared.address.Address.{Address}
use Rattle.sng_book.specs.Traces.{is_own}
use Rattle.sng_history.specs.Causes.{Cause, ByConnect, ByMessage, BySource, ByBroken, ByPacket, ByUp, ByDown}
use Rattle.sng_history.specs.Causes.{ByTake, ByReplace, ByTick}
use Rattle.sng_history.proofs.Own.{same_self, same_means, flip}
use Rattle.sng_isolation.specs.Own.{names}
use Rattle.sng_isolation.proofs.ForeignStep.{CameFrom}
use Rattle.sng_isolation.proofs.Alike.{IsShown}
use Rattle.sng_isolation.proofs.Placed.{IsStraight}

-- one of both views is the client's, from an address of its own
pub shown_straight : (id : List ℕ) (own : List Address) (c : Cause) → IsShown id own c → IsStraight id own c
shown_straight id own (ByConnect from connect) shown =
    let named : connect.client_id ≡ id = same_means connect.client_id id shown.1 in
    shown.0 ∙ sym (ap (bytes_eq id) named ∙ same_self id)
shown_straight id own (ByMessage from request) shown = tt
shown_straight id own (BySource from p) shown = tt
shown_straight id own (ByBroken from rule) shown = tt
shown_straight id own (ByPacket p) shown = tt
shown_straight id own ByUp shown = tt
shown_straight id own ByDown shown = tt
shown_straight id own ByTake shown = tt
shown_straight id own (ByReplace policy) shown = tt
shown_straight id own (ByTick clock) shown = tt

-- and one that is hidden is another's, from elsewhere
pub hidden_straight : (id : List ℕ) (own : List Address) (from : Address) (c : Cause) → CameFrom from c
    → is_own own from ≡ false → names id c ≡ false → IsStraight id own c
hidden_straight id own from (ByConnect place connect) came off named =
    subst (λ a. is_own own a ≡ false) (sym came) off ∙ sym (flip id connect.client_id named)
hidden_straight id own from (ByMessage place request) came off named = tt
hidden_straight id own from (BySource place p) came off named = tt
hidden_straight id own from (ByBroken place rule) came off named = tt
hidden_straight id own from (ByPacket p) came off named = tt
hidden_straight id own from ByUp came off named = tt
hidden_straight id own from ByDown came off named = tt
hidden_straight id own from ByTake came off named = tt
hidden_straight id own from (ByReplace policy) came off named = tt
hidden_straight id own from (ByTick clock) came off named = tt
