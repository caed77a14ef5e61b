-- Each cause of both views keeps two states apart from all that the client can tell.
use Rattle.std.proofs.Common.{◌≡◌, ℕ, Bool, true, false, List, refl, sym, subst}
use Rattle.std.specs.Prelude.{◌&&◌, not}
use Rattle.std.specs.Str.{bytes_eq}
use Rattle.sng_book.specs.declared.address.Address.{Address}
use Rattle.sng_book.specs.Traces.{is_own}
use Rattle.sng_history.specs.Causes.{Cause, ByConnect, ByMessage, BySource, ByBroken, ByPacket, ByUp, ByDown}
use Rattle.sng_history.specs.Causes.{ByTake, ByReplace, ByTick}
use Rattle.sng_isolation.specs.Isolation.{IsHarmless}
use Rattle.sng_isolation.proofs.ForeignStep.{CameFrom}
use Rattle.sng_isolation.proofs.Alike.{IsShown, CommonEvent}
use Rattle.sng_isolation.proofs.CommonPackets.{common_packet}
use Rattle.sng_isolation.proofs.CommonConnections.{common_up, common_down}
use Rattle.sng_isolation.proofs.CommonTakes.{common_take}
use Rattle.sng_isolation.proofs.CommonTick.{common_tick}
use Rattle.sng_isolation.proofs.CommonMessages.{common_message, common_broken, common_source}
use Rattle.sng_isolation.proofs.CommonConnect.{common_connect}

pub common_event : CommonEvent
common_event id own s t (ByConnect from connect) sound also alike shown room other =
    common_connect id own s t from connect sound also alike shown.1 room other
common_event id own s t (ByMessage from request) sound also alike shown room other =
    common_message id own s t from request sound also alike shown room other
common_event id own s t (BySource from p) sound also alike shown room other =
    common_source id own s t from p sound also alike
common_event id own s t (ByBroken from rule) sound also alike shown room other =
    common_broken id own s t from rule sound also alike shown
common_event id own s t (ByPacket p) sound also alike shown room other =
    common_packet id own s t p sound also alike shown.granted
common_event id own s t ByUp sound also alike shown room other = common_up id own s t sound also alike
common_event id own s t ByDown sound also alike shown room other = common_down id own s t sound also alike
common_event id own s t ByTake sound also alike shown room other = common_take id own s t sound also alike
common_event id own s t (ByReplace policy) sound also alike shown room other = absurd shown
common_event id own s t (ByTick clock) sound also alike shown room other =
    common_tick id own s t clock sound also alike room other

-- ---- which causes are of both views

straight_by : (ours same : Bool) → ours ≡ true → (ours && not same) ≡ false → same ≡ true
straight_by true true is straight = refl
straight_by true false is straight = absurd cc
straight_by false same is straight = absurd cc

-- a datagram from one of the client's addresses
pub shown_datagram : (id : List ℕ) (own : List Address) (from : Address) (c : Cause) → CameFrom from c
    → is_own own from ≡ true → IsHarmless id own c → IsShown id own c
shown_datagram id own from (ByConnect place connect) came ours harmless =
    let here : is_own own place ≡ true = subst (λ a. is_own own a ≡ true) (sym came) ours in
    (here, straight_by (is_own own place) (bytes_eq connect.client_id id) here harmless.straight)
shown_datagram id own from (ByMessage place request) came ours harmless =
    subst (λ a. is_own own a ≡ true) (sym came) ours
shown_datagram id own from (BySource place p) came ours harmless =
    subst (λ a. is_own own a ≡ true) (sym came) ours
shown_datagram id own from (ByBroken place rule) came ours harmless =
    subst (λ a. is_own own a ≡ true) (sym came) ours
shown_datagram id own from (ByPacket p) came ours harmless = absurd came
shown_datagram id own from ByUp came ours harmless = absurd came
shown_datagram id own from ByDown came ours harmless = absurd came
shown_datagram id own from ByTake came ours harmless = absurd came
shown_datagram id own from (ByReplace policy) came ours harmless = absurd came
shown_datagram id own from (ByTick clock) came ours harmless = absurd came
