-- What the broker is told of subscriptions, in the views' words.
use Rattle.std.specs.Prelude.{ℕ, ◌≡◌, ◌*◌, nat_le, Bool, true, false, ◌||◌, List, [], ◌∷◌}
use Rattle.std.specs.Str.{bytes_eq}
use Rattle.sng_outbox.specs.declared.item.Item.{Item}
use Rattle.sng_outbox.specs.declared.item.Item.TheVariants as item
use Rattle.sng_book.specs.declared.row.Row.{Row}
use Rattle.sng_book.specs.declared.event.Event.{Event}
use Rattle.sng_book.specs.declared.event.Event.TheVariants.{Replace}
use Rattle.sng_fan.specs.declared.limits.TheConstants.{MAX_SUBSCRIPTIONS}
use Rattle.sng_history.specs.declared.limits.TheConstants.{MAX_OPEN_SUBSCRIBES}
use Rattle.sng_laws.specs.ViewsLink.{is_outbox_noted, subscribe_waits, waiting}
use Rattle.sng_laws.specs.ViewsStanding.{held_in}
use Rattle.sng_laws.specs.ViewsWanted.{is_owed, is_upstream}

-- an UNSUBSCRIBE of the filter is among these items
abbrev pub unsubscribe_waits : List Item → List ℕ → Bool
unsubscribe_waits [] text = false
unsubscribe_waits (item.Unsubscribe filter ∷ items) text =
    bytes_eq text filter || unsubscribe_waits items text
unsubscribe_waits (item.Subscribe filter ∷ items) text = unsubscribe_waits items text
unsubscribe_waits (item.Publish p ∷ items) text = unsubscribe_waits items text
unsubscribe_waits (item.Acknowledge packet_id ∷ items) text = unsubscribe_waits items text
unsubscribe_waits (item.Ping ∷ items) text = unsubscribe_waits items text

-- no row notes that no more could wait
abbrev pub AllPlaced : List Row → Type 0
AllPlaced [] = Unit {0}
AllPlaced (row ∷ earlier) = AllPlaced earlier × (is_outbox_noted row.outs ≡ false)

-- the broker keeps a subscription by the filter, or a SUBSCRIBE is owed
abbrev pub is_kept : List Row → List ℕ → Bool
is_kept h text = is_upstream h text || is_owed h text

-- of a filter that stands for somebody the broker keeps a subscription, or a SUBSCRIBE waits or is owed; of one
-- that stands for nobody it keeps none and none is owed, or an UNSUBSCRIBE waits
pub record IsOwed (h : List Row) (text : List ℕ) : Type 0 where
  pub begins : held_in h text ≡ true → is_kept h text ≡ false → subscribe_waits (waiting h) text ≡ true
  pub ends : held_in h text ≡ false → is_kept h text ≡ true → unsubscribe_waits (waiting h) text ≡ true

abbrev pub EachIsOwed : List Row → Type 0
EachIsOwed h = (text : List ℕ) → IsOwed h text

-- the broker keeps a subscription just of the filters that stand for somebody
abbrev pub IsSame : List Row → Type 0
IsSame h = (text : List ℕ) → is_upstream h text ≡ held_in h text

-- just of these it keeps one, or a SUBSCRIBE is owed
abbrev pub IsSameOrOwed : List Row → Type 0
IsSameOrOwed h = (text : List ℕ) → is_kept h text ≡ held_in h text

-- no policy of the rows lets in more clients than have room for an open SUBSCRIBE of each filter that may stand
-- for them
abbrev pub has_few_clients : Event → Bool
has_few_clients (Replace policy) = nat_le (policy.limits.clients * MAX_SUBSCRIPTIONS) MAX_OPEN_SUBSCRIBES
has_few_clients other = true

abbrev pub AllFewClients : List Row → Type 0
AllFewClients [] = Unit {0}
AllFewClients (row ∷ earlier) = AllFewClients earlier × (has_few_clients row.event ≡ true)

-- no SUBSCRIBE is owed
abbrev pub NoneOwed : List Row → Type 0
NoneOwed h = (text : List ℕ) → is_owed h text ≡ false

-- no filter begins or ceases to stand for anybody in the row
abbrev pub StandsStill : List Row → Row → Type 0
StandsStill h row = (text : List ℕ) → held_in (row ∷ h) text ≡ held_in h text
