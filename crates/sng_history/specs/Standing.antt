-- For whom a filter stands, and what follows upstream as subscriptions end: a filter that stands for nobody
-- any more is not wanted, and the broker is told so where there is place for that.
use Rattle.std.specs.Prelude.{ℕ, ◌-◌, Bool, ◌&&◌, ◌||◌, not, List, [], ◌∷◌, ◌++◌, length, map, filter, take}
use Rattle.std.specs.Prelude.{drop, if◌then◌else◌}
use Rattle.std.specs.List.{list_any}
use Rattle.std.specs.Str.{bytes_eq}
use Rattle.sng_fan.specs.Subscriptions.{stands}
use Rattle.sng_grants.specs.Limits.{Limits}
use Rattle.sng_outbox.specs.declared.item.Item.{Item}
use Rattle.sng_outbox.specs.declared.item.Item.TheVariants as item
use Rattle.sng_book.specs.declared.decision.Decision.TheVariants as note
use Rattle.sng_book.specs.declared.out.Out.{Out}
use Rattle.sng_book.specs.declared.out.Out.TheVariants.{Note}
use Rattle.sng_history.specs.Clients.{Client}
use Rattle.sng_history.specs.Links.{Link, Wanted}

-- the filter stands for the client
abbrev pub holds : List ℕ → Client → Bool
holds filter x = stands x.filters filter

-- it stands for one of these clients
abbrev pub is_held : List Client → List ℕ → Bool
is_held xs filter = list_any (holds filter) xs

-- the filters that stood for a client and do not any more, in the order in which each stood first
abbrev pub ended : Client → Client → List (List ℕ)
ended before after = map (λ h. h.filter) (filter (λ h. not (stands after.filters h.filter)) before.filters)

-- a client was the last for whom the filter stood
pub record Release : Type 0 where
  pub client : List ℕ
  pub filter : List ℕ

-- of these filters of the client those that stand for nobody else
abbrev pub releases_of : List ℕ → (List ℕ → Bool) → List (List ℕ) → List Release
releases_of client others [] = []
releases_of client others (text ∷ texts) =
    if others text
    then releases_of client others texts
    else record { client = client; filter = text } ∷ releases_of client others texts

-- in the order of the clients and of their filters, each filter as the last client ceases to hold it: the
-- clients before have what stands for them afterwards, and those behind what stood before
abbrev pub released_from : List Client → List Client → List Client → List Release
released_from earlier [] after = []
released_from earlier (x ∷ xs) [] = []
released_from earlier (x ∷ xs) (y ∷ ys) =
    releases_of x.id (λ text. is_held earlier text || is_held xs text) (ended x y)
    ++ released_from (earlier ++ y ∷ []) xs ys

abbrev pub released : List Client → List Client → List Release
released before after = released_from [] before after

-- how many items more may wait; none where more wait than a policy allows that came since
abbrev pub places_left : Limits → Link → ℕ
places_left limits link = limits.waiting - length link.waiting

-- an UNSUBSCRIBE waits for each filter that was released, while there is place; the others are dropped
abbrev pub unsubscribes : Limits → Link → List Release → List Item
unsubscribes limits link releases =
    map (λ r. item.Unsubscribe r.filter) (take (places_left limits link) releases)

abbrev pub dropped_of : Limits → Link → List Release → List Release
dropped_of limits link releases = drop (places_left limits link) releases

-- the client's release of the filter is one of these
abbrev pub is_release : List ℕ → List ℕ → Release → Bool
is_release client text r = bytes_eq client r.client && bytes_eq text r.filter

-- each UNSUBSCRIBE that is dropped is noted
abbrev pub drop_notes : List Release → List Out
drop_notes dropped = map (λ r. Note note.Outbox) dropped

-- the one that the client's end of this filter asked for, where it was dropped
abbrev pub drop_note : List Release → List ℕ → List ℕ → List Out
drop_note dropped client text =
    if list_any (is_release client text) dropped then Note note.Outbox ∷ [] else []

-- of the wanted filters those that stand for somebody among these clients
abbrev pub still_wanted : List Client → List Wanted → List Wanted
still_wanted xs wanted = filter (λ w. is_held xs w.filter) wanted
