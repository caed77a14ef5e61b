-- One more of what a tick brings is carried out, in the room that was made for all.
use Rattle.std.proofs.Common.{◌≡◌, ◌≤◌, ℕ, ◌+◌, List, [], ◌∷◌, ◌++◌, length, refl, ap, sym, ◌∙◌, arith, Bool}
use Rattle.std.specs.Prelude.{if◌then◌else◌, Option, Some, None}
use Rattle.sng_grants.specs.Limits.{Limits}
use Rattle.sng_outbox.specs.declared.item.Item.TheVariants as item
use Rattle.sng_outbox.specs.declared.item.Publication.{Publication}
use Rattle.sng_book.specs.Denials.{is_allowed}
use Rattle.sng_book.specs.declared.outcome.Outcome.{Outcome}
use Rattle.sng_book.specs.declared.outcome.Outcome.TheVariants.{Allowed, Denied}
use Rattle.sng_history.specs.Clients.{Client}
use Rattle.sng_history.specs.Links.{Link}
use Rattle.sng_history.specs.Room.{room_in}
use Rattle.sng_history.specs.Ticking.{with_item, is_ping_due}
use Rattle.sng_link.specs.Rooms.{LinkRoom, HasPlaces}
use Rattle.sng_core.specs.Dues.{due_clients, due_link, dues_clients, dues_link, items_of, all_items}
use Rattle.sng_core.specs.Losing.{placed_if}
use Rattle.sng_core.specs.declared.tick.Due.{Due}
use Rattle.sng_core.specs.declared.tick.Due.TheVariants.{Lost, Unanswered}

pub clients-more : (clock : ℕ) (dues : List Due) (due : Due) (xs : List Client)
    → dues_clients clock (dues ++ due ∷ []) xs ≡ due_clients clock (dues_clients clock dues xs) due
clients-more clock [] due xs = refl
clients-more clock (k ∷ dues) due xs = clients-more clock dues due (due_clients clock xs k)

pub link-more : (limits : Limits) (dues : List Due) (due : Due) (link : Link)
    → dues_link limits (dues ++ due ∷ []) link ≡ due_link limits (dues_link limits dues link) due
link-more limits [] due link = refl
link-more limits (k ∷ dues) due link = link-more limits dues due (due_link limits link k)

-- ---- whether a PINGREQ is due

placed_stays : (link : Link) (p : Publication) (o : Outcome)
    → (if is_allowed o then with_item link (item.Publish p) else link).pinged ≡ link.pinged
placed_stays link p Allowed = refl
placed_stays link p (Denied rule) = refl

kept_stays : (limits : Limits) (link : Link) (will : Option Publication)
    → (placed_if limits link will).pinged ≡ link.pinged
kept_stays limits link None = refl
kept_stays limits link (Some p) = placed_stays link p (room_in limits link p.qos)

due_stays : (limits : Limits) (link : Link) (due : Due) → (due_link limits link due).pinged ≡ link.pinged
due_stays limits link (Lost loss) = kept_stays limits link loss.will
due_stays limits link (Unanswered place retried) = refl

pub dues_stay : (limits : Limits) (dues : List Due) (link : Link)
    → (dues_link limits dues link).pinged ≡ link.pinged
dues_stay limits [] link = refl
dues_stay limits (due ∷ dues) link = dues_stay limits dues (due_link limits link due) ∙ due_stays limits link due

-- the dues change nothing of that
pub due-then : (limits : Limits) (up : Bool) (clock : ℕ) (dues : List Due) (link : Link)
    → is_ping_due up link clock ≡ is_ping_due up (dues_link limits dues link) clock
due-then limits up clock dues link =
    ap (λ since. is_ping_due up (record link { pinged = since }) clock) (sym (dues_stay limits dues link))

-- ---- the room

-- there is room for as many, or for fewer
pub places-fewer : (n m : ℕ) (l : LinkRoom) → m ≤ n → HasPlaces n l → HasPlaces m l
places-fewer n m l fewer has = (omega (arith, fewer, has.0), omega (arith, fewer, has.1))

-- so for the first of those that are left, and for the rest of them behind it
pub first-places : (dues rest : List Due) (due : Due) (count : ℕ) (l : LinkRoom) → dues ≡ due ∷ rest
    → HasPlaces (all_items dues + count) l → HasPlaces (items_of due + (all_items rest + count)) l
first-places dues rest due count l is has =
    let size : all_items dues ≡ items_of due + all_items rest = ap all_items is in
    places-fewer (all_items dues + count) (items_of due + (all_items rest + count)) l (omega (arith, size)) has

pub one-places : (dues rest : List Due) (due : Due) (l : LinkRoom) → dues ≡ due ∷ rest
    → HasPlaces (all_items dues) l → HasPlaces (items_of due) l
one-places dues rest due l is has =
    let size : all_items dues ≡ items_of due + all_items rest = ap all_items is in
    places-fewer (all_items dues) (items_of due) l (omega (arith, size)) has

-- behind the last there is room for what comes then
pub none-left : (dues : List Due) (count : ℕ) (l : LinkRoom) → length dues ≡ 0
    → HasPlaces (all_items dues + count) l → HasPlaces count l
none-left [] count l none has = places-fewer (0 + count) count l (omega arith) has
none-left (due ∷ dues) count l none has = absurd (omega (arith, none))
