-- The wills of lost clients: which publishes of a client come to wait by a tick.
use Rattle.std.proofs.Common.{◌≡◌, ℕ, Bool, true, false, List, [], ◌∷◌, ◌++◌, map, refl, ap, sym, ◌∙◌, cond, subst}
use Rattle.std.proofs.Common.{if◌then◌else◌}
use Rattle.std.specs.Prelude.{Option, Some, None, ◌&&◌}
use Rattle.std.specs.Str.{bytes_eq}
use Rattle.std.proofs.lemmas.List.{append-nil}
use Rattle.std.proofs.lemmas.List.Elements.{filter-append}
use Rattle.sng_grants.specs.Limits.{Limits}
use Rattle.sng_wills.specs.declared.will.Will.{Will}
use Rattle.sng_outbox.specs.declared.item.Item.{Item}
use Rattle.sng_outbox.specs.declared.item.Item.TheVariants as item
use Rattle.sng_outbox.specs.declared.item.Publication.{Publication}
use Rattle.sng_book.specs.Denials.{is_allowed}
use Rattle.sng_book.specs.declared.outcome.Outcome.TheVariants.{Allowed}
use Rattle.sng_history.specs.Clients.{Client}
use Rattle.sng_history.specs.Links.{Link}
use Rattle.sng_history.specs.Packets.{has_place}
use Rattle.sng_history.specs.Room.{room_in}
use Rattle.sng_history.specs.Ticking.{will_of, testament, testaments, with_item, placed, all_placed, with_wills}
use Rattle.sng_history.specs.Ticking.{is_lost_at, is_ping_due, ticked}
use Rattle.sng_history.specs.Losing.{before}
use Rattle.sng_history.specs.Good.{Each, Distinct}
use Rattle.sng_history.proofs.WillsPlaced.{placed_append}
use Rattle.sng_isolation.specs.Isolation.{kept_of}
use Rattle.sng_isolation.proofs.Alike.{is_by, is_mine, mine}
use Rattle.sng_isolation.proofs.Fan.{own_part, others_behind}

-- ---- the link

-- a publish of another
placed_other : (limits : Limits) (id : List ℕ) (link : Link) (p : Publication) → is_by id p.origin ≡ false
    → mine id (placed limits link p).waiting ≡ mine id link.waiting
placed_other limits id link p other = by_room (is_allowed (room_in limits link p.qos))
  where
    by_room : (b : Bool)
        → mine id (let after : Link = if b then with_item link (item.Publish p) else link in after).waiting
        ≡ mine id link.waiting
    by_room true =
        filter-append (is_mine id) link.waiting (item.Publish p ∷ [])
        ∙ (ap (λ b. mine id link.waiting ++ (let some : List Item = cond b (item.Publish p ∷ []) [] in some)) other
        ∙ append-nil (mine id link.waiting))
    by_room false = refl

-- one of the client, for which there is room
placed_own : (limits : Limits) (id : List ℕ) (link : Link) (p : Publication) → is_by id p.origin ≡ true
    → room_in limits link p.qos ≡ Allowed
    → mine id (placed limits link p).waiting ≡ mine id link.waiting ++ item.Publish p ∷ []
placed_own limits id link p own room =
    ap (λ o. mine id (let after : Link = if is_allowed o then with_item link (item.Publish p) else link in
    after).waiting)
    room
    ∙ (filter-append (is_mine id) link.waiting (item.Publish p ∷ [])
    ∙ ap (λ b. mine id link.waiting ++ (let some : List Item = cond b (item.Publish p ∷ []) [] in some)) own)

-- ---- the wills of others

will_other : (limits : Limits) (id : List ℕ) (client : List ℕ) (link : Link) (will : Option Will)
    → bytes_eq id client ≡ false
    → mine id (all_placed limits link (will_of client will)).waiting ≡ mine id link.waiting
will_other limits id client link None away = refl
will_other limits id client link (Some will) away = placed_other limits id link _ away

testament_other : (limits : Limits) (id : List ℕ) (now : ℕ) (link : Link) (x : Client) → bytes_eq id x.id ≡ false
    → mine id (all_placed limits link (testament now x)).waiting ≡ mine id link.waiting
testament_other limits id now link x away = by_lost (is_lost_at now x)
  where
    by_lost : (b : Bool)
        → mine id (all_placed limits link (if b then will_of x.id x.wills.will else [])).waiting
        ≡ mine id link.waiting
    by_lost true = will_other limits id x.id link x.wills.will away
    by_lost false = refl

pub wills_others : (limits : Limits) (id : List ℕ) (now : ℕ) (link : Link) (xs : List Client)
    → Each (λ x. bytes_eq id x.id ≡ false) xs
    → mine id (with_wills limits link now xs).waiting ≡ mine id link.waiting
wills_others limits id now link [] away = refl
wills_others limits id now link (x ∷ xs) away =
    ap (λ after. mine id after.waiting) (placed_append limits link (testament now x) (testaments now xs))
    ∙ (wills_others limits id now (all_placed limits link (testament now x)) xs away.1
    ∙ testament_other limits id now link x away.0)

-- ---- the will of the client

-- it finds room
abbrev pub FindsRoom : Limits → Link → List Publication → Type 0
FindsRoom limits link [] = Unit {0}
FindsRoom limits link (p ∷ ps) = room_in limits link p.qos ≡ Allowed

will_own : (limits : Limits) (id : List ℕ) (client : List ℕ) (link : Link) (will : Option Will)
    → bytes_eq id client ≡ true
    → FindsRoom limits link (will_of client will)
    → mine id (all_placed limits link (will_of client will)).waiting
    ≡ mine id link.waiting ++ map item.Publish (will_of client will)
will_own limits id client link None own room = sym (append-nil (mine id link.waiting))
will_own limits id client link (Some will) own room = placed_own limits id link _ own room

testament_own : (limits : Limits) (id : List ℕ) (now : ℕ) (link : Link) (x : Client) → bytes_eq id x.id ≡ true
    → FindsRoom limits link (testament now x)
    → mine id (all_placed limits link (testament now x)).waiting
    ≡ mine id link.waiting ++ map item.Publish (testament now x)
testament_own limits id now link x own = by_lost (is_lost_at now x)
  where
    by_lost : (b : Bool)
        → (let ps : List Publication = if b then will_of x.id x.wills.will else [] in
        FindsRoom limits link ps
        → mine id (all_placed limits link ps).waiting ≡ mine id link.waiting ++ map item.Publish ps)
    by_lost true room = will_own limits id x.id link x.wills.will own room
    by_lost false room = sym (append-nil (mine id link.waiting))

-- the client's will finds room behind those of the clients before it
abbrev pub WillFindsRoom : Limits → List ℕ → ℕ → Link → List Client → Option Client → Type 0
WillFindsRoom limits id now link xs None = Unit {0}
WillFindsRoom limits id now link xs (Some x) =
    FindsRoom limits (all_placed limits link (testaments now (before id xs))) (testament now x)

-- who comes first, comes first
first_before : (limits : Limits) (id : List ℕ) (now : ℕ) (link : Link) (x : Client) (xs : List Client)
    → bytes_eq id x.id ≡ true
    → FindsRoom limits (all_placed limits link (testaments now (before id (x ∷ xs)))) (testament now x)
    → FindsRoom limits link (testament now x)
first_before limits id now link x xs own room =
    subst (λ (ys : List Client). FindsRoom limits (all_placed limits link (testaments now ys))
    (testament now x)) (none own) room
  where
    none : bytes_eq id x.id ≡ true → before id (x ∷ xs) ≡ []
    none is = rw is refl

later_before : (limits : Limits) (id : List ℕ) (now : ℕ) (link : Link) (x : Client) (xs : List Client)
    (o : Option Client)
    → bytes_eq id x.id ≡ false → WillFindsRoom limits id now link (x ∷ xs) o
    → WillFindsRoom limits id now (all_placed limits link (testament now x)) xs o
later_before limits id now link x xs None away room = tt
later_before limits id now link x xs (Some y) away room =
    subst (λ (after : Link). FindsRoom limits after (testament now y))
    (ap (λ (ys : List Client). all_placed limits link (testaments now ys)) (one away)
    ∙ placed_append limits link (testament now x) (testaments now (before id xs))) room
  where
    one : bytes_eq id x.id ≡ false → before id (x ∷ xs) ≡ x ∷ before id xs
    one is = rw is refl

pub wills_trace : (limits : Limits) (id : List ℕ) (now : ℕ) (link : Link) (xs : List Client) → Distinct xs
    → WillFindsRoom limits id now link xs (kept_of id xs)
    → mine id (with_wills limits link now xs).waiting
    ≡ mine id link.waiting ++ own_part (λ x. map item.Publish (testament now x)) (kept_of id xs)
wills_trace limits id now link [] apart room = sym (append-nil (mine id link.waiting))
wills_trace limits id now link (x ∷ xs) apart room =
    by_one (bytes_eq id x.id) refl room (wills_trace limits id now (all_placed limits link (testament now x))
    xs apart.1)
  where
    first : mine id (with_wills limits link now (x ∷ xs)).waiting
        ≡ mine id (with_wills limits (all_placed limits link (testament now x)) now xs).waiting
    first = ap (λ after. mine id after.waiting) (placed_append limits link (testament now x) (testaments now xs))

    by_one : (b : Bool) → bytes_eq id x.id ≡ b
        → WillFindsRoom limits id now link (x ∷ xs) (cond b (Some x) (kept_of id xs))
        → (let after = all_placed limits link (testament now x) in
        (WillFindsRoom limits id now after xs (kept_of id xs)
        → mine id (with_wills limits after now xs).waiting
        ≡ mine id after.waiting ++ own_part (λ y. map item.Publish (testament now y)) (kept_of id xs))
        → mine id (with_wills limits link now (x ∷ xs)).waiting
        ≡ mine id link.waiting
        ++ own_part (λ y. map item.Publish (testament now y)) (cond b (Some x) (kept_of id xs)))
    by_one true own found more =
        first
        ∙ (wills_others limits id now (all_placed limits link (testament now x)) xs
        (others_behind id x xs own apart.0)
        ∙ testament_own limits id now link x own (first_before limits id now link x xs own found))
    by_one false away found more =
        first
        ∙ (more (later_before limits id now link x xs (kept_of id xs) away found)
        ∙ ap (λ items. items ++ own_part (λ y. map item.Publish (testament now y)) (kept_of id xs))
        (testament_other limits id now link x away))

-- a PINGREQ is nobody's
pub ticked_mine : (limits : Limits) (id : List ℕ) (up : Bool) (link : Link) (now : ℕ) (xs : List Client)
    → mine id (ticked limits up link now xs).waiting ≡ mine id (with_wills limits link now xs).waiting
ticked_mine limits id up link now xs =
    let after = with_wills limits link now xs in by_due (is_ping_due up after now && has_place limits after) after
  where
    by_due : (b : Bool) (after : Link)
        → mine id (let last : Link = if b then record (with_item after item.Ping) { pinged = now }
        else after in last).waiting
        ≡ mine id after.waiting
    by_due true after =
        filter-append (is_mine id) after.waiting (item.Ping ∷ []) ∙ append-nil (mine id after.waiting)
    by_due false after = refl
