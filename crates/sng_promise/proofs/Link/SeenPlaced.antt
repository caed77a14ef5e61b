-- How a tick places wills for the broker, and what its row says of one will.
use Rattle.std.proofs.Common.{◌≡◌, ℕ, Bool, true, false, List, [], ◌∷◌, ◌++◌, map, refl, ap, sym, ◌∙◌}
use Rattle.std.proofs.Common.{if◌then◌else◌}
use Rattle.std.specs.Prelude.{◌||◌, not, Option, Some, None}
use Rattle.std.proofs.lemmas.List.{append_assoc, append-nil, map-append}
use Rattle.sng_grants.specs.Limits.{Limits}
use Rattle.sng_wills.specs.declared.will.Will.{Will}
use Rattle.sng_outbox.specs.declared.item.Item.TheVariants as item
use Rattle.sng_outbox.specs.declared.item.Publication.{Publication}
use Rattle.sng_outbox.specs.declared.origin.Origin.TheVariants as origin
use Rattle.sng_queue.specs.Messages.{Message}
use Rattle.sng_book.specs.Denials.{is_allowed}
use Rattle.sng_book.specs.declared.decision.Decision.{Decision}
use Rattle.sng_book.specs.declared.decision.Decision.TheVariants as note
use Rattle.sng_book.specs.declared.decision.Who.{Who}
use Rattle.sng_book.specs.declared.decision.Who.TheVariants as who
use Rattle.sng_book.specs.declared.outcome.Outcome.{Outcome}
use Rattle.sng_book.specs.declared.outcome.Outcome.TheVariants.{Allowed, Denied}
use Rattle.sng_book.specs.declared.out.Out.{Out}
use Rattle.sng_book.specs.declared.out.Out.TheVariants.{Send, Wire, Note}
use Rattle.sng_book.specs.declared.row.Row.{Row}
use Rattle.sng_history.specs.Clients.{Client}
use Rattle.sng_history.specs.Links.{Link}
use Rattle.sng_history.specs.Losing.{unplaced, will_dropped, lost_notes}
use Rattle.sng_history.specs.Notes.{notes_of, is_of, is_client}
use Rattle.sng_history.specs.Outgoing.{all_gone}
use Rattle.sng_history.specs.Room.{room_in}
use Rattle.sng_history.specs.Ticking.{will_of, with_item, placed, all_placed}
use Rattle.sng_laws.specs.ViewsClients.{speaks_of}
use Rattle.sng_laws.specs.ViewsLink.{published_for, is_will_denied, finds_no_place, testament_by}
use Rattle.sng_laws.specs.ViewsWills as views
use Rattle.sng_history.proofs.Own.{same_self}

-- ---- the link, as wills are placed

-- of these publishes those that find a place, one after another
abbrev pub laid : (limits : Limits) → Link → List Publication → List Publication
laid limits link [] = []
laid limits link (p ∷ ps) = (if is_allowed (room_in limits link p.qos) then p ∷ [] else [])
    ++ laid limits (placed limits link p) ps

placed_waits : (link : Link) (p : Publication) (b : Bool)
    → (let after : Link = if b then with_item link (item.Publish p) else link in after).waiting
    ≡ link.waiting ++ map item.Publish (if b then p ∷ [] else [])
placed_waits link p true = refl
placed_waits link p false = sym (append-nil link.waiting)

pub all_wait : (limits : Limits) (link : Link) (ps : List Publication)
    → (all_placed limits link ps).waiting ≡ link.waiting ++ map item.Publish (laid limits link ps)
all_wait limits link [] = sym (append-nil link.waiting)
all_wait limits link (p ∷ ps) =
    let first = if is_allowed (room_in limits link p.qos) then p ∷ [] else [] in
    let rest = laid limits (placed limits link p) ps in
    all_wait limits (placed limits link p) ps
    ∙ (ap (λ items. items ++ map item.Publish rest) (placed_waits link p (is_allowed (room_in limits link p.qos)))
    ∙ (append_assoc link.waiting (map item.Publish first) (map item.Publish rest)
    ∙ ap (λ items. link.waiting ++ items) (sym (map-append item.Publish first rest))))

-- nothing else of it moves
pub record Alongside (link after : Link) : Type 0 where
  pub in_flight : after.in_flight ≡ link.in_flight
  pub last : after.last ≡ link.last
  pub wanted : after.wanted ≡ link.wanted
  pub pinged : after.pinged ≡ link.pinged

placed_alongside : (link : Link) (p : Publication) (b : Bool)
    → Alongside link (if b then with_item link (item.Publish p) else link)
placed_alongside link p true = record { in_flight = refl; last = refl; wanted = refl; pinged = refl }
placed_alongside link p false = record { in_flight = refl; last = refl; wanted = refl; pinged = refl }

pub all_alongside : (limits : Limits) (link : Link) (ps : List Publication)
    → Alongside link (all_placed limits link ps)
all_alongside limits link [] = record { in_flight = refl; last = refl; wanted = refl; pinged = refl }
all_alongside limits link (p ∷ ps) =
    let one = placed_alongside link p (is_allowed (room_in limits link p.qos)) in
    let more = all_alongside limits (placed limits link p) ps in
    record {
      in_flight = more.in_flight ∙ one.in_flight;
      last = more.last ∙ one.last;
      wanted = more.wanted ∙ one.wanted;
      pinged = more.pinged ∙ one.pinged;
    }

pub laid_append : (limits : Limits) (link : Link) (ps qs : List Publication)
    → laid limits link (ps ++ qs) ≡ laid limits link ps ++ laid limits (all_placed limits link ps) qs
laid_append limits link [] qs = refl
laid_append limits link (p ∷ ps) qs =
    let first = if is_allowed (room_in limits link p.qos) then p ∷ [] else [] in
    ap (λ more. first ++ more) (laid_append limits (placed limits link p) ps qs)
    ∙ sym (append_assoc first (laid limits (placed limits link p) ps)
    (laid limits (all_placed limits (placed limits link p) ps) qs))

-- ---- what the row says of one will

-- of a client's notes, one says that its will found no place
abbrev denies : List ℕ → List Decision → Bool
denies id [] = false
denies id (said ∷ notes) = is_will_denied id said || denies id notes

client_same : (id : List ℕ) (whom : Who) → is_client id whom ≡ speaks_of id whom
client_same id (who.Client client) = refl
client_same id (who.Source source) = refl
client_same id (who.Address address) = refl
client_same id who.Broker = refl

other_denies : (id : List ℕ) (said : Decision) → is_of id said ≡ false → is_will_denied id said ≡ false
other_denies id (note.Will whom name outcome) other = rw (sym (client_same id whom) ∙ other) refl
other_denies id _ other = refl

note_denies : (id : List ℕ) (said : Decision) (notes : List Decision) (b : Bool) → is_of id said ≡ b
    → (is_will_denied id said || denies id notes) ≡ denies id ((if b then said ∷ [] else []) ++ notes)
note_denies id said notes true own = refl
note_denies id said notes false other = rw (other_denies id said other) refl

outs_deny : (id : List ℕ) (outs : List Out) → finds_no_place id outs ≡ denies id (notes_of id outs)
outs_deny id [] = refl
outs_deny id (Note said ∷ outs) =
    ap (λ b. is_will_denied id said || b) (outs_deny id outs)
    ∙ note_denies id said (notes_of id outs) (is_of id said) refl
outs_deny id (Send to datagram ∷ outs) = outs_deny id outs
outs_deny id (Wire packet ∷ outs) = outs_deny id outs

gone_denies : (id client : List ℕ) (waiting : List Message) (more : List Decision)
    → denies id (all_gone client waiting ++ more) ≡ denies id more
gone_denies id client [] more = refl
gone_denies id client (m ∷ waiting) more = gone_denies id client waiting more

abbrev is_left_out : (limits : Limits) → Link → List Publication → Bool
is_left_out limits link [] = false
is_left_out limits link (p ∷ ps) = not (is_allowed (room_in limits link p.qos))

one_denies : (id : List ℕ) (p : Publication) (o : Outcome) → denies id (unplaced id p o) ≡ not (is_allowed o)
one_denies id p Allowed = refl
one_denies id p (Denied rule) = rw (same_self id) refl

dropped_denies : (limits : Limits) (link : Link) (id : List ℕ) (ps : List Publication)
    → denies id (will_dropped limits link id ps) ≡ is_left_out limits link ps
dropped_denies limits link id [] = refl
dropped_denies limits link id (p ∷ ps) = one_denies id p (room_in limits link p.qos)

lost_denies : (limits : Limits) (link : Link) (x : Client)
    → denies x.id (lost_notes limits link x) ≡ is_left_out limits link (will_of x.id x.wills.will)
lost_denies limits link x =
    gone_denies x.id x.id x.buffer.waiting (will_dropped limits link x.id (will_of x.id x.wills.will))
    ∙ dropped_denies limits link x.id (will_of x.id x.wills.will)

-- what waits of its will
laid_if : (p : Publication) (b : Bool) → (if not b then [] else p ∷ []) ≡ (if b then p ∷ [] else []) ++ []
laid_if p true = refl
laid_if p false = refl

will_laid : (limits : Limits) (link : Link) (id : List ℕ) (will : Option Will)
    → (if is_left_out limits link (will_of id will) then [] else published_for id will)
    ≡ laid limits link (will_of id will)
will_laid limits link id None = refl
will_laid limits link id (Some will) =
    let p : Publication =
    record {
      origin = origin.Client id;
      name = will.topic;
      payload = will.payload;
      qos = will.qos;
      retain = will.retain;
    } in
    laid_if p (is_allowed (room_in limits link p.qos))

pub lost_laid : (limits : Limits) (h : List Row) (all : List Out) (link : Link) (x : Client)
    → notes_of x.id all ≡ lost_notes limits link x
    → x.wills.will ≡ views.will_of x.id h
    → testament_by h all (note.Lost x.id) ≡ laid limits link (will_of x.id x.wills.will)
lost_laid limits h all link x own shown =
    rw (outs_deny x.id all ∙ (ap (denies x.id) own ∙ lost_denies limits link x), sym shown)
    (will_laid limits link x.id x.wills.will)
