-- What a tick leaves of the link: what holds of it, and still holds once a publish waits for which there is
-- room, or a PINGREQ, holds of it after the tick.
use Rattle.std.proofs.Common.{◌≡◌, ℕ, Bool, true, false, List, [], ◌∷◌, refl}
use Rattle.std.specs.Prelude.{if◌then◌else◌, ◌&&◌}
use Rattle.sng_grants.specs.Limits.{Limits}
use Rattle.sng_outbox.specs.declared.item.Item.TheVariants as item
use Rattle.sng_outbox.specs.declared.item.Publication.{Publication}
use Rattle.sng_book.specs.Denials.{is_allowed}
use Rattle.sng_book.specs.declared.outcome.Outcome.{Outcome}
use Rattle.sng_book.specs.declared.outcome.Outcome.TheVariants.{Allowed, Denied}
use Rattle.sng_history.specs.Clients.{Client}
use Rattle.sng_history.specs.Links.{Link}
use Rattle.sng_history.specs.Packets.{has_place}
use Rattle.sng_history.specs.Room.{room_in}
use Rattle.sng_history.specs.Ticking.{testaments, with_item, placed, all_placed, with_wills, is_ping_due}
use Rattle.sng_history.specs.Ticking.{pinged, ticked}

-- it holds still once something more waits
pub record Growing (limits : Limits) (R : Link → Type 0) : Type 0 where
  pub publish : (link : Link) (p : Publication) → room_in limits link p.qos ≡ Allowed → R link
      → R (with_item link (item.Publish p))
  pub ping : (link : Link) (clock : ℕ) → R link → R (record (with_item link item.Ping) { pinged = clock })

placed_by : (limits : Limits) (R : Link → Type 0) → Growing limits R → (link : Link) (p : Publication) (o : Outcome)
    → room_in limits link p.qos ≡ o → R link
    → R (if is_allowed o then with_item link (item.Publish p) else link)
placed_by limits R g link p Allowed is r = g.publish link p is r
placed_by limits R g link p (Denied rule) is r = r

pub placed_holds : (limits : Limits) (R : Link → Type 0) → Growing limits R → (link : Link)
    (ps : List Publication) → R link → R (all_placed limits link ps)
placed_holds limits R g link [] r = r
placed_holds limits R g link (p ∷ ps) r =
    placed_holds limits R g (placed limits link p) ps
    (placed_by limits R g link p (room_in limits link p.qos) refl r)

pub pinged_holds : (limits : Limits) (R : Link → Type 0) → Growing limits R → (up : Bool) (link : Link)
    (clock : ℕ) → R link → R (pinged limits up link clock)
pinged_holds limits R g up link clock r =
    by_due (is_ping_due up link clock && has_place limits link) link clock r
  where
    by_due : (b : Bool) (link : Link) (clock : ℕ) → R link
        → R (if b then record (with_item link item.Ping) { pinged = clock } else link)
    by_due true link clock r = g.ping link clock r
    by_due false link clock r = r

pub ticked_holds : (limits : Limits) (R : Link → Type 0) → Growing limits R → (up : Bool) (link : Link)
    (clock : ℕ) (xs : List Client) → R link → R (ticked limits up link clock xs)
ticked_holds limits R g up link clock xs r =
    pinged_holds limits R g up (with_wills limits link clock xs) clock
    (placed_holds limits R g link (testaments clock xs) r)
