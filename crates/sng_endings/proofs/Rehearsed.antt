-- Endings that are tried on who holds what leave the room that they leave as they are carried out.
use Rattle.std.proofs.Common.{◌≡◌, ℕ, zero, suc, ◌-◌, ◌≤◌, ◌==◌, Bool, true, false, List, [], ◌∷◌}
use Rattle.std.proofs.Common.{length, None, refl, sym, ap, ap₂, subst, ◌∙◌, arith, if◌then◌else◌}
use Rattle.std.proofs.Common.{length-append, inl, inr}
use Rattle.std.proofs.lemmas.Bool.{eqb-true, cases_lt, ltb-false}
use Rattle.std.proofs.lemmas.List.Sums.{sum_by-append}
use Rattle.sng_outbox.specs.Sending.{asks_for_ack}
use Rattle.sng_outbox.specs.declared.item.Item.{Item}
use Rattle.sng_outbox.specs.declared.item.Item.TheVariants as item
use Rattle.sng_grants.specs.Limits.{Limits}
use Rattle.sng_history.specs.Clients.{Client, without}
use Rattle.sng_history.specs.Links.{Link}
use Rattle.sng_history.specs.Packets.{has_place}
use Rattle.sng_history.specs.Standing.{is_held}
use Rattle.sng_sessions.specs.Kept.{SaysHeld, Keeps}
use Rattle.sng_sessions.specs.Moving.{moved_at}
use Rattle.sng_sessions.specs.Standing.{client_at}
use Rattle.sng_sessions.proofs.KeptLemmas.{keeps-moved, says-without, others-moved}
use Rattle.sng_sessions.proofs.HoldersLemmas.{held-by}
use Rattle.sng_sessions.proofs.HoldingsMade.{nobody_behind}
use Rattle.sng_standing.specs.declared.node.Node.{Node}
use Rattle.sng_standing.specs.Standing.{IsHeldBy, MovesAt}
use Rattle.sng_standing.specs.Tree.{qos_at}
use Rattle.sng_link.specs.Rooms.{room_of}
use Rattle.sng_link.specs.declared.room.Room.{Room}
use Rattle.sng_endings.specs.Replacing.{Moved, moved, let_go, ended_clients, ended_next, all_next}
use Rattle.sng_endings.specs.Replacing.{room_left}
use Rattle.sng_endings.specs.declared.replacing.SubscriptionEnd.{SubscriptionEnd}

-- ---- who holds what

past_same : (f : Client → Client) (xs : List Client) (place : ℕ) → length xs ≤ place → moved_at place f xs ≡ xs
past_same f [] place past = refl
past_same f (x ∷ xs) zero past = absurd (omega (arith, past))
past_same f (x ∷ xs) (suc place) past = ap (λ (ys : List Client). x ∷ ys) (past_same f xs place (omega (arith, past)))

past_by : (before after : Node) (xs : List Client) (text : List ℕ) (place n : ℕ) (here : Bool)
    → (place == n) ≡ here → length xs ≤ place → Keeps before xs → MovesAt before after place text None
    → SaysHeld after n (client_at xs n).filters
past_by before after xs text place n true is past keeps moves =
    let at : place ≡ n = eqb-true place n is in
    let none : (client_at xs place).filters ≡ [] =
    ap (λ (x : Client). x.filters) (nobody_behind xs place past) in
    let was : SaysHeld before place [] = subst (SaysHeld before place) none (keeps place) in
    let now : SaysHeld after place [] = says-without before after place [] text moves was in
    subst (λ (m : ℕ). SaysHeld after m (client_at xs m).filters) at (subst (SaysHeld after place) (sym none) now)
past_by before after xs text place n false is past keeps moves =
    (λ other. others-moved before after place text None moves n other is ∙ (keeps n).0 other, (keeps n).1)

keeps_ended : (before after : Node) (xs : List Client) (e : SubscriptionEnd) → Keeps before xs
    → MovesAt before after e.place e.filter None → Keeps after (ended_clients xs e)
keeps_ended before after xs e keeps moves =
    elim (cases_lt e.place (length xs)) [
      | inl within ↦ keeps-moved before after (without e.filter) xs e.place within
          (says-without before after e.place (client_at xs e.place).filters e.filter moves (keeps e.place))
          (others-moved before after e.place e.filter None moves) keeps
      | inr past ↦ subst (Keeps after) (sym (past_same (without e.filter) xs e.place past))
          (λ n. past_by before after xs e.filter e.place n (e.place == n) refl past keeps moves)
    ]

-- ---- the room

abbrev room_made : ℕ → ℕ → Room
room_made places flights = record { places = places; flights = flights }

let_go_by : (limits : Limits) (link : Link) (text : List ℕ) (place : Bool) → has_place limits link ≡ place
    → room_of limits (let_go limits link text)
    ≡ record (room_of limits link) { places = (room_of limits link).places - 1 }
let_go_by limits link text true is =
    let size = length-append link.waiting (item.Unsubscribe text ∷ []) in
    let more = sum_by-append (λ (i : Item). if asks_for_ack i then 1 else 0) link.waiting (item.Unsubscribe text ∷ []) in
    rw is (ap₂ room_made (omega (arith, size)) (omega (arith, more)))
let_go_by limits link text false is =
    let full : limits.waiting ≤ length link.waiting = ltb-false (length link.waiting) limits.waiting is in
    rw is (ap₂ room_made (omega (arith, full)) refl)

room_ended : (limits : Limits) (link : Link) (text : List ℕ) (held : Bool)
    → room_of limits (if held then link else let_go limits link text) ≡ room_left held (room_of limits link)
room_ended limits link text true = refl
room_ended limits link text false = let_go_by limits link text (has_place limits link) refl

-- ---- one ending after another

-- so far the endings are tried: who holds what, the room, and the endings that are left
pub record Rehearsed (limits : Limits) (link : Link) (xs : List Client) (endings : List SubscriptionEnd) (root : Node) (room : Room)
    (rest : List SubscriptionEnd) : Type 0 where
  pub state : Moved
  pub keeps : Keeps root state.clients
  pub room_is : room ≡ room_of limits state.link
  pub leads : all_next limits state rest ≡ all_next limits (moved link xs) endings

pub rehearsed_on : (limits : Limits) (link : Link) (xs : List Client) (endings rest : List SubscriptionEnd) (before after : Node)
    (room now : Room) (e : SubscriptionEnd) → Rehearsed limits link xs endings before room (e ∷ rest)
    → MovesAt before after e.place e.filter None
    → ((ys : List Client) → Keeps after ys → now ≡ room_left (is_held ys e.filter) room)
    → Rehearsed limits link xs endings after now rest
rehearsed_on limits link xs endings rest before after room now e so_far moves room_now =
    let m : Moved = so_far.state in
    let keeps = keeps_ended before after m.clients e so_far.keeps moves in
    let held = is_held (ended_clients m.clients e) e.filter in
    record {
      state = ended_next limits m e;
      keeps = keeps;
      room_is =
          room_now (ended_clients m.clients e) keeps
          ∙ ap (room_left held) so_far.room_is
          ∙ sym (room_ended limits m.link e.filter held);
      leads = so_far.leads;
    }

-- what is tried on who holds what comes out as it would on the clients
pub room_tried : (root : Node) (xs : List Client) (text : List ℕ) (held : Bool) (before now : Room) → Keeps root xs
    → IsHeldBy (λ n. qos_at root n text) held → now ≡ room_left held before
    → now ≡ room_left (is_held xs text) before
room_tried root xs text held before now keeps says is =
    is ∙ ap (λ (h : Bool). room_left h before) (held-by root xs text held keeps says)

-- all are tried
pub rehearsed_all : (limits : Limits) (link : Link) (xs : List Client) (endings rest : List SubscriptionEnd) (root : Node) (room : Room)
    → rest ≡ [] → Rehearsed limits link xs endings root room rest
    → room ≡ room_of limits (all_next limits (moved link xs) endings).link
rehearsed_all limits link xs endings rest root room none so_far =
    so_far.room_is
    ∙ ap (λ (m : Moved). room_of limits m.link)
    (ap (λ (more : List SubscriptionEnd). all_next limits so_far.state more) (sym none) ∙ so_far.leads)
