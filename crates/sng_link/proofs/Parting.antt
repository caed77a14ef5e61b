-- How publishes in flight are parted into those that stay and the others.
use Rattle.std.proofs.Common.{◌≡◌, ℕ, zero, suc, ◌+◌, ◌≤◌, Bool, true, false, ◌==◌, List, [], ◌∷◌, ◌++◌, length}
use Rattle.std.proofs.Common.{map, drop, refl, sym, ◌∙◌, ap, arith}
use Rattle.std.specs.Prelude.{Some, slice_get}
use Rattle.std.proofs.lemmas.Bool.{eq-eqb}
use Rattle.std.proofs.lemmas.List.{append_assoc, append-nil}
use Rattle.sng_outbox.specs.PacketIds.{is_id, is_used}
use Rattle.sng_grants.specs.declared.policy.Policy.{Policy}
use Rattle.sng_outbox.specs.Sending.{without_first}
use Rattle.sng_outbox.specs.declared.in_flight.InFlight.{InFlight}
use Rattle.sng_book.specs.Denials.{is_allowed}
use Rattle.sng_book.specs.declared.outcome.Outcome.{Outcome}
use Rattle.sng_book.specs.declared.outcome.Outcome.TheVariants.{Allowed, Denied}
use Rattle.sng_book.specs.declared.out.Out.{Out}
use Rattle.sng_history.specs.Links.{still_in_flight}
use Rattle.sng_history.specs.Exits.{agains_of, resending, sent_again}
use Rattle.sng_history.specs.Verdicts.{exit}
use Rattle.sng_link.specs.Flights.{ids_of, AreDistinct}
use Rattle.sng_link.specs.Resending.{staying, denied_id, denied_ids, denied_step, denied_steps, without_all}
use Rattle.sng_link.specs.declared.step.Step.{Step}
use Rattle.sng_link.proofs.Marks.{neither, differs_back}

-- those that are allowed stay
pub staying_allowed : (flights : List InFlight) (outcomes : List Outcome)
    → staying flights (map is_allowed outcomes) ≡ still_in_flight flights outcomes
staying_allowed [] outcomes = refl
staying_allowed (sent ∷ flights) [] = refl
staying_allowed (sent ∷ flights) (Allowed ∷ outcomes) = ap (λ l. sent ∷ l) (staying_allowed flights outcomes)
staying_allowed (sent ∷ flights) (Denied denial ∷ outcomes) = staying_allowed flights outcomes

-- the list apart at a place
pub drop_at : (flights : List InFlight) (place : ℕ) (sent : InFlight) → slice_get flights place ≡ Some sent
    → drop place flights ≡ sent ∷ drop (suc place) flights
drop_at [] place sent is = absurd (cc)
drop_at (first ∷ flights) zero sent is = cc
drop_at (first ∷ flights) (suc place) sent is = drop_at flights place sent is

-- of the publishes in flight those up to a place were judged
pub record Judged (policy : Policy) (flights : List InFlight) (place : ℕ) (outs_before outs : List Out)
    (denied : List ℕ) (log : List Step) : Type 0 where
  pub outs_left : outs ++ resending (drop place flights) (agains_of policy (drop place flights))
      ≡ outs_before ++ resending flights (agains_of policy flights)
  pub denied_left : denied ++ denied_ids (drop place flights)
      (map is_allowed (agains_of policy (drop place flights)))
      ≡ denied_ids flights (map is_allowed (agains_of policy flights))
  pub log_left : log ++ denied_steps (drop place flights)
      (map is_allowed (agains_of policy (drop place flights)))
      ≡ denied_steps flights (map is_allowed (agains_of policy flights))

pub judged_more : (policy : Policy) (flights : List InFlight) (place : ℕ)
    (outs_before outs outs_then : List Out) (denied denied_then : List ℕ) (log log_then : List Step)
    (sent : InFlight) (stay : Bool)
    → Judged policy flights place outs_before outs denied log → slice_get flights place ≡ Some sent
    → outs_then ≡ outs ++ sent_again sent (exit policy sent.publication.origin sent.publication.name)
    → stay ≡ is_allowed (exit policy sent.publication.origin sent.publication.name)
    → denied_then ≡ denied ++ denied_id sent.packet_id stay
    → log_then ≡ log ++ denied_step sent.packet_id stay
    → Judged policy flights (place + 1) outs_before outs_then denied_then log_then
judged_more policy flights place outs_before outs outs_then denied denied_then log log_then sent stay before is
    outs_are stay_is denied_are log_is =
    let o = exit policy sent.publication.origin sent.publication.name in
    let next : place + 1 ≡ suc place = omega arith in
    let rest = drop (suc place) flights in
    let here = drop_at flights place sent is in
    let outs_left = rw here at before.outs_left in
    let denied_left = rw here at before.denied_left in
    let log_left = rw here at before.log_left in
    record {
      outs_left =
          rw (next, outs_are) (append_assoc outs (sent_again sent o) (resending rest (agains_of policy rest))
          ∙ outs_left);
      denied_left =
          rw (next, denied_are, stay_is)
          (append_assoc denied (denied_id sent.packet_id (is_allowed o))
          (denied_ids rest (map is_allowed (agains_of policy rest))) ∙ denied_left);
      log_left = rw (next, log_is, stay_is)
          (append_assoc log (denied_step sent.packet_id (is_allowed o))
          (denied_steps rest (map is_allowed (agains_of policy rest))) ∙ log_left);
    }

past_all : (flights : List InFlight) (place : ℕ) → length flights ≤ place → drop place flights ≡ []
past_all [] zero all = refl
past_all [] (suc place) all = refl
past_all (sent ∷ flights) zero all = absurd (omega arith)
past_all (sent ∷ flights) (suc place) all = past_all flights place (omega arith)

pub judged_outs : (policy : Policy) (flights : List InFlight) (place : ℕ) (outs_before outs : List Out)
    (denied : List ℕ) (log : List Step) → length flights ≤ place
    → Judged policy flights place outs_before outs denied log
    → outs ≡ outs_before ++ resending flights (agains_of policy flights)
judged_outs policy flights place outs_before outs denied log all judged =
    sym (append-nil outs) ∙ (rw (past_all flights place all) at judged.outs_left)

pub judged_denied : (policy : Policy) (flights : List InFlight) (place : ℕ) (outs_before outs : List Out)
    (denied : List ℕ) (log : List Step) → length flights ≤ place
    → Judged policy flights place outs_before outs denied log
    → denied ≡ denied_ids flights (map is_allowed (agains_of policy flights))
judged_denied policy flights place outs_before outs denied log all judged =
    sym (append-nil denied) ∙ (rw (past_all flights place all) at judged.denied_left)

pub judged_log : (policy : Policy) (flights : List InFlight) (place : ℕ) (outs_before outs : List Out)
    (denied : List ℕ) (log : List Step) → length flights ≤ place
    → Judged policy flights place outs_before outs denied log
    → log ≡ denied_steps flights (map is_allowed (agains_of policy flights))
judged_log policy flights place outs_before outs denied log all judged =
    sym (append-nil log) ∙ (rw (past_all flights place all) at judged.log_left)

-- ---- those that are denied leave by their packet ids

-- one whose packet id is none of these stays
without_kept : (sent : InFlight) (flights : List InFlight) (ids : List ℕ)
    → is_used ids sent.packet_id ≡ false
    → without_all (sent ∷ flights) ids ≡ sent ∷ without_all flights ids
without_kept sent flights [] none = refl
without_kept sent flights (id ∷ ids) none =
    let both = neither (is_id sent.packet_id id) (is_used ids sent.packet_id) none in
    let unlike : (sent.packet_id == id) ≡ false = differs_back id sent.packet_id both.0 in
    rw unlike (without_kept sent (without_first flights id) ids both.1)

denied_away : (flights : List InFlight) (stays : List Bool) (id : ℕ) → is_used (ids_of flights) id ≡ false
    → is_used (denied_ids flights stays) id ≡ false
denied_away [] stays id none = refl
denied_away (sent ∷ flights) [] id none = refl
denied_away (sent ∷ flights) (true ∷ stays) id none =
    denied_away flights stays id (neither (is_id id sent.packet_id) (is_used (ids_of flights) id) none).1
denied_away (sent ∷ flights) (false ∷ stays) id none =
    let both = neither (is_id id sent.packet_id) (is_used (ids_of flights) id) none in
    rw both.0 (denied_away flights stays id both.1)

same_id : (sent : InFlight) → (sent.packet_id == sent.packet_id) ≡ true
same_id sent = eq-eqb sent.packet_id sent.packet_id refl

pub denied_leave : (flights : List InFlight) (stays : List Bool) → AreDistinct (ids_of flights)
    → without_all flights (denied_ids flights stays) ≡ staying flights stays
denied_leave [] stays distinct = refl
denied_leave (sent ∷ flights) [] distinct = refl
denied_leave (sent ∷ flights) (true ∷ stays) distinct =
    without_kept sent flights (denied_ids flights stays)
    (denied_away flights stays sent.packet_id distinct.0)
    ∙ ap (λ l. sent ∷ l) (denied_leave flights stays distinct.1)
denied_leave (sent ∷ flights) (false ∷ stays) distinct =
    rw (same_id sent) (denied_leave flights stays distinct.1)

-- so those that are allowed stay in flight
pub still_allowed : (policy : Policy) (flights now : List InFlight) (denied : List ℕ)
    → AreDistinct (ids_of flights)
    → denied ≡ denied_ids flights (map is_allowed (agains_of policy flights)) → now ≡ without_all flights denied
    → now ≡ still_in_flight flights (agains_of policy flights)
still_allowed policy flights now denied distinct denied_are now_is =
    now_is ∙ ap (λ ids. without_all flights ids) denied_are
    ∙ denied_leave flights (map is_allowed (agains_of policy flights)) distinct
    ∙ staying_allowed flights (agains_of policy flights)
