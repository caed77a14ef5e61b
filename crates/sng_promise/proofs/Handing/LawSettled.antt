-- Messages for a client are settled in the order in which they were due, and none before it was due.
use Rattle.std.proofs.Common.{◌≡◌, ℕ, ◌≤◌, Bool, true, false, List, [], ◌∷◌, length, refl, ap, sym, ◌∙◌}
use Rattle.std.proofs.Common.{subst, rules, arith, length-append, if◌then◌else◌}
use Rattle.std.specs.Prelude.{◌||◌, filter, Option, Some, None}
use Rattle.std.specs.Option.{option_to_list}
use Rattle.std.specs.Str.{bytes_eq}
use Rattle.mqtt_frames.specs.declared.packet.Publish.{Publish}
use Rattle.sng_queue.specs.Messages.{Message}
use Rattle.sng_book.specs.Denials.{is_allowed}
use Rattle.sng_book.specs.declared.outcome.Outcome.{Outcome}
use Rattle.sng_book.specs.declared.row.Row.{Row}
use Rattle.sng_history.specs.Clients.{Client}
use Rattle.sng_history.specs.State.{opening, state_of}
use Rattle.sng_history.specs.Lawful.{Lawful}
use Rattle.sng_history.specs.Good.{Each}
use Rattle.sng_laws.specs.ViewsClients.{is_among, accepted, names_told}
use Rattle.sng_laws.specs.ViewsHanding.{Announced, brought_in, meant_for, meant_in, is_turned_back, due_in}
use Rattle.sng_laws.specs.ViewsHanding.{due_of, settled_of, progress_of}
use Rattle.sng_laws.specs.LawsHanding.{SettledInOrder, sent_of, handed_of, HandedOnce, IsFront}
use Rattle.sng_laws.specs.LawsHanding.{FrontAnnounced}
use Rattle.sng_history.proofs.Own.{same_means, each_map}
use Rattle.sng_promise.proofs.Handing.SeenFollows.{Settling, IsFor}
use Rattle.sng_promise.proofs.Handing.SeenViewNotes.{settled_count}
use Rattle.sng_promise.proofs.Handing.SeenMailed.{Mailed, mailed_waits}
use Rattle.sng_promise.proofs.Clients.SeenStrangers.{Unheard}
use Rattle.sng_history.proofs.ClientIds.{ids_of}
use Rattle.sng_promise.proofs.Clients.SeenState.{stands}

-- what holds of each client holds of each id that was accepted
among_by : (P : List ℕ → Type 0) (id one : List ℕ) (b later : Bool) → bytes_eq id one ≡ b → P one
    → (b || later) ≡ true
    → (later ≡ true → P id) → P id
among_by P id one true later is here among rest =
    let same : id ≡ one = same_means id one is in subst P (sym same) here
among_by P id one false later is here among rest = rest among

pub of_accepted : (P : List ℕ → Type 0) (xs : List Client) (id : List ℕ) → Each (λ x. P x.id) xs
    → is_among id (ids_of xs) ≡ true → P id
of_accepted P [] id each among = absurd cc
of_accepted P (x ∷ xs) id each among =
    among_by P id x.id (bytes_eq id x.id) (is_among id (ids_of xs)) refl each.0 among
    (of_accepted P xs id each.1)

-- what holds of each client, and of who was never accepted, holds of all
of_all : (P : List ℕ → Type 0) (h : List Row) → Lawful opening h
    → Each (λ x. P x.id) (state_of opening h).clients
    → ((id : List ℕ) → Unheard id h → P id) → (id : List ℕ) → P id
of_all P h l each none id = by_accepted (is_among id (accepted h)) refl
  where
    by_accepted : (b : Bool) → is_among id (accepted h) ≡ b → P id
    by_accepted true is =
        of_accepted P (state_of opening h).clients id each (ap (is_among id) (stands h l).shown.order ∙ is)
    by_accepted false is = none id ((stands h l).shown.unheard id is)

-- ---- in order

settled_so : (id : List ℕ) (h : List Row) (waiting : List Message)
    → Settling (due_of id h) (progress_of id h).settled (settled_of id h) waiting → SettledInOrder h id
settled_so id h waiting s =
    let t : Settling (due_of id h) (length (settled_of id h)) (settled_of id h) waiting =
    subst (λ n. Settling (due_of id h) n (settled_of id h) waiting) (settled_count id h) s in
    record { few = t.few; names = t.names }

none_settled : (id : List ℕ) (h : List Row) → Unheard id h → SettledInOrder h id
none_settled id h unheard =
    settled_so id h []
    (subst (λ due. Settling due (progress_of id h).settled (settled_of id h) []) (sym unheard.due)
    (subst (λ v. Settling [] v.progress.settled v.settled []) (sym unheard.view)
    (record { waits = refl; few = search rules; names = refl })))

pub settled_in_order : (h : List Row) → Lawful opening h → (id : List ℕ) → SettledInOrder h id
settled_in_order h l =
    of_all (SettledInOrder h) h l
    (each_map (Mailed h) (λ x. SettledInOrder h x.id) (state_of opening h).clients
    (λ x mailed. settled_so x.id h x.buffer.waiting mailed.settling) (stands h l).shown.mailed)
    (λ id unheard. none_settled id h unheard)

-- ---- what is announced is for the front

front_so : (h : List Row) (x : Client) → Mailed h x → FrontAnnounced h x.id
front_so h x mailed name is =
    subst (IsFront name) (mailed_waits h x mailed)
    (subst (λ o. IsFor o (names_told x.id h) x.buffer.waiting) is mailed.front).1

none_announced : (h : List Row) (id : List ℕ) → Unheard id h → FrontAnnounced h id
none_announced h id unheard name is =
    absurd (let e : None ≡ Some (Announced name) = sym (ap (λ v. v.progress.unanswered) unheard.view) ∙ is in
    cc)

pub front_announced : (h : List Row) → Lawful opening h → (id : List ℕ) → FrontAnnounced h id
front_announced h l =
    of_all (FrontAnnounced h) h l
    (each_map (Mailed h) (λ x. FrontAnnounced h x.id) (state_of opening h).clients
    (λ x mailed. front_so h x mailed)
    (stands h l).shown.mailed)
    (λ id unheard. none_announced h id unheard)

-- ---- each once

option_most : (o : Option Message) → length (option_to_list o) ≤ 1
option_most None = search rules
option_most (Some m) = search rules

meant_most : (id : List ℕ) (brought : Option Publish) (h : List Row)
    → length (meant_in id brought h) ≤ length (option_to_list brought)
meant_most id None h = search rules
meant_most id (Some p) h = option_most (meant_for id p h)

due_if : (b : Bool) (meant : List Message) (n : ℕ) → length meant ≤ n
    → length (let due : List Message = if b then [] else meant in due) ≤ n
due_if true meant n most = omega arith
due_if false meant n most = most

due_most : (id : List ℕ) (h : List Row) → length (due_of id h) ≤ length (sent_of h)
due_most id [] = search rules
due_most id (row ∷ h) =
    let one : length (due_in id row h) ≤ length (option_to_list (brought_in row.event)) =
    due_if (is_turned_back id row.outs) (meant_in id (brought_in row.event) h)
    (length (option_to_list (brought_in row.event)))
    (meant_most id (brought_in row.event) h) in
    let rest : length (due_of id h) ≤ length (sent_of h) = due_most id h in
    omega (
      arith,
      one,
      rest,
      length-append (due_of id h) (due_in id row h),
      length-append (sent_of h)
          (option_to_list (brought_in row.event)),
    )

some_most : (hands : List (List ℕ × Outcome))
    → length (filter (λ hand. is_allowed hand.1) hands) ≤ length hands
some_most [] = search rules
some_most (hand ∷ hands) = by_first (is_allowed hand.1) (some_most hands)
  where
    by_first : (b : Bool) → length (filter (λ one. is_allowed one.1) hands) ≤ length hands
        → length (let kept : List (List ℕ × Outcome) = if b then hand ∷ filter (λ one. is_allowed one.1) hands
        else filter (λ one. is_allowed one.1) hands in kept) ≤ length (hand ∷ hands)
    by_first true most = omega (arith, most)
    by_first false most = omega (arith, most)

pub handed_once : (h : List Row) → Lawful opening h → (id : List ℕ) → HandedOnce h id
handed_once h l id =
    let settled : length (settled_of id h) ≤ length (due_of id h) = (settled_in_order h l id).few in
    let due : length (due_of id h) ≤ length (sent_of h) = due_most id h in
    let handed : length (handed_of id h) ≤ length (settled_of id h) = some_most (settled_of id h) in
    omega (arith, settled, due, handed)
