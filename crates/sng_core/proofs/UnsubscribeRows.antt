-- The row and the next state of an UNSUBSCRIBE, as code makes them.
use Rattle.std.proofs.Common.{◌≡◌, ℕ, Bool, true, false, List, [], ◌∷◌, ◌++◌, map}
use Rattle.std.proofs.Common.{length, refl, ap, sym, ◌∙◌, subst}
use Rattle.std.specs.Prelude.{if◌then◌else◌, slice_get, Option}
use Rattle.std.specs.Prelude.{Some, None}
use Rattle.std.specs.List.{flat_map}
use Rattle.std.proofs.Math.Seq.{take-nil}
use Rattle.std.proofs.lemmas.List.{append-nil}
use Rattle.sng_fan.specs.Subscriptions.{IsOneClients}
use Rattle.sng_frames.specs.declared.messages.subscribe.TopicRequest.{TopicRequest}
use Rattle.sng_book.specs.declared.address.Address.{Address}
use Rattle.sng_book.specs.declared.decision.Decision.TheVariants as note
use Rattle.sng_book.specs.declared.decision.Who.TheVariants as who
use Rattle.sng_book.specs.declared.out.Out.TheVariants.{Note}
use Rattle.sng_history.specs.Causes.{ToUnsubscribe, ByMessage}
use Rattle.sng_history.specs.Clients.{Client, is_here}
use Rattle.sng_history.specs.Links.{Link}
use Rattle.sng_history.specs.Packets.{has_place}
use Rattle.sng_history.specs.Standing.{Release, released}
use Rattle.sng_history.specs.Standing.{places_left, unsubscribes, dropped_of, still_wanted}
use Rattle.sng_history.specs.State.{State, around, joined}
use Rattle.sng_history.specs.Verdicts.{unsubscribe_ask}
use Rattle.sng_history.specs.Whole.{dropped_with, replied, stranger_to, any_from}
use Rattle.sng_history.specs.Steps.{client_next, clients_next, next_by}
use Rattle.sng_history.specs.Good.{AtRest, Good}
use Rattle.sng_history.proofs.SaysParts.{part_for, drops_for}
use Rattle.sng_history.proofs.Endless.{each_wanted, all_still}
use Rattle.sng_history.proofs.EndlessAsks.{asks_nothing}
use Rattle.sng_sessions.specs.Moving.{moved_at}
use Rattle.sng_core.specs.Forms.{place_at, client_at, heard_at}
use Rattle.sng_core.specs.Subscribing.{unsubscribe_judged}
use Rattle.sng_core.specs.Subscribing.{let_go, untold_of, unsubscribe_noted}
use Rattle.sng_core.specs.Subscribing.{unsubscribe_outs, ends_next, ended, ends_at}
use Rattle.sng_core.specs.declared.filters.JudgedFilter.{JudgedFilter}
use Rattle.sng_core.proofs.Found.{found_here, nobody_here, no_moves_at, one_outs_at, one_moves_at, moved_same}
use Rattle.sng_core.proofs.Found.{any_here, none_here, read_at, within, each_at}
use Rattle.sng_core.proofs.OneEnds.{same_released, one_released}
use Rattle.sng_core.proofs.Plain.{Busy, plain_next, plain_part, plain_moves, plain_row, all_busy}
use Rattle.sng_core.proofs.Rows.{Makes, makes}
use Rattle.sng_core.proofs.UnsubscribeEnds.{unsubscribe_said, unsubscribe_moves, ended_busy, quiet_off}
use Rattle.sng_core.proofs.UnsubscribeEnds.{same_off, release, judged_released, gone_few, take_by, drop_by}
use Rattle.sng_core.proofs.UnsubscribeHeld.{judged_noted, acked, judged_still}

abbrev link_then : State → List Client → Link
link_then s after = record s.link {
  waiting = s.link.waiting ++ ([] ++ unsubscribes s.policy.limits s.link (released s.clients after));
  wanted = joined (still_wanted after s.link.wanted) [];
}

abbrev state_then : State → List Client → State
state_then s after = record s { link = link_then s after; clients = after }

next_is : (s : State) (from : Address) (r : TopicRequest) (after : List Client)
    → clients_next s (ByMessage from (ToUnsubscribe r)) ≡ after
    → next_by s (ByMessage from (ToUnsubscribe r)) ≡ state_then s after
next_is s from r after is = rw (asks_nothing s from (ToUnsubscribe r) refl, is) refl

nobody_row : (s : State) (from : Address) (r : TopicRequest) → Good s → place_at from s.clients ≡ None
    → Makes s (ByMessage from (ToUnsubscribe r)) (stranger_to from (ToUnsubscribe r)) s
nobody_row s from r good at =
    let c = ByMessage from (ToUnsubscribe r) in
    let none = nobody_here from s.clients at in
    let any : any_from c s.clients ≡ false = none_here c from s.clients (λ y. refl) none in
    let after : clients_next s c ≡ s.clients =
    ap (map (client_next s c)) (append-nil s.clients)
    ∙ no_moves_at from (client_next s c) s.clients (same_off s from r)
    (all_busy s.clients good.rest) none in
    let still : still_wanted s.clients s.link.wanted ≡ s.link.wanted =
    all_still s.clients s.link.wanted s.link.wanted (λ other there. sym (good.wanted_held other) ∙ there)
    (each_wanted s.link.wanted) in
    makes s c (stranger_to from (ToUnsubscribe r)) s good
    (sym (ap (λ b. if b then flat_map (part_for s c (drops_for s c)) s.clients
    else stranger_to from (ToUnsubscribe r)) any))
    (sym (next_is s from r s.clients after
    ∙ (rw (
      same_released [] s.clients,
      take-nil (places_left s.policy.limits s.link),
      append-nil s.link.waiting,
      still,
    ) refl)))

-- what is let out for the client
part_is : (s : State) (from : Address) (r : TopicRequest) (i : ℕ) (x : Client) (j : JudgedFilter)
    (place : Bool) → x ≡ client_at s.clients i → has_place s.policy.limits s.link ≡ place
    → is_here x from ≡ true
    → unsubscribe_ask s.policy x r ≡ note.Unsubscribe (who.Client x.id) j.filter j.outcome
    → unsubscribe_noted s r i j ≡ plain_part s (ByMessage from (ToUnsubscribe r))
    (if place then [] else map (release x) (let_go s.clients i j.filter j.outcome)) x
part_is s from r i x j place at is here said =
    let a = around s (ByMessage from (ToUnsubscribe r)) in
    let y = heard_at s.clock x in
    let gone = let_go s.clients i j.filter j.outcome in
    let dropped : List Release = if place then [] else map (release x) gone in
    rw (here, said, ← at, is) (ap
    (λ outs. Note (note.Unsubscribe (who.Client x.id) j.filter j.outcome) ∷ outs)
    (sym (append-nil (dropped_with dropped x.id j.filter
    ++ replied (ByMessage from (ToUnsubscribe r)) y j.filter j.outcome)
    ∙ (ap (λ outs. outs ++ replied (ByMessage from (ToUnsubscribe r)) y j.filter j.outcome)
    (judged_noted s i x j.filter j.outcome place)
    ∙ ap (λ outs. untold_of place gone ++ outs) (acked s.clock from r x j.filter j.outcome)))))

found_row : (s : State) (from : Address) (r : TopicRequest) (i : ℕ) → Good s
    → place_at from s.clients ≡ Some i
    → (let j = unsubscribe_judged s.policy r (client_at s.clients i) in
    Makes s (ByMessage from (ToUnsubscribe r)) (unsubscribe_noted s r i j) (ends_at s i j))
found_row s from r i good at =
    let c = ByMessage from (ToUnsubscribe r) in
    let a = around s c in
    let x = client_at s.clients i in
    let j = unsubscribe_judged s.policy r x in
    let gone = let_go s.clients i j.filter j.outcome in
    let few = gone_few s.clients i j.filter j.outcome in
    let place = has_place s.policy.limits s.link in
    let read : slice_get s.clients i ≡ Some x = read_at s.clients i (within from s.clients i at) in
    let here = found_here from s.clients i x at read in
    let once = each_at (λ y. IsOneClients y.filters) s.clients i x good.once read in
    let any : any_from c s.clients ≡ true = any_here c from s.clients i x (λ y. refl) read here in
    let busy = all_busy s.clients good.rest in
    let ends = unsubscribe_moves s from r x here in
    let still : Busy (plain_next s c x) =
    subst Busy ends (ended_busy j.filter j.outcome (heard_at s.clock x)
    (each_at AtRest s.clients i x good.rest read).busy) in
    let moved : map (client_next s c) s.clients ≡ moved_at i (ends_next s.clock j) s.clients =
    one_moves_at from (client_next s c) s.clients i x (same_off s from r) busy good.places read here
    ∙ moved_same (client_next s c) (ends_next s.clock j) s.clients i x read
    (plain_moves s c x still ∙ sym ends) in
    let after : clients_next s c ≡ moved_at i (ends_next s.clock j) s.clients =
    ap (map (client_next s c)) (append-nil s.clients) ∙ moved in
    let go : released s.clients (moved_at i (ends_next s.clock j) s.clients) ≡ map (release x) gone =
    one_released (ends_next s.clock j) s.clients i x read
    ∙ judged_released s i x j.filter j.outcome refl once in
    let dropped : drops_for s c ≡ (if place then [] else map (release x) gone) =
    ap (λ ys. dropped_of s.policy.limits s.link (released s.clients ys)) moved
    ∙ (ap (dropped_of s.policy.limits s.link) go ∙ drop_by x gone
    (length s.link.waiting) s.policy.limits.waiting place refl few) in
    makes s c (unsubscribe_noted s r i j) (ends_at s i j) good
    (part_is s from r i x j place refl refl here (unsubscribe_said s.policy r x)
    ∙ ((sym (plain_row s c (if place then [] else map (release x) gone) x still)
    ∙ ap (λ d. part_for s c d x) (sym dropped))
    ∙ (sym (one_outs_at from (part_for s c (drops_for s c)) s.clients i x
    (quiet_off s from r (drops_for s c)) busy good.places read here)
    ∙ sym (ap (λ b. if b then flat_map (part_for s c (drops_for s c)) s.clients
    else stranger_to from (ToUnsubscribe r)) any))))
    (sym (next_is s from r (moved_at i (ends_next s.clock j) s.clients) after
    ∙ (rw (
      go,
      take_by x gone (length s.link.waiting) s.policy.limits.waiting place refl few,
      judged_still s i x j.filter j.outcome good read refl,
    ) refl)))

row_at : (s : State) (from : Address) (r : TopicRequest) (place : Option ℕ) → Good s
    → place_at from s.clients ≡ place
    → Makes s (ByMessage from (ToUnsubscribe r))
    (unsubscribe_outs s r place (stranger_to from (ToUnsubscribe r))) (ended s r place)
row_at s from r None good at = nobody_row s from r good at
row_at s from r (Some i) good at = found_row s from r i good at

pub unsubscribe_row : (s : State) (from : Address) (r : TopicRequest) → Good s
    → Makes s (ByMessage from (ToUnsubscribe r))
    (unsubscribe_outs s r (place_at from s.clients) (stranger_to from (ToUnsubscribe r)))
    (ended s r (place_at from s.clients))
unsubscribe_row s from r good = row_at s from r (place_at from s.clients) good refl
