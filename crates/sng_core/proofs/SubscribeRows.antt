-- The row and the next state of a SUBSCRIBE, as code makes them.
use Rattle.std.proofs.Common.{◌≡◌, ℕ, zero, suc, Bool, true, false, List, [], ◌∷◌, ◌++◌, refl}
use Rattle.std.proofs.Common.{ap, sym, ◌∙◌, subst}
use Rattle.std.specs.Prelude.{if◌then◌else◌, ◌&&◌, slice_get, Option, Some, None, Ok, Err}
use Rattle.std.specs.declared.result.Result.{Result}
use Rattle.std.proofs.lemmas.List.{append-nil}
use Rattle.sng_frames.specs.declared.messages.subscribe.TopicRequest.{TopicRequest}
use Rattle.sng_text.specs.declared.qos.Qos.{Qos}
use Rattle.sng_ids.specs.Ids.{Ids, is_full_for}
use Rattle.sng_outbox.specs.declared.item.Item.{Item}
use Rattle.sng_outbox.specs.declared.item.Item.TheVariants as item
use Rattle.sng_book.specs.declared.address.Address.{Address}
use Rattle.sng_book.specs.declared.decision.Decision.TheVariants as note
use Rattle.sng_book.specs.declared.decision.Who.TheVariants as who
use Rattle.sng_book.specs.declared.outcome.Denial.{Denial}
use Rattle.sng_book.specs.declared.outcome.Outcome.{Outcome}
use Rattle.sng_book.specs.declared.outcome.Outcome.TheVariants.{Allowed, Denied}
use Rattle.sng_book.specs.declared.out.Out.TheVariants.{Note}
use Rattle.sng_history.specs.Causes.{ToSubscribe, ByMessage}
use Rattle.sng_history.specs.Clients.{Client, is_here, subscribed, note_by}
use Rattle.sng_history.specs.Links.{Link}
use Rattle.sng_history.specs.State.{State, around, asked_by, subscribe_item, joined, with_wanted}
use Rattle.sng_history.specs.Requests.{granted, gets_id}
use Rattle.sng_sessions.specs.Moving.{moved_at}
use Rattle.sng_sessions.specs.Standing.{subscribed_at}
use Rattle.sng_history.specs.Verdicts.{and_then, coverage, subscribe_room, may_ask, filter_in}
use Rattle.sng_history.specs.Verdicts.{subscribe_named as note_named, subscribe_by as note_by_may}
use Rattle.sng_history.specs.Verdicts.{subscribe_ask}
use Rattle.sng_history.specs.Whole.{frames_of, replied, stranger_to}
use Rattle.sng_history.specs.Lawful.{fixed_for}
use Rattle.sng_history.specs.Steps.{asked_by_all, asked_for, next_by}
use Rattle.sng_history.specs.Good.{Good}
use Rattle.sng_history.proofs.FiltersKept.{may_stand}
use Rattle.sng_history.proofs.EndlessRequests.{subscribe_endless}
use Rattle.sng_history.proofs.EndlessAsks.{endless_link}
use Rattle.sng_core.specs.Forms.{place_at, client_at, at_place, found_outs, heard_at}
use Rattle.sng_core.specs.Subscribing.{subscribe_named, subscribe_by, subscribe_judged, subscribe_reply}
use Rattle.sng_core.specs.Subscribing.{subscribe_outs, stands_next, asked_for as with_asked, stands_at, stood}
use Rattle.sng_core.specs.Subscribing.{HasRoom, IsAllowed}
use Rattle.sng_core.specs.declared.filters.JudgedFilter.{JudgedFilter}
use Rattle.sng_core.proofs.Found.{found_here, nobody_here, no_outs, one_outs, read_at, within}
use Rattle.sng_core.proofs.Plain.{Busy, plain_next, plain_part}
use Rattle.sng_core.proofs.Rows.{Makes, busy_row, stranger_row, request_message}

-- how it comes out is its note
said_named : (s : State) (x : Client) (r : TopicRequest) (named : Result (List ℕ) Denial)
    → let j =
    subscribe_named s x r named in
    note_named s x r named ≡ note.Subscribe (who.Client x.id) j.filter j.outcome
said_named s x r (Ok filter) = refl
said_named s x r (Err rule) = refl

said_by : (s : State) (x : Client) (r : TopicRequest) (may : Outcome)
    → let j =
    subscribe_by s x r may in note_by_may s x r may ≡ note.Subscribe (who.Client x.id) j.filter j.outcome
said_by s x r Allowed = said_named s x r (filter_in s.policy r.flags.id_type r.topic)
said_by s x r (Denied rule) = refl

subscribe_said : (s : State) (r : TopicRequest) (x : Client) → let j =
    subscribe_judged s r x in subscribe_ask s x r ≡ note.Subscribe (who.Client x.id) j.filter j.outcome
subscribe_said s r x = said_by s x r (may_ask s.policy x)

subscribe_replied : (clock : ℕ) (from : Address) (r : TopicRequest) (x : Client) (filter : Option (List ℕ))
    (o : Outcome)
    → subscribe_reply r x filter o ≡ replied (ByMessage from (ToSubscribe r)) (heard_at clock x) filter o
subscribe_replied clock from r x (Some filter) Allowed = refl
subscribe_replied clock from r x None Allowed = refl
subscribe_replied clock from r x (Some filter) (Denied rule) = refl
subscribe_replied clock from r x None (Denied rule) = refl

subscribe_part : (s : State) (from : Address) (r : TopicRequest) (x : Client) → is_here x from ≡ true
    → subscribe_outs s r x ≡ plain_part s (ByMessage from (ToSubscribe r)) [] x
subscribe_part s from r x here =
    let a = around s (ByMessage from (ToSubscribe r)) in
    let y = heard_at s.clock x in
    let j = subscribe_judged s r x in
    rw here (ap (λ outs. Note (note.Subscribe (who.Client x.id) j.filter j.outcome) ∷ outs)
    (subscribe_replied s.clock from r x j.filter j.outcome
    ∙ sym (append-nil (replied (ByMessage from (ToSubscribe r)) y j.filter j.outcome)))
    ∙ ap (λ said. Note said ∷ (frames_of a [] y said ++ [])) (sym (subscribe_said s r x)))

subscribe_moves : (s : State) (from : Address) (r : TopicRequest) (x : Client) → is_here x from ≡ true
    → stands_next s.clock r (subscribe_judged s r x) x ≡ plain_next s (ByMessage from (ToSubscribe r)) x
subscribe_moves s from r x here =
    let a = around s (ByMessage from (ToSubscribe r)) in
    rw here (ap (λ said. note_by a said (heard_at s.clock x)) (sym (subscribe_said s r x)))

-- it stands as before, with what waits and is open
stood_busy : (r : TopicRequest) (filter : Option (List ℕ)) (o : Outcome) (y : Client) → Busy y
    → Busy (subscribed (Some r) filter o y)
stood_busy r (Some filter) Allowed y busy = busy
stood_busy r (Some filter) (Denied rule) y busy = busy
stood_busy r None o y busy = busy

-- what it asks for
subscribe_items : (s : State) (from : Address) (r : TopicRequest) (i : ℕ) (x : Client) → Good s
    → slice_get s.clients i ≡ Some x → is_here x from ≡ true
    → (let j = subscribe_judged s r x in
    asked_for s (ByMessage from (ToSubscribe r)) ≡ subscribe_item j.filter j.outcome)
subscribe_items s from r i x good read here =
    let c = ByMessage from (ToSubscribe r) in
    let j = subscribe_judged s r x in
    one_outs from (λ y. asked_by_all None (fixed_for s c y)) s.clients i x
    (λ y off. rw off refl) good.places read here
    ∙ (rw here (append-nil (asked_by None (subscribe_ask s x r))) ∙ ap (asked_by None) (subscribe_said s r x))

subscribe_nothing : (s : State) (from : Address) (r : TopicRequest) → place_at from s.clients ≡ None
    → asked_for s (ByMessage from (ToSubscribe r)) ≡ []
subscribe_nothing s from r at =
    no_outs from (λ y. asked_by_all None (fixed_for s (ByMessage from (ToSubscribe r)) y)) s.clients
    (λ y off. rw off refl) (nobody_here from s.clients at)

abbrev link_with : Link → List Item → Link
link_with link items = record link { waiting = link.waiting ++ items; wanted = joined link.wanted items }

link_none : (link : Link) → link_with link [] ≡ link
link_none link = ap (λ items. let l : Link = record link { waiting = items } in l) (append-nil link.waiting)

found_by : (s : State) (from : Address) (r : TopicRequest) (place : Option ℕ) → Good s
    → place_at from s.clients ≡ place
    → Makes s (ByMessage from (ToSubscribe r))
    (found_outs (stranger_to from (ToSubscribe r)) (subscribe_outs s r) (at_place s.clients place))
    (stood s r place)
found_by s from r None good at =
    let e = subscribe_endless s from r in
    let same : (next_by s (ByMessage from (ToSubscribe r))).link ≡ s.link =
    endless_link s from (ToSubscribe r) good e
    ∙ (ap (link_with s.link) (subscribe_nothing s from r at) ∙ link_none s.link) in
    stranger_row s (ByMessage from (ToSubscribe r)) from (stranger_to from (ToSubscribe r)) s good
    (request_message s from (ToSubscribe r) s.link e same) at
found_by s from r (Some i) good at =
    let x = client_at s.clients i in
    let read : slice_get s.clients i ≡ Some x = read_at s.clients i (within from s.clients i at) in
    let here = found_here from s.clients i x at read in
    let j = subscribe_judged s r x in
    let items = subscribe_item j.filter j.outcome in
    let e = subscribe_endless s from r in
    let link =
    endless_link s from (ToSubscribe r) good e
    ∙ ap (link_with s.link) (subscribe_items s from r i x good read here) in
    busy_row s (ByMessage from (ToSubscribe r)) from (stranger_to from (ToSubscribe r)) (with_asked s j) i x
    (subscribe_outs s r x) (stands_next s.clock r j) good
    (request_message s from (ToSubscribe r) (link_with s.link items) e link) at read
    (subscribe_part s from r x) (subscribe_moves s from r x)
    (λ there rest. stood_busy r j.filter j.outcome (heard_at s.clock x) rest.busy)

pub subscribe_row : (s : State) (from : Address) (r : TopicRequest) → Good s
    → Makes s (ByMessage from (ToSubscribe r))
    (found_outs (stranger_to from (ToSubscribe r)) (subscribe_outs s r)
    (at_place s.clients (place_at from s.clients)))
    (stood s r (place_at from s.clients))
subscribe_row s from r good = found_by s from r (place_at from s.clients) good refl

-- ---- what is allowed has room

named_room : (s : State) (x : Client) (r : TopicRequest) (named : Result (List ℕ) Denial)
    → IsAllowed s x r (subscribe_named s x r named)
named_room s x r (Ok text) filter is may =
    let e : text ≡ filter = cc in
    let m = may_stand s x r text may in
    subst (HasRoom s x r) e (record { ids = m.ids; filters = m.fits; waits = m.waits })
named_room s x r (Err rule) filter is may = absurd cc

judged_room : (s : State) (x : Client) (r : TopicRequest) (may : Outcome)
    → IsAllowed s x r (subscribe_by s x r may)
judged_room s x r Allowed = named_room s x r (filter_in s.policy r.flags.id_type r.topic)
judged_room s x r (Denied rule) = λ filter is bad. absurd cc

pub allowed_room : (s : State) (x : Client) (r : TopicRequest) → IsAllowed s x r (subscribe_judged s r x)
allowed_room s x r = judged_room s x r (may_ask s.policy x)

-- ---- what code changes

moved_point : (f g : Client → Client) (place : ℕ) (xs : List Client) → ((x : Client) → f x ≡ g x)
    → moved_at place f xs ≡ moved_at place g xs
moved_point f g place [] same = refl
moved_point f g zero (x ∷ xs) same = ap (λ y. y ∷ xs) (same x)
moved_point f g (suc place) (x ∷ xs) same = ap (λ ys. x ∷ ys) (moved_point f g place xs same)

stands_by : (clock : ℕ) (r : TopicRequest) (filter : List ℕ) (told : Bool) (x : Client)
    → gets_id r.flags.id_type filter ≡ told
    → subscribed_at clock (if told then Some filter else None) filter (granted r.flags.qos) x
    ≡ stands_next clock r (record { filter = Some filter; outcome = Allowed }) x
stands_by clock r filter true x is = rw is refl
stands_by clock r filter false x is = rw is refl

-- the link once a SUBSCRIBE of the filter waits
abbrev pub subscribed_link : Link → List ℕ → Link
subscribed_link link one =
    record link {
      waiting = link.waiting ++ item.Subscribe one ∷ [];
      wanted = with_wanted link.wanted one;
    }

-- the sessions and the link once the subscription stands
pub kept : (s : State) (r : TopicRequest) (place : ℕ) (filter one : List ℕ) (name : Option (List ℕ)) (q : Qos)
    (link : Link) (xs : List Client)
    → one ≡ filter → name ≡ (if gets_id r.flags.id_type filter then Some filter else None)
    → q ≡ granted r.flags.qos
    → link ≡ subscribed_link s.link one
    → xs ≡ moved_at place (subscribed_at s.clock name filter q) s.clients
    → (let after : State = record s { link = link; clients = xs } in after)
    ≡ stands_at s r place (record { filter = Some filter; outcome = Allowed })
kept s r place filter one name q link xs same named level is moved =
    rw (is, moved, same, named, level)
    (ap (λ ys. let after : State = record s {
      link =
          record s.link {
            waiting = s.link.waiting ++ item.Subscribe filter ∷ [];
            wanted = with_wanted s.link.wanted filter;
          };
      clients = ys;
    } in after)
    (moved_point (subscribed_at s.clock (if gets_id r.flags.id_type filter then Some filter else None) filter
    (granted r.flags.qos))
    (stands_next s.clock r (record { filter = Some filter; outcome = Allowed })) place s.clients
    (λ x. stands_by s.clock r filter (gets_id r.flags.id_type filter) x refl)))

-- how a SUBSCRIBE that names a filter comes out
pub named_is : (s : State) (x : Client) (r : TopicRequest) (filter id : List ℕ) (covered room o : Outcome)
    → filter_in s.policy r.flags.id_type r.topic ≡ Ok filter → o ≡ and_then covered room
    → covered ≡ coverage s.policy id filter → id ≡ x.id → room ≡ subscribe_room s x r filter
    → (let j : JudgedFilter = record { filter = Some filter; outcome = o } in j)
    ≡ subscribe_named s x r (filter_in s.policy r.flags.id_type r.topic)
named_is s x r filter id covered room o named is covers same fits = rw (named, is, covers, same, fits) refl

-- ---- there is room for the name that the client is told with an id of it

same_told : (filter x : List ℕ) → Some filter ≡ Some x → filter ≡ x
same_told filter x same = cc

pub told_fits : (told : Bool) (filter x : List ℕ) (ids : Ids) → (told && is_full_for filter ids) ≡ false
    → (if told then Some filter else None) ≡ Some x → is_full_for x ids ≡ false
told_fits true filter x ids fits is = subst (λ n. is_full_for n ids ≡ false) (same_told filter x is) fits
told_fits false filter x ids fits is = absurd cc
