-- The row and the next state of a PUBLISH at QoS 2, and of a PUBREL, as code makes them.
use Rattle.std.proofs.Common.{◌≡◌, ℕ, Bool, true, false, List, [], ◌∷◌, ◌++◌, refl, ap, sym}
use Rattle.std.proofs.Common.{◌∙◌}
use Rattle.std.specs.Prelude.{if◌then◌else◌, slice_get, Option, Some, None, Ok, Err}
use Rattle.std.specs.declared.result.Result.{Result}
use Rattle.std.proofs.lemmas.List.{append-nil}
use Rattle.sng_states.specs.States.{is_active}
use Rattle.sng_frames.specs.declared.messages.publish.Publish.{Publish}
use Rattle.sng_outbox.specs.declared.item.Item.{Item}
use Rattle.sng_outbox.specs.declared.item.Publication.{Publication}
use Rattle.sng_book.specs.declared.address.Address.{Address}
use Rattle.sng_book.specs.declared.decision.Decision.TheVariants as note
use Rattle.sng_book.specs.declared.decision.Who.TheVariants as who
use Rattle.sng_book.specs.declared.outcome.Denial.{Denial}
use Rattle.sng_book.specs.declared.outcome.Outcome.{Outcome}
use Rattle.sng_book.specs.declared.outcome.Outcome.TheVariants.{Allowed, Denied}
use Rattle.sng_book.specs.declared.out.Out.TheVariants.{Note}
use Rattle.sng_history.specs.Answers.{pubrec}
use Rattle.sng_history.specs.Causes.{ToPublishOnce, ToRelease, ByMessage}
use Rattle.sng_history.specs.Clients.{Client, is_here, note_by, received}
use Rattle.sng_history.specs.State.{State, around, asked_by, joined as joined_wanted}
use Rattle.sng_history.specs.Verdicts.{may_ask, name_in, is_repeat, once_room, publish_once_named}
use Rattle.sng_history.specs.Verdicts.{publish_once_by, publish_once_ask}
use Rattle.sng_history.specs.Whole.{frames_of, replied, stranger_to}
use Rattle.sng_history.specs.Lawful.{fixed_for}
use Rattle.sng_history.specs.Steps.{next_by, asked_by_all, asked_for}
use Rattle.sng_history.specs.Links.{Link}
use Rattle.sng_history.specs.Good.{AtRest, Good}
use Rattle.sng_history.proofs.EndlessRequests.{still_endless}
use Rattle.sng_history.proofs.EndlessAsks.{endless_link}
use Rattle.sng_sessions.specs.Moving.{moved_at}
use Rattle.sng_sessions.specs.Sleeping.{released_at}
use Rattle.sng_core.specs.Forms.{place_at, client_at, at_place, moved_if, found_outs, heard_at, joined}
use Rattle.sng_core.specs.Forms.{publish_named as judged_named, publish_by as judged_by, publication_by}
use Rattle.sng_core.specs.Receiving.{once_judged, once_reply, once_asked, once_moved, first_outs, first_items}
use Rattle.sng_core.specs.Receiving.{first_moved, once_outs, repeat_next, once_next}
use Rattle.sng_core.specs.Receiving.{released_outs}
use Rattle.sng_core.proofs.Plain.{Busy, plain_next, plain_part}
use Rattle.sng_core.proofs.Found.{found_here, nobody_here, no_outs, one_outs}
use Rattle.sng_core.proofs.Found.{read_at, within}
use Rattle.sng_core.proofs.PublishRows.{items_asked, joined_publish}
use Rattle.sng_core.proofs.Rows.{Makes, busy_row, stranger_row, message_row, heard_busy, request_message}
use Rattle.sng_core.proofs.Rows.{still_message}

-- ---- a PUBREL

released_part_by : (s : State) (from : Address) (id : ℕ) (x : Client) (turn : Bool) → is_active x.phase ≡ turn
    → is_here x from ≡ true
    → released_outs id x ≡ plain_part s (ByMessage from (ToRelease id)) [] x
released_part_by s from id x true is here = rw (here, is) refl
released_part_by s from id x false is here = rw (here, is) refl

released_moves_by : (s : State) (from : Address) (id : ℕ) (x : Client) (turn : Bool)
    → is_active x.phase ≡ turn → is_here x from ≡ true
    → released_at s.clock id x ≡ plain_next s (ByMessage from (ToRelease id)) x
released_moves_by s from id x true is here = rw (here, is) refl
released_moves_by s from id x false is here = rw (here, is) refl

released_busy_by : (clock id : ℕ) (x : Client) (turn : Bool) → is_active x.phase ≡ turn → AtRest x
    → Busy (released_at clock id x)
released_busy_by clock id x true is rest = rw is rest.busy
released_busy_by clock id x false is rest = rw is rest.busy

pub release_row : (s : State) (from : Address) (id : ℕ) → Good s
    → Makes s (ByMessage from (ToRelease id))
    (found_outs (stranger_to from (ToRelease id)) (released_outs id)
    (at_place s.clients (place_at from s.clients)))
    (record s { clients = moved_if (place_at from s.clients) (released_at s.clock id) s.clients })
release_row s from id good =
    message_row s (ByMessage from (ToRelease id)) from (stranger_to from (ToRelease id)) (released_outs id)
    (released_at s.clock id)
    (place_at from s.clients) good (still_message s from (ToRelease id) good refl refl) refl
    (λ x here. released_part_by s from id x (is_active x.phase) refl here)
    (λ x here. released_moves_by s from id x (is_active x.phase) refl here)
    (λ x here rest. released_busy_by s.clock id x (is_active x.phase) refl rest)

-- ---- a PUBLISH at QoS 2 that is no repeat

once_named : (s : State) (x : Client) (p : Publish) (named : Result (List ℕ) Denial)
    → let j =
    judged_named s.policy (once_room s x p) x named in
    publish_once_named s x p named ≡ note.Publish (who.Client x.id) j.name j.outcome
once_named s x p (Ok name) = refl
once_named s x p (Err rule) = refl

once_by : (s : State) (x : Client) (p : Publish) (may : Outcome)
    → let j =
    judged_by s.policy (once_room s x p) x p.flags.id_type p.topic_id may in
    publish_once_by s x p may ≡ note.Publish (who.Client x.id) j.name j.outcome
once_by s x p Allowed =
    once_named s x p (name_in s.policy (Some x.ids) p.flags.id_type p.topic_id)
once_by s x p (Denied rule) = refl

-- how it comes out is its note
once_said : (s : State) (x : Client) (p : Publish) → let j =
    once_judged s p x in publish_once_ask s x p ≡ note.Publish (who.Client x.id) j.name j.outcome
once_said s x p = once_by s x p (may_ask s.policy x)

once_replied : (clock : ℕ) (from : Address) (p : Publish) (x : Client) (name : Option (List ℕ)) (o : Outcome)
    → once_reply x.address p o ≡ replied (ByMessage from (ToPublishOnce p)) (heard_at clock x) name o
once_replied clock from p x name Allowed = refl
once_replied clock from p x name (Denied rule) = refl

first_part : (s : State) (from : Address) (p : Publish) (x : Client) → is_repeat p x ≡ false
    → is_here x from ≡ true
    → first_outs s p x ≡ plain_part s (ByMessage from (ToPublishOnce p)) [] x
first_part s from p x first here =
    let a = around s (ByMessage from (ToPublishOnce p)) in
    let y = heard_at s.clock x in
    let j = once_judged s p x in
    rw (here, first) (ap (λ outs. Note (note.Publish (who.Client x.id) j.name j.outcome) ∷ outs)
    (once_replied s.clock from p x j.name j.outcome
    ∙ sym (append-nil (replied (ByMessage from (ToPublishOnce p)) y j.name j.outcome)))
    ∙ ap (λ said. Note said ∷ (frames_of a [] y said ++ [])) (sym (once_said s x p)))

-- its MsgId is open where it joins what waits
moved_by : (clock : ℕ) (p : Publish) (x : Client) (name : List ℕ) (o : Outcome)
    → once_moved clock p (publication_by x.id p (Some name) o) x
    ≡ received (Some p.msg_id) o (heard_at clock x)
moved_by clock p x name Allowed = refl
moved_by clock p x name (Denied rule) = refl

moved_named : (s : State) (x : Client) (p : Publish) (room : Outcome) (named : Result (List ℕ) Denial)
    → let j =
    judged_named s.policy room x named in
    once_moved s.clock p (once_asked p x j) x ≡ received (Some p.msg_id) j.outcome (heard_at s.clock x)
moved_named s x p room (Ok name) = moved_by s.clock p x name _
moved_named s x p room (Err rule) = refl

moved_may : (s : State) (x : Client) (p : Publish) (room may : Outcome)
    → let j =
    judged_by s.policy room x p.flags.id_type p.topic_id may in
    once_moved s.clock p (once_asked p x j) x ≡ received (Some p.msg_id) j.outcome (heard_at s.clock x)
moved_may s x p room Allowed =
    moved_named s x p room (name_in s.policy (Some x.ids) p.flags.id_type p.topic_id)
moved_may s x p room (Denied rule) = refl

first_moves : (s : State) (from : Address) (p : Publish) (x : Client) → is_repeat p x ≡ false
    → is_here x from ≡ true
    → first_moved s p x ≡ plain_next s (ByMessage from (ToPublishOnce p)) x
first_moves s from p x first here =
    let a = around s (ByMessage from (ToPublishOnce p)) in
    rw (here, first) (moved_may s x p (once_room s x p) (may_ask s.policy x)
    ∙ ap (λ said. note_by a said (heard_at s.clock x)) (sym (once_said s x p)))

moved_busy : (clock : ℕ) (p : Publish) (o : Option Publication) (x : Client) → AtRest x
    → Busy (once_moved clock p o x)
moved_busy clock p None x rest = rest.busy
moved_busy clock p (Some publication) x rest = rest.busy

-- ---- one that repeats what was received

repeat_part : (s : State) (from : Address) (p : Publish) (x : Client) → is_repeat p x ≡ true
    → is_here x from ≡ true
    → pubrec x.address p.msg_id ∷ [] ≡ plain_part s (ByMessage from (ToPublishOnce p)) [] x
repeat_part s from p x again here = rw (here, again) refl

repeat_moves : (s : State) (from : Address) (p : Publish) (x : Client) → is_repeat p x ≡ true
    → is_here x from ≡ true
    → heard_at s.clock x ≡ plain_next s (ByMessage from (ToPublishOnce p)) x
repeat_moves s from p x again here = rw (here, again) refl

-- ---- what they add to what waits

abbrev once_asks : State → Address → Publish → List Item
once_asks s from p = asked_for s (ByMessage from (ToPublishOnce p))

first_asked : (s : State) (from : Address) (p : Publish) (i : ℕ) (x : Client) → Good s
    → slice_get s.clients i ≡ Some x → is_repeat p x ≡ false → is_here x from ≡ true
    → once_asks s from p ≡ first_items s p x
first_asked s from p i x good read first here =
    let c = ByMessage from (ToPublishOnce p) in
    let j = once_judged s p x in
    one_outs from (λ y. asked_by_all (Some p) (fixed_for s c y)) s.clients i x
    (λ y off. rw off refl) good.places read here
    ∙ (rw (here, first) (append-nil (asked_by (Some p) (publish_once_ask s x p)))
    ∙ (ap (asked_by (Some p)) (once_said s x p) ∙ sym (items_asked x.id p j.name j.outcome)))

repeat_asked : (s : State) (from : Address) (p : Publish) (i : ℕ) (x : Client) → Good s
    → slice_get s.clients i ≡ Some x → is_repeat p x ≡ true → is_here x from ≡ true
    → once_asks s from p ≡ []
repeat_asked s from p i x good read again here =
    let c = ByMessage from (ToPublishOnce p) in
    one_outs from (λ y. asked_by_all (Some p) (fixed_for s c y)) s.clients i x
    (λ y off. rw off refl) good.places read here
    ∙ rw (here, again) refl

nothing_asked : (s : State) (from : Address) (p : Publish) → place_at from s.clients ≡ None
    → once_asks s from p ≡ []
nothing_asked s from p at =
    no_outs from (λ y. asked_by_all (Some p) (fixed_for s (ByMessage from (ToPublishOnce p)) y)) s.clients
    (λ y off. rw off refl) (nobody_here from s.clients at)

once_link : (s : State) (from : Address) (p : Publish) (items : List Item) → Good s
    → once_asks s from p ≡ items → joined_wanted s.link.wanted items ≡ s.link.wanted
    → (next_by s (ByMessage from (ToPublishOnce p))).link
    ≡ record s.link { waiting = s.link.waiting ++ items }
once_link s from p items good is wanted =
    endless_link s from (ToPublishOnce p) good (still_endless s from (ToPublishOnce p) refl)
    ∙ (rw (is, wanted) refl)

same_link : (s : State) (from : Address) (p : Publish) → Good s → once_asks s from p ≡ []
    → (next_by s (ByMessage from (ToPublishOnce p))).link ≡ s.link
same_link s from p good none =
    once_link s from p [] good none refl
    ∙ ap (λ items. let l : Link = record s.link { waiting = items } in l) (append-nil s.link.waiting)

-- ---- the row

once_at : (s : State) (from : Address) (p : Publish) (i : ℕ) (x : Client) (again : Bool) → Good s
    → is_repeat p x ≡ again → place_at from s.clients ≡ Some i → slice_get s.clients i ≡ Some x
    → Makes s (ByMessage from (ToPublishOnce p))
    (if again then pubrec x.address p.msg_id ∷ [] else first_outs s p x)
    (if again then repeat_next s i
    else record (joined s (first_items s p x)) { clients = moved_at i (first_moved s p) s.clients })
once_at s from p i x true good again at read =
    let e = still_endless s from (ToPublishOnce p) refl in
    let here = found_here from s.clients i x at read in
    busy_row s (ByMessage from (ToPublishOnce p)) from (stranger_to from (ToPublishOnce p)) s i x
    (pubrec x.address p.msg_id ∷ []) (heard_at s.clock) good
    (request_message s from (ToPublishOnce p) s.link e
    (same_link s from p good (repeat_asked s from p i x good read again here))) at read
    (repeat_part s from p x again) (repeat_moves s from p x again)
    (λ there rest. heard_busy s.clock x rest)
once_at s from p i x false good first at read =
    let e = still_endless s from (ToPublishOnce p) refl in
    let here = found_here from s.clients i x at read in
    let items = first_items s p x in
    let link =
    once_link s from p items good (first_asked s from p i x good read first here)
    (joined_publish s.link.wanted (once_asked p x (once_judged s p x))) in
    busy_row s (ByMessage from (ToPublishOnce p)) from (stranger_to from (ToPublishOnce p))
    (joined s items) i x (first_outs s p x) (first_moved s p) good
    (request_message s from (ToPublishOnce p) (record s.link { waiting = s.link.waiting ++ items }) e link)
    at read (first_part s from p x first) (first_moves s from p x first)
    (λ there rest. moved_busy s.clock p (once_asked p x (once_judged s p x)) x rest)

once_found : (s : State) (from : Address) (p : Publish) (place : Option ℕ) → Good s
    → place_at from s.clients ≡ place
    → Makes s (ByMessage from (ToPublishOnce p))
    (found_outs (stranger_to from (ToPublishOnce p)) (once_outs s p) (at_place s.clients place))
    (once_next s p place)
once_found s from p None good at =
    let e = still_endless s from (ToPublishOnce p) refl in
    stranger_row s (ByMessage from (ToPublishOnce p)) from (stranger_to from (ToPublishOnce p)) s good
    (request_message s from (ToPublishOnce p) s.link e
    (same_link s from p good (nothing_asked s from p at))) at
once_found s from p (Some i) good at =
    let x = client_at s.clients i in
    once_at s from p i x (is_repeat p x) good refl at (read_at s.clients i (within from s.clients i at))

pub once_row : (s : State) (from : Address) (p : Publish) → Good s
    → Makes s (ByMessage from (ToPublishOnce p))
    (found_outs (stranger_to from (ToPublishOnce p)) (once_outs s p)
    (at_place s.clients (place_at from s.clients))) (once_next s p (place_at from s.clients))
once_row s from p good = once_found s from p (place_at from s.clients) good refl
