-- The row and the next state of a REGISTER, and of a PUBLISH of a client, as code makes them.
use Rattle.std.proofs.Common.{◌≡◌, ℕ, true, List, [], ◌∷◌, ◌++◌, refl, ap, sym}
use Rattle.std.proofs.Common.{◌∙◌}
use Rattle.std.specs.Prelude.{slice_get, Option, Some, None}
use Rattle.std.proofs.lemmas.List.{append-nil}
use Rattle.std.specs.Prelude.{Ok, Err}
use Rattle.std.specs.declared.result.Result.{Result}
use Rattle.sng_text.specs.declared.qos.Qos.{Qos}
use Rattle.sng_frames.specs.declared.messages.register.Register.{Register}
use Rattle.sng_frames.specs.declared.messages.publish.Publish.{Publish}
use Rattle.sng_grants.specs.declared.policy.Policy.{Policy}
use Rattle.sng_outbox.specs.declared.item.Item.{Item}
use Rattle.sng_outbox.specs.declared.item.Publication.{Publication}
use Rattle.sng_book.specs.declared.address.Address.{Address}
use Rattle.sng_book.specs.declared.decision.Who.TheVariants as who
use Rattle.sng_book.specs.declared.outcome.Denial.{Denial}
use Rattle.sng_book.specs.declared.outcome.Outcome.{Outcome}
use Rattle.sng_book.specs.declared.outcome.Outcome.TheVariants.{Allowed, Denied}
use Rattle.sng_book.specs.declared.out.Out.TheVariants.{Note}
use Rattle.sng_book.specs.declared.decision.Decision.TheVariants as note
use Rattle.sng_history.specs.Causes.{ToRegister, ToPublish, ByMessage}
use Rattle.sng_history.specs.Clients.{Client, is_here, note_by}
use Rattle.sng_history.specs.State.{State, around, item_asked, asked_by, qos_of, joined as joined_wanted}
use Rattle.sng_history.specs.Verdicts.{room, may_ask, name_given, name_in}
use Rattle.sng_history.specs.Verdicts.{register_named as note_named, register_by as note_by_may, register_ask}
use Rattle.sng_history.specs.Verdicts.{publish_named as publish_note_named, publish_by as publish_note_by}
use Rattle.sng_history.specs.Verdicts.{publish_ask}
use Rattle.sng_history.specs.Whole.{frames_of, replied, stranger_to}
use Rattle.sng_history.specs.Lawful.{fixed_for}
use Rattle.sng_history.specs.Steps.{next_by, asked_by_all, asked_for}
use Rattle.sng_history.specs.Links.{Link, Wanted}
use Rattle.sng_history.specs.Good.{Good}
use Rattle.sng_history.proofs.EndlessRequests.{still_endless}
use Rattle.sng_history.proofs.EndlessAsks.{endless_link}
use Rattle.sng_core.specs.Forms.{place_at, client_at, at_place, moved_if, found_outs, heard_at}
use Rattle.sng_core.specs.Forms.{joined, register_named}
use Rattle.sng_core.specs.Forms.{register_by, register_judged, register_reply, register_outs, register_next}
use Rattle.sng_core.specs.Forms.{publish_named as judged_named, publish_by as judged_by, publish_reply}
use Rattle.sng_core.specs.Forms.{publication_by, items_of, carried_judged, carried_outs, carried_items}
use Rattle.sng_core.specs.Forms.{carried}
use Rattle.sng_core.proofs.Plain.{plain_next, plain_part}
use Rattle.sng_core.proofs.Found.{found_here, nobody_here, no_outs, one_outs}
use Rattle.sng_core.proofs.Found.{read_at, within}
use Rattle.sng_core.proofs.Rows.{Makes, busy_row, stranger_row, message_row, heard_busy, request_message}
use Rattle.sng_core.proofs.Rows.{still_message}

-- ---- a REGISTER

said_named : (policy : Policy) (x : Client) (named : Result (List ℕ) Denial)
    → let j =
    register_named policy x named in
    note_named policy x named ≡ note.Register (who.Client x.id) j.name j.outcome
said_named policy x (Ok name) = refl
said_named policy x (Err rule) = refl

said_by : (policy : Policy) (x : Client) (text : List ℕ) (may : Outcome)
    → let j =
    register_by policy x text may in
    note_by_may policy x text may ≡ note.Register (who.Client x.id) j.name j.outcome
said_by policy x text Allowed = said_named policy x (name_given text)
said_by policy x text (Denied rule) = refl

-- how it comes out is its note
register_said : (policy : Policy) (x : Client) (text : List ℕ)
    → let j =
    register_judged policy x text in
    register_ask policy x text ≡ note.Register (who.Client x.id) j.name j.outcome
register_said policy x text = said_by policy x text (may_ask policy x)

register_replied : (clock : ℕ) (from : Address) (r : Register) (x : Client) (name : Option (List ℕ))
    (o : Outcome)
    → register_reply r.msg_id x name o ≡ replied (ByMessage from (ToRegister r)) (heard_at clock x) name o
register_replied clock from r x (Some name) Allowed = refl
register_replied clock from r x None Allowed = refl
register_replied clock from r x (Some name) (Denied rule) = refl
register_replied clock from r x None (Denied rule) = refl

register_part : (s : State) (from : Address) (r : Register) (x : Client) → is_here x from ≡ true
    → register_outs s.policy r.msg_id r.name x ≡ plain_part s (ByMessage from (ToRegister r)) [] x
register_part s from r x here =
    let a = around s (ByMessage from (ToRegister r)) in
    let y = heard_at s.clock x in
    let j = register_judged s.policy x r.name in
    rw here (ap (λ outs. Note (note.Register (who.Client x.id) j.name j.outcome) ∷ outs)
    (register_replied s.clock from r x j.name j.outcome
    ∙ sym (append-nil (replied (ByMessage from (ToRegister r)) y j.name j.outcome)))
    ∙ ap (λ said. Note said ∷ (frames_of a [] y said ++ [])) (sym (register_said s.policy x r.name)))

register_moves : (s : State) (from : Address) (r : Register) (x : Client) → is_here x from ≡ true
    → register_next s.policy s.clock r.name x ≡ plain_next s (ByMessage from (ToRegister r)) x
register_moves s from r x here =
    let a = around s (ByMessage from (ToRegister r)) in
    rw here (ap (λ said. note_by a said (heard_at s.clock x)) (sym (register_said s.policy x r.name)))

pub register_row : (s : State) (from : Address) (r : Register) → Good s
    → Makes s (ByMessage from (ToRegister r))
    (found_outs (stranger_to from (ToRegister r)) (register_outs s.policy r.msg_id r.name)
    (at_place s.clients (place_at from s.clients)))
    (record s {
      clients = moved_if (place_at from s.clients)
          (register_next s.policy s.clock r.name) s.clients;
    })
register_row s from r good =
    message_row s (ByMessage from (ToRegister r)) from (stranger_to from (ToRegister r))
    (register_outs s.policy r.msg_id r.name) (register_next s.policy s.clock r.name)
    (place_at from s.clients) good
    (still_message s from (ToRegister r) good refl refl) refl (register_part s from r)
    (register_moves s from r)
    (λ x here rest. rest.busy)

-- ---- a PUBLISH of a client

published_named : (s : State) (x : Client) (q : Qos) (named : Result (List ℕ) Denial)
    → let j =
    judged_named s.policy (room s q) x named in
    publish_note_named s x q named ≡ note.Publish (who.Client x.id) j.name j.outcome
published_named s x q (Ok name) = refl
published_named s x q (Err rule) = refl

published_by : (s : State) (x : Client) (p : Publish) (may : Outcome)
    → let j =
    judged_by s.policy (room s (qos_of p.flags.qos)) x p.flags.id_type p.topic_id may in
    publish_note_by s x p may ≡ note.Publish (who.Client x.id) j.name j.outcome
published_by s x p Allowed =
    published_named s x (qos_of p.flags.qos) (name_in s.policy (Some x.ids) p.flags.id_type p.topic_id)
published_by s x p (Denied rule) = refl

publish_said : (s : State) (x : Client) (p : Publish) → let j =
    carried_judged s p x in publish_ask s x p ≡ note.Publish (who.Client x.id) j.name j.outcome
publish_said s x p = published_by s x p (may_ask s.policy x)

publish_replied : (clock : ℕ) (from : Address) (p : Publish) (x : Client) (name : Option (List ℕ))
    (o : Outcome)
    → publish_reply x.address p o ≡ replied (ByMessage from (ToPublish p)) (heard_at clock x) name o
publish_replied clock from p x name Allowed = refl
publish_replied clock from p x name (Denied rule) = refl

publish_part : (s : State) (from : Address) (p : Publish) (x : Client) → is_here x from ≡ true
    → carried_outs s p x ≡ plain_part s (ByMessage from (ToPublish p)) [] x
publish_part s from p x here =
    let a = around s (ByMessage from (ToPublish p)) in
    let y = heard_at s.clock x in
    let j = carried_judged s p x in
    rw here (ap (λ outs. Note (note.Publish (who.Client x.id) j.name j.outcome) ∷ outs)
    (publish_replied s.clock from p x j.name j.outcome
    ∙ sym (append-nil (replied (ByMessage from (ToPublish p)) y j.name j.outcome)))
    ∙ ap (λ said. Note said ∷ (frames_of a [] y said ++ [])) (sym (publish_said s x p)))

publish_moves : (s : State) (from : Address) (p : Publish) (x : Client) → is_here x from ≡ true
    → heard_at s.clock x ≡ plain_next s (ByMessage from (ToPublish p)) x
publish_moves s from p x here =
    let a = around s (ByMessage from (ToPublish p)) in
    rw here (ap (λ said. note_by a said (heard_at s.clock x)) (sym (publish_said s x p)))

pub items_asked : (id : List ℕ) (p : Publish) (name : Option (List ℕ)) (o : Outcome)
    → items_of (publication_by id p name o) ≡ item_asked (who.Client id) name o p
items_asked id p (Some name) Allowed = refl
items_asked id p (Some name) (Denied rule) = refl
items_asked id p None Allowed = refl
items_asked id p None (Denied rule) = refl

-- what a PUBLISH of a client adds to what waits
abbrev published : State → Address → Publish → List Item
published s from p = asked_for s (ByMessage from (ToPublish p))

-- what waits is joined by the publish of the client that is there
publish_items : (s : State) (from : Address) (p : Publish) (i : ℕ) (x : Client) → Good s
    → slice_get s.clients i ≡ Some x → is_here x from ≡ true → published s from p ≡ carried_items s p x
publish_items s from p i x good read here =
    let c = ByMessage from (ToPublish p) in
    let j = carried_judged s p x in
    one_outs from (λ y. asked_by_all (Some p) (fixed_for s c y)) s.clients i x
    (λ y off. rw off refl) good.places read here
    ∙ (rw here (append-nil (asked_by (Some p) (publish_ask s x p)))
    ∙ (ap (asked_by (Some p)) (publish_said s x p) ∙ sym (items_asked x.id p j.name j.outcome)))

-- nobody adds anything
publish_nothing : (s : State) (from : Address) (p : Publish) → place_at from s.clients ≡ None
    → published s from p ≡ []
publish_nothing s from p at =
    no_outs from (λ y. asked_by_all (Some p) (fixed_for s (ByMessage from (ToPublish p)) y)) s.clients
    (λ y off. rw off refl) (nobody_here from s.clients at)

-- it wants no filter
pub joined_publish : (wanted : List Wanted) (publication : Option Publication)
    → joined_wanted wanted (items_of publication) ≡ wanted
joined_publish wanted None = refl
joined_publish wanted (Some publication) = refl

publish_link : (s : State) (from : Address) (p : Publish) (items : List Item) → Good s
    → published s from p ≡ items → joined_wanted s.link.wanted items ≡ s.link.wanted
    → (next_by s (ByMessage from (ToPublish p))).link ≡ record s.link { waiting = s.link.waiting ++ items }
publish_link s from p items good is wanted =
    endless_link s from (ToPublish p) good (still_endless s from (ToPublish p) refl) ∙ (rw (is, wanted) refl)

carried_found : (s : State) (from : Address) (p : Publish) (place : Option ℕ) → Good s
    → place_at from s.clients ≡ place
    → Makes s (ByMessage from (ToPublish p))
    (found_outs (stranger_to from (ToPublish p)) (carried_outs s p) (at_place s.clients place))
    (carried s p place)
carried_found s from p None good at =
    let e = still_endless s from (ToPublish p) refl in
    let same : (next_by s (ByMessage from (ToPublish p))).link ≡ s.link =
    publish_link s from p [] good (publish_nothing s from p at) refl
    ∙ ap (λ items. let l : Link = record s.link { waiting = items } in l) (append-nil s.link.waiting) in
    stranger_row s (ByMessage from (ToPublish p)) from (stranger_to from (ToPublish p)) s good
    (request_message s from (ToPublish p) s.link e same) at
carried_found s from p (Some i) good at =
    let x = client_at s.clients i in
    let read : slice_get s.clients i ≡ Some x = read_at s.clients i (within from s.clients i at) in
    let here = found_here from s.clients i x at read in
    let j = carried_judged s p x in
    let e = still_endless s from (ToPublish p) refl in
    let link =
    publish_link s from p (carried_items s p x) good (publish_items s from p i x good read here)
    (joined_publish s.link.wanted (publication_by x.id p j.name j.outcome)) in
    busy_row s (ByMessage from (ToPublish p)) from (stranger_to from (ToPublish p))
    (joined s (carried_items s p x)) i x (carried_outs s p x) (heard_at s.clock) good
    (request_message s from (ToPublish p)
    (record s.link { waiting = s.link.waiting ++ carried_items s p x }) e link) at read
    (publish_part s from p x) (publish_moves s from p x)
    (λ there rest. heard_busy s.clock x rest)

pub publish_row : (s : State) (from : Address) (p : Publish) → Good s
    → Makes s (ByMessage from (ToPublish p))
    (found_outs (stranger_to from (ToPublish p)) (carried_outs s p)
    (at_place s.clients (place_at from s.clients))) (carried s p (place_at from s.clients))
publish_row s from p good = carried_found s from p (place_at from s.clients) good refl
