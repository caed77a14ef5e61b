-- What is asked for has room, and what comes of it is what was judged.
use Rattle.std.proofs.Common.{◌≡◌, ◌<◌, ℕ, List, Option, Some, None, ap, sym, subst, ◌∙◌, length}
use Rattle.sng_frames.specs.declared.messages.publish.Publish.{Publish}
use Rattle.sng_outbox.specs.declared.item.Item.TheVariants as item
use Rattle.sng_outbox.specs.declared.item.Publication.{Publication}
use Rattle.sng_book.specs.declared.outcome.Outcome.{Outcome}
use Rattle.sng_history.specs.Links.{Link}
use Rattle.sng_history.specs.State.{State}
use Rattle.sng_history.specs.Ticking.{with_item}
use Rattle.sng_history.specs.Verdicts.{once_room}
use Rattle.sng_link.specs.Rooms.{LinkRoom}
use Rattle.sng_core.specs.declared.verdict.Judged.{Judged}
use Rattle.sng_core.specs.Forms.{client_at, publish_judged, publication_by}
use Rattle.sng_core.specs.Receiving.{once_judged, once_noted, once_asked, first_outs, first_next}
use Rattle.sng_core.specs.contracts.parts.Parts.{the_view}
use Rattle.sng_core.proofs.Asked.{first_made, joined_none}
use Rattle.sng_core.proofs.parts.Parts.receive_first.Goals as goal

-- the room, in the state that the fields make
room_of : (s now : State) (p : Publish) (place : ℕ) (r : Outcome) → s ≡ now
    → r ≡ once_room now (client_at now.clients place) p → r ≡ once_room s (client_at s.clients place) p
room_of s now p place r view is = is ∙ ap (λ t. once_room t (client_at t.clients place) p) (sym view)

-- so it was judged as the definitions have it
judged_of : (s now : State) (p : Publish) (place : ℕ) (r : Outcome) (j : Judged) → s ≡ now
    → r ≡ once_room now (client_at now.clients place) p
    → j ≡ publish_judged s.policy r (client_at s.clients place) p.flags.id_type p.topic_id
    → j ≡ once_judged s p (client_at s.clients place)
judged_of s now p place r j view is_room is =
    let x = client_at s.clients place in
    is ∙ ap (λ room. publish_judged s.policy room x p.flags.id_type p.topic_id)
    (room_of s now p place r view is_room)

asked_of : (p : Publish) (place : ℕ) (s : State) (id : List ℕ) (j : Judged) (asked is : Option Publication)
    → asked ≡ publication_by id p j.name j.outcome → asked ≡ is → id ≡ (client_at s.clients place).id
    → is ≡ once_asked p (client_at s.clients place) j
asked_of p place s id j asked is made read own =
    sym read ∙ made ∙ ap (λ name. publication_by name p j.name j.outcome) own

pub returns-in_ok-room-in-Some-clause-outs : goal.returns-in_ok-room-in-Some-clause-outs
returns-in_ok-room-in-Some-clause-outs c =
    let place = c.args.place in
    let p = c.args.publish in
    let s = the_view c.self.inside in
    c.in_ok-outs.ensures
    ∙ ap (once_noted p (client_at s.clients place)) (judged_of s c.args.self.now p place
    c.once_room-room.result c.in_ok-judged.judged c.self.view_is c.once_room-room.ensures
    c.in_ok-judged.ensures)
    ∙ ap (λ t. first_outs t p (client_at t.clients place)) c.self.view_is

pub returns-in_ok-room-in-Some-clause-next : goal.returns-in_ok-room-in-Some-clause-next
returns-in_ok-room-in-Some-clause-next c =
    let place = c.args.place in
    let p = c.args.publish in
    let s = the_view c.self.inside in
    let inside : place < length s.clients =
    subst (λ t. place < length t.clients) (sym c.self.view_is) c.requires in
    let j = c.in_ok-judged.judged in
    let judged_is =
    judged_of s c.args.self.now p place c.once_room-room.result j c.self.view_is c.once_room-room.ensures
    c.in_ok-judged.ensures in
    let asked_is =
    asked_of p place s c.id.result.now j c.in_ok-asked.asked (Some c.in-Some.publication)
    c.in_ok-asked.ensures.asked c.in-Some.is c.id.ensures in
    first_made s p place j (Some c.in-Some.publication) _ _ inside judged_is asked_is
    (ap (λ (l : LinkRoom). l.link) c.push.ensures.next
    ∙ ap (λ (link : Link). with_item link (item.Publish c.in-Some.publication)) c.room.ensures.link)
    c.change.ensures
    ∙ ap (λ t. first_next t p place) c.self.view_is

pub returns-in-None-clause-outs : goal.returns-in-None-clause-outs
returns-in-None-clause-outs c =
    let place = c.args.place in
    let p = c.args.publish in
    let s = the_view c.self.inside in
    c.in_ok-outs.ensures
    ∙ ap (once_noted p (client_at s.clients place)) (judged_of s c.args.self.now p place
    c.once_room-room.result c.in_ok-judged.judged c.self.view_is c.once_room-room.ensures
    c.in_ok-judged.ensures)
    ∙ ap (λ t. first_outs t p (client_at t.clients place)) c.self.view_is

pub returns-in-None-clause-next : goal.returns-in-None-clause-next
returns-in-None-clause-next c =
    let place = c.args.place in
    let p = c.args.publish in
    let s = the_view c.self.inside in
    let inside : place < length s.clients =
    subst (λ t. place < length t.clients) (sym c.self.view_is) c.requires in
    let j = c.in_ok-judged.judged in
    let judged_is =
    judged_of s c.args.self.now p place c.once_room-room.result j c.self.view_is c.once_room-room.ensures
    c.in_ok-judged.ensures in
    let asked_is =
    asked_of p place s c.id.result.now j c.in_ok-asked.asked None c.in_ok-asked.ensures.asked c.in-None.is
    c.id.ensures in
    first_made s p place j None _ _ inside judged_is asked_is (joined_none s.link) c.hear.ensures
    ∙ ap (λ t. first_next t p place) c.self.view_is
