-- With an event of the connection to the broker nothing is let out but what leaves for the broker.
use Rattle.std.proofs.Common.{◌≡◌, ℕ, Bool, true, false, List, [], ◌∷◌, ◌++◌, refl, ap, sym, ◌∙◌, subst}
use Rattle.std.specs.Prelude.{Option}
use Rattle.sng_grants.specs.declared.policy.Policy.{Policy}
use Rattle.sng_outbox.specs.declared.in_flight.InFlight.{InFlight}
use Rattle.sng_outbox.specs.declared.item.Item.{Item}
use Rattle.sng_outbox.specs.declared.item.Item.TheVariants as item
use Rattle.sng_outbox.specs.declared.item.Publication.{Publication}
use Rattle.sng_book.specs.declared.event.Event.{Event}
use Rattle.sng_book.specs.declared.event.Event.TheVariants.{Datagram, Broker, Up, Down, Take, Replace, Tick}
use Rattle.sng_book.specs.declared.outcome.Outcome.{Outcome}
use Rattle.sng_book.specs.declared.outcome.Outcome.TheVariants.{Allowed, Denied}
use Rattle.sng_book.specs.declared.out.Out.{Out}
use Rattle.sng_book.specs.declared.out.Out.TheVariants.{Send, Wire, Note}
use Rattle.sng_book.specs.declared.row.Row.{Row}
use Rattle.sng_history.specs.Causes.{cause_of}
use Rattle.sng_history.specs.Verdicts.{exit}
use Rattle.sng_history.specs.Links.{Link, packet_id_by, exited, subscribe_left, unsubscribe_left}
use Rattle.sng_history.specs.Links.{outgoing}
use Rattle.sng_history.specs.Exits.{exits_of, forwarded, subscribe_leaves, unsubscribe_leaves, leaving}
use Rattle.sng_history.specs.Exits.{agains_of, sent_again, resending}
use Rattle.sng_history.specs.State.{State, opening, state_of}
use Rattle.sng_history.specs.Lawful.{Lawful}
use Rattle.sng_history.specs.Steps.{outs_of}
use Rattle.sng_laws.specs.LawsLink.{is_upstream, OnlyExits}
use Rattle.sng_history.proofs.Keeping.{exact_by}
use Rattle.sng_promise.proofs.Link.LawLink.{Wires, subscribe_wires, unsubscribe_wires}
use Rattle.sng_promise.proofs.Link.LawRows.{anew, anew_wires}

-- ---- packets without notes

wires_exit : (xs ys : List Out) → Wires xs → OnlyExits ys → OnlyExits (xs ++ ys)
wires_exit [] ys are only = only
wires_exit (Wire sent ∷ xs) ys are only = wires_exit xs ys are.1 only
wires_exit (Send to datagram ∷ xs) ys are only = absurd are
wires_exit (Note said ∷ xs) ys are only = absurd are

wires_only : (xs : List Out) → Wires xs → OnlyExits xs
wires_only [] are = tt
wires_only (Wire sent ∷ xs) are = wires_only xs are.1
wires_only (Send to datagram ∷ xs) are = absurd are
wires_only (Note said ∷ xs) are = absurd are

-- ---- a take while up

first_exit : (p : Publication) (packet_id : Option ℕ) (o : Outcome) (outs : List Out) → OnlyExits outs
    → OnlyExits (forwarded p packet_id o ++ outs)
first_exit p packet_id Allowed outs only = (refl, only)
first_exit p packet_id (Denied rule) outs only = (refl, only)

all_exit : (policy : Policy) (link : Link) (items : List Item)
    → OnlyExits (leaving link items (exits_of policy items))
all_exit policy link [] = tt
all_exit policy link (item.Publish p ∷ items) =
    let o = exit policy p.origin p.name in
    first_exit p (packet_id_by link p.qos) o (leaving (exited link p o) items (exits_of policy items))
    (all_exit policy (exited link p o) items)
all_exit policy link (item.Subscribe text ∷ items) =
    let next = subscribe_left link text in
    wires_exit (subscribe_leaves link text) (leaving next items (exits_of policy items))
    (subscribe_wires link text) (all_exit policy next items)
all_exit policy link (item.Unsubscribe text ∷ items) =
    let next = unsubscribe_left link text in
    wires_exit (unsubscribe_leaves link text) (leaving next items (exits_of policy items))
    (unsubscribe_wires link text) (all_exit policy next items)
all_exit policy link (item.Acknowledge packet_id ∷ items) = all_exit policy link items
all_exit policy link (item.Ping ∷ items) = all_exit policy link items

-- ---- a connection begins

again_first : (sent : InFlight) (o : Outcome) (outs more : List Out) → OnlyExits (outs ++ more)
    → OnlyExits ((sent_again sent o ++ outs) ++ more)
again_first sent Allowed outs more only = (refl, only)
again_first sent (Denied rule) outs more only = (refl, only)

again_exit : (policy : Policy) (flights : List InFlight) (more : List Out) → OnlyExits more
    → OnlyExits (resending flights (agains_of policy flights) ++ more)
again_exit policy [] more only = only
again_exit policy (sent ∷ flights) more only =
    again_first sent (exit policy sent.publication.origin sent.publication.name)
    (resending flights (agains_of policy flights)) more (again_exit policy flights more only)

-- ---- the laws

take_exits : (s : State) (b : Bool) → s.up ≡ b → OnlyExits (outs_of s Take)
take_exits s true is = rw is (all_exit s.policy s.link (outgoing s.link))
take_exits s false is = rw is tt

pub row_exits : (s : State) (e : Event) → is_upstream e ≡ true → OnlyExits (outs_of s e)
row_exits s Up is = again_exit s.policy s.link.in_flight (anew s) (wires_only (anew s) (anew_wires s))
row_exits s Down is = tt
row_exits s Take is = take_exits s s.up refl
row_exits s (Datagram from datagram) is = absurd (let e = is in cc)
row_exits s (Broker packet) is = absurd (let e = is in cc)
row_exits s (Replace policy) is = absurd (let e = is in cc)
row_exits s (Tick clock) is = absurd (let e = is in cc)

row_is : (h : List Row) (row : Row) (e : Event) → Lawful opening (row ∷ h) → row.event ≡ e
    → row.outs ≡ outs_of (state_of opening h) e
row_is h row e l is =
    exact_by (state_of opening h) (cause_of row.event) row.outs l.1 ∙ ap (outs_of (state_of opening h)) is

pub exits_law : (h : List Row) (row : Row) → Lawful opening (row ∷ h) → is_upstream row.event ≡ true
    → OnlyExits row.outs
exits_law h row l is =
    subst OnlyExits (sym (row_is h row row.event l refl)) (row_exits (state_of opening h) row.event is)

pub down_law : (h : List Row) (row : Row) → Lawful opening (row ∷ h) → row.event ≡ Down → row.outs ≡ []
down_law h row l is = row_is h row Down l is
