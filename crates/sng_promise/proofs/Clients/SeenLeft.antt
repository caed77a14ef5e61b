-- One client that leaves, or that is lost: what is kept of it moves as what the rows show of it.
use Rattle.std.proofs.Common.{ℕ, Bool, true, false, List, [], ◌∷◌, ◌++◌, refl, sym, if◌then◌else◌}
use Rattle.std.proofs.Common.{subst}
use Rattle.std.specs.Prelude.{Option, Some, None}
use Rattle.sng_grants.specs.Limits.{Limits}
use Rattle.sng_grants.specs.declared.policy.Policy.{Policy}
use Rattle.sng_book.specs.declared.address.Address.{Address}
use Rattle.sng_book.specs.declared.decision.Decision.{Decision}
use Rattle.sng_book.specs.declared.decision.Decision.TheVariants as note
use Rattle.sng_book.specs.declared.decision.Who.{Who}
use Rattle.sng_book.specs.declared.decision.Who.TheVariants as who
use Rattle.sng_book.specs.declared.outcome.Denial.{Denial}
use Rattle.sng_book.specs.declared.outcome.Outcome.{Outcome}
use Rattle.sng_book.specs.declared.outcome.Outcome.TheVariants.{Allowed, Denied}
use Rattle.sng_history.specs.Clients.{Client, Around}
use Rattle.sng_history.specs.Clients.{gone, lost}
use Rattle.sng_history.specs.Clients.{notes_by}
use Rattle.sng_history.specs.Clients.{repeated}
use Rattle.sng_history.specs.Links.{Link}
use Rattle.sng_history.specs.Losing.{before, unplaced, will_dropped, lost_notes, tick_notes, again_notes}
use Rattle.sng_history.specs.Room.{room_in}
use Rattle.sng_history.specs.Ticking.{will_of, testaments, all_placed, is_lost_at}
use Rattle.sng_outbox.specs.declared.item.Publication.{Publication}
use Rattle.sng_history.specs.Outgoing.{all_gone}
use Rattle.sng_laws.specs.ViewsMessages.{Message as Spoken}
use Rattle.sng_laws.specs.ViewsClients.{phase_by}
use Rattle.sng_history.proofs.Own.{same_self}
use Rattle.sng_history.proofs.Hands.{Every, every_append, every_gone}
use Rattle.sng_history.proofs.Statements.{every_again}
use Rattle.sng_promise.proofs.Clients.SeenClients.{Before, Shows, kept_of, heard_if, idle_will}
use Rattle.sng_promise.proofs.Clients.SeenUnmoved.{Alike}
use Rattle.sng_promise.proofs.Clients.SeenUnmoved.{shows_alike, alike_self}
use Rattle.sng_promise.proofs.Clients.SeenUnmoved.{Ends}
use Rattle.sng_promise.proofs.Clients.SeenUnmoved.{Unseen, ends_each}
use Rattle.sng_promise.proofs.Clients.SeenUnmoved.{unseen_messages, ends_show}

-- behind a note come others that move nothing of this
pub shows_more : (id : List ℕ) (b : Before) (a : Around) (said : Decision) (more : List Decision) (y : Client)
    → Shows id b (said ∷ []) y
    → Ends id a y more
    → Shows id b (said ∷ more) (notes_by a more y)
shows_more id b a said more y one ends =
    shows_alike id b (said ∷ more) y (notes_by a more y) ends.alike
    (rw (ends.phase b.message (phase_by b.message id said b.phase), ends.admits) one)

-- a will finds no place
will_unseen : (a : Around) (whom : Who) (name : Option (List ℕ)) (rule : Denial)
    → Unseen a (note.Will whom name (Denied rule))
will_unseen a whom name rule =
    let is = idle_will a whom name rule in
    record {
      phase = is.phase;
      admits = is.admits;
      alike = λ x. subst (Alike x) (sym (is.same x)) (alike_self x);
    }

unplaced_unseen : (a : Around) (id : List ℕ) (p : Publication) (o : Outcome)
    → Every (Unseen a) (unplaced id p o)
unplaced_unseen a id p Allowed = tt
unplaced_unseen a id p (Denied rule) = (will_unseen a (who.Client id) (Some p.name) rule, tt)

dropped_unseen : (limits : Limits) (a : Around) (link : Link) (id : List ℕ) (ps : List Publication)
    → Every (Unseen a) (will_dropped limits link id ps)
dropped_unseen limits a link id [] = tt
dropped_unseen limits a link id (p ∷ ps) = unplaced_unseen a id p (room_in limits link p.qos)

-- what is open is sent again
alike_repeated : (clock : ℕ) (o : Outcome) (x : Client) → Alike x (repeated clock o x)
alike_repeated clock Allowed x = record { phase = refl; address = refl; duration = refl; heard = refl }
alike_repeated clock (Denied rule) x = record { phase = refl; address = refl; duration = refl; heard = refl }

again_unseen : (a : Around) (client name : List ℕ) (o : Outcome) → Unseen a (note.Retry client name o)
again_unseen a client name o =
    record { phase = λ m id before. refl; admits = λ id. refl; alike = λ x. alike_repeated a.clock o x }

-- a client that is lost
pub tick_shows : (a : Around) (policy : Policy) (link : Link) (clock now : ℕ) (xs : List Client) (x : Client)
    (m : Option Spoken)
    → let n = tick_notes policy link clock xs x in
    Shows x.id (kept_of x m None None now false) n (notes_by a n x)
tick_shows a policy link clock now xs x m = by_overdue (is_lost_at clock x)
  where
    by_overdue : (b : Bool)
        → let n =
        if b then lost_notes policy.limits (all_placed policy.limits link (testaments clock (before x.id xs))) x
        else again_notes policy clock x in
        Shows x.id (kept_of x m None None now false) n (notes_by a n x)
    by_overdue true =
        let gone = all_gone x.id x.buffer.waiting in
        let limits = policy.limits in
        let left = all_placed limits link (testaments clock (before x.id xs)) in
        let dropped = will_dropped limits left x.id (will_of x.id x.wills.will) in
        shows_more x.id (kept_of x m None None now false) a (note.Lost x.id) (gone ++ dropped) (lost x)
        (rw (same_self x.id) (refl, refl, refl, refl))
        (ends_each x.id a (gone ++ dropped) (lost x)
        (every_append (Unseen a) gone dropped
        (every_gone (Unseen a) x.id x.buffer.waiting (unseen_messages a x.id))
        (dropped_unseen limits a left x.id (will_of x.id x.wills.will))))
    by_overdue false =
        let again = again_notes policy clock x in
        ends_show x m a now again (ends_each x.id a again x
        (every_again (Unseen a) policy clock x
        (record { again = again_unseen a x.id; messages = unseen_messages a x.id })))

pub leave_shows : (a : Around) (x : Client) (m : Option Spoken) (from : Option Address) (stated : Option ℕ)
    (here : Bool)
    → let n = if here then note.Left x.id ∷ all_gone x.id x.buffer.waiting else [] in
    Shows x.id (kept_of x m from stated a.clock here) n (notes_by a n (heard_if here a.clock x))
leave_shows a x m from stated true =
    let y = gone (heard_if true a.clock x) in
    let more = all_gone x.id x.buffer.waiting in
    shows_more x.id (kept_of x m from stated a.clock true) a (note.Left x.id) more y
    (rw (same_self x.id) (refl, refl, refl, refl))
    (ends_each x.id a more y (every_gone (Unseen a) x.id x.buffer.waiting (unseen_messages a x.id)))
leave_shows a x m from stated false = (refl, refl, refl, refl)
