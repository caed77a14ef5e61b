-- What is kept of the messages for each client, and of its topic ids, is what the rows show.
use Rattle.std.proofs.Common.{◌≡◌, ℕ, List, [], ◌∷◌, refl, ap, sym, ◌∙◌, subst, rules, Bool, true, false}
use Rattle.std.proofs.Common.{if◌then◌else◌}
use Rattle.std.specs.Prelude.{drop, Some}
use Rattle.sng_queue.specs.Buffers.{nothing}
use Rattle.sng_book.specs.declared.event.Event.{Event}
use Rattle.sng_book.specs.declared.out.Out.{Out}
use Rattle.sng_book.specs.declared.row.Row.{Row}
use Rattle.sng_history.specs.Causes.{Cause, cause_of}
use Rattle.sng_history.specs.Clients.{Client, blank, start_by, notes_by, is_drained, drained}
use Rattle.sng_history.specs.Notes.{notes_of}
use Rattle.sng_history.specs.State.{State, around}
use Rattle.sng_history.specs.Lawful.{fixed_for}
use Rattle.sng_history.specs.Steps.{client_next}
use Rattle.sng_laws.specs.ViewsClients.{phase_of, address_of}
use Rattle.sng_laws.specs.ViewsStanding.{standing_of}
use Rattle.sng_laws.specs.ViewsHanding.{due_of, waits_for}
use Rattle.sng_history.proofs.Kept.{client_id}
use Rattle.sng_promise.proofs.Names.SeenIds.{telling_none}
use Rattle.sng_promise.proofs.Handing.SeenFollows.{Follows, View}
use Rattle.sng_promise.proofs.Handing.SeenHandingNotes.{view_notes, moved_end, Shown}
use Rattle.sng_promise.proofs.Handing.SeenProgress.{due_after, start_view, row_moved}
use Rattle.sng_promise.proofs.Handing.SeenViewNotes.{view_of, settled_count}
use Rattle.sng_promise.proofs.Handing.SeenViews.{view_start, row_view, start_same, InForce}
use Rattle.sng_promise.proofs.Handing.SeenDue.{due_row}
use Rattle.sng_promise.proofs.Clients.SeenStrangers.{Unheard}
use Rattle.sng_states.specs.declared.state.ClientState.TheVariants.{Asleep}
use Rattle.sng_queue.specs.Messages.{Message}

abbrev pub Mailed : List Row → Client → Type 0
Mailed h x = Follows (due_of x.id h) (view_of x.id h) x.ids x.number x.buffer

-- what waits is what was due and is not settled
pub mailed_waits : (h : List Row) (x : Client) → Mailed h x → x.buffer.waiting ≡ waits_for x.id h
mailed_waits h x mailed = mailed.settling.waits ∙ ap (λ n. drop n (due_of x.id h)) (settled_count x.id h)

drained_shown : (due : List Message) (v : View) (y : Client) → Shown due v y → Shown due v (drained y)
drained_shown due v y shown = by_drained (is_drained y)
  where
    by_drained : (b : Bool) → Shown due v (if b then record y { phase = Asleep } else y)
    by_drained true = shown
    by_drained false = shown

-- by a row whose event this is, where what was due and how it began are known
pub mailed_next : (by : ℕ) (h : List Row) (s : State) (c : Cause) (e : Event) (outs : List Out) (x : Client)
    → InForce (around s c) by h e outs → notes_of x.id outs ≡ fixed_for s c x
    → due_of x.id (record { by = by; event = e; outs = outs } ∷ h) ≡ due_after c x (due_of x.id h)
    → view_start x.id e h ≡ start_view c x (view_of x.id h)
    → Mailed h x → Mailed (record { by = by; event = e; outs = outs } ∷ h) (client_next s c x)
mailed_next by h s c e outs x force own due start mailed =
    let a = around s c in
    let rows = record { by = by; event = e; outs = outs } ∷ h in
    let y = notes_by a (fixed_for s c x) (start_by a x) in
    let fixed = fixed_for s c x in
    let first = start_view c x (view_of x.id h) in
    let view : view_of x.id rows ≡ view_notes a x.id (due_after c x (due_of x.id h)) fixed first =
    row_view a x.id by h e outs force
    ∙ (ap (λ notes. view_notes a x.id (due_of x.id rows) notes (view_start x.id e h)) own
    ∙ (ap (view_notes a x.id (due_of x.id rows) fixed) start
    ∙ ap (λ d. view_notes a x.id d fixed first) due)) in
    subst (λ id. Follows (due_of id rows) (view_of id rows) (drained y).ids (drained y).number
    (drained y).buffer)
    (sym (client_id a fixed x))
    (drained_shown (due_of x.id rows) (view_of x.id rows) y
    (subst (λ d. Follows d (view_of x.id rows) y.ids y.number y.buffer) (sym due)
    (subst (λ v. Follows (due_after c x (due_of x.id h)) v y.ids y.number y.buffer) (sym view)
    (moved_end a x.id (due_after c x (due_of x.id h)) fixed first (start_by a x)
    (row_moved s c x (due_of x.id h) (view_of x.id h) mailed)))))

-- a client that was accepted before
pub mailed_row : (by : ℕ) (h : List Row) (s : State) (e : Event) (outs : List Out) (x : Client)
    → InForce (around s (cause_of e)) by h e outs
    → phase_of x.id h ≡ Some x.phase → address_of x.id h ≡ Some x.address → x.filters ≡ standing_of x.id h
    → notes_of x.id outs ≡ fixed_for s (cause_of e) x → Mailed h x
    → Mailed (record { by = by; event = e; outs = outs } ∷ h) (client_next s (cause_of e) x)
mailed_row by h s e outs x force phase address filters own mailed =
    mailed_next by h s (cause_of e) e outs x force own (due_row by h s e outs x phase filters own)
    (start_same h x e (record {
      phase = phase;
      address = address;
      number = mailed.given;
      exchange = mailed.exchange;
    })) mailed

-- one of whom nothing was heard
pub mailed_blank : (h : List Row) (id : List ℕ) → Unheard id h → Mailed h (blank id)
mailed_blank h id unheard =
    subst (λ d. Follows d (view_of id h) [] 0 nothing) (sym unheard.due)
    (subst (λ v. Follows [] v [] 0 nothing) (sym unheard.view)
    (record {
      telling = telling_none;
      settling =
          record { waits = refl; few = search rules; names = refl };
      given = refl;
      exchange = refl;
      front = tt;
    }))
