-- A message for a client is handed over, denied in its turn, or announced, only where the client is free,
-- along each row.
use Rattle.std.proofs.Common.{◌≡◌, ℕ, Bool, true, false, List, [], ◌∷◌, ◌++◌, refl, ap, sym, ◌∙◌, subst}
use Rattle.std.proofs.Common.{if◌then◌else◌}
use Rattle.std.specs.Prelude.{Option, Some}
use Rattle.std.specs.List.{flat_map}
use Rattle.std.specs.Str.{bytes_eq}
use Rattle.sng_grants.specs.declared.policy.Policy.{Policy}
use Rattle.sng_queue.specs.Messages.{Message}
use Rattle.sng_frames.specs.declared.messages.connect.Connect.{Connect}
use Rattle.sng_book.specs.declared.address.Address.{Address}
use Rattle.sng_book.specs.declared.decision.Decision.TheVariants as note
use Rattle.sng_book.specs.declared.decision.Who.TheVariants as who
use Rattle.sng_book.specs.declared.event.Event.{Event}
use Rattle.sng_book.specs.declared.outcome.Outcome.{Outcome}
use Rattle.sng_book.specs.declared.outcome.Outcome.TheVariants.{Allowed, Denied}
use Rattle.sng_book.specs.declared.out.Out.{Out}
use Rattle.sng_book.specs.declared.out.Out.TheVariants.{Note}
use Rattle.sng_book.specs.declared.row.Row.{Row}
use Rattle.sng_history.specs.Causes.{Cause, cause_of}
use Rattle.sng_history.specs.Causes.{ByConnect, ByMessage, BySource, ByBroken, ByPacket, ByUp, ByDown, ByTake}
use Rattle.sng_history.specs.Causes.{ByReplace, ByTick}
use Rattle.sng_history.specs.Notes.{notes_of}
use Rattle.sng_history.specs.Clients.{Client, start_by}
use Rattle.sng_history.specs.Packets.{answer_of, answer_outs}
use Rattle.sng_history.specs.State.{State, opening, around, state_of, is_known, later}
use Rattle.sng_history.specs.Ticking.{with_wills, ping_dropped}
use Rattle.sng_history.specs.Verdicts.{entry}
use Rattle.sng_history.specs.Whole.{any_from, stranger_to, entry_row, entry_outs}
use Rattle.sng_history.specs.Answers.{code_of, connack}
use Rattle.sng_history.specs.Lawful.{Lawful, fixed_for}
use Rattle.sng_history.specs.Steps.{notes_for, newcomers_for, outs_by, outs_of}
use Rattle.sng_laws.specs.Views.{last_policy}
use Rattle.sng_laws.specs.ViewsMessages.{Message as Spoken, message_at}
use Rattle.sng_laws.specs.ViewsClients.{phase_of, address_of, own_message, phase_spoken}
use Rattle.sng_laws.specs.ViewsClients.{is_among, accepted}
use Rattle.sng_laws.specs.ViewsHanding.{due_of}
use Rattle.sng_laws.specs.LawsState.{ClientShown}
use Rattle.sng_laws.specs.LawsTurns.{Moment, moment_at, Occasion, occasion_of, AllInTurn, EachInTurn}
use Rattle.sng_history.proofs.Own.{notes_append, absent, each_with}
use Rattle.sng_history.proofs.Kept.{unknown_away}
use Rattle.sng_history.proofs.SaysParts.{part_for, beside_for, entering_for, only_beside, only_entering}
use Rattle.sng_history.proofs.Says.{says}
use Rattle.sng_history.proofs.SaysParts.{drops_for}
use Rattle.sng_history.proofs.SaysConnect.{accepted_notes}
use Rattle.sng_history.proofs.Says.{mute_stranger}
use Rattle.sng_history.proofs.SaysUpstream.{take_none, up_none, mute_packet, mute_ping, foreign_source}
use Rattle.sng_history.proofs.Keeping.{each_left, exact_by}
use Rattle.sng_promise.proofs.Handing.SeenFollows.{View}
use Rattle.sng_promise.proofs.Handing.SeenHandingNotes.{at, Moved}
use Rattle.sng_promise.proofs.Handing.SeenProgress.{start_view, row_moved}
use Rattle.sng_promise.proofs.Handing.SeenViewNotes.{view_of}
use Rattle.sng_promise.proofs.Handing.SeenViews.{view_start, start_same, subscribe_same, event_fits}
use Rattle.sng_promise.proofs.Handing.SeenViews.{occasion_same}
use Rattle.sng_promise.proofs.Handing.SeenDue.{due_row}
use Rattle.sng_promise.proofs.Clients.SeenStart.{phase_start}
use Rattle.sng_promise.proofs.Handing.SeenMailed.{Mailed}
use Rattle.sng_promise.proofs.Clients.SeenStrangers.{parts_none, frame_none}
use Rattle.sng_promise.proofs.Clients.SeenOrder.{known_among}
use Rattle.sng_promise.proofs.Clients.SeenState.{Stands, stands}
use Rattle.sng_promise.proofs.Handing.LawSettled.{of_accepted}
use Rattle.sng_promise.proofs.Handing.LawInTurnNotes.{InNotes, moved_turns, outs_turns}

-- ---- a row, and a client that was accepted before

abbrev RowInTurn : Policy → List Row → Event → List Message → List Out → List ℕ → Type 0
RowInTurn policy h e due outs id =
    AllInTurn policy (occasion_of e) id due (message_at e) outs (moment_at id e h)

moment_same : (h : List Row) (e : Event) (v : View) (x y : Client) → view_start x.id e h ≡ v
    → phase_spoken x.id (own_message (phase_of x.id h) (address_of x.id h) e) (phase_of x.id h) ≡ Some y.phase
    → at v y ≡ moment_at x.id e h
moment_same h e v x y view phase =
    ap (λ w. at w y) (sym view)
    ∙ ap (λ p. let now : Moment = record {
      phase = p;
      told = (view_start x.id e h).told;
      known = (view_start x.id e h).known;
      progress =
          (view_start x.id e h).progress;
    } in now) (sym phase)

known_turn : (by : ℕ) (h : List Row) (s : State) (e : Event) (outs : List Out) (x : Client) → ClientShown h x
    → Mailed h x
    → notes_of x.id outs ≡ fixed_for s (cause_of e) x
    → RowInTurn (around s (cause_of e)).policy h e
    (due_of x.id (record { by = by; event = e; outs = outs } ∷ h)) outs x.id
known_turn by h s e outs x shown mailed own =
    let c = cause_of e in
    let a = around s c in
    let due = due_of x.id (record { by = by; event = e; outs = outs } ∷ h) in
    let fixed = fixed_for s c x in
    let first = start_view c x (view_of x.id h) in
    let y = start_by a x in
    let moved : Moved a x.id due fixed first y =
    subst (λ d. Moved a x.id d fixed first y) (sym (due_row by h s e outs x shown.phase shown.filters own))
    (row_moved s c x (due_of x.id h) (view_of x.id h) mailed) in
    let start : view_start x.id e h ≡ first =
    start_same h x e (record {
      phase = shown.phase;
      address = shown.address;
      number = mailed.given;
      exchange = mailed.exchange;
    }) in
    let by = occasion_of e in
    outs_turns a.policy by x.id due (message_at e) outs (moment_at x.id e h)
    (subst (λ notes. InNotes a.policy by x.id due (message_at e) notes (moment_at x.id e h)) (sym own)
    (subst (InNotes a.policy by x.id due (message_at e) fixed)
    (moment_same h e first x y start (phase_start h s e x shown.phase shown.address))
    (moved_turns a by x.id due (message_at e) fixed first y (occasion_same e) (event_fits e)
    (subscribe_same e) moved)))

-- ---- one that was not: its CONNECT alone is noted of it

abbrev Calm : List ℕ → List Out → Type 0
Calm id outs =
    (policy : Policy) (by : Occasion) (due : List Message) (m : Option Spoken) (now : Moment)
    → InNotes policy by id due m (notes_of id outs) now

none_calm : (id : List ℕ) (outs : List Out) → notes_of id outs ≡ [] → Calm id outs
none_calm id outs none policy by due m now =
    subst (λ notes. InNotes policy by id due m notes now) (sym none) tt

connect_calm : (id client : List ℕ) (o : Outcome) (rest : List Out) → notes_of id rest ≡ []
    → Calm id (Note (note.Connect client o) ∷ rest)
connect_calm id client o rest none policy by due m now =
    subst (λ notes. InNotes policy by id due m
    ((if bytes_eq id client then note.Connect client o ∷ [] else []) ++ notes) now) (sym none)
    (by_name (bytes_eq id client))
  where
    by_name : (b : Bool) → InNotes policy by id due m ((if b then note.Connect client o ∷ [] else []) ++ [])
        now
    by_name true = (tt, tt)
    by_name false = tt

entry_calm : (s : State) (from : Address) (connect : Connect) (id : List ℕ) (o : Outcome)
    → is_known id s.clients ≡ false
    → Calm id (entry_outs s from connect (notes_for s (ByConnect from connect)) o)
entry_calm s from connect id Allowed unknown =
    let away = unknown_away id s.clients unknown in
    connect_calm id connect.client_id Allowed
    (entry_row s from connect (notes_for s (ByConnect from connect)))
    (accepted_notes s from connect id
    ∙ rw (
      absent (beside_for s from connect) id s.clients (only_beside s from connect) away,
      absent
          (entering_for s from connect) id s.clients (only_entering s from connect) away,
    ) refl)
entry_calm s from connect id (Denied rule) unknown =
    connect_calm id connect.client_id (Denied rule) (connack from (code_of rule) ∷ []) refl

row_calm : (s : State) (c : Cause) (id : List ℕ) → is_known id s.clients ≡ false → Calm id (outs_by s c)
row_calm s (ByConnect from connect) id unknown = entry_calm s from connect id (entry s connect) unknown
row_calm s (ByMessage from request) id unknown =
    let c = ByMessage from request in
    none_calm id (outs_by s c)
    (frame_none s c (stranger_to from request) id (any_from c s.clients) refl unknown
    ((mute_stranger from request).notes id))
row_calm s (BySource from p) id unknown =
    none_calm id (outs_by s (BySource from p)) ((foreign_source s from.ip p).notes id)
row_calm s (ByBroken from rule) id unknown =
    let c = ByBroken from rule in
    none_calm id (outs_by s c)
    (frame_none s c (Note (note.Frame (who.Address from) (Denied rule)) ∷ []) id
    (any_from c s.clients) refl unknown refl)
row_calm s (ByPacket p) id unknown =
    let c = ByPacket p in
    let own = flat_map (part_for s c []) s.clients in
    let rest = answer_outs s.policy.limits s.up s.link (answer_of p) in
    none_calm id (own ++ rest)
    (notes_append id own rest
    ∙ (ap (λ notes. notes ++ notes_of id rest) (parts_none s c [] id unknown)
    ∙ (mute_packet s.policy.limits s.up s.link (answer_of p)).notes id))
row_calm s ByUp id unknown = none_calm id (outs_by s ByUp) (up_none s id)
row_calm s ByDown id unknown = none_calm id [] refl
row_calm s ByTake id unknown = none_calm id (outs_by s ByTake) (take_none s id s.up refl)
row_calm s (ByReplace policy) id unknown =
    let c = ByReplace policy in none_calm id (outs_by s c) (parts_none s c (drops_for s c) id unknown)
row_calm s (ByTick clock) id unknown =
    let c = ByTick clock in
    let own = flat_map (part_for s c []) s.clients in
    let now = later s.clock clock in
    let link = with_wills s.policy.limits s.link now s.clients in
    let rest = ping_dropped s.policy.limits s.up link now in
    none_calm id (own ++ rest)
    (notes_append id own rest
    ∙ (ap (λ notes. notes ++ notes_of id rest) (parts_none s c [] id unknown)
    ∙ (mute_ping s.policy.limits s.up link now).notes id))

-- ---- the law

row_turns : (by : ℕ) (h : List Row) (s : State) (e : Event) → Stands h s → (id : List ℕ)
    → let rows =
    record { by = by; event = e; outs = outs_of s e } ∷ h in
    RowInTurn (around s (cause_of e)).policy h e (due_of id rows) (outs_of s e) id
row_turns by h s e st id = by_known (is_among id (accepted h)) refl
  where
    by_known : (b : Bool) → is_among id (accepted h) ≡ b
        → let rows =
        record { by = by; event = e; outs = outs_of s e } ∷ h in
        RowInTurn (around s (cause_of e)).policy h e (due_of id rows) (outs_of s e) id
    by_known true is =
        let c = cause_of e in
        let outs = outs_of s e in
        let rows = record { by = by; event = e; outs = outs } ∷ h in
        let InRow : List ℕ → Type 0 = λ one. RowInTurn (around s c).policy h e (due_of one rows) outs one in
        let own =
        each_left (λ x. notes_of x.id outs ≡ fixed_for s c x) s.clients (newcomers_for s c)
        (says s c st.good.apart).own in
        of_accepted InRow s.clients id
        (each_with (λ x. ClientShown h x × Mailed h x) (λ x. notes_of x.id outs ≡ fixed_for s c x)
        (λ x. InRow x.id) s.clients
        (λ x both notes. known_turn by h s e outs x both.0 both.1 notes)
        (each_with (ClientShown h) (Mailed h) (λ x. ClientShown h x × Mailed h x) s.clients
        (λ x one two. (one, two)) st.shown.clients st.shown.mailed) own)
        (ap (is_among id) st.shown.order ∙ is)
    by_known false is =
        let outs = outs_of s e in
        let rows = record { by = by; event = e; outs = outs } ∷ h in
        let unknown : is_known id s.clients ≡ false =
        sym (known_among id s.clients) ∙ (ap (is_among id) st.shown.order ∙ is) in
        let policy = (around s (cause_of e)).policy in
        outs_turns policy (occasion_of e) id (due_of id rows) (message_at e) outs (moment_at id e h)
        (row_calm s (cause_of e) id unknown policy (occasion_of e) (due_of id rows) (message_at e)
        (moment_at id e h))

turn_row : (by : ℕ) (h : List Row) (s : State) (e : Event) (outs : List Out) (id : List ℕ)
    → outs ≡ outs_of s e → Stands h s
    → (around s (cause_of e)).policy ≡ last_policy (record { by = by; event = e; outs = outs } ∷ h)
    → let rows =
    record { by = by; event = e; outs = outs } ∷ h in
    RowInTurn (last_policy rows) h e (due_of id rows) outs id
turn_row by h s e outs id is st policy =
    let rows = record { by = by; event = e; outs = outs } ∷ h in
    subst (λ p. RowInTurn p h e (due_of id rows) outs id) policy
    (subst (λ o. RowInTurn (around s (cause_of e)).policy h e
    (due_of id (record { by = by; event = e; outs = o } ∷ h)) o id) (sym is)
    (row_turns by h s e st id))

pub turns_law : (h : List Row) → Lawful opening h → (id : List ℕ) → EachInTurn id h
turns_law [] l id = tt
turns_law (row ∷ h) l id =
    let s = state_of opening h in (
      turns_law h l.0 id,
      turn_row row.by h s row.event row.outs id (exact_by s (cause_of row.event) row.outs l.1) (stands h l.0)
          (stands (row ∷ h) l).shown.policy,
    )
