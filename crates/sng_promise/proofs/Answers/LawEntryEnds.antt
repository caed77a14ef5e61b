-- The verdict on a CONNECT by the law's table, and what it ends: another client at the address, the place
-- where the client was, and what a clean one ends.
use Rattle.std.proofs.Common.{◌≡◌, ℕ, Bool, true, false, List, [], ◌∷◌, ◌++◌, map, refl, ap, sym, ◌∙◌, subst}
use Rattle.std.proofs.Common.{if◌then◌else◌, length}
use Rattle.std.specs.Prelude.{◌&&◌, ◌||◌, ◌==◌, not, nat_lt, filter}
use Rattle.std.specs.List.{flat_map}
use Rattle.std.specs.Str.{bytes_eq}
use Rattle.std.proofs.lemmas.List.{append-nil}
use Rattle.sng_fan.specs.Subscriptions.{stands}
use Rattle.sng_policy.specs.Grants.{lists}
use Rattle.sng_states.specs.States.{has_session}
use Rattle.sng_frames.specs.declared.messages.connect.Connect.{Connect}
use Rattle.sng_book.specs.Denials.{is_allowed}
use Rattle.sng_book.specs.declared.address.Address.{Address}
use Rattle.sng_book.specs.declared.decision.Decision.{Decision}
use Rattle.sng_book.specs.declared.decision.Decision.TheVariants as note
use Rattle.sng_book.specs.declared.outcome.Place.TheVariants as place
use Rattle.sng_book.specs.declared.outcome.Denial.TheVariants.{Form, Grant, Room, Peer}
use Rattle.sng_book.specs.declared.outcome.FormDenial.TheVariants.{NotSupported}
use Rattle.sng_book.specs.declared.outcome.GrantDenial.TheVariants.{NoScope}
use Rattle.sng_book.specs.declared.outcome.RoomDenial.TheVariants.{Full}
use Rattle.sng_book.specs.declared.outcome.PeerDenial.TheVariants.{Gone}
use Rattle.sng_book.specs.declared.outcome.Outcome.{Outcome}
use Rattle.sng_book.specs.declared.outcome.Outcome.TheVariants.{Allowed, Denied}
use Rattle.sng_book.specs.declared.out.Out.{Out}
use Rattle.sng_book.specs.declared.out.Out.TheVariants.{Note}
use Rattle.sng_book.specs.declared.row.Row.{Row}
use Rattle.sng_history.specs.Causes.{ByConnect}
use Rattle.sng_history.specs.Clients.{Around, Client, same_address, is_here, cleaned, opened, gone}
use Rattle.sng_history.specs.Clients.{notes_by, is_drained}
use Rattle.sng_history.specs.State.{State, around, is_known}
use Rattle.sng_history.specs.Verdicts.{and_then, entry}
use Rattle.sng_history.specs.Answers.{dismissed}
use Rattle.sng_history.specs.Outgoing.{all_gone}
use Rattle.sng_history.specs.Whole.{spell, drained_outs, drops, moved, beside}
use Rattle.sng_history.specs.Steps.{notes_for, client_next}
use Rattle.sng_history.specs.Lawful.{entering_notes, fixed_for}
use Rattle.sng_history.specs.Entering.{entering, served, serving}
use Rattle.sng_history.specs.Standing.{drop_notes}
use Rattle.sng_history.specs.Good.{Each, Away, Distinct, AtRest}
use Rattle.sng_laws.specs.ViewsClients.{phase_of, address_of, is_among}
use Rattle.sng_laws.specs.ViewsClients.{accepted}
use Rattle.sng_laws.specs.LawsState.{ClientShown}
use Rattle.sng_laws.specs.LawsRules.{judged}
use Rattle.sng_laws.specs.LawsRules.{Rule}
use Rattle.sng_laws.specs.LawsEnds.{stays_by, clean_answer}
use Rattle.sng_laws.specs.LawsEnds.{untold}
use Rattle.sng_laws.specs.LawsHanding.{gone_answer}
use Rattle.sng_laws.specs.LawsAnswers.{connect_rules, bye_at, old_place, others_leave}
use Rattle.sng_history.proofs.Own.{same_means, flat_same, each_with}
use Rattle.sng_history.proofs.Hands.{served_steady, gone_stays}
use Rattle.sng_history.proofs.Kept.{client_id}
use Rattle.sng_history.proofs.Entries.{entering_next}
use Rattle.sng_promise.proofs.Clients.SeenClients.{heard_if}
use Rattle.sng_history.proofs.ClientIds.{ids_of}
use Rattle.sng_promise.proofs.Clients.SeenOrder.{known_among, StateShown}
use Rattle.sng_promise.proofs.Clients.SeenState.{Stands}
use Rattle.sng_promise.proofs.Clients.LawHere.{here, those_kept, settled}
use Rattle.sng_promise.proofs.Standing.LawEnds.{Kept, drops_shown}
use Rattle.sng_promise.proofs.Answers.LawDisconnects.{gone_spelled}
use Rattle.sng_history.proofs.Booleans.{and_no}
use Rattle.sng_history.proofs.ClientIds.{length_ids}
use Rattle.sng_grants.specs.declared.policy.Policy.{Policy}
use Rattle.sng_grants.specs.Limits.{Limits}
use Rattle.sng_laws.specs.Views.{last_policy}

-- ---- the verdict

ruled : (id : List ℕ) (p l k r : Bool)
    → and_then (if p then Allowed else Denied (Form NotSupported))
    (and_then (if l then Allowed else Denied (Grant (NoScope id)))
    (if k || r then Allowed else Denied (Room (Full place.Clients))))
    ≡ judged ((not p, Form NotSupported) ∷ (not l, Grant (NoScope id))
    ∷ (not k && not r, Room (Full place.Clients)) ∷ [])
ruled id false l k r = refl
ruled id true false k r = refl
ruled id true true true r = refl
ruled id true true false true = refl
ruled id true true false false = refl

-- the rules, by these limits
abbrev rules_by : List Row → Connect → Limits → List Rule
rules_by h c limits =
    (not (c.protocol_id == 1), Form NotSupported)
    ∷ (not (lists (last_policy h) c.client_id), Grant (NoScope c.client_id))
    ∷ (
      not (is_among c.client_id (accepted h)) && not (nat_lt (length (accepted h)) limits.clients),
      Room (Full place.Clients),
    )
    ∷ []

pub entry_ruled : (h : List Row) (s : State) (c : Connect) → StateShown h s
    → entry s c ≡ judged (connect_rules h c)
entry_ruled h s c shown =
    let first : entry s c ≡ judged (rules_by h c s.policy.limits) =
    rw (sym shown.policy, sym shown.order, known_among c.client_id s.clients, length_ids s.clients)
    (ruled c.client_id (c.protocol_id == 1) (lists s.policy c.client_id) (is_known c.client_id s.clients)
    (nat_lt (length s.clients) s.policy.limits.clients)) in
    first ∙ ap (λ (p : Policy). judged (rules_by h c p.limits)) shown.policy

-- ---- another client at the address leaves

-- it leaves, and what waits for it is gone
abbrev leaves : List Row → List ℕ → List Out
leaves h other = Note (note.Left other) ∷ gone_answer h other

gone_by : (h : List Row) (s : State) (from : Address) (c : Connect) (x : Client) → ClientShown h x
    → spell (around s (ByConnect from c)) [] (heard_if true s.clock x)
    (note.Left x.id ∷ all_gone x.id x.buffer.waiting) ≡ leaves h x.id
gone_by h s from c x shown =
    ap (λ outs. Note (note.Left x.id) ∷ outs)
    (gone_spelled (around s (ByConnect from c)) [] x.id x.buffer.waiting (gone (heard_if true s.clock x)))
    ∙ ap (λ waiting. Note (note.Left x.id)
    ∷ map (λ m. Note (note.Hand x.id m.name (Denied (Peer Gone)))) waiting)
    shown.waiting

other_by : (h : List Row) (s : State) (from : Address) (c : Connect) (x : Client) (own here : Bool)
    (o : Outcome) (enters : List Decision)
    → o ≡ Allowed → ClientShown h x → is_drained x ≡ false
    → let a = around s (ByConnect from c) in
    let notes =
    if own then note.Connect x.id o ∷ enters else
    (if is_allowed o then (if here then note.Left x.id ∷ all_gone x.id x.buffer.waiting else []) else []) in
    (if own
    then []
    else (if here then [] else []) ++
    (spell a [] (heard_if here s.clock x) notes ++ drained_outs (notes_by a notes (heard_if here s.clock x))))
    ≡ (if not own then (if here then leaves h x.id else []) else [])
other_by h s from c x true here o enters is shown busy = refl
other_by h s from c x false true Allowed enters is shown busy =
    let a = around s (ByConnect from c) in
    let y = heard_if true s.clock x in
    let outs = spell a [] y (note.Left x.id ∷ all_gone x.id x.buffer.waiting) in
    ap (λ z. outs ++ drained_outs z) (gone_stays a x.id x.buffer.waiting (gone y) refl)
    ∙ (append-nil outs ∙ gone_by h s from c x shown)
other_by h s from c x false false Allowed enters is shown busy = settled [] x busy
other_by h s from c x false here (Denied rule) enters is shown busy = absurd (let e = is in cc)

other_part : (h : List Row) (s : State) (from : Address) (c : Connect) (x : Client) → entry s c ≡ Allowed
    → ClientShown h x
    → is_drained x ≡ false
    → beside (around s (ByConnect from c)) (notes_for s (ByConnect from c)) c.client_id x
    ≡ (if not (bytes_eq c.client_id x.id) then (if is_here x from then leaves h x.id else []) else [])
other_part h s from c x is shown busy =
    other_by h s from c x (bytes_eq c.client_id x.id) (is_here x from) (entry s c)
    (entering_notes s from c x (entry s c)) is shown busy

one_of : (h : List Row) (id : List ℕ) (x : Client) (own here : Bool) (xs : List Client)
    → bytes_eq id x.id ≡ own
    → (if not own then (if here then leaves h x.id else []) else [])
    ++ flat_map (leaves h) (filter (λ other. not (bytes_eq id other)) (ids_of xs))
    ≡ flat_map (leaves h) (filter (λ other. not (bytes_eq id other)) (ids_of (if here then x ∷ xs else xs)))
one_of h id x true true xs is = rw is refl
one_of h id x true false xs is = refl
one_of h id x false true xs is = rw is refl
one_of h id x false false xs is = refl

others_by : (h : List Row) (from : Address) (id : List ℕ) (xs : List Client)
    → flat_map (λ x. if not (bytes_eq id x.id) then (if is_here x from then leaves h x.id else []) else []) xs
    ≡ flat_map (leaves h) (filter (λ other. not (bytes_eq id other)) (ids_of (here from xs)))
others_by h from id [] = refl
others_by h from id (x ∷ xs) =
    ap (λ outs. (if not (bytes_eq id x.id) then (if is_here x from then leaves h x.id else []) else [])
    ++ outs) (others_by h from id xs)
    ∙ one_of h id x (bytes_eq id x.id) (is_here x from) (here from xs) refl

pub others_row : (h : List Row) (s : State) (from : Address) (c : Connect) → Stands h s → entry s c ≡ Allowed
    → flat_map (beside (around s (ByConnect from c)) (notes_for s (ByConnect from c)) c.client_id) s.clients
    ≡ others_leave h from c.client_id
others_row h s from c st is =
    let id = c.client_id in
    let f : Client → List Out = beside (around s (ByConnect from c)) (notes_for s (ByConnect from c)) id in
    let g : Client → List Out =
    λ x. if not (bytes_eq id x.id) then (if is_here x from then leaves h x.id else []) else [] in
    flat_same f g s.clients
    (each_with (ClientShown h) AtRest (λ x. f x ≡ g x) s.clients
    (λ x known rest. other_part h s from c x is known rest.busy) st.shown.clients st.good.rest)
    ∙ (others_by h from id s.clients
    ∙ ap (λ ids. flat_map (leaves h) (filter (λ other. not (bytes_eq id other)) ids))
    (sym (those_kept h s from st.shown)))

-- ---- where the client was

nowhere : (from : Address) (id : List ℕ) (xs : List Client) → Away id xs → flat_map (moved from id) xs ≡ []
nowhere from id [] away = refl
nowhere from id (x ∷ xs) away = rw (away.0, nowhere from id xs away.1) refl

only_if : (b : Bool) (to : Address)
    → (if b then dismissed to ∷ [] else []) ++ [] ≡ (if b then dismissed to ∷ [] else [])
only_if true to = refl
only_if false to = refl

own_place : (h : List Row) (from : Address) (id : List ℕ) (x : Client) → ClientShown h x → id ≡ x.id
    → (if has_session x.phase && not (same_address x.address from) then dismissed x.address ∷ [] else [])
    ≡ bye_at (phase_of id h) (address_of id h) from
own_place h from id x shown is = rw (is, shown.phase, shown.address) refl

abbrev place_of : List Row → Address → List ℕ → List Client → List Out
place_of h from id xs = if is_among id (ids_of xs) then bye_at (phase_of id h) (address_of id h) from else []

place_by : (h : List Row) (from : Address) (id : List ℕ) (x : Client) (xs : List Client) (own : Bool)
    → bytes_eq id x.id ≡ own
    → ClientShown h x → Away x.id xs
    → flat_map (moved from id) xs ≡ place_of h from id xs
    → (if own then (if has_session x.phase && not (same_address x.address from) then dismissed x.address ∷ []
    else []) else []) ++ flat_map (moved from id) xs
    ≡ (if own || is_among id (ids_of xs) then bye_at (phase_of id h) (address_of id h) from else [])
place_by h from id x xs true is shown away rest =
    let same : id ≡ x.id = same_means id x.id is in
    let away_from : bytes_eq id x.id ≡ true = is in
    ap (λ outs. (if has_session x.phase && not (same_address x.address from) then dismissed x.address ∷ []
    else []) ++ outs)
    (nowhere from id xs (subst (λ i. Away i xs) (sym same) away))
    ∙ (only_if (has_session x.phase && not (same_address x.address from)) x.address
    ∙ own_place h from id x shown same)
place_by h from id x xs false is shown away rest = rest

place_row : (h : List Row) (from : Address) (id : List ℕ) (xs : List Client) → Each (ClientShown h) xs
    → Distinct xs
    → flat_map (moved from id) xs ≡ place_of h from id xs
place_row h from id [] shown apart = refl
place_row h from id (x ∷ xs) shown apart =
    place_by h from id x xs (bytes_eq id x.id) refl shown.0 apart.0 (place_row h from id xs shown.1 apart.1)

pub old_row : (h : List Row) (s : State) (from : Address) (id : List ℕ) → Stands h s
    → flat_map (moved from id) s.clients ≡ old_place h from id
old_row h s from id st =
    place_row h from id s.clients st.shown.clients st.good.apart
    ∙ ap (λ ids. if is_among id ids then bye_at (phase_of id h) (address_of id h) from else []) st.shown.order

-- ---- what a clean one ends

all_of : (b : Bool) → b ≡ (b && true)
all_of true = refl
all_of false = refl

-- the client where it is let in, but for what begins and ends then
abbrev pub coming : ℕ → Address → Connect → Client → Client
coming clock from c x = record x { address = from; ids = []; duration = c.duration; heard = clock }

opened_filters : (will : Bool) (y : Client) → (opened will y).filters ≡ y.filters
opened_filters true y = refl
opened_filters false y = refl

kept_by : (h : List Row) (s : State) (from : Address) (c : Connect) (x : Client) (clean own here : Bool)
    → c.flags.clean ≡ clean
    → bytes_eq c.client_id x.id ≡ own → is_here x from ≡ here
    → (text : List ℕ) → stands (entering s.clock from c x).filters text
    ≡ (stands x.filters text && stays_by c x.id text)
kept_by h s from c x true true here cleans same at text =
    rw (same, cleans, opened_filters c.flags.will (cleaned true (coming s.clock from c x)))
    (nothing (stands x.filters text))
  where
    nothing : (b : Bool) → false ≡ (b && false)
    nothing true = refl
    nothing false = refl
kept_by h s from c x false true here cleans same at text =
    rw (same, cleans, opened_filters c.flags.will (cleaned false (coming s.clock from c x)))
    (all_of (stands x.filters text))
kept_by h s from c x clean false true cleans same at text =
    rw (same, at, and_no c.flags.clean) (all_of (stands x.filters text))
kept_by h s from c x clean false false cleans same at text =
    rw (same, at, and_no c.flags.clean) (all_of (stands x.filters text))

-- who is served keeps the filters that stand for it
serving_filters : (a : Around) (id : List ℕ) (y : Client) → (serving a id y).filters ≡ y.filters
serving_filters a id y = served_if (bytes_eq id y.id)
  where
    served_if : (b : Bool) → (let z : Client = if b then served a y else y in z).filters ≡ y.filters
    served_if true = (served_steady a y).filters
    served_if false = refl

kept_entry : (h : List Row) (s : State) (from : Address) (c : Connect) (x : Client) → entry s c ≡ Allowed
    → ClientShown h x
    → is_drained x ≡ false → Kept h (stays_by c) x (client_next s (ByConnect from c) x)
kept_entry h s from c x is shown busy = record {
  id = client_id (around s (ByConnect from c)) (fixed_for s (ByConnect from c) x) x;
  was = shown.filters;
  now = λ text.
      let y = entering s.clock from c x in
      ap (λ z. stands z.filters text) (entering_next s from c x busy is)
      ∙ (ap (λ held. stands held text) (serving_filters (around s (ByConnect from c)) c.client_id y)
      ∙ kept_by h s from c x c.flags.clean (bytes_eq c.client_id x.id) (is_here x from) refl refl refl text);
}

pub clean_row : (h : List Row) (s : State) (from : Address) (c : Connect) → Stands h s → entry s c ≡ Allowed
    → drop_notes (drops s (ByConnect from c) (notes_for s (ByConnect from c))) ≡ clean_answer h c
clean_row h s from c st is =
    drops_shown h s (ByConnect from c) (stays_by c) st.shown
    (each_with (ClientShown h) AtRest
    (λ x. Kept h (stays_by c) x (client_next s (ByConnect from c) x)) s.clients
    (λ x known rest. kept_entry h s from c x is known rest.busy) st.shown.clients st.good.rest)
    ∙ ap (λ (p : Policy). map (λ end. Note note.Outbox) (untold p.limits h (stays_by c))) st.shown.policy
