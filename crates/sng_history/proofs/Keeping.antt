-- A step keeps a history lawful and leads to the next state, and a row is lawful only if its outs are those
-- of the step.
use Rattle.std.proofs.Common.{◌≡◌, List, [], ◌∷◌, ◌++◌, map, refl, ap, sym, ◌∙◌, subst}
use Rattle.std.specs.Prelude.{drop, if◌then◌else◌, Some}
use Rattle.std.specs.List.{flat_map}
use Rattle.std.specs.Str.{bytes_eq}
use Rattle.std.proofs.lemmas.List.{append-nil}
use Rattle.sng_frames.specs.declared.messages.connect.Connect.{Connect}
use Rattle.sng_book.specs.declared.address.Address.{Address}
use Rattle.sng_book.specs.declared.decision.Decision.{Decision}
use Rattle.sng_book.specs.declared.decision.Decision.TheVariants as note
use Rattle.sng_book.specs.declared.decision.Who.TheVariants as who
use Rattle.sng_book.specs.declared.outcome.Outcome.{Outcome}
use Rattle.sng_book.specs.declared.outcome.Outcome.TheVariants.{Allowed, Denied}
use Rattle.sng_book.specs.declared.event.Event.{Event}
use Rattle.sng_book.specs.declared.out.Out.{Out}
use Rattle.sng_book.specs.declared.out.Out.TheVariants.{Note}
use Rattle.sng_history.specs.Causes.{Cause, cause_of, ByConnect, ByMessage, BySource, ByBroken, ByPacket}
use Rattle.sng_history.specs.Causes.{ByUp, ByDown, ByTake, ByReplace, ByTick}
use Rattle.sng_history.specs.Clients.{Client, let_in, client_by}
use Rattle.sng_history.specs.Notes.{notes_of}
use Rattle.sng_history.specs.State.{State, around, later, after, state_of, present_in, newcomers, clients_by}
use Rattle.sng_history.specs.State.{asked_by, asked_in, policy_by}
use Rattle.sng_history.specs.Packets.{answer_of, answer_outs}
use Rattle.sng_history.specs.Ticking.{with_wills, ping_dropped}
use Rattle.sng_history.specs.Standing.{Release, released, dropped_of}
use Rattle.sng_history.specs.Verdicts.{entry, source_ask}
use Rattle.sng_history.specs.Whole.{Notes, notes_in, spell, part, any_from, stranger_to, moved_by, drops}
use Rattle.sng_history.specs.Whole.{client_rows, frame_row, beside, entering_part, entry_outs, whole_by}
use Rattle.sng_history.specs.Lawful.{LawfulBy, LawfulRow, EachLawful, Keeps, fixed_for}
use Rattle.sng_history.specs.Steps.{notes_for, outs_by, outs_of, newcomers_for, client_next, clients_next}
use Rattle.sng_history.specs.Steps.{asked_for, next_by, next_of}
use Rattle.sng_history.specs.Good.{Each, Good}
use Rattle.sng_history.proofs.Own.{each_map, flat_same, map_same}
use Rattle.sng_history.specs.Exits.{beginning}
use Rattle.sng_history.proofs.Says.{says, message_asks}

-- ---- a row is what its notes make it

abbrev NotesAgree : (Client → List Decision) → (Client → List Decision) → List Client → Type 0
NotesAgree f g xs = Each (λ x. f x ≡ g x) xs

-- the clients after the row are the same, and so is what is dropped
moved_same : (s : State) (c : Cause) (m n : Notes) → NotesAgree m.of n.of s.clients
    → moved_by s c m ≡ moved_by s c n
moved_same s c m n same =
    map_same (λ x. client_by (around s c) (m.of x) x) (λ x. client_by (around s c) (n.of x) x) s.clients
    (each_map (λ x. m.of x ≡ n.of x)
    (λ x. client_by (around s c) (m.of x) x ≡ client_by (around s c) (n.of x) x) s.clients
    (λ x is. ap (λ notes. client_by (around s c) notes x) is) same)

drops_same : (s : State) (c : Cause) (m n : Notes) → NotesAgree m.of n.of s.clients
    → drops s c m ≡ drops s c n
drops_same s c m n same =
    ap (λ xs. dropped_of (policy_by c s.policy).limits s.link (released s.clients xs)) (moved_same s c m n same)

rows_same : (s : State) (c : Cause) (dropped : List Release) (m n : Notes) → NotesAgree m.of n.of s.clients
    → client_rows s c dropped m ≡ client_rows s c dropped n
rows_same s c dropped m n same =
    flat_same (λ x. part (around s c) dropped (m.of x) x)
    (λ x. part (around s c) dropped (n.of x) x) s.clients
    (each_map (λ x. m.of x ≡ n.of x)
    (λ x. part (around s c) dropped (m.of x) x ≡ part (around s c) dropped (n.of x) x) s.clients
    (λ x is. ap (λ notes. part (around s c) dropped notes x) is) same)

both_same : (s : State) (c : Cause) (m n : Notes) → NotesAgree m.of n.of s.clients
    → client_rows s c (drops s c m) m ≡ client_rows s c (drops s c n) n
both_same s c m n same =
    ap (λ dropped. client_rows s c dropped m) (drops_same s c m n same) ∙ rows_same s c (drops s c n) m n same

frame_same : (s : State) (c : Cause) (stranger : List Out) (m n : Notes) → NotesAgree m.of n.of s.clients
    → frame_row s c stranger m ≡ frame_row s c stranger n
frame_same s c stranger m n same =
    ap (λ outs. if any_from c s.clients then outs else stranger) (both_same s c m n same)

entry_same : (s : State) (from : Address) (connect : Connect) (m n : Notes) (o : Outcome)
    → NotesAgree m.of n.of s.clients → entry_outs s from connect m o ≡ entry_outs s from connect n o
entry_same s from connect m n Allowed same =
    let c = ByConnect from connect in
    let a = around s c in
    let id = connect.client_id in
    let parts : flat_map (beside a m id) s.clients ≡ flat_map (beside a n id) s.clients =
    flat_same (beside a m id) (beside a n id) s.clients
    (each_map (λ x. m.of x ≡ n.of x) (λ x. beside a m id x ≡ beside a n id x) s.clients
    (λ x is. ap (λ notes. if bytes_eq id x.id then [] else part a [] notes x) is) same) in
    let own : flat_map (entering_part a m from connect) s.clients
    ≡ flat_map (entering_part a n from connect) s.clients =
    flat_same (entering_part a m from connect) (entering_part a n from connect) s.clients
    (each_map (λ x. m.of x ≡ n.of x)
    (λ x. entering_part a m from connect x ≡ entering_part a n from connect x) s.clients
    (λ x is. ap (λ notes. if bytes_eq id x.id then spell a [] (let_in a.clock from connect x) (drop 1 notes)
    else []) is) same) in
    rw (parts, own, drops_same s c m n same) refl
entry_same s from connect m n (Denied rule) same = refl

take_same : (s : State) (m n : Notes) → m.exits ≡ n.exits → whole_by s ByTake m ≡ whole_by s ByTake n
take_same s m n same = rw same refl

whole_same : (s : State) (c : Cause) (m n : Notes) → m.exits ≡ n.exits → NotesAgree m.of n.of s.clients
    → whole_by s c m ≡ whole_by s c n
whole_same s (ByConnect from connect) m n exits same = entry_same s from connect m n (entry s connect) same
whole_same s ByTake m n exits same = take_same s m n exits
whole_same s (ByMessage from request) m n exits same =
    frame_same s (ByMessage from request) (stranger_to from request) m n same
whole_same s (BySource from p) m n exits same = refl
whole_same s (ByBroken from rule) m n exits same =
    frame_same s (ByBroken from rule) (Note (note.Frame (who.Address from) (Denied rule)) ∷ []) m n same
whole_same s (ByPacket p) m n exits same =
    ap (λ outs. outs ++ answer_outs s.policy.limits s.up s.link (answer_of p)) (rows_same s (ByPacket p) [] m n same)
whole_same s ByUp m n exits same = ap (beginning s.link s.clock) exits
whole_same s ByDown m n exits same = refl
whole_same s (ByReplace policy) m n exits same = both_same s (ByReplace policy) m n same
whole_same s (ByTick clock) m n exits same =
    let now = later s.clock clock in
    let limits = s.policy.limits in
    ap (λ outs. outs ++ ping_dropped limits s.up (with_wills limits s.link now s.clients) now)
    (rows_same s (ByTick clock) [] m n same)

pub each_left : (P : Client → Type 0) (xs ys : List Client) → Each P (xs ++ ys) → Each P xs
each_left P [] ys all = tt
each_left P (x ∷ xs) ys all = (all.0, each_left P xs ys all.1)

each_lawful : (s : State) (c : Cause) (outs : List Out) (xs : List Client)
    → Each (λ x. notes_of x.id outs ≡ fixed_for s c x) xs → EachLawful s c outs xs
each_lawful s c outs [] own = tt
each_lawful s c outs (x ∷ xs) own = (record { fixed = own.0 }, each_lawful s c outs xs own.1)

pub lawful_row : (s : State) (c : Cause) → Good s → LawfulBy s c (outs_by s c)
lawful_row s c good =
    let all = says s c good.apart in
    let outs = outs_by s c in
    let same : Each (λ x. notes_of x.id outs ≡ fixed_for s c x) s.clients =
    each_left (λ x. notes_of x.id outs ≡ fixed_for s c x) s.clients (newcomers_for s c) all.own in
    record {
      whole =
          whole_same s c (notes_for s c) (notes_in outs) (sym all.exits)
          (each_map (λ x. notes_of x.id outs ≡ fixed_for s c x)
          (λ x. fixed_for s c x ≡ notes_of x.id outs) s.clients (λ x is. sym is) same);
      exits = all.exits;
      clients =
          each_lawful s c outs (present_in c s.clients outs)
          (subst (λ xs. Each (λ x. notes_of x.id outs ≡ fixed_for s c x) (s.clients ++ xs))
          (sym all.new) all.own);
    }

lawful_notes : (s : State) (c : Cause) (outs : List Out) (xs : List Client) → EachLawful s c outs xs
    → Each (λ x. notes_of x.id outs ≡ fixed_for s c x) xs
lawful_notes s c outs [] each = tt
lawful_notes s c outs (x ∷ xs) each = (each.0.fixed, lawful_notes s c outs xs each.1)

-- a lawful row lets out what the step does
pub exact_by : (s : State) (c : Cause) (outs : List Out) → LawfulBy s c outs → outs ≡ outs_by s c
exact_by s c outs l =
    l.whole
    ∙ whole_same s c (notes_in outs) (notes_for s c) l.exits
    (each_left (λ x. notes_of x.id outs ≡ fixed_for s c x) s.clients (newcomers c s.clients outs)
    (lawful_notes s c outs (present_in c s.clients outs) l.clients))

pub exactly : (s : State) (e : Event) (outs : List Out) → Good s
    → (LawfulRow s e outs → outs ≡ outs_of s e) × (outs ≡ outs_of s e → LawfulRow s e outs)
exactly s e outs good =
    (exact_by s (cause_of e) outs, λ is. subst (LawfulRow s e) (sym is) (lawful_row s (cause_of e) good))

-- ---- the state after it

clients_same : (s : State) (c : Cause) → Good s → clients_by s c (outs_by s c) ≡ clients_next s c
clients_same s c good =
    let all = says s c good.apart in
    let outs = outs_by s c in
    ap (λ xs. map (λ x. client_by (around s c) (notes_of x.id outs) x) (s.clients ++ xs)) all.new
    ∙ map_same (λ x. client_by (around s c) (notes_of x.id outs) x) (client_next s c)
    (s.clients ++ newcomers_for s c)
    (each_map (λ x. notes_of x.id outs ≡ fixed_for s c x)
    (λ x. client_by (around s c) (notes_of x.id outs) x ≡ client_next s c x)
    (s.clients ++ newcomers_for s c)
    (λ x is. ap (λ notes. client_by (around s c) notes x) is) all.own)

asked_same : (s : State) (c : Cause) → asked_in c (outs_by s c) ≡ asked_for s c
asked_same s (BySource from p) = append-nil (asked_by (Some p) (source_ask s from.ip p))
asked_same s (ByMessage from request) = message_asks s from request
asked_same s (ByConnect from connect) = refl
asked_same s (ByBroken from rule) = refl
asked_same s (ByPacket p) = refl
asked_same s ByUp = refl
asked_same s ByDown = refl
asked_same s ByTake = refl
asked_same s (ByReplace policy) = refl
asked_same s (ByTick clock) = refl

pub next_same : (s : State) (c : Cause) → Good s → after s c (outs_by s c) ≡ next_by s c
next_same s c good = rw (asked_same s c, clients_same s c good, (says s c good.apart).exits) refl

-- a step of a good state keeps the law
pub step_kept : (s : State) (e : Event) → Good s → Keeps s e (outs_of s e) (next_of s e)
step_kept s e good by first h lawful leads =
    let was : Good (state_of first h) = subst Good leads good in (
      rw leads (lawful, lawful_row (state_of first h) (cause_of e) was),
      rw leads (sym (next_same (state_of first h) (cause_of e) was)),
    )
