-- What waits for the client that connects, and what a row with a CONNECT lets out.
use Rattle.std.proofs.Common.{◌≡◌, ℕ, Bool, true, false, List, [], ◌∷◌, ◌++◌, map, refl, ap, sym, ◌∙◌, subst}
use Rattle.std.proofs.Common.{if◌then◌else◌, ◌≤◌}
use Rattle.std.specs.Prelude.{◌||◌, drop}
use Rattle.std.specs.List.{flat_map}
use Rattle.std.specs.Str.{bytes_eq}
use Rattle.std.proofs.lemmas.List.{append-nil}
use Rattle.sng_frames.specs.declared.messages.connect.Connect.{Connect}
use Rattle.sng_book.specs.Denials.{is_allowed}
use Rattle.sng_book.specs.declared.address.Address.{Address}
use Rattle.sng_book.specs.declared.decision.Decision.TheVariants as note
use Rattle.sng_book.specs.declared.outcome.Denial.TheVariants.{Peer}
use Rattle.sng_book.specs.declared.outcome.PeerDenial.TheVariants.{Gone}
use Rattle.sng_book.specs.declared.outcome.Outcome.{Outcome}
use Rattle.sng_book.specs.declared.outcome.Outcome.TheVariants.{Allowed, Denied}
use Rattle.sng_book.specs.declared.out.Out.{Out}
use Rattle.sng_book.specs.declared.out.Out.TheVariants.{Note}
use Rattle.sng_book.specs.declared.row.Row.{Row}
use Rattle.sng_history.specs.Causes.{ByConnect}
use Rattle.sng_history.specs.Clients.{Client, is_here, cleaned, opened, let_in}
use Rattle.sng_history.specs.State.{State, around}
use Rattle.sng_history.specs.Verdicts.{entry}
use Rattle.sng_history.specs.Answers as answers
use Rattle.sng_history.specs.Answers.{connack}
use Rattle.sng_history.specs.Outgoing.{handed_over, all_gone}
use Rattle.sng_history.specs.Whole as whole
use Rattle.sng_history.specs.Whole.{spell, entering_part, entry_outs}
use Rattle.sng_history.specs.Steps.{notes_for}
use Rattle.sng_history.specs.Lawful.{entering_notes}
use Rattle.sng_history.specs.Good.{Each, Away, Distinct}
use Rattle.sng_laws.specs.ViewsClients.{is_among, accepted}
use Rattle.sng_laws.specs.ViewsHanding.{waits_for, progress_of}
use Rattle.sng_laws.specs.LawsState.{ClientShown}
use Rattle.sng_laws.specs.LawsHanding.{mailing, handed_out, gone_answer, around_welcome}
use Rattle.sng_laws.specs.LawsAnswers.{entry_answer}
use Rattle.sng_laws.specs.LawsAnswers.{connect_answer}
use Rattle.sng_history.proofs.Own.{same_means}
use Rattle.sng_history.proofs.ClientIds.{ids_of}
use Rattle.sng_promise.proofs.Clients.SeenOrder.{StateShown}
use Rattle.sng_promise.proofs.Clients.SeenState.{Stands}
use Rattle.sng_promise.proofs.Handing.LawTurnFrames.{last_within}
use Rattle.sng_promise.proofs.Handing.LawTurns.{handed_shown}
use Rattle.sng_promise.proofs.Answers.LawUnsupported.{code_same}
use Rattle.sng_promise.proofs.Answers.LawDisconnects.{gone_spelled}
use Rattle.sng_promise.proofs.Answers.LawEntryEnds.{entry_ruled, others_row, old_row, coming, clean_row}

-- ---- what waits for the one that connects

-- who is let in is told no id yet, and takes what waits where its session is not clean, and it states no will
-- first
abbrev welcome : List Row → Address → List ℕ → List Out
welcome h from id = handed_out (record (mailing h id from) { told = []; known = [] }) (waits_for id h)

abbrev own_answer : List Row → Address → List ℕ → Bool → Bool → List Out
own_answer h from id true will = gone_answer h id
own_answer h from id false true = []
own_answer h from id false false = welcome h from id

served_by : (h : List Row) (s : State) (from : Address) (c : Connect) (x : Client) (clean will : Bool)
    → StateShown h s → ClientShown h x
    → (let y = opened will (cleaned clean (coming s.clock from c x)) in
    spell (around s (ByConnect from c)) [] y
    (if clean then all_gone x.id x.buffer.waiting else handed_over s.policy y))
    ≡ own_answer h from x.id clean will
served_by h s from c x true will state shown =
    gone_spelled (around s (ByConnect from c)) [] x.id x.buffer.waiting
    (opened will (cleaned true (coming s.clock from c x)))
    ∙ ap (λ waiting. map (λ m. Note (note.Hand x.id m.name (Denied (Peer Gone)))) waiting) shown.waiting
served_by h s from c x false true state shown = refl
served_by h s from c x false false state shown =
    let within : x.number ≤ 65535 = (rw shown.number (last_within (progress_of x.id h).numbered)) in
    handed_shown (around s (ByConnect from c)) []
    (opened false (cleaned false (coming s.clock from c x))) [] [] refl refl within
    ∙ (rw (shown.number, shown.waiting, state.policy) refl)

entering_by : (h : List Row) (s : State) (from : Address) (c : Connect) (x : Client) (own : Bool)
    (o : Outcome)
    → bytes_eq c.client_id x.id ≡ own → o ≡ Allowed → StateShown h s → ClientShown h x
    → (if own
    then spell (around s (ByConnect from c)) [] (let_in s.clock from c x)
    (drop 1 (if own then note.Connect x.id o ∷ entering_notes s from c x o else
    (if is_allowed o then (if is_here x from then note.Left x.id ∷ all_gone x.id x.buffer.waiting else [])
    else [])))
    else [])
    ≡ (if own then own_answer h from c.client_id c.flags.clean c.flags.will else [])
entering_by h s from c x true Allowed is may state shown =
    served_by h s from c x c.flags.clean c.flags.will state shown
    ∙ ap (λ id. own_answer h from id c.flags.clean c.flags.will) (sym (same_means c.client_id x.id is))
entering_by h s from c x true (Denied rule) is may state shown = absurd (let e = may in cc)
entering_by h s from c x false o is may state shown = refl

-- it is one of the clients, or nothing waits for it
abbrev own_of : List Row → Address → Connect → List Client → List Out
own_of h from c xs =
    if is_among c.client_id (ids_of xs) then own_answer h from c.client_id c.flags.clean c.flags.will else []

own_none : (h : List Row) (s : State) (from : Address) (c : Connect) (xs : List Client) → Away c.client_id xs
    → flat_map (entering_part (around s (ByConnect from c)) (notes_for s (ByConnect from c)) from c) xs ≡ []
own_none h s from c [] away = refl
own_none h s from c (x ∷ xs) away = rw (away.0, own_none h s from c xs away.1) refl

own_first : (h : List Row) (s : State) (from : Address) (c : Connect) (x : Client) (xs : List Client)
    (own : Bool)
    → bytes_eq c.client_id x.id ≡ own → Away x.id xs
    → flat_map (entering_part (around s (ByConnect from c)) (notes_for s (ByConnect from c)) from c) xs
    ≡ own_of h from c xs
    → (if own then own_answer h from c.client_id c.flags.clean c.flags.will else [])
    ++ flat_map (entering_part (around s (ByConnect from c)) (notes_for s (ByConnect from c)) from c) xs
    ≡ (if own || is_among c.client_id (ids_of xs)
    then own_answer h from c.client_id c.flags.clean c.flags.will else [])
own_first h s from c x xs true is away rest =
    let same : c.client_id ≡ x.id = same_means c.client_id x.id is in
    ap (λ outs. own_answer h from c.client_id c.flags.clean c.flags.will ++ outs)
    (own_none h s from c xs (subst (λ i. Away i xs) (sym same) away))
    ∙ append-nil (own_answer h from c.client_id c.flags.clean c.flags.will)
own_first h s from c x xs false is away rest = rest

own_parts : (h : List Row) (s : State) (from : Address) (c : Connect) (xs : List Client) → entry s c ≡ Allowed
    → StateShown h s
    → Each (ClientShown h) xs → Distinct xs
    → flat_map (entering_part (around s (ByConnect from c)) (notes_for s (ByConnect from c)) from c) xs
    ≡ own_of h from c xs
own_parts h s from c [] may state shown apart = refl
own_parts h s from c (x ∷ xs) may state shown apart =
    ap (λ outs. outs ++ flat_map (entering_part (around s (ByConnect from c))
    (notes_for s (ByConnect from c)) from c) xs)
    (entering_by h s from c x (bytes_eq c.client_id x.id) (entry s c) refl may state shown.0)
    ∙ own_first h s from c x xs (bytes_eq c.client_id x.id) refl apart.0
    (own_parts h s from c xs may state shown.1 apart.1)

-- nothing waits for who was never accepted
abbrev pub NoneWaits : List Row → List ℕ → Type 0
NoneWaits h id = is_among id (accepted h) ≡ false → waits_for id h ≡ []

answer_none : (h : List Row) (from : Address) (id : List ℕ) (clean will : Bool) → waits_for id h ≡ []
    → own_answer h from id clean will ≡ []
answer_none h from id true will none =
    ap (λ waiting. map (λ m. Note (note.Hand id m.name (Denied (Peer Gone)))) waiting) none
answer_none h from id false true none = refl
answer_none h from id false false none =
    ap (handed_out (record (mailing h id from) { told = []; known = [] })) none

own_any : (h : List Row) (from : Address) (c : Connect) (known : Bool)
    → (known ≡ false → waits_for c.client_id h ≡ [])
    → (if known then own_answer h from c.client_id c.flags.clean c.flags.will else [])
    ≡ own_answer h from c.client_id c.flags.clean c.flags.will
own_any h from c true none = refl
own_any h from c false none = sym (answer_none h from c.client_id c.flags.clean c.flags.will (none refl))

own_row : (h : List Row) (s : State) (from : Address) (c : Connect) → Stands h s → entry s c ≡ Allowed
    → NoneWaits h c.client_id
    → flat_map (entering_part (around s (ByConnect from c)) (notes_for s (ByConnect from c)) from c) s.clients
    ≡ own_answer h from c.client_id c.flags.clean c.flags.will
own_row h s from c st may none =
    own_parts h s from c s.clients may st.shown st.shown.clients st.good.apart
    ∙ (ap (λ ids. if is_among c.client_id ids then own_answer h from c.client_id c.flags.clean c.flags.will
    else []) st.shown.order
    ∙ own_any h from c (is_among c.client_id (accepted h)) none)

-- its answer comes before it or behind it
answered_by : (h : List Row) (from : Address) (id : List ℕ) (clean will : Bool) (ack : Out)
    → whole.around_welcome clean (own_answer h from id clean will) ack
    ≡ (if clean then gone_answer h id ++ ack ∷ [] else (if will then ack ∷ [] else ack ∷ welcome h from id))
answered_by h from id true will ack = refl
answered_by h from id false true ack = refl
answered_by h from id false false ack = refl

answered : (h : List Row) (from : Address) (c : Connect) (ack : Out)
    → whole.around_welcome c.flags.clean (own_answer h from c.client_id c.flags.clean c.flags.will) ack
    ≡ around_welcome h from c ack
answered h from c ack = answered_by h from c.client_id c.flags.clean c.flags.will ack

-- ---- the row

entry_by : (h : List Row) (s : State) (from : Address) (c : Connect) (o : Outcome) → Stands h s
    → NoneWaits h c.client_id → entry s c ≡ o
    → entry_outs s from c (notes_for s (ByConnect from c)) o ≡ entry_answer h from c o
entry_by h s from c Allowed st none is =
    rw (
      old_row h s from c.client_id st,
      others_row h s from c st is,
      clean_row h s from c st is,
      own_row h s from c st is none,
      answered h from c (answers.welcome c from),
    ) refl
entry_by h s from c (Denied rule) st none is =
    ap (λ code. Note (note.Connect c.client_id (Denied rule)) ∷ connack from code ∷ []) (code_same rule)

pub connect_row : (h : List Row) (s : State) (from : Address) (c : Connect) → Stands h s
    → NoneWaits h c.client_id
    → entry_outs s from c (notes_for s (ByConnect from c)) (entry s c) ≡ connect_answer h from c
connect_row h s from c st none =
    entry_by h s from c (entry s c) st none refl ∙ ap (entry_answer h from c) (entry_ruled h s c st.shown)
