-- An UNSUBSCRIBE is judged by the law's table, and answered so.
use Rattle.std.proofs.Common.{◌≡◌, ℕ, Bool, true, false, List, [], ◌∷◌, ◌++◌, refl, ap, sym, ◌∙◌}
use Rattle.std.proofs.Common.{if◌then◌else◌, Ok, Err}
use Rattle.std.specs.Prelude.{◌&&◌, not, Option, Some, None}
use Rattle.std.specs.declared.result.Result.{Result}
use Rattle.std.specs.Str.{bytes_eq}
use Rattle.std.proofs.lemmas.List.{append-nil}
use Rattle.sng_grants.specs.declared.policy.Policy.{Policy}
use Rattle.sng_fan.specs.Subscriptions.{stands}
use Rattle.sng_frames.specs.declared.messages.subscribe.TopicRequest.{TopicRequest}
use Rattle.sng_frames.specs.Writing.{written}
use Rattle.sng_frames.specs.declared.frame.SnFrame.TheVariants as frame
use Rattle.sng_book.specs.declared.address.Address.{Address}
use Rattle.sng_book.specs.declared.decision.Decision.TheVariants as note
use Rattle.sng_book.specs.declared.decision.Who.TheVariants as who
use Rattle.sng_book.specs.declared.outcome.Denial.{Denial}
use Rattle.sng_book.specs.declared.outcome.Denial.TheVariants.{Form}
use Rattle.sng_book.specs.declared.outcome.FormDenial.TheVariants.{OutOfTurn}
use Rattle.sng_book.specs.declared.outcome.Outcome.{Outcome}
use Rattle.sng_book.specs.declared.outcome.Outcome.TheVariants.{Allowed, Denied}
use Rattle.sng_book.specs.declared.out.Out.{Out}
use Rattle.sng_book.specs.declared.out.Out.TheVariants.{Send, Note}
use Rattle.sng_book.specs.declared.row.Row.{Row}
use Rattle.sng_history.specs.Causes.{ByMessage, ToUnsubscribe}
use Rattle.sng_history.specs.Clients.{Around, Client, is_here, start_by, unsubscribed, note_by, notes_by}
use Rattle.sng_history.specs.Clients.{is_drained}
use Rattle.sng_history.specs.Standing.{drop_note}
use Rattle.sng_history.specs.State.{State, around}
use Rattle.sng_history.specs.Verdicts.{is_active, filter_in, unsubscribe_ask}
use Rattle.sng_history.specs.Whole.{spell, drained_outs, stranger_to, drops, frame_row}
use Rattle.sng_history.specs.Lawful.{fixed_for}
use Rattle.sng_history.specs.Steps.{notes_for, client_next}
use Rattle.sng_laws.specs.ViewsClients.{phase_of, is_at, those_at}
use Rattle.sng_laws.specs.LawsState.{ClientShown}
use Rattle.sng_laws.specs.LawsRules.{judged}
use Rattle.sng_laws.specs.LawsAnswers as laws
use Rattle.sng_laws.specs.LawsAnswers.{answer_to}
use Rattle.sng_laws.specs.LawsSubscriptions.{filter_meant, form_rules, stays_without, unsubscribed_note}
use Rattle.sng_laws.specs.LawsSubscriptions.{unsubscribe_stranger, unsubscribe_answer}
use Rattle.sng_history.proofs.Asks.{of_unsubscribe}
use Rattle.sng_history.proofs.Own.{each_map}
use Rattle.sng_history.proofs.Kept.{client_id}
use Rattle.sng_history.proofs.Places.{here_is}
use Rattle.sng_history.proofs.Steady.{start_filters, client_filters}
use Rattle.sng_promise.proofs.Clients.SeenClients.{heard_if}
use Rattle.sng_promise.proofs.Clients.SeenOrder.{StateShown}
use Rattle.sng_promise.proofs.Clients.SeenState.{Stands}
use Rattle.sng_promise.proofs.Clients.LawHere.{at_here, row_answer, each_part, settled}
use Rattle.sng_promise.proofs.Standing.LawEnds.{Kept, drop_shown}
use Rattle.sng_promise.proofs.Answers.LawUnsupported.{by_cause}
use Rattle.sng_promise.proofs.Answers.LawPings.{active_same}
use Rattle.sng_promise.proofs.Answers.LawForms.{read_as, verdict_as, read}
use Rattle.sng_promise.proofs.Answers.LawReplaced.{and_true}
use Rattle.sng_history.proofs.OneEnds.{without_stands}
use Rattle.sng_laws.specs.LawsEnds.{untold_note}

-- ---- an UNSUBSCRIBE

-- its note, where the client is active
unsubscribe_asks : (policy : Policy) (x : Client) (r : TopicRequest) (named : Result (List ℕ) Denial)
    → is_active x.phase ≡ true
    → filter_in policy r.flags.id_type r.topic ≡ named
    → unsubscribe_ask policy x r ≡ note.Unsubscribe (who.Client x.id) (read_as named) (verdict_as named)
unsubscribe_asks policy x r (Ok text) active is = rw (active, is) refl
unsubscribe_asks policy x r (Err rule) active is = rw (active, is) refl

-- what stands then for a client, where the message names this filter
left_active : (a : Around) (policy : Policy) (r : TopicRequest) (text one : List ℕ) (x y : Client)
    (active : Bool)
    → is_active x.phase ≡ active → filter_in policy r.flags.id_type r.topic ≡ Ok text → y.filters ≡ x.filters
    → stands (note_by a (unsubscribe_ask policy x r) y).filters one
    ≡ (stands x.filters one && not (active && bytes_eq text one))
left_active a policy r text one x y true active is same =
    rw (unsubscribe_asks policy x r (Ok text) active is)
    (without_stands y.filters text one ∙ ap (λ held. stands held one && not (bytes_eq text one)) same)
left_active a policy r text one x y false active is same =
    rw active (ap (λ held. stands held one) same ∙ and_true (stands x.filters one))

left_here : (a : Around) (policy : Policy) (r : TopicRequest) (text one : List ℕ) (x y : Client) (here : Bool)
    → filter_in policy r.flags.id_type r.topic ≡ Ok text → y.filters ≡ x.filters
    → stands (notes_by a (if here then unsubscribe_ask policy x r ∷ [] else []) y).filters one
    ≡ (stands x.filters one && not (here && (is_active x.phase && bytes_eq text one)))
left_here a policy r text one x y true is same =
    left_active a policy r text one x y (is_active x.phase) refl is same
left_here a policy r text one x y false is same =
    ap (λ held. stands held one) same ∙ and_true (stands x.filters one)

unsubscribe_kept : (h : List Row) (s : State) (from : Address) (r : TopicRequest) (text : List ℕ) (x : Client)
    → filter_in s.policy r.flags.id_type r.topic ≡ Ok text → ClientShown h x
    → Kept h (stays_without h from text) x (client_next s (ByMessage from (ToUnsubscribe r)) x)
unsubscribe_kept h s from r text x is shown =
    let c = ByMessage from (ToUnsubscribe r) in
    let a = around s c in
    let active : is_active x.phase ≡ laws.is_active (phase_of x.id h) =
    active_same x.phase ∙ ap laws.is_active (sym shown.phase) in
    record {
      id = client_id a (fixed_for s c x) x;
      was = shown.filters;
      now = λ one. ap (λ held. stands held one) (client_filters a (fixed_for s c x) x)
          ∙ left_here a s.policy r text one x (start_by a x) (is_here x from) is (start_filters a x)
          ∙ (ap (λ b. stands x.filters one && not (b && (is_active x.phase && bytes_eq text one)))
          (sym (at_here h from x shown))
          ∙ ap (λ b. stands x.filters one && not (is_at x.id from h && (b && bytes_eq text one))) active);
    }

-- the row, by what the rules ask
abbrev unsubscribe_by : List Row → Address → TopicRequest → List ℕ → Bool → Option (List ℕ) → Outcome
    → List Out
unsubscribe_by h from r id active text form =
    let o = if not active then Denied (Form OutOfTurn) else form in
    Note (note.Unsubscribe (who.Client id) (if active then text else None) o)
    ∷ (unsubscribed_note h from id text o ++ Send from (written (frame.UnsubscribeAck r.msg_id)) ∷ [])

denied_note : (h : List Row) (from : Address) (id : List ℕ) (text : Option (List ℕ)) (rule : Denial)
    → unsubscribed_note h from id text (Denied rule) ≡ []
denied_note h from id None rule = refl
denied_note h from id (Some text) rule = refl

unsubscribe_named_so : (h : List Row) (s : State) (from : Address) (r : TopicRequest) (x : Client)
    (named : Result (List ℕ) Denial)
    → StateShown h s → is_active x.phase ≡ true
    → filter_in s.policy r.flags.id_type r.topic ≡ named
    → let c = ByMessage from (ToUnsubscribe r) in
    spell (by_cause s c) (drops s c (notes_for s c)) (heard_if true s.clock x)
    (unsubscribe_ask s.policy x r ∷ [])
    ≡ Note (note.Unsubscribe (who.Client x.id) (read_as named) (verdict_as named))
    ∷ (unsubscribed_note h from x.id (read_as named) (verdict_as named)
    ++ Send x.address (written (frame.UnsubscribeAck r.msg_id)) ∷ [])
unsubscribe_named_so h s from r x (Ok text) shown active is =
    let c = ByMessage from (ToUnsubscribe r) in
    let each =
    each_map (ClientShown h) (λ y. Kept h (stays_without h from text) y (client_next s c y)) s.clients
    (λ y known. unsubscribe_kept h s from r text y is known) shown.clients in
    let ack = Send x.address (written (frame.UnsubscribeAck r.msg_id)) in
    let noted = drop_note (drops s c (notes_for s c)) x.id text in
    rw (unsubscribe_asks s.policy x r (Ok text) active is)
    (ap (λ outs. Note (note.Unsubscribe (who.Client x.id) (Some text) Allowed) ∷ outs)
    (append-nil (noted ++ ack ∷ [])
    ∙ ap (λ outs. outs ++ ack ∷ [])
    (drop_shown h s c (stays_without h from text) x.id text shown each
    ∙ ap (λ (p : Policy). untold_note p.limits h (stays_without h from text) x.id text) shown.policy)))
unsubscribe_named_so h s from r x (Err rule) shown active is =
    rw (unsubscribe_asks s.policy x r (Err rule) active is) refl

unsubscribe_spelled : (h : List Row) (s : State) (from : Address) (r : TopicRequest) (x : Client)
    (active : Bool) → StateShown h s
    → is_active x.phase ≡ active → x.address ≡ from
    → let c = ByMessage from (ToUnsubscribe r) in
    spell (by_cause s c) (drops s c (notes_for s c)) (heard_if true s.clock x)
    (unsubscribe_ask s.policy x r ∷ [])
    ≡ unsubscribe_by h from r x.id active (filter_meant s.policy r.flags.id_type r.topic)
    (judged (form_rules s.policy r))
unsubscribe_spelled h s from r x true shown active at =
    let named = filter_in s.policy r.flags.id_type r.topic in
    let known = read s.policy r.flags.id_type r.topic in
    unsubscribe_named_so h s from r x named shown active refl
    ∙ (ap (λ to. Note (note.Unsubscribe (who.Client x.id) (read_as named) (verdict_as named)) ∷
    (unsubscribed_note h from x.id (read_as named) (verdict_as named)
    ++ Send to (written (frame.UnsubscribeAck r.msg_id)) ∷ [])) at
    ∙ (ap (λ text. unsubscribe_by h from r x.id true text (verdict_as named)) known.meant
    ∙ ap (unsubscribe_by h from r x.id true (filter_meant s.policy r.flags.id_type r.topic)) known.ruled))
unsubscribe_spelled h s from r x false shown active at =
    rw (
      active,
      at,
      denied_note h from x.id (filter_meant s.policy r.flags.id_type r.topic)
          (Form OutOfTurn),
    ) refl

unsubscribed_busy : (filter : Option (List ℕ)) (o : Outcome) (x : Client) → is_drained x ≡ false
    → is_drained (unsubscribed filter o x) ≡ false
unsubscribed_busy None o x busy = busy
unsubscribed_busy (Some filter) Allowed x busy = busy
unsubscribed_busy (Some filter) (Denied rule) x busy = busy

unsubscribe_busy : (s : State) (from : Address) (r : TopicRequest) (x : Client) → is_drained x ≡ false
    → (let a = by_cause s (ByMessage from (ToUnsubscribe r)) in
    is_drained (notes_by a (unsubscribe_ask s.policy x r ∷ []) (heard_if true s.clock x))) ≡ false
unsubscribe_busy s from r x busy =
    let a = by_cause s (ByMessage from (ToUnsubscribe r)) in
    of_unsubscribe (λ said. is_drained (note_by a said (heard_if true s.clock x)) ≡ false) s.policy x r
    (λ filter o. unsubscribed_busy filter o (heard_if true s.clock x) busy)

unsubscribe_part : (h : List Row) (s : State) (from : Address) (r : TopicRequest) (x : Client) (b : Bool)
    → StateShown h s → ClientShown h x → is_drained x ≡ false → (b ≡ true → x.address ≡ from)
    → let c = ByMessage from (ToUnsubscribe r) in
    let a = by_cause s c in
    let notes = if b then unsubscribe_ask s.policy x r ∷ [] else [] in
    (if b then [] else []) ++
    (spell a (drops s c (notes_for s c)) (heard_if b s.clock x) notes
    ++ drained_outs (notes_by a notes (heard_if b s.clock x)))
    ≡ (if b then unsubscribe_answer h from r x.id else [])
unsubscribe_part h s from r x true shown is busy at =
    let c = ByMessage from (ToUnsubscribe r) in
    let a = by_cause s c in
    let notes = unsubscribe_ask s.policy x r ∷ [] in
    let active : is_active x.phase ≡ laws.is_active (phase_of x.id h) =
    active_same x.phase ∙ ap laws.is_active (sym is.phase) in
    settled (spell a (drops s c (notes_for s c)) (heard_if true s.clock x) notes)
    (notes_by a notes (heard_if true s.clock x))
    (unsubscribe_busy s from r x busy)
    ∙ (unsubscribe_spelled h s from r x (is_active x.phase) shown refl (at refl)
    ∙ (ap (λ b. unsubscribe_by h from r x.id b (filter_meant s.policy r.flags.id_type r.topic)
    (judged (form_rules s.policy r))) active
    ∙ ap (λ policy. unsubscribe_by h from r x.id (laws.is_active (phase_of x.id h))
    (filter_meant policy r.flags.id_type r.topic)
    (judged (form_rules policy r))) shown.policy))
unsubscribe_part h s from r x false shown is busy at = settled [] x busy

pub unsubscribe_row : (h : List Row) (s : State) (from : Address) (r : TopicRequest) → Stands h s
    → let c = ByMessage from (ToUnsubscribe r) in
    frame_row s c (stranger_to from (ToUnsubscribe r)) (notes_for s c)
    ≡ answer_to (unsubscribe_stranger from) (unsubscribe_answer h from r)
    (those_at from h)
unsubscribe_row h s from r st =
    let c = ByMessage from (ToUnsubscribe r) in
    row_answer h s from c (stranger_to from (ToUnsubscribe r)) (unsubscribe_answer h from r) st.shown
    (λ x. refl)
    (each_part h s from c (unsubscribe_answer h from r) st
    (λ x is rest. unsubscribe_part h s from r x (is_here x from) st.shown is rest.busy (here_is x from)))
