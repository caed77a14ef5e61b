-- A REGISTER is judged by the law's tables, and answered so.
use Rattle.std.proofs.Common.{◌≡◌, ℕ, Bool, true, false, List, [], ◌∷◌, ◌++◌, length, refl}
use Rattle.std.proofs.Common.{ap, sym, ◌∙◌, if◌then◌else◌, arith}
use Rattle.std.specs.Prelude.{◌&&◌, not, nat_lt, nat_le, Option, Some, None}
use Rattle.std.proofs.lemmas.Bool.Decides.{nat_tests}
use Rattle.sng_text.specs.Texts.{is_name}
use Rattle.sng_grants.specs.Sources.{scope_of}
use Rattle.sng_grants.specs.declared.policy.Policy.{Policy}
use Rattle.sng_policy.specs.Grants.{lists}
use Rattle.sng_ids.specs.Ids.{id_for, is_full_for}
use Rattle.sng_ids.specs.declared.limits.TheConstants.{MAX_TOPIC_IDS}
use Rattle.sng_frames.specs.declared.messages.register.Register.{Register}
use Rattle.sng_book.specs.declared.address.Address.{Address}
use Rattle.sng_book.specs.declared.decision.Decision.TheVariants as note
use Rattle.sng_book.specs.declared.decision.Who.TheVariants as who
use Rattle.sng_book.specs.declared.outcome.Place.TheVariants as place
use Rattle.sng_book.specs.declared.outcome.Denial.TheVariants.{Form, Grant, Room}
use Rattle.sng_book.specs.declared.outcome.FormDenial.TheVariants.{BadName, OutOfTurn}
use Rattle.sng_book.specs.declared.outcome.GrantDenial.TheVariants.{NoScope, MissingPub}
use Rattle.sng_book.specs.declared.outcome.RoomDenial.TheVariants.{Full}
use Rattle.sng_book.specs.declared.outcome.Outcome.{Outcome}
use Rattle.sng_book.specs.declared.outcome.Outcome.TheVariants.{Allowed, Denied}
use Rattle.sng_book.specs.declared.out.Out.TheVariants.{Note}
use Rattle.sng_book.specs.declared.row.Row.{Row}
use Rattle.sng_history.specs.Causes.{ByMessage, ToRegister}
use Rattle.sng_history.specs.Clients.{Client, is_here, note_by, notes_by, is_drained}
use Rattle.sng_history.specs.Packets.{dropped}
use Rattle.sng_history.specs.State.{State}
use Rattle.sng_history.specs.Standing.{Release}
use Rattle.sng_history.specs.Verdicts.{is_active, register_ask}
use Rattle.sng_history.specs.Whole.{spell, replied, stranger_to, drops, frame_row, drained_outs}
use Rattle.sng_history.specs.Steps.{notes_for}
use Rattle.sng_laws.specs.Views.{last_policy}
use Rattle.sng_laws.specs.ViewsHanding.{names_known}
use Rattle.sng_laws.specs.ViewsClients.{phase_of, is_among, names_told, those_at, id_told}
use Rattle.sng_laws.specs.LawsState.{ClientShown}
use Rattle.sng_laws.specs.LawsRules.{Rule, judged, may_publish}
use Rattle.sng_laws.specs.LawsAnswers as laws
use Rattle.sng_laws.specs.LawsAnswers.{answer_to}
use Rattle.sng_laws.specs.LawsAsks as asks
use Rattle.sng_laws.specs.LawsAsks.{register_rules, regack, register_stranger, register_answer}
use Rattle.sng_history.proofs.Asks.{of_register}
use Rattle.sng_history.proofs.Places.{here_is}
use Rattle.sng_promise.proofs.Clients.SeenClients.{heard_if}
use Rattle.sng_promise.proofs.Names.Marked.{id_marked, full_marked}
use Rattle.sng_promise.proofs.Clients.SeenOrder.{StateShown}
use Rattle.sng_promise.proofs.Clients.SeenState.{Stands}
use Rattle.sng_promise.proofs.Answers.LawRules.{listed_exit}
use Rattle.sng_promise.proofs.Clients.LawHere.{row_answer, each_part, settled}
use Rattle.sng_promise.proofs.Answers.LawUnsupported.{by_cause, code_same}
use Rattle.sng_promise.proofs.Answers.LawPings.{active_same}

pub most_by : (n m : ℕ) → nat_le m n ≡ not (nat_lt n m)
most_by n m = grind (arith, nat_tests)

-- the note of a REGISTER, by what the rules ask
abbrev register_table : List ℕ → List ℕ → Bool → Bool → Bool → Bool → Bool → List Rule
register_table id name a l n g f =
    (not a, Form OutOfTurn) ∷ (not l, Grant (NoScope id)) ∷ (not n, Form BadName)
    ∷ (not g, Grant (MissingPub name))
    ∷ (f, Room (Full place.Ids)) ∷ []

register_said : (policy : Policy) (x : Client) (text : List ℕ) (a l n g f : Bool) → is_active x.phase ≡ a
    → lists policy x.id ≡ l
    → is_name text ≡ n
    → may_publish (scope_of policy.clients x.id) text ≡ g → is_full_for text x.ids ≡ f
    → register_ask policy x text
    ≡ note.Register (who.Client x.id) (if (a && l) && n then Some text else None)
    (judged (register_table x.id text a l n g f))
register_said policy x text false l n g f active listed named granted full = rw active refl
register_said policy x text true false n g f active listed named granted full = rw (active, listed) refl
register_said policy x text true true false g f active listed named granted full =
    rw (active, listed, named) refl
register_said policy x text true true true false f active listed named granted full =
    rw (active, listed, named, listed_exit policy x.id text listed, granted) refl
register_said policy x text true true true true true active listed named granted full =
    rw (active, listed, named, listed_exit policy x.id text listed, granted, full) refl
register_said policy x text true true true true false active listed named granted full =
    rw (active, listed, named, listed_exit policy x.id text listed, granted, full) refl

-- what is allowed has its name
pub register_named_so : (id text : List ℕ) (a l n g f : Bool)
    → judged (register_table id text a l n g f) ≡ Allowed
    → (let o : Option (List ℕ) = if (a && l) && n then Some text else None in o) ≡ Some text
register_named_so id text true true true g f is = refl
register_named_so id text false l n g f is = absurd cc
register_named_so id text true false n g f is = absurd cc
register_named_so id text true true false g f is = absurd cc

-- what follows the note
regack_by : (s : State) (from : Address) (r : Register) (y : Client) (id : ℕ) (name : Option (List ℕ))
    (o : Outcome)
    → (o ≡ Allowed → name ≡ Some r.name) → id_for r.name y.ids ≡ id
    → replied (ByMessage from (ToRegister r)) y name o ≡ regack y.address id r o ∷ []
regack_by s from r y id (Some name) Allowed named is =
    let e : Some name ≡ Some r.name = named refl in
    let same : name ≡ r.name = cc in
    rw (same, is) refl
regack_by s from r y id None Allowed named is = absurd (let e : None ≡ Some r.name = named refl in cc)
regack_by s from r y id name (Denied rule) named is = rw (code_same rule) refl

register_spelled : (s : State) (from : Address) (r : Register) (dropped : List Release) (y : Client) (id : ℕ)
    (name : Option (List ℕ)) (o : Outcome) → (o ≡ Allowed → name ≡ Some r.name) → id_for r.name y.ids ≡ id
    → spell (by_cause s (ByMessage from (ToRegister r))) dropped y
    (note.Register (who.Client y.id) name o ∷ [])
    ≡ Note (note.Register (who.Client y.id) name o) ∷ regack y.address id r o ∷ []
register_spelled s from r dropped y id name o named is =
    ap (λ outs. Note (note.Register (who.Client y.id) name o) ∷ (outs ++ []))
    (regack_by s from r y id name o named is)

-- the verdict on a REGISTER, as the rows show it
register_judged : (h : List Row) (s : State) (x : Client) (text : List ℕ) → StateShown h s → ClientShown h x
    → register_ask s.policy x text
    ≡ note.Register (who.Client x.id) (if asks.may_ask h x.id && is_name text then Some text else None)
    (judged (register_rules h x.id text))
register_judged h s x text shown is =
    let names = names_told x.id h in
    rw (is.phase, sym (active_same x.phase), sym shown.policy)
    (register_said s.policy x text (is_active x.phase) (lists s.policy x.id) (is_name text)
    (may_publish (scope_of s.policy.clients x.id) text)
    (not (is_among text names) && not (nat_lt (length names) MAX_TOPIC_IDS)) refl refl refl refl
    (ap (is_full_for text) is.ids ∙ full_marked text names (names_known x.id h)))

register_there : (h : List Row) (s : State) (from : Address) (r : Register) (dropped : List Release)
    (x : Client) → StateShown h s
    → ClientShown h x
    → spell (by_cause s (ByMessage from (ToRegister r))) dropped (heard_if true s.clock x)
    (register_ask s.policy x r.name ∷ [])
    ≡ register_answer h x.address r x.id
register_there h s from r dropped x shown is =
    let y : Client = heard_if true s.clock x in
    let policy = last_policy h in
    let names = names_told x.id h in
    ap (λ said. spell (by_cause s (ByMessage from (ToRegister r))) dropped y (said ∷ []))
    (register_judged h s x r.name shown is)
    ∙ register_spelled s from r dropped y (id_told r.name names)
    (if asks.may_ask h x.id && is_name r.name then Some r.name else None)
    (judged (register_rules h x.id r.name))
    (register_named_so x.id r.name (laws.is_active (phase_of x.id h)) (lists policy x.id) (is_name r.name)
    (may_publish (scope_of policy.clients x.id) r.name)
    (not (is_among r.name names) && not (nat_lt (length names) MAX_TOPIC_IDS)))
    (ap (id_for r.name) is.ids ∙ id_marked r.name names (names_known x.id h))

-- the note moves no more than the ids of the client
registered_busy : (s : State) (from : Address) (r : Register) (x : Client) → is_drained x ≡ false
    → (let a = by_cause s (ByMessage from (ToRegister r)) in
    is_drained (notes_by a (register_ask s.policy x r.name ∷ []) (heard_if true s.clock x))) ≡ false
registered_busy s from r x busy =
    of_register (λ said. is_drained
    (note_by (by_cause s (ByMessage from (ToRegister r))) said (heard_if true s.clock x))
    ≡ false) s.policy x r.name (λ name o. busy)

register_part : (h : List Row) (s : State) (from : Address) (r : Register) (dropped : List Release)
    (x : Client) (b : Bool) → StateShown h s
    → ClientShown h x → is_drained x ≡ false → (b ≡ true → x.address ≡ from)
    → let a = by_cause s (ByMessage from (ToRegister r)) in
    let notes = if b then register_ask s.policy x r.name ∷ [] else [] in
    (if b then [] else []) ++ (spell a dropped (heard_if b s.clock x) notes
    ++ drained_outs (notes_by a notes (heard_if b s.clock x)))
    ≡ (if b then register_answer h from r x.id else [])
register_part h s from r dropped x true shown is busy at =
    let a = by_cause s (ByMessage from (ToRegister r)) in
    let notes = register_ask s.policy x r.name ∷ [] in
    settled (spell a dropped (heard_if true s.clock x) notes) (notes_by a notes (heard_if true s.clock x))
    (registered_busy s from r x busy)
    ∙ (register_there h s from r dropped x shown is ∙ ap (λ to. register_answer h to r x.id) (at refl))
register_part h s from r dropped x false shown is busy at = settled [] x busy

pub register_row : (h : List Row) (s : State) (from : Address) (r : Register) → Stands h s
    → let c = ByMessage from (ToRegister r) in
    frame_row s c (stranger_to from (ToRegister r)) (notes_for s c)
    ≡ answer_to (register_stranger from) (register_answer h from r)
    (those_at from h)
register_row h s from r st =
    let c = ByMessage from (ToRegister r) in
    row_answer h s from c (stranger_to from (ToRegister r)) (register_answer h from r) st.shown (λ x. refl)
    (each_part h s from c (register_answer h from r) st
    (λ x is rest. register_part h s from r (drops s c (notes_for s c)) x
    (is_here x from) st.shown is rest.busy (here_is x from)))
