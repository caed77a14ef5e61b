-- Who is at an address, and what a row lets out for each of them.
use Rattle.std.proofs.Common.{◌≡◌, ℕ, ◌≤◌, Bool, true, false, List, [], ◌∷◌, ◌++◌, refl, ap, sym, ◌∙◌}
use Rattle.std.proofs.Common.{if◌then◌else◌, length, rules}
use Rattle.std.specs.Prelude.{◌&&◌, ◌||◌, filter}
use Rattle.std.specs.List.{flat_map}
use Rattle.std.proofs.lemmas.List.{append-nil}
use Rattle.sng_book.specs.declared.address.Address.{Address}
use Rattle.sng_book.specs.declared.out.Out.{Out}
use Rattle.sng_history.specs.Causes.{Cause}
use Rattle.sng_history.specs.Clients.{Client, is_here, is_from, is_drained}
use Rattle.sng_history.specs.State.{State, around}
use Rattle.sng_history.specs.Whole.{part, any_from, drops, frame_row, drained_outs}
use Rattle.sng_history.specs.Answers.{pong}
use Rattle.sng_history.specs.Lawful.{fixed_for}
use Rattle.sng_history.specs.Steps.{notes_for}
use Rattle.sng_history.specs.Good.{Each, Apart, OnePlace, AtRest}
use Rattle.sng_book.specs.declared.row.Row.{Row}
use Rattle.sng_laws.specs.ViewsClients.{is_at, those_at}
use Rattle.sng_laws.specs.LawsState.{ClientShown}
use Rattle.sng_laws.specs.LawsAnswers.{answer_to}
use Rattle.sng_history.proofs.Own.{each_with}
use Rattle.sng_history.proofs.ClientIds.{ids_of}
use Rattle.sng_promise.proofs.Clients.SeenOrder.{StateShown}
use Rattle.sng_promise.proofs.Clients.SeenState.{Stands}

abbrev pub here : Address → List Client → List Client
here from xs = filter (λ x. is_here x from) xs

pub at_here : (h : List Row) (from : Address) (x : Client) → ClientShown h x
    → is_at x.id from h ≡ is_here x from
at_here h from x shown = rw (shown.phase, shown.address) refl

keep_if : (b : Bool) (x : Client) (xs : List Client)
    → (if b then x.id ∷ ids_of xs else ids_of xs) ≡ ids_of (if b then x ∷ xs else xs)
keep_if true x xs = refl
keep_if false x xs = refl

pub those_here : (h : List Row) (from : Address) (xs : List Client) → Each (ClientShown h) xs
    → filter (λ id. is_at id from h) (ids_of xs) ≡ ids_of (here from xs)
those_here h from [] shown = refl
those_here h from (x ∷ xs) shown =
    let rest = filter (λ id. is_at id from h) (ids_of xs) in
    ap (λ b. if b then x.id ∷ rest else rest) (at_here h from x shown.0)
    ∙ (ap (λ ids. if is_here x from then x.id ∷ ids else ids) (those_here h from xs shown.1)
    ∙ keep_if (is_here x from) x (here from xs))

-- those at the address, as they are kept
pub those_kept : (h : List Row) (s : State) (from : Address) → StateShown h s
    → those_at from h ≡ ids_of (here from s.clients)
those_kept h s from shown =
    ap (λ ids. filter (λ id. is_at id from h) ids) (sym shown.order)
    ∙ those_here h from s.clients shown.clients

-- ---- at most one

alone : (from : Address) (x : Client) (xs : List Client) → is_here x from ≡ true → Each (Apart x) xs
    → here from xs ≡ []
alone from x [] at apart = refl
alone from x (y ∷ ys) at apart =
    let no : is_here y from ≡ false =
    (let e : (is_here x from && is_here y from) ≡ false = apart.0 from in rw at at e) in
    ap (λ b. if b then y ∷ here from ys else here from ys) no ∙ alone from x ys at apart.1

most_by : (from : Address) (x : Client) (xs : List Client) (b : Bool) → is_here x from ≡ b → Each (Apart x) xs
    → length (ids_of (here from xs)) ≤ 1
    → length (ids_of (if b then x ∷ here from xs else here from xs)) ≤ 1
most_by from x xs true at apart rest = rw (alone from x xs at apart) (search rules)
most_by from x xs false at apart rest = rest

pub most_here : (from : Address) (xs : List Client) → OnePlace xs → length (ids_of (here from xs)) ≤ 1
most_here from [] places = search rules
most_here from (x ∷ xs) places = most_by from x xs (is_here x from) refl places.0 (most_here from xs places.1)

-- ---- what is let out for each

flat_if : (b : Bool) (f : List ℕ → List Out) (x : Client) (xs : List Client)
    → (if b then f x.id else []) ++ flat_map f (ids_of xs) ≡ flat_map f (ids_of (if b then x ∷ xs else xs))
flat_if true f x xs = refl
flat_if false f x xs = refl

pub flat_here : (g : Client → List Out) (f : List ℕ → List Out) (from : Address) (xs : List Client)
    → Each (λ x. g x ≡ (if is_here x from then f x.id else [])) xs
    → flat_map g xs ≡ flat_map f (ids_of (here from xs))
flat_here g f from [] each = refl
flat_here g f from (x ∷ xs) each =
    rw (each.0, flat_here g f from xs each.1) (flat_if (is_here x from) f x (here from xs))

abbrev is_any : List (List ℕ) → Bool
is_any [] = false
is_any (id ∷ ids) = true

any_if : (b : Bool) (x : Client) (xs : List Client)
    → (b || is_any (ids_of xs)) ≡ is_any (ids_of (if b then x ∷ xs else xs))
any_if true x xs = refl
any_if false x xs = refl

any_here : (c : Cause) (from : Address) (xs : List Client) → ((x : Client) → is_from c x ≡ is_here x from)
    → any_from c xs ≡ is_any (ids_of (here from xs))
any_here c from [] same = refl
any_here c from (x ∷ xs) same =
    rw (same x, any_here c from xs same) (any_if (is_here x from) x (here from xs))

to_any : (stranger : List Out) (f : List ℕ → List Out) (ids : List (List ℕ))
    → (if is_any ids then flat_map f ids else stranger) ≡ answer_to stranger f ids
to_any stranger f [] = refl
to_any stranger f (id ∷ ids) = refl

-- a message of who is there, or of nobody
pub row_answer : (h : List Row) (s : State) (from : Address) (c : Cause) (stranger : List Out)
    (f : List ℕ → List Out) → StateShown h s
    → ((x : Client) → is_from c x ≡ is_here x from)
    → Each (λ x. part (around s c) (drops s c (notes_for s c)) (fixed_for s c x) x
    ≡ (if is_here x from then f x.id else [])) s.clients
    → frame_row s c stranger (notes_for s c) ≡ answer_to stranger f (those_at from h)
row_answer h s from c stranger f shown same each =
    let ids = ids_of (here from s.clients) in
    let g : Client → List Out = λ x. part (around s c) (drops s c (notes_for s c)) (fixed_for s c x) x in
    ap (λ b. if b then flat_map g s.clients else stranger) (any_here c from s.clients same)
    ∙ (ap (λ outs. if is_any ids then outs else stranger) (flat_here g f from s.clients each)
    ∙ (to_any stranger f ids ∙ ap (answer_to stranger f) (sym (those_kept h s from shown))))

-- ---- an awake client for which nothing is left was told so before

calm_outs : (y : Client) → is_drained y ≡ false → drained_outs y ≡ []
calm_outs y is = ap (λ b. let outs : List Out = if b then pong y.address ∷ [] else [] in outs) is

pub settled : (outs : List Out) (y : Client) → is_drained y ≡ false → outs ++ drained_outs y ≡ outs
settled outs y is = ap (λ more. outs ++ more) (calm_outs y is) ∙ append-nil outs

-- each client's part, given what the rows show of it
pub each_part : (h : List Row) (s : State) (from : Address) (c : Cause) (f : List ℕ → List Out) → Stands h s
    → ((x : Client) → ClientShown h x → AtRest x
    → part (around s c) (drops s c (notes_for s c)) (fixed_for s c x) x
    ≡ (if is_here x from then f x.id else []))
    → Each (λ x. part (around s c) (drops s c (notes_for s c)) (fixed_for s c x) x
    ≡ (if is_here x from then f x.id else [])) s.clients
each_part h s from c f st each =
    each_with (ClientShown h) AtRest
    (λ x. part (around s c) (drops s c (notes_for s c)) (fixed_for s c x) x
    ≡ (if is_here x from then f x.id else []))
    s.clients each st.shown.clients st.good.rest
