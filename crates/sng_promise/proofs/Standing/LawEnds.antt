-- The ends of subscriptions with a row, as the rows show them: which leave a filter that stands for nobody,
-- and of which of these the broker is not told.
use Rattle.std.proofs.Common.{◌≡◌, ℕ, zero, suc, ◌-◌, Bool, true, false, List, [], ◌∷◌, ◌++◌, map, length}
use Rattle.std.proofs.Common.{refl, ap, sym, ◌∙◌, if◌then◌else◌}
use Rattle.std.specs.Prelude.{◌&&◌, ◌||◌, not, filter, drop}
use Rattle.std.specs.List.{list_any, flat_map}
use Rattle.std.proofs.lemmas.List.{map-append}
use Rattle.sng_fan.specs.declared.held.Held.{Held}
use Rattle.sng_fan.specs.Subscriptions.{has_text, stands}
use Rattle.sng_book.specs.declared.decision.Decision.TheVariants as note
use Rattle.sng_book.specs.declared.out.Out.{Out}
use Rattle.sng_book.specs.declared.out.Out.TheVariants.{Note}
use Rattle.sng_book.specs.declared.row.Row.{Row}
use Rattle.sng_history.specs.Causes.{Cause}
use Rattle.sng_history.specs.Clients.{Client}
use Rattle.sng_history.specs.Standing.{holds, is_held, ended, Release, releases_of, released_from, released}
use Rattle.sng_history.specs.Standing.{places_left, is_release, drop_notes, drop_note}
use Rattle.sng_history.specs.State.{State}
use Rattle.sng_history.specs.State.{policy_by}
use Rattle.sng_history.specs.Whole.{drops}
use Rattle.sng_history.specs.Steps.{client_next, notes_for}
use Rattle.sng_history.specs.Good.{Each}
use Rattle.sng_laws.specs.ViewsStanding.{standing_of}
use Rattle.sng_laws.specs.LawsEnds.{Stays, texts_of, stays_for, stands_for, ending, last_ends_from, places}
use Rattle.sng_laws.specs.LawsEnds.{untold, is_end, untold_note}
use Rattle.sng_history.proofs.Own.{same_self, each_append}
use Rattle.sng_history.proofs.ClientIds.{ids_of}
use Rattle.sng_promise.proofs.Clients.SeenOrder.{ids_append, StateShown}
use Rattle.sng_history.proofs.Booleans.{or_right}

-- a client as it is before the row and after it
pub record Kept (h : List Row) (stays : Stays) (x y : Client) : Type 0 where
  pub id : y.id ≡ x.id
  pub was : x.filters ≡ standing_of x.id h
  pub now : (text : List ℕ) → stands y.filters text ≡ (stands x.filters text && stays x.id text)

-- a client after the row
abbrev After : List Row → Stays → Client → Type 0
After h stays y = (text : List ℕ) → holds text y ≡ (stands (standing_of y.id h) text && stays y.id text)

kept_after : (h : List Row) (stays : Stays) (x y : Client) → Kept h stays x y → After h stays y
kept_after h stays x y kept text =
    kept.now text ∙ (ap (λ held. stands held text && stays x.id text) kept.was
    ∙ ap (λ id. stands (standing_of id h) text && stays id text) (sym kept.id))

-- ---- what ends of one client

abbrev AllStand : List Held → List Held → Type 0
AllStand all [] = Unit {0}
AllStand all (g ∷ held) = (stands all g.filter ≡ true) × AllStand all held

stand_more : (g : Held) (all held : List Held) → AllStand all held → AllStand (g ∷ all) held
stand_more g all [] are = tt
stand_more g all (one ∷ held) are =
    (or_right (has_text one.filter g) (stands all one.filter) are.0, stand_more g all held are.1)

stand_self : (held : List Held) → AllStand held held
stand_self [] = tt
stand_self (g ∷ held) =
    (ap (λ b. b || stands held g.filter) (same_self g.filter), stand_more g held held (stand_self held))

ended_if : (g : Held) (b : Bool) (rest : List Held) (texts : List (List ℕ)) → texts_of rest ≡ texts
    → texts_of (if not b then g ∷ rest else rest) ≡ (if not b then g.filter ∷ texts else texts)
ended_if g true rest texts is = is
ended_if g false rest texts is = ap (λ more. g.filter ∷ more) is

ended_texts : (now : List ℕ → Bool) (stays : List ℕ → Bool) (all held : List Held) → AllStand all held
    → ((text : List ℕ) → now text ≡ (stands all text && stays text))
    → texts_of (filter (λ g. not (now g.filter)) held) ≡ filter (λ text. not (stays text)) (texts_of held)
ended_texts now stays all [] are is = refl
ended_texts now stays all (g ∷ held) are is =
    let same : now g.filter ≡ stays g.filter = is g.filter ∙ ap (λ b. b && stays g.filter) are.0 in
    let rest = filter (λ f. not (now f.filter)) held in
    ap (λ b. texts_of (if not b then g ∷ rest else rest)) same
    ∙ ended_if g (stays g.filter) rest (filter (λ text. not (stays text)) (texts_of held))
    (ended_texts now stays all held are.1 is)

ended_are : (h : List Row) (stays : Stays) (x y : Client) → Kept h stays x y → ended x y ≡ ending h stays x.id
ended_are h stays x y kept =
    ended_texts (λ text. stands y.filters text) (stays x.id) x.filters x.filters
    (stand_self x.filters) kept.now
    ∙ ap (λ held. filter (λ text. not (stays x.id text)) (texts_of held)) kept.was

-- ---- of all clients

abbrev pub pairs : List Release → List (List ℕ × List ℕ)
pairs rs = map (λ r. (r.client, r.filter)) rs

pair_if : (id text : List ℕ) (b : Bool) (rs : List Release) (rest : List (List ℕ))
    → pairs rs ≡ map (λ one. (id, one)) rest
    → pairs (if b then rs else record { client = id; filter = text } ∷ rs)
    ≡ map (λ one. (id, one)) (if not b then text ∷ rest else rest)
pair_if id text true rs rest is = is
pair_if id text false rs rest is = ap (λ more. (id, text) ∷ more) is

pairs_of : (id : List ℕ) (others shown : List ℕ → Bool) (texts : List (List ℕ))
    → ((text : List ℕ) → others text ≡ shown text)
    → pairs (releases_of id others texts) ≡ map (λ text. (id, text)) (filter (λ text. not (shown text)) texts)
pairs_of id others shown [] same = refl
pairs_of id others shown (text ∷ texts) same =
    ap (λ b. pairs (if b then releases_of id others texts
    else record { client = id; filter = text } ∷ releases_of id others texts)) (same text)
    ∙ pair_if id text (shown text) (releases_of id others texts) (filter (λ one. not (shown one)) texts)
    (pairs_of id others shown texts same)

held_before : (h : List Row) (stays : Stays) (es : List Client) (text : List ℕ) → Each (After h stays) es
    → is_held es text ≡ stays_for h stays (ids_of es) text
held_before h stays [] text each = refl
held_before h stays (e ∷ es) text each = rw (each.0 text, held_before h stays es text each.1) refl

held_behind : (h : List Row) (stays : Stays) (f : Client → Client) (xs : List Client) (text : List ℕ)
    → Each (λ x. Kept h stays x (f x)) xs → is_held xs text ≡ stands_for h (ids_of xs) text
held_behind h stays f [] text each = refl
held_behind h stays f (x ∷ xs) text each = rw (each.0.was, held_behind h stays f xs text each.1) refl

released_pairs : (h : List Row) (stays : Stays) (f : Client → Client) (es xs : List Client)
    → Each (After h stays) es → Each (λ x. Kept h stays x (f x)) xs
    → pairs (released_from es xs (map f xs)) ≡ last_ends_from h stays (ids_of es) (ids_of xs)
released_pairs h stays f es [] before each = refl
released_pairs h stays f es (x ∷ xs) before each =
    let y : Client = f x in
    let others : List ℕ → Bool = λ text. is_held es text || is_held xs text in
    let shown : List ℕ → Bool = λ text. stays_for h stays (ids_of es) text || stands_for h (ids_of xs) text in
    let now : Each (After h stays) (es ++ y ∷ []) =
    each_append (After h stays) es (y ∷ []) before (kept_after h stays x y each.0, tt) in
    map-append (λ (r : Release). (r.client, r.filter)) (releases_of x.id others (ended x y))
    (released_from (es ++ y ∷ []) xs (map f xs))
    ∙ (ap (λ first. first ++ pairs (released_from (es ++ y ∷ []) xs (map f xs)))
    (pairs_of x.id others shown (ended x y)
    (λ text. rw (held_before h stays es text before, held_behind h stays f xs text each.1) refl)
    ∙ ap (λ texts. map (λ text. (x.id, text)) (filter (λ text. not (shown text)) texts))
    (ended_are h stays x y each.0))
    ∙ ap (λ rest. map (λ text. (x.id, text)) (filter (λ text. not (shown text)) (ending h stays x.id))
    ++ rest)
    (released_pairs h stays f (es ++ y ∷ []) xs now each.1
    ∙ ap (λ ids. last_ends_from h stays ids (ids_of xs))
    (ids_append es (y ∷ []) ∙ ap (λ id. ids_of es ++ id ∷ []) each.0.id)))

-- ---- of which the broker is not told

pairs_drop : (n : ℕ) (rs : List Release) → pairs (drop n rs) ≡ drop n (pairs rs)
pairs_drop zero rs = refl
pairs_drop (suc n) [] = refl
pairs_drop (suc n) (r ∷ rs) = pairs_drop n rs

pub untold_pairs : (h : List Row) (s : State) (c : Cause) (stays : Stays) → StateShown h s
    → Each (λ x. Kept h stays x (client_next s c x)) s.clients
    → pairs (drops s c (notes_for s c)) ≡ untold (policy_by c s.policy).limits h stays
untold_pairs h s c stays shown each =
    let all = released s.clients (map (client_next s c) s.clients) in
    pairs_drop (places_left (policy_by c s.policy).limits s.link) all
    ∙ (ap (λ n. drop n (pairs all)) (ap (λ items. (policy_by c s.policy).limits.waiting - length items) shown.waits)
    ∙ ap (drop (places (policy_by c s.policy).limits h))
    (released_pairs h stays (client_next s c) [] s.clients tt each
    ∙ ap (λ ids. last_ends_from h stays [] ids) shown.order))

any_pairs : (id text : List ℕ) (rs : List Release)
    → list_any (is_release id text) rs ≡ list_any (is_end id text) (pairs rs)
any_pairs id text [] = refl
any_pairs id text (r ∷ rs) = ap (λ b. is_release id text r || b) (any_pairs id text rs)

-- what is noted behind one end
pub drop_shown : (h : List Row) (s : State) (c : Cause) (stays : Stays) (id text : List ℕ) → StateShown h s
    → Each (λ x. Kept h stays x (client_next s c x)) s.clients
    → drop_note (drops s c (notes_for s c)) id text ≡ untold_note (policy_by c s.policy).limits h stays id text
drop_shown h s c stays id text shown each =
    ap (λ b. if b then Note note.Outbox ∷ [] else [])
    (any_pairs id text (drops s c (notes_for s c))
    ∙ ap (list_any (is_end id text)) (untold_pairs h s c stays shown each))

-- and where all ends are noted together
noted_pairs : (rs : List Release) → drop_notes rs ≡ map (λ end. Note note.Outbox) (pairs rs)
noted_pairs [] = refl
noted_pairs (r ∷ rs) = ap (λ outs. Note note.Outbox ∷ outs) (noted_pairs rs)

pub drops_shown : (h : List Row) (s : State) (c : Cause) (stays : Stays) → StateShown h s
    → Each (λ x. Kept h stays x (client_next s c x)) s.clients
    → drop_notes (drops s c (notes_for s c)) ≡ map (λ end. Note note.Outbox)
    (untold (policy_by c s.policy).limits h stays)
drops_shown h s c stays shown each =
    noted_pairs (drops s c (notes_for s c))
    ∙ ap (map (λ end. Note note.Outbox)) (untold_pairs h s c stays shown each)

-- what is let out for each client, by its id
pub flat_ids : (g : Client → List Out) (f : List ℕ → List Out) (xs : List Client)
    → Each (λ x. g x ≡ f x.id) xs → flat_map g xs ≡ flat_map f (ids_of xs)
flat_ids g f [] each = refl
flat_ids g f (x ∷ xs) each = rw (each.0, flat_ids g f xs each.1) refl
