-- A filter that ceases to stand for anybody is let go of upstream, or the row notes that no more could wait.
use Rattle.std.proofs.Common.{◌≡◌, ℕ, zero, suc, Bool, true, false, List, [], ◌∷◌, ◌++◌, map, refl, ap, sym}
use Rattle.std.proofs.Common.{◌∙◌, subst, if◌then◌else◌}
use Rattle.std.specs.Prelude.{◌||◌, not, filter, take, drop}
use Rattle.std.specs.Str.{bytes_eq}
use Rattle.std.proofs.lemmas.List.{map-append}
use Rattle.sng_fan.specs.declared.held.Held.{Held}
use Rattle.sng_fan.specs.Subscriptions.{has_text, stands}
use Rattle.sng_outbox.specs.declared.item.Item.TheVariants as item
use Rattle.sng_history.specs.Causes.{Cause}
use Rattle.sng_history.specs.Clients.{Client}
use Rattle.sng_history.specs.Standing.{Release, holds, is_held, ended, releases_of, released_from, released}
use Rattle.sng_history.specs.Standing.{places_left, dropped_of, unsubscribes as lets_go_of}
use Rattle.sng_history.specs.State.{State}
use Rattle.sng_history.specs.State.{policy_by}
use Rattle.sng_history.specs.Steps.{newcomers_for, client_next, clients_next}
use Rattle.sng_history.proofs.Own.{same_self, same_means}
use Rattle.sng_history.proofs.NothingNew.{held_both}
use Rattle.sng_promise.proofs.WantedFilters.UpstreamSpeaks.{unsubscribes}
use Rattle.sng_promise.proofs.WantedFilters.UpstreamLeaving.{is_one}
use Rattle.sng_history.proofs.Booleans.{or_right, or_neither}

-- ---- booleans

or_first : (a b : Bool) → a ≡ true → (a || b) ≡ true
or_first true b is = refl
or_first false b is = absurd cc

same_flip : (a b : List ℕ) → bytes_eq a b ≡ true → bytes_eq b a ≡ true
same_flip a b is = subst (λ t. bytes_eq b t ≡ true) (sym (same_means a b is)) (same_self b)

-- ---- what is let go of

abbrev pub lets_go : List Release → List ℕ → Bool
lets_go [] text = false
lets_go (r ∷ rs) text = bytes_eq text r.filter || lets_go rs text

lets_items : (rs : List Release) (text : List ℕ)
    → unsubscribes (map (λ r. item.Unsubscribe r.filter) rs) text ≡ lets_go rs text
lets_items [] text = refl
lets_items (r ∷ rs) text = ap (λ b. bytes_eq text r.filter || b) (lets_items rs text)

lets_left : (xs ys : List Release) (text : List ℕ) → lets_go xs text ≡ true → lets_go (xs ++ ys) text ≡ true
lets_left [] ys text is = absurd cc
lets_left (x ∷ xs) ys text is = at (bytes_eq text x.filter) is (lets_left xs ys text)
  where
    at : (b : Bool) → (b || lets_go xs text) ≡ true
        → (lets_go xs text ≡ true → lets_go (xs ++ ys) text ≡ true) → (b || lets_go (xs ++ ys) text) ≡ true
    at true is rest = refl
    at false is rest = rest is

lets_right : (xs ys : List Release) (text : List ℕ) → lets_go ys text ≡ true → lets_go (xs ++ ys) text ≡ true
lets_right [] ys text is = is
lets_right (x ∷ xs) ys text is =
    or_right (bytes_eq text x.filter) (lets_go (xs ++ ys) text) (lets_right xs ys text is)

-- a filter that stood and does not any more
ended_by : (h : Held) (kept : List Held) (after : List Held) (text : List ℕ) (same keep : Bool)
    → has_text text h ≡ same → stands after h.filter ≡ keep → stands after text ≡ false
    → (same ≡ false → is_one (map (λ g. g.filter) kept) text ≡ true)
    → is_one (map (λ g. g.filter) (if not keep then h ∷ kept else kept)) text ≡ true
ended_by h kept after text true true same is gone rest =
    absurd (let bad : true ≡ false = sym is ∙ (ap (stands after) (same_means h.filter text same) ∙ gone) in
    cc)
ended_by h kept after text true false same is gone rest =
    or_first (bytes_eq text h.filter) (is_one (map (λ g. g.filter) kept) text) (same_flip h.filter text same)
ended_by h kept after text false true same is gone rest = rest refl
ended_by h kept after text false false same is gone rest =
    or_right (bytes_eq text h.filter) (is_one (map (λ g. g.filter) kept) text) (rest refl)

ended_has : (before after : List Held) (text : List ℕ) → stands before text ≡ true → stands after text ≡ false
    → is_one (map (λ h. h.filter) (filter (λ h. not (stands after h.filter)) before)) text ≡ true
ended_has [] after text stood gone = absurd cc
ended_has (h ∷ held) after text stood gone =
    ended_by h (filter (λ g. not (stands after g.filter)) held) after text (has_text text h)
    (stands after h.filter) refl refl gone
    (λ other. ended_has held after text (sym (ap (λ b. b || stands held text) other) ∙ stood) gone)

releases_by : (client : List ℕ) (t text : List ℕ) (rs : List Release) (held same : Bool)
    → bytes_eq text t ≡ same → (same ≡ true → held ≡ false) → (same ≡ false → lets_go rs text ≡ true)
    → lets_go (if held then rs else record { client = client; filter = t } ∷ rs) text ≡ true
releases_by client t text rs true true is free rest = absurd (let bad = free refl in cc)
releases_by client t text rs true false is free rest = rest refl
releases_by client t text rs false true is free rest = or_first (bytes_eq text t) (lets_go rs text) is
releases_by client t text rs false false is free rest =
    or_right (bytes_eq text t) (lets_go rs text) (rest refl)

releases_has : (client : List ℕ) (others : List ℕ → Bool) (texts : List (List ℕ)) (text : List ℕ)
    → is_one texts text ≡ true → others text ≡ false → lets_go (releases_of client others texts) text ≡ true
releases_has client others [] text is free = absurd cc
releases_has client others (t ∷ texts) text is free =
    releases_by client t text (releases_of client others texts) (others t) (bytes_eq text t) refl
    (λ same. subst (λ u. others u ≡ false) (same_means text t same) free)
    (λ other. releases_has client others texts text (sym (ap (λ b. b || is_one texts text) other) ∙ is) free)

-- a filter that stood for somebody and does not any more is let go of once
released_has : (f : Client → Client) (more earlier xs : List Client) (text : List ℕ)
    → is_held earlier text ≡ false → is_held xs text ≡ true → is_held (map f xs ++ more) text ≡ false
    → lets_go (released_from earlier xs (map f xs ++ more)) text ≡ true
released_has f more earlier [] text before stood gone = absurd cc
released_has f more earlier (x ∷ xs) text before stood gone =
    let both = or_neither (holds text (f x)) (is_held (map f xs ++ more) text) gone in
    at (is_held xs text) refl stood both.0
    (λ later. released_has f more (earlier ++ f x ∷ []) xs text
    (held_both earlier (f x ∷ []) text ∙ rw (before, both.0) refl) later both.1)
  where
    own : List Release
    own = releases_of x.id (λ t. is_held earlier t || is_held xs t) (ended x (f x))

    rest : List Release
    rest = released_from (earlier ++ f x ∷ []) xs (map f xs ++ more)

    at : (b : Bool) → is_held xs text ≡ b → (holds text x || b) ≡ true → holds text (f x) ≡ false
        → (is_held xs text ≡ true → lets_go rest text ≡ true) → lets_go (own ++ rest) text ≡ true
    at true is stood gone later = lets_right own rest text (later is)
    at false is stood gone later =
        lets_left own rest text (releases_has x.id (λ t. is_held earlier t || is_held xs t)
        (ended x (f x)) text (ended_has x.filters (f x).filters text (one (holds text x) stood) gone)
        (rw (before, is) refl))
      where
        one : (a : Bool) → (a || false) ≡ true → a ≡ true
        one true is = refl
        one false is = is

-- who is accepted for the first time lets go of nothing
released_cut : (earlier xs more : List Client) (f : Client → Client)
    → released_from earlier xs (map f xs ++ more) ≡ released_from earlier xs (map f xs)
released_cut earlier [] more f = refl
released_cut earlier (x ∷ xs) more f =
    ap (λ rest. releases_of x.id (λ t. is_held earlier t || is_held xs t) (ended x (f x)) ++ rest)
    (released_cut (earlier ++ f x ∷ []) xs more f)

pub released_clients : (s : State) (c : Cause)
    → released s.clients (clients_next s c) ≡ released s.clients (map (client_next s c) s.clients)
released_clients s c =
    let f = client_next s c in
    ap (released s.clients) (map-append f s.clients (newcomers_for s c))
    ∙ released_cut [] s.clients (map f (newcomers_for s c)) f

-- where none of them is dropped
taken_whole : (n : ℕ) (rs : List Release) → drop n rs ≡ [] → take n rs ≡ rs
taken_whole zero rs none = sym none
taken_whole (suc n) [] none = refl
taken_whole (suc n) (r ∷ rs) none = ap (λ more. r ∷ more) (taken_whole n rs none)

pub lets : (s : State) (c : Cause) (text : List ℕ)
    → dropped_of (policy_by c s.policy).limits s.link (released s.clients (map (client_next s c) s.clients)) ≡ []
    → is_held s.clients text ≡ true → is_held (clients_next s c) text ≡ false
    → unsubscribes (lets_go_of (policy_by c s.policy).limits s.link (released s.clients (clients_next s c)))
    text ≡ true
lets s c text none stood gone =
    let f = client_next s c in
    let rs = released s.clients (clients_next s c) in
    let same : released s.clients (map f s.clients ++ map f (newcomers_for s c)) ≡ rs =
    ap (released s.clients) (sym (map-append f s.clients (newcomers_for s c))) in
    ap (λ all. unsubscribes (map (λ r. item.Unsubscribe r.filter) all) text)
    (taken_whole (places_left (policy_by c s.policy).limits s.link) rs
    (ap (dropped_of (policy_by c s.policy).limits s.link) (released_clients s c) ∙ none))
    ∙ (lets_items rs text
    ∙ (sym (ap (λ all. lets_go all text) same)
    ∙ released_has f (map f (newcomers_for s c)) [] s.clients text refl stood
    (sym (ap (λ ys. is_held ys text) (map-append f s.clients (newcomers_for s c))) ∙ gone)))
