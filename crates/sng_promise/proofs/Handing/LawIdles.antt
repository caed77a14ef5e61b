-- A client that takes messages has nothing waiting, or something is open with it; and nothing waits for one
-- without a session.
use Rattle.std.proofs.Common.{◌≡◌, ℕ, Bool, true, false, List, [], ◌∷◌, refl, ap, sym, ◌∙◌, subst}
use Rattle.std.proofs.Common.{if◌then◌else◌}
use Rattle.std.specs.Prelude.{◌||◌, not, Some}
use Rattle.std.specs.Str.{bytes_eq}
use Rattle.sng_states.specs.States.{has_session}
use Rattle.sng_queue.specs.Buffers.{Buffer, nothing}
use Rattle.sng_book.specs.declared.row.Row.{Row}
use Rattle.sng_history.specs.Clients.{Client}
use Rattle.sng_history.specs.State.{opening, state_of}
use Rattle.sng_history.specs.Lawful.{Lawful}
use Rattle.sng_history.specs.Good.{Each, AtRest}
use Rattle.sng_laws.specs.ViewsClients.{is_among, accepted}
use Rattle.sng_laws.specs.ViewsHanding.{is_away, waits_for}
use Rattle.sng_laws.specs.LawsState.{ClientShown}
use Rattle.sng_laws.specs.LawsHanding.{NothingIdles, NoneKept}
use Rattle.sng_promise.proofs.Handing.Takes.{away_same}
use Rattle.sng_history.proofs.Own.{same_means}
use Rattle.sng_history.proofs.ClientIds.{ids_of}
use Rattle.sng_promise.proofs.Clients.SeenState.{stands}
use Rattle.sng_promise.proofs.Clients.NeverAccepted.{none_waits}
use Rattle.sng_promise.proofs.Handing.LawArrivals.{free_shown}

-- what is kept of a client that is at rest
rest_shown : (h : List Row) (x : Client) → ClientShown h x → AtRest x → NothingIdles h x.id
rest_shown h x shown rest ready =
    sym shown.waiting ∙ (ap (λ b. if b then x.buffer.waiting else []) (sym (free_shown h x shown ∙ ready))
    ∙ rest.handed)

-- nor is anything kept of one without a session
none_kept : (x : Client) (here : Bool) → has_session x.phase ≡ here → is_away (Some x.phase) ≡ true
    → (let b : Buffer = if here then nothing else x.buffer in b) ≡ nothing → x.buffer.waiting ≡ []
none_kept x false is away kept = ap (λ b. b.waiting) kept
none_kept x true is away kept = absurd (let e = sym (away_same x.phase ∙ ap not is) ∙ away in cc)

kept_shown : (h : List Row) (x : Client) → ClientShown h x → AtRest x → NoneKept h x.id
kept_shown h x shown rest away =
    sym shown.waiting ∙ none_kept x (has_session x.phase) refl (ap is_away (sym shown.phase) ∙ away) rest.away

-- ---- the laws

one_of : (P : List ℕ → Type 0) (id : List ℕ) (x : Client) (xs : List Client) (own : Bool)
    → bytes_eq id x.id ≡ own → P x.id
    → (is_among id (ids_of xs) ≡ true → P id)
    → (own || is_among id (ids_of xs)) ≡ true → P id
one_of P id x xs true same here more among = subst P (sym (same_means id x.id same)) here
one_of P id x xs false same here more among = more among

-- what holds of each client that is at rest, as it is shown
of_rest : (P : List ℕ → Type 0) (h : List Row) (id : List ℕ) (xs : List Client)
    → ((x : Client) → ClientShown h x → AtRest x → P x.id)
    → Each (ClientShown h) xs → Each AtRest xs
    → is_among id (ids_of xs) ≡ true → P id
of_rest P h id [] holds shown rest among = absurd (let e = among in cc)
of_rest P h id (x ∷ xs) holds shown rest among =
    one_of P id x xs (bytes_eq id x.id) refl (holds x shown.0 rest.0)
    (λ later. of_rest P h id xs holds shown.1 rest.1 later) among

-- and of who was never accepted, for whom nothing waits
by_rest : (P : List ℕ → Type 0) (h : List Row) (id : List ℕ) (known : Bool) → Lawful opening h
    → ((x : Client) → ClientShown h x → AtRest x → P x.id) → (waits_for id h ≡ [] → P id)
    → is_among id (accepted h) ≡ known → P id
by_rest P h id true l holds none is =
    let st = stands h l in
    of_rest P h id (state_of opening h).clients holds st.shown.clients st.good.rest
    (ap (is_among id) st.shown.order ∙ is)
by_rest P h id false l holds none is = none (none_waits h l id is)

pub idle_law : (h : List Row) → Lawful opening h → (id : List ℕ) → NothingIdles h id
idle_law h l id =
    by_rest (NothingIdles h) h id (is_among id (accepted h)) l (λ x shown rest. rest_shown h x shown rest)
    (λ none ready. none) refl

pub away_law : (h : List Row) → Lawful opening h → (id : List ℕ) → NoneKept h id
away_law h l id =
    by_rest (NoneKept h) h id (is_among id (accepted h)) l (λ x shown rest. kept_shown h x shown rest)
    (λ none away. none) refl
