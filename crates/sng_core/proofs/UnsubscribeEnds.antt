-- How an UNSUBSCRIBE comes out is its note, and what ends for the client by it.
use Rattle.std.proofs.Common.{◌≡◌, ℕ, ◌+◌, ◌-◌, suc, Bool, true, false, List, [], ◌∷◌, map, take}
use Rattle.std.proofs.Common.{drop, length, ◌≤◌, cond, refl, ap, sym, ◌∙◌, subst, arith}
use Rattle.std.specs.Prelude.{if◌then◌else◌, ◌&&◌, ◌||◌, not, nat_lt, filter, count_by, Option}
use Rattle.std.specs.Prelude.{Some, None, Ok, Err}
use Rattle.std.specs.declared.result.Result.{Result}
use Rattle.std.specs.Str.{bytes_eq}
use Rattle.std.proofs.Math.Seq.{drop-nil, take-nil}
use Rattle.std.proofs.lemmas.List.Sums.{sum_by-cons}
use Rattle.std.proofs.lemmas.Bool.Decides.{nat_tests}
use Rattle.sng_fan.specs.declared.held.Held.{Held}
use Rattle.sng_fan.specs.Subscriptions.{has_text, stands, without_filter, IsOneClients}
use Rattle.sng_frames.specs.declared.messages.subscribe.TopicRequest.{TopicRequest}
use Rattle.sng_outbox.specs.declared.item.Item.TheVariants as item
use Rattle.sng_book.specs.declared.address.Address.{Address}
use Rattle.sng_book.specs.declared.decision.Decision.TheVariants as note
use Rattle.sng_book.specs.declared.decision.Who.TheVariants as who
use Rattle.sng_book.specs.declared.outcome.Denial.{Denial}
use Rattle.sng_book.specs.declared.outcome.Outcome.{Outcome}
use Rattle.sng_book.specs.declared.outcome.Outcome.TheVariants.{Allowed, Denied}
use Rattle.sng_grants.specs.declared.policy.Policy.{Policy}
use Rattle.sng_history.specs.Causes.{ToUnsubscribe, ByMessage}
use Rattle.sng_history.specs.Clients.{Client, is_here, unsubscribed, note_by}
use Rattle.sng_history.specs.Standing.{Release, holds, ended as ended_of, releases_of}
use Rattle.sng_history.specs.State.{State, around}
use Rattle.sng_history.specs.Verdicts.{in_turn, filter_in, unsubscribe_named as note_named}
use Rattle.sng_history.specs.Verdicts.{unsubscribe_by as note_by_may, unsubscribe_ask}
use Rattle.sng_history.specs.Steps.{client_next}
use Rattle.sng_history.proofs.Own.{same_means}
use Rattle.sng_history.proofs.SaysParts.{part_for}
use Rattle.sng_history.proofs.Endless.{EachIn, each_in, none_ended}
use Rattle.sng_history.proofs.Holding.{flipped}
use Rattle.sng_history.proofs.Booleans.{and_yes}
use Rattle.sng_sessions.proofs.HeldLemmas.{stands-without}
use Rattle.sng_core.specs.Forms.{client_at, heard_at}
use Rattle.sng_core.specs.Subscribing.{unsubscribe_named, unsubscribe_by, unsubscribe_judged, others_hold}
use Rattle.sng_core.specs.Subscribing.{holds_alone, let_go, told_of}
use Rattle.sng_core.specs.Subscribing.{ends_next}
use Rattle.sng_core.proofs.OneEnds.{let_go_of}
use Rattle.sng_core.proofs.Plain.{Busy, plain_next, plain_part, plain_moves, plain_row}
use Rattle.sng_core.proofs.Rows.{off_same}

-- ---- how it comes out is its note

said_named : (x : Client) (named : Result (List ℕ) Denial)
    → let j =
    unsubscribe_named named in note_named x named ≡ note.Unsubscribe (who.Client x.id) j.filter j.outcome
said_named x (Ok filter) = refl
said_named x (Err rule) = refl

said_by : (policy : Policy) (x : Client) (r : TopicRequest) (may : Outcome)
    → let j =
    unsubscribe_by policy r may in
    note_by_may policy x r may ≡ note.Unsubscribe (who.Client x.id) j.filter j.outcome
said_by policy x r Allowed = said_named x (filter_in policy r.flags.id_type r.topic)
said_by policy x r (Denied rule) = refl

pub unsubscribe_said : (policy : Policy) (r : TopicRequest) (x : Client)
    → let j =
    unsubscribe_judged policy r x in
    unsubscribe_ask policy x r ≡ note.Unsubscribe (who.Client x.id) j.filter j.outcome
unsubscribe_said policy r x = said_by policy x r (in_turn x)

pub unsubscribe_moves : (s : State) (from : Address) (r : TopicRequest) (x : Client) → is_here x from ≡ true
    → ends_next s.clock (unsubscribe_judged s.policy r x) x
    ≡ plain_next s (ByMessage from (ToUnsubscribe r)) x
unsubscribe_moves s from r x here =
    let a = around s (ByMessage from (ToUnsubscribe r)) in
    rw here (ap (λ said. note_by a said (heard_at s.clock x)) (sym (unsubscribe_said s.policy r x)))

-- the client stands as before, with what waits and is open
pub ended_busy : (filter : Option (List ℕ)) (o : Outcome) (y : Client) → Busy y
    → Busy (unsubscribed filter o y)
ended_busy None o y busy = busy
ended_busy (Some text) Allowed y busy = busy
ended_busy (Some text) (Denied rule) y busy = busy

-- and any other is as it was
off_part : (s : State) (from : Address) (r : TopicRequest) (dropped : List Release) (y : Client)
    → is_here y from ≡ false
    → plain_part s (ByMessage from (ToUnsubscribe r)) dropped y ≡ []
off_part s from r dropped y off = rw off refl

pub quiet_off : (s : State) (from : Address) (r : TopicRequest) (dropped : List Release) (y : Client)
    → is_here y from ≡ false → Busy y
    → part_for s (ByMessage from (ToUnsubscribe r)) dropped y ≡ []
quiet_off s from r dropped y off busy =
    plain_row s (ByMessage from (ToUnsubscribe r)) dropped y
    (subst Busy (sym (off_same s from (ToUnsubscribe r) y off)) busy)
    ∙ off_part s from r dropped y off

pub same_off : (s : State) (from : Address) (r : TopicRequest) (y : Client) → is_here y from ≡ false → Busy y
    → client_next s (ByMessage from (ToUnsubscribe r)) y ≡ y
same_off s from r y off busy =
    let same = off_same s from (ToUnsubscribe r) y off in
    plain_moves s (ByMessage from (ToUnsubscribe r)) y (subst Busy (sym same) busy) ∙ same

-- ---- what ends for the client

texts_by : (h : Held) (held rest : List Held) (kept same : Bool) → kept ≡ (not same)
    → map (λ g. g.filter) rest ≡ map (λ g. g.filter) held
    → map (λ g. g.filter) (if not kept then h ∷ rest else rest)
    ≡ map (λ g. g.filter) (if same then h ∷ held else held)
texts_by h held rest kept true is later = rw is (ap (λ texts. h.filter ∷ texts) later)
texts_by h held rest kept false is later = rw is later

-- of the filters those with this text
same_texts : (all held : List Held) (text : List ℕ) → EachIn all held
    → map (λ h. h.filter) (filter (λ h. not (stands (without_filter all text) h.filter)) held)
    ≡ map (λ h. h.filter) (filter (has_text text) held)
same_texts all [] text each = refl
same_texts all (h ∷ held) text each =
    texts_by h (filter (has_text text) held)
    (filter (λ g. not (stands (without_filter all text) g.filter)) held)
    (stands (without_filter all text) h.filter) (has_text text h)
    (stands-without all text h.filter
    ∙ (ap (λ b. not (bytes_eq text h.filter) && b) each.0
    ∙ (and_yes (not (bytes_eq text h.filter)) ∙ ap not (flipped text h.filter))))
    (same_texts all held text each.1)

-- there is none or one of them
abbrev one_if : Bool → List ℕ → List (List ℕ)
one_if true text = text ∷ []
one_if false text = []

counted_more : (h : Held) (held : List Held) (text : List ℕ)
    → count_by (has_text text) (h ∷ held) ≡ cond (has_text text h) 1 0 + count_by (has_text text) held
counted_more h held text = sum_by-cons (λ x. cond (has_text text x) 1 0) h held

positive_by : (b : Bool) (h : Held) (held : List Held) (text : List ℕ) → has_text text h ≡ b
    → (b || stands held text) ≡ true → (stands held text ≡ true → 1 ≤ count_by (has_text text) held)
    → 1 ≤ count_by (has_text text) (h ∷ held)
positive_by true h held text is there later =
    let one : cond {A = ℕ} (has_text text h) 1 0 ≡ 1 = rw is refl in
    omega (arith, counted_more h held text, one)
positive_by false h held text is there later = omega (arith, counted_more h held text, later there)

positive : (held : List Held) (text : List ℕ) → stands held text ≡ true → 1 ≤ count_by (has_text text) held
positive [] text there = absurd cc
positive (h ∷ held) text there = positive_by (has_text text h) h held text refl there (positive held text)

alone_by : (b : Bool) (h : Held) (held : List Held) (text : List ℕ) → stands held text ≡ b
    → has_text text h ≡ true → count_by (has_text text) (h ∷ held) ≤ 1 → b ≡ false
alone_by false h held text is same few = refl
alone_by true h held text is same few =
    let one : cond {A = ℕ} (has_text text h) 1 0 ≡ 1 = rw same refl in
    absurd (omega (arith, few, counted_more h held text, one, positive held text is))

none_with_by : (b : Bool) (h : Held) (held : List Held) (text : List ℕ) → (b || stands held text) ≡ false
    → (stands held text ≡ false → map (λ g. g.filter) (filter (has_text text) held) ≡ [])
    → map (λ g. g.filter) (if b then h ∷ filter (has_text text) held else filter (has_text text) held) ≡ []
none_with_by true h held text none later = absurd cc
none_with_by false h held text none later = later none

none_with : (held : List Held) (text : List ℕ) → stands held text ≡ false
    → map (λ h. h.filter) (filter (has_text text) held) ≡ []
none_with [] text none = refl
none_with (h ∷ held) text none = none_with_by (has_text text h) h held text none (none_with held text)

one_with_by : (b : Bool) (h : Held) (held : List Held) (text : List ℕ) → has_text text h ≡ b
    → count_by (has_text text) (h ∷ held) ≤ 1
    → map (λ g. g.filter) (filter (has_text text) held) ≡ one_if (stands held text) text
    → map (λ g. g.filter) (if b then h ∷ filter (has_text text) held else filter (has_text text) held)
    ≡ one_if (b || stands held text) text
one_with_by true h held text is few later =
    let none : stands held text ≡ false = alone_by (stands held text) h held text refl is few in
    rw (none_with held text none) (ap (λ t. t ∷ []) (same_means h.filter text is))
one_with_by false h held text is few later = later

one_with : (held : List Held) (text : List ℕ) → count_by (has_text text) held ≤ 1
    → map (λ h. h.filter) (filter (has_text text) held) ≡ one_if (stands held text) text
one_with [] text few = refl
one_with (h ∷ held) text few =
    one_with_by (has_text text h) h held text refl few
    (one_with held text (omega (arith, few, counted_more h held text)))

-- the filter alone ends, where it stood
one_ended : (x : Client) (clock : ℕ) (text : List ℕ) → IsOneClients x.filters
    → ended_of x (unsubscribed (Some text) Allowed (heard_at clock x)) ≡ one_if (holds text x) text
one_ended x clock text once =
    same_texts x.filters x.filters text (each_in x.filters) ∙ one_with x.filters text (once.0 text)

abbrev pub release : Client → List ℕ → Release
release x text = record { client = x.id; filter = text }

-- and is let go where it stands for nobody else
released_by : (x : Client) (text : List ℕ) (others : List ℕ → Bool) (stood held : Bool) → others text ≡ held
    → releases_of x.id others (one_if stood text)
    ≡ map (release x) (if stood && not held then text ∷ [] else [])
released_by x text others true true is = rw is refl
released_by x text others true false is = rw is refl
released_by x text others false held is = refl

pub judged_released : (s : State) (i : ℕ) (x : Client) (filter : Option (List ℕ)) (o : Outcome)
    → x ≡ client_at s.clients i → IsOneClients x.filters
    → let_go_of x (unsubscribed filter o (heard_at s.clock x)) (others_hold s.clients i)
    ≡ map (release x) (let_go s.clients i filter o)
judged_released s i x None o at once =
    ap (releases_of x.id (others_hold s.clients i)) (none_ended x (heard_at s.clock x) (λ text is. is))
judged_released s i x (Some text) (Denied rule) at once =
    ap (releases_of x.id (others_hold s.clients i)) (none_ended x (heard_at s.clock x) (λ t is. is))
judged_released s i x (Some text) Allowed at once =
    ap (releases_of x.id (others_hold s.clients i)) (one_ended x s.clock text once)
    ∙ (released_by x text (others_hold s.clients i) (holds text x) (others_hold s.clients i text) refl
    ∙ ap (λ y. map (release x) (if holds text y && not (others_hold s.clients i text) then text ∷ [] else []))
    at)

-- ---- where there is place for it

-- none or one is let go
abbrev FewGone : List (List ℕ) → Type 0
FewGone gone = length gone ≤ 1

gone_few_by : (b : Bool) (text : List ℕ) → FewGone (if b then text ∷ [] else [])
gone_few_by true text = omega arith
gone_few_by false text = omega arith

pub gone_few : (xs : List Client) (i : ℕ) (filter : Option (List ℕ)) (o : Outcome)
    → FewGone (let_go xs i filter o)
gone_few xs i None o = omega arith
gone_few xs i (Some text) (Denied rule) = omega arith
gone_few xs i (Some text) Allowed = gone_few_by (holds_alone xs i text) text

-- the places that are left, and whether there is one
some_place : (n m : ℕ) → nat_lt n m ≡ true → (k : ℕ) × (m - n ≡ suc k)
some_place n m is = (m - n - 1, grind (arith, nat_tests, is))

no_place : (n m : ℕ) → nat_lt n m ≡ false → m - n ≡ 0
no_place n m is = grind (arith, nat_tests, is)

take_one : (x : Client) (text : List ℕ) (p k : ℕ) → p ≡ suc k
    → map (λ r. item.Unsubscribe r.filter) (take p (map (release x) (text ∷ []))) ≡ item.Unsubscribe text ∷ []
take_one x text p k is =
    rw is (ap (λ rs. item.Unsubscribe text ∷ map (λ r. item.Unsubscribe r.filter) rs) (take-nil k))

drop_one : (x : Client) (text : List ℕ) (p k : ℕ) → p ≡ suc k → drop p (map (release x) (text ∷ [])) ≡ []
drop_one x text p k is = rw is (drop-nil k)

pub take_by : (x : Client) (gone : List (List ℕ)) (n m : ℕ) (place : Bool) → nat_lt n m ≡ place → FewGone gone
    → map (λ r. item.Unsubscribe r.filter) (take (m - n) (map (release x) gone)) ≡ told_of place gone
take_by x [] n m place is few = ap (map (λ r. item.Unsubscribe r.filter)) (take-nil (m - n))
take_by x (text ∷ []) n m true is few = let k = some_place n m is in take_one x text (m - n) k.0 k.1
take_by x (text ∷ []) n m false is few = rw (no_place n m is) refl
take_by x (text ∷ more ∷ gone) n m place is few = absurd (omega (arith, few))

pub drop_by : (x : Client) (gone : List (List ℕ)) (n m : ℕ) (place : Bool) → nat_lt n m ≡ place → FewGone gone
    → drop (m - n) (map (release x) gone) ≡ (if place then [] else map (release x) gone)
drop_by x [] n m true is few = drop-nil (m - n)
drop_by x [] n m false is few = drop-nil (m - n)
drop_by x (text ∷ []) n m true is few = let k = some_place n m is in drop_one x text (m - n) k.0 k.1
drop_by x (text ∷ []) n m false is few = rw (no_place n m is) refl
drop_by x (text ∷ more ∷ gone) n m place is few = absurd (omega (arith, few))
