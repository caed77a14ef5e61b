-- The plan of a replacement: of each client the filters that end, one after another.
use Rattle.std.proofs.Common.{◌≡◌, ◌<◌, ◌+◌, ◌≤◌, ℕ, zero, suc, List, [], ◌∷◌, ◌++◌, length, get_or, drop}
use Rattle.std.proofs.Common.{refl, ap, sym, ◌∙◌, arith, add-one, drop-cons}
use Rattle.std.proofs.lemmas.List.{append-nil, append_assoc}
use Rattle.std.specs.Option.{option_map}
use Rattle.sng_grants.specs.Limits.{Limits}
use Rattle.sng_grants.specs.Sources.{grant_of}
use Rattle.sng_grants.specs.declared.policy.Policy.{Policy}
use Rattle.sng_policy.specs.Grants.{subscribe_by}
use Rattle.sng_fan.specs.declared.held.Held.{Held}
use Rattle.sng_book.specs.declared.out.Out.{Out}
use Rattle.sng_history.specs.Clients.{Client, blank}
use Rattle.sng_history.specs.Good.{Each, AllCovered}
use Rattle.sng_history.specs.Verdicts.{filter_outcome, coverage}
use Rattle.sng_sessions.specs.Standing.{client_at}
use Rattle.sng_endings.specs.declared.replacing.SubscriptionEnd.{SubscriptionEnd}
use Rattle.sng_endings.specs.Replacing.{ended_next, ended_outs, all_next, all_outs, ending_of, endings_by}
use Rattle.sng_endings.specs.Replacing.{Moved, endings_from}

-- nothing is left past the end
past_end : {X : Type 0} (xs : List X) (i : ℕ) → length xs ≤ i → drop i xs ≡ []
past_end [] zero past = refl
past_end [] (suc i) past = refl
past_end (x ∷ xs) zero past = absurd (omega arith)
past_end (x ∷ xs) (suc i) past = past_end xs i (omega arith)

-- one filter more is planned
pub planned_more : (policy : Policy) (place : ℕ) (client : List ℕ) (held : List Held) (i : ℕ) (h : Held)
    (before added all : List SubscriptionEnd) → i < length held → h ≡ get_or held i h
    → before ++ endings_by policy place client (drop i held) ≡ all
    → added ≡ ending_of place client h.filter (coverage policy client h.filter)
    → (before ++ added) ++ endings_by policy place client (drop (i + 1) held) ≡ all
planned_more policy place client held i h before added all within is so_far added_is =
    let cut : drop i held ≡ h ∷ drop (i + 1) held =
    rw (add-one, ap (λ g. g ∷ drop (suc i) held) is) (drop-cons held i h within) in
    append_assoc before added (endings_by policy place client (drop (i + 1) held))
    ∙ (ap (λ es. before ++ (es ++ endings_by policy place client (drop (i + 1) held))) added_is
    ∙ (sym (ap (λ hs. before ++ endings_by policy place client hs) cut) ∙ so_far))

pub planned_all : (policy : Policy) (place : ℕ) (client : List ℕ) (held : List Held) (i : ℕ)
    (now all : List SubscriptionEnd) → length held ≤ i
    → now ++ endings_by policy place client (drop i held) ≡ all → now ≡ all
planned_all policy place client held i now all past is =
    sym (append-nil now) ∙ (ap (λ hs. now ++ endings_by policy place client hs) (sym (past_end held i past))
    ∙ is)

-- one client more is
pub client_more : (policy : Policy) (xs : List Client) (place : ℕ) (before now all : List SubscriptionEnd)
    → place < length xs
    → before ++ endings_from policy place (drop place xs) ≡ all
    → now ≡ before ++ endings_by policy place (client_at xs place).id (client_at xs place).filters
    → now ++ endings_from policy (place + 1) (drop (place + 1) xs) ≡ all
client_more policy xs place before now all within so_far now_is =
    let x = client_at xs place in
    let cut : drop place xs ≡ x ∷ drop (suc place) xs = drop-cons xs place (blank []) within in
    rw (now_is, add-one) (
    append_assoc before (endings_by policy place x.id x.filters)
    (endings_from policy (suc place) (drop (suc place) xs))
    ∙ (sym (ap (λ ys. before ++ endings_from policy place ys) cut) ∙ so_far)
    )

pub clients_all : (policy : Policy) (xs : List Client) (place : ℕ) (now all : List SubscriptionEnd)
    → length xs ≤ place
    → now ++ endings_from policy place (drop place xs) ≡ all → now ≡ all
clients_all policy xs place now all past is =
    sym (append-nil now) ∙ (ap (λ ys. now ++ endings_from policy place ys) (sym (past_end xs place past))
    ∙ is)

-- ---- a client with the same scope

kept_all : (before after : Policy) (place : ℕ) (client : List ℕ) (held : List Held)
    → ((text : List ℕ) → coverage before client text ≡ coverage after client text)
    → AllCovered before client held → endings_by after place client held ≡ []
kept_all before after place client [] same covered = refl
kept_all before after place client (h ∷ held) same covered =
    ap (λ o. ending_of place client h.filter o ++ endings_by after place client held)
    (sym (same h.filter) ∙ covered.0)
    ∙ kept_all before after place client held same covered.1

each_at : (P : Client → Type 0) (xs : List Client) (place : ℕ) → place < length xs → Each P xs
    → P (client_at xs place)
each_at P [] place within each = absurd (omega arith)
each_at P (x ∷ xs) zero within each = each.0
each_at P (x ∷ xs) (suc place) within each = each_at P xs place (omega arith) each.1

-- nothing that stands for it ends
pub scope_kept : (before after : Policy) (xs : List Client) (place : ℕ) (endings : List SubscriptionEnd)
    → Each (λ x. AllCovered before x.id x.filters) xs → place < length xs
    → (let x = client_at xs place in
    grant_of before.clients x.id ≡ grant_of after.clients x.id
    → endings ≡ endings ++ endings_by after place x.id x.filters)
scope_kept before after xs place endings covered within same =
    let x = client_at xs place in
    sym (ap (λ es. endings ++ es)
    (kept_all before after place x.id x.filters
    (λ text. ap (λ grant. filter_outcome x.id text (subscribe_by (option_map (λ g. g.scope) grant) text)) same)
    (each_at (λ y. AllCovered before y.id y.filters) xs place within covered))
    ∙ append-nil endings)

-- ---- the endings one after another

pub next_push : (limits : Limits) (s : Moved) (endings : List SubscriptionEnd) (e : SubscriptionEnd)
    → all_next limits s (endings ++ e ∷ []) ≡ ended_next limits (all_next limits s endings) e
next_push limits s [] e = refl
next_push limits s (g ∷ endings) e = next_push limits (ended_next limits s g) endings e

pub outs_push : (limits : Limits) (s : Moved) (endings : List SubscriptionEnd) (e : SubscriptionEnd)
    → all_outs limits s (endings ++ e ∷ [])
    ≡ all_outs limits s endings ++ ended_outs limits (all_next limits s endings) e
outs_push limits s [] e = append-nil (ended_outs limits s e)
outs_push limits s (g ∷ endings) e =
    ap (λ outs. ended_outs limits s g ++ outs) (outs_push limits (ended_next limits s g) endings e)
    ∙ sym (append_assoc (ended_outs limits s g) (all_outs limits (ended_next limits s g) endings)
    (ended_outs limits (all_next limits (ended_next limits s g) endings) e))

-- these ended so far, and this is what they let out
pub record Ended (limits : Limits) (first now : Moved) (before said : List Out) (endings : List SubscriptionEnd)
    : Type 0 where
  pub next : now ≡ all_next limits first endings
  pub outs : said ≡ before ++ all_outs limits first endings

pub ended_more : (limits : Limits) (first now after : Moved) (before outs more : List Out)
    (endings : List SubscriptionEnd) (e : SubscriptionEnd)
    → Ended limits first now before outs endings
    → after ≡ ended_next limits now e → more ≡ outs ++ ended_outs limits now e
    → Ended limits first after before more (endings ++ e ∷ [])
ended_more limits first now after before outs more endings e so_far after_is more_is = record {
  next = after_is
      ∙ (ap (λ (t : Moved). ended_next limits t e) so_far.next ∙ sym (next_push limits first endings e));
  outs = more_is
      ∙ (ap (λ os. os ++ ended_outs limits now e) so_far.outs
      ∙ (append_assoc before (all_outs limits first endings) (ended_outs limits now e)
      ∙ ap (λ os. before ++ os)
      (ap (λ (t : Moved). all_outs limits first endings ++ ended_outs limits t e) so_far.next
      ∙ sym (outs_push limits first endings e))));
}

-- one fewer is left
pub one_less : (xs ys : List SubscriptionEnd) (e : SubscriptionEnd) → xs ≡ e ∷ ys → length xs ≡ length ys + 1
one_less xs ys e is = ap (λ (es : List SubscriptionEnd). length es) is ∙ more (length ys)
  where
    more : (n : ℕ) → suc n ≡ n + 1
    more n = omega arith
