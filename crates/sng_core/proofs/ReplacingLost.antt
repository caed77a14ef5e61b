-- Which filters of a client end under the new policy, each once.
use Rattle.std.proofs.Common.{◌≡◌, ◌≤◌, ◌+◌, ℕ, Bool, true, false, List, [], ◌∷◌}
use Rattle.std.proofs.Common.{◌++◌, map, cond, refl, ap, sym, ◌∙◌, arith}
use Rattle.std.specs.Prelude.{if◌then◌else◌, ◌&&◌, ◌||◌, not, filter, count_by}
use Rattle.std.specs.List.{list_any}
use Rattle.std.proofs.lemmas.List.Sums.{sum_by-cons}
use Rattle.sng_grants.specs.declared.policy.Policy.{Policy}
use Rattle.sng_fan.specs.declared.held.Held.{Held}
use Rattle.sng_fan.specs.Subscriptions.{has_text, stands}
use Rattle.sng_book.specs.Denials.{is_allowed}
use Rattle.sng_book.specs.declared.decision.Decision.{Decision}
use Rattle.sng_book.specs.declared.outcome.Outcome.{Outcome}
use Rattle.sng_book.specs.declared.outcome.Outcome.TheVariants.{Allowed, Denied}
use Rattle.sng_history.specs.Causes.{ByReplace}
use Rattle.sng_history.specs.Clients.{Client, Around, without, notes_by}
use Rattle.sng_history.specs.Standing.{ended}
use Rattle.sng_history.specs.State.{State, around}
use Rattle.sng_history.specs.Verdicts.{coverage}
use Rattle.sng_history.specs.Lawful.{end_of, ends_under}
use Rattle.sng_history.specs.Steps.{client_next}
use Rattle.sng_history.proofs.Endless.{EachIn, each_in}
use Rattle.sng_history.proofs.Steady.{client_filters}
use Rattle.sng_history.proofs.Own.{same_self, same_means}
use Rattle.sng_history.proofs.Booleans.{and_no, and_yes}
use Rattle.sng_history.proofs.OneEnds.{without_stands}
use Rattle.sng_core.proofs.Plain.{Busy, plain_next}
use Rattle.sng_core.proofs.ReplacingClient.{lost_of, lost, HeldOnce}

-- ---- which filters end

-- what stands once all that are denied ended
stands_after : (a : Around) (policy : Policy) (client : List ℕ) (rest : List Held) (z : Client)
    (text : List ℕ)
    → stands (notes_by a (ends_under policy client rest) z).filters text
    ≡ (stands z.filters text && not (stands rest text && not (is_allowed (coverage policy client text))))
stands_after a policy client [] z text = sym (and_yes (stands z.filters text))
stands_after a policy client (h ∷ rest) z text =
    by_outcome a policy client h rest z text (coverage policy client h.filter) (has_text text h) refl refl
    (λ y. stands_after a policy client rest y text)
  where
    allowed_by : (stood later : Bool) (o : Outcome) → is_allowed o ≡ true
        → (stood && not (later && not (is_allowed o))) ≡ (stood && not (true && not (is_allowed o)))
    allowed_by stood later o is = rw is (ap (λ b. stood && not b) (and_no later))

    denied_by : (stood later : Bool) (o : Outcome) → is_allowed o ≡ false
        → ((stood && not true) && not (later && not (is_allowed o)))
        ≡ (stood && not (true && not (is_allowed o)))
    denied_by stood later o is =
        rw is (ap (λ b. b && not (later && true)) (and_no stood) ∙ sym (and_no stood))

    by_outcome : (a : Around) (policy : Policy) (client : List ℕ) (h : Held) (rest : List Held) (z : Client)
        (text : List ℕ) (o : Outcome) (here : Bool)
        → coverage policy client h.filter ≡ o → has_text text h ≡ here
        → ((y : Client) → stands (notes_by a (ends_under policy client rest) y).filters text
        ≡ (stands y.filters text && not
        (stands rest text && not (is_allowed (coverage policy client text)))))
        → stands (notes_by a (end_of client h.filter o ++ ends_under policy client rest) z).filters text
        ≡ (stands z.filters text && not
        ((here || stands rest text) && not (is_allowed (coverage policy client text))))
    by_outcome a policy client h rest z text Allowed true is may later =
        let may_stand : is_allowed (coverage policy client text) ≡ true =
        ap (λ t. is_allowed (coverage policy client t)) (sym (same_means h.filter text may))
        ∙ ap is_allowed is in
        later z ∙ allowed_by (stands z.filters text) (stands rest text)
        (coverage policy client text) may_stand
    by_outcome a policy client h rest z text Allowed false is may later = later z
    by_outcome a policy client h rest z text (Denied rule) true is may later =
        let none : is_allowed (coverage policy client text) ≡ false =
        ap (λ t. is_allowed (coverage policy client t)) (sym (same_means h.filter text may))
        ∙ ap is_allowed is in
        later (without h.filter z)
        ∙ (ap (λ b. b && not (stands rest text && not (is_allowed (coverage policy client text))))
        (without_stands z.filters h.filter text ∙ ap (λ b. stands z.filters text && not b) may)
        ∙ denied_by (stands z.filters text) (stands rest text) (coverage policy client text) none)
    by_outcome a policy client h rest z text (Denied rule) false is may later =
        later (without h.filter z)
        ∙ ap (λ b. b && not (stands rest text && not (is_allowed (coverage policy client text))))
        (without_stands z.filters h.filter text
        ∙ (ap (λ b. stands z.filters text && not b) may ∙ and_yes (stands z.filters text)))

lost_by : (h : Held) (more : List Held) (texts : List (List ℕ)) (o : Outcome)
    → map (λ (g : Held). g.filter) more ≡ texts
    → map (λ (g : Held). g.filter) (if not (is_allowed o) then h ∷ more else more)
    ≡ lost_of h.filter o ++ texts
lost_by h more texts Allowed is = is
lost_by h more texts (Denied rule) is = ap (λ ts. h.filter ∷ ts) is

lost_all : (policy : Policy) (client : List ℕ) (all after held : List Held)
    → ((text : List ℕ) → stands all text ≡ true
    → stands after text ≡ is_allowed (coverage policy client text)) → EachIn all held
    → map (λ (g : Held). g.filter) (filter (λ g. not (stands after g.filter)) held) ≡ lost policy client held
lost_all policy client all after [] just each = refl
lost_all policy client all after (h ∷ held) just each =
    rw (just h.filter each.0) (lost_by h (filter (λ g. not (stands after g.filter)) held)
    (lost policy client held) (coverage policy client h.filter)
    (lost_all policy client all after held just each.1))

-- the filters that stood and do not any more are those that are denied
pub ended_lost : (s : State) (policy : Policy) (x : Client)
    → ended x (client_next s (ByReplace policy) x) ≡ lost policy x.id x.filters
ended_lost s policy x =
    let a = around s (ByReplace policy) in
    let y = client_next s (ByReplace policy) x in
    lost_all policy x.id x.filters y.filters x.filters
    (λ text is. ap (λ held. stands held text) (client_filters a (ends_under policy x.id x.filters) x)
    ∙ (stands_after a policy x.id x.filters x text ∙ rw is (turned (is_allowed (coverage policy x.id text)))))
    (each_in x.filters)
  where
    turned : (b : Bool) → not (not b) ≡ b
    turned true = refl
    turned false = refl

-- an ending leaves the client where it is, with what waits and is open
end_busy : (a : Around) (client filter : List ℕ) (o : Outcome) (notes : List Decision) (x : Client) → Busy x
    → ((y : Client) → Busy y → Busy (notes_by a notes y))
    → Busy (notes_by a (end_of client filter o ++ notes) x)
end_busy a client filter Allowed notes x busy later = later x busy
end_busy a client filter (Denied rule) notes x busy later = later (without filter x) busy

ends_busy : (a : Around) (policy : Policy) (client : List ℕ) (held : List Held) (x : Client) → Busy x
    → Busy (notes_by a (ends_under policy client held) x)
ends_busy a policy client [] x busy = busy
ends_busy a policy client (h ∷ held) x busy =
    end_busy a client h.filter (coverage policy client h.filter) (ends_under policy client held) x busy
    (ends_busy a policy client held)

pub busy_next : (s : State) (policy : Policy) (x : Client) → Busy x → Busy (plain_next s (ByReplace policy) x)
busy_next s policy x busy = ends_busy (around s (ByReplace policy)) policy x.id x.filters x busy

-- ---- each filter of a client stands once

uncounted_by : {X : Type 0} (p : X → Bool) (x : X) (xs : List X) (b : Bool) → p x ≡ b
    → cond b 1 0 + count_by p xs ≤ 0 → (count_by p xs ≤ 0 → list_any p xs ≡ false)
    → (b || list_any p xs) ≡ false
uncounted_by p x xs true is few later = absurd (omega arith)
uncounted_by p x xs false is few later = later (omega arith)

uncounted : {X : Type 0} (p : X → Bool) (xs : List X) → count_by p xs ≤ 0 → list_any p xs ≡ false
uncounted p [] few = refl
uncounted p (x ∷ xs) few = uncounted_by p x xs (p x) refl (rw sum_by-cons at few) (uncounted p xs)

fewer_count : (h : Held) (held : List Held) (text : List ℕ) → count_by (has_text text) (h ∷ held) ≤ 1
    → count_by (has_text text) held ≤ 1
fewer_count h held text few =
    let all : cond (has_text text h) 1 0 + count_by (has_text text) held ≤ 1 = rw sum_by-cons at few in
    omega arith

pub once_held : (held : List Held) → ((text : List ℕ) → count_by (has_text text) held ≤ 1) → HeldOnce held
once_held [] once = tt
once_held (h ∷ held) once =
    let all : cond (has_text h.filter h) 1 0 + count_by (has_text h.filter) held ≤ 1 =
    rw sum_by-cons at (once h.filter) in
    let one : 1 + count_by (has_text h.filter) held ≤ 1 = rw (same_self h.filter) at all in (
      uncounted (has_text h.filter) held (omega arith),
      once_held held (λ text. fewer_count h held text (once text)),
    )
