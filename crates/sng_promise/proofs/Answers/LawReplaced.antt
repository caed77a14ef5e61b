-- A replacement of the policy ends what it does not allow, and says so.
use Rattle.std.proofs.Common.{◌≡◌, ℕ, Bool, true, false, List, [], ◌∷◌, ◌++◌, refl, ap, sym, ◌∙◌, subst}
use Rattle.std.proofs.Common.{if◌then◌else◌}
use Rattle.std.specs.Prelude.{◌&&◌, ◌||◌, not}
use Rattle.std.specs.List.{flat_map}
use Rattle.std.specs.Str.{bytes_eq}
use Rattle.sng_grants.specs.declared.policy.Policy.{Policy}
use Rattle.sng_fan.specs.Subscriptions.{stands}
use Rattle.sng_fan.specs.declared.held.Held.{Held}
use Rattle.sng_book.specs.Denials.{is_allowed}
use Rattle.sng_book.specs.declared.decision.Decision.{Decision}
use Rattle.sng_book.specs.declared.decision.Decision.TheVariants as note
use Rattle.sng_book.specs.declared.outcome.Outcome.{Outcome}
use Rattle.sng_book.specs.declared.outcome.Outcome.TheVariants.{Allowed, Denied}
use Rattle.sng_book.specs.declared.out.Out.{Out}
use Rattle.sng_book.specs.declared.out.Out.TheVariants.{Note}
use Rattle.sng_book.specs.declared.row.Row.{Row}
use Rattle.sng_history.specs.Causes.{ByReplace}
use Rattle.sng_history.specs.Clients.{Around, Client, without, notes_by, is_drained}
use Rattle.sng_history.specs.Standing.{Release, drop_note}
use Rattle.sng_history.specs.State.{State, around}
use Rattle.sng_history.specs.Verdicts.{coverage}
use Rattle.sng_history.specs.Whole.{spell, part, drops}
use Rattle.sng_history.specs.Lawful.{end_of, ends_under, fixed_for}
use Rattle.sng_history.specs.Steps.{notes_for, client_next, outs_by}
use Rattle.sng_laws.specs.ViewsStanding.{standing_of}
use Rattle.sng_laws.specs.LawsState.{ClientShown}
use Rattle.sng_laws.specs.LawsRules.{judged}
use Rattle.sng_laws.specs.LawsEnds.{texts_of, untold_note}
use Rattle.sng_laws.specs.LawsSubscriptions.{cover_rules, stays_under, end_by, replace_answer}
use Rattle.sng_history.specs.Good.{AtRest}
use Rattle.sng_history.proofs.Own.{same_means, each_map, each_with}
use Rattle.sng_history.proofs.Kept.{client_id}
use Rattle.sng_history.proofs.Steady.{client_filters}
use Rattle.sng_promise.proofs.Clients.SeenOrder.{StateShown}
use Rattle.sng_promise.proofs.Clients.SeenState.{Stands}
use Rattle.sng_promise.proofs.Clients.LawHere.{settled}
use Rattle.sng_promise.proofs.Standing.LawEnds.{Kept, drop_shown, flat_ids}
use Rattle.sng_promise.proofs.Answers.LawForms.{cover_judged}
use Rattle.sng_history.proofs.OneEnds.{without_stands}

-- ---- what stands once filters ended

pub and_true : (b : Bool) → b ≡ (b && true)
and_true true = refl
and_true false = refl

-- those that the policy does not allow
end_stands : (policy : Policy) (id gone text : List ℕ) (o : Outcome) (rest b : Bool)
    → coverage policy id gone ≡ o
    → ((if is_allowed o then b else (b && not (bytes_eq gone text)))
    && (is_allowed (coverage policy id text) || not rest))
    ≡ (b && (is_allowed (coverage policy id text) || not (bytes_eq gone text || rest)))
end_stands policy id gone text o rest b is = by_same (bytes_eq gone text) refl o is
  where
    by_same : (same : Bool) → bytes_eq gone text ≡ same → (o : Outcome) → coverage policy id gone ≡ o
        → ((if is_allowed o then b else (b && not same))
        && (is_allowed (coverage policy id text) || not rest))
        ≡ (b && (is_allowed (coverage policy id text) || not (same || rest)))
    by_same false away Allowed may = refl
    by_same false away (Denied rule) may =
        ap (λ t. t && (is_allowed (coverage policy id text) || not rest)) (sym (and_true b))
    by_same true same Allowed may =
        let now : coverage policy id text ≡ Allowed =
        subst (λ t. coverage policy id t ≡ Allowed) (same_means gone text same) may in
        rw now refl
    by_same true same (Denied rule) may =
        let now : coverage policy id text ≡ Denied rule =
        subst (λ t. coverage policy id t ≡ Denied rule) (same_means gone text same) may in
        rw now (none b rest)
      where
        none : (b r : Bool) → ((b && false) && not r) ≡ (b && false)
        none true r = refl
        none false r = refl

end_by_note : (a : Around) (id gone text : List ℕ) (notes : List Decision) (x : Client) (o : Outcome)
    (more : Bool)
    → ((y : Client) → stands (notes_by a notes y).filters text ≡ (stands y.filters text && more))
    → stands (notes_by a (end_of id gone o ++ notes) x).filters text
    ≡ ((if is_allowed o then stands x.filters text else (stands x.filters text && not (bytes_eq gone text)))
    && more)
end_by_note a id gone text notes x Allowed more rest = rest x
end_by_note a id gone text notes x (Denied rule) more rest =
    rest (without gone x) ∙ ap (λ b. b && more) (without_stands x.filters gone text)

ends_stand : (a : Around) (policy : Policy) (id : List ℕ) (held : List Held) (x : Client) (text : List ℕ)
    → stands (notes_by a (ends_under policy id held) x).filters text
    ≡ (stands x.filters text && (is_allowed (coverage policy id text) || not (stands held text)))
ends_stand a policy id [] x text =
    and_true (stands x.filters text)
    ∙ ap (λ b. stands x.filters text && b) (sym (or_true (is_allowed (coverage policy id text))))
  where
    or_true : (b : Bool) → (b || true) ≡ true
    or_true true = refl
    or_true false = refl
ends_stand a policy id (g ∷ held) x text =
    let o = coverage policy id g.filter in
    end_by_note a id g.filter text (ends_under policy id held) x o
    (is_allowed (coverage policy id text) || not (stands held text))
    (λ y. ends_stand a policy id held y text)
    ∙ end_stands policy id g.filter text o (stands held text) (stands x.filters text) refl

stood_first : (b c : Bool) → (b && (c || not b)) ≡ (b && c)
stood_first true true = refl
stood_first true false = refl
stood_first false c = refl

-- ---- a replacement

replace_kept : (h : List Row) (s : State) (policy : Policy) (x : Client) → ClientShown h x
    → Kept h (stays_under policy) x (client_next s (ByReplace policy) x)
replace_kept h s policy x shown = record {
  id = client_id (around s (ByReplace policy)) (fixed_for s (ByReplace policy) x) x;
  was = shown.filters;
  now =
      λ text. ap (λ held. stands held text)
      (client_filters (around s (ByReplace policy)) (fixed_for s (ByReplace policy) x) x)
      ∙ ends_stand (around s (ByReplace policy)) policy x.id x.filters x text
      ∙ (stood_first (stands x.filters text) (is_allowed (coverage policy x.id text))
      ∙ ap (λ o. stands x.filters text && is_allowed o) (cover_judged policy x.id text));
}

end_spelled : (h : List Row) (a : Around) (policy : Policy) (dropped : List Release) (id text : List ℕ)
    (z : Client) (notes : List Decision) (o : Outcome) (more : List Out) → z.id ≡ id
    → drop_note dropped id text ≡ untold_note policy.limits h (stays_under policy) id text
    → ((y : Client) → y.id ≡ id → spell a dropped y notes ≡ more)
    → spell a dropped z (end_of id text o ++ notes) ≡ end_by h policy id text o ++ more
end_spelled h a policy dropped id text z notes Allowed more same noted rest = rest z same
end_spelled h a policy dropped id text z notes (Denied rule) more same noted rest =
    ap (λ outs. Note (note.End id text (Denied rule)) ∷ outs)
    (ap (λ first. first ++ spell a dropped (without text z) notes)
    (ap (λ i. drop_note dropped i text) same ∙ noted)
    ∙ ap (λ last. untold_note policy.limits h (stays_under policy) id text ++ last) (rest (without text z) same))

ends_spelled : (h : List Row) (a : Around) (policy : Policy) (dropped : List Release) (id : List ℕ)
    (held : List Held) (z : Client)
    → z.id ≡ id
    → ((text : List ℕ) → drop_note dropped id text ≡ untold_note policy.limits h (stays_under policy) id text)
    → spell a dropped z (ends_under policy id held)
    ≡ flat_map (λ text. end_by h policy id text (judged (cover_rules policy id text))) (texts_of held)
ends_spelled h a policy dropped id [] z same noted = refl
ends_spelled h a policy dropped id (g ∷ held) z same noted =
    let rest =
    flat_map (λ text. end_by h policy id text (judged (cover_rules policy id text))) (texts_of held) in
    end_spelled h a policy dropped id g.filter z (ends_under policy id held)
    (coverage policy id g.filter) rest same (noted g.filter)
    (λ y is. ends_spelled h a policy dropped id held y is noted)
    ∙ ap (λ o. end_by h policy id g.filter o ++ rest) (cover_judged policy id g.filter)

-- ends of filters move no more than those
end_busy : (a : Around) (id text : List ℕ) (o : Outcome) (notes : List Decision) (x : Client)
    → ((y : Client) → is_drained y ≡ false → is_drained (notes_by a notes y) ≡ false)
    → is_drained x ≡ false → is_drained (notes_by a (end_of id text o ++ notes) x) ≡ false
end_busy a id text Allowed notes x rest busy = rest x busy
end_busy a id text (Denied rule) notes x rest busy = rest (without text x) busy

ends_busy : (a : Around) (policy : Policy) (id : List ℕ) (held : List Held) (x : Client)
    → is_drained x ≡ false
    → is_drained (notes_by a (ends_under policy id held) x) ≡ false
ends_busy a policy id [] x busy = busy
ends_busy a policy id (g ∷ held) x busy =
    end_busy a id g.filter (coverage policy id g.filter) (ends_under policy id held) x
    (λ y is. ends_busy a policy id held y is) busy

replace_part : (h : List Row) (s : State) (policy : Policy) (x : Client) → StateShown h s → ClientShown h x
    → is_drained x ≡ false
    → part (around s (ByReplace policy)) (drops s (ByReplace policy) (notes_for s (ByReplace policy)))
    (fixed_for s (ByReplace policy) x) x
    ≡ flat_map (λ text. end_by h policy x.id text (judged (cover_rules policy x.id text)))
    (texts_of (standing_of x.id h))
replace_part h s policy x shown is busy =
    let c = ByReplace policy in
    let a = around s c in
    let dropped = drops s c (notes_for s c) in
    let each =
    each_map (ClientShown h) (λ y. Kept h (stays_under policy) y (client_next s c y)) s.clients
    (λ y known. replace_kept h s policy y known) shown.clients in
    settled (spell a dropped x (ends_under policy x.id x.filters))
    (notes_by a (ends_under policy x.id x.filters) x)
    (ends_busy a policy x.id x.filters x busy)
    ∙ (ends_spelled h a policy dropped x.id x.filters x refl
    (λ text. drop_shown h s c (stays_under policy) x.id text shown each)
    ∙ ap (λ held. flat_map (λ text. end_by h policy x.id text (judged (cover_rules policy x.id text)))
    (texts_of held)) is.filters)

pub replace_row : (h : List Row) (s : State) (policy : Policy) → Stands h s
    → outs_by s (ByReplace policy) ≡ replace_answer h policy
replace_row h s policy st =
    let c = ByReplace policy in
    let g : Client → List Out = λ x. part (around s c) (drops s c (notes_for s c)) (fixed_for s c x) x in
    let f : List ℕ → List Out =
    λ id. flat_map (λ text. end_by h policy id text (judged (cover_rules policy id text)))
    (texts_of (standing_of id h)) in
    flat_ids g f s.clients
    (each_with (ClientShown h) AtRest (λ x. g x ≡ f x.id) s.clients
    (λ x is rest. replace_part h s policy x st.shown is rest.busy) st.shown.clients st.good.rest)
    ∙ ap (flat_map f) st.shown.order
