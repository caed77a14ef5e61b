-- The texts of samples and families, one list behind another.
use Rattle.std.proofs.Common.{ℕ, ◌≡◌, ◌+◌, ◌<◌, length, drop, get_or, Bool, true, false, List, [], ◌∷◌, ◌++◌, refl, ap, sym, ◌∙◌, append_assoc}
use Rattle.std.proofs.Common.{codes}
use Rattle.std.specs.Prelude.{if◌then◌else◌}
use Rattle.std.proofs.lemmas.Bool.{false≢true}
use Rattle.std.proofs.lemmas.List.{append-nil, drop_more}
use Rattle.sng_metrics.specs.Counts.{came_sample, decision_samples, outcome_word, rule_word, samples_of_kind}
use Rattle.sng_metrics.specs.Pages.{Family, Pair, Sample, family_text, page_text, sample_text, samples_text}
use Rattle.sng_metrics.specs.declared.sample.Value.TheVariants.{Whole}
use Rattle.sng_tally.specs.Figures.{Decisions, Outs}
use Rattle.sng_tally.specs.Kinds.{kind_word}
use Rattle.sng_tally.specs.Tallies.{Tally, figure}
use Rattle.sng_tally.specs.declared.decision_kind.DecisionKind.{DecisionKind}
use Rattle.sng_tally.specs.declared.outcome_kind.OutcomeKind.{OutcomeKind}

pub samples_text_append : (name : List ℕ) (xs ys : List Sample)
    → samples_text name (xs ++ ys) ≡ samples_text name xs ++ samples_text name ys
samples_text_append name [] ys = refl
samples_text_append name (x ∷ xs) ys =
    ap (λ text. sample_text name x ++ text) (samples_text_append name xs ys)
    ∙ sym (append_assoc (sample_text name x) (samples_text name xs) (samples_text name ys))

pub page_text_append : (xs ys : List Family) → page_text (xs ++ ys) ≡ page_text xs ++ page_text ys
page_text_append [] ys = refl
page_text_append (x ∷ xs) ys =
    ap (λ text. family_text x ++ text) (page_text_append xs ys)
    ∙ sym (append_assoc (family_text x) (page_text xs) (page_text ys))

-- three groups of families, one behind another
pub page_of_three : (xs ys zs : List Family)
    → page_text xs ++ (page_text ys ++ page_text zs) ≡ page_text (xs ++ (ys ++ zs))
page_of_three xs ys zs =
    ap (λ text. page_text xs ++ text) (sym (page_text_append ys zs)) ∙ sym (page_text_append xs (ys ++ zs))

-- a sample that is there, as a list
pub one_sample : (there : Bool) (name : List ℕ) (sample : Sample) → there ≡ true
    → sample_text name sample ≡ samples_text name (if there then sample ∷ [] else [])
one_sample true name sample is = sym (append-nil (sample_text name sample))
one_sample false name sample is = absurd (false≢true is)

abbrev pub labels_of : (outcome kind rule : List ℕ) → List Pair
labels_of outcome kind rule =
    (codes "outcome", outcome) ∷ (codes "kind", kind) ∷ (codes "rule", rule) ∷ []

same_labels : (o o' k k' r r' : List ℕ) → o ≡ o' → k ≡ k' → r ≡ r' → labels_of o k r ≡ labels_of o' k' r'
same_labels o o' k k' r r' same_o same_k same_r =
    ap (λ x. labels_of x k r) same_o ∙ ap (λ x. labels_of o' x r) same_k ∙ ap (λ x. labels_of o' k' x) same_r

-- a sample of decisions, by the words of its labels and its count
abbrev pub sample_of : (outcome kind rule : List ℕ) → ℕ → Sample
sample_of outcome kind rule count = record { labels = labels_of outcome kind rule; value = Whole count }

pub came_line : (tally : Tally) (kind : DecisionKind) (outcome : OutcomeKind) (name o k r : List ℕ) (n : ℕ)
    → o ≡ outcome_word outcome → k ≡ kind_word kind → r ≡ rule_word outcome
    → n ≡ figure (Outs (Decisions kind outcome)) tally
    → sample_text name (sample_of o k r n) ≡ sample_text name (came_sample tally kind outcome)
came_line tally kind outcome name o k r n same_o same_k same_r same_n =
    ap (λ ls. sample_text name (record { labels = ls; value = Whole n }))
    (same_labels o (outcome_word outcome) k (kind_word kind) r (rule_word outcome) same_o same_k same_r)
    ∙ ap (λ m. sample_text name (sample_of (outcome_word outcome) (kind_word kind) (rule_word outcome) m)) same_n

pub kinds_more : (name : List ℕ) (tally : Tally) (kind : DecisionKind) (kinds : List DecisionKind)
    → samples_text name (decision_samples tally (kind ∷ kinds))
    ≡ samples_text name (samples_of_kind tally kind) ++ samples_text name (decision_samples tally kinds)
unfolding decision_samples
kinds_more name tally kind kinds =
    samples_text_append name (samples_of_kind tally kind) (decision_samples tally kinds)

-- one more kind, whose samples stand behind the text
pub kinds_step : (name : List ℕ) (tally : Tally) (kinds : List DecisionKind) (i : ℕ) (d : DecisionKind)
    (before after whole : List ℕ)
    → i < length kinds
    → before ++ samples_text name (decision_samples tally (drop i kinds)) ≡ whole
    → after ≡ before ++ samples_text name (samples_of_kind tally (get_or kinds i d))
    → after ++ samples_text name (decision_samples tally (drop (i + 1) kinds)) ≡ whole
kinds_step name tally kinds i d before after whole inside invariant pushed =
    let kind = get_or kinds i d in
    let rest = drop (i + 1) kinds in
    let split : drop i kinds ≡ kind ∷ rest = drop_more kinds i d inside in
    ap (λ x. x ++ samples_text name (decision_samples tally rest)) pushed
    ∙ append_assoc before (samples_text name (samples_of_kind tally kind))
    (samples_text name (decision_samples tally rest))
    ∙ ap (λ x. before ++ x) (sym (kinds_more name tally kind rest))
    ∙ ap (λ ks. before ++ samples_text name (decision_samples tally ks)) (sym split)
    ∙ invariant
