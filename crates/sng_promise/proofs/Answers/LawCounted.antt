-- Each publish at QoS 2 of a client is a repeat, the first that is allowed, or denied; a PUBREL in turn closes its
-- MsgId.
use Rattle.std.proofs.Common.{◌≡◌, ℕ, Bool, true, false, List, [], ◌∷◌, ◌++◌, refl, ap, ◌∙◌, subst}
use Rattle.std.proofs.Common.{if◌then◌else◌, arith, Ok}
use Rattle.std.specs.Prelude.{◌&&◌, ◌==◌, not, filter, Option, Some, None, is_some}
use Rattle.std.proofs.lemmas.List.{append-nil}
use Rattle.std.proofs.lemmas.Bool.Decides.{nat_tests}
use Rattle.sng_text.specs.Texts.{is_name}
use Rattle.sng_grants.specs.declared.policy.Policy.{Policy}
use Rattle.sng_policy.specs.Grants.{lists, topic}
use Rattle.sng_frames.specs.declared.flags.TopicIdType.{TopicIdType}
use Rattle.sng_frames.specs.declared.flags.TopicIdType.TheVariants.{Normal, Predefined, Short, Reserved}
use Rattle.sng_frames.specs.declared.qos.FrameQos.{FrameQos}
use Rattle.sng_frames.specs.declared.qos.FrameQos.TheVariants as qos
use Rattle.sng_frames.specs.declared.messages.publish.Publish.{Publish}
use Rattle.sng_frames.specs.declared.frame.SnFrame.{SnFrame}
use Rattle.sng_frames.specs.declared.frame.SnFrame.TheVariants as frame
use Rattle.sng_book.specs.declared.address.Address.{Address}
use Rattle.sng_book.specs.declared.decision.Decision.TheVariants as note
use Rattle.sng_book.specs.declared.decision.Who.TheVariants as who
use Rattle.sng_book.specs.declared.outcome.Denial.{Denial}
use Rattle.sng_book.specs.declared.outcome.Outcome.{Outcome}
use Rattle.sng_book.specs.declared.outcome.Outcome.TheVariants.{Allowed, Denied}
use Rattle.sng_book.specs.declared.out.Out.{Out}
use Rattle.sng_book.specs.declared.out.Out.TheVariants.{Note}
use Rattle.sng_book.specs.declared.row.Row.{Row}
use Rattle.sng_history.specs.State.{opening}
use Rattle.sng_history.specs.Lawful.{Lawful}
use Rattle.sng_laws.specs.Views.{last_policy}
use Rattle.sng_laws.specs.ViewsMessages.{Publishes, message_in, message_at, is_exactly_once}
use Rattle.sng_laws.specs.ViewsMessages.{is_without_session}
use Rattle.sng_laws.specs.ViewsClients.{phase_of, address_of, is_there, is_at, those_at, accepted, is_active}
use Rattle.sng_laws.specs.ViewsClients.{own_message, names_told}
use Rattle.sng_laws.specs.ViewsLink.{asked_with, asks_for, publish_in, allowed_in}
use Rattle.sng_laws.specs.ViewsOpenIds.{is_open, released_by, open_after, open_of}
use Rattle.sng_laws.specs.LawsRules.{Rule, judged}
use Rattle.sng_laws.specs.LawsAnswers.{Brought, answer_to, code_for, is_bad_short, is_nameless, short_name}
use Rattle.sng_laws.specs.LawsAnswers.{no_session}
use Rattle.sng_laws.specs.LawsAsks.{name_meant, session_rules, may_ask, is_repeat, publish_answer}
use Rattle.sng_laws.specs.LawsAsks.{publish_stranger, pubrec_to, pubcomp_to, puback_to, told_as, is_untold}
use Rattle.sng_laws.specs.LawsAsks.{is_reserved, release_answer}
use Rattle.sng_laws.specs.LawsOnce.{IsRepeat, IsTaken, IsDenied, IsCounted}
use Rattle.sng_history.proofs.Own.{same_self}
use Rattle.sng_states.proofs.OpenIdLemmas.{has_without}
use Rattle.sng_promise.proofs.Answers.LawDatagrams.{publish_law, release_law}
use Rattle.sng_promise.proofs.OpenIds.OpenShown.{kept_if}

-- ---- the row of a client at an address

one_answer : (stranger : List Out) (known : List ℕ → List Out) (ids : List (List ℕ)) (id : List ℕ)
    → ids ≡ id ∷ []
    → answer_to stranger known ids ≡ known id
one_answer stranger known ids id is = rw is (append-nil (known id))

session_of : (q : FrameQos) → is_exactly_once q ≡ true → not (is_without_session q) ≡ true
session_of qos.ExactlyOnce twice = refl
session_of qos.AtMostOnce twice = refl
session_of qos.AtLeastOnce twice = refl
session_of qos.WithoutSession twice = absurd (let e = twice in cc)

row_is : (h : List Row) (row : Row) (from : Address) (p : Publish) (id : List ℕ) → Lawful opening (row ∷ h)
    → Brought row from (frame.Publish p) → is_exactly_once p.flags.qos ≡ true → those_at from h ≡ id ∷ []
    → row.outs ≡ publish_answer h from p id
row_is h row from p id l brought twice here =
    publish_law h row from p l brought (session_of p.flags.qos twice)
    ∙ one_answer (publish_stranger from) (publish_answer h from p) (those_at from h) id here

-- what it asks for, and what is open behind it
asked_is : (h : List Row) (row : Row) (from : Address) (p : Publish) (outs : List Out)
    → Brought row from (frame.Publish p) → row.outs ≡ outs
    → asked_with row.event h row.outs ≡ allowed_in p outs
asked_is h row from p outs brought is =
    ap (asked_with row.event h) is
    ∙ (ap (λ e. asked_with e h outs) brought.event
    ∙ (ap (λ read. asks_for (publish_in (message_in read)) outs ++ []) brought.reads
    ∙ append-nil (allowed_in p outs)))

open_is : (h : List Row) (row : Row) (from : Address) (message : SnFrame) (id : List ℕ) (outs : List Out)
    → Brought row from message → row.outs ≡ outs
    → open_of id (row ∷ h)
    ≡ open_after (message_in (Ok message)) id outs
    (released_by (is_active (phase_of id h))
    (if is_there (phase_of id h) (address_of id h) from then message_in (Ok message) else None) (open_of id h))
open_is h row from message id outs brought is =
    let active = is_active (phase_of id h) in
    let numbers = open_of id h in
    ap (λ o. open_after (message_at row.event) id o
    (released_by active (own_message (phase_of id h) (address_of id h) row.event) numbers)) is
    ∙ (ap (λ e. open_after (message_at e) id outs
    (released_by active (own_message (phase_of id h) (address_of id h) e) numbers)) brought.event
    ∙ ap (λ read. open_after (message_in read) id outs
    (released_by active (if is_there (phase_of id h) (address_of id h) from then message_in read else None)
    numbers)) brought.reads)

published_open : (h : List Row) (row : Row) (from : Address) (p : Publish) (id : List ℕ) (outs : List Out)
    → Brought row from (frame.Publish p) → row.outs ≡ outs
    → open_of id (row ∷ h) ≡ open_after (Some (Publishes p)) id outs (open_of id h)
published_open h row from p id outs brought is =
    open_is h row from (frame.Publish p) id outs brought is
    ∙ ap (open_after (Some (Publishes p)) id outs)
    (kept_if (is_active (phase_of id h)) (is_there (phase_of id h) (address_of id h) from)
    (Some (Publishes p)) (open_of id h) refl)

-- ---- what is allowed names a topic

first_false : (b : Bool) (rule : Denial) (rules : List Rule) → judged ((b, rule) ∷ rules) ≡ Allowed
    → (b ≡ false) × (judged rules ≡ Allowed)
first_false true rule rules is = absurd cc
first_false false rule rules is = (refl, is)

-- none of the rules holds
abbrev AllFalse : List Rule → Type 0
AllFalse [] = Unit {0}
AllFalse (rule ∷ rules) = (rule.0 ≡ false) × AllFalse rules

all_false : (rules : List Rule) → judged rules ≡ Allowed → AllFalse rules
all_false [] is = tt
all_false (rule ∷ rules) is =
    let one = first_false rule.0 rule.1 rules is in (one.0, all_false rules one.1)

not_false : (b : Bool) → not b ≡ false → b ≡ true
not_false true is = refl
not_false false is = absurd (let e = is in cc)

short_some : (b : Bool) (name : List ℕ) → b ≡ true
    → is_some (let o : Option (List ℕ) = if b then Some name else None in o) ≡ true
short_some true name is = refl
short_some false name is = absurd (let e = is in cc)

meant_some : (policy : Policy) (told : List (List ℕ)) (type : TopicIdType) (id : ℕ) → is_reserved type ≡ false
    → is_bad_short type id ≡ false → is_nameless policy type id ≡ false → is_untold told type id ≡ false
    → is_some (name_meant policy told type id) ≡ true
meant_some policy told Normal id reserved bad nameless untold = not_false (is_some (told_as id told)) untold
meant_some policy told Predefined id reserved bad nameless untold =
    not_false (is_some (topic policy id)) nameless
meant_some policy told Short id reserved bad nameless untold =
    short_some (is_name (short_name id)) (short_name id) (not_false (is_name (short_name id)) bad)
meant_some policy told Reserved id reserved bad nameless untold = absurd (let e = reserved in cc)

record Asked (h : List Row) (id : List ℕ) (p : Publish) : Type 0 where
  active : is_active (phase_of id h) ≡ true
  may : may_ask h id ≡ true
  named : is_some (name_meant (last_policy h) (names_told id h) p.flags.id_type p.topic_id) ≡ true

both_true : (a b : Bool) → a ≡ true → b ≡ true → (a && b) ≡ true
both_true true b one two = two
both_true false b one two = absurd (let e = one in cc)

allowed_asked : (h : List Row) (id : List ℕ) (p : Publish) → judged (session_rules h id p) ≡ Allowed
    → Asked h id p
allowed_asked h id p is =
    let policy = last_policy h in
    let told = names_told id h in
    let type = p.flags.id_type in
    let none = all_false (session_rules h id p) is in
    let active = not_false (is_active (phase_of id h)) none.0 in
    record {
      active = active;
      may = both_true (is_active (phase_of id h)) (lists policy id) active (not_false (lists policy id) none.1.0);
      named = meant_some policy told type p.topic_id none.1.1.0 none.1.1.1.0 none.1.1.1.1.0
          none.1.1.1.1.1.0;
    }

-- ---- each is one of these

abbrev noted : List ℕ → Option (List ℕ) → Outcome → Out
noted id name outcome = Note (note.Publish (who.Client id) name outcome)

twice_is : (q : FrameQos) → is_exactly_once q ≡ true → q ≡ qos.ExactlyOnce
twice_is qos.ExactlyOnce twice = refl
twice_is qos.AtMostOnce twice = absurd (let e = twice in cc)
twice_is qos.AtLeastOnce twice = absurd (let e = twice in cc)
twice_is qos.WithoutSession twice = absurd (let e = twice in cc)

repeated : (h : List Row) (row : Row) (from : Address) (p : Publish) (id : List ℕ)
    → Brought row from (frame.Publish p) → row.outs ≡ pubrec_to from p.msg_id ∷ []
    → IsRepeat h row from id p
repeated h row from p id brought is = record {
  answer = is;
  asks = asked_is h row from p (pubrec_to from p.msg_id ∷ []) brought is;
  still = published_open h row from p id (pubrec_to from p.msg_id ∷ []) brought is;
}

-- what is not open of one that is no repeat
not_open : (twice active opened : Bool) → twice ≡ true → active ≡ true → (twice && (active && opened)) ≡ false
    → opened ≡ false
not_open true true opened one two is = is
not_open true false opened one two is = absurd (let e = two in cc)
not_open false active opened one two is = absurd (let e = one in cc)

taken_by : (h : List Row) (row : Row) (from : Address) (p : Publish) (id : List ℕ) (name : Option (List ℕ))
    → is_some name ≡ true → Brought row from (frame.Publish p) → p.flags.qos ≡ qos.ExactlyOnce
    → row.outs ≡ noted id name Allowed ∷ pubrec_to from p.msg_id ∷ []
    → is_open p.msg_id (open_of id h) ≡ false → IsTaken h row from id p
taken_by h row from p id None some brought twice is fresh = absurd (let e = some in cc)
taken_by h row from p id (Some name) some brought twice is fresh =
    let outs = noted id (Some name) Allowed ∷ pubrec_to from p.msg_id ∷ [] in
    record {
      name = name;
      answer = is;
      asks = asked_is h row from p outs brought is ∙ rw twice refl;
      fresh = fresh;
      opens = published_open h row from p id outs brought is ∙ rw (same_self id, twice) refl;
    }

denied_by : (h : List Row) (row : Row) (from : Address) (p : Publish) (id : List ℕ) (name : Option (List ℕ))
    (rule : Denial)
    → Brought row from (frame.Publish p)
    → row.outs ≡ noted id name (Denied rule) ∷ puback_to from p (code_for rule) ∷ []
    → IsDenied h row from id p rule
denied_by h row from p id name rule brought is =
    let outs = noted id name (Denied rule) ∷ puback_to from p (code_for rule) ∷ [] in
    record {
      name = name;
      answer = is;
      asks = asked_is h row from p outs brought is;
      still = published_open h row from p id outs brought is ∙ rw (same_self id) refl;
    }

counted_by : (h : List Row) (row : Row) (from : Address) (p : Publish) (id : List ℕ) (again : Bool)
    (o : Outcome)
    → Brought row from (frame.Publish p) → is_exactly_once p.flags.qos ≡ true
    → row.outs ≡ publish_answer h from p id
    → is_repeat h id p ≡ again → judged (session_rules h id p) ≡ o
    → IsCounted h row from id p again o
counted_by h row from p id true o brought twice is again judgement =
    repeated h row from p id brought (is ∙ rw again refl)
counted_by h row from p id false Allowed brought twice is again judgement =
    let asked = allowed_asked h id p judgement in
    let name = name_meant (last_policy h) (names_told id h) p.flags.id_type p.topic_id in
    let exactly = twice_is p.flags.qos twice in
    taken_by h row from p id name asked.named brought exactly
    (is ∙ rw (again, asked.may, judgement, exactly) refl)
    (not_open (is_exactly_once p.flags.qos) (is_active (phase_of id h)) (is_open p.msg_id (open_of id h)) twice
    asked.active again)
counted_by h row from p id false (Denied rule) brought twice is again judgement =
    let name = name_meant (last_policy h) (names_told id h) p.flags.id_type p.topic_id in
    denied_by h row from p id (if may_ask h id then name else None) rule brought
    (is ∙ rw (again, judgement) refl)

pub counted_law : (h : List Row) (row : Row) (from : Address) (p : Publish) (id : List ℕ)
    → Lawful opening (row ∷ h)
    → Brought row from (frame.Publish p) → is_exactly_once p.flags.qos ≡ true → those_at from h ≡ id ∷ []
    → IsCounted h row from id p (is_repeat h id p) (judged (session_rules h id p))
counted_law h row from p id l brought twice here =
    counted_by h row from p id (is_repeat h id p) (judged (session_rules h id p)) brought twice
    (row_is h row from p id l brought twice here) refl refl

-- ---- PUBREL

one_by : (keep : List ℕ → Bool) (x id : List ℕ) (rest : List (List ℕ)) (b : Bool) → keep x ≡ b
    → (if b then x ∷ rest else rest) ≡ id ∷ []
    → (rest ≡ id ∷ [] → keep id ≡ true) → keep id ≡ true
one_by keep x id rest true is all later =
    let same : x ≡ id = cc in subst (λ one. keep one ≡ true) same is
one_by keep x id rest false is all later = later all

one_kept : (keep : List ℕ → Bool) (xs : List (List ℕ)) (id : List ℕ) → filter keep xs ≡ id ∷ []
    → keep id ≡ true
one_kept keep [] id all = absurd cc
one_kept keep (x ∷ xs) id all =
    one_by keep x id (filter keep xs) (keep x) refl all (one_kept keep xs id)

closed_there : (number : ℕ) (numbers : List ℕ)
    → is_open number (filter (λ one. not (one == number)) numbers) ≡ false
closed_there number numbers =
    let itself : (number == number) ≡ true = grind (arith, nat_tests) in
    has_without number number numbers ∙ rw itself refl

pub released_law : (h : List Row) (row : Row) (from : Address) (number : ℕ) (id : List ℕ)
    → Lawful opening (row ∷ h)
    → Brought row from (frame.PublishRelease number) → those_at from h ≡ id ∷ []
    → is_active (phase_of id h) ≡ true
    → (row.outs ≡ pubcomp_to from number ∷ []) × (is_open number (open_of id (row ∷ h)) ≡ false)
released_law h row from number id l brought here active =
    let outs = pubcomp_to from number ∷ [] in
    let is : row.outs ≡ outs =
    release_law h row from number l brought
    ∙ (one_answer (no_session from) (release_answer h from number) (those_at from h) id here ∙ rw active refl) in
    let there : is_there (phase_of id h) (address_of id h) from ≡ true =
    one_kept (λ one. is_at one from h) (accepted h) id here in (
      is,
      ap (is_open number)
          (open_is h row from (frame.PublishRelease number) id outs brought is ∙ rw (active, there) refl)
          ∙ closed_there number (open_of id h),
    )
