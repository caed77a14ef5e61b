-- What it means that the messages of a client follow what the rows show: what is settled, which numbers are
-- given, and all that is shown of the client.
use Rattle.std.proofs.Common.{◌≡◌, ℕ, zero, suc, ◌+◌, ◌≤◌, ◌<◌, Bool, true, false, List, [], ◌∷◌, ◌++◌, map}
use Rattle.std.proofs.Common.{length, refl, ap, sym, ◌∙◌}
use Rattle.std.proofs.Common.{if◌then◌else◌, arith}
use Rattle.std.specs.Prelude.{◌-◌, ◌%◌, ◌==◌, nat_le, drop, take, slice_get, Option, Some, None}
use Rattle.std.proofs.Math.Nat.{suc-mod, mod-eq_of_lt}
use Rattle.std.proofs.lemmas.Bool.Decides.{nat_tests}
use Rattle.sng_ids.specs.Ids.{Ids}
use Rattle.sng_queue.specs.Messages.{Message}
use Rattle.sng_queue.specs.Buffers.{Buffer}
use Rattle.sng_book.specs.declared.outcome.Outcome.{Outcome}
use Rattle.sng_history.specs.Handing.{number_after}
use Rattle.sng_laws.specs.ViewsClients.{is_among}
use Rattle.sng_laws.specs.ViewsHanding.{Opening, Announced, HandedOver, Progress, last_number}
use Rattle.sng_laws.specs.LawsState.{exchange_shown}
use Rattle.sng_laws.specs.LawsHanding.{IsFront}
use Rattle.sng_promise.proofs.Names.SeenIds.{Telling}
use Rattle.sng_laws.specs.ViewsSendings.{Last}

-- ---- what is settled

-- so many of the messages that were due are settled, in order, and these wait
pub record Settling (due : List Message) (count : ℕ) (settled : List (List ℕ × Outcome))
    (waiting : List Message) : Type 0 where
  pub waits : waiting ≡ drop count due
  pub few : count ≤ length due
  pub names : map (λ hand. hand.0) settled ≡ map (λ m. m.name) (take count due)

-- the message whose turn it is
pub record Next (due : List Message) (count : ℕ) (m : Message) (more : List Message) : Type 0 where
  pub turn : slice_get due count ≡ Some m
  pub rest : more ≡ drop (count + 1) due
  pub few : count + 1 ≤ length due
  pub names : map (λ one. one.name) (take (count + 1) due)
      ≡ map (λ one. one.name) (take count due) ++ m.name ∷ []

next_first : (d : Message) (due : List Message) (m : Message) (more : List Message) → d ≡ m → due ≡ more
    → Next (d ∷ due) 0 m more
next_first d due m more one rest =
    record { turn = ap Some one; rest = sym rest; few = omega arith; names = ap (λ o. o.name ∷ []) one }

next_later : (d : Message) (due : List Message) (n : ℕ) (m : Message) (more : List Message)
    → Next due n m more
    → Next (d ∷ due) (suc n) m more
next_later d due n m more next =
    let one : suc n + 1 ≡ suc (n + 1) = omega arith in
    let few : n + 1 ≤ length due = next.few in
    record {
      turn = next.turn;
      rest = rw one next.rest;
      few = omega arith;
      names = rw one (ap (λ names. d.name ∷ names) next.names);
    }

first_of_both : (d m : Message) (due more : List Message) → d ∷ due ≡ m ∷ more → (d ≡ m) × (due ≡ more)
first_of_both d m due more is = (cc, cc)

pub next_is : (due : List Message) (n : ℕ) (m : Message) (more : List Message) → m ∷ more ≡ drop n due
    → Next due n m more
next_is [] zero m more is = absurd cc
next_is [] (suc n) m more is = absurd cc
next_is (d ∷ due) zero m more is =
    let both = first_of_both d m due more (sym is) in next_first d due m more both.0 both.1
next_is (d ∷ due) (suc n) m more is = next_later d due n m more (next_is due n m more is)

names_more : (hands : List (List ℕ × Outcome)) (name : List ℕ) (o : Outcome)
    → map (λ hand. hand.0) (hands ++ (name, o) ∷ []) ≡ map (λ hand. hand.0) hands ++ name ∷ []
names_more [] name o = refl
names_more (hand ∷ hands) name o = ap (λ names. hand.0 ∷ names) (names_more hands name o)

pub settling_next : (due : List Message) (n : ℕ) (settled : List (List ℕ × Outcome)) (m : Message)
    (more : List Message) (o : Outcome)
    → Settling due n settled (m ∷ more)
    → Settling due (n + 1) (settled ++ (m.name, o) ∷ []) more
settling_next due n settled m more o s =
    let next = next_is due n m more s.waits in
    record {
      waits = next.rest;
      few = next.few;
      names = names_more settled m.name o ∙ (ap (λ names. names ++ m.name ∷ []) s.names ∙ sym next.names);
    }

-- ---- the numbers that are given

given_some : (k : ℕ) → last_number (suc k) ≡ k % 65535 + 1
given_some k =
    let some : (suc k == 0) ≡ false = grind (arith, nat_tests) in
    let less : suc k - 1 ≡ k = omega arith in
    rw (some, less) refl

wrapped : (q : ℕ) (b : Bool) → nat_le 65535 (q + 1) ≡ b → q < 65535
    → suc q % 65535 + 1 ≡ (if b then 1 else q + 1 + 1)
wrapped q true is less =
    let last : q ≡ 65534 = grind (arith, nat_tests, is, less) in rw last refl
wrapped q false is less =
    let below : suc q < 65535 = grind (arith, nat_tests, is, less) in
    let same : suc q % 65535 ≡ suc q = mod-eq_of_lt below in
    omega (arith, same)

pub number_next : (n : ℕ) → last_number (n + 1) ≡ number_after (last_number n)
number_next zero = refl
number_next (suc k) =
    let one : suc k + 1 ≡ suc (suc k) = omega arith in
    let q = k % 65535 in
    let less : q < 65535 = omega arith in
    ap last_number one
    ∙ (given_some (suc k)
    ∙ (ap (λ n. n + 1) (suc-mod k 65535)
    ∙ (wrapped q (nat_le 65535 (q + 1)) refl less ∙ ap number_after (sym (given_some k)))))

-- ---- all that is shown of one client

-- the front is the message of the name that is announced, which was told
abbrev pub IsFor : Option Opening → List (List ℕ) → List Message → Type 0
IsFor None told waiting = Unit {0}
IsFor (Some (Announced name)) told waiting = (is_among name told ≡ true) × IsFront name waiting
IsFor (Some (HandedOver m)) told waiting = Unit {0}

-- what the rows show of the names that a client was told and knows, of how its messages stand, how those came
-- out that are settled,
pub record View : Type 0 where
  pub told : List (List ℕ)
  pub known : List (List ℕ)
  pub progress : Progress
  pub settled : List (List ℕ × Outcome)
  -- and of the frame that may be sent again
  pub last : Last

-- what is kept of the client is what is shown
pub record Follows (due : List Message) (v : View) (ids : Ids) (number : ℕ) (b : Buffer) : Type 0 where
  pub telling : Telling v.told v.known ids
  pub settling : Settling due v.progress.settled v.settled b.waiting
  pub given : number ≡ last_number v.progress.numbered
  pub exchange : b.exchange ≡ exchange_shown v.progress.unanswered v.told number v.last
  pub front : IsFor v.progress.unanswered v.told b.waiting

-- nothing is open, and these wait
abbrev pub idle_with : List Message → Buffer
idle_with waiting = record { waiting = waiting; exchange = None }
