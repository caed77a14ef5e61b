-- Whose subscriptions end as the broker refuses a filter: the clients for whom it stands, each at its place.
-- All others are as they were.
use Rattle.std.proofs.Common.{◌≡◌, ℕ, suc, ◌+◌, ◌<◌, Bool, true, false, List, [], ◌∷◌, ◌++◌, map}
use Rattle.std.proofs.Common.{length}
use Rattle.std.proofs.Common.{zero-add, refl, sym, ap, ◌∙◌, arith}
use Rattle.std.specs.Prelude.{if◌then◌else◌}
use Rattle.std.proofs.lemmas.List.{append_assoc}
use Rattle.sng_book.specs.declared.decision.Decision.TheVariants as note
use Rattle.sng_book.specs.declared.outcome.Denial.TheVariants.{Peer}
use Rattle.sng_book.specs.declared.outcome.PeerDenial.TheVariants.{BrokerRefused}
use Rattle.sng_book.specs.declared.outcome.Outcome.TheVariants.{Denied}
use Rattle.sng_book.specs.declared.out.Out.{Out}
use Rattle.sng_book.specs.declared.out.Out.TheVariants.{Note}
use Rattle.sng_history.specs.Clients.{Client, without}
use Rattle.sng_history.specs.Standing.{holds}
use Rattle.sng_sessions.specs.Holding.{places_from}
use Rattle.sng_sessions.specs.Moving.{moved_at}
use Rattle.sng_sessions.specs.Standing.{client_at}
use Rattle.sng_core.specs.Refusing.{end_note, end_notes}
use Rattle.sng_core.proofs.Found.{moved_behind}
use Rattle.sng_core.proofs.RefusedFilters.{without_none}

-- the end of the filter, of the client at each of these places
abbrev pub notes_at : List ℕ → List Client → List ℕ → List Out
notes_at filter xs [] = []
notes_at filter xs (place ∷ places) =
    Note (note.End (client_at xs place).id filter (Denied (Peer BrokerRefused))) ∷ notes_at filter xs places

-- each is the place of a client
abbrev pub AreWithin : List Client → List ℕ → Type 0
AreWithin xs [] = Unit {0}
AreWithin xs (place ∷ places) = (place < length xs) × AreWithin xs places

-- the clients, once it stands no more for those at these places
abbrev pub ended_at : List ℕ → List ℕ → List Client → List Client
ended_at filter [] xs = xs
ended_at filter (place ∷ places) xs = ended_at filter places (moved_at place (without filter) xs)

-- the clients from a place on are the last of all
abbrev StandFrom : List Client → ℕ → List Client → Type 0
StandFrom zs place xs = (n : ℕ) → client_at zs (n + place) ≡ client_at xs n

later : (zs : List Client) (place : ℕ) (x : Client) (xs : List Client) → StandFrom zs place (x ∷ xs)
    → StandFrom zs (suc place) xs
later zs place x xs stand n =
    let shift : n + suc place ≡ suc n + place = omega arith in
    ap (client_at zs) shift ∙ stand (suc n)

first : (zs : List Client) (place : ℕ) (x : Client) (xs : List Client) → StandFrom zs place (x ∷ xs)
    → client_at zs place ≡ x
first zs place x xs stand = ap (client_at zs) (sym (zero-add place)) ∙ stand 0

notes_from : (filter : List ℕ) (zs : List Client) (place : ℕ) (xs : List Client) → StandFrom zs place xs
    → notes_at filter zs (places_from place filter xs) ≡ end_notes filter xs
notes_from filter zs place [] stand = refl
notes_from filter zs place (x ∷ xs) stand =
    by (holds filter x) refl (notes_from filter zs (suc place) xs (later zs place x xs stand))
  where
    by : (b : Bool) → holds filter x ≡ b
        → notes_at filter zs (places_from (suc place) filter xs) ≡ end_notes filter xs
        → notes_at filter zs ((if b then place ∷ [] else []) ++ places_from (suc place) filter xs)
        ≡ end_note filter x ++ end_notes filter xs
    by true is rest =
        rw is (λ i. Note (note.End (first zs place x xs stand i).id filter (Denied (Peer BrokerRefused)))
        ∷ rest i)
    by false is rest = rw is rest

pub notes-all : (filter : List ℕ) (xs : List Client)
    → notes_at filter xs (places_from 0 filter xs) ≡ end_notes filter xs
notes-all filter xs = notes_from filter xs 0 xs (λ n. ap (client_at xs) (omega arith))

one_within : (zs : List Client) (place : ℕ) (b : Bool) (places : List ℕ) → place < length zs
    → AreWithin zs places → AreWithin zs ((if b then place ∷ [] else []) ++ places)
one_within zs place true places within rest = (within, rest)
one_within zs place false places within rest = rest

within_from : (filter : List ℕ) (zs : List Client) (place : ℕ) (xs : List Client)
    → place + length xs ≡ length zs → AreWithin zs (places_from place filter xs)
within_from filter zs place [] long = tt
within_from filter zs place (x ∷ xs) long =
    one_within zs place (holds filter x) (places_from (suc place) filter xs) (omega (arith, long))
    (within_from filter zs (suc place) xs (omega (arith, long)))

pub all-within : (filter : List ℕ) (xs : List Client) → AreWithin xs (places_from 0 filter xs)
all-within filter xs = within_from filter xs 0 xs (zero-add (length xs))

-- where it does not stand nothing changes
unchanged : (filter : List ℕ) (x : Client) → holds filter x ≡ false → x ≡ without filter x
unchanged filter x none =
    ap (λ held. let y : Client = record x { filters = held } in y) (sym (without_none x.filters filter none))

length_one : (xs : List Client) (x : Client) → length (xs ++ x ∷ []) ≡ suc (length xs)
length_one [] x = refl
length_one (y ∷ xs) x = ap suc (length_one xs x)

ended_behind : (filter : List ℕ) (before xs : List Client)
    → ended_at filter (places_from (length before) filter xs) (before ++ xs)
    ≡ before ++ map (without filter) xs
ended_behind filter before [] = refl
ended_behind filter before (x ∷ xs) =
    by (holds filter x) refl
    ∙ (moved (ended_behind filter (before ++ without filter x ∷ []) xs)
    ∙ append_assoc before (without filter x ∷ []) (map (without filter) xs))
  where
    y : Client
    y = without filter x

    rest : List ℕ
    rest = places_from (suc (length before)) filter xs

    by : (b : Bool) → holds filter x ≡ b
        → ended_at filter ((if b then length before ∷ [] else []) ++ rest) (before ++ x ∷ xs)
        ≡ ended_at filter rest (before ++ y ∷ xs)
    by true is = ap (ended_at filter rest) (moved_behind (without filter) before x xs)
    by false is = ap (λ z. ended_at filter rest (before ++ z ∷ xs)) (unchanged filter x is)

    moved : ended_at filter (places_from (length (before ++ y ∷ [])) filter xs) ((before ++ y ∷ []) ++ xs)
        ≡ (before ++ y ∷ []) ++ map (without filter) xs
        → ended_at filter rest (before ++ y ∷ xs) ≡ (before ++ y ∷ []) ++ map (without filter) xs
    moved behind =
        ap (ended_at filter rest) (sym (append_assoc before (y ∷ []) xs))
        ∙ (ap (λ n. ended_at filter (places_from n filter xs) ((before ++ y ∷ []) ++ xs))
        (sym (length_one before y))
        ∙ behind)

pub ended-all : (filter : List ℕ) (xs : List Client)
    → ended_at filter (places_from 0 filter xs) xs ≡ map (without filter) xs
ended-all filter xs = ended_behind filter [] xs
