-- What goes to those who hold a filter that matches is what goes to all clients: nothing goes to the others.
use Rattle.std.proofs.Common.{◌≡◌, ℕ, suc, ◌+◌, ◌<◌, Bool, true, false, List, [], ◌∷◌, ◌++◌, length}
use Rattle.std.proofs.Common.{Option, Some, None, if◌then◌else◌, zero-add, refl, sym, ap, ◌∙◌, arith}
use Rattle.std.specs.Option.{option_map}
use Rattle.sng_text.specs.declared.qos.Qos.{Qos}
use Rattle.sng_grants.specs.declared.policy.Policy.{Policy}
use Rattle.sng_states.specs.States.{is_due_messages}
use Rattle.sng_fan.specs.Greatest.{greatest_qos}
use Rattle.sng_history.specs.Arriving.{lesser}
use Rattle.sng_history.specs.Clients.{Client}
use Rattle.sng_sessions.specs.Standing.{client_at}
use Rattle.sng_sessions.specs.Holding.{holder_at, holders_from}
use Rattle.sng_standing.specs.declared.holder.Holder.{Holder}
use Rattle.sng_turns.specs.declared.deliver.Incoming.{Incoming}
use Rattle.sng_turns.specs.Delivering.{due_outs, due_kept, deliver_outs, deliver_kept, all_outs, all_kept}
use Rattle.sng_turns.specs.Delivering.{held_outs, held_kept, holders_outs, holders_kept, AreWithin}

-- one client
one_outs : (policy : Policy) (i : Incoming) (zs : List Client) (place : ℕ) (x : Client)
    (holders : List Holder)
    (found : Option Qos) → client_at zs place ≡ x
    → holders_outs policy i zs (holder_at place found ++ holders)
    ≡ due_outs policy i x (if is_due_messages x.phase then option_map (lesser i.qos) found else None)
    ++ holders_outs policy i zs holders
one_outs policy i zs place x holders None is = by (is_due_messages x.phase)
  where
    by : (b : Bool) → holders_outs policy i zs holders
        ≡ due_outs policy i x (if b then None else None) ++ holders_outs policy i zs holders
    by true = refl
    by false = refl
one_outs policy i zs place x holders (Some qos) is =
    ap (λ y. held_outs policy i y qos ++ holders_outs policy i zs holders) is
    ∙ by (is_due_messages x.phase) refl
  where
    by : (b : Bool) → is_due_messages x.phase ≡ b
        → held_outs policy i x qos ++ holders_outs policy i zs holders
        ≡ due_outs policy i x (if b then Some (lesser i.qos qos) else None)
        ++ holders_outs policy i zs holders
    by true due = rw due refl
    by false due = rw due refl

one_kept : (policy : Policy) (i : Incoming) (zs : List Client) (place : ℕ) (x : Client)
    (holders : List Holder)
    (found : Option Qos) → client_at zs place ≡ x
    → holders_kept policy i zs (holder_at place found ++ holders)
    ≡ due_kept policy place i x (if is_due_messages x.phase then option_map (lesser i.qos) found else None)
    ++ holders_kept policy i zs holders
one_kept policy i zs place x holders None is = by (is_due_messages x.phase)
  where
    by : (b : Bool) → holders_kept policy i zs holders
        ≡ due_kept policy place i x (if b then None else None) ++ holders_kept policy i zs holders
    by true = refl
    by false = refl
one_kept policy i zs place x holders (Some qos) is =
    ap (λ y. held_kept policy place i y qos ++ holders_kept policy i zs holders) is
    ∙ by (is_due_messages x.phase) refl
  where
    by : (b : Bool) → is_due_messages x.phase ≡ b
        → held_kept policy place i x qos ++ holders_kept policy i zs holders
        ≡ due_kept policy place i x (if b then Some (lesser i.qos qos) else None)
        ++ holders_kept policy i zs holders
    by true due = rw due refl
    by false due = rw due refl

-- the clients from a place on are the last of all
abbrev StandFrom : List Client → ℕ → List Client → Type 0
StandFrom zs place xs = (n : ℕ) → client_at zs (n + place) ≡ client_at xs n

later : (zs : List Client) (place : ℕ) (x : Client) (xs : List Client) → StandFrom zs place (x ∷ xs)
    → StandFrom zs (suc place) xs
later zs place x xs stand n =
    let shift : n + suc place ≡ suc n + place = omega arith in
    ap (client_at zs) shift ∙ stand (suc n)

first : (zs : List Client) (place : ℕ) (x : Client) (xs : List Client) → StandFrom zs place (x ∷ xs)
    → client_at zs place ≡ x
first zs place x xs stand = ap (client_at zs) (sym (zero-add place)) ∙ stand 0

outs_from : (policy : Policy) (i : Incoming) (zs : List Client) (place : ℕ) (xs : List Client)
    → StandFrom zs place xs
    → holders_outs policy i zs (holders_from place i.content.name xs) ≡ all_outs policy i xs
outs_from policy i zs place [] stand = refl
outs_from policy i zs place (x ∷ xs) stand =
    one_outs policy i zs place x (holders_from (suc place) i.content.name xs) (greatest_qos x.filters i.content.name)
    (first zs place x xs stand)
    ∙ ap (λ outs. deliver_outs policy i x ++ outs)
    (outs_from policy i zs (suc place) xs (later zs place x xs stand))

kept_from : (policy : Policy) (i : Incoming) (zs : List Client) (place : ℕ) (xs : List Client)
    → StandFrom zs place xs
    → holders_kept policy i zs (holders_from place i.content.name xs) ≡ all_kept policy i place xs
kept_from policy i zs place [] stand = refl
kept_from policy i zs place (x ∷ xs) stand =
    one_kept policy i zs place x (holders_from (suc place) i.content.name xs) (greatest_qos x.filters i.content.name)
    (first zs place x xs stand)
    ∙ ap (λ kept. deliver_kept policy i place x ++ kept)
    (kept_from policy i zs (suc place) xs (later zs place x xs stand))

from_all : (xs : List Client) → StandFrom xs 0 xs
from_all xs n = ap (client_at xs) (omega arith)

pub outs-all : (policy : Policy) (i : Incoming) (xs : List Client)
    → holders_outs policy i xs (holders_from 0 i.content.name xs) ≡ all_outs policy i xs
outs-all policy i xs = outs_from policy i xs 0 xs (from_all xs)

pub kept-all : (policy : Policy) (i : Incoming) (xs : List Client)
    → holders_kept policy i xs (holders_from 0 i.content.name xs) ≡ all_kept policy i 0 xs
kept-all policy i xs = kept_from policy i xs 0 xs (from_all xs)

-- each of them is one of the clients
one_within : (zs : List Client) (place : ℕ) (found : Option Qos) (holders : List Holder) → place < length zs
    → AreWithin zs holders → AreWithin zs (holder_at place found ++ holders)
one_within zs place None holders within rest = rest
one_within zs place (Some qos) holders within rest = (within, rest)

within_from : (zs : List Client) (place : ℕ) (name : List ℕ) (xs : List Client)
    → place + length xs ≡ length zs → AreWithin zs (holders_from place name xs)
within_from zs place name [] long = tt
within_from zs place name (x ∷ xs) long =
    one_within zs place (greatest_qos x.filters name) (holders_from (suc place) name xs) (omega (arith, long))
    (within_from zs (suc place) name xs (omega (arith, long)))

pub all-within : (name : List ℕ) (xs : List Client) → AreWithin xs (holders_from 0 name xs)
all-within name xs = within_from xs 0 name xs (zero-add (length xs))
