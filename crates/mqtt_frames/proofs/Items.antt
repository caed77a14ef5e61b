-- Reading items one after another, as a loop does.
use Rattle.std.proofs.Common.{◌≡◌, ℕ, zero, suc, ◌<◌, ◌≤◌, List, [], ◌∷◌, ◌++◌, length, Result, Ok, Err, refl}
use Rattle.std.proofs.Common.{sym, ap, ◌∙◌, append_assoc, arith}
use Rattle.mqtt_frames.specs.declared.fault.PacketFault.{PacketFault}
use Rattle.mqtt_frames.specs.Reading.{◌>>=◌, items_within, items_of}

-- what was read before, and what is still read
abbrev pub with_front : {A : Type 0} → List A → Result (List A) PacketFault → Result (List A) PacketFault
with_front front read = read >>= λ items. Ok (front ++ items)

-- an item takes bytes
abbrev pub Consumes : {A : Type 0} → (List ℕ → Result (A × List ℕ) PacketFault) → Type 0
Consumes {A} item_at =
    (bytes : List ℕ) (x : A) (rest : List ℕ) → item_at bytes ≡ Ok (x, rest) → length rest < length bytes

pub bind_same : {A B : Type 0} (r : Result A PacketFault) (f g : A → Result B PacketFault)
    → ((x : A) → r ≡ Ok x → f x ≡ g x) → (r >>= f) ≡ (r >>= g)
bind_same (Ok x) f g same = same x refl
bind_same (Err e) f g same = refl

-- room for more items than there are changes nothing
items_within-room : {A : Type 0} (item_at : List ℕ → Result (A × List ℕ) PacketFault) → Consumes item_at
    → (most least : ℕ) (bytes : List ℕ) → length bytes ≤ least → least ≤ most
    → items_within item_at most bytes ≡ items_within item_at least bytes
items_within-room item_at consumes zero zero [] fits below = refl
items_within-room item_at consumes zero zero (b ∷ bytes) fits below = refl
items_within-room item_at consumes zero (suc least) bytes fits below = absurd (omega arith)
items_within-room item_at consumes (suc most) zero [] fits below = refl
items_within-room item_at consumes (suc most) zero (b ∷ bytes) fits below = absurd (omega arith)
items_within-room item_at consumes (suc most) (suc least) [] fits below = refl
items_within-room {A} item_at consumes (suc most) (suc least) (b ∷ bytes) fits below =
    bind_same (item_at (b ∷ bytes))
    (λ item. items_within item_at most item.1 >>= λ items. Ok (item.0 ∷ items))
    (λ item. items_within item_at least item.1 >>= λ items. Ok (item.0 ∷ items))
    (λ x is. ap (λ (r : Result (List A) PacketFault). r >>= λ items. Ok (x.0 ∷ items))
    (items_within-room item_at consumes most least x.1 (omega (arith, consumes (b ∷ bytes) x.0 x.1 is))
    (omega arith)))

pub items_of-next : {A : Type 0} (item_at : List ℕ → Result (A × List ℕ) PacketFault) → Consumes item_at
    → (bytes : List ℕ) (x : A) (rest : List ℕ) → item_at bytes ≡ Ok (x, rest)
    → items_of item_at bytes ≡ (items_of item_at rest >>= λ items. Ok (x ∷ items))
items_of-next item_at consumes [] x rest is = absurd (omega (arith, consumes [] x rest is))
items_of-next {A} item_at consumes (b ∷ bytes) x rest is =
    rw is (ap (λ (r : Result (List A) PacketFault). r >>= λ items. Ok (x ∷ items))
    (items_within-room item_at consumes (length bytes) (length rest) rest (omega arith)
    (omega (arith, consumes (b ∷ bytes) x rest is))))

pub regroup : {A : Type 0} (front : List A) (x : A) (read : Result (List A) PacketFault)
    → with_front front (read >>= λ items. Ok (x ∷ items)) ≡ with_front (front ++ x ∷ []) read
regroup front x (Ok items) = ap Ok (simp append_assoc)
regroup front x (Err e) = refl

pub goes_on : {A : Type 0} (item_at : List ℕ → Result (A × List ℕ) PacketFault) → Consumes item_at
    → (front : List A) (bytes : List ℕ) (x : A) (rest : List ℕ) (all : Result (List A) PacketFault)
    → item_at bytes ≡ Ok (x, rest) → with_front front (items_of item_at bytes) ≡ all
    → with_front (front ++ x ∷ []) (items_of item_at rest) ≡ all
goes_on item_at consumes front bytes x rest all is so_far =
    sym (regroup front x (items_of item_at rest))
    ∙ ap (with_front front) (sym (items_of-next item_at consumes bytes x rest is)) ∙ so_far
