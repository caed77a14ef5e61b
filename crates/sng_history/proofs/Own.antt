-- The notes of one client among those of many.
use Rattle.std.proofs.Common.{◌≡◌, ℕ, Bool, true, false, List, [], ◌∷◌, ◌++◌, map, refl, ap, sym, ◌∙◌}
use Rattle.std.specs.Prelude.{Option}
use Rattle.std.specs.List.{flat_map}
use Rattle.std.specs.Str.{bytes_eq}
use Rattle.std.proofs.lemmas.List.{append-nil, append_assoc}
use Rattle.std.proofs.lemmas.Slice.Eq.{bytes_eq-Decides}
use Rattle.sng_frames.specs.declared.messages.publish.Publish.{Publish}
use Rattle.sng_book.specs.declared.out.Out.{Out}
use Rattle.sng_history.specs.Clients.{Client}
use Rattle.sng_history.specs.Notes.{notes_of, said_of, exits_in, exits_of_out}
use Rattle.sng_history.specs.State.{asked_out, asked_all}
use Rattle.sng_history.specs.Good.{Each, Away, Distinct}

pub same_self : (c : List ℕ) → bytes_eq c c ≡ true
same_self c = (bytes_eq-Decides c c).1 refl

pub same_means : (a b : List ℕ) → bytes_eq a b ≡ true → a ≡ b
same_means a b is = (bytes_eq-Decides a b).0 is

flip_to : (a b : List ℕ) (t : Bool) → bytes_eq a b ≡ t → bytes_eq b a ≡ false → t ≡ false
flip_to a b true is away =
    let e : a ≡ b = same_means a b is in absurd (let f : bytes_eq b a ≡ true = rw e (same_self b) in cc)
flip_to a b false is away = refl

pub flip : (a b : List ℕ) → bytes_eq b a ≡ false → bytes_eq a b ≡ false
flip a b away = flip_to a b (bytes_eq a b) refl away

pub notes_append : (c : List ℕ) (xs ys : List Out) → notes_of c (xs ++ ys) ≡ notes_of c xs ++ notes_of c ys
notes_append c [] ys = refl
notes_append c (x ∷ xs) ys =
    ap (λ notes. said_of c x ++ notes) (notes_append c xs ys)
    ∙ sym (append_assoc (said_of c x) (notes_of c xs) (notes_of c ys))

pub exits_append : (xs ys : List Out) → exits_in (xs ++ ys) ≡ exits_in xs ++ exits_in ys
exits_append [] ys = refl
exits_append (x ∷ xs) ys =
    ap (λ exits. exits_of_out x ++ exits) (exits_append xs ys)
    ∙ sym (append_assoc (exits_of_out x) (exits_in xs) (exits_in ys))

pub asks_append : (p : Option Publish) (xs ys : List Out)
    → asked_all p (xs ++ ys) ≡ asked_all p xs ++ asked_all p ys
asks_append p [] ys = refl
asks_append p (x ∷ xs) ys =
    ap (λ items. asked_out p x ++ items) (asks_append p xs ys)
    ∙ sym (append_assoc (asked_out p x) (asked_all p xs) (asked_all p ys))

-- ---- what holds of each client

pub each_all : (P : Client → Type 0) (xs : List Client) → ((x : Client) → P x) → Each P xs
each_all P [] all = tt
each_all P (x ∷ xs) all = (all x, each_all P xs all)

pub each_with : (P Q R : Client → Type 0) (xs : List Client) → ((x : Client) → P x → Q x → R x) → Each P xs
    → Each Q xs → Each R xs
each_with P Q R [] f p q = tt
each_with P Q R (x ∷ xs) f p q = (f x p.0 q.0, each_with P Q R xs f p.1 q.1)

pub each_map : (P R : Client → Type 0) (xs : List Client) → ((x : Client) → P x → R x) → Each P xs → Each R xs
each_map P R [] f p = tt
each_map P R (x ∷ xs) f p = (f x p.0, each_map P R xs f p.1)

pub each_append : (P : Client → Type 0) (xs ys : List Client) → Each P xs → Each P ys → Each P (xs ++ ys)
each_append P [] ys one two = two
each_append P (x ∷ xs) ys one two = (one.0, each_append P xs ys one.1 two)

pub each_mapped : (P : Client → Type 0) (f : Client → Client) (xs : List Client) → Each (λ x. P (f x)) xs
    → Each P (map f xs)
each_mapped P f [] all = tt
each_mapped P f (x ∷ xs) all = (all.0, each_mapped P f xs all.1)

-- ---- parts of many clients

-- what is let out for a client is about that client
abbrev pub OnlyAbout : (Client → List Out) → Client → Type 0
OnlyAbout f x = (c : List ℕ) → bytes_eq c x.id ≡ false → notes_of c (f x) ≡ []

pub absent : (f : Client → List Out) (c : List ℕ) (xs : List Client) → Each (OnlyAbout f) xs → Away c xs
    → notes_of c (flat_map f xs) ≡ []
absent f c [] only away = refl
absent f c (x ∷ xs) only away =
    notes_append c (f x) (flat_map f xs)
    ∙ (ap (λ notes. notes ++ notes_of c (flat_map f xs)) (only.0 c away.0) ∙ absent f c xs only.1 away.1)

-- of all that is let out, a client's notes are those of its own part
pub each_own : (f : Client → List Out) (xs : List Client) → Each (OnlyAbout f) xs → Distinct xs
    → Each (λ x. notes_of x.id (flat_map f xs) ≡ notes_of x.id (f x)) xs
each_own f [] only apart = tt
each_own f (x ∷ xs) only apart = (
  notes_append x.id (f x) (flat_map f xs)
      ∙ (ap (λ notes. notes_of x.id (f x) ++ notes) (absent f x.id xs only.1 apart.0)
      ∙ append-nil (notes_of x.id (f x))),
  each_with (λ y. bytes_eq x.id y.id ≡ false) (λ y. notes_of y.id (flat_map f xs) ≡ notes_of y.id (f y))
      (λ y. notes_of y.id (flat_map f (x ∷ xs)) ≡ notes_of y.id (f y)) xs
      (λ y away own. notes_append y.id (f x) (flat_map f xs)
      ∙ (ap (λ notes. notes ++ notes_of y.id (flat_map f xs)) (only.0 y.id (flip y.id x.id away)) ∙ own))
      apart.0 (each_own f xs only.1 apart.1),
)

-- nothing of it leaves for the broker
pub no_exits : (f : Client → List Out) (xs : List Client) → Each (λ x. exits_in (f x) ≡ []) xs
    → exits_in (flat_map f xs) ≡ []
no_exits f [] none = refl
no_exits f (x ∷ xs) none =
    exits_append (f x) (flat_map f xs)
    ∙ (ap (λ exits. exits ++ exits_in (flat_map f xs)) none.0 ∙ no_exits f xs none.1)

pub flat_same : (f g : Client → List Out) (xs : List Client) → Each (λ x. f x ≡ g x) xs
    → flat_map f xs ≡ flat_map g xs
flat_same f g [] same = refl
flat_same f g (x ∷ xs) same = rw (same.0, flat_same f g xs same.1) refl

pub map_same : (f g : Client → Client) (xs : List Client) → Each (λ x. f x ≡ g x) xs → map f xs ≡ map g xs
map_same f g [] same = refl
map_same f g (x ∷ xs) same = rw (same.0, map_same f g xs same.1) refl
