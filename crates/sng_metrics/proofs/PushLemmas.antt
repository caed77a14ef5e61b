-- What a text has behind several calls that append to it, one behind the other.
use Rattle.std.proofs.Common.{ℕ, ◌≡◌, List, [], ◌++◌, Result, ap, sym, ◌∙◌, append_assoc}
use Rattle.std.specs.Prelude.{OnOk}
use Rattle.std.proofs.lemmas.List.{append-nil}
use Rattle.std.proofs.lemmas.Result.{IfOk-equal}

joined : (t0 a t1 b : List ℕ) → t1 ≡ t0 ++ a → t1 ++ b ≡ t0 ++ (a ++ b)
joined t0 a t1 b first = ap (λ t. t ++ b) first ∙ append_assoc t0 a b

pub pushed_two : {T E : Type 0} (r : Result T E) (t0 a t1 b t2 : List ℕ)
    → t1 ≡ t0 ++ a → OnOk r (t2 ≡ t1 ++ b) → OnOk r (t2 ≡ t0 ++ (a ++ b))
pushed_two r t0 a t1 b t2 first last = IfOk-equal r t2 (t1 ++ b) (t0 ++ (a ++ b)) last (joined t0 a t1 b first)

pub pushed_three : {T E : Type 0} (r : Result T E) (t0 a t1 b t2 c t3 : List ℕ)
    → t1 ≡ t0 ++ a → t2 ≡ t1 ++ b → OnOk r (t3 ≡ t2 ++ c) → OnOk r (t3 ≡ t0 ++ (a ++ (b ++ c)))
pushed_three r t0 a t1 b t2 c t3 first second last =
    pushed_two r t0 a t1 (b ++ c) t3 first (pushed_two r t1 b t2 c t3 second last)

pub pushed_five : {T E : Type 0} (r : Result T E) (t0 a t1 b t2 c t3 d t4 e t5 : List ℕ)
    → t1 ≡ t0 ++ a → t2 ≡ t1 ++ b → t3 ≡ t2 ++ c → t4 ≡ t3 ++ d → OnOk r (t5 ≡ t4 ++ e)
    → OnOk r (t5 ≡ t0 ++ (a ++ (b ++ (c ++ (d ++ e)))))
pushed_five r t0 a t1 b t2 c t3 d t4 e t5 first second third fourth last =
    pushed_three r t0 a t1 b t2 (c ++ (d ++ e)) t5 first second
    (pushed_three r t2 c t3 d t4 e t5 third fourth last)

-- the same of three, where nothing stands behind the last
pub pushed_list : {T E : Type 0} (r : Result T E) (t0 a t1 b t2 c t3 : List ℕ)
    → t1 ≡ t0 ++ a → t2 ≡ t1 ++ b → OnOk r (t3 ≡ t2 ++ c) → OnOk r (t3 ≡ t0 ++ (a ++ (b ++ (c ++ []))))
pushed_list r t0 a t1 b t2 c t3 first second last =
    IfOk-equal r t3 (t0 ++ (a ++ (b ++ c))) (t0 ++ (a ++ (b ++ (c ++ []))))
    (pushed_three r t0 a t1 b t2 c t3 first second last)
    (ap (λ x. t0 ++ (a ++ (b ++ x))) (sym (append-nil c)))

-- what is appended may be told otherwise
pub pushed_as : {T E : Type 0} (r : Result T E) (t0 a b t1 : List ℕ) → OnOk r (t1 ≡ t0 ++ a) → a ≡ b
    → OnOk r (t1 ≡ t0 ++ b)
pushed_as r t0 a b t1 last same = IfOk-equal r t1 (t0 ++ a) (t0 ++ b) last (ap (λ x. t0 ++ x) same)
