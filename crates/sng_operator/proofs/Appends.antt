-- What a text is behind calls that append to it, one after another, of which the last one's `Result` is
-- returned.
use Rattle.std.proofs.Common.{ℕ, ◌≡◌, List, ◌++◌, Result, OnOk, ap, ◌∙◌, append_assoc}
use Rattle.std.proofs.lemmas.Result.{IfOk-equal}

pub three : {T E : Type 0} (r : Result T E) (t a b c t1 t2 t3 : List ℕ)
    → t1 ≡ t ++ a → t2 ≡ t1 ++ b → OnOk r (t3 ≡ t2 ++ c)
    → OnOk r (t3 ≡ t ++ (a ++ (b ++ c)))
three r t a b c t1 t2 t3 first second last =
    IfOk-equal r t3 (t2 ++ c) (t ++ (a ++ (b ++ c))) last
    (ap (λ (l : List ℕ). l ++ c) (second ∙ ap (λ (l : List ℕ). l ++ b) first)
    ∙ append_assoc (t ++ a) b c ∙ append_assoc t a (b ++ c))

pub five : {T E : Type 0} (r : Result T E) (t a b c d e t1 t2 t3 t4 t5 : List ℕ)
    → t1 ≡ t ++ a → t2 ≡ t1 ++ b → t3 ≡ t2 ++ c → t4 ≡ t3 ++ d → OnOk r (t5 ≡ t4 ++ e)
    → OnOk r (t5 ≡ t ++ (a ++ (b ++ (c ++ (d ++ e)))))
five r t a b c d e t1 t2 t3 t4 t5 first second third fourth last =
    three r t a b (c ++ (d ++ e)) t1 t2 t5 first second (three r t2 c d e t3 t4 t5 third fourth last)
