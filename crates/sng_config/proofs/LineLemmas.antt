-- An entry that is read is a line of TOML.
use Rattle.std.proofs.Common.{◌≡◌, ℕ, ℤ, pos, negsuc, suc, true, false, nat_le, ◌&&◌, ◌==◌, List, [], ◌∷◌}
use Rattle.std.proofs.Common.{length, Option, Some, None, Result, Ok, Err, refl, sym, ap, ◌∙◌, inl, inr}
use Rattle.std.proofs.Common.{arith}
use Rattle.std.proofs.lemmas.Bool.{cases_Bool}
use Rattle.std.proofs.lemmas.Bool.Decides.{nat_tests}
use Rattle.std.proofs.lemmas.Option.{none-some, same_Some}
use Rattle.std.specs.Option.{option_map}
use Rattle.toml_parser.specs.Lexical.{Read, first, skip_ws, left_bracket, left_brace}
use Rattle.toml_parser.specs.Strings.{Key, recursion_limit}
use Rattle.toml.specs.Data.{Data, string, integer, float, boolean, datetime, array, table}
use Rattle.toml.specs.Tables.{key_value}
use Rattle.toml.specs.Parse.{key_equals, atom, val, expression, line, ends_line}
use Rattle.sng_config.specs.declared.names.NumberName.{NumberName}
use Rattle.sng_config.specs.declared.names.Name.{Name}
use Rattle.sng_config.specs.declared.names.Name.TheVariants.{Text, Number, Switch}
use Rattle.sng_config.specs.Names.{name_of, least_of, most_of}
use Rattle.sng_config.specs.Values.{Set, SetAt, text, number, switch, set_of, number_as, data_of, name_in}
use Rattle.sng_config.specs.Values.{line_of}
use Rattle.sng_config.specs.Reading.{Why, new_name, known_name, before_rest, after_key, named, fitted}
use Rattle.sng_config.specs.Reading.{after_value, valued, after_name, entry}

-- what is read as one value and as another
abbrev pair_or : {A B E : Type 0} → A × B → Result (A × B) E → A × B
pair_or z (Ok p) = p
pair_or z (Err e) = z

same_pair : {A B E : Type 0} (a c : A) (b d : B) (one other : Result (A × B) E) → one ≡ Ok (a, b)
    → other ≡ Ok (c, d) → one ≡ other
    → (a ≡ c) × (b ≡ d)
same_pair a c b d one other is is_other e =
    let same = sym is ∙ e ∙ is_other in
    (ap (λ r. (pair_or (a, b) r).0) same, ap (λ r. (pair_or (a, b) r).1) same)

not_read : {A E : Type 0} (e : E) (a : A) → Err e ≡ Ok a → ⊥
not_read e a same = cc

-- a name that is read
new-read : (rest behind : List ℕ) (found name : Name) (at : Option ℕ)
    → before_rest rest (new_name found at) ≡ Ok (name, behind)
    → (found ≡ name) × (rest ≡ behind) × (at ≡ None)
new-read rest behind found name None e =
    let p = same_pair found name rest behind _ _ refl refl e in (p.0, p.1, refl)
new-read rest behind found name (Some at) e = absurd (not_read _ _ e)

known-read : (before : List SetAt) (word rest behind : List ℕ) (name : Name) (found : Option Name)
    → before_rest rest (known_name before word found) ≡ Ok (name, behind)
    → (found ≡ Some name) × (rest ≡ behind) × (line_of name before ≡ None)
known-read before word rest behind name None e = absurd (not_read _ _ e)
known-read before word rest behind name (Some found) e =
    let p = new-read rest behind found name (line_of found before) e in
    (ap Some p.0, p.1, ap (λ n. line_of n before) (sym p.0) ∙ p.2)

pub after_key-read : (before : List SetAt) (read : Read Key) (name : Name) (behind : List ℕ)
    → after_key before read ≡ Ok (name, behind)
    → (word : List ℕ) × (read ≡ Some (([], word), behind)) × (name_of word ≡ Some name)
    × (line_of name before ≡ None)
after_key-read before None name behind e = absurd (not_read _ _ e)
after_key-read before (Some (([], word), rest)) name behind e =
    let p = known-read before word rest behind name (name_of word) e in
    (word, ap (λ r. Some (([], word), r)) p.1, p.0, p.2)
after_key-read before (Some ((part ∷ parts, word), rest)) name behind e =
    let some : (length (part ∷ parts) == 0) ≡ false = grind (arith, nat_tests) in
    absurd (not_read _ _ (rw some at e))

pub named-read : (before : List SetAt) (start : List ℕ) (name : Name) (behind : List ℕ)
    → named before start ≡ Ok (name, behind)
    → (first start == left_bracket) ≡ false
    × ((word : List ℕ) × (key_equals start ≡ Some (([], word), behind)) × (name_of word ≡ Some name)
    × (line_of name before ≡ None))
unfolding named
named-read before start name behind e =
    elim (cases_Bool (first start == left_bracket)) [
      | inl bracket ↦ absurd (not_read _ _ (rw bracket at e))
      | inr other ↦ (other, after_key-read before (key_equals start) name behind (rw other at e))
    ]

-- a value that is read
fitted-read : (name : Name) (rest : List ℕ) (set : Set) (after : List ℕ) (found : Option Set)
    → fitted name rest found ≡ Ok (set, after)
    → (found ≡ Some set) × (rest ≡ after)
fitted-read name rest set after None e = absurd (not_read _ _ e)
fitted-read name rest set after (Some found) e =
    let p = same_pair found set rest after _ _ refl refl e in (ap Some p.0, p.1)

after_value-read : (name : Name) (read : Read Data) (set : Set) (after : List ℕ)
    → after_value name read ≡ Ok (set, after)
    → (value : Data) × (read ≡ Some (value, after)) × (ends_line (skip_ws after) ≡ true)
    × (set_of name value ≡ Some set)
after_value-read name None set after e = absurd (not_read _ _ e)
after_value-read name (Some (value, rest)) set after e =
    elim (cases_Bool (ends_line (skip_ws rest))) [
      | inl over ↦
          let p = fitted-read name rest set after (set_of name value) (rw over at e) in
          (value, ap (λ r. Some (value, r)) p.1, ap (λ r. ends_line (skip_ws r)) (sym p.1) ∙ over, p.0)
      | inr more ↦ absurd (not_read _ _ (rw more at e))
    ]

valued-read : (name : Name) (rest : List ℕ) (set : Set) (after : List ℕ) → valued name rest ≡ Ok (set, after)
    → (first rest == left_bracket) ≡ false × (first rest == left_brace) ≡ false
    × ((value : Data) × (atom rest ≡ Some (value, after)) × (ends_line (skip_ws after) ≡ true)
    × (set_of name value ≡ Some set))
unfolding valued
valued-read name rest set after e =
    elim (cases_Bool (first rest == left_bracket)) [
      | inl bracket ↦ absurd (not_read _ _ (rw bracket at e))
      | inr no_bracket ↦ elim (cases_Bool (first rest == left_brace)) [
        | inl brace ↦ absurd (not_read _ _ (rw (no_bracket, brace) at e))
        | inr no_brace ↦ (
          no_bracket,
          no_brace,
          after_value-read name (atom rest) set after
              (rw (no_bracket, no_brace) at e),
        )
      ]
    ]

-- what is set is the value that stands there, under the name that was asked for
same-set : (set found : Set) (name : Name) (value : Data) → Some found ≡ Some set → data_of found ≡ value
    → name_in found ≡ name
    → (data_of set ≡ value) × (name_in set ≡ name)
same-set set found name value e is named =
    let same = same_Some found set e in (ap data_of (sym same) ∙ is, ap name_in (sym same) ∙ named)

number-set : (name : NumberName) (z : ℤ) (set : Set) → option_map (number name) (number_as name z) ≡ Some set
    → (data_of set ≡ integer z) × (name_in set ≡ Number name)
number-set name (pos n) set e =
    elim (cases_Bool (nat_le (least_of name) n && nat_le n (most_of name))) [
      | inl within ↦ same-set set (number name n) (Number name) (integer (pos n)) (rw within at e) refl refl
      | inr outside ↦ absurd (none-some set (rw outside at e))
    ]
number-set name (negsuc n) set e = absurd (none-some set e)

pub set-value : (name : Name) (value : Data) (set : Set) → set_of name value ≡ Some set
    → (data_of set ≡ value) × (name_in set ≡ name)
set-value (Text name) (string bytes) set e =
    same-set set (text name bytes) (Text name) (string bytes) e refl refl
set-value (Text name) (integer z) set e = absurd (none-some set e)
set-value (Text name) (float _) set e = absurd (none-some set e)
set-value (Text name) (boolean is_on) set e = absurd (none-some set e)
set-value (Text name) (datetime _) set e = absurd (none-some set e)
set-value (Text name) (array _) set e = absurd (none-some set e)
set-value (Text name) (table _) set e = absurd (none-some set e)
set-value (Number name) (string bytes) set e = absurd (none-some set e)
set-value (Number name) (integer z) set e = number-set name z set e
set-value (Number name) (float _) set e = absurd (none-some set e)
set-value (Number name) (boolean is_on) set e = absurd (none-some set e)
set-value (Number name) (datetime _) set e = absurd (none-some set e)
set-value (Number name) (array _) set e = absurd (none-some set e)
set-value (Number name) (table _) set e = absurd (none-some set e)
set-value (Switch name) (string bytes) set e = absurd (none-some set e)
set-value (Switch name) (integer z) set e = absurd (none-some set e)
set-value (Switch name) (float _) set e = absurd (none-some set e)
set-value (Switch name) (boolean is_on) set e =
    same-set set (switch name is_on) (Switch name) (boolean is_on) e refl refl
set-value (Switch name) (datetime _) set e = absurd (none-some set e)
set-value (Switch name) (array _) set e = absurd (none-some set e)
set-value (Switch name) (table _) set e = absurd (none-some set e)

-- a line of a key and a value that is no list and no table
val-atom : (depth : ℕ) (behind : List ℕ) → (first behind == left_bracket) ≡ false
    → (first behind == left_brace) ≡ false
    → val (suc depth) behind ≡ atom behind
unfolding val
val-atom depth behind no_bracket no_brace = rw (no_bracket, no_brace) refl

flat-line : (start word behind : List ℕ) (value : Data) (after : List ℕ)
    → (first start == left_bracket) ≡ false
    → key_equals start ≡ Some (([], word), behind) → val recursion_limit behind ≡ Some (value, after)
    → ends_line (skip_ws after) ≡ true → line start ≡ Some ((([], word), key_value value), after)
unfolding line expression
flat-line start word behind value after other key read over = rw (other, key, read, over) refl

-- an entry that is read: its key, its value, and that its name was not set before
pub entry-read : (before : List SetAt) (start : List ℕ) (set : Set) (after : List ℕ)
    → entry before start ≡ Ok (set, after)
    → (word : List ℕ) × (line start ≡ Some ((([], word), key_value (data_of set)), after))
    × (name_of word ≡ Some (name_in set)) × (line_of (name_in set) before ≡ None)
entry-read before start set after e = go (named before start) refl e
  where
    go : (read : Result (Name × List ℕ) Why) → named before start ≡ read → after_name read ≡ Ok (set, after)
        → (word : List ℕ) × (line start ≡ Some ((([], word), key_value (data_of set)), after))
        × (name_of word ≡ Some (name_in set)) × (line_of (name_in set) before ≡ None)
    go (Err why) is e = absurd (not_read _ _ e)
    go (Ok (name, behind)) is e =
        let n = named-read before start name behind is in
        let v = valued-read name behind set after e in
        let s = set-value name v.2.0 set v.2.3 in
        let read : val recursion_limit behind ≡ Some (v.2.0, after) = val-atom 79 behind v.0 v.1 ∙ v.2.1 in
        let whole = flat-line start n.1.0 behind v.2.0 after n.0 n.1.1 read v.2.2 in (
          n.1.0,
          whole ∙ ap (λ d. Some ((([], n.1.0), key_value d), after)) (sym s.0),
          n.1.2 ∙ ap Some (sym s.1),
          ap (λ m. line_of m before) s.1 ∙ n.1.3,
        )
