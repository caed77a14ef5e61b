-- The settings of a file and the document that it is.
use Rattle.std.proofs.Common.{◌≡◌, ℕ, zero, suc, ◌-◌, Bool, true, false, List, [], ◌∷◌, ◌++◌, length, find}
use Rattle.std.proofs.Common.{Option, Some, None, option_map, IsSome, Result, Ok, Err, IfOk, refl, sym, ap}
use Rattle.std.proofs.Common.{◌∙◌, subst, inl, inr, arith, rules, ◌==◌}
use Rattle.std.proofs.lemmas.Bool.{cases_Bool}
use Rattle.std.proofs.lemmas.Bool.Decides.{nat_tests}
use Rattle.std.proofs.lemmas.List.Folds.{find-append}
use Rattle.std.proofs.lemmas.Option.{none-some, same_Some}
use Rattle.std.proofs.lemmas.Slice.Eq.{bytes_eq-Decides}
use Rattle.std.specs.Option.{option_or}
use Rattle.std.specs.Str.{bytes_eq}
use Rattle.std.specs.Str.Lossy.{utf8_valid_len}
use Rattle.toml_parser.specs.Lexical.{skip_blank}
use Rattle.toml.specs.Data.{Data, same_key}
use Rattle.toml.specs.Tables.{Node, Nodes, no_nodes, value, close, close_node, get_node, insert, key_value}
use Rattle.toml.specs.Tables.{define, along_header, along_dots}
use Rattle.toml.specs.Parse.{lines, skip_bom}
use Rattle.toml.proofs.NodeLaws.{get_node-insert}
use Rattle.toml.proofs.Turns.{at_key_new, lines_end, lines_more, document_some}
use Rattle.sng_config.specs.declared.names.Name.{Name}
use Rattle.sng_config.specs.declared.names.TheConstants.{NAMES}
use Rattle.sng_config.specs.Names.{word_of, name_of}
use Rattle.sng_config.specs.Places.{line_at}
use Rattle.sng_config.specs.Values.{Set, SetAt, data_of, name_in, is_name, entry_of}
use Rattle.sng_config.specs.Reading.{Why, settled, refused, entry, after_entry, entries, outcome_of}
use Rattle.sng_config.specs.Documents.{IsDocumentOf}
use Rattle.sng_config.proofs.NodeLemmas.{same_key-true, same_key-false, get_node-insert_other}
use Rattle.sng_config.proofs.NodeLemmas.{get_member-close}
use Rattle.sng_config.proofs.LineLemmas.{entry-read}

-- what a table holds once so many entries are read
pub record Holds (found : List SetAt) (nodes : Nodes) : Type 0 where
  pub same : (name : Name)
      → get_node (word_of name) nodes ≡ option_map (λ entry. value (data_of entry.set)) (entry_of name found)
  pub known : (key : List ℕ) (held : Node) → get_node key nodes ≡ Some held → IsSome (name_of key)

nothing-held : Holds [] no_nodes
nothing-held = record { same = λ name. refl; known = λ key held e. absurd (none-some held e) }

refused-settled : (at : ℕ) (why : Why) (found : List SetAt) → refused at why ≡ settled found → ⊥
refused-settled at why found e = cc

-- a name that is known is written so
found-passes : {A : Type 0} (test : A → Bool) (xs : List A) (x : A) → find test xs ≡ Some x → test x ≡ true
found-passes test [] x e = absurd (none-some x e)
found-passes test (y ∷ ys) x e =
    elim (cases_Bool (test y)) [
      | inl here ↦ ap test (sym (same_Some y x (rw here at e))) ∙ here
      | inr further ↦ found-passes test ys x (rw further at e)
    ]

pub name_of-word : (word : List ℕ) (name : Name) → name_of word ≡ Some name → word_of name ≡ word
unfolding name_of
name_of-word word name e =
    (bytes_eq-Decides (word_of name) word).0
    (found-passes (λ other. bytes_eq (word_of other) word) NAMES name e)

mapped-none : {A B : Type 0} (f : A → B) (o : Option A) → option_map f o ≡ None → o ≡ None
mapped-none f None e = refl
mapped-none f (Some x) e = absurd (none-some (f x) (sym e))

or-none : {A : Type 0} (o : Option A) → option_or o None ≡ o
or-none None = refl
or-none (Some x) = refl

is-some : {A : Type 0} (o : Option A) (x : A) → o ≡ Some x → IsSome o
is-some None x e = absurd (none-some x e)
is-some (Some y) x e = search rules

-- what an entry behind others changes
entry_of-more : (name : Name) (before : List SetAt) (entry : SetAt)
    → entry_of name (before ++ entry ∷ [])
    ≡ option_or (entry_of name before) (find (λ e. is_name (name_in e.set) name) (entry ∷ []))
entry_of-more name before entry = find-append (λ e. is_name (name_in e.set) name) before (entry ∷ [])

-- a name that was not set has no node
no-node : (before : List SetAt) (nodes : Nodes) → Holds before nodes → (name : Name) (word : List ℕ)
    → word_of name ≡ word
    → entry_of name before ≡ None → get_node word nodes ≡ None
no-node before nodes holds name word spelled unset =
    ap (λ w. get_node w nodes) (sym spelled) ∙ holds.same name
    ∙ ap (option_map (λ entry. value (data_of entry.set))) unset

-- the names with one more
held-same : (before : List SetAt) (nodes : Nodes) → Holds before nodes → (set : Set) (at : ℕ) (word : List ℕ)
    → word_of (name_in set) ≡ word → entry_of (name_in set) before ≡ None → get_node word nodes ≡ None
    → (name : Name)
    → get_node (word_of name) (insert word (value (data_of set)) nodes)
    ≡ option_map (λ entry. value (data_of entry.set))
    (entry_of name (before ++ record { line = at; set = set } ∷ []))
held-same before nodes holds set at word spelled unset none name =
    let new : SetAt = record { line = at; set = set } in
    let held = value (data_of set) in
    let test = λ (e : SetAt). is_name (name_in e.set) name in
    elim (cases_Bool (is_name (name_in set) name)) [
      | inl same ↦
          let words : word_of (name_in set) ≡ word_of name =
          (bytes_eq-Decides (word_of (name_in set)) (word_of name)).0 same in
          let earlier : entry_of name before ≡ None =
          ap (λ w. find (λ e. bytes_eq (word_of (name_in e.set)) w) before) (sym words) ∙ unset in
          let last : find test (new ∷ []) ≡ Some new = rw same refl in
          let whole : entry_of name (before ++ new ∷ []) ≡ Some new =
          entry_of-more name before new ∙ ap (λ o. option_or o (find test (new ∷ []))) earlier ∙ last in
          ap (λ w. get_node w (insert word held nodes)) (sym words ∙ spelled)
          ∙ get_node-insert word held nodes
          ∙ sym (ap (option_map (λ entry. value (data_of entry.set))) whole)
      | inr other ↦
          let last : find test (new ∷ []) ≡ None = rw other refl in
          let whole : entry_of name (before ++ new ∷ []) ≡ entry_of name before =
          entry_of-more name before new ∙ ap (option_or (entry_of name before)) last
          ∙ or-none (entry_of name before) in
          let apart : same_key (word_of name) word ≡ false =
          same_key-false word (word_of name) (ap (λ w. bytes_eq w (word_of name)) (sym spelled) ∙ other) in
          get_node-insert_other (word_of name) word held nodes apart none ∙ holds.same name
          ∙ sym (ap (option_map (λ entry. value (data_of entry.set))) whole)
    ]

held-known : (before : List SetAt) (nodes : Nodes) → Holds before nodes
    → (name : Name) (word : List ℕ) (new : Node)
    → name_of word ≡ Some name → get_node word nodes ≡ None → (key : List ℕ) (held : Node)
    → get_node key (insert word new nodes) ≡ Some held → IsSome (name_of key)
held-known before nodes holds name word new written none key held e =
    elim (cases_Bool (same_key key word)) [
      | inl same ↦ is-some (name_of key) name (ap name_of (same_key-true key word same) ∙ written)
      | inr other ↦ holds.known key held (sym (get_node-insert_other key word new nodes other none) ∙ e)
    ]

-- a key and its value, at the top of a document
define-new : (nodes : Nodes) (word : List ℕ) (d : Data) → get_node word nodes ≡ None
    → define (nodes, []) (([], word), key_value d) ≡ Some (insert word (value d) nodes, [])
unfolding define along_header along_dots
define-new nodes word d none = rw (at_key_new word (key_value d) nodes none) refl

-- what is left of a text is read alike
abbrev AreAlike : ℕ → List ℕ → List SetAt → List ℕ → Type 0
AreAlike n text found rest =
    (before : List SetAt) (nodes : Nodes) → Holds before nodes → entries n text before rest ≡ settled found
    → (after : Nodes) × (lines n (nodes, []) rest ≡ Some (after, [])) × Holds found after

same-settled : (before found : List SetAt) → settled before ≡ settled found → before ≡ found
same-settled before found e = cc

one-more : (n : ℕ) (text : List ℕ) (found before : List SetAt) (rest : List ℕ) (nodes : Nodes)
    → Holds before nodes
    → ((later : List ℕ) → AreAlike n text found later) → (length (skip_blank rest) == 0) ≡ false
    → (read : Result (Set × List ℕ) Why) → entry before (skip_blank rest) ≡ read
    → after_entry (entries n text) text before (skip_blank rest) read ≡ settled found
    → (after : Nodes) × (lines (suc n) (nodes, []) rest ≡ Some (after, [])) × Holds found after
one-more n text found before rest nodes holds alike more (Err why) is e = absurd (refused-settled _ _ _ e)
one-more n text found before rest nodes holds alike more (Ok (set, later)) is e =
    let start = skip_blank rest in
    let at = line_at text (length text - length start) in
    let r = entry-read before start set later is in
    let word = r.0 in
    let spelled : word_of (name_in set) ≡ word = name_of-word word (name_in set) r.2 in
    let unset : entry_of (name_in set) before ≡ None =
    mapped-none (λ entry. entry.line) (entry_of (name_in set) before) r.3 in
    let none : get_node word nodes ≡ None = no-node before nodes holds (name_in set) word spelled unset in
    let new = insert word (value (data_of set)) nodes in
    let holds_more : Holds (before ++ record { line = at; set = set } ∷ []) new =
    record {
      same = held-same before nodes holds set at word spelled unset none;
      known = held-known before nodes holds (name_in set) word (value (data_of set)) r.2 none;
    } in
    let rest_alike = alike later (before ++ record { line = at; set = set } ∷ []) new holds_more e in
    let step : lines (suc n) (nodes, []) rest ≡ lines (suc n - 1) (new, []) later =
    lines_more (suc n) (nodes, []) (new, []) rest (([], word), key_value (data_of set)) later (omega arith)
    more r.1
    (define-new nodes word (data_of set) none) in
    let less : suc n - 1 ≡ n = omega arith in
    (rest_alike.0, step ∙ ap (λ m. lines m (new, []) later) less ∙ rest_alike.1, rest_alike.2)

entries-lines : (n : ℕ) (text : List ℕ) (found : List SetAt) (rest : List ℕ) → AreAlike n text found rest
unfolding entries
entries-lines zero text found rest before nodes holds e = absurd (refused-settled _ _ _ e)
entries-lines (suc n) text found rest before nodes holds e =
    elim (cases_Bool (length (skip_blank rest) == 0)) [
      | inl over ↦
          let none : length (skip_blank rest) ≡ 0 = grind (arith, nat_tests) in
          let same : before ≡ found = same-settled before found (rw over at e) in (
            nodes,
            lines_end (suc n) (nodes, []) rest (omega arith) none,
            subst (λ f. Holds f nodes) same holds,
          )
      | inr more ↦
          one-more n text found before rest nodes holds (λ later. entries-lines n text found later) more
          (entry before (skip_blank rest)) refl (rw more at e)
    ]

closed : (o : Option SetAt)
    → option_map close_node (option_map (λ entry. value (data_of entry.set)) o)
    ≡ option_map (λ entry. data_of entry.set) o
closed None = refl
closed (Some entry) = refl

known-closed : (key : List ℕ) (nodes : Nodes) (d : Data) (held : Option Node) → get_node key nodes ≡ held
    → ((node : Node) → get_node key nodes ≡ Some node → IsSome (name_of key))
    → option_map close_node held ≡ Some d → IsSome (name_of key)
known-closed key nodes d None is known e = absurd (none-some d e)
known-closed key nodes d (Some node) is known e = known node is

-- where all entries of a text are read it is a document of TOML, with what is set
pub entries-document : (text : List ℕ) (found : List SetAt)
    → entries (suc (length text)) text [] (skip_bom text) ≡ settled found → IsDocumentOf found text
entries-document text found e =
    let alike = entries-lines (suc (length text)) text found (skip_bom text) [] no_nodes nothing-held e in
    let nodes = alike.0 in
    let holds = alike.2 in (
      close nodes,
      document_some text (nodes, []) alike.1,
      λ name. get_member-close (word_of name) nodes ∙ ap (option_map close_node) (holds.same name)
          ∙ closed (entry_of name found),
      λ key d got. known-closed key nodes d (get_node key nodes) refl (holds.known key)
          (sym (get_member-close key nodes) ∙ got),
    )

pub outcome-document : (text : List ℕ) (found : List SetAt) → outcome_of text ≡ settled found
    → IsDocumentOf found text
unfolding outcome_of
outcome-document text found e =
    elim (cases_Bool (utf8_valid_len text == length text)) [
      | inl all ↦ entries-document text found (rw all at e)
      | inr part ↦ absurd (refused-settled _ _ _ (rw part at e))
    ]

pub read-document : {E : Type 0} (text : List ℕ) (r : Result (List SetAt) E)
    → IfOk r (λ found. outcome_of text ≡ settled found)
    → IfOk r (λ found. IsDocumentOf found text)
read-document text (Ok found) e = outcome-document text found e
read-document text (Err fault) e = tt
