-- Members that are read one after another into entries in the order of their keys, and members that entries
-- are written as: these are read as those entries.
use Rattle.std.proofs.Common.{◌≡◌, ℕ, List, [], ◌∷◌, ◌++◌, Ordering, Less, Equal}
use Rattle.std.proofs.Common.{Greater, nat_cmp, is_eq, Result, Ok, refl, sym, ap, ◌∙◌, append-nil}
use Rattle.std.proofs.Common.{append_assoc}
use Rattle.std.proofs.lemmas.Cmp.{tied_itself}
use Rattle.std.proofs.lemmas.Map.Text.{is_eq-slice_cmp}
use Rattle.std.proofs.lemmas.Slice.Eq.{bytes_eq-Decides}
use Rattle.std.specs.BTreeMap.{insert_entry}
use Rattle.std.specs.Cmp.{IsTotalOrder}
use Rattle.std.specs.Cmp.Lexicographic.{slice_cmp}
use Rattle.std.specs.List.{AllByRecursion}
use Rattle.std.specs.List.Sorted.{IsStrictlySortedBy}
use Rattle.std.specs.Map.{keys_of}
use Rattle.std.specs.Ordering.{match_ordering}
use Rattle.serde_json.specs.Data.{Data, Members, no_members, member, put}
use Rattle.sng_scope.specs.Steps.{◌>>=◌}
use Rattle.sng_scope.specs.Written.{with_members}
use Rattle.sng_scope.specs.declared.fault.PolicyFault.{PolicyFault}
use Rattle.sng_scope.proofs.InsertLemmas.{Above, goes_last, swaps, above_from, below_from}

-- the two texts are the same
pub same_name : (n l : List ℕ) → slice_cmp nat_cmp n l ≡ Equal → n ≡ l
same_name n l is = (bytes_eq-Decides n l).0 (sym (is_eq-slice_cmp n l) ∙ ap is_eq is)

put-before : (n l : List ℕ) (d e : Data) (ms : Members) → slice_cmp nat_cmp n l ≡ Less
    → put n d (member l e ms) ≡ member n d (member l e ms)
put-before n l d e ms is = rw is refl

put-behind : (n l : List ℕ) (d e : Data) (ms : Members) → slice_cmp nat_cmp n l ≡ Greater
    → put n d (member l e ms) ≡ member l e (put n d ms)
put-behind n l d e ms is = rw is refl

module _ {K V : Type 0} (R : K → K → Ordering) (key : List ℕ → Result K PolicyFault)
    (value : Data → Result V PolicyFault) where
  -- the entries with those of the members
  abbrev pub onto : List (K × V) → Members → Result (List (K × V)) PolicyFault
  onto found no_members = Ok found
  onto found (member name d ms) =
      key name >>= (λ k. value d >>= (λ v. onto (insert_entry R found k v) ms))

  -- the member is read as an entry below the key
  pub record IsBelow (k : K) (name : List ℕ) (d : Data) : Type 0 where
    pub found : K
    pub gives : V
    pub names : key name ≡ Ok found
    pub says : value d ≡ Ok gives
    pub below : R k found ≡ Greater

  -- each member is
  abbrev pub AreBelow : K → Members → Type 0
  AreBelow k no_members = Unit {0}
  AreBelow k (member name d ms) = IsBelow k name d × AreBelow k ms

  onto-step : (found : List (K × V)) (name : List ℕ) (d : Data) (ms : Members) (k : K) (v : V)
      → key name ≡ Ok k → value d ≡ Ok v → onto found (member name d ms) ≡ onto (insert_entry R found k v) ms
  onto-step found name d ms k v names says = rw (names, says) refl

  AreBelow-put_at : (o : Ordering) (q k : K) (v : V) (n l : List ℕ) (d e : Data) (ms : Members)
      → IsBelow q n d → AreBelow q (member l e ms) → AreBelow q (put n d ms)
      → AreBelow q (match_ordering o (member n d (member l e ms)) (member l d ms) (member l e (put n d ms)))
  AreBelow-put_at Less q k v n l d e ms new old later = (new, old)
  AreBelow-put_at Equal q k v n l d e ms new old later = (
    record {
      found = old.0.found;
      gives = new.gives;
      names = old.0.names;
      says = new.says;
      below = old.0.below;
    },
    old.1,
  )
  AreBelow-put_at Greater q k v n l d e ms new old later = (old.0, later)

  AreBelow-put : (q k : K) (v : V) (n : List ℕ) (d : Data) (ms : Members) → IsBelow q n d → AreBelow q ms
      → AreBelow q (put n d ms)
  AreBelow-put q k v n d no_members new old = (new, tt)
  AreBelow-put q k v n d (member l e ms) new old =
      AreBelow-put_at (slice_cmp nat_cmp n l) q k v n l d e ms new old (AreBelow-put q k v n d ms new old.1)

module _ {K V : Type 0} (R : K → K → Ordering) (total : IsTotalOrder R)
    (key : List ℕ → Result K PolicyFault) (value : Data → Result V PolicyFault) where
  -- one more entry, before those of the members or after them
  grows : (ms : Members) (found all : List (K × V)) (k : K) (v : V) → AreBelow R key value k ms
      → onto R key value found ms ≡ Ok all
      → onto R key value (insert_entry R found k v) ms ≡ Ok (insert_entry R all k v)
  grows no_members found all k v below is =
      let same : found ≡ all = cc in
      ap (λ l. Ok (insert_entry R l k v)) same
  grows (member name d ms) found all k v below is =
      let b = below.0 in
      onto-step R key value (insert_entry R found k v) name d ms b.found b.gives b.names b.says
      ∙ ap (λ l. onto R key value l ms)
      (sym (swaps R total found b.found k b.gives v (below_from R total k b.found b.below)))
      ∙ grows ms (insert_entry R found b.found b.gives) all k v below.1
      (sym (onto-step R key value found name d ms b.found b.gives b.names b.says) ∙ is)

  puts_at : (o : Ordering) (n l : List ℕ) (d e : Data) (ms : Members) (found all : List (K × V)) (k : K)
      (v : V) → slice_cmp nat_cmp n l ≡ o → key n ≡ Ok k → value d ≡ Ok v
      → AreBelow R key value k (member l e ms) → onto R key value found (member l e ms) ≡ Ok all
      → ((more : List (K × V)) → onto R key value more ms ≡ Ok all
      → onto R key value more (put n d ms) ≡ Ok (insert_entry R all k v))
      → onto R key value found (put n d (member l e ms)) ≡ Ok (insert_entry R all k v)
  puts_at Less n l d e ms found all k v is names says below reads later =
      ap (onto R key value found) (put-before n l d e ms is)
      ∙ onto-step R key value found n d (member l e ms) k v names says
      ∙ grows (member l e ms) found all k v below reads
  puts_at Equal n l d e ms found all k v is names says below reads later =
      let same : Ok k ≡ Ok below.0.found = sym names ∙ ap key (same_name n l is) ∙ below.0.names in
      let itself : k ≡ below.0.found = cc in
      let tied : R k k ≡ Equal = tied_itself total k in
      let above : R k k ≡ Greater = ap (R k) itself ∙ below.0.below in
      absurd (cc)
  puts_at Greater n l d e ms found all k v is names says below reads later =
      let b = below.0 in
      ap (onto R key value found) (put-behind n l d e ms is)
      ∙ onto-step R key value found l e (put n d ms) b.found b.gives b.names b.says
      ∙ later (insert_entry R found b.found b.gives)
      (sym (onto-step R key value found l e ms b.found b.gives b.names b.says) ∙ reads)

  -- one more member, of a key above all that are there
  puts : (ms : Members) (n : List ℕ) (d : Data) (found all : List (K × V)) (k : K) (v : V) → key n ≡ Ok k
      → value d ≡ Ok v → AreBelow R key value k ms → onto R key value found ms ≡ Ok all
      → onto R key value found (put n d ms) ≡ Ok (insert_entry R all k v)
  puts no_members n d found all k v names says below is =
      let same : found ≡ all = cc in
      onto-step R key value found n d no_members k v names says ∙ ap (λ l. Ok (insert_entry R l k v)) same
  puts (member l e ms) n d found all k v names says below is =
      puts_at (slice_cmp nat_cmp n l) n l d e ms found all k v refl names says below is
      (λ more reads. puts ms n d more all k v names says below.1 reads)

  module _ (name : K → List ℕ) (data_of : V → Data) where
    -- each entry is read from what is written of it
    abbrev pub AreSaid : List (K × V) → Type 0
    AreSaid [] = Unit {0}
    AreSaid (e ∷ es) = (key (name e.0) ≡ Ok e.0) × (value (data_of e.1) ≡ Ok e.1) × AreSaid es

    -- the keys that follow are above those of the members and of the entries
    abbrev AreAhead : Members → List (K × V) → List (K × V) → Type 0
    AreAhead ms done [] = Unit {0}
    AreAhead ms done (e ∷ es) = AreBelow R key value e.0 ms × Above R e.0 done × AreAhead ms done es

    Above-append : (done : List (K × V)) (q : K) (e : K × V) → Above R q done → R q e.0 ≡ Greater
        → Above R q (done ++ e ∷ [])
    Above-append [] q e above is = (is, tt)
    Above-append (f ∷ done) q e above is = (above.0, Above-append done q e above.1 is)

    AreAhead-more : (es : List (K × V)) (ms : Members) (done : List (K × V)) (e : K × V)
        → key (name e.0) ≡ Ok e.0 → value (data_of e.1) ≡ Ok e.1
        → AllByRecursion (λ q. R e.0 q ≡ Less) (keys_of es) → AreAhead ms done es
        → AreAhead (put (name e.0) (data_of e.1) ms) (done ++ e ∷ []) es
    AreAhead-more [] ms done e names says before ahead = tt
    AreAhead-more (f ∷ es) ms done e names says before ahead =
        let above : R f.0 e.0 ≡ Greater = above_from R total e.0 f.0 before.0 in
        let new : IsBelow R key value f.0 (name e.0) (data_of e.1) =
        record { found = e.0; gives = e.1; names = names; says = says; below = above } in (
          AreBelow-put R key value f.0 e.0 e.1 (name e.0) (data_of e.1) ms new ahead.0,
          Above-append done f.0 e ahead.1 above,
          AreAhead-more es ms done e names says before.1 ahead.2,
        )

    AreAhead-nothing : (es : List (K × V)) → AreAhead no_members [] es
    AreAhead-nothing [] = tt
    AreAhead-nothing (e ∷ es) = (tt, tt, AreAhead-nothing es)

    reads-onto : (es : List (K × V)) (ms : Members) (done : List (K × V)) → AreSaid es
        → IsStrictlySortedBy R (keys_of es) → AreAhead ms done es → onto R key value [] ms ≡ Ok done
        → onto R key value [] (with_members name data_of ms es) ≡ Ok (done ++ es)
    unfolding IsStrictlySortedBy
    reads-onto [] ms done said sorted ahead is = is ∙ ap Ok (sym (append-nil done))
    reads-onto (e ∷ es) ms done said sorted ahead is =
        let ms_with = put (name e.0) (data_of e.1) ms in
        let one : onto R key value [] ms_with ≡ Ok (done ++ e ∷ []) =
        puts ms (name e.0) (data_of e.1) [] done e.0 e.1 said.0 said.1 ahead.0 is
        ∙ ap Ok (goes_last R done e.0 e.1 ahead.1) in
        reads-onto es ms_with (done ++ e ∷ []) said.2 sorted.1
        (AreAhead-more es ms done e said.0 said.1 sorted.0 ahead.2) one
        ∙ ap Ok (append_assoc done (e ∷ []) es)

    -- what was written is read
    pub reads : (es : List (K × V)) → AreSaid es → IsStrictlySortedBy R (keys_of es)
        → onto R key value [] (with_members name data_of no_members es) ≡ Ok es
    reads es said sorted = reads-onto es no_members [] said sorted (AreAhead-nothing es) refl
