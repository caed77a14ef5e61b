-- Two lawful books that look the same to a client, row by row.
use Rattle.std.proofs.Common.{◌≡◌, ℕ, Bool, true, false, List, [], ◌∷◌, ◌++◌, refl, ap, ap₂, sym, ◌∙◌, subst}
use Rattle.std.proofs.lemmas.List.{append-nil}
use Rattle.sng_book.specs.declared.address.Address.{Address}
use Rattle.sng_book.specs.declared.event.Event.{Event}
use Rattle.sng_book.specs.declared.out.Out.{Out}
use Rattle.sng_book.specs.declared.row.Row.{Row}
use Rattle.sng_book.specs.Traces.{trace_of}
use Rattle.sng_history.specs.Books.{IsBook, LawfulBook, row_outs, row_next}
use Rattle.sng_history.specs.Causes.{cause_of}
use Rattle.sng_history.specs.State.{State, opening}
use Rattle.sng_history.proofs.BookExact.{last_row, one_state}
use Rattle.sng_history.proofs.BookSteps.{book_opening}
use Rattle.sng_history.proofs.GoodNext.{good_opening}
use Rattle.sng_isolation.specs.Own.{named_from}
use Rattle.sng_isolation.specs.View.{view}
use Rattle.sng_isolation.specs.Trace.{trace}
use Rattle.sng_isolation.specs.Room.{HasRoom, EachHasRoom}
use Rattle.sng_isolation.specs.Isolation.{IsHarmless, AllHarmless}
use Rattle.sng_isolation.proofs.Alike.{Alike, Sound}
use Rattle.sng_isolation.proofs.EventsAlike.{alike_then, alike_back}
use Rattle.sng_isolation.proofs.Faces.{AllOwn, is_hidden, face, seen_hidden, seen_shown, goes_unseen, both_go}

-- both lead to states that the client cannot tell apart, and let out the same for it
pub record Both (id : List ℕ) (own : List Address) (h k : List Row) : Type 0 where
  pub one : State
  pub two : State
  pub book : IsBook opening h one
  pub other : IsBook opening k two
  pub sound : Sound id own one
  pub also : Sound id own two
  pub alike : Alike id one two
  pub traces : trace id own h ≡ trace id own k

pub both_flip : (id : List ℕ) (own : List Address) (h k : List Row) → Both id own h k → Both id own k h
both_flip id own h k both = record {
  one = both.two;
  two = both.one;
  book = both.other;
  other = both.book;
  sound = both.also;
  also = both.sound;
  alike = alike_back id both.one both.two both.alike;
  traces = sym both.traces;
}

pub both_opening : (id : List ℕ) (own : List Address) → Both id own [] []
both_opening id own = record {
  one = opening;
  two = opening;
  book = book_opening;
  other = book_opening;
  sound = record { good = good_opening; placed = tt };
  also = record { good = good_opening; placed = tt };
  alike = record { kept = refl; policy = refl; clock = refl; up = refl; waits = refl };
  traces = refl;
}

-- ---- one row more

-- the row of a lawful book lets out what its event does, and leads where it does
record Grows (row : Row) (h : List Row) (s : State) : Type 0 where
  outs : row.outs ≡ row_outs s row.event
  book : IsBook opening (row ∷ h) (row_next s row.event)

grows : (row : Row) (h : List Row) (s : State) → IsBook opening h s → LawfulBook opening (row ∷ h)
    → Grows row h s
grows row h s book lawful =
    let last = last_row row h lawful.0 lawful.1 in
    let same : last.before ≡ s = one_state h last.before s last.book book in
    record {
      outs = last.outs ∙ ap (λ (t : State). row_outs t row.event) same;
      book =
          subst (IsBook opening (row ∷ h)) (last.next ∙ ap (λ (t : State). row_next t row.event) same) lawful.1;
    }

pub earlier : (row : Row) (h : List Row) → LawfulBook opening (row ∷ h) → LawfulBook opening h
earlier row h lawful = let last = last_row row h lawful.0 lawful.1 in (last.before, last.book)

-- one of the two books has a row more, which is hidden
pub hidden_row : (id : List ℕ) (own : List Address) (row : Row) (h k : List Row) → Both id own h k
    → LawfulBook opening (row ∷ h) → is_hidden own row.event ≡ true
    → AllOwn own (named_from id row.event) → Both id own (row ∷ h) k
hidden_row id own row h k both lawful is owned =
    let more = grows row h both.one both.book lawful in
    let quiet = goes_unseen id own both.one row.event both.sound is owned in
    let after = row_next both.one row.event in
    record {
      one = after;
      two = both.two;
      book = more.book;
      other = both.other;
      sound = quiet.sound;
      also = both.also;
      alike = alike_then id after both.one both.two (alike_back id both.one after quiet.alike) both.alike;
      traces =
          ap (λ (outs : List Out). trace id own h ++ outs) (ap (trace_of id own) more.outs ∙ quiet.silent)
          ∙ (append-nil (trace id own h) ∙ both.traces);
    }

-- both have a row more, of which the client sees the same
pub common_row : (id : List ℕ) (own : List Address) (row line : Row) (h k : List Row) → Both id own h k
    → LawfulBook opening (row ∷ h) → LawfulBook opening (line ∷ k) → is_hidden own row.event ≡ false
    → face id row.event ≡ face id line.event → IsHarmless id own (cause_of row.event)
    → HasRoom id row.outs → HasRoom id line.outs → Both id own (row ∷ h) (line ∷ k)
common_row id own row line h k both lawful lawful_too is same harmless room other =
    let more = grows row h both.one both.book lawful in
    let also_more = grows line k both.two both.other lawful_too in
    let go = both_go id own both.one both.two row.event line.event both.sound both.also both.alike is same
    harmless (subst (HasRoom id) more.outs room) (subst (HasRoom id) also_more.outs other) in
    record {
      one = row_next both.one row.event;
      two = row_next both.two line.event;
      book = more.book;
      other = also_more.book;
      sound = go.sound;
      also = go.also;
      alike = go.alike;
      traces =
          ap₂ (λ (some : List Out) (outs : List Out). some ++ outs) both.traces
          (ap (trace_of id own) more.outs ∙ (go.traces ∙ sym (ap (trace_of id own) also_more.outs)));
    }

-- ---- all rows

-- each CONNECT of the client in the book comes from one of its addresses
abbrev pub Owned : List ℕ → List Address → List Row → Type 0
Owned id own [] = Unit {0}
Owned id own (row ∷ rows) = AllOwn own (named_from id row.event) × Owned id own rows

pub record Looks (id : List ℕ) (own : List Address) (h k : List Row) : Type 0 where
  pub lawful : LawfulBook opening h
  pub other_lawful : LawfulBook opening k
  pub owned : Owned id own h
  pub other_owned : Owned id own k
  pub harmless : AllHarmless id own h
  pub room : EachHasRoom id h
  pub other_room : EachHasRoom id k
  pub views : view id own h ≡ view id own k

-- without the last row of the one, which is hidden
without_first : (id : List ℕ) (own : List Address) (row : Row) (h k : List Row) → Looks id own (row ∷ h) k
    → is_hidden own row.event ≡ true → Looks id own h k
without_first id own row h k looks is = record {
  lawful = earlier row h looks.lawful;
  other_lawful = looks.other_lawful;
  owned = looks.owned.1;
  other_owned = looks.other_owned;
  harmless = looks.harmless.0;
  room = looks.room.0;
  other_room = looks.other_room;
  views =
      sym (ap (λ (some : List Event). some ++ view id own h) (seen_hidden id own row.event is)) ∙ looks.views;
}

-- or of the other
without_second : (id : List ℕ) (own : List Address) (line : Row) (h k : List Row)
    → Looks id own h (line ∷ k) → is_hidden own line.event ≡ true → Looks id own h k
without_second id own line h k looks is = record {
  lawful = looks.lawful;
  other_lawful = earlier line k looks.other_lawful;
  owned = looks.owned;
  other_owned = looks.other_owned.1;
  harmless = looks.harmless;
  room = looks.room;
  other_room = looks.other_room.0;
  views =
      looks.views ∙ ap (λ (some : List Event). some ++ view id own k) (seen_hidden id own line.event is);
}

-- what is seen first, and what is seen behind it
record Heads (e f : Event) (xs ys : List Event) : Type 0 where
  first : e ≡ f
  rest : xs ≡ ys

heads : (e f : Event) (xs ys : List Event) → e ∷ xs ≡ f ∷ ys → Heads e f xs ys
heads e f xs ys same = record { first = cc; rest = cc }

views_heads : (id : List ℕ) (own : List Address) (row line : Row) (h k : List Row)
    → view id own (row ∷ h) ≡ view id own (line ∷ k) → is_hidden own row.event ≡ false
    → is_hidden own line.event ≡ false
    → Heads (face id row.event) (face id line.event) (view id own h) (view id own k)
views_heads id own row line h k views is shown =
    heads (face id row.event) (face id line.event) (view id own h) (view id own k)
    (sym (ap (λ (some : List Event). some ++ view id own h) (seen_shown id own row.event is))
    ∙ (views ∙ ap (λ (some : List Event). some ++ view id own k) (seen_shown id own line.event shown)))

nothing_seen : (id : List ℕ) (own : List Address) (line : Row) (k : List Row)
    → [] ≡ view id own (line ∷ k) → is_hidden own line.event ≡ false → ⊥
nothing_seen id own line k views shown =
    let e : [] ≡ face id line.event ∷ view id own k =
    views ∙ ap (λ (some : List Event). some ++ view id own k) (seen_shown id own line.event shown) in
    cc

-- the one is at its beginning
none_first : (id : List ℕ) (own : List Address) (k : List Row) → Looks id own [] k → Both id own [] k
none_first id own [] looks = both_opening id own
none_first id own (line ∷ k) looks =
    by_hidden (is_hidden own line.event) refl (λ less. none_first id own k less)
  where
    by_hidden : (b : Bool) → is_hidden own line.event ≡ b → (Looks id own [] k → Both id own [] k)
        → Both id own [] (line ∷ k)
    by_hidden true is more =
        both_flip id own (line ∷ k) []
        (hidden_row id own line k [] (both_flip id own [] k (more (without_second id own line [] k looks is)))
        looks.other_lawful is looks.other_owned.0)
    by_hidden false is more = absurd (nothing_seen id own line k looks.views is)

-- the last row of the one is seen
seen_first : (id : List ℕ) (own : List Address) (row : Row) (h k : List Row)
    → ((k : List Row) → Looks id own h k → Both id own h k) → is_hidden own row.event ≡ false
    → Looks id own (row ∷ h) k → Both id own (row ∷ h) k
seen_first id own row h [] before shown looks = absurd (nothing_seen id own row h (sym looks.views) shown)
seen_first id own row h (line ∷ k) before shown looks =
    by_hidden (is_hidden own line.event) refl (λ less. seen_first id own row h k before shown less)
  where
    by_hidden : (b : Bool) → is_hidden own line.event ≡ b
        → (Looks id own (row ∷ h) k → Both id own (row ∷ h) k)
        → Both id own (row ∷ h) (line ∷ k)
    by_hidden true is more =
        both_flip id own (line ∷ k) (row ∷ h)
        (hidden_row id own line k (row ∷ h)
        (both_flip id own (row ∷ h) k (more (without_second id own line (row ∷ h) k looks is)))
        looks.other_lawful is looks.other_owned.0)
    by_hidden false is more =
        let same = views_heads id own row line h k looks.views shown is in
        common_row id own row line h k
        (before k (record {
          lawful = earlier row h looks.lawful;
          other_lawful = earlier line k looks.other_lawful;
          owned = looks.owned.1;
          other_owned = looks.other_owned.1;
          harmless = looks.harmless.0;
          room = looks.room.0;
          other_room = looks.other_room.0;
          views = same.rest;
        })) looks.lawful looks.other_lawful shown same.first looks.harmless.1 looks.room.1
        looks.other_room.1

pub books_alike : (id : List ℕ) (own : List Address) (h k : List Row) → Looks id own h k → Both id own h k
books_alike id own [] k looks = none_first id own k looks
books_alike id own (row ∷ h) k looks =
    by_hidden (is_hidden own row.event) refl (λ rest less. books_alike id own h rest less)
  where
    by_hidden : (b : Bool) → is_hidden own row.event ≡ b
        → ((rest : List Row) → Looks id own h rest → Both id own h rest) → Both id own (row ∷ h) k
    by_hidden true is before =
        hidden_row id own row h k (before k (without_first id own row h k looks is)) looks.lawful is
        looks.owned.0
    by_hidden false is before = seen_first id own row h k before is looks
