-- A trace by the rows from the oldest on, and by the same addresses in another order.
use Rattle.std.proofs.Common.{◌≡◌, ℕ, Bool, true, false, List, [], ◌∷◌, ◌++◌, reverse, refl, ap}
use Rattle.std.proofs.Common.{ap₂, sym, ◌∙◌, append_assoc, cond}
use Rattle.std.proofs.lemmas.List.{append-nil, reverse-append}
use Rattle.sng_book.specs.declared.address.Address.{Address}
use Rattle.sng_book.specs.declared.out.Out.{Out}
use Rattle.sng_book.specs.declared.out.Out.TheVariants.{Send, Wire, Note}
use Rattle.sng_book.specs.declared.row.Row.{Row}
use Rattle.sng_book.specs.Traces.{is_own, reaches, trace_of, trace_in}
use Rattle.sng_isolation.specs.Trace.{trace}

-- ---- the newest row first, and last

trace_append : (id : List ℕ) (own : List Address) (h k : List Row)
    → trace id own (h ++ k) ≡ trace id own k ++ trace id own h
trace_append id own [] k = sym (append-nil (trace id own k))
trace_append id own (row ∷ h) k =
    ap (λ (outs : List Out). outs ++ trace_of id own row.outs) (trace_append id own h k)
    ∙ append_assoc (trace id own k) (trace id own h) (trace_of id own row.outs)

pub trace_reverse : (id : List ℕ) (own : List Address) (rows : List Row)
    → trace id own (reverse rows) ≡ trace_in id own rows
trace_reverse id own [] = refl
trace_reverse id own (row ∷ rows) =
    ap (trace id own) (reverse-append (row ∷ []) rows)
    ∙ trace_append id own (reverse rows) (row ∷ [])
    ∙ ap (λ (outs : List Out). trace_of id own row.outs ++ outs) (trace_reverse id own rows)

-- ---- the same addresses

-- the lists have the same addresses
abbrev pub SameOwn : List Address → List Address → Type 0
SameOwn own other = (place : Address) → is_own own place ≡ is_own other place

reaches_same : (id : List ℕ) (own other : List Address) (out : Out) → SameOwn own other
    → reaches id own out ≡ reaches id other out
reaches_same id own other (Send to datagram) same = same to
reaches_same id own other (Note said) same = refl
reaches_same id own other (Wire packet) same = refl

filter_out : (b c : Bool) (out : Out) (some more : List Out) → b ≡ c → some ≡ more
    → cond b (out ∷ some) some ≡ cond c (out ∷ more) more
filter_out true true out some more is rest = ap (λ (outs : List Out). out ∷ outs) rest
filter_out true false out some more is rest = absurd cc
filter_out false true out some more is rest = absurd cc
filter_out false false out some more is rest = rest

trace_of_same : (id : List ℕ) (own other : List Address) (outs : List Out) → SameOwn own other
    → trace_of id own outs ≡ trace_of id other outs
trace_of_same id own other [] same = refl
trace_of_same id own other (out ∷ outs) same =
    filter_out (reaches id own out) (reaches id other out) out (trace_of id own outs) (trace_of id other outs)
    (reaches_same id own other out same) (trace_of_same id own other outs same)

pub trace_same : (id : List ℕ) (own other : List Address) (h : List Row) → SameOwn own other
    → trace id own h ≡ trace id other h
trace_same id own other [] same = refl
trace_same id own other (row ∷ h) same =
    ap₂ (λ (some more : List Out). some ++ more) (trace_same id own other h same)
    (trace_of_same id own other row.outs same)
