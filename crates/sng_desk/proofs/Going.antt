-- What was done, put together.
use Rattle.std.proofs.Common.{ℕ, Bool, ◌≤◌, ◌≡◌, List, [], ◌∷◌, ◌++◌, refl, sym, ◌∙◌, ap, arith}
use Rattle.std.specs.List.{flat_map}
use Rattle.std.proofs.lemmas.List.{append_assoc, append-nil, map-append}
use Rattle.std.proofs.lemmas.Grind.{flat_map-append}
use Rattle.std.proofs.Math.Seq.{drop-append_seam}
use Rattle.std.proofs.Common.{drop, length}
use Rattle.sng_book.specs.declared.address.Address.{Address}
use Rattle.sng_book.specs.declared.event.Event.{Event}
use Rattle.sng_book.specs.declared.out.Out.{Out}
use Rattle.sng_book.specs.declared.out.Out.TheVariants.{Send, Wire, Note}
use Rattle.sng_desk.specs.Sights.{Share, Receipt}
use Rattle.sng_desk.specs.declared.trail.Trail.{Trail}
use Rattle.sng_desk.specs.Acts.{Moves, Act, Acted, events_of, receipts_of, receipt_in, sends_in}
use Rattle.sng_desk.specs.Acts.{sends_of}
use Rattle.sng_desk.specs.Working.{Worked, Served}
use Rattle.sng_desk.proofs.Acting.{logs_on, logs_none}

pub still : {S X : Type 0} (tells : S → Bool) (did : S → List X) (now : S) → Moves tells did now now []
still tells did now = record { told = λ t. t; done = λ t. sym (append-nil (did now)) }

pub moves_on : {S X : Type 0} (tells : S → Bool) (did : S → List X) (a b c : S) (xs ys : List X)
    → Moves tells did a b xs → Moves tells did b c ys → Moves tells did a c (xs ++ ys)
moves_on tells did a b c xs ys m n = record {
  told = λ t. m.told (n.told t);
  done = λ t. rw (n.done t, m.done (n.told t)) (append_assoc (did a) xs ys);
}

pub sends_on : (outs more : List Out) → sends_in (outs ++ more) ≡ sends_in outs ++ sends_in more
sends_on [] more = refl
sends_on (Wire bytes ∷ outs) more = sends_on outs more
sends_on (Send to bytes ∷ outs) more = ap (λ w. (to, bytes) ∷ w) (sends_on outs more)
sends_on (Note note ∷ outs) more = sends_on outs more

pub flat_push : {X A : Type 0} (f : X → List A) (xs : List X) (x : X) → flat_map f (xs ++ x ∷ [])
    ≡ flat_map f xs ++ f x
flat_push f xs x = flat_map-append f xs (x ∷ []) ∙ ap (λ w. flat_map f xs ++ w) (append-nil (f x))

pub sends_grow : (acts more : List Act) → sends_of (receipts_of (acts ++ more)) ≡ sends_of (receipts_of acts)
    ++ sends_of (receipts_of more)
sends_grow acts more =
    ap (λ r. sends_of r) (flat_map-append (λ (act : Act). receipt_in act.answer) acts more)
    ∙ flat_map-append (λ (r : Receipt). sends_in r.outs) (receipts_of acts) (receipts_of more)

pub drop_grown : {X : Type 0} (xs ys all : List X) (from : ℕ) → all ≡ xs ++ ys → from ≡ length xs
    → drop from all ≡ ys
drop_grown xs ys all from e f = rw (e, f) (drop-append_seam xs ys)

-- what happened, and then what happened next
pub worked_on : {S D : Type 0} (tells : S → Bool) (gave : S → List Event) (failed : S → ℕ) (told : D
    → Bool) (passed : D → List (Address × List ℕ)) (source : S) (sink : D) (trail : Trail) (share : Share)
    (mid : S) (half : D) (longer : Trail) (less : Share) (now : S) (emptied : D) (grown : Trail) (left :
    Share)
    → Worked tells gave failed told passed source sink trail share mid half longer less
    → Worked tells gave failed told passed mid half longer less now emptied grown left
    → Worked tells gave failed told passed source sink trail share now emptied grown left
worked_on tells gave failed told passed source sink trail share mid half longer less now emptied grown left w
    v = record {
      acts = w.acts ++ v.acts;
      gives = rw (map-append (λ (act : Act). act.event) w.acts v.acts)
          (moves_on tells gave source mid now (events_of w.acts) (events_of v.acts) w.gives v.gives);
      sends = rw (sends_grow w.acts v.acts) (moves_on told passed sink half emptied
          (sends_of (receipts_of w.acts)) (sends_of (receipts_of v.acts)) w.sends v.sends);
      logs = logs_on trail share w.acts v.acts longer less grown left w.logs v.logs;
      failures = omega (arith, w.failures, v.failures);
    }

-- an event was served that a source had given
pub worked_one : {S : Type 0} (tells : S → Bool) (gave : S → List Event) (failed : S → ℕ) (told : S
    → Bool) (passed : S → List (Address × List ℕ)) (before mid now : S) (trail : Trail) (share : Share)
    (event : Event) (grown : Trail) (left : Share) → Moves tells gave before mid (event ∷ [])
    → Moves told passed before mid [] → failed before ≤ failed mid
    → Served tells gave failed told passed event mid trail share now grown left
    → Worked tells gave failed told passed before before trail share now now grown left
worked_one tells gave failed told passed before mid now trail share event grown left m p f s = record {
  acts = s.acts;
  gives = rw s.events (moves_on tells gave before mid now (event ∷ []) [] m s.gives);
  sends = moves_on told passed before mid now [] (sends_of (receipts_of s.acts)) p s.sends;
  logs = s.logs;
  failures = omega (arith, f, s.failures);
}

-- nothing came
pub worked_none : {S D : Type 0} (tells : S → Bool) (gave : S → List Event) (failed : S → ℕ) (told : D
    → Bool) (passed : D → List (Address × List ℕ)) (source : S) (sink : D) (trail : Trail) (share : Share)
    (now : S) (emptied : D) (grown : Trail) (left : Share) → Moves tells gave source now []
    → Moves told passed sink emptied [] → failed source ≤ failed now → grown ≡ trail → left ≡ share
    → Worked tells gave failed told passed source sink trail share now emptied grown left
worked_none tells gave failed told passed source sink trail share now emptied grown left m p f g l = record {
  acts = [];
  gives = m;
  sends = p;
  logs = rw (g, l) (logs_none trail share);
  failures = f;
}

-- the receipts of an act are those from the place on at which the log stood
pub served : {S : Type 0} (tells : S → Bool) (gave : S → List Event) (failed : S → ℕ) (told : S
    → Bool) (passed : S → List (Address × List ℕ)) (event : Event) (before now : S)
    (trail : Trail) (share : Share) (grown : Trail) (left : Share) (fine : Bool) (from : ℕ) → from
    ≡ length trail.receipts
    → Acted (event ∷ []) trail share grown left fine → Moves tells gave before now []
    → Moves told passed before now (sends_of (drop from grown.receipts)) → failed before ≤ failed now
    → Served tells gave failed told passed event before trail share now grown left
served tells gave failed told passed event before now trail share grown left fine from start a m p f =
    let sends : drop from grown.receipts ≡ receipts_of a.acts = drop_grown trail.receipts (receipts_of a.acts)
    grown.receipts from a.logs.receipts start in
    record {
      acts = a.acts;
      events = a.events;
      gives = m;
      sends = rw sends at p;
      logs = a.logs;
      failures = f;
    }
