-- A script that is played line by line: what is known between two lines, and how it ends.
use Rattle.std.proofs.Common.{◌≡◌, ◌≢◌, ◌≤◌, ℕ, ◌+◌, List, [], ◌∷◌, ◌++◌, length, Option, Some, None, IfSome}
use Rattle.std.proofs.Common.{Result, Ok, Err, refl, sym, ap, subst, ◌∙◌, append_assoc, append-nil}
use Rattle.std.proofs.Common.{length-append, inl, inr, arith}
use Rattle.std.specs.Prelude.{⊤}
use Rattle.std.proofs.KnownBytes.{Appends-nil, Appends-trans, Appends-kept, Keeps-refl}
use Rattle.std.specs.Io.KnownBytes.{Appends, Keeps, IsAtEnd}
use Rattle.mqtt_frames.specs.Streams.{State, Reading}
use Rattle.sng_book.specs.Events.{kind_of}
use Rattle.sng_book.specs.Printing.{row_text}
use Rattle.sng_book.specs.declared.event.Event.{Event}
use Rattle.sng_book.specs.declared.row.Row.{Row}
use Rattle.sng_history.specs.Books.{IsBook}
use Rattle.sng_history.specs.State.{opening}
use Rattle.sng_history.proofs.BookSteps.{book_opening}
use Rattle.sng_script.specs.declared.limits.TheConstants.{MAX_LINE}
use Rattle.sng_gateway.specs.Deeds.{Deed, Step, Tell, deeds_of, stream_by}
use Rattle.sng_script.specs.Lines.{line_of}
use Rattle.sng_gateway.specs.Playing.{Standing, IsStep, Does, IsPlayed}
use Rattle.sng_gateway.specs.Scripts.{WritesRow, Writes, AllWrite, ArePlayed, StopsAt, BreaksOff}
use Rattle.sng_gateway.specs.Scripts.{IsUnreadable, Finishes, IsHalt, IsOutcome, unreadable_text}
use Rattle.sng_script.specs.declared.status.Status.{Status}
use Rattle.sng_script.specs.declared.status.Status.TheVariants as statuses
use Rattle.sng_script.specs.Input.{lines_of, IsFirstLine, BeginsTooLong}
use Rattle.sng_script.specs.declared.obstacle.Obstacle.{Obstacle}
use Rattle.sng_script.specs.declared.obstacle.Obstacle.TheVariants.{Unreadable, OutOfMemory, Failed}
use Rattle.sng_script.specs.declared.script.Line.{Line}

-- the gateway stands so after these rows, the newest first
pub record StandsAfter (rows : List Row) (standing : Standing) : Type 0 where
  pub book : IsBook opening rows standing.state
  pub counted : standing.rows ≡ length rows

-- lines before are played, and those that are left are still to come
pub record UnderWay (script left : List (List ℕ)) (held holds : Option (List ℕ)) (number : ℕ)
    (standing : Standing)
    : Type 0 where
  pub before : List (List ℕ)
  pub text : List ℕ
  pub rows : List Row
  pub split : script ≡ before ++ left
  pub stands : StandsAfter rows standing
  pub written : AllWrite [] (Reading []) before text rows standing.stream
  pub grown : Appends held holds text
  pub numbered : number ≡ length before + 1

-- a step after rows writes its row after them, and the gateway stands after it
record WrittenRow (rows : List Row) (event : Event) (text : List ℕ) (after : Standing) : Type 0 where
  now : List Row
  writes : WritesRow rows event text now
  stands : StandsAfter now after

written_row : (rows : List Row) (before : Standing) (event : Event) (text : List ℕ) (after : Standing)
    → StandsAfter rows before → IsStep before event text after → WrittenRow rows event text after
written_row rows before event text after stands step =
    let row : Row = record { by = 0; event = event; outs = step.outs } in
    let kept = step.kept 0 opening rows stands.book in
    let counted : after.rows ≡ length (row ∷ rows) = omega (arith, step.counted, stands.counted) in
    record {
      now = row ∷ rows;
      writes = (
        step.outs,
        refl,
        step.printed ∙ ap (λ number. row_text number 0 (kind_of event) step.outs)
            counted,
      );
      stands = record { book = kept; counted = counted };
    }

-- deeds that come after rows write their text after them, and the gateway stands after its rows
pub record Written (rows : List Row) (before : Standing) (deeds : List Deed) (text : List ℕ)
    (after : Standing) : Type 0 where
  pub now : List Row
  pub writes : Writes rows deeds text now
  pub stands : StandsAfter now after
  pub same : after.stream ≡ before.stream

pub written : (rows : List Row) (before : Standing) (deeds : List Deed) (text : List ℕ) (after : Standing)
    → StandsAfter rows before → Does before deeds text after → Written rows before deeds text after
written rows before [] text after stands does = record {
  now = rows;
  writes = (does.0, refl);
  stands = subst (StandsAfter rows) (sym does.1) stands;
  same = ap (λ (s : Standing). s.stream) does.1;
}
written rows before (Step event ∷ deeds) text after stands does =
    let first = written_row rows before event does.1 does.0 stands does.3 in
    let later = written first.now does.0 deeds does.2 after first.stands does.5 in
    record {
      now = later.now;
      writes = (first.now, does.1, does.2, first.writes, does.4, later.writes);
      stands = later.stands;
      same = later.same ∙ does.3.same;
    }
written rows before (Tell told ∷ deeds) text after stands does =
    let later = written rows before deeds does.0 after stands does.2 in
    record {
      now = later.now;
      writes = (does.0, does.1, later.writes);
      stands = later.stands;
      same = later.same;
    }

-- one more line behind those that wrote
AllWrite-more : (lines : List (List ℕ)) (bytes : List ℕ) (line : Line) (before between rows : List Row)
    (stream last : State)
    (text more : List ℕ) → length bytes ≤ MAX_LINE → line_of bytes ≡ Some line
    → AllWrite before stream lines text between last
    → Writes between (deeds_of last line) more rows
    → AllWrite before stream (lines ++ bytes ∷ []) (text ++ more) rows (stream_by last line)
AllWrite-more [] bytes line before between rows stream last text more few read all writes =
    let there = subst (λ h. Writes h (deeds_of last line) more rows) all.1 writes in
    let here = subst (λ s. Writes before (deeds_of s line) more rows) all.2 there in
    let same = ap (λ s. stream_by s line) all.2 in (
      line,
      more,
      rows,
      [],
      few,
      read,
      here,
      (refl, refl, same),
      ap (λ t. t ++ more) all.0
          ∙ sym (append-nil more),
    )
AllWrite-more (first ∷ lines) bytes line before between rows stream last text more few read all writes =
    let rest = AllWrite-more lines bytes line all.2 between rows (stream_by stream all.0) last all.3 more few
    read all.7 writes in (
      all.0,
      all.1,
      all.2,
      all.3 ++ more,
      all.4,
      all.5,
      all.6,
      rest,
      ap (λ t. t ++ more) all.8
          ∙ append_assoc all.1 all.3 more,
    )

pub starts : (script : List (List ℕ)) (held : Option (List ℕ)) (standing : Standing)
    → IsBook opening [] standing.state → standing.rows ≡ 0 → standing.stream ≡ Reading []
    → UnderWay script script held held 1 standing
starts script held standing book none new = record {
  before = [];
  text = [];
  rows = [];
  split = refl;
  stands = record { book = book; counted = none };
  written = (refl, refl, new);
  grown = Appends-nil held;
  numbered = refl;
}

pub goes_on : (script left : List (List ℕ)) (bytes : List ℕ) (held between holds : Option (List ℕ))
    (number : ℕ) (standing after : Standing)
    → UnderWay script (bytes ∷ left) held between number standing
    → length bytes ≤ MAX_LINE → IsPlayed standing bytes between holds after
    → UnderWay script left held holds (number + 1) after
goes_on script left bytes held between holds number standing after way few played =
    let line = played.line in
    let taken : Standing = record standing { stream = stream_by standing.stream line } in
    let stands : StandsAfter way.rows taken =
    record { book = way.stands.book; counted = way.stands.counted } in
    let wrote =
    written way.rows taken (deeds_of standing.stream line) played.text after stands played.comes in
    let lines = way.before ++ bytes ∷ [] in
    let text = way.text ++ played.text in
    let more = AllWrite-more way.before bytes line [] way.rows wrote.now (Reading []) standing.stream way.text
    played.text few played.read way.written wrote.writes in
    record {
      before = lines;
      text = text;
      rows = wrote.now;
      split = way.split ∙ sym (append_assoc way.before (bytes ∷ []) left);
      stands = wrote.stands;
      written = subst (AllWrite [] (Reading []) lines text wrote.now) (sym wrote.same) more;
      grown = Appends-trans held between holds way.text played.text way.grown played.written;
      numbered = omega (arith, way.numbered, length-append way.before (bytes ∷ []));
    }

played : (script left : List (List ℕ)) (held holds : Option (List ℕ)) (number : ℕ) (standing : Standing)
    → (way : UnderWay script left held holds number standing) → ArePlayed way.before way.text
played script left held holds number standing way =
    record { rows = way.rows; stream = standing.stream; lawful = (standing.state, way.stands.book); written = way.written }

-- no line is left
pub ends : (script : List (List ℕ)) (held holds : Option (List ℕ)) (number : ℕ) (standing : Standing)
    → UnderWay script [] held holds number standing
    → (text : List ℕ) × ArePlayed script text × Appends held holds text
ends script held holds number standing way =
    let all : way.before ≡ script = sym (way.split ∙ append-nil way.before) in (
      way.text,
      subst (λ l. ArePlayed l way.text) all (played script [] held holds number standing way),
      way.grown,
    )

-- the next line cannot be read
pub stops : (script left : List (List ℕ)) (bytes : List ℕ) (held between holds : Option (List ℕ)) (number : ℕ)
    (standing : Standing)
    → UnderWay script (bytes ∷ left) held between number standing → IsUnreadable bytes → Keeps between holds
    → (before : List (List ℕ)) × (text : List ℕ) × StopsAt script before text × Appends held holds text
    × (number ≡ length before + 1)
stops script left bytes held between holds number standing way unreadable keeps =
    let stop : StopsAt script way.before way.text = record {
      line = bytes;
      rest = left;
      split = way.split;
      unreadable = unreadable;
      played = played script (bytes ∷ left) held between number standing way;
    } in
    (way.before, way.text, stop, Appends-kept held between holds way.text way.grown keeps, way.numbered)

-- there is no memory for the next line
pub breaks_off : (script left : List (List ℕ)) (held between holds : Option (List ℕ)) (number : ℕ)
    (standing : Standing)
    → UnderWay script left held between number standing → Keeps between holds
    → (before : List (List ℕ)) × (text : List ℕ) × BreaksOff script before text × Appends held holds text
breaks_off script left held between holds number standing way keeps =
    let break : BreaksOff script way.before way.text = record {
      rest = left;
      split = way.split;
      played = played script left held between number standing way;
    } in
    (way.before, way.text, break, Appends-kept held between holds way.text way.grown keeps)

-- ---- of an input whose bytes are known

-- between two lines
abbrev pub GoesOn : (input left held holds : Option (List ℕ)) (number : ℕ) (standing : Standing) → Type 0
GoesOn None left held holds number standing = ⊤
GoesOn (Some bytes) None held holds number standing = ⊥
GoesOn (Some bytes) (Some rest) held holds number standing =
    UnderWay (lines_of bytes) (lines_of rest) held holds number standing

-- what has to be shown of the end, as far as the bytes are known
abbrev pub Halts : Option (List ℕ) → Result (Unit {0}) Obstacle → ℕ → (held holds : Option (List ℕ)) → Type 0
Halts input result number held holds =
    IfSome input (λ script. IsHalt result number (lines_of script) held holds)

pub GoesOn-start : (input held : Option (List ℕ)) (standing : Standing) → IsBook opening [] standing.state
    → standing.rows ≡ 0
    → standing.stream ≡ Reading [] → GoesOn input input held held 1 standing
GoesOn-start None held standing book none new = tt
GoesOn-start (Some bytes) held standing book none new = starts (lines_of bytes) held standing book none new

pub GoesOn-line : (input left rest held between holds : Option (List ℕ)) (line : List ℕ) (number : ℕ)
    (standing after : Standing)
    → GoesOn input left held between number standing → IsFirstLine left rest line → length line ≤ MAX_LINE
    → IsPlayed standing line between holds after
    → GoesOn input rest held holds (number + 1) after
GoesOn-line None left rest held between holds line number standing after way first few played = tt
GoesOn-line (Some bytes) None rest held between holds line number standing after way first few played =
    absurd way
GoesOn-line (Some bytes) (Some here) None held between holds line number standing after way first few played =
    absurd first
GoesOn-line (Some bytes) (Some here) (Some later) held between holds line number standing after way first few
    played =
    goes_on (lines_of bytes) (lines_of later) line held between holds number standing after
    (subst (λ l. UnderWay (lines_of bytes) l held between number standing) first way) few played

-- the input has ended
pub Halts-end : (input left held holds : Option (List ℕ)) (number : ℕ) (standing : Standing)
    → GoesOn input left held holds number standing → IsAtEnd left → Halts input (Ok tt) number held holds
Halts-end None left held holds number standing way end = tt
Halts-end (Some bytes) None held holds number standing way end = absurd way
Halts-end (Some bytes) (Some rest) held holds number standing way end =
    ends (lines_of bytes) held holds number standing
    (subst (λ l. UnderWay (lines_of bytes) (lines_of l) held holds number standing) end way)

-- the next line is too long
pub Halts-long : (input left held holds : Option (List ℕ)) (number : ℕ) (standing : Standing)
    → GoesOn input left held holds number standing → BeginsTooLong left
    → Halts input (Err Unreadable) number held holds
Halts-long None left held holds number standing way long = tt
Halts-long (Some bytes) None held holds number standing way long = absurd way
Halts-long (Some bytes) (Some rest) held holds number standing way (line, others, split, many) =
    stops (lines_of bytes) others line held holds holds number standing
    (subst (λ l. UnderWay (lines_of bytes) l held holds number standing) split way) (inr many)
    (Keeps-refl holds)

-- the line that was read is none of a script
pub Halts-unreadable : (input left rest held between holds : Option (List ℕ)) (line : List ℕ) (number : ℕ)
    (standing : Standing)
    → GoesOn input left held between number standing → IsFirstLine left rest line → line_of line ≡ None
    → Keeps between holds
    → Halts input (Err Unreadable) number held holds
Halts-unreadable None left rest held between holds line number standing way first unreadable keeps = tt
Halts-unreadable (Some bytes) None rest held between holds line number standing way first unreadable keeps =
    absurd way
Halts-unreadable (Some bytes) (Some here) None held between holds line number standing way first unreadable
    keeps = absurd first
Halts-unreadable (Some bytes) (Some here) (Some later) held between holds line number standing way first
    unreadable keeps =
    stops (lines_of bytes) (lines_of later) line held between holds number standing
    (subst (λ l. UnderWay (lines_of bytes) l held between number standing) first way) (inl unreadable) keeps

-- there is no memory
pub Halts-memory : (input left held between holds : Option (List ℕ)) (number told : ℕ) (standing : Standing)
    → GoesOn input left held between number standing → Keeps between holds
    → Halts input (Err OutOfMemory) told held holds
Halts-memory None left held between holds number told standing way keeps = tt
Halts-memory (Some bytes) None held between holds number told standing way keeps = absurd way
Halts-memory (Some bytes) (Some rest) held between holds number told standing way keeps =
    breaks_off (lines_of bytes) (lines_of rest) held between holds number standing way keeps

-- there is no memory to begin with
pub Halts-first : (input held : Option (List ℕ)) (told : ℕ) → Halts input (Err OutOfMemory) told held held
Halts-first None held told = tt
Halts-first (Some bytes) held told = (
  [],
  [],
  record {
    rest = lines_of bytes;
    split = refl;
    played = record { rows = []; stream = Reading []; lawful = (opening, book_opening); written = (refl, refl, refl) };
  },
  Appends-nil held,
)

-- a line could not be read for one of these reasons
pub Halts-read : (input left held holds : Option (List ℕ)) (number : ℕ) (standing : Standing)
    (stop : Obstacle)
    → GoesOn input left held holds number standing → (stop ≡ Unreadable → BeginsTooLong left)
    → Halts input (Err stop) number held holds
Halts-read input left held holds number standing Unreadable way long =
    Halts-long input left held holds number standing way (long refl)
Halts-read input left held holds number standing OutOfMemory way long =
    Halts-memory input left held holds holds number number standing way (Keeps-refl holds)
Halts-read None left held holds number standing Failed way long = tt
Halts-read (Some bytes) left held holds number standing Failed way long = tt

-- a line could not be played for one of these reasons
pub Halts-play : (input left rest held between holds : Option (List ℕ)) (line : List ℕ) (number : ℕ)
    (standing : Standing) (stop : Obstacle)
    → GoesOn input left held between number standing → IsFirstLine left rest line
    → (stop ≡ Unreadable → line_of line ≡ None) → (stop ≢ Failed → Keeps between holds)
    → Halts input (Err stop) number held holds
Halts-play input left rest held between holds line number standing Unreadable way first unreadable keeps =
    Halts-unreadable input left rest held between holds line number standing way first (unreadable refl)
    (keeps (λ is. absurd (cc)))
Halts-play input left rest held between holds line number standing OutOfMemory way first unreadable keeps =
    Halts-memory input left held between holds number number standing way (keeps (λ is. absurd (cc)))
Halts-play None left rest held between holds line number standing Failed way first unreadable keeps = tt
Halts-play (Some bytes) left rest held between holds line number standing Failed way first unreadable keeps =
    tt

-- how a script comes out whose lines came to an end so
pub outcome : (input held between holds : Option (List ℕ)) (status : Status)
    (played : Result (Unit {0}) Obstacle) (number : ℕ)
    → Halts input played number held between → Finishes status played number between holds
    → IfSome input (λ script. IsOutcome status (lines_of script) held holds)
outcome None held between holds status played number halts finishes = tt
outcome (Some bytes) held between holds statuses.Done played number halts (is, keeps) =
    let (text, all, grown) = subst (λ r. IsHalt r number (lines_of bytes) held between) is halts in
    (text, all, Appends-kept held between holds text grown keeps)
outcome (Some bytes) held between holds statuses.Unreadable played number halts (is, told) =
    let (before, text, stop, grown, numbered) =
    subst (λ r. IsHalt r number (lines_of bytes) held between) is halts in (
      before,
      text,
      stop,
      subst (λ n. Appends held holds (text ++ unreadable_text n)) numbered
          (Appends-trans held between holds text (unreadable_text number) grown told),
    )
outcome (Some bytes) held between holds statuses.OutOfMemory played number halts (is, told) =
    let (before, text, break, grown) = subst (λ r. IsHalt r number (lines_of bytes) held between) is halts in
    (before, text, break, Appends-trans held between holds text _ grown told)
outcome (Some bytes) held between holds statuses.Failed played number halts finishes = tt
outcome (Some bytes) held between holds statuses.Uncovered played number halts finishes = absurd finishes
outcome (Some bytes) held between holds statuses.Denied played number halts finishes = absurd finishes
outcome (Some bytes) held between holds statuses.Unlawful played number halts finishes = absurd finishes
outcome (Some bytes) held between holds statuses.BadCommandLine played number halts finishes = absurd finishes
