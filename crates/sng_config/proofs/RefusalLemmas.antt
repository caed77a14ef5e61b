-- Entries that are refused, and the places of faults.
use Rattle.std.proofs.Common.{◌≡◌, ℕ, ◌-◌, ◌<◌, ◌≤◌, ◌==◌, false, List, length, Result, Err, ap, ◌∙◌, arith}
use Rattle.toml_parser.specs.Lexical.{skip_blank}
use Rattle.sng_config.specs.declared.place.Place.{Place}
use Rattle.sng_config.specs.declared.fault.Cause.{Cause}
use Rattle.sng_config.specs.declared.fault.Cause.TheVariants.{NotToml, Table, Unknown, Repeated, Unfit}
use Rattle.sng_config.specs.declared.names.Name.{Name}
use Rattle.sng_config.specs.declared.fault.Fault.{Fault}
use Rattle.sng_config.specs.declared.fault.Fault.TheVariants.{At, Memory}
use Rattle.sng_config.specs.declared.entry.Stop as stops
use Rattle.sng_config.specs.declared.entry.Stop.TheVariants.{At, Memory}
use Rattle.sng_config.specs.Places.{place_at}
use Rattle.sng_config.specs.Values.{SetAt}
use Rattle.sng_config.specs.Reading.{Why, before_rest, after_name, entry, entries, outcome_of}
use Rattle.sng_config.specs.Refusals.{why_of, Placed, Refuses, LeftAt, StopsAs, FaultOf}
use Rattle.sng_config.proofs.TurnLemmas.{entries-refused}

-- a step that stops stops the steps that stand on it
pub stops-rest : (r : Result Name Why) (rest : List ℕ) (held : ℕ) (stop : stops.Stop) → StopsAs r held stop
    → StopsAs (before_rest rest r) held stop
stops-rest r rest held Memory stopped = tt
stops-rest r rest held (At left cause) stopped = (ap (before_rest rest) stopped.0, stopped.1)

pub stops-name : (r : Result (Name × List ℕ) Why) (held : ℕ) (stop : stops.Stop) → StopsAs r held stop
    → StopsAs (after_name r) held stop
stops-name r held Memory stopped = tt
stops-name r held (At left cause) stopped = (ap after_name stopped.0, stopped.1)

-- a place of which no more bytes are left than where the entry begins
pub placed : (cause : Cause) (text start : List ℕ) (left kept : ℕ) (place : Place)
    → length start ≤ length text
    → kept ≤ length start → (left ≡ length start → kept ≡ length start)
    → place ≡ place_at text (length text - kept) → LeftAt cause (length start) left
    → Placed cause text (length text - length start) place
placed (NotToml kind) text start left kept place within less same is here =
    (length text - kept, omega arith, omega arith, is)
placed Table text start left kept place within less same is here =
    is ∙ ap (λ n. place_at text (length text - n)) (same here)
placed (Unknown word) text start left kept place within less same is here =
    is ∙ ap (λ n. place_at text (length text - n)) (same here)
placed (Repeated name line) text start left kept place within less same is here =
    is ∙ ap (λ n. place_at text (length text - n)) (same here)
placed (Unfit name) text start left kept place within less same is here =
    is ∙ ap (λ n. place_at text (length text - n)) (same here)

-- what is refused in a text, where an entry at the front of the rest is
pub refuses : (n : ℕ) (text : List ℕ) (before : List SetAt) (rest start : List ℕ) (stop : stops.Stop)
    (fault : Fault)
    → outcome_of text ≡ entries n text before rest → 0 < n → start ≡ skip_blank rest
    → (length start == 0) ≡ false
    → StopsAs (entry before start) (length start) stop → FaultOf text start stop fault → Refuses text fault
refuses n text before rest start Memory fault reads some here other stopped is = rw is tt
refuses n text before rest start (At left cause) fault reads some here other stopped is =
    let at : (length (skip_blank rest) == 0) ≡ false = rw here at other in
    let read : entry before (skip_blank rest) ≡ Err (why_of cause) = rw here at stopped.0 in
    let refused_here = entries-refused n text before rest (why_of cause) some at read in
    rw is.1 (length text - length start, reads ∙ rw (← here) at refused_here, is.2 stopped.1)
