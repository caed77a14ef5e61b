-- Whether a gateway does its work.
use Rattle.std.specs.Prelude.{ℕ, Bool, true, false, ◌&&◌, List, codes}

-- the broker's connection stands, and the book takes rows
abbrev pub is_well : (broker_is_up book_takes_rows : Bool) → Bool
is_well broker_is_up book_takes_rows = broker_is_up && book_takes_rows

-- the line that says so, or why not
abbrev pub reason_of : (broker_is_up book_takes_rows : Bool) → List ℕ
reason_of true true = codes "ok\n"
reason_of false true = codes "the connection to the broker is not up\n"
reason_of true false = codes "the book takes no rows\n"
reason_of false false = codes "the connection to the broker is not up, and the book takes no rows\n"
