-- The worked rows of devices are lawful, or not, by computation.
use Rattle.std.proofs.Common.{◌≡◌, true, [], ◌∷◌, refl, codes, rules}
use Rattle.std.specs.Str.{is_utf8, IsAscii}
use Rattle.std.proofs.lemmas.Str.{is_utf8-from_IsUtf8, IsUtf8-from_ascii}
use Rattle.mqtt_frames.specs.RemainingLength.{remaining_length}
use Rattle.sng_book.specs.declared.event.Event.TheVariants.{Datagram, Up, Take}
use Rattle.sng_book.specs.declared.outcome.Denial.TheVariants.{Grant}
use Rattle.sng_book.specs.declared.outcome.GrantDenial.TheVariants.{MissingPub}
use Rattle.sng_book.specs.declared.outcome.Outcome.TheVariants.{Allowed, Denied}
use Rattle.sng_history.specs.State.{opening}
use Rattle.sng_history.specs.Lawful.{LawfulRow, Lawful}
use Rattle.sng_promise.specs.Examples.{source, at, publish_ab, publish_ab_long, asked_ab, forward_ab}
use Rattle.sng_promise.specs.Examples.{packet_ab, before_take, stored_run, unknown_source, without_up}
use Rattle.sng_promise.specs.Examples.{strangers, replaced_while_waiting, kept_while_down, waits}
use Rattle.sng_promise.specs.Examples.{waits_replaced, waits_down}

ab_ascii : IsAscii (97 ∷ 98 ∷ [])
ab_ascii = search rules

pub ab_utf8 : is_utf8 (97 ∷ 98 ∷ []) ≡ true
ab_utf8 = is_utf8-from_IsUtf8 (97 ∷ 98 ∷ []) (IsUtf8-from_ascii (97 ∷ 98 ∷ []) ab_ascii)

before_take_short : Lawful opening (before_take publish_ab)
before_take_short = (
  (
    (tt, record { whole = refl; exits = refl; clients = tt }),
    record { whole = refl; exits = refl; clients = tt },
  ),
  record { whole = rw ab_utf8 refl; exits = refl; clients = tt },
)

before_take_long : Lawful opening (before_take publish_ab_long)
before_take_long = (
  (
    (tt, record { whole = refl; exits = refl; clients = tt }),
    record { whole = refl; exits = refl; clients = tt },
  ),
  record { whole = rw ab_utf8 refl; exits = refl; clients = tt },
)

pub stored_short : Lawful opening (stored_run publish_ab)
unfolding remaining_length
stored_short = (before_take_short, record { whole = refl; exits = refl; clients = tt })

pub stored_long : Lawful opening (stored_run publish_ab_long)
unfolding remaining_length
stored_long = (before_take_long, record { whole = refl; exits = refl; clients = tt })

pub unknown : Lawful opening unknown_source
unknown = (
  (
    (
      (tt, record { whole = refl; exits = refl; clients = tt }),
      record { whole = refl; exits = refl; clients = tt },
    ),
    record { whole = refl; exits = refl; clients = tt },
  ),
  record { whole = refl; exits = refl; clients = tt },
)

pub down : Lawful opening without_up
down = (
  (
    (tt, record { whole = refl; exits = refl; clients = tt }),
    record { whole = rw ab_utf8 refl; exits = refl; clients = tt },
  ),
  record { whole = refl; exits = refl; clients = tt },
)

pub answered : Lawful opening strangers
answered = (
  (tt, record { whole = refl; exits = refl; clients = tt }),
  record { whole = refl; exits = refl; clients = tt },
)

pub replaced : Lawful opening replaced_while_waiting
replaced = (
  (before_take_short, record { whole = refl; exits = refl; clients = tt }),
  record { whole = refl; exits = refl; clients = tt },
)

pub kept_down : Lawful opening kept_while_down
unfolding remaining_length
kept_down = (
  (
    (
      (before_take_short, record { whole = refl; exits = refl; clients = tt }),
      record { whole = refl; exits = refl; clients = tt },
    ),
    record { whole = refl; exits = refl; clients = tt },
  ),
  record { whole = refl; exits = refl; clients = tt },
)

-- a packet without its note
pub not_unnoted : LawfulRow waits Take (packet_ab ∷ []) → ⊥
not_unnoted l = let e = l.whole in cc

-- nothing at all leaves
pub not_kept_back : LawfulRow waits Take [] → ⊥
not_kept_back l = let e = l.exits in cc

-- judged when it was accepted, and not again as it leaves
pub not_unjudged : LawfulRow waits_replaced Take (forward_ab Allowed ∷ packet_ab ∷ []) → ⊥
not_unjudged l = let e = l.exits in cc

-- out while the connection is down
pub not_while_down : LawfulRow waits_down Take (forward_ab Allowed ∷ packet_ab ∷ []) → ⊥
not_while_down l = let e = l.exits in cc

-- the outs of another event
pub not_at_up : LawfulRow waits Up (forward_ab Allowed ∷ packet_ab ∷ []) → ⊥
not_at_up l = let e = l.whole in cc

-- a denial of what is granted
pub not_denied : LawfulRow waits (Datagram (at source) publish_ab)
    (asked_ab source (Denied (Grant (MissingPub (codes "ab")))) ∷ []) → ⊥
not_denied l = let e = rw ab_utf8 at l.whole in cc
