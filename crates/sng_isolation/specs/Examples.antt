-- What the words of the laws say of two clients, each at an address of its own.
use Rattle.std.specs.Prelude.{ℕ, true, false, codes, List, [], ◌∷◌, Some}
use Rattle.sng_grants.specs.Sources.{endless}
use Rattle.sng_grants.specs.Policies.{no_policy}
use Rattle.sng_grants.specs.Limits.{default_limits}
use Rattle.sng_grants.specs.declared.grant.Grant.{Grant}
use Rattle.sng_grants.specs.declared.policy.Policy.{Policy}
use Rattle.sng_book.specs.declared.address.Address.{Address}
use Rattle.sng_book.specs.declared.decision.Decision.TheVariants.{Publish, Hand, Forward, Again}
use Rattle.sng_book.specs.declared.decision.Who.{Who}
use Rattle.sng_book.specs.declared.decision.Who.TheVariants as who
use Rattle.sng_book.specs.declared.event.Event.TheVariants.{Datagram, Replace}
use Rattle.sng_book.specs.declared.outcome.Denial.TheVariants.{Room}
use Rattle.sng_book.specs.declared.outcome.Place.{Place}
use Rattle.sng_book.specs.declared.outcome.RoomDenial.TheVariants.{Full}
use Rattle.sng_book.specs.declared.outcome.Outcome.TheVariants.{Allowed, Denied}
use Rattle.sng_book.specs.declared.out.Out.{Out}
use Rattle.sng_book.specs.declared.out.Out.TheVariants.{Send, Wire, Note}
use Rattle.sng_book.specs.declared.row.Row.{Row}
pub use Rattle.sng_history.specs.Samples.{s1, s2, home, away, connect_s1, connect_s2}

-- the row of a datagram
abbrev pub row_of : Address → List ℕ → Row
row_of from bytes = record { by = 0; event = Datagram from bytes; outs = [] }

-- the one comes from home, and the other from away, and from home
abbrev pub comes : List Row
comes = row_of home connect_s1 ∷ []

abbrev pub others_come : List Row
others_come = row_of home connect_s2 ∷ row_of away connect_s2 ∷ []

-- a scope, and one that ends
abbrev pub lasting : Grant
lasting = endless (record { filter = codes "a/#"; publishes = false; subscribes = true } ∷ [])

abbrev pub ending : Grant
ending = record { scope = []; until = Some 5000 }

-- a policy lists both, and a source, and sets a limit, and what of it is the first client's
abbrev pub lists_both : Policy
lists_both = record {
  clients = (s1, ending) ∷ (s2, lasting) ∷ [];
  sources = (home.ip, lasting) ∷ [];
  topics = (1, codes "t/1") ∷ [];
  limits = record default_limits { clients = 2 };
}

abbrev pub lists_first : Policy
lists_first = record no_policy { clients = (s1, ending) ∷ []; topics = (1, codes "t/1") ∷ [] }

-- the first client's CONNECT under either policy, and beside one another CONNECT, to which the gateway answers
abbrev pub first_alone : List Row
first_alone = row_of home connect_s1 ∷ record { by = 0; event = Replace lists_first; outs = [] } ∷ []

abbrev pub with_another : List Row
with_another =
    record { by = 0; event = Datagram away connect_s2; outs = Send away connect_s2 ∷ [] } ∷ row_of home connect_s1
    ∷ record { by = 0; event = Replace lists_both; outs = [] } ∷ []

-- ---- what is let out

abbrev pub name : List ℕ
name = codes "t/1"

abbrev pub client : List ℕ → Who
client id = who.Client id

abbrev pub handed : List ℕ → Out
handed id = Note (Hand id name Allowed)

abbrev pub leaves : List ℕ → Out
leaves id = Note (Forward (client id) name Allowed)

abbrev pub leaves_again : List ℕ → Out
leaves_again id = Note (Again (client id) name Allowed)

-- of both, and of the first
abbrev pub of_both : List Out
of_both =
    handed s1 ∷ Send home connect_s1 ∷ handed s2 ∷ Send away connect_s1 ∷ leaves s2 ∷ leaves s1
    ∷ leaves_again s1 ∷ Wire connect_s1 ∷ []

abbrev pub of_first : List Out
of_first = handed s1 ∷ Send home connect_s1 ∷ leaves s1 ∷ []

-- a publish of a client finds a place full
abbrev pub finds_full : List ℕ → Place → List Out
finds_full id place = Note (Publish (client id) (Some name) (Denied (Room (Full place)))) ∷ []
