-- Where a client stands among the clients, with no search.
use Rattle.std.specs.Prelude.{ℕ, List, [], map, position, get_or, Option}
use Rattle.std.specs.Str.{bytes_eq}
use Rattle.sng_book.specs.declared.address.Address.{Address}
use Rattle.sng_book.specs.declared.outcome.Outcome.{Outcome}
use Rattle.sng_book.specs.declared.outcome.Outcome.TheVariants.{Allowed}
use Rattle.sng_text.specs.declared.qos.Qos.{Qos}
use Rattle.sng_fan.specs.Subscriptions.{with_filter}
use Rattle.sng_history.specs.Clients.{Client, blank, is_here, registered}
use Rattle.sng_history.specs.Entering.{heard_at}

-- where the client is that is at the address, and where the one is that has the id
abbrev pub place_at : Address → List Client → Option ℕ
place_at from xs = position (λ x. is_here x from) xs

abbrev pub place_of : List ℕ → List Client → Option ℕ
place_of id xs = position (bytes_eq id) (map (λ x. x.id) xs)

-- the client at a place
abbrev pub client_at : List Client → ℕ → Client
client_at xs place = get_or xs place (blank [])

-- a client that asked for an id of a name is heard, and is told the id where it was allowed
abbrev pub told_at : ℕ → Option (List ℕ) → Outcome → Client → Client
told_at clock name outcome x = record (heard_at clock x) { ids = registered name outcome x.ids }

-- the filter stands for a client at this QoS: in its place where it stood, else behind all others
abbrev pub standing_at : List ℕ → Qos → Client → Client
standing_at filter qos x = record x { filters = with_filter x.filters filter qos }

-- a client that subscribes is heard, the filter stands for it, and where a name is given it is told an id of
-- that
abbrev pub subscribed_at : ℕ → Option (List ℕ) → List ℕ → Qos → Client → Client
subscribed_at clock name filter qos x =
    record (heard_at clock x) {
      filters = with_filter x.filters filter qos;
      ids = registered name Allowed x.ids;
    }
