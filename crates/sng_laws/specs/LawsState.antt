-- What is kept of a client, in the views' words.
use Rattle.std.specs.Prelude.{ℕ, ◌≡◌, ◌≤◌, false, List, [], ◌∷◌, ◌++◌, map, length, Option, Some, None}
use Rattle.sng_book.specs.declared.row.Row.{Row}
use Rattle.sng_queue.specs.declared.exchange.Exchange.{Exchange}
use Rattle.sng_queue.specs.declared.exchange.Exchange.TheVariants.{Announcing, Acknowledging}
use Rattle.sng_queue.specs.declared.exchange.Sending.{Sending}
use Rattle.sng_history.specs.Clients.{Client}
use Rattle.sng_history.specs.Links.{Link}
use Rattle.sng_laws.specs.ViewsClients.{phase_of, address_of, duration_of, heard_of, is_among, names_told}
use Rattle.sng_laws.specs.ViewsClients.{id_told}
use Rattle.sng_laws.specs.ViewsHanding.{Opening, Announced, HandedOver, waits_for, progress_of, number_of}
use Rattle.sng_laws.specs.ViewsHanding.{names_known}
use Rattle.sng_laws.specs.ViewsSendings.{Last, last_of}
use Rattle.sng_laws.specs.ViewsFlight.{in_flight, last_id}
use Rattle.sng_laws.specs.ViewsLink.{pinged}
use Rattle.sng_laws.specs.ViewsWills.{stating_of, will_of, stage_shown}
use Rattle.sng_laws.specs.ViewsStanding.{standing_of}
use Rattle.sng_laws.specs.ViewsWanted.{wanted}
use Rattle.sng_laws.specs.ViewsOpenIds.{is_open, open_of}

-- the exchange is what the rows show to be open: the announcement of a name, or a message that was handed
-- over, with the topic id and the MsgId of its first sending, the clock of its last one, and how often it was
-- sent again
abbrev pub sending_shown : ℕ → ℕ → Last → Sending
sending_shown topic_id number last =
    record { topic_id = topic_id; msg_id = number; sent = last.at; tries = last.tries }

abbrev pub exchange_shown : Option Opening → List (List ℕ) → ℕ → Last → Option Exchange
exchange_shown None told number last = None
exchange_shown (Some (Announced name)) told number last =
    Some (Announcing (sending_shown (id_told name told) number last))
exchange_shown (Some (HandedOver m)) told number last =
    Some (Acknowledging (sending_shown last.topic_id number last) last.kind m)

-- what is kept of a client is what the rows show of it
pub record ClientShown (h : List Row) (x : Client) : Type 0 where
  pub phase : phase_of x.id h ≡ Some x.phase
  pub address : address_of x.id h ≡ Some x.address
  pub duration : duration_of x.id h ≡ Some x.duration
  pub heard : heard_of x.id h ≡ Some x.heard
  -- the k-th name that it was told has id k, and is marked where the client knows it
  pub ids : x.ids ≡ map (λ name. (name, is_among name (names_known x.id h))) (names_told x.id h)
  pub filters : x.filters ≡ standing_of x.id h
  -- what waits for it, the MsgId that it was given last, and what is open with it
  pub waiting : x.buffer.waiting ≡ waits_for x.id h
  pub number : x.number ≡ number_of x.id h
  pub exchange : x.buffer.exchange
      ≡ exchange_shown (progress_of x.id h).unanswered (names_told x.id h) (number_of x.id h) (last_of x.id h)
  -- its will, and how far the dialogue about it has come
  pub will : x.wills.will ≡ will_of x.id h
  pub stage : x.wills.stage ≡ stage_shown (phase_of x.id h) (stating_of x.id h).awaited

-- the MsgIds that are kept as open of a client are those that the rows show to be, and as many
pub record OpenShown (h : List Row) (x : Client) : Type 0 where
  pub same : (number : ℕ) → is_open number x.unreleased ≡ is_open number (open_of x.id h)
  pub many : length x.unreleased ≡ length (open_of x.id h)

-- what the link holds beside what waits: the publishes in flight, the packet id that was given last, the
-- filters that are wanted and when the connection began or was kept alive last are what the rows show
pub record RestShown (h : List Row) (link : Link) : Type 0 where
  pub in_flight : link.in_flight ≡ in_flight h
  pub last : link.last ≡ last_id h
  pub wanted : link.wanted ≡ wanted h
  pub pinged : link.pinged ≡ pinged h

-- no name stands twice
abbrev pub NoneTwice : List (List ℕ) → Type 0
NoneTwice [] = Unit {0}
NoneTwice (name ∷ names) = (is_among name names ≡ false) × NoneTwice names

-- the names of before stand where they stood, and at most one more stands behind them
pub record OneMore (before after : List (List ℕ)) : Type 0 where
  pub more : List (List ℕ)
  pub behind : after ≡ before ++ more
  pub one : length more ≤ 1
