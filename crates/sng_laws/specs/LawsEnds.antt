-- Which ends of subscriptions leave a filter that stands for nobody, and what is noted where the broker
-- cannot be told; and what a clean CONNECT ends, and the broker, in the views' words.
use Rattle.std.specs.Prelude.{ℕ, ◌-◌, Bool, ◌&&◌, ◌||◌, not, List, [], ◌∷◌, ◌++◌, map, filter, drop, length}
use Rattle.std.specs.Prelude.{if◌then◌else◌}
use Rattle.std.specs.List.{list_any, flat_map}
use Rattle.std.specs.Str.{bytes_eq}
use Rattle.sng_fan.specs.Subscriptions.{stands}
use Rattle.sng_fan.specs.declared.held.Held.{Held}
use Rattle.sng_frames.specs.declared.messages.connect.Connect.{Connect}
use Rattle.sng_book.specs.declared.decision.Decision.TheVariants as note
use Rattle.sng_book.specs.declared.outcome.Denial.TheVariants.{Peer}
use Rattle.sng_book.specs.declared.outcome.PeerDenial.TheVariants.{BrokerRefused}
use Rattle.sng_book.specs.declared.outcome.Outcome.TheVariants.{Denied}
use Rattle.sng_book.specs.declared.out.Out.{Out}
use Rattle.sng_book.specs.declared.out.Out.TheVariants.{Note}
use Rattle.sng_book.specs.declared.row.Row.{Row}
use Rattle.sng_grants.specs.Limits.{Limits}
use Rattle.sng_laws.specs.Views.{last_limits}
use Rattle.sng_laws.specs.ViewsClients.{accepted}
use Rattle.sng_laws.specs.ViewsLink.{waiting}
use Rattle.sng_laws.specs.ViewsStanding.{standing_of}

-- ---- last ends

abbrev pub texts_of : List Held → List (List ℕ)
texts_of held = map (λ h. h.filter) held

-- of which client which filter stays with a row
abbrev pub Stays : Type 0
Stays = List ℕ → List ℕ → Bool

-- the filter stands for one of these clients, and stays so
abbrev pub stays_for : List Row → Stays → List (List ℕ) → List ℕ → Bool
stays_for h stays ids text = list_any (λ id. stands (standing_of id h) text && stays id text) ids

-- it stands for one of these clients
abbrev pub stands_for : List Row → List (List ℕ) → List ℕ → Bool
stands_for h ids text = list_any (λ id. stands (standing_of id h) text) ids

-- of the filters that stand for the client those that end, in the order in which each stood first
abbrev pub ending : List Row → Stays → List ℕ → List (List ℕ)
ending h stays id = filter (λ text. not (stays id text)) (texts_of (standing_of id h))

-- each end after which a filter stands for nobody: it stays for no client before, and stood for none behind
abbrev pub last_ends_from : List Row → Stays → List (List ℕ) → List (List ℕ) → List (List ℕ × List ℕ)
last_ends_from h stays earlier [] = []
last_ends_from h stays earlier (id ∷ ids) =
    map (λ text. (id, text)) (filter (λ text. not (stays_for h stays earlier text || stands_for h ids text))
    (ending h stays id))
    ++ last_ends_from h stays (earlier ++ id ∷ []) ids

-- in the order of the clients and of their filters
abbrev pub last_ends : List Row → Stays → List (List ℕ × List ℕ)
last_ends h stays = last_ends_from h stays [] (accepted h)

-- how many items more may wait for the broker, by these limits
abbrev pub places : Limits → List Row → ℕ
places limits h = limits.waiting - length (waiting h)

-- those of the last ends of which the broker is not told, for want of place
abbrev pub untold : Limits → List Row → Stays → List (List ℕ × List ℕ)
untold limits h stays = drop (places limits h) (last_ends h stays)

abbrev pub is_end : List ℕ → List ℕ → List ℕ × List ℕ → Bool
is_end id text end = bytes_eq id end.0 && bytes_eq text end.1

-- what is noted behind an end of which the broker is not told
abbrev pub untold_note : Limits → List Row → Stays → List ℕ → List ℕ → List Out
untold_note limits h stays id text =
    if list_any (is_end id text) (untold limits h stays) then Note note.Outbox ∷ [] else []

-- ---- what a clean CONNECT ends

-- all filters of the client end
abbrev pub stays_by : Connect → Stays
stays_by c other text = not (c.flags.clean && bytes_eq c.client_id other)

-- it is noted as often as the broker is not told of one
abbrev pub clean_answer : List Row → Connect → List Out
clean_answer h c = map (λ end. Note note.Outbox) (untold (last_limits h) h (stays_by c))

-- ---- what the broker ends

-- the filter that it refuses ends for each client for whom it stands, in order
abbrev pub refused_answer : List Row → List ℕ → List Out
refused_answer h text =
    flat_map (λ id. if stands (standing_of id h) text
    then Note (note.End id text (Denied (Peer BrokerRefused))) ∷ []
    else []) (accepted h)
