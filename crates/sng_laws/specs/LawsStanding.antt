-- What holds of the filters that stand for clients, in the views' words.
use Rattle.std.specs.Prelude.{ℕ, ◌≡◌, Bool, true, false, ◌&&◌, ◌||◌, List, [], ◌∷◌, Option, Some, None}
use Rattle.std.specs.List.{list_any}
use Rattle.std.specs.Str.{bytes_eq}
use Rattle.sng_text.specs.Texts.{is_name, is_filter}
use Rattle.sng_text.specs.Matching.{matches}
use Rattle.sng_grants.specs.Sources.{scope_of}
use Rattle.sng_policy.specs.Grants.{subscribe_grant, receive_grant}
use Rattle.sng_policy.specs.Laws.{HasFilters}
use Rattle.sng_policy.specs.declared.grant.NameGrant.TheVariants as on_name
use Rattle.sng_policy.specs.declared.grant.FilterGrant.TheVariants as on_filter
use Rattle.sng_fan.specs.Subscriptions.{stands}
use Rattle.sng_frames.specs.declared.messages.subscribe.TopicRequest.{TopicRequest}
use Rattle.sng_frames.specs.declared.frame.SnFrame.TheVariants as frame
use Rattle.sng_book.specs.Denials.{is_allowed}
use Rattle.sng_book.specs.declared.address.Address.{Address}
use Rattle.sng_book.specs.declared.decision.Decision.{Decision}
use Rattle.sng_book.specs.declared.decision.Decision.TheVariants as note
use Rattle.sng_book.specs.declared.out.Out.{Out}
use Rattle.sng_book.specs.declared.out.Out.TheVariants.{Send, Wire, Note}
use Rattle.sng_book.specs.declared.row.Row.{Row}
use Rattle.sng_history.specs.Links.{Wanted}
use Rattle.sng_laws.specs.Views.{policy_in_force}
use Rattle.sng_laws.specs.ViewsMessages.{message_at, subscribe_in}
use Rattle.sng_laws.specs.ViewsClients.{is_at, speaks_of}
use Rattle.sng_laws.specs.ViewsStanding.{standing_of, is_for}
use Rattle.sng_laws.specs.ViewsWanted.{wanted}
use Rattle.sng_laws.specs.LawsAnswers.{Brought}

-- ---- what the policy says

-- each filter that stands for a client is allowed to it by the policy in force
abbrev pub StandingIsAllowed : List Row → Type 0
StandingIsAllowed h =
    (id text : List ℕ) → stands (standing_of id h) text ≡ true
    → subscribe_grant (policy_in_force h) id text ≡ on_filter.Allowed

-- it is a topic filter
abbrev pub StandingIsFilter : List Row → Type 0
StandingIsFilter h = (id text : List ℕ) → stands (standing_of id h) text ≡ true → is_filter text ≡ true

-- and each name that it matches may be received by the client, where the policy's scope holds filters
abbrev pub StandingIsReceived : List Row → Type 0
StandingIsReceived h =
    (id text name : List ℕ) → stands (standing_of id h) text ≡ true
    → HasFilters (scope_of (policy_in_force h).clients id)
    → is_name name ≡ true → matches text name ≡ true
    → receive_grant (policy_in_force h) id name ≡ on_name.Allowed

-- ---- what goes upstream

-- no filter is among these twice
abbrev pub EachOnce : List Wanted → Type 0
EachOnce [] = Unit {0}
EachOnce (w ∷ wanted) = (list_any (is_for w.filter) wanted ≡ false) × EachOnce wanted

-- ---- what ended

-- the note allows the client a subscription by the filter
abbrev pub is_text : List ℕ → Option (List ℕ) → Bool
is_text text None = false
is_text text (Some filter) = bytes_eq filter text

abbrev pub begins_by : List ℕ → List ℕ → Decision → Bool
begins_by id text (note.Subscribe whom filter outcome) =
    (speaks_of id whom && is_allowed outcome) && is_text text filter
begins_by id text other = false

-- a note of the row allows the client a subscription by the filter
abbrev pub begins_in : List ℕ → List ℕ → List Out → Bool
begins_in id text [] = false
begins_in id text (Note said ∷ outs) = begins_by id text said || begins_in id text outs
begins_in id text (Send to datagram ∷ outs) = begins_in id text outs
begins_in id text (Wire packet ∷ outs) = begins_in id text outs

-- a filter that does not stand for a client, whether or not it did once, does not stand after a row without
-- such a note
abbrev pub StaysEndedBy : List Row → Row → Type 0
StaysEndedBy h row =
    (id text : List ℕ) → stands (standing_of id h) text ≡ false → begins_in id text row.outs ≡ false
    → stands (standing_of id (row ∷ h)) text ≡ false

-- nor after a row that is no SUBSCRIBE, such as a replacement of the policy
abbrev pub StaysEndedBeside : List Row → Row → Type 0
StaysEndedBeside h row =
    (id text : List ℕ) → stands (standing_of id h) text ≡ false → subscribe_in (message_at row.event) ≡ None
    → stands (standing_of id (row ∷ h)) text ≡ false

-- the row is a SUBSCRIBE that came from where the client is
pub record BySubscribe (h : List Row) (row : Row) (id : List ℕ) : Type 0 where
  pub from : Address
  pub request : TopicRequest
  pub brought : Brought row from (frame.Subscribe request)
  pub at : is_at id from h ≡ true

-- by no other row a filter begins to stand for the client
abbrev pub BeginsBySubscribe : List Row → Row → Type 0
BeginsBySubscribe h row =
    (id text : List ℕ) → stands (standing_of id h) text ≡ false
    → stands (standing_of id (row ∷ h)) text ≡ true → BySubscribe h row id
