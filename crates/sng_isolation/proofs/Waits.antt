-- Which publishes of a client come to wait for the broker.
use Rattle.std.proofs.Common.{◌≡◌, ℕ, Bool, true, false, List, [], ◌∷◌, ◌++◌, map, refl, ap, ap₂, sym, ◌∙◌, cond}
use Rattle.std.proofs.Common.{if◌then◌else◌}
use Rattle.std.specs.Prelude.{Option, Some, None, take}
use Rattle.std.specs.List.{filter}
use Rattle.std.specs.Str.{bytes_eq}
use Rattle.std.proofs.lemmas.List.{append-nil}
use Rattle.std.proofs.lemmas.List.Elements.{filter-append}
use Rattle.sng_grants.specs.Limits.{Limits}
use Rattle.sng_frames.specs.declared.messages.publish.Publish.{Publish}
use Rattle.sng_outbox.specs.Sending.{publishes}
use Rattle.sng_outbox.specs.declared.item.Item.{Item}
use Rattle.sng_outbox.specs.declared.item.Item.TheVariants as item
use Rattle.sng_book.specs.Denials.{is_allowed}
use Rattle.sng_book.specs.declared.decision.Decision.{Decision}
use Rattle.sng_book.specs.declared.decision.Decision.TheVariants as note
use Rattle.sng_book.specs.declared.decision.Who.{Who}
use Rattle.sng_book.specs.declared.decision.Who.TheVariants as who
use Rattle.sng_book.specs.declared.outcome.Outcome.{Outcome}
use Rattle.sng_book.specs.declared.outcome.Outcome.TheVariants.{Allowed, Denied}
use Rattle.sng_history.specs.Links.{Link}
use Rattle.sng_history.specs.Notes.{is_client, is_of}
use Rattle.sng_history.specs.Packets.{Answer, Delivers, Acknowledges, Grants, Refuses, Confirms, Strange}
use Rattle.sng_history.specs.Packets.{owed, has_place, acknowledgement, acknowledgements}
use Rattle.sng_history.specs.Standing.{Release, unsubscribes, places_left}
use Rattle.sng_history.specs.State.{item_asked, publish_item, subscribe_item, asked_by}
use Rattle.sng_history.specs.Steps.{asked_by_all}
use Rattle.sng_history.proofs.Spelled.{AllAbout}
use Rattle.sng_isolation.proofs.Alike.{is_mine, mine}

-- ---- items that are no publishes

mine_unsubscribed : (id : List ℕ) (releases : List Release)
    → mine id (map (λ r. item.Unsubscribe r.filter) releases) ≡ []
mine_unsubscribed id [] = refl
mine_unsubscribed id (r ∷ releases) = mine_unsubscribed id releases

pub mine_unsubscribes : (limits : Limits) (id : List ℕ) (link : Link) (releases : List Release)
    → mine id (unsubscribes limits link releases) ≡ []
mine_unsubscribes limits id link releases = mine_unsubscribed id (take (places_left limits link) releases)

-- what comes behind and is not the client's makes no difference
pub mine_behind : (id : List ℕ) (items more : List Item) → mine id more ≡ []
    → mine id (items ++ more) ≡ mine id items
mine_behind id items more none =
    filter-append (is_mine id) items more
    ∙ (ap (λ rest. mine id items ++ rest) none ∙ append-nil (mine id items))

-- the same comes behind what is the same
pub mine_both : (id : List ℕ) (xs ys us vs : List Item) → mine id xs ≡ mine id us → mine id ys ≡ mine id vs
    → mine id (xs ++ ys) ≡ mine id (us ++ vs)
mine_both id xs ys us vs one two =
    filter-append (is_mine id) xs ys
    ∙ (ap₂ (λ some more. some ++ more) one two ∙ sym (filter-append (is_mine id) us vs))

mine_acknowledged : (id : List ℕ) (room : Bool) (packet_id : Option ℕ)
    → mine id (acknowledgement room packet_id) ≡ []
mine_acknowledged id room None = refl
mine_acknowledged id true (Some packet_id) = refl
mine_acknowledged id false (Some packet_id) = refl

pub mine_acknowledgements : (limits : Limits) (id : List ℕ) (up : Bool) (link : Link) (a : Answer)
    → mine id (acknowledgements limits up link a) ≡ []
mine_acknowledgements limits id up link (Delivers p) = mine_acknowledged id (has_place limits link) (owed up p)
mine_acknowledgements limits id up link (Acknowledges packet_id) = refl
mine_acknowledgements limits id up link (Grants packet_id) = refl
mine_acknowledgements limits id up link (Refuses packet_id) = refl
mine_acknowledgements limits id up link Confirms = refl
mine_acknowledgements limits id up link Strange = refl

-- the publishes alone outlive a connection
pub mine_publishes : (id : List ℕ) (items : List Item) → mine id (publishes items) ≡ mine id items
mine_publishes id [] = refl
mine_publishes id (item.Publish p ∷ items) =
    ap (λ rest. cond (is_mine id (item.Publish p)) (item.Publish p ∷ rest) rest) (mine_publishes id items)
mine_publishes id (item.Subscribe filter ∷ items) = mine_publishes id items
mine_publishes id (item.Unsubscribe filter ∷ items) = mine_publishes id items
mine_publishes id (item.Acknowledge packet_id ∷ items) = mine_publishes id items
mine_publishes id (item.Ping ∷ items) = mine_publishes id items

-- ---- what notes ask for

not_passed : (id : List ℕ) (b : Bool) (one : Item) → is_mine id one ≡ false
    → mine id (if b then one ∷ [] else []) ≡ []
not_passed id true one is = rw is refl
not_passed id false one is = refl

publish_foreign : (id : List ℕ) (whom : Who) (name : Option (List ℕ)) (o : Outcome) (p : Publish)
    → is_client id whom ≡ false
    → mine id (item_asked whom name o p) ≡ []
publish_foreign id (who.Source source) (Some name) o p away = not_passed id (is_allowed o) _ refl
publish_foreign id (who.Source source) None o p away = refl
publish_foreign id (who.Client client) (Some name) o p away = not_passed id (is_allowed o) _ away
publish_foreign id (who.Client client) None o p away = refl
publish_foreign id (who.Address address) name o p away = refl
publish_foreign id who.Broker name o p away = refl

published_foreign : (id : List ℕ) (whom : Who) (name : Option (List ℕ)) (o : Outcome) (p : Option Publish)
    → is_client id whom ≡ false
    → mine id (publish_item whom name o p) ≡ []
published_foreign id whom name o None away = refl
published_foreign id whom name o (Some p) away = publish_foreign id whom name o p away

subscribed_foreign : (id : List ℕ) (filter : Option (List ℕ)) (o : Outcome)
    → mine id (subscribe_item filter o) ≡ []
subscribed_foreign id (Some filter) Allowed = refl
subscribed_foreign id (Some filter) (Denied rule) = refl
subscribed_foreign id None o = refl

-- a note that is not the client's asks for nothing of it
pub asked_foreign : (id : List ℕ) (p : Option Publish) (said : Decision) → is_of id said ≡ false
    → mine id (asked_by p said) ≡ []
asked_foreign id p (note.Publish whom name o) away = published_foreign id whom name o p away
asked_foreign id p (note.Subscribe whom filter o) away = subscribed_foreign id filter o
asked_foreign id p (note.Connect client o) away = refl
asked_foreign id p (note.Register whom name o) away = refl
asked_foreign id p (note.Unsubscribe whom filter o) away = refl
asked_foreign id p (note.Will whom name o) away = refl
asked_foreign id p (note.Announce client name) away = refl
asked_foreign id p (note.Hand client name o) away = refl
asked_foreign id p (note.Retry client name o) away = refl
asked_foreign id p (note.Forward whom name o) away = refl
asked_foreign id p (note.Again whom name o) away = refl
asked_foreign id p (note.End client filter o) away = refl
asked_foreign id p (note.Lost client) away = refl
asked_foreign id p (note.Left client) away = refl
asked_foreign id p note.Outbox away = refl
asked_foreign id p (note.Frame whom o) away = refl

-- nor do the notes of another client
pub asked_other : (id client : List ℕ) (p : Option Publish) (notes : List Decision)
    → bytes_eq id client ≡ false → AllAbout client notes → mine id (asked_by_all p notes) ≡ []
asked_other id client p [] away about = refl
asked_other id client p (said ∷ notes) away about =
    filter-append (is_mine id) (asked_by p said) (asked_by_all p notes)
    ∙ (ap (λ some. some ++ mine id (asked_by_all p notes))
    (asked_foreign id p said (about.0.of id ∙ away)) ∙ asked_other id client p notes away about.1)
