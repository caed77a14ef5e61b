-- The notes of messages that leave tell a client at most one name more.
use Rattle.std.proofs.Common.{◌≡◌, ℕ, Bool, true, false, List, [], ◌∷◌, ◌++◌, refl, sym, subst, if◌then◌else◌}
use Rattle.std.proofs.Common.{rules}
use Rattle.std.specs.Prelude.{◌&&◌, is_some, Option, Some, None}
use Rattle.std.specs.Str.{bytes_eq}
use Rattle.std.proofs.lemmas.List.{append-nil}
use Rattle.sng_grants.specs.declared.policy.Policy.{Policy}
use Rattle.sng_text.specs.declared.qos.Qos.{Qos}
use Rattle.sng_text.specs.declared.qos.Qos.TheVariants.{AtMostOnce, AtLeastOnce}
use Rattle.sng_ids.specs.Ids.{Ids, is_full_for}
use Rattle.sng_queue.specs.Messages.{Message}
use Rattle.sng_queue.specs.Buffers.{Buffer}
use Rattle.sng_frames.specs.declared.messages.subscribe.TopicRequest.{TopicRequest}
use Rattle.sng_book.specs.Denials.{is_allowed}
use Rattle.sng_book.specs.declared.decision.Decision.{Decision}
use Rattle.sng_book.specs.declared.decision.Decision.TheVariants as note
use Rattle.sng_book.specs.declared.outcome.Denial.TheVariants.{Room, Peer}
use Rattle.sng_book.specs.declared.outcome.RoomDenial.TheVariants.{Full}
use Rattle.sng_book.specs.declared.outcome.PeerDenial.TheVariants.{ClientRefused, Gone}
use Rattle.sng_book.specs.declared.outcome.Place.TheVariants as place
use Rattle.sng_book.specs.declared.outcome.Outcome.{Outcome}
use Rattle.sng_book.specs.declared.outcome.Outcome.TheVariants.{Allowed, Denied}
use Rattle.sng_history.specs.Arriving.{arrival, turned_away_by, turned_away}
use Rattle.sng_history.specs.Handing.{known_as}
use Rattle.sng_history.specs.Outgoing.{receive, behind, offered, judged_turn, turns, is_free, handed_over}
use Rattle.sng_history.specs.Outgoing.{all_gone, refusals}
use Rattle.sng_history.specs.Clients.{Client}
use Rattle.sng_history.specs.State.{later}
use Rattle.sng_history.specs.Lawful.{denial_of}
use Rattle.sng_laws.specs.ViewsClients.{admits, is_among, speaks_of, with_name, name_subscribed, names_by}
use Rattle.sng_laws.specs.LawsState.{OneMore}
use Rattle.sng_history.proofs.Hands.{Every}
use Rattle.sng_promise.proofs.Clients.SeenNotes.{admitted_notes, names_notes}
use Rattle.sng_history.proofs.Booleans.{or_neither}

-- a note by itself
same_names : (names : List (List ℕ)) → OneMore names names
same_names names = record { more = []; behind = sym (append-nil names); one = search rules }

new_name : (names : List (List ℕ)) (name : List ℕ) (b : Bool)
    → OneMore names (if b then names else names ++ name ∷ [])
new_name names name true = same_names names
new_name names name false = record { more = name ∷ []; behind = refl; one = search rules }

with_one : (names : List (List ℕ)) (name : Option (List ℕ)) → OneMore names (with_name name names)
with_one names None = same_names names
with_one names (Some name) = new_name names name (is_among name names)

one_if : (names more : List (List ℕ)) (b : Bool) → OneMore names more
    → OneMore names (if b then more else names)
one_if names more true is = is
one_if names more false is = same_names names

-- a note that does not accept the client
pub note_more : (r : Option TopicRequest) (id : List ℕ) (said : Decision) (names : List (List ℕ))
    → admits id said ≡ false
    → OneMore names (names_by r id said names)
note_more r id (note.Connect client outcome) names none = rw none (same_names names)
note_more r id (note.Register whom name outcome) names none =
    one_if names (with_name name names) (speaks_of id whom && is_allowed outcome) (with_one names name)
note_more r id (note.Subscribe whom filter outcome) names none =
    one_if names (with_name (name_subscribed r filter) names) (speaks_of id whom && is_allowed outcome)
    (with_one names (name_subscribed r filter))
note_more r id (note.Announce client name) names none =
    one_if names (with_name (Some name) names) (bytes_eq id client) (with_one names (Some name))
note_more r id _ names none = same_names names

-- ---- the notes of a client tell at most one name more

abbrev pub OneTold : List ℕ → List Decision → Type 0
OneTold id notes =
    (r : Option TopicRequest) (names : List (List ℕ)) → admitted_notes id notes ≡ false → OneMore names
    (names_notes r id notes names)

pub none_told : (id : List ℕ) → OneTold id []
none_told id r names none = same_names names

pub one_told : (id : List ℕ) (said : Decision) → OneTold id (said ∷ [])
one_told id said r names none = note_more r id said names (or_neither (admits id said) false none).0

-- a note that tells none
abbrev pub Mute : List ℕ → Decision → Type 0
Mute id said =
    (r : Option TopicRequest) (names : List (List ℕ)) → admits id said ≡ false
    → names_by r id said names ≡ names

pub told_behind : (id : List ℕ) (xs ys : List Decision) → Every (Mute id) xs → OneTold id ys
    → OneTold id (xs ++ ys)
told_behind id [] ys every later r names none = later r names none
told_behind id (said ∷ xs) ys every later r names none =
    let both = or_neither (admits id said) (admitted_notes id (xs ++ ys)) none in
    subst (λ before. OneMore names (names_notes r id (xs ++ ys) before)) (sym (every.0 r names both.0))
    (told_behind id xs ys every.1 later r names both.1)

pub told_mute : (id : List ℕ) (xs : List Decision) → Every (Mute id) xs → OneTold id xs
told_mute id [] every r names none = same_names names
told_mute id (said ∷ xs) every r names none =
    let both = or_neither (admits id said) (admitted_notes id xs) none in
    subst (λ before. OneMore names (names_notes r id xs before)) (sym (every.0 r names both.0))
    (told_mute id xs every.1 r names both.1)

pub told_if : (id : List ℕ) (b : Bool) (notes : List Decision) → OneTold id notes
    → OneTold id (if b then notes else [])
told_if id true notes told = told
told_if id false notes told = none_told id

pub told_either : (id : List ℕ) (b : Bool) (xs ys : List Decision) → OneTold id xs → OneTold id ys
    → OneTold id (if b then xs else ys)
told_either id true xs ys one two = one
told_either id false xs ys one two = two

pub denial_mute : (id own : List ℕ) (o : Outcome) → Every (Mute id) (denial_of own o)
denial_mute id own Allowed = tt
denial_mute id own (Denied rule) = (λ r names none. refl, tt)

-- ---- messages: behind an announcement nothing more leaves

pub hand_mute : (id client name : List ℕ) (o : Outcome) → Mute id (note.Hand client name o)
hand_mute id client name o r names none = refl

pub behind_told : (id : List ℕ) (said : Decision) (more : List Decision) → Mute id said → OneTold id more
    → OneTold id (said ∷ more)
behind_told id said more mute told = told_behind id (said ∷ []) more (mute, tt) told

quality_told : (id : List ℕ) (q : Qos) (more : List Decision) → OneTold id more → OneTold id (behind q more)
quality_told id AtMostOnce more told = told
quality_told id AtLeastOnce more told = none_told id

offered_told : (id client : List ℕ) (m : Message) (known full : Bool) (more : List Decision) → OneTold id more
    → OneTold id (offered client m known full more)
offered_told id client m true full more told =
    behind_told id (note.Hand client m.name Allowed) (behind m.qos more) (hand_mute id client m.name Allowed)
    (quality_told id m.qos more told)
offered_told id client m false true more told =
    let o = Denied (Room (Full place.Ids)) in
    behind_told id (note.Hand client m.name o) more (hand_mute id client m.name o) told
offered_told id client m false false more told = one_told id (note.Announce client m.name)

judged_told : (id : List ℕ) (policy : Policy) (client : List ℕ) (ids : Ids) (m : Message) (o : Outcome)
    (more : List Decision)
    → OneTold id more → OneTold id (judged_turn policy client ids m o more)
judged_told id policy client ids m Allowed more told =
    offered_told id client m (is_some (known_as policy ids m.name)) (is_full_for m.name ids) more told
judged_told id policy client ids m (Denied rule) more told =
    behind_told id (note.Hand client m.name (Denied rule)) more
    (hand_mute id client m.name (Denied rule)) told

turns_told : (id : List ℕ) (policy : Policy) (client : List ℕ) (ids : Ids) (waiting : List Message)
    → OneTold id (turns policy client ids waiting)
turns_told id policy client ids [] = none_told id
turns_told id policy client ids (m ∷ more) =
    judged_told id policy client ids m (receive policy client m.name) (turns policy client ids more)
    (turns_told id policy client ids more)

pub handed_told : (id : List ℕ) (policy : Policy) (x : Client) → OneTold id (handed_over policy x)
handed_told id policy x =
    told_if id (is_free x) (turns policy x.id x.ids x.buffer.waiting)
    (turns_told id policy x.id x.ids x.buffer.waiting)

pub gone_mute : (id client : List ℕ) (waiting : List Message) → Every (Mute id) (all_gone client waiting)
gone_mute id client [] = tt
gone_mute id client (m ∷ more) = (hand_mute id client m.name (Denied (Peer Gone)), gone_mute id client more)

pub refusal_mute : (id client : List ℕ) (code : ℕ) (waiting : List Message)
    → Every (Mute id) (refusals client code waiting)
refusal_mute id client code [] = tt
refusal_mute id client code (m ∷ more) = (hand_mute id client m.name (Denied (Peer (ClientRefused code))), tt)

turned_mute : (id client name : List ℕ) (o : Outcome) → Every (Mute id) (turned_away_by client name o)
turned_mute id client name Allowed = tt
turned_mute id client name (Denied rule) = (hand_mute id client name (Denied rule), tt)

pub away_mute : (id client : List ℕ) (due : Option Message) (b : Buffer)
    → Every (Mute id) (turned_away client due b)
away_mute id client None b = tt
away_mute id client (Some m) b = turned_mute id client m.name (arrival b m)
