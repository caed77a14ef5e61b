-- No note of a client brings it to another's address.
use Rattle.std.proofs.Common.{◌≡◌, ℕ, Bool, true, false, List, [], ◌∷◌, ◌++◌, map, refl}
use Rattle.std.proofs.Common.{sym, ◌∙◌, subst}
use Rattle.std.specs.Prelude.{if◌then◌else◌, Option, Some, None}
use Rattle.sng_frames.specs.declared.messages.subscribe.TopicRequest.{TopicRequest}
use Rattle.std.proofs.lemmas.List.{append-nil}
use Rattle.std.specs.Str.{bytes_eq}
use Rattle.sng_frames.specs.declared.messages.connect.Connect.{Connect}
use Rattle.sng_frames.specs.declared.frame.SnFrame.{SnFrame}
use Rattle.sng_book.specs.declared.address.Address.{Address}
use Rattle.sng_book.specs.declared.decision.Decision.{Decision}
use Rattle.sng_book.specs.declared.decision.Decision.TheVariants as note
use Rattle.sng_book.specs.declared.decision.Who.{Who}
use Rattle.sng_book.specs.declared.decision.Who.TheVariants as who
use Rattle.sng_book.specs.declared.outcome.Denial.TheVariants.{Form}
use Rattle.sng_book.specs.declared.outcome.FormDenial.TheVariants.{NotSupported}
use Rattle.sng_book.specs.declared.outcome.Outcome.{Outcome}
use Rattle.sng_book.specs.declared.outcome.Outcome.TheVariants.{Allowed, Denied}
use Rattle.sng_states.specs.States.{has_session}
use Rattle.sng_history.specs.Causes.{Cause}
use Rattle.sng_history.specs.Causes.{ByConnect}
use Rattle.sng_history.specs.Clients.{Around, Client, is_here}
use Rattle.sng_history.specs.Clients.{start_by, announced, handed, subscribed, subscribe_of, unsubscribed}
use Rattle.sng_history.specs.Clients.{drained, received, id_opened_of}
use Rattle.sng_history.specs.Clients.{note_by, notes_by, client_by}
use Rattle.sng_history.specs.State.{State, around}
use Rattle.sng_history.specs.Verdicts.{entry}
use Rattle.sng_history.specs.Answers.{denied_note}
use Rattle.sng_history.specs.Lawful.{fixed_for, denial_of, end_of}
use Rattle.sng_history.specs.Steps.{entrants, newcomers_for, client_next}
use Rattle.sng_history.specs.Outgoing.{out_of_turn}
use Rattle.sng_history.specs.Entering.{entered, served, serving, welcomed, hearing}
use Rattle.sng_history.specs.Good.{Each, Distinct, OnePlace, AtRest}
use Rattle.sng_history.proofs.Own.{each_all}
use Rattle.sng_history.proofs.Steady.{Steady, Lasting, steady_lasts, start_lasts, announced_steady}
use Rattle.sng_history.proofs.Steady.{handed_steady, received_steady}
use Rattle.sng_history.proofs.Steady.{drained_lasts}
use Rattle.sng_history.proofs.Hands.{Every, OfMessages}
use Rattle.sng_history.proofs.Hands.{served_steady}
use Rattle.sng_history.proofs.EndlessRequests.{denied_stays}
use Rattle.sng_history.proofs.Entries.{entered_next, heard_next}
use Rattle.sng_history.proofs.Places.{Stays, places_stay, places_entered}

stays_if : (b : Bool) (x y z : Client) → Stays x y → Stays x z → Stays x (if b then y else z)
stays_if true x y z one two = one
stays_if false x y z one two = two

-- who is where it was, as it stood, stays
lasting_stays : (x y : Client) → Lasting x y → Stays x y
lasting_stays x y lasts at here =
    let session : has_session y.phase ≡ has_session x.phase = lasts.here in
    let address : y.address ≡ x.address = lasts.address in
    let same : is_here y at ≡ is_here x at = rw (session, address) refl in sym same ∙ here

pub steady_stays : (x y : Client) → Steady x y → Stays x y
steady_stays x y steady = lasting_stays x y (steady_lasts x y steady)

-- a note that lets nobody in
abbrev pub Settled : Around → Decision → Type 0
Settled a said = (x : Client) → Stays x (note_by a said x)

pub left_settled : (a : Around) (id : List ℕ) → Settled a (note.Left id)
left_settled a id x at here = absurd cc

pub messages_settled : (a : Around) (client : List ℕ) → OfMessages (Settled a) client
messages_settled a client = record {
  announces = λ name x. steady_stays x (announced a.clock name x) (announced_steady a.clock name x);
  hands = λ name outcome x. steady_stays x (handed a name outcome x) (handed_steady a name outcome x);
}

notes_stay : (a : Around) (notes : List Decision) (x : Client) → Every (Settled a) notes
    → Stays x (notes_by a notes x)
notes_stay a [] x every at here = here
notes_stay a (said ∷ notes) x every at here =
    every.0 x at (notes_stay a notes (note_by a said x) every.1 at here)

pub client_stays : (a : Around) (notes : List Decision) (x : Client) → Every (Settled a) notes
    → Stays x (client_by a notes x)
client_stays a notes x every at here =
    let y = start_by a x in
    let z = notes_by a notes y in
    lasting_stays x y (start_lasts a x) at
    (notes_stay a notes y every at (lasting_stays z (drained z) (drained_lasts z) at here))

pub settled_denial : (a : Around) (id : List ℕ) (outcome : Outcome) → Every (Settled a) (denial_of id outcome)
settled_denial a id Allowed = tt
settled_denial a id (Denied rule) = (λ x at here. here, tt)

pub settled_end : (a : Around) (client filter : List ℕ) (outcome : Outcome) (notes : List Decision)
    → Every (Settled a) notes → Every (Settled a) (end_of client filter outcome ++ notes)
settled_end a client filter Allowed notes all = all
settled_end a client filter (Denied rule) notes all = (λ x at here. here, all)

subscribed_stays : (r : Option TopicRequest) (filter : Option (List ℕ)) (outcome : Outcome) (x : Client)
    → Stays x (subscribed r filter outcome x)
subscribed_stays None filter outcome x at here = here
subscribed_stays (Some r) None outcome x at here = here
subscribed_stays (Some r) (Some filter) Allowed x at here = here
subscribed_stays (Some r) (Some filter) (Denied rule) x at here = here

pub subscribe_settled : (a : Around) (whom : Who) (filter : Option (List ℕ)) (outcome : Outcome)
    → Settled a (note.Subscribe whom filter outcome)
subscribe_settled a whom filter outcome x at here =
    subscribed_stays (subscribe_of a.cause) filter outcome x at here

pub publish_settled : (a : Around) (whom : Who) (name : Option (List ℕ)) (outcome : Outcome)
    → Settled a (note.Publish whom name outcome)
publish_settled a whom name outcome x =
    let id = id_opened_of a.cause in steady_stays x (received id outcome x) (received_steady id outcome x)

unsubscribed_stays : (filter : Option (List ℕ)) (outcome : Outcome) (x : Client)
    → Stays x (unsubscribed filter outcome x)
unsubscribed_stays None outcome x at here = here
unsubscribed_stays (Some filter) Allowed x at here = here
unsubscribed_stays (Some filter) (Denied rule) x at here = here

pub unsubscribe_settled : (a : Around) (whom : Who) (filter : Option (List ℕ)) (outcome : Outcome)
    → Settled a (note.Unsubscribe whom filter outcome)
unsubscribe_settled a whom filter outcome x at here = unsubscribed_stays filter outcome x at here

pub settled_message : (a : Around) (message : SnFrame) (id : List ℕ)
    → Settled a (denied_note message (who.Client id) (Form NotSupported))
settled_message a message id x at here = subst (λ y. is_here y at ≡ true) (denied_stays a x id message) here

pub settled_turn : (a : Around) (turn : Bool) (id : List ℕ) (notes : List Decision) → Every (Settled a) notes
    → Every (Settled a) (if turn then notes else out_of_turn id)
settled_turn a true id notes every = every
settled_turn a false id notes every = (λ x at here. here, tt)

-- what holds of the notes of each cause but a CONNECT
pub settled_for : (s : State) (c : Cause) (x : Client) → newcomers_for s c ≡ []
    → Every (Settled (around s c)) (fixed_for s c x) → Stays x (client_next s c x)
settled_for s c x none all = client_stays (around s c) (fixed_for s c x) x all

pub stay_each : (s : State) (c : Cause) → newcomers_for s c ≡ []
    → ((x : Client) → Stays x (client_next s c x))
    → OnePlace s.clients
    → OnePlace (map (client_next s c) (s.clients ++ newcomers_for s c))
stay_each s c none all places =
    subst (λ xs. OnePlace (map (client_next s c) (s.clients ++ xs))) (sym none)
    (rw (append-nil s.clients) (places_stay (client_next s c) s.clients
    (each_all (λ x. Stays x (client_next s c x)) s.clients all) places))

pub stay_all : (s : State) (c : Cause) → newcomers_for s c ≡ []
    → ((x : Client) → Every (Settled (around s c)) (fixed_for s c x))
    → OnePlace s.clients
    → OnePlace (map (client_next s c) (s.clients ++ newcomers_for s c))
stay_all s c none all places = stay_each s c none (λ x. settled_for s c x none (all x)) places

hearing_stays : (clock : ℕ) (from : Address) (x : Client) → Stays x (hearing clock from x)
hearing_stays clock from x =
    stays_if (is_here x from) x (record x { heard = clock }) x (λ at here. here) (λ at here. here)

-- serving the one that connects brings nobody anywhere
serving_stays : (a : Around) (id : List ℕ) (x : Client) → Stays x (serving a id x)
serving_stays a id x =
    stays_if (bytes_eq id x.id) x (served a x) x (steady_stays x (served a x) (served_steady a x))
    (λ at here. here)

welcomed_places : (a : Around) (from : Address) (connect : Connect) (xs : List Client) → Distinct xs
    → OnePlace xs → OnePlace (welcomed a from connect xs)
welcomed_places a from connect xs apart places =
    let entrants = entered a.clock from connect xs in
    places_stay (serving a connect.client_id) entrants
    (each_all (λ x. Stays x (serving a connect.client_id x)) entrants
    (λ x. serving_stays a connect.client_id x))
    (places_entered a.clock from connect xs apart places)

pub entry_places : (s : State) (from : Address) (connect : Connect) (o : Outcome) → entry s connect ≡ o
    → Distinct s.clients
    → OnePlace s.clients → Each AtRest s.clients
    → OnePlace (map (client_next s (ByConnect from connect)) (s.clients ++ entrants s connect))
entry_places s from connect Allowed is apart places rest =
    subst OnePlace (sym (entered_next s from connect rest is))
    (welcomed_places (around s (ByConnect from connect)) from connect s.clients apart places)
entry_places s from connect (Denied rule) is apart places rest =
    subst OnePlace (sym (heard_next s from connect rule rest is))
    (places_stay (hearing s.clock from) s.clients
    (each_all (λ x. Stays x (hearing s.clock from x)) s.clients (λ x. hearing_stays s.clock from x))
    places)
