-- Behind what may leave of what waits for a client something is open, or nothing waits any more: as the laws
-- say, by which an awake client is told that nothing is left.
use Rattle.std.proofs.Common.{◌≡◌, ℕ, ◌≤◌, Bool, true, false, List, [], ◌∷◌, ◌++◌, refl, ap, sym, ◌∙◌, subst}
use Rattle.std.proofs.Common.{if◌then◌else◌}
use Rattle.std.specs.Prelude.{◌||◌, ◌&&◌, not, is_some, is_none, slice_get, Option, Some, None}
use Rattle.sng_text.specs.declared.qos.Qos.{Qos}
use Rattle.sng_text.specs.declared.qos.Qos.TheVariants.{AtMostOnce, AtLeastOnce}
use Rattle.sng_states.specs.States.{is_awake}
use Rattle.sng_states.specs.declared.state.ClientState.{ClientState}
use Rattle.sng_states.specs.declared.state.ClientState.TheVariants.{Dialogue, Active, Asleep, Awake}
use Rattle.sng_states.specs.declared.state.ClientState.TheVariants.{Disconnected, Lost}
use Rattle.sng_ids.specs.Ids.{is_full_for}
use Rattle.sng_queue.specs.Messages.{Message}
use Rattle.sng_book.specs.declared.decision.Decision.TheVariants as note
use Rattle.sng_book.specs.declared.outcome.Place.TheVariants as place
use Rattle.sng_book.specs.declared.outcome.Denial.TheVariants.{Room}
use Rattle.sng_book.specs.declared.outcome.RoomDenial.TheVariants.{Full}
use Rattle.sng_book.specs.declared.outcome.Outcome.{Outcome}
use Rattle.sng_book.specs.declared.outcome.Outcome.TheVariants.{Allowed, Denied}
use Rattle.sng_book.specs.declared.out.Out.{Out}
use Rattle.sng_history.specs.Handing.{Known, known_as, number_by, number_handed, buffer_by, buffer_handed}
use Rattle.sng_history.specs.Clients.{Around, Client, notes_by}
use Rattle.sng_history.specs.Standing.{Release}
use Rattle.sng_history.specs.Verdicts.{and_then}
use Rattle.sng_history.specs.Outgoing.{behind, offered, judged_turn, turns}
use Rattle.sng_history.specs.Whole.{spell, drained_outs}
use Rattle.sng_laws.specs.ViewsHanding.{is_at_least_once}
use Rattle.sng_laws.specs.LawsRules.{judged}
use Rattle.sng_laws.specs.LawsHanding as laws
use Rattle.sng_laws.specs.LawsHanding.{Mailing, knows, opens_by, opens, pong_to, handed_out}
use Rattle.sng_laws.specs.LawsRules.{receive_rules}
use Rattle.sng_laws.specs.LawsHanding.{handed_awake}
use Rattle.sng_history.proofs.Hands.{Calm, every_turn, messages_calm, notes_calm}
use Rattle.sng_promise.proofs.Names.Marked.{marked, full_marked}
use Rattle.sng_promise.proofs.Answers.LawRules.{receive_ruled}
use Rattle.sng_promise.proofs.Handing.LawTurnFrames.{Meant, meant}
use Rattle.sng_promise.proofs.Handing.LawTurns.{mail, ready, full_rule, is_crowded, judged_append}
use Rattle.sng_promise.proofs.Handing.LawTurns.{denied_settles, handed_shown}
use Rattle.sng_history.proofs.Booleans.{and_no}

-- nothing waits for the client, and nothing is open with it
abbrev is_emptied : Client → Bool
is_emptied x = is_none (slice_get x.buffer.waiting 0) && is_none x.buffer.exchange

-- what holds of those that wait
abbrev Left : Around → List (List ℕ) → List (List ℕ) → List Message → Type 0
Left a told known waiting =
    (x : Client)
    → is_emptied (notes_by a (turns a.policy x.id (marked told known) waiting) (ready x told known waiting))
    ≡ not (opens (mail a x told known) waiting)

-- ---- a message in its turn

behind_left : (a : Around) (told known : List (List ℕ)) (m : Message) (more : List Message) (x : Client)
    (q : Qos) (k : Known)
    → Left a told known more
    → is_emptied
    (notes_by a (behind q (turns a.policy x.id (marked told known) more))
    (let y : Client = record (ready x told known (m ∷ more)) {
      number = number_by q x.number;
      buffer = buffer_by q (ready x told known (m ∷ more)).buffer k x.number a.clock;
    } in y))
    ≡ not (is_at_least_once q || opens (mail a x told known) more)
behind_left a told known m more x AtMostOnce k rest = rest x
behind_left a told known m more x AtLeastOnce k rest = and_no (is_none (slice_get more 0))

hand_left : (a : Around) (told known : List (List ℕ)) (m : Message) (more : List Message) (x : Client)
    (k : Known) → Left a told known more
    → known_as a.policy (marked told known) m.name ≡ Some k
    → is_emptied
    (notes_by a (note.Hand x.id m.name Allowed ∷ behind m.qos (turns a.policy x.id (marked told known) more))
    (ready x told known (m ∷ more)))
    ≡ not (is_at_least_once m.qos || opens (mail a x told known) more)
hand_left a told known m more x k rest is =
    let y : Client = ready x told known (m ∷ more) in
    subst
    (λ o. is_emptied
    (notes_by a (behind m.qos (turns a.policy x.id (marked told known) more))
    (let z : Client = record y {
      number = number_handed x.number (Some m);
      buffer = buffer_handed y.buffer
          (Some m) o x.number a.clock;
    } in z))
    ≡ not (is_at_least_once m.qos || opens (mail a x told known) more))
    (sym is)
    (behind_left a told known m more x m.qos k rest)

-- what the laws say of it
known_opens : (c : Mailing) (m : Message) (rest : Bool) → knows c m.name ≡ true
    → opens_by c m (judged (full_rule c m.name)) rest ≡ (is_at_least_once m.qos || rest)
known_opens c m rest is = ap (λ o. opens_by c m o rest) (allowed c m.name is) ∙ opened c m rest is
  where
    allowed : (c : Mailing) (name : List ℕ) → knows c name ≡ true → judged (full_rule c name) ≡ Allowed
    allowed c name is = rw is refl

    opened : (c : Mailing) (m : Message) (rest : Bool) → knows c m.name ≡ true
        → opens_by c m Allowed rest ≡ (is_at_least_once m.qos || rest)
    opened c m rest is = rw is refl

crowded_opens : (c : Mailing) (m : Message) (rest : Bool) → knows c m.name ≡ false
    → is_crowded c m.name ≡ true
    → opens_by c m (judged (full_rule c m.name)) rest ≡ rest
crowded_opens c m rest is full = ap (λ o. opens_by c m o rest) (denied c m.name is full)
  where
    denied : (c : Mailing) (name : List ℕ) → knows c name ≡ false → is_crowded c name ≡ true
        → judged (full_rule c name) ≡ Denied (Room (Full place.Ids))
    denied c name is full = rw (is, full) refl

announced_opens : (c : Mailing) (m : Message) (rest : Bool) → knows c m.name ≡ false
    → is_crowded c m.name ≡ false
    → opens_by c m (judged (full_rule c m.name)) rest ≡ true
announced_opens c m rest is room =
    ap (λ o. opens_by c m o rest) (allowed c m.name is room) ∙ announced c m rest is
  where
    allowed : (c : Mailing) (name : List ℕ) → knows c name ≡ false → is_crowded c name ≡ false
        → judged (full_rule c name) ≡ Allowed
    allowed c name is room = rw (is, room) refl

    announced : (c : Mailing) (m : Message) (rest : Bool) → knows c m.name ≡ false
        → opens_by c m Allowed rest ≡ true
    announced c m rest is = rw is refl

unknown_left : (a : Around) (told known : List (List ℕ)) (m : Message) (more : List Message) (x : Client)
    (full : Bool)
    → Left a told known more
    → is_full_for m.name (marked told known) ≡ full → knows (mail a x told known) m.name ≡ false
    → is_emptied (notes_by a (offered x.id m false full (turns a.policy x.id (marked told known) more))
    (ready x told known (m ∷ more)))
    ≡ not (opens_by (mail a x told known) m (judged (full_rule (mail a x told known) m.name))
    (opens (mail a x told known) more))
unknown_left a told known m more x true rest full unknown =
    let c = mail a x told known in
    rest x ∙ ap not (sym (crowded_opens c m (opens c more) unknown
    (sym (full_marked m.name told known) ∙ full)))
unknown_left a told known m more x false rest full unknown =
    let c = mail a x told known in
    ap not (sym (announced_opens c m (opens c more) unknown (sym (full_marked m.name told known) ∙ full)))

offered_left : (a : Around) (told known : List (List ℕ)) (m : Message) (more : List Message) (x : Client)
    (k : Option Known)
    → Left a told known more
    → known_as a.policy (marked told known) m.name ≡ k
    → Meant k (knows (mail a x told known) m.name) (laws.topic_meant (mail a x told known) m.name)
    → is_emptied
    (notes_by a
    (offered x.id m (is_some (known_as a.policy (marked told known) m.name))
    (is_full_for m.name (marked told known))
    (turns a.policy x.id (marked told known) more))
    (ready x told known (m ∷ more)))
    ≡ not (opens_by (mail a x told known) m (judged (full_rule (mail a x told known) m.name))
    (opens (mail a x told known) more))
offered_left a told known m more x (Some k) rest is means =
    let c = mail a x told known in
    let notes = turns a.policy x.id (marked told known) more in
    ap (λ b. is_emptied (notes_by a (offered x.id m b (is_full_for m.name (marked told known)) notes)
    (ready x told known (m ∷ more))))
    (ap is_some is)
    ∙ (hand_left a told known m more x k rest is ∙ ap not (sym (known_opens c m (opens c more) means.0)))
offered_left a told known m more x None rest is means =
    let full = is_full_for m.name (marked told known) in
    let notes = turns a.policy x.id (marked told known) more in
    ap (λ b. is_emptied (notes_by a (offered x.id m b full notes) (ready x told known (m ∷ more))))
    (ap is_some is)
    ∙ unknown_left a told known m more x full rest refl means

-- ---- all of them

left_by : (a : Around) (told known : List (List ℕ)) (m : Message) (more : List Message) (x : Client)
    (o : Outcome) → Left a told known more
    → judged (receive_rules a.policy x.id m.name) ≡ o
    → is_emptied (notes_by a (judged_turn a.policy x.id (marked told known) m o
    (turns a.policy x.id (marked told known) more)) (ready x told known (m ∷ more)))
    ≡ not (opens_by (mail a x told known) m (and_then o (judged (full_rule (mail a x told known) m.name)))
    (opens (mail a x told known) more))
left_by a told known m more x Allowed rest is =
    offered_left a told known m more x (known_as a.policy (marked told known) m.name) rest refl
    (meant (mail a x told known) m.name)
left_by a told known m more x (Denied rule) rest is =
    ap (λ y. is_emptied (notes_by a (turns a.policy x.id (marked told known) more) y))
    (denied_settles a.policy x.id m.name rule (ready x told known (m ∷ more)) is)
    ∙ rest x

turns_left : (a : Around) (told known : List (List ℕ)) (waiting : List Message) → Left a told known waiting
turns_left a told known [] x = refl
turns_left a told known (m ∷ more) x =
    let c = mail a x told known in
    let o = judged (receive_rules a.policy x.id m.name) in
    let notes = turns a.policy x.id (marked told known) more in
    ap (λ said. is_emptied (notes_by a (judged_turn a.policy x.id (marked told known) m said notes)
    (ready x told known (m ∷ more))))
    (receive_ruled a.policy x.id m.name)
    ∙ (left_by a told known m more x o (turns_left a told known more) refl
    ∙ ap (λ said. not (opens_by c m said (opens c more)))
    (sym (judged_append (receive_rules a.policy x.id m.name) (full_rule c m.name))))

handed_left : (a : Around) (x : Client) (told known : List (List ℕ)) → x.ids ≡ marked told known
    → x.buffer.exchange ≡ None
    → is_emptied (notes_by a (turns a.policy x.id x.ids x.buffer.waiting) x)
    ≡ not (opens (mail a x told known) x.buffer.waiting)
handed_left a x told known ids none =
    ap (λ marks. is_emptied (notes_by a (turns a.policy x.id marks x.buffer.waiting)
    (let y : Client = record x { ids = marks } in y))) ids
    ∙ (ap
    (λ e. is_emptied
    (notes_by a (turns a.policy x.id (marked told known) x.buffer.waiting)
    (let y : Client = record x {
      ids = marked told known;
      buffer = record { waiting = x.buffer.waiting; exchange = e };
    } in y)))
    none
    ∙ turns_left a told known x.buffer.waiting x)

-- ---- an awake client is told that nothing is left

pub awake_same : (phase : ClientState) → is_awake phase ≡ laws.is_awake (Some phase)
awake_same Awake = refl
awake_same Active = refl
awake_same Asleep = refl
awake_same Dialogue = refl
awake_same Disconnected = refl
awake_same Lost = refl

pong_same : (y : Client) (awake opened : Bool) → is_awake y.phase ≡ awake → is_emptied y ≡ not opened
    → drained_outs y ≡ (if awake && not opened then pong_to y.address ∷ [] else [])
pong_same y awake opened up left =
    ap (λ b. let outs : List Out = if b && is_emptied y then pong_to y.address ∷ [] else [] in outs) up
    ∙ ap (λ b. let outs : List Out = if awake && b then pong_to y.address ∷ [] else [] in outs) left

-- what may leave leaves, and PINGRESP behind it where nothing is left
pub awake_shown : (a : Around) (dropped : List Release) (x : Client) (told known : List (List ℕ))
    → x.ids ≡ marked told known
    → x.buffer.exchange ≡ None
    → x.number ≤ 65535
    → let notes = turns a.policy x.id x.ids x.buffer.waiting in
    spell a dropped x notes ++ drained_outs (notes_by a notes x)
    ≡ handed_awake (is_awake x.phase) (mail a x told known) x.buffer.waiting
awake_shown a dropped x told known ids none within =
    let notes = turns a.policy x.id x.ids x.buffer.waiting in
    let y = notes_by a notes x in
    let c = mail a x told known in
    let steady =
    notes_calm a notes x (every_turn (Calm a) a.policy x.id x.ids x.buffer.waiting
    (messages_calm a x.id)) in
    ap (λ outs. outs ++ drained_outs y) (handed_shown a dropped x told known ids none within)
    ∙ ap (λ outs. handed_out c x.buffer.waiting ++ outs)
    (pong_same y (is_awake x.phase) (opens c x.buffer.waiting) (ap is_awake steady.phase)
    (handed_left a x told known ids none)
    ∙ ap (λ to. let outs : List Out = if is_awake x.phase && not
    (opens c x.buffer.waiting) then pong_to to ∷ [] else [] in outs) steady.address)
