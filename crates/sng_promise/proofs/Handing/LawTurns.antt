-- What leaves as messages may leave is what the laws' rules and frames say of it, each message in its turn.
use Rattle.std.proofs.Common.{◌≡◌, ℕ, ◌≤◌, Bool, true, false, List, [], ◌∷◌, ◌++◌, length, refl, ap}
use Rattle.std.proofs.Common.{sym, ◌∙◌, subst, if◌then◌else◌}
use Rattle.std.specs.Prelude.{◌&&◌, not, nat_lt, is_some, Option, Some, None}
use Rattle.sng_text.specs.declared.qos.Qos.{Qos}
use Rattle.sng_text.specs.declared.qos.Qos.TheVariants.{AtMostOnce, AtLeastOnce}
use Rattle.sng_grants.specs.Sources.{scope_of}
use Rattle.sng_grants.specs.declared.policy.Policy.{Policy}
use Rattle.sng_ids.specs.Ids.{is_full_for}
use Rattle.sng_ids.specs.declared.limits.TheConstants.{MAX_TOPIC_IDS}
use Rattle.sng_queue.specs.Messages.{Message}
use Rattle.sng_queue.specs.Buffers.{settle}
use Rattle.sng_book.specs.declared.decision.Decision.TheVariants as note
use Rattle.sng_book.specs.declared.outcome.Place.TheVariants as place
use Rattle.sng_book.specs.declared.outcome.Denial.{Denial}
use Rattle.sng_book.specs.declared.outcome.Denial.TheVariants.{Grant, Room}
use Rattle.sng_book.specs.declared.outcome.GrantDenial.TheVariants.{NoScope, MissingSub}
use Rattle.sng_book.specs.declared.outcome.RoomDenial.TheVariants.{Full}
use Rattle.sng_book.specs.declared.outcome.Outcome.{Outcome}
use Rattle.sng_book.specs.declared.outcome.Outcome.TheVariants.{Allowed, Denied}
use Rattle.sng_book.specs.declared.out.Out.{Out}
use Rattle.sng_book.specs.declared.out.Out.TheVariants.{Note}
use Rattle.sng_history.specs.Handing.{Known, known_as}
use Rattle.sng_history.specs.Handing.{handed_outs, number_by, number_handed, buffer_by}
use Rattle.sng_history.specs.Handing.{buffer_handed}
use Rattle.sng_history.specs.Clients.{Around, Client, is_turned_away, denied_hand}
use Rattle.sng_history.specs.Standing.{Release}
use Rattle.sng_history.specs.Verdicts.{and_then}
use Rattle.sng_history.specs.Outgoing.{behind, offered, judged_turn, turns}
use Rattle.sng_history.specs.Whole.{spell}
use Rattle.sng_laws.specs.ViewsClients.{is_among}
use Rattle.sng_laws.specs.ViewsHanding.{is_at_least_once}
use Rattle.sng_laws.specs.LawsRules.{Rule, judged}
use Rattle.sng_laws.specs.LawsHanding.{Mailing, knows}
use Rattle.sng_laws.specs.LawsRules.{may_receive, receive_rules}
use Rattle.sng_laws.specs.LawsHanding.{topic_meant, publish_to, register_to, sent_before, handed_one}
use Rattle.sng_laws.specs.LawsHanding.{handed_out}
use Rattle.sng_promise.proofs.Answers.LawRules.{receive_ruled}
use Rattle.sng_promise.proofs.Names.Marked.{marked, full_marked}
use Rattle.sng_promise.proofs.Handing.LawTurnFrames.{Meant, meant, publish_same, register_same}
use Rattle.sng_history.proofs.Turns.{turned}

-- ---- a message has its turn

-- how messages go to the client, who was told these names and knows these
abbrev pub mail : Around → Client → List (List ℕ) → List (List ℕ) → Mailing
mail a x told known =
    record {
      policy = a.policy;
      id = x.id;
      address = x.address;
      told = told;
      known = known;
      number = x.number;
    }

-- the client, where these wait and no exchange is open
abbrev pub ready : Client → List (List ℕ) → List (List ℕ) → List Message → Client
ready x told known waiting =
    record x { ids = marked told known; buffer = record { waiting = waiting; exchange = None } }

-- what holds of those that wait
abbrev Turned : Around → List Release → List (List ℕ) → List (List ℕ) → List Message → Type 0
Turned a dropped told known waiting =
    (x : Client) → x.number ≤ 65535
    → spell a dropped (ready x told known waiting) (turns a.policy x.id (marked told known) waiting)
    ≡ handed_out (mail a x told known) waiting

-- behind one that is handed over at this QoS
behind_spelled : (a : Around) (dropped : List Release) (told known : List (List ℕ)) (m : Message)
    (more : List Message) (x : Client) (q : Qos) (k : Known) → x.number ≤ 65535
    → Turned a dropped told known more
    → spell a dropped (let y : Client =
    record (ready x told known (m ∷ more)) {
      number = number_by q x.number;
      buffer = buffer_by q (ready x told known (m ∷ more)).buffer k x.number a.clock;
    } in y)
    (behind q (turns a.policy x.id (marked told known) more))
    ≡ (if is_at_least_once q then [] else handed_out (mail a x told known) more)
behind_spelled a dropped told known m more x AtMostOnce k within rest = rest x within
behind_spelled a dropped told known m more x AtLeastOnce k within rest = refl

hand_spelled : (a : Around) (dropped : List Release) (told known : List (List ℕ)) (m : Message)
    (more : List Message) (x : Client) (k : Known) → x.number ≤ 65535 → Turned a dropped told known more
    → known_as a.policy (marked told known) m.name ≡ Some k
    → Meant (Some k) (knows (mail a x told known) m.name) (topic_meant (mail a x told known) m.name)
    → spell a dropped (ready x told known (m ∷ more))
    (note.Hand x.id m.name Allowed ∷ behind m.qos (turns a.policy x.id (marked told known) more))
    ≡ Note (note.Hand x.id m.name Allowed) ∷ publish_to (mail a x told known) m
    ∷ sent_before m (handed_out (mail a x told known) more)
hand_spelled a dropped told known m more x k within rest is means =
    let c = mail a x told known in
    let y : Client = ready x told known (m ∷ more) in
    subst
    (λ o. Note (note.Hand x.id m.name Allowed)
    ∷ (handed_outs x.address x.number (Some m) o
    ++ spell a dropped (let z : Client =
    record y {
      number = number_handed x.number (Some m);
      buffer = buffer_handed y.buffer (Some m) o x.number a.clock;
    } in z) (behind m.qos (turns a.policy x.id (marked told known) more)))
    ≡ Note (note.Hand x.id m.name Allowed) ∷ publish_to c m ∷ sent_before m (handed_out c more))
    (sym is)
    (rw (
      publish_same c m k within means.1.0 means.1.1,
      behind_spelled a dropped told known m more x m.qos k within rest,
    ) refl)

-- what comes of a message that the policy allows
abbrev Offered : Around → List Release → List (List ℕ) → List (List ℕ) → Message → List Message → Client
    → Outcome → Type 0
Offered a dropped told known m more x o =
    spell a dropped (ready x told known (m ∷ more))
    (offered x.id m (is_some (known_as a.policy (marked told known) m.name))
    (is_full_for m.name (marked told known)) (turns a.policy x.id (marked told known) more))
    ≡ handed_one (mail a x told known) m o (handed_out (mail a x told known) more)

-- the last rule
abbrev pub full_rule : Mailing → List ℕ → List Rule
full_rule c name = (
  not (knows c name) && (not (is_among name c.told) && not (nat_lt (length c.told) MAX_TOPIC_IDS)),
  Room (Full place.Ids),
) ∷ []

-- what the laws say of it, where the client knows the name, where no id is left, and where one is announced
known_one : (c : Mailing) (m : Message) (rest : List Out) → knows c m.name ≡ true
    → handed_one c m (judged (full_rule c m.name)) rest
    ≡ Note (note.Hand c.id m.name Allowed) ∷ publish_to c m ∷ sent_before m rest
known_one c m rest is = ap (λ o. handed_one c m o rest) (allowed c m.name is) ∙ sent c m rest is
  where
    allowed : (c : Mailing) (name : List ℕ) → knows c name ≡ true → judged (full_rule c name) ≡ Allowed
    allowed c name is = rw is refl

    sent : (c : Mailing) (m : Message) (rest : List Out) → knows c m.name ≡ true
        → handed_one c m Allowed rest
        ≡ Note (note.Hand c.id m.name Allowed) ∷ publish_to c m ∷ sent_before m rest
    sent c m rest is = rw is refl

-- no id of the name was told, and none is left
abbrev pub is_crowded : Mailing → List ℕ → Bool
is_crowded c name = not (is_among name c.told) && not (nat_lt (length c.told) MAX_TOPIC_IDS)

crowded_one : (c : Mailing) (m : Message) (rest : List Out) → knows c m.name ≡ false
    → is_crowded c m.name ≡ true
    → handed_one c m (judged (full_rule c m.name)) rest
    ≡ Note (note.Hand c.id m.name (Denied (Room (Full place.Ids)))) ∷ rest
crowded_one c m rest is full = ap (λ o. handed_one c m o rest) (denied c m.name is full)
  where
    denied : (c : Mailing) (name : List ℕ) → knows c name ≡ false → is_crowded c name ≡ true
        → judged (full_rule c name) ≡ Denied (Room (Full place.Ids))
    denied c name is full = rw (is, full) refl

announced_one : (c : Mailing) (m : Message) (rest : List Out) → knows c m.name ≡ false
    → is_crowded c m.name ≡ false
    → handed_one c m (judged (full_rule c m.name)) rest
    ≡ Note (note.Announce c.id m.name) ∷ register_to c m.name ∷ []
announced_one c m rest is room =
    ap (λ o. handed_one c m o rest) (allowed c m.name is room) ∙ announced c m rest is
  where
    allowed : (c : Mailing) (name : List ℕ) → knows c name ≡ false → is_crowded c name ≡ false
        → judged (full_rule c name) ≡ Allowed
    allowed c name is room = rw (is, room) refl

    announced : (c : Mailing) (m : Message) (rest : List Out) → knows c m.name ≡ false
        → handed_one c m Allowed rest ≡ Note (note.Announce c.id m.name) ∷ register_to c m.name ∷ []
    announced c m rest is = rw is refl

known_turn : (a : Around) (dropped : List Release) (told known : List (List ℕ)) (m : Message)
    (more : List Message) (x : Client) (k : Known) → x.number ≤ 65535 → Turned a dropped told known more
    → known_as a.policy (marked told known) m.name ≡ Some k
    → Meant (Some k) (knows (mail a x told known) m.name) (topic_meant (mail a x told known) m.name)
    → Offered a dropped told known m more x (judged (full_rule (mail a x told known) m.name))
known_turn a dropped told known m more x k within rest is means =
    ap (λ b. spell a dropped (ready x told known (m ∷ more))
    (offered x.id m b (is_full_for m.name (marked told known))
    (turns a.policy x.id (marked told known) more))) (ap is_some is)
    ∙ (hand_spelled a dropped told known m more x k within rest is means
    ∙ sym (known_one (mail a x told known) m (handed_out (mail a x told known) more) means.0))

unknown_turn : (a : Around) (dropped : List Release) (told known : List (List ℕ)) (m : Message)
    (more : List Message) (x : Client) (full : Bool) → x.number ≤ 65535 → Turned a dropped told known more
    → is_full_for m.name (marked told known) ≡ full → knows (mail a x told known) m.name ≡ false
    → spell a dropped (ready x told known (m ∷ more))
    (offered x.id m false full (turns a.policy x.id (marked told known) more))
    ≡ handed_one (mail a x told known) m (judged (full_rule (mail a x told known) m.name))
    (handed_out (mail a x told known) more)
unknown_turn a dropped told known m more x true within rest full unknown =
    ap (λ outs. Note (note.Hand x.id m.name (Denied (Room (Full place.Ids)))) ∷ outs) (rest x within)
    ∙ sym (crowded_one (mail a x told known) m (handed_out (mail a x told known) more) unknown
    (sym (full_marked m.name told known) ∙ full))
unknown_turn a dropped told known m more x false within rest full unknown =
    ap (λ out. Note (note.Announce x.id m.name) ∷ out ∷ [])
    (register_same (mail a x told known) m.name within)
    ∙ sym (announced_one (mail a x told known) m (handed_out (mail a x told known) more) unknown
    (sym (full_marked m.name told known) ∙ full))

offered_turn : (a : Around) (dropped : List Release) (told known : List (List ℕ)) (m : Message)
    (more : List Message) (x : Client) (k : Option Known) → x.number ≤ 65535
    → Turned a dropped told known more
    → known_as a.policy (marked told known) m.name ≡ k
    → Meant k (knows (mail a x told known) m.name) (topic_meant (mail a x told known) m.name)
    → Offered a dropped told known m more x (judged (full_rule (mail a x told known) m.name))
offered_turn a dropped told known m more x (Some k) within rest is means =
    known_turn a dropped told known m more x k within rest is means
offered_turn a dropped told known m more x None within rest is means =
    let full = is_full_for m.name (marked told known) in
    ap (λ b. spell a dropped (ready x told known (m ∷ more))
    (offered x.id m b full (turns a.policy x.id (marked told known) more))) (ap is_some is)
    ∙ unknown_turn a dropped told known m more x full within rest refl means

-- ---- what the policy says

judged_if : (b : Bool) (rule : Denial) (o more : Outcome)
    → (if b then Denied rule else and_then o more) ≡ and_then (if b then Denied rule else o) more
judged_if true rule o more = refl
judged_if false rule o more = refl

pub judged_append : (rules more : List Rule) → judged (rules ++ more) ≡ and_then (judged rules) (judged more)
judged_append [] more = refl
judged_append (rule ∷ rules) more =
    ap (λ o. if rule.0 then Denied rule.1 else o) (judged_append rules more)
    ∙ judged_if rule.0 rule.1 (judged rules) (judged more)

unturned : (l g : Bool) (id name : List ℕ)
    → turned (judged ((l, Grant (NoScope id)) ∷ (g, Grant (MissingSub name)) ∷ [])) ≡ false
unturned true g id name = refl
unturned false true id name = refl
unturned false false id name = refl

pub denied_settles : (policy : Policy) (id name : List ℕ) (rule : Denial) (x : Client)
    → judged (receive_rules policy id name) ≡ Denied rule
    → denied_hand rule x ≡ (let y : Client = record x { buffer = settle x.buffer } in y)
denied_settles policy id name rule x is =
    let rules = receive_rules policy id name in
    let away : is_turned_away rule ≡ false =
    sym (ap turned is) ∙ unturned (not (is_some (scope_of policy.clients id)))
    (not (may_receive (scope_of policy.clients id) name)) id name in
    rw away refl

-- ---- all that may leave

turn_by : (a : Around) (dropped : List Release) (told known : List (List ℕ)) (m : Message)
    (more : List Message) (x : Client) (o : Outcome) → x.number ≤ 65535 → Turned a dropped told known more
    → judged (receive_rules a.policy x.id m.name) ≡ o
    → spell a dropped (ready x told known (m ∷ more))
    (judged_turn a.policy x.id (marked told known) m o (turns a.policy x.id (marked told known) more))
    ≡ handed_one (mail a x told known) m (and_then o (judged (full_rule (mail a x told known) m.name)))
    (handed_out (mail a x told known) more)
turn_by a dropped told known m more x Allowed within rest is =
    offered_turn a dropped told known m more x (known_as a.policy (marked told known) m.name) within rest refl
    (meant (mail a x told known) m.name)
turn_by a dropped told known m more x (Denied rule) within rest is =
    ap (λ outs. Note (note.Hand x.id m.name (Denied rule)) ∷ outs)
    (ap (λ y. spell a dropped y (turns a.policy x.id (marked told known) more))
    (denied_settles a.policy x.id m.name rule (ready x told known (m ∷ more)) is) ∙ rest x within)

turn_spelled : (a : Around) (dropped : List Release) (told known : List (List ℕ)) (m : Message)
    (more : List Message) → Turned a dropped told known more → Turned a dropped told known (m ∷ more)
turn_spelled a dropped told known m more rest x within =
    let c = mail a x told known in
    let o = judged (receive_rules a.policy x.id m.name) in
    ap (λ said. spell a dropped (ready x told known (m ∷ more))
    (judged_turn a.policy x.id (marked told known) m said (turns a.policy x.id (marked told known) more)))
    (receive_ruled a.policy x.id m.name)
    ∙ (turn_by a dropped told known m more x o within rest refl
    ∙ ap (λ said. handed_one c m said (handed_out c more))
    (sym (judged_append (receive_rules a.policy x.id m.name) (full_rule c m.name))))

turns_spelled : (a : Around) (dropped : List Release) (told known : List (List ℕ)) (waiting : List Message)
    → Turned a dropped told known waiting
turns_spelled a dropped told known [] x within = refl
turns_spelled a dropped told known (m ∷ more) x within =
    turn_spelled a dropped told known m more (turns_spelled a dropped told known more) x within

-- as messages may leave of what waits for a client that has no exchange open
pub handed_shown : (a : Around) (dropped : List Release) (x : Client) (told known : List (List ℕ))
    → x.ids ≡ marked told known → x.buffer.exchange ≡ None → x.number ≤ 65535
    → spell a dropped x (turns a.policy x.id x.ids x.buffer.waiting)
    ≡ handed_out (mail a x told known) x.buffer.waiting
handed_shown a dropped x told known ids none within =
    ap (λ marks. spell a dropped (let y : Client = record x { ids = marks } in y)
    (turns a.policy x.id marks x.buffer.waiting)) ids
    ∙ (ap (λ e. spell a dropped (let y : Client =
    record x { ids = marked told known; buffer = record { waiting = x.buffer.waiting; exchange = e } } in
    y) (turns a.policy x.id (marked told known) x.buffer.waiting)) none
    ∙ turns_spelled a dropped told known x.buffer.waiting x within)
