-- What a take while up lets out for the broker: what waits, each with its note and its own packet.
use Rattle.std.proofs.Common.{◌≡◌, ℕ, Bool, true, false, List, [], ◌∷◌, ◌++◌, refl, sym}
use Rattle.std.proofs.Common.{subst, ◌∙◌, if◌then◌else◌}
use Rattle.std.specs.Prelude.{Some, Option, is_some}
use Rattle.sng_grants.specs.declared.policy.Policy.{Policy}
use Rattle.sng_outbox.specs.Sending.{is_at_least_once}
use Rattle.sng_outbox.specs.declared.item.Item.{Item}
use Rattle.sng_outbox.specs.declared.item.Item.TheVariants as item
use Rattle.sng_outbox.specs.declared.item.Publication.{Publication}
use Rattle.sng_book.specs.declared.outcome.Outcome.{Outcome}
use Rattle.sng_book.specs.declared.outcome.Outcome.TheVariants.{Allowed, Denied}
use Rattle.sng_book.specs.declared.out.Out.{Out}
use Rattle.sng_book.specs.declared.out.Out.TheVariants.{Send, Wire, Note}
use Rattle.sng_history.specs.Verdicts.{exit}
use Rattle.sng_text.specs.declared.qos.Qos.{Qos}
use Rattle.sng_text.specs.declared.qos.Qos.TheVariants.{AtMostOnce, AtLeastOnce}
use Rattle.sng_history.specs.Links.{Link, wants, may_open, next_packet_id, packet_id_by, exited, subscribe_sent}
use Rattle.sng_history.specs.Links.{subscribe_left, unsubscribe_left}
use Rattle.sng_history.specs.Exits.{packet_of, exits_of, forwarded, subscribe_packet, unsubscribe_packet}
use Rattle.sng_history.specs.Exits.{subscribe_leaves}
use Rattle.sng_history.specs.Exits.{unsubscribe_leaves, subscribing, leaving}
use Rattle.sng_history.specs.Exits.{subscribe_out}
use Rattle.sng_laws.specs.ViewsLink.{publications, departures}
use Rattle.sng_laws.specs.ViewsLink.{sends_in}
use Rattle.sng_laws.specs.LawsRules.{judged, publish_rules}
use Rattle.sng_laws.specs.LawsLink.{Carries, AllDepart}
use Rattle.sng_laws.specs.LawsReached.{is_publish_packet}
use Rattle.sng_laws.specs.LawsReached.{Announced}
use Rattle.sng_promise.proofs.Answers.LawRules.{exit_ruled}

-- ---- packets without notes

abbrev pub Wires : List Out → Type 0
Wires [] = Unit {0}
Wires (Wire sent ∷ outs) = (is_publish_packet sent ≡ false) × Wires outs
Wires (Send to datagram ∷ outs) = ⊥
Wires (Note said ∷ outs) = ⊥

subscribe_if : (b : Bool) (packet_id : ℕ) (text : List ℕ)
    → Wires (if b then subscribe_packet packet_id text ∷ [] else [])
subscribe_if true packet_id text = (refl, tt)
subscribe_if false packet_id text = tt

unsubscribe_if : (b : Bool) (packet_id : ℕ) (text : List ℕ)
    → Wires (if b then [] else unsubscribe_packet packet_id text ∷ [])
unsubscribe_if true packet_id text = tt
unsubscribe_if false packet_id text = (refl, tt)

wires_both : (xs ys : List Out) → Wires xs → Wires ys → Wires (xs ++ ys)
wires_both [] ys one two = two
wires_both (Wire sent ∷ xs) ys one two = (one.0, wires_both xs ys one.1 two)
wires_both (Send to datagram ∷ xs) ys one two = absurd one
wires_both (Note said ∷ xs) ys one two = absurd one

pub out_wires : (link : Link) (text : List ℕ) → Wires (subscribe_out link text)
out_wires link text = subscribe_if (may_open link.wanted text) (next_packet_id link) text

pub subscribe_wires : (link : Link) (text : List ℕ) → Wires (subscribe_leaves link text)
subscribe_wires link text = leaves_if (wants link.wanted text)
  where
    leaves_if : (b : Bool) → Wires (if b then subscribe_out link text else [])
    leaves_if true = out_wires link text
    leaves_if false = tt

pub unsubscribe_wires : (link : Link) (text : List ℕ) → Wires (unsubscribe_leaves link text)
unsubscribe_wires link text = unsubscribe_if (wants link.wanted text) (next_packet_id link) text

pub subscribing_wires : (link : Link) (texts : List (List ℕ)) → Wires (subscribing link texts)
subscribing_wires link [] = tt
subscribing_wires link (text ∷ texts) =
    wires_both (subscribe_out link text) (subscribing (subscribe_sent link text) texts) (out_wires link text)
    (subscribing_wires (subscribe_sent link text) texts)

pub wires_depart : (xs ys : List Out) → Wires xs → departures (xs ++ ys) ≡ departures ys
wires_depart [] ys are = refl
wires_depart (Wire sent ∷ xs) ys are = wires_depart xs ys are.1
wires_depart (Send to datagram ∷ xs) ys are = absurd are
wires_depart (Note said ∷ xs) ys are = absurd are

pub wires_unsent : (xs ys : List Out) → Wires xs → sends_in (xs ++ ys) ≡ sends_in ys
wires_unsent [] ys are = refl
wires_unsent (Wire sent ∷ xs) ys are = wires_unsent xs ys are.1
wires_unsent (Send to datagram ∷ xs) ys are = absurd are
wires_unsent (Note said ∷ xs) ys are = absurd are

pub wires_gone : (xs : List Out) → Wires xs → departures xs ≡ []
wires_gone [] are = refl
wires_gone (Wire sent ∷ xs) are = wires_gone xs are.1
wires_gone (Send to datagram ∷ xs) are = absurd are
wires_gone (Note said ∷ xs) are = absurd are

pub wires_kept : (xs : List Out) → Wires xs → sends_in xs ≡ []
wires_kept [] are = refl
wires_kept (Wire sent ∷ xs) are = wires_kept xs are.1
wires_kept (Send to datagram ∷ xs) are = absurd are
wires_kept (Note said ∷ xs) are = absurd are

no_publish : (sent : List ℕ) (lets : Bool) → is_publish_packet sent ≡ false → is_publish_packet sent ≡ true
    → lets ≡ true
no_publish sent lets never is = absurd (let e : false ≡ true = sym never ∙ is in cc)

pub wires_announced : (xs ys : List Out) (lets : Bool) → Wires xs → ((b : Bool) → Announced b ys)
    → Announced lets (xs ++ ys)
wires_announced [] ys lets are rest = rest lets
wires_announced (Wire sent ∷ xs) ys lets are rest =
    (no_publish sent lets are.0, wires_announced xs ys false are.1 rest)
wires_announced (Send to datagram ∷ xs) ys lets are rest = absurd are
wires_announced (Note said ∷ xs) ys lets are rest = absurd are

pub wires_alone : (xs : List Out) (lets : Bool) → Wires xs → Announced lets xs
wires_alone [] lets are = tt
wires_alone (Wire sent ∷ xs) lets are = (no_publish sent lets are.0, wires_alone xs false are.1)
wires_alone (Send to datagram ∷ xs) lets are = absurd are
wires_alone (Note said ∷ xs) lets are = absurd are

-- ---- a take

-- its packet is its own, with a packet id just at QoS 1
numbered_by : (link : Link) (q : Qos) → is_some (packet_id_by link q) ≡ is_at_least_once q
numbered_by link AtMostOnce = refl
numbered_by link AtLeastOnce = refl

own_packet : (link : Link) (p : Publication) → Carries p (Some (packet_of p (packet_id_by link p.qos)))
own_packet link p =
    record { packet_id = packet_id_by link p.qos; own = refl; numbered = numbered_by link p.qos }

departs_first : (policy : Policy) (link : Link) (p : Publication) (ps : List Publication) (outs : List Out)
    (o : Outcome)
    → o ≡ judged (publish_rules policy p.origin p.name)
    → AllDepart policy ps (departures outs)
    → AllDepart policy (p ∷ ps) (departures (forwarded p (packet_id_by link p.qos) o ++ outs))
departs_first policy link p ps outs Allowed is rest =
    (record { whom = refl; name = refl; judgement = is; packet = λ allowed. own_packet link p }, rest)
departs_first policy link p ps outs (Denied rule) is rest = (
  record {
    whom = refl;
    name = refl;
    judgement = is;
    packet = λ allowed. absurd (let f : false ≡ true = allowed in cc);
  },
  rest,
)

pub all_depart : (policy : Policy) (link : Link) (items : List Item)
    → AllDepart policy (publications items) (departures (leaving link items (exits_of policy items)))
all_depart policy link [] = tt
all_depart policy link (item.Publish p ∷ items) =
    let o = exit policy p.origin p.name in
    departs_first policy link p (publications items)
    (leaving (exited link p o) items (exits_of policy items)) o
    (exit_ruled policy p.origin p.name) (all_depart policy (exited link p o) items)
all_depart policy link (item.Subscribe text ∷ items) =
    let next = subscribe_left link text in
    subst (AllDepart policy (publications items))
    (sym (wires_depart (subscribe_leaves link text) (leaving next items (exits_of policy items))
    (subscribe_wires link text)))
    (all_depart policy next items)
all_depart policy link (item.Unsubscribe text ∷ items) =
    let next = unsubscribe_left link text in
    subst (AllDepart policy (publications items))
    (sym (wires_depart (unsubscribe_leaves link text) (leaving next items (exits_of policy items))
    (unsubscribe_wires link text)))
    (all_depart policy next items)
all_depart policy link (item.Acknowledge packet_id ∷ items) = all_depart policy link items
all_depart policy link (item.Ping ∷ items) = all_depart policy link items

announced_first : (p : Publication) (packet_id : Option ℕ) (o : Outcome) (outs : List Out)
    → ((lets : Bool) → Announced lets outs)
    → (lets : Bool) → Announced lets (forwarded p packet_id o ++ outs)
announced_first p packet_id Allowed outs rest lets = ((λ is. refl), rest false)
announced_first p packet_id (Denied rule) outs rest lets = rest false

pub all_announced : (policy : Policy) (link : Link) (items : List Item) (lets : Bool)
    → Announced lets (leaving link items (exits_of policy items))
all_announced policy link [] lets = tt
all_announced policy link (item.Publish p ∷ items) lets =
    let o = exit policy p.origin p.name in
    announced_first p (packet_id_by link p.qos) o (leaving (exited link p o) items (exits_of policy items))
    (λ b. all_announced policy (exited link p o) items b) lets
all_announced policy link (item.Subscribe text ∷ items) lets =
    let next = subscribe_left link text in
    wires_announced (subscribe_leaves link text) (leaving next items (exits_of policy items)) lets
    (subscribe_wires link text)
    (λ b. all_announced policy next items b)
all_announced policy link (item.Unsubscribe text ∷ items) lets =
    let next = unsubscribe_left link text in
    wires_announced (unsubscribe_leaves link text) (leaving next items (exits_of policy items)) lets
    (unsubscribe_wires link text)
    (λ b. all_announced policy next items b)
all_announced policy link (item.Acknowledge packet_id ∷ items) lets =
    ((λ is. absurd (let e = is in cc)), all_announced policy link items false)
all_announced policy link (item.Ping ∷ items) lets =
    ((λ is. absurd (let e = is in cc)), all_announced policy link items false)
