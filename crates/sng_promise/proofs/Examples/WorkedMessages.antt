-- The worked rows of messages of the broker are lawful, or not, by computation.
use Rattle.std.proofs.Common.{◌≡◌, ℕ, true, false, List, [], ◌∷◌, map, refl, ap, ◌∙◌, subst, rules}
use Rattle.std.specs.Prelude.{None}
use Rattle.std.specs.Str.{is_utf8, IsAscii}
use Rattle.std.proofs.lemmas.Str.{is_utf8-from_IsUtf8, IsUtf8-from_ascii}
use Rattle.sng_text.specs.declared.qos.Qos.TheVariants.{AtMostOnce, AtLeastOnce}
use Rattle.sng_ids.specs.Ids.{Ids}
use Rattle.sng_fan.specs.declared.held.Held.{Held}
use Rattle.sng_queue.specs.Messages.{message}
use Rattle.sng_outbox.specs.declared.item.Item.TheVariants as item
use Rattle.sng_book.specs.declared.event.Event.TheVariants.{Datagram, Broker, Replace}
use Rattle.sng_book.specs.declared.outcome.Denial.TheVariants.{Grant}
use Rattle.sng_book.specs.declared.outcome.GrantDenial.TheVariants.{MissingSub}
use Rattle.sng_book.specs.declared.outcome.Outcome.TheVariants.{Allowed, Denied}
use Rattle.sng_history.specs.Clients.{Client, announced}
use Rattle.sng_history.specs.Links.{Wanted}
use Rattle.sng_history.specs.State.{State, opening, state_of}
use Rattle.sng_history.specs.Lawful.{LawfulRow, Lawful}
use Rattle.sng_promise.specs.ExamplesClients.{one_listed, both_listed, home, ab, under_a, s1_home, stands_ab}
use Rattle.sng_promise.specs.ExamplesClients.{subscribe_under_a, subscribed_under_a, subscribes_under_a}
use Rattle.sng_promise.specs.ExamplesClients.{message_ab, announces_ab, announcement_ab, accept_ab, hands_ab}
use Rattle.sng_promise.specs.ExamplesClients.{handed_ab, stands_under_a, announced_ab, handed_over_ab}
use Rattle.sng_promise.specs.ExamplesClients.{ends_under_a, ungranted_ab, denied_ab, stands_twice, once_ab}
use Rattle.sng_promise.specs.ExamplesClients.{announced_ungranted, holds_both}
use Rattle.sng_promise.proofs.Examples.WorkedClients.{home_one}
use Rattle.sng_promise.proofs.Examples.WorkedAsks.{inside, inside_is, then, came}
use Rattle.sng_promise.proofs.Examples.WorkedSubscriptions.{ab_utf8, stands, holding_is}

under_ascii : IsAscii (97 ∷ 47 ∷ 35 ∷ [])
under_ascii = search rules

under_utf8 : is_utf8 (97 ∷ 47 ∷ 35 ∷ []) ≡ true
under_utf8 = is_utf8-from_IsUtf8 (97 ∷ 47 ∷ 35 ∷ []) (IsUtf8-from_ascii (97 ∷ 47 ∷ 35 ∷ []) under_ascii)

-- ---- the states, one after the other

-- `s1` is at home; it was told these ids, and these filters stand for it, of which the broker is to be told
abbrev wanted_for : List ℕ → Wanted
wanted_for text = record { filter = text; open_id = None; owed = false }

abbrev held_for : List ℕ → Held
held_for text = record { filter = text; qos = AtLeastOnce }

abbrev holding_these : Ids → List (List ℕ) → Client → Client
holding_these ids texts x = record x { ids = ids; filters = map held_for texts }

abbrev standing : Ids → List (List ℕ) → State
standing ids texts = record inside {
  link = record inside.link { waiting = map item.Subscribe texts; wanted = map wanted_for texts };
  clients = map (holding_these ids texts) inside.clients;
}

abbrev pub under_in : State
under_in = standing [] (under_a ∷ [])

pub under_is : state_of opening stands_under_a ≡ under_in
under_is =
    ap (λ s. then s (Datagram home subscribe_under_a) (subscribes_under_a Allowed ∷ subscribed_under_a ∷ []))
    inside_is ∙ rw under_utf8 refl

abbrev pub ab_in : State
ab_in = standing ((ab, true) ∷ []) (ab ∷ [])

pub ab_is : state_of opening stands_ab ≡ ab_in
ab_is = holding_is ∙ rw ab_utf8 refl

abbrev both_in : State
both_in = standing ((ab, true) ∷ []) (ab ∷ under_a ∷ [])

both_is : holds_both ≡ both_in
both_is =
    ap (λ s. then s (Datagram home subscribe_under_a) (subscribes_under_a Allowed ∷ subscribed_under_a ∷ []))
    ab_is ∙ rw under_utf8 refl

-- the message waits, and an id is announced for it
abbrev waiting_for : Client → Client
waiting_for x =
    record x { buffer = record x.buffer { waiting = message ab (0x31 ∷ []) AtMostOnce false ∷ [] } }

abbrev announced_in : State
announced_in = record under_in { clients = map (λ x. announced 0 ab (waiting_for x)) under_in.clients }

announced_is : state_of opening announced_ab ≡ announced_in
announced_is =
    ap (λ s. then s (Broker message_ab) (announces_ab ∷ announcement_ab ∷ [])) under_is ∙ rw ab_utf8 refl

abbrev ungranted_in : State
ungranted_in = then announced_in (Replace both_listed) (ends_under_a ∷ [])

ungranted_is : announced_ungranted ≡ ungranted_in
ungranted_is = ap (λ s. then s (Replace both_listed) (ends_under_a ∷ [])) announced_is

-- ---- announced, accepted, and handed over

pub stands_under : Lawful opening stands_under_a
stands_under = (
  home_one,
  came (s1_home one_listed) inside (Datagram home subscribe_under_a)
      (subscribes_under_a Allowed ∷ subscribed_under_a ∷ []) inside_is
      (record {
        whole = rw under_utf8 refl;
        exits = refl;
        clients = (record { fixed = rw (under_utf8, under_utf8) refl }, tt);
      }),
)

announced_first : Lawful opening announced_ab
announced_first = (
  stands_under,
  came stands_under_a under_in (Broker message_ab) (announces_ab ∷ announcement_ab ∷ []) under_is
      (record { whole = rw ab_utf8 refl; exits = refl; clients = (record { fixed = rw ab_utf8 refl }, tt) }),
)

pub handed : Lawful opening handed_over_ab
handed = (
  announced_first,
  came announced_ab announced_in (Datagram home accept_ab) (hands_ab Allowed ∷ handed_ab ∷ []) announced_is
      (record { whole = refl; exits = refl; clients = (record { fixed = refl }, tt) }),
)

-- ---- the policy is replaced before the REGACK

ungranted : Lawful opening ungranted_ab
ungranted = (
  announced_first,
  came announced_ab announced_in (Replace both_listed) (ends_under_a ∷ []) announced_is
      (record { whole = refl; exits = refl; clients = (record { fixed = refl }, tt) }),
)

pub denied : Lawful opening denied_ab
denied = (
  ungranted,
  came ungranted_ab ungranted_in (Datagram home accept_ab)
      (hands_ab (Denied (Grant (MissingSub ab))) ∷ []) ungranted_is
      (record { whole = refl; exits = refl; clients = (record { fixed = refl }, tt) }),
)

-- ---- two filters match

stand_both : Lawful opening stands_twice
stand_both = (
  stands,
  came stands_ab ab_in (Datagram home subscribe_under_a)
      (subscribes_under_a Allowed ∷ subscribed_under_a ∷ []) ab_is
      (record {
        whole = rw under_utf8 refl;
        exits = refl;
        clients = (record { fixed = rw (under_utf8, under_utf8) refl }, tt);
      }),
)

pub once : Lawful opening once_ab
once = (
  stand_both,
  came stands_twice both_in (Broker message_ab) (hands_ab Allowed ∷ handed_ab ∷ []) both_is
      (record { whole = rw ab_utf8 refl; exits = refl; clients = (record { fixed = rw ab_utf8 refl }, tt) }),
)

-- ---- rows that may not come

-- the front is handed over though the policy in force denies it
pub not_unjudged : LawfulRow announced_ungranted (Datagram home accept_ab) (hands_ab Allowed ∷ handed_ab ∷ [])
    → ⊥
not_unjudged l =
    let at : LawfulRow ungranted_in (Datagram home accept_ab) (hands_ab Allowed ∷ handed_ab ∷ []) =
    subst (λ s. LawfulRow s (Datagram home accept_ab) (hands_ab Allowed ∷ handed_ab ∷ [])) ungranted_is
    l in
    let e = at.clients.0.fixed in cc

-- a message is handed over once for each filter that matches
pub not_twice : LawfulRow holds_both (Broker message_ab)
    (hands_ab Allowed ∷ handed_ab ∷ hands_ab Allowed ∷ handed_ab ∷ []) → ⊥
not_twice l =
    let at : LawfulRow both_in (Broker message_ab)
    (hands_ab Allowed ∷ handed_ab ∷ hands_ab Allowed ∷ handed_ab ∷ []) =
    subst (λ s. LawfulRow s (Broker message_ab)
    (hands_ab Allowed ∷ handed_ab ∷ hands_ab Allowed ∷ handed_ab ∷ [])) both_is l in
    let e = rw ab_utf8 at at.clients.0.fixed in cc
