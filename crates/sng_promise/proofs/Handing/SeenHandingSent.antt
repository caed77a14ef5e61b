-- What the rows show of a message that leaves moves as the client does.
use Rattle.std.proofs.Common.{◌≡◌, ℕ, true, List, [], ◌∷◌, refl, ap, sym, subst}
use Rattle.std.specs.Prelude.{slice_get, Some, None}
use Rattle.sng_text.specs.declared.qos.Qos.TheVariants.{AtMostOnce, AtLeastOnce}
use Rattle.sng_states.specs.States.{takes_messages}
use Rattle.sng_queue.specs.declared.exchange.Exchange.TheVariants.{Acknowledging}
use Rattle.sng_queue.specs.Exchanges.{first_sending}
use Rattle.sng_queue.specs.Messages.{Message}
use Rattle.sng_book.specs.declared.decision.Decision.{Decision}
use Rattle.sng_book.specs.declared.decision.Decision.TheVariants as note
use Rattle.sng_book.specs.declared.outcome.Outcome.TheVariants.{Allowed}
use Rattle.sng_history.specs.Handing.{Known, known_as, number_after}
use Rattle.sng_history.specs.Clients.{Client, Around, handed, note_by}
use Rattle.sng_laws.specs.LawsTurns.{is_free_at}
use Rattle.sng_history.proofs.Own.{same_self}
use Rattle.sng_promise.proofs.Handing.SeenFollows.{next_is, View, Follows, idle_with}
use Rattle.sng_promise.proofs.Handing.SeenTurns.{sent_view}
use Rattle.sng_promise.proofs.Handing.SeenTurns.{sent_follows, left_view, left_follows}
use Rattle.sng_laws.specs.ViewsSendings.{Last, sent_first, topic_by}
use Rattle.sng_promise.proofs.Handing.SeenHandingNotes.{view_by, Shown, at, Step, Moved, moved_so, free_at}
use Rattle.sng_promise.proofs.Handing.SeenHandingNotes.{meant_at}
use Rattle.sng_promise.proofs.Handing.SeenHandingNotes.{topic_same}

-- the frame by which it leaves
abbrev first_last : Around → View → Message → Last
first_last a v m = sent_first a.clock (topic_by a.policy v.told m.name)

view_sent : (a : Around) (id : List ℕ) (due : List Message) (v : View) (m : Message)
    → slice_get due v.progress.settled ≡ Some m
    → m.qos ≡ AtLeastOnce
    → view_by a id due (note.Hand id m.name Allowed) v ≡ sent_view v m (first_last a v m)
view_sent a id due v m turn q = rw (same_self id, turn, q) refl

view_left : (a : Around) (id : List ℕ) (due : List Message) (v : View) (m : Message)
    → slice_get due v.progress.settled ≡ Some m
    → m.qos ≡ AtMostOnce
    → view_by a id due (note.Hand id m.name Allowed) v ≡ left_view v m (first_last a v m)
view_left a id due v m turn q = rw (same_self id, turn, q) refl

client_left : (a : Around) (x : Client) (m : Message) (more : List Message) (known : Known)
    → known_as a.policy x.ids m.name ≡ Some known
    → x.buffer ≡ idle_with (m ∷ more) → m.qos ≡ AtMostOnce
    → handed a m.name Allowed x ≡ record x { buffer = idle_with more }
client_left a x m more known knows is q = rw (is, knows, q) refl

-- it waits for its PUBACK
abbrev awaiting : Around → Client → Message → List Message → Known → Client
awaiting a x m more known = record x {
  number = number_after x.number;
  buffer =
      record {
        waiting = more;
        exchange =
            Some (Acknowledging (first_sending known.id (number_after x.number) a.clock) known.kind m);
      };
}

client_sent : (a : Around) (x : Client) (m : Message) (more : List Message) (known : Known)
    → known_as a.policy x.ids m.name ≡ Some known
    → x.buffer ≡ idle_with (m ∷ more) → m.qos ≡ AtLeastOnce
    → handed a m.name Allowed x ≡ awaiting a x m more known
client_sent a x m more known knows is q = rw (is, knows, q) refl

-- all that is said of the next message, whatever stands behind it
pub record Turn (a : Around) (id : List ℕ) (due : List Message) (m : Message) (more : List Message)
    (notes : List Decision) (v : View) (x : Client) : Type 0 where
  pub is : x.buffer ≡ idle_with (m ∷ more)
  pub shown : Shown due v x
  pub takes : takes_messages x.phase ≡ true
  pub rest : (w : View) (number : ℕ) → let y : Client =
      record x { number = number; buffer = idle_with more } in Shown due w y → Moved a id due notes w y

turn_of : (a : Around) (id : List ℕ) (due : List Message) (m : Message) (more : List Message)
    (notes : List Decision) (v : View)
    (x : Client)
    → Turn a id due m more notes v x
    → slice_get due v.progress.settled ≡ Some m
turn_of a id due m more notes v x t =
    let f : Follows due v x.ids x.number (idle_with (m ∷ more)) =
    subst (Follows due v x.ids x.number) t.is t.shown in
    (next_is due v.progress.settled m more f.settling.waits).turn

pub turn_free : (a : Around) (id : List ℕ) (due : List Message) (m : Message) (more : List Message)
    (notes : List Decision) (v : View)
    (x : Client)
    → Turn a id due m more notes v x
    → is_free_at (at v x) ≡ true
turn_free a id due m more notes v x t = free_at due v x t.takes (ap (λ b. b.exchange) t.is) t.shown

hand_step : (a : Around) (id : List ℕ) (due : List Message) (m : Message) (more : List Message)
    (notes : List Decision) (v : View)
    (x : Client) (known : Known)
    → known_as a.policy x.ids m.name ≡ Some known → Turn a id due m more notes v x
    → Step a id (note.Hand id m.name Allowed) v x
hand_step a id due m more notes v x known knows t =
    record {
      phase = λ m fits. refl;
      turn = λ own. (
        turn_free a id due m more notes v x t,
        (meant_at a v x m.name (Some known) t.shown.telling.marks knows).0,
      );
    }

pub left_moved : (a : Around) (id : List ℕ) (due : List Message) (m : Message) (more : List Message)
    (notes : List Decision) (v : View)
    (x : Client) (known : Known)
    → known_as a.policy x.ids m.name ≡ Some known → m.qos ≡ AtMostOnce → Turn a id due m more notes v x
    → Moved a id due (note.Hand id m.name Allowed ∷ notes) v x
left_moved a id due m more notes v x known knows q t = (
  hand_step a id due m more notes v x known knows t,
  moved_so a id due notes (view_by a id due (note.Hand id m.name Allowed) v)
      (left_view v m (first_last a v m))
      (note_by a (note.Hand id m.name Allowed) x) (record x { buffer = idle_with more })
      (view_left a id due v m (turn_of a id due m more notes v x t) q)
      (client_left a x m more known knows t.is q)
      (t.rest (left_view v m (first_last a v m)) x.number
      (left_follows due v x.ids x.number None m more (first_last a v m)
      (subst (Follows due v x.ids x.number) t.is t.shown))),
)

-- one at QoS 1 is the last that leaves
pub sent_moved : (a : Around) (id : List ℕ) (due : List Message) (m : Message) (more : List Message)
    (notes : List Decision) (v : View)
    (x : Client) (known : Known)
    → known_as a.policy x.ids m.name ≡ Some known → m.qos ≡ AtLeastOnce → Turn a id due m more notes v x
    → Moved a id due (note.Hand id m.name Allowed ∷ []) v x
sent_moved a id due m more notes v x known knows q t =
    let f : Follows due v x.ids x.number (idle_with (m ∷ more)) =
    subst (Follows due v x.ids x.number) t.is t.shown in (
      hand_step a id due m more notes v x known knows t,
      subst (λ w. Shown due w (handed a m.name Allowed x))
          (sym (view_sent a id due v m (turn_of a id due m more notes v x t) q))
          (subst (Shown due (sent_view v m (first_last a v m)))
          (sym (client_sent a x m more known knows t.is q))
          (subst (λ topic. Shown due (sent_view v m (sent_first a.clock topic)) (awaiting a x m more known))
          (sym (topic_same a v x m.name known t.shown.telling.marks knows))
          (sent_follows due v x.ids x.number None m more known.kind known.id a.clock f))),
    )
