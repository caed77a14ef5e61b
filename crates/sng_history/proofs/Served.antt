-- A client that is served, heard or gone has nothing left that could be handed over; and one that has not is
-- at rest at the end of the row.
use Rattle.std.proofs.Common.{◌≡◌, ℕ, Bool, true, false, List, [], refl, ap, sym, ◌∙◌, subst}
use Rattle.std.specs.Prelude.{if◌then◌else◌, ◌&&◌, not, is_none, slice_get, None}
use Rattle.sng_states.specs.declared.state.ClientState.{ClientState}
use Rattle.sng_states.specs.declared.state.ClientState.TheVariants.{Dialogue, Active, Asleep, Awake}
use Rattle.sng_states.specs.declared.state.ClientState.TheVariants.{Disconnected, Lost}
use Rattle.sng_states.specs.States.{has_session, takes_messages, in_dialogue, is_awake}
use Rattle.sng_queue.specs.Messages.{Message}
use Rattle.sng_queue.specs.Buffers.{nothing}
use Rattle.sng_wills.specs.Wills.{is_closed}
use Rattle.sng_history.specs.Clients.{Around, Client, gone, notes_by, is_drained, drained}
use Rattle.sng_history.specs.Outgoing.{all_gone, is_free, handed_over}
use Rattle.sng_history.specs.Entering.{heard_at, served}
use Rattle.sng_history.specs.Good.{AtRest}
use Rattle.sng_history.proofs.Steady.{awake_settled}
use Rattle.sng_history.proofs.Hands.{served_steady, gone_stays}
use Rattle.sng_history.proofs.Turns.{served_done, nothing_open}
use Rattle.sng_history.proofs.Booleans.{left_holds, right_holds}

-- no exchange is open but with a client that takes messages
abbrev pub Quiet : Client → Type 0
Quiet x = (if takes_messages x.phase then None else x.buffer.exchange) ≡ None

-- all that holds of a client at rest, but that it may be awake with nothing left
pub record Rested (x : Client) : Type 0 where
  pub handed : (if is_free x then x.buffer.waiting else []) ≡ []
  pub quiet : Quiet x
  pub away : (if has_session x.phase then nothing else x.buffer) ≡ nothing
  pub dialogue : in_dialogue x.phase ≡ not (is_closed x.wills.stage)

pub rested : (x : Client) → AtRest x → Rested x
rested x rest =
    record { handed = rest.handed; quiet = rest.quiet; away = rest.away; dialogue = rest.dialogue }

-- ---- at the end of a row

slept_rest : (x : Client) (b : Bool) → is_drained x ≡ b → Rested x
    → AtRest (if b then record x { phase = Asleep } else x)
slept_rest x true is rest =
    let none = is_none (slice_get x.buffer.waiting 0) in
    let left : (none && is_none x.buffer.exchange) ≡ true =
    right_holds (is_awake x.phase) (none && is_none x.buffer.exchange) is in
    let up : is_awake x.phase ≡ true = left_holds (is_awake x.phase) (none && is_none x.buffer.exchange) is in
    record {
      handed = refl;
      quiet = nothing_open x.buffer.exchange (right_holds none (is_none x.buffer.exchange) left);
      busy = refl;
      away = refl;
      dialogue = sym (awake_settled x.phase up).talks ∙ rest.dialogue;
    }
slept_rest x false is rest =
    record { handed = rest.handed; quiet = rest.quiet; busy = is; away = rest.away; dialogue = rest.dialogue }

pub rest_drained : (x : Client) → Rested x → AtRest (drained x)
rest_drained x rest = slept_rest x (is_drained x) refl rest

-- ---- what leaves nothing to hand over

-- the client has a session, an exchange is open only where it takes messages, and a dialogue exactly in its
-- phase
pub record InSession (x : Client) : Type 0 where
  pub here : has_session x.phase ≡ true
  pub quiet : Quiet x
  pub dialogue : in_dialogue x.phase ≡ not (is_closed x.wills.stage)

pub takes_here : (phase : ClientState) → takes_messages phase ≡ true → has_session phase ≡ true
takes_here Active is = refl
takes_here Awake is = refl
takes_here Asleep is = absurd cc
takes_here Dialogue is = absurd cc
takes_here Disconnected is = absurd cc
takes_here Lost is = absurd cc

-- one that takes messages is
pub taking : (x : Client) → takes_messages x.phase ≡ true → AtRest x → InSession x
taking x takes rest = record { here = takes_here x.phase takes; quiet = rest.quiet; dialogue = rest.dialogue }

served_quiet : (a : Around) (x : Client) (takes : Bool) → takes_messages x.phase ≡ takes → Quiet x
    → Quiet (served a x)
served_quiet a x true is quiet =
    ap (λ p. if takes_messages p then None else (served a x).buffer.exchange) (served_steady a x).phase
    ∙ ap (λ b. if b then None else (served a x).buffer.exchange) is
served_quiet a x false is quiet =
    let none : handed_over a.policy x ≡ [] = rw is refl in
    subst (λ notes. Quiet (notes_by a notes x)) (sym none) quiet

pub rest_served : (a : Around) (x : Client) → InSession x → Rested (served a x)
rest_served a x in_session =
    let steady = served_steady a x in
    let here : has_session (served a x).phase ≡ true = ap has_session steady.phase ∙ in_session.here in
    record {
      handed = served_done a x;
      quiet = served_quiet a x (takes_messages x.phase) refl in_session.quiet;
      away = ap (λ b. if b then nothing else (served a x).buffer) here;
      dialogue =
          ap in_dialogue steady.phase ∙ (in_session.dialogue
          ∙ ap (λ w. not (is_closed w.stage)) (sym steady.wills));
    }

pub rest_heard : (clock : ℕ) (x : Client) → Rested x → Rested (heard_at clock x)
rest_heard clock x rest =
    record { handed = rest.handed; quiet = rest.quiet; away = rest.away; dialogue = rest.dialogue }

pub rest_gone : (a : Around) (id : List ℕ) (waiting : List Message) (x : Client)
    → Rested (notes_by a (all_gone id waiting) (gone x))
rest_gone a id waiting x =
    subst Rested (sym (gone_stays a id waiting (gone x) refl))
    (record { handed = refl; quiet = refl; away = refl; dialogue = refl })
