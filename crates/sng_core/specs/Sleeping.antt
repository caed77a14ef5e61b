-- What a PINGREQ and a DISCONNECT with Duration let out and lead to, with no notes (MQTT-SN 1.2, 6.11 and
-- 6.14).
use Rattle.std.specs.Prelude.{ℕ, Bool, true, false, ◌&&◌, List, [], ◌∷◌, ◌++◌, if◌then◌else◌, Option, Some}
use Rattle.std.specs.Prelude.{None}
use Rattle.std.specs.Str.{bytes_eq}
use Rattle.sng_grants.specs.declared.policy.Policy.{Policy}
use Rattle.sng_states.specs.States.{is_due_messages, is_asleep}
use Rattle.sng_states.specs.declared.state.ClientState.TheVariants.{Awake}
use Rattle.sng_book.specs.declared.outcome.Denial.TheVariants.{Form}
use Rattle.sng_book.specs.declared.outcome.FormDenial.TheVariants.{NoSession, OutOfTurn}
use Rattle.sng_book.specs.declared.out.Out.{Out}
use Rattle.sng_history.specs.Answers.{dismissed, pong}
use Rattle.sng_history.specs.Clients.{Client, drained}
use Rattle.sng_history.specs.Entering.{heard_at}
use Rattle.sng_history.specs.Verdicts.{is_active}
use Rattle.sng_sessions.specs.Handed.{handed_by}
use Rattle.sng_sessions.specs.Sleeping.{woken}
use Rattle.sng_core.specs.Forms.{broken_outs}
use Rattle.sng_turns.specs.Serving.{over_plan, serving_outs}

-- ---- a DISCONNECT with Duration

abbrev pub slept_outs : Client → List Out
slept_outs x = if is_due_messages x.phase then dismissed x.address ∷ [] else broken_outs (Form OutOfTurn) x

-- ---- a PINGREQ

-- one that wakes nobody
abbrev pub pinged : Bool → Client → List Out
pinged named x =
    if is_active x.phase then pong x.address ∷ []
    else (if named && is_due_messages x.phase then [] else broken_outs (Form OutOfTurn) x)

-- one that names its client wakes it where it sleeps
abbrev pub woken_outs : Policy → Client → List Out
woken_outs policy x = serving_outs policy Awake 0 0 x

abbrev pub woken_next : Policy → ℕ → Client → Client
woken_next policy clock x = drained (handed_by clock (over_plan policy 0 0 x) (woken clock x))

abbrev pub own_ping_outs : Policy → Client → List Out
own_ping_outs policy x = if is_asleep x.phase then woken_outs policy x else pinged true x

abbrev pub own_ping_next : Policy → ℕ → Client → Client
own_ping_next policy clock x = if is_asleep x.phase then woken_next policy clock x else heard_at clock x

-- one that names another client is dismissed
abbrev pub other_ping_outs : Client → List Out
other_ping_outs x = broken_outs (Form NoSession) x ++ dismissed x.address ∷ []

abbrev pub ping_outs : Policy → Option (List ℕ) → Client → List Out
ping_outs policy None x = pinged false x
ping_outs policy (Some id) x = if bytes_eq id x.id then own_ping_outs policy x else other_ping_outs x

abbrev pub ping_next : Policy → ℕ → Option (List ℕ) → Client → Client
ping_next policy clock None x = heard_at clock x
ping_next policy clock (Some id) x =
    if bytes_eq id x.id then own_ping_next policy clock x else heard_at clock x
