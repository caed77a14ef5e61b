-- What a REGACK and a PUBACK of a client let out and lead to, with no notes.
use Rattle.std.specs.Prelude.{ℕ, ◌==◌, List, [], ◌∷◌, if◌then◌else◌}
use Rattle.sng_grants.specs.declared.policy.Policy.{Policy}
use Rattle.sng_queue.specs.Messages.{Message}
use Rattle.sng_frames.specs.declared.messages.acks.TopicAck.{TopicAck}
use Rattle.sng_book.specs.declared.decision.Decision.TheVariants as note
use Rattle.sng_book.specs.declared.outcome.Denial.TheVariants.{Form, Peer}
use Rattle.sng_book.specs.declared.outcome.FormDenial.TheVariants.{OutOfTurn}
use Rattle.sng_book.specs.declared.outcome.PeerDenial.TheVariants.{ClientRefused}
use Rattle.sng_book.specs.declared.outcome.Outcome.TheVariants.{Denied}
use Rattle.sng_book.specs.declared.out.Out.{Out}
use Rattle.sng_book.specs.declared.out.Out.TheVariants.{Note}
use Rattle.sng_history.specs.Clients.{Client, is_confirming, is_acknowledging, drained}
use Rattle.sng_history.specs.Entering.{heard_at}
use Rattle.sng_sessions.specs.Handed.{answered, handed_by}
use Rattle.sng_turns.specs.Serving.{over_plan, serving_outs}
use Rattle.sng_core.specs.Forms.{broken_outs}

-- a client is served, once it has confirmed the id (0 is none), from this message on
abbrev pub served_outs : Policy → ℕ → ℕ → Client → List Out
served_outs policy more first x = serving_outs policy x.phase more first x

abbrev pub served_next : Policy → ℕ → ℕ → ℕ → Client → Client
served_next policy clock more first x =
    drained (handed_by clock (over_plan policy more first x) (answered clock more x))

-- the message for which an id was announced comes out so, and what waits behind it is handed over
abbrev pub refusing_outs : Policy → ℕ → Client → List Message → List Out
refusing_outs policy code x [] = []
refusing_outs policy code x (m ∷ waiting) =
    Note (note.Hand x.id m.name (Denied (Peer (ClientRefused code)))) ∷ served_outs policy 0 1 x

abbrev pub refusing_next : Policy → ℕ → Client → List Message → Client
refusing_next policy clock x [] = heard_at clock x
refusing_next policy clock x (m ∷ waiting) = served_next policy clock 0 1 x

-- a REGACK with its turn
abbrev pub confirming_outs : Policy → TopicAck → Client → List Out
confirming_outs policy r x =
    if r.code.0 == 0 then served_outs policy r.topic_id 0 x
    else refusing_outs policy r.code.0 x x.buffer.waiting

abbrev pub confirming_next : Policy → ℕ → TopicAck → Client → Client
confirming_next policy clock r x =
    if r.code.0 == 0 then served_next policy clock r.topic_id 0 x
    else refusing_next policy clock x x.buffer.waiting

abbrev pub confirm_outs : Policy → TopicAck → Client → List Out
confirm_outs policy r x =
    if is_confirming r x then confirming_outs policy r x else broken_outs (Form OutOfTurn) x

abbrev pub confirm_next : Policy → ℕ → TopicAck → Client → Client
confirm_next policy clock r x =
    if is_confirming r x then confirming_next policy clock r x else heard_at clock x

-- a PUBACK
abbrev pub acknowledge_outs : Policy → TopicAck → Client → List Out
acknowledge_outs policy r x =
    if is_acknowledging r x then served_outs policy 0 0 x else broken_outs (Form OutOfTurn) x

abbrev pub acknowledge_next : Policy → ℕ → TopicAck → Client → Client
acknowledge_next policy clock r x =
    if is_acknowledging r x then served_next policy clock 0 0 x else heard_at clock x
