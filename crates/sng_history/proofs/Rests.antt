-- After a step each client is at rest.
use Rattle.std.proofs.Common.{◌≡◌, ℕ, Bool, true, false, List, [], ◌∷◌, ◌++◌, map, refl, sym, subst}
use Rattle.std.specs.Prelude.{if◌then◌else◌, ◌&&◌, not}
use Rattle.std.specs.Str.{bytes_eq}
use Rattle.sng_frames.specs.declared.messages.connect.Connect.{Connect}
use Rattle.sng_book.specs.Denials.{is_allowed}
use Rattle.sng_book.specs.declared.address.Address.{Address}
use Rattle.sng_book.specs.declared.decision.Decision.TheVariants as note
use Rattle.sng_book.specs.declared.decision.Who.TheVariants as who
use Rattle.sng_book.specs.declared.outcome.Denial.{Denial}
use Rattle.sng_book.specs.declared.outcome.Outcome.{Outcome}
use Rattle.sng_book.specs.declared.outcome.Outcome.TheVariants.{Allowed, Denied}
use Rattle.sng_history.specs.Causes.{Cause}
use Rattle.sng_history.specs.Causes.{ByConnect, ByMessage, BySource, ByBroken, ByPacket, ByUp, ByDown, ByTake}
use Rattle.sng_history.specs.Causes.{ByReplace, ByTick}
use Rattle.sng_history.specs.Packets.{answer_of, refused_filter}
use Rattle.sng_history.specs.Clients.{Client, blank, is_here}
use Rattle.sng_history.specs.Clients.{message_due, cleaned, opened, let_in, start_by}
use Rattle.sng_history.specs.Clients.{notes_by}
use Rattle.sng_history.specs.State.{State, around, is_known}
use Rattle.sng_history.specs.Verdicts.{entry}
use Rattle.sng_history.specs.Lawful.{fixed_for, ends_under}
use Rattle.sng_history.specs.Steps.{newcomers_for, client_next}
use Rattle.sng_history.specs.Entering.{heard_at, left_at, served}
use Rattle.sng_history.specs.Good.{Each, AtRest}
use Rattle.sng_history.proofs.Own.{each_map, each_append, each_mapped}
use Rattle.sng_history.proofs.Served.{Rested, rested, rest_drained, InSession, rest_served}
use Rattle.sng_history.proofs.TickRests.{rest_tick}
use Rattle.sng_history.proofs.Entries.{own_undrained, own_next, other_next, hearing_next}
use Rattle.sng_history.proofs.MessageRests.{notes_rest, restful_ends, rest_message}
use Rattle.sng_history.proofs.PacketRests.{none_due, rest_packet}

-- ---- a CONNECT

in_opened : (will clean : Bool) (x : Client) → InSession (opened will (cleaned clean x))
in_opened true true x = record { here = refl; quiet = refl; dialogue = refl }
in_opened true false x = record { here = refl; quiet = refl; dialogue = refl }
in_opened false true x = record { here = refl; quiet = refl; dialogue = refl }
in_opened false false x = record { here = refl; quiet = refl; dialogue = refl }

in_entered : (clock : ℕ) (from : Address) (connect : Connect) (x : Client)
    → InSession (let_in clock from connect x)
in_entered clock from connect x =
    in_opened connect.flags.will connect.flags.clean
    (record x { address = from; ids = []; duration = connect.duration; heard = clock })

at_rest_if : (b : Bool) (x y : Client) → AtRest x → AtRest y → AtRest (if b then x else y)
at_rest_if true x y one two = one
at_rest_if false x y one two = two

rest_entering : (s : State) (from : Address) (connect : Connect) (x : Client) (same : Bool)
    → entry s connect ≡ Allowed → bytes_eq connect.client_id x.id ≡ same → AtRest x
    → AtRest (client_next s (ByConnect from connect) x)
rest_entering s from connect x true may is rest =
    let a = around s (ByConnect from connect) in
    let y = let_in s.clock from connect x in
    subst AtRest (sym (own_next s from connect x may is))
    (subst AtRest (own_undrained a from connect x)
    (rest_drained (served a y) (rest_served a y (in_entered s.clock from connect x))))
rest_entering s from connect x false may is rest =
    subst AtRest (sym (other_next s from connect x rest.busy may is))
    (at_rest_if (is_here x from) (left_at s.clock x) x
    (record { handed = refl; quiet = refl; busy = refl; away = refl; dialogue = refl }) rest)

rest_connect : (s : State) (from : Address) (connect : Connect) (x : Client) (o : Outcome)
    → entry s connect ≡ o → AtRest x → AtRest (client_next s (ByConnect from connect) x)
rest_connect s from connect x Allowed may rest =
    rest_entering s from connect x (bytes_eq connect.client_id x.id) may refl rest
rest_connect s from connect x (Denied rule) may rest =
    let heard : AtRest (heard_at s.clock x) =
    record {
      handed = rest.handed;
      quiet = rest.quiet;
      busy = rest.busy;
      away = rest.away;
      dialogue = rest.dialogue;
    } in
    subst AtRest (sym (hearing_next s from connect rule x rest.busy may))
    (at_rest_if (is_here x from) (heard_at s.clock x) x heard rest)

-- ---- each cause

-- who has nothing left after its notes is at rest
rest_notes : (s : State) (c : Cause) (x : Client)
    → Rested (notes_by (around s c) (fixed_for s c x) (start_by (around s c) x))
    → AtRest (client_next s c x)
rest_notes s c x rest = let a = around s c in rest_drained (notes_by a (fixed_for s c x) (start_by a x)) rest

rest_broken : (s : State) (from : Address) (rule : Denial) (x : Client) (here : Bool) → AtRest x
    → (let a = around s (ByBroken from rule) in
    Rested (notes_by a (if here then note.Frame (who.Client x.id) (Denied rule) ∷ [] else []) x))
rest_broken s from rule x true rest = rested x rest
rest_broken s from rule x false rest = rested x rest

rest_client : (s : State) (c : Cause) (x : Client) → AtRest x → AtRest (client_next s c x)
rest_client s (ByConnect from connect) x rest = rest_connect s from connect x (entry s connect) refl rest
rest_client s (ByMessage from request) x rest = rest_message s from request x (is_here x from) refl rest
rest_client s (BySource from p) x rest = rest_notes s (BySource from p) x (rested x rest)
rest_client s (ByBroken from rule) x rest =
    rest_notes s (ByBroken from rule) x (rest_broken s from rule x (is_here x from) rest)
rest_client s (ByPacket p) x rest =
    let due = message_due (answer_of p) x in
    rest_notes s (ByPacket p) x
    (rest_packet (around s (ByPacket p)) x due (refused_filter s.link (answer_of p))
    (none_due (answer_of p) x) (rested x rest))
rest_client s ByUp x rest = rest_notes s ByUp x (rested x rest)
rest_client s ByDown x rest = rest_notes s ByDown x (rested x rest)
rest_client s ByTake x rest = rest_notes s ByTake x (rested x rest)
rest_client s (ByReplace policy) x rest =
    let a = around s (ByReplace policy) in
    rest_notes s (ByReplace policy) x
    (notes_rest a (ends_under policy x.id x.filters) x (restful_ends a policy x.id x.filters) (rested x rest))
rest_client s (ByTick clock) x rest = rest_tick s clock x rest

blank_rest : (b : Bool) (id : List ℕ) → Each AtRest (if b then blank id ∷ [] else [])
blank_rest true id = (record { handed = refl; quiet = refl; busy = refl; away = refl; dialogue = refl }, tt)
blank_rest false id = tt

newcomers_rest : (s : State) (c : Cause) → Each AtRest (newcomers_for s c)
newcomers_rest s (ByConnect from connect) =
    blank_rest (is_allowed (entry s connect) && not (is_known connect.client_id s.clients)) connect.client_id
newcomers_rest s (ByMessage from request) = tt
newcomers_rest s (BySource from p) = tt
newcomers_rest s (ByBroken from rule) = tt
newcomers_rest s (ByPacket p) = tt
newcomers_rest s ByUp = tt
newcomers_rest s ByDown = tt
newcomers_rest s ByTake = tt
newcomers_rest s (ByReplace policy) = tt
newcomers_rest s (ByTick clock) = tt

pub rest_next : (s : State) (c : Cause) → Each AtRest s.clients
    → Each AtRest (map (client_next s c) (s.clients ++ newcomers_for s c))
rest_next s c rest =
    each_mapped AtRest (client_next s c) (s.clients ++ newcomers_for s c)
    (each_map AtRest (λ x. AtRest (client_next s c x)) (s.clients ++ newcomers_for s c)
    (λ x at. rest_client s c x at)
    (each_append AtRest s.clients (newcomers_for s c) rest (newcomers_rest s c)))
