-- A step on a datagram that comes from where the client is not, and is no CONNECT of it.
use Rattle.std.proofs.Common.{◌≡◌, ℕ, Bool, true, false, List, [], ◌∷◌, ◌++◌, refl, ap, sym, ◌∙◌, subst}
use Rattle.std.proofs.Common.{if◌then◌else◌}
use Rattle.std.specs.Prelude.{◌&&◌, not, Option, Some, None, Ok, Err}
use Rattle.std.specs.declared.result.Result.{Result}
use Rattle.std.specs.Option.{option_map}
use Rattle.std.specs.Str.{bytes_eq}
use Rattle.sng_frames.specs.declared.fault.FrameFault.{FrameFault}
use Rattle.sng_frames.specs.declared.qos.FrameQos.{FrameQos}
use Rattle.sng_frames.specs.declared.qos.FrameQos.TheVariants as qos
use Rattle.sng_frames.specs.declared.messages.publish.Publish.{Publish}
use Rattle.sng_frames.specs.declared.frame.SnFrame.{SnFrame}
use Rattle.sng_frames.specs.declared.frame.SnFrame.TheVariants as frame
use Rattle.sng_book.specs.Denials.{is_allowed}
use Rattle.sng_book.specs.declared.address.Address.{Address}
use Rattle.sng_book.specs.Traces.{is_own}
use Rattle.sng_history.specs.Causes.{Cause, datagram_cause, publish_cause, disconnect_cause}
use Rattle.sng_history.specs.Causes.{ByConnect, ByMessage, BySource, ByBroken, ByPacket, ByUp, ByDown, ByTake}
use Rattle.sng_history.specs.Causes.{ByReplace, ByTick}
use Rattle.sng_history.specs.Clients.{Client, blank, is_here}
use Rattle.sng_history.specs.State.{State, around, is_known}
use Rattle.sng_history.specs.Verdicts.{entry}
use Rattle.sng_history.specs.Lawful.{fixed_for}
use Rattle.sng_history.specs.Steps.{outs_by, newcomers_for, client_next, clients_next}
use Rattle.sng_history.specs.Good.{Each, AtRest}
use Rattle.sng_history.proofs.Own.{each_with, same_means, flip}
use Rattle.sng_history.proofs.Kept.{client_id}
use Rattle.sng_isolation.specs.Own.{names}
use Rattle.sng_isolation.specs.Isolation.{kept_of}
use Rattle.sng_isolation.proofs.Silent.{Silent}
use Rattle.sng_isolation.proofs.Still.{Unconcerned, next_none, message_unconcerned, broken_unconcerned}
use Rattle.sng_isolation.proofs.Still.{connect_unconcerned}
use Rattle.sng_isolation.proofs.Foreign.{Elsewhere, message_silent, broken_silent, source_silent}
use Rattle.sng_isolation.proofs.ForeignConnect.{Off, connect_silent}
use Rattle.sng_isolation.proofs.KeptOf.{kept_map, kept_left, kept_still}

-- the cause is that of a datagram from the address
abbrev pub CameFrom : Address → Cause → Type 0
CameFrom from (ByConnect place connect) = place ≡ from
CameFrom from (ByMessage place request) = place ≡ from
CameFrom from (BySource place p) = place ≡ from
CameFrom from (ByBroken place rule) = place ≡ from
CameFrom from (ByPacket p) = ⊥
CameFrom from ByUp = ⊥
CameFrom from ByDown = ⊥
CameFrom from ByTake = ⊥
CameFrom from (ByReplace policy) = ⊥
CameFrom from (ByTick clock) = ⊥

publish_came : (from : Address) (p : Publish) (q : FrameQos) → CameFrom from (publish_cause from p q)
publish_came from p qos.WithoutSession = refl
publish_came from p qos.AtMostOnce = refl
publish_came from p qos.AtLeastOnce = refl
publish_came from p qos.ExactlyOnce = refl

leave_came : (from : Address) (duration : Option ℕ) → CameFrom from (disconnect_cause from duration)
leave_came from None = refl
leave_came from (Some duration) = refl

pub datagram_came : (from : Address) (read : Result SnFrame FrameFault)
    → CameFrom from (datagram_cause from read)
datagram_came from (Err broke) = refl
datagram_came from (Ok (frame.Publish p)) = publish_came from p p.flags.qos
datagram_came from (Ok (frame.Disconnect duration)) = leave_came from duration
datagram_came from (Ok _) = refl

-- ---- what it lets out

pub foreign_silent : (id : List ℕ) (own : List Address) (s : State) (from : Address) (c : Cause)
    → CameFrom from c → names id c ≡ false → is_own own from ≡ false → Each AtRest s.clients
    → Each (Elsewhere id from) s.clients → Each (Off id own) s.clients
    → Silent id own (outs_by s c)
foreign_silent id own s from (ByConnect place connect) came named off rest elsewhere apart =
    connect_silent id own s place connect named (subst (λ a. is_own own a ≡ false) (sym came) off) rest
    (subst (λ a. Each (Elsewhere id a) s.clients) (sym came) elsewhere) apart
foreign_silent id own s from (ByMessage place request) came named off rest elsewhere apart =
    message_silent id own s place request (subst (λ a. is_own own a ≡ false) (sym came) off) rest
    (subst (λ a. Each (Elsewhere id a) s.clients) (sym came) elsewhere)
foreign_silent id own s from (BySource place p) came named off rest elsewhere apart =
    source_silent id own s place p (subst (λ a. is_own own a ≡ false) (sym came) off)
foreign_silent id own s from (ByBroken place rule) came named off rest elsewhere apart =
    broken_silent id own s place rule (subst (λ a. is_own own a ≡ false) (sym came) off) rest
    (subst (λ a. Each (Elsewhere id a) s.clients) (sym came) elsewhere)
foreign_silent id own s from (ByPacket p) came named off rest elsewhere apart = absurd came
foreign_silent id own s from ByUp came named off rest elsewhere apart = absurd came
foreign_silent id own s from ByDown came named off rest elsewhere apart = absurd came
foreign_silent id own s from ByTake came named off rest elsewhere apart = absurd came
foreign_silent id own s from (ByReplace policy) came named off rest elsewhere apart = absurd came
foreign_silent id own s from (ByTick clock) came named off rest elsewhere apart = absurd came

-- ---- what it leaves

not_here : (here same : Bool) → (here ≡ true → same ≡ false) → same ≡ true → here ≡ false
not_here true same other is = absurd (let no = other refl in cc)
not_here false same other is = refl

-- it does not concern the client
concerns_not : (id : List ℕ) (s : State) (from : Address) (c : Cause) (x : Client) → CameFrom from c
    → names id c ≡ false → Elsewhere id from x → bytes_eq id x.id ≡ true → is_here x from ≡ false
    → Unconcerned s c x
concerns_not id s from (ByConnect place connect) x came named elsewhere own away =
    connect_unconcerned s place connect x
    (subst (λ d. bytes_eq connect.client_id d ≡ false) (same_means id x.id own) named)
    (subst (λ a. is_here x a ≡ false) (sym came) away)
concerns_not id s from (ByMessage place request) x came named elsewhere own away =
    message_unconcerned s place request x (subst (λ a. is_here x a ≡ false) (sym came) away)
concerns_not id s from (BySource place p) x came named elsewhere own away =
    record { fixed = refl; start = refl; author = refl }
concerns_not id s from (ByBroken place rule) x came named elsewhere own away =
    broken_unconcerned s place rule x (subst (λ a. is_here x a ≡ false) (sym came) away)
concerns_not id s from (ByPacket p) x came named elsewhere own away = absurd came
concerns_not id s from ByUp x came named elsewhere own away = absurd came
concerns_not id s from ByDown x came named elsewhere own away = absurd came
concerns_not id s from ByTake x came named elsewhere own away = absurd came
concerns_not id s from (ByReplace policy) x came named elsewhere own away = absurd came
concerns_not id s from (ByTick clock) x came named elsewhere own away = absurd came

-- whoever is accepted for the first time is not the client
pub newcomers_other : (id : List ℕ) (s : State) (c : Cause) → names id c ≡ false
    → kept_of id (newcomers_for s c) ≡ None
newcomers_other id s (ByConnect from connect) named =
    by_new (is_allowed (entry s connect) && not (is_known connect.client_id s.clients))
  where
    by_new : (b : Bool) → kept_of id (if b then blank connect.client_id ∷ [] else []) ≡ None
    by_new true = rw (flip id connect.client_id named) refl
    by_new false = refl
newcomers_other id s (ByMessage from request) named = refl
newcomers_other id s (BySource from p) named = refl
newcomers_other id s (ByBroken from rule) named = refl
newcomers_other id s (ByPacket p) named = refl
newcomers_other id s ByUp named = refl
newcomers_other id s ByDown named = refl
newcomers_other id s ByTake named = refl
newcomers_other id s (ByReplace policy) named = refl
newcomers_other id s (ByTick clock) named = refl

-- what is kept of the client behind a cause that does not name it
pub kept_next : (id : List ℕ) (s : State) (c : Cause) → names id c ≡ false
    → kept_of id (clients_next s c) ≡ option_map (client_next s c) (kept_of id s.clients)
kept_next id s c named =
    kept_map id (client_next s c) (s.clients ++ newcomers_for s c)
    (λ x. client_id (around s c) (fixed_for s c x) x)
    ∙ ap (option_map (client_next s c))
    (kept_left id s.clients (newcomers_for s c) (newcomers_other id s c named))

pub foreign_kept : (id : List ℕ) (s : State) (from : Address) (c : Cause) → CameFrom from c
    → names id c ≡ false → Each AtRest s.clients → Each (Elsewhere id from) s.clients
    → kept_of id (clients_next s c) ≡ kept_of id s.clients
foreign_kept id s from c came named rest elsewhere =
    kept_next id s c named
    ∙ kept_still id (client_next s c) s.clients
    (each_with AtRest (Elsewhere id from) (λ x. bytes_eq id x.id ≡ true → client_next s c x ≡ x) s.clients
    (λ x at away own. next_none s c x at.busy
    (concerns_not id s from c x came named away own
    (not_here (is_here x from) (bytes_eq id x.id) away own))) rest elsewhere)
