-- What a step makes of the filters that stand for a client: each once, no more than may be, and each allowed
-- by the policy in force.
use Rattle.std.proofs.Common.{◌≡◌, ℕ, Bool, true, false, List, [], ◌∷◌, ◌++◌, refl, sym}
use Rattle.std.proofs.Common.{◌∙◌, subst, arith}
use Rattle.std.specs.Prelude.{if◌then◌else◌, ◌&&◌, not, Some, None}
use Rattle.sng_grants.specs.declared.policy.Policy.{Policy}
use Rattle.sng_fan.specs.Subscriptions.{IsOneClients}
use Rattle.sng_frames.specs.declared.messages.subscribe.TopicRequest.{TopicRequest}
use Rattle.sng_book.specs.Denials.{is_allowed}
use Rattle.sng_book.specs.declared.address.Address.{Address}
use Rattle.sng_book.specs.declared.outcome.Outcome.{Outcome}
use Rattle.sng_book.specs.declared.outcome.Outcome.TheVariants.{Allowed, Denied}
use Rattle.sng_history.specs.Causes.{Request, ToPing, ToLeave, ToSleep, ToRegister, ToPublish, ToSubscribe}
use Rattle.sng_history.specs.Causes.{ToUnsubscribe, ToConfirm, ToAcknowledge}
use Rattle.sng_history.specs.Causes.{ToState, Untaken, Cause}
use Rattle.sng_history.specs.Causes.{ByConnect, ByMessage, BySource, ByBroken, ByPacket, ByUp, ByDown, ByTake}
use Rattle.sng_history.specs.Causes.{ByReplace, ByTick}
use Rattle.sng_history.specs.Causes.{ToPublishOnce, ToRelease}
use Rattle.sng_history.specs.Requests.{granted}
use Rattle.sng_history.specs.Clients.{Client, blank, is_here, start_by}
use Rattle.sng_history.specs.Clients.{subscribed}
use Rattle.sng_history.specs.Clients.{subscribe_of, note_by, notes_by}
use Rattle.sng_history.specs.State.{State, around, policy_by, is_known}
use Rattle.sng_history.specs.Verdicts.{subscribe_ask, entry}
use Rattle.sng_history.specs.Lawful.{fixed_for}
use Rattle.sng_history.specs.Steps.{newcomers_for, client_next, clients_next}
use Rattle.sng_history.specs.Good.{Each, AllCovered, Good}
use Rattle.sng_history.proofs.Own.{each_with, each_map, each_append, each_mapped}
use Rattle.sng_history.proofs.Steady.{client_filters}
use Rattle.sng_history.proofs.Steady.{start_filters}
use Rattle.sng_history.proofs.Kept.{client_id}
use Rattle.sng_history.proofs.FiltersKept.{Lasting, kept_next, subscribe_verdict, ask_cases, may_stand}
use Rattle.sng_history.proofs.FiltersFit.{once_less, once_more, covered_without, covered_more, all_looked}
use Rattle.sng_history.proofs.FiltersFit.{settling_self, ends_filters}

abbrev Fit : Policy → Client → Type 0
Fit policy x = IsOneClients x.filters × AllCovered policy x.id x.filters

fit_less : (policy : Policy) (client : List ℕ)
    → Lasting (λ held. IsOneClients held × AllCovered policy client held)
fit_less policy client = record {
  less = λ held text fit. (once_less.less held text fit.0, covered_without policy client held text fit.1);
  none = (once_less.none, tt);
}

-- one filter more, where the verdict allows it; the client was only heard before
fit_standing : (s : State) (x y : Client) (r : TopicRequest) (text : List ℕ) (o : Outcome)
    → y.filters ≡ x.filters → subscribe_verdict s x r text ≡ o → Fit s.policy x
    → IsOneClients (subscribed (Some r) (Some text) o y).filters
    × AllCovered s.policy x.id (subscribed (Some r) (Some text) o y).filters
fit_standing s x y r text (Denied rule) same is fit = rw same fit
fit_standing s x y r text Allowed same is fit =
    let may = may_stand s x r text is in
    rw same (
      once_more x.filters text (granted r.flags.qos) may.fits fit.0,
      covered_more s.policy x.id x.filters text (granted r.flags.qos) may.covers fit.1,
    )

abbrev Fits : Policy → List ℕ → Client → Type 0
Fits policy client y = IsOneClients y.filters × AllCovered policy client y.filters

subscribe_fits : (s : State) (from : Address) (r : TopicRequest) (x : Client) (here : Bool) → Fit s.policy x
    → (let a = around s (ByMessage from (ToSubscribe r)) in
    Fits s.policy x.id (notes_by a (if here then subscribe_ask s x r ∷ [] else []) (start_by a x)))
subscribe_fits s from r x true fit =
    let a = around s (ByMessage from (ToSubscribe r)) in
    let y = start_by a x in
    ask_cases (λ said. Fits s.policy x.id (note_by a said y)) s x r
    (λ text is. fit_standing s x y r text (subscribe_verdict s x r text) (start_filters a x) refl fit)
    (λ rule. rw (start_filters a x) fit)
subscribe_fits s from r x false fit =
    let a = around s (ByMessage from (ToSubscribe r)) in rw (start_filters a x) fit

-- under the client's own id
own_fit : (s : State) (c : Cause) (policy : Policy) (x : Client) → Fits policy x.id (client_next s c x)
    → Fit policy (client_next s c x)
own_fit s c policy x fits = (
  fits.0,
  subst (λ id. AllCovered policy id (client_next s c x).filters)
      (sym (client_id (around s c) (fixed_for s c x) x)) fits.1,
)

-- whether it falls asleep again behind its notes
last_fits : (s : State) (c : Cause) (policy : Policy) (x : Client)
    → (let a = around s c in Fits policy x.id (notes_by a (fixed_for s c x) (start_by a x)))
    → Fits policy x.id (client_next s c x)
last_fits s c policy x fits =
    subst (λ held. IsOneClients held × AllCovered policy x.id held)
    (sym (client_filters (around s c) (fixed_for s c x) x)) fits

quiet_fit : (s : State) (c : Cause) (x : Client) → subscribe_of c ≡ None → Fit s.policy x
    → Fit s.policy (client_next s c x)
quiet_fit s c x quiet fit =
    own_fit s c s.policy x (kept_next (λ held. IsOneClients held × AllCovered s.policy x.id held)
    (fit_less s.policy x.id) s c x quiet fit)

message_fit : (s : State) (from : Address) (request : Request) (x : Client) → Fit s.policy x
    → Fit s.policy (client_next s (ByMessage from request) x)
message_fit s from (ToSubscribe r) x fit =
    let c = ByMessage from (ToSubscribe r) in
    own_fit s c s.policy x (last_fits s c s.policy x (subscribe_fits s from r x (is_here x from) fit))
message_fit s from (ToPing client) x fit = quiet_fit s (ByMessage from (ToPing client)) x refl fit
message_fit s from (ToSleep duration) x fit = quiet_fit s (ByMessage from (ToSleep duration)) x refl fit
message_fit s from ToLeave x fit = quiet_fit s (ByMessage from ToLeave) x refl fit
message_fit s from (ToRegister r) x fit = quiet_fit s (ByMessage from (ToRegister r)) x refl fit
message_fit s from (ToPublish p) x fit = quiet_fit s (ByMessage from (ToPublish p)) x refl fit
message_fit s from (ToPublishOnce p) x fit = quiet_fit s (ByMessage from (ToPublishOnce p)) x refl fit
message_fit s from (ToRelease id) x fit = quiet_fit s (ByMessage from (ToRelease id)) x refl fit
message_fit s from (ToUnsubscribe r) x fit = quiet_fit s (ByMessage from (ToUnsubscribe r)) x refl fit
message_fit s from (ToConfirm r) x fit = quiet_fit s (ByMessage from (ToConfirm r)) x refl fit
message_fit s from (ToAcknowledge r) x fit = quiet_fit s (ByMessage from (ToAcknowledge r)) x refl fit
message_fit s from (ToState statement) x fit = quiet_fit s (ByMessage from (ToState statement)) x refl fit
message_fit s from (Untaken message) x fit = quiet_fit s (ByMessage from (Untaken message)) x refl fit

replaced_fit : (s : State) (policy : Policy) (x : Client) → Fit s.policy x
    → Fit policy (client_next s (ByReplace policy) x)
replaced_fit s policy x fit =
    let c = ByReplace policy in
    let a = around s c in
    own_fit s c policy x (
      kept_next IsOneClients once_less s c x refl fit.0,
      subst (AllCovered policy x.id)
          (sym (client_filters a (fixed_for s c x) x ∙ ends_filters a policy x.id x.filters x))
          (all_looked policy x.id x.filters x.filters (settling_self policy x.id x.filters)),
    )

pub fit_next : (s : State) (c : Cause) (x : Client) → Fit s.policy x
    → Fit (policy_by c s.policy) (client_next s c x)
fit_next s (ByMessage from request) x fit = message_fit s from request x fit
fit_next s (ByReplace policy) x fit = replaced_fit s policy x fit
fit_next s (ByConnect from connect) x fit = quiet_fit s (ByConnect from connect) x refl fit
fit_next s (BySource from p) x fit = quiet_fit s (BySource from p) x refl fit
fit_next s (ByBroken from rule) x fit = quiet_fit s (ByBroken from rule) x refl fit
fit_next s (ByPacket p) x fit = quiet_fit s (ByPacket p) x refl fit
fit_next s ByUp x fit = quiet_fit s ByUp x refl fit
fit_next s ByDown x fit = quiet_fit s ByDown x refl fit
fit_next s ByTake x fit = quiet_fit s ByTake x refl fit
fit_next s (ByTick clock) x fit = quiet_fit s (ByTick clock) x refl fit

-- nothing stands for who is accepted for the first time
abbrev pub Unheld : Client → Type 0
Unheld x = x.filters ≡ []

unheld_if : (b : Bool) (id : List ℕ) → Each Unheld (if b then blank id ∷ [] else [])
unheld_if true id = (refl, tt)
unheld_if false id = tt

pub newcomers_unheld : (s : State) (c : Cause) → Each Unheld (newcomers_for s c)
newcomers_unheld s (ByConnect from connect) =
    unheld_if (is_allowed (entry s connect) && not (is_known connect.client_id s.clients)) connect.client_id
newcomers_unheld s (ByMessage from request) = tt
newcomers_unheld s (BySource from p) = tt
newcomers_unheld s (ByBroken from rule) = tt
newcomers_unheld s (ByPacket p) = tt
newcomers_unheld s ByUp = tt
newcomers_unheld s ByDown = tt
newcomers_unheld s ByTake = tt
newcomers_unheld s (ByReplace policy) = tt
newcomers_unheld s (ByTick clock) = tt

unheld_fit : (policy : Policy) (x : Client) → Unheld x → Fit policy x
unheld_fit policy x none = rw none ((λ text. omega arith, omega arith), tt)

fits_next : (s : State) (c : Cause) → Good s → Each (Fit (policy_by c s.policy)) (clients_next s c)
fits_next s c good =
    let now = policy_by c s.policy in
    let xs = s.clients ++ newcomers_for s c in
    each_mapped (Fit now) (client_next s c) xs
    (each_map (Fit s.policy) (λ x. Fit now (client_next s c x)) xs (λ x fit. fit_next s c x fit)
    (each_append (Fit s.policy) s.clients (newcomers_for s c)
    (each_with (λ x. IsOneClients x.filters) (λ x. AllCovered s.policy x.id x.filters)
    (Fit s.policy) s.clients (λ x once covered. (once, covered)) good.once good.covered)
    (each_map Unheld (Fit s.policy) (newcomers_for s c) (λ x none. unheld_fit s.policy x none)
    (newcomers_unheld s c))))

pub once_next : (s : State) (c : Cause) → Good s → Each (λ x. IsOneClients x.filters) (clients_next s c)
once_next s c good =
    each_map (Fit (policy_by c s.policy)) (λ x. IsOneClients x.filters) (clients_next s c) (λ x fit. fit.0)
    (fits_next s c good)

pub covered_next : (s : State) (c : Cause) → Good s
    → Each (λ x. AllCovered (policy_by c s.policy) x.id x.filters) (clients_next s c)
covered_next s c good =
    let now = policy_by c s.policy in
    each_map (Fit now) (λ x. AllCovered now x.id x.filters) (clients_next s c) (λ x fit. fit.1)
    (fits_next s c good)
