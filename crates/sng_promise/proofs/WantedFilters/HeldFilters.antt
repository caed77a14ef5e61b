-- Each filter that stands for a client after a step is a topic filter, and so no longer than a packet can
-- say, where each was before.
use Rattle.std.proofs.Common.{◌≡◌, ℕ, Bool, true, false, List, [], ◌∷◌, ◌++◌, refl, ap, subst, if◌then◌else◌}
use Rattle.std.proofs.Common.{sym}
use Rattle.std.proofs.Common.{Ok, Err, ◌≤◌, ◌==◌, length, arith}
use Rattle.std.specs.Prelude.{not, ◌||◌, nat_lt, is_none, filter, Option, Some, None}
use Rattle.std.specs.Str.{is_utf8}
use Rattle.std.proofs.lemmas.Bool.Decides.{nat_tests}
use Rattle.std.specs.declared.result.Result.{Result}
use Rattle.sng_text.specs.Texts.{has_byte, text_fault, is_in_place, is_name, is_filter}
use Rattle.sng_text.specs.Levels.{levels_of}
use Rattle.sng_text.specs.declared.fault.TextFault.{TextFault}
use Rattle.sng_text.specs.declared.fault.TextFault.TheVariants.{Empty, TooLong, NotUtf8, Null, Wildcard}
use Rattle.sng_text.specs.declared.limits.TheConstants.{MAX_FILTER}
use Rattle.sng_text.specs.declared.qos.Qos.{Qos}
use Rattle.sng_grants.specs.declared.policy.Policy.{Policy}
use Rattle.sng_policy.specs.Grants.{topic}
use Rattle.sng_fan.specs.declared.held.Held.{Held}
use Rattle.sng_fan.specs.Subscriptions.{has_text, stands, with_filter}
use Rattle.sng_frames.specs.declared.flags.TopicIdType.{TopicIdType}
use Rattle.sng_frames.specs.declared.flags.TopicIdType.TheVariants.{Normal, Predefined, Short, Reserved}
use Rattle.sng_frames.specs.declared.messages.subscribe.TopicRequest.{TopicRequest}
use Rattle.sng_book.specs.declared.address.Address.{Address}
use Rattle.sng_book.specs.declared.outcome.Denial.{Denial}
use Rattle.sng_book.specs.declared.outcome.Denial.TheVariants.{Form}
use Rattle.sng_book.specs.declared.outcome.FormDenial.TheVariants.{BadName, BadFilter}
use Rattle.sng_book.specs.declared.outcome.Outcome.{Outcome}
use Rattle.sng_book.specs.declared.outcome.Outcome.TheVariants.{Allowed, Denied}
use Rattle.sng_history.specs.Causes.{Request, ToPing, ToLeave, ToRegister, ToPublish, ToSubscribe, ToState}
use Rattle.sng_history.specs.Causes.{ToSleep}
use Rattle.sng_history.specs.Causes.{ToUnsubscribe, ToConfirm, ToAcknowledge, Untaken, Cause}
use Rattle.sng_history.specs.Causes.{ByConnect, ByMessage, BySource, ByBroken, ByPacket, ByUp, ByDown, ByTake}
use Rattle.sng_history.specs.Causes.{ByReplace, ByTick}
use Rattle.sng_history.specs.Causes.{ToPublishOnce, ToRelease}
use Rattle.sng_history.specs.Requests.{granted, id_in}
use Rattle.sng_history.specs.Clients.{Client, is_here, start_by, subscribed, note_by, notes_by}
use Rattle.sng_history.specs.State.{State, around}
use Rattle.sng_history.specs.Verdicts.{as_filter, predefined_filter, filter_in, subscribe_ask}
use Rattle.sng_history.specs.Steps.{newcomers_for, client_next, clients_next}
use Rattle.sng_history.specs.Good.{Each}
use Rattle.sng_history.proofs.Own.{same_means, each_map, each_append, each_mapped}
use Rattle.sng_history.proofs.FiltersKept.{Lasting, kept_next, subscribe_verdict, ask_cases}
use Rattle.sng_history.proofs.Steady.{start_filters}
use Rattle.sng_history.proofs.Filters.{Unheld, newcomers_unheld}
use Rattle.sng_history.proofs.Steady.{client_filters}
use Rattle.sng_history.specs.Lawful.{fixed_for}

-- ---- what a SUBSCRIBE names

ok_same : (a b : List ℕ) → (let r : Result (List ℕ) Denial = Ok a in r) ≡ Ok b → a ≡ b
ok_same a b is = ap (held a) is
  where
    held : List ℕ → Result (List ℕ) Denial → List ℕ
    held other (Ok text) = text
    held other (Err rule) = other

given_filter : (given text : List ℕ) (rule : Denial) (b : Bool) → (b ≡ true → is_filter given ≡ true)
    → (let r : Result (List ℕ) Denial = if b then Ok given else Err rule in r) ≡ Ok text
    → is_filter text ≡ true
given_filter given text rule true fits is =
    subst (λ t. is_filter t ≡ true) (ok_same given text is) (fits refl)
given_filter given text rule false fits is = absurd cc

predefined_is : (id : ℕ) (name : Option (List ℕ)) (text : List ℕ) → predefined_filter id name ≡ Ok text
    → is_filter text ≡ true
predefined_is id None text is = absurd cc
predefined_is id (Some name) text is = given_filter name text (Form BadFilter) (is_filter name) (λ is. is) is

short_is : (given text : List ℕ) (b : Bool)
    → (let read : Result (List ℕ) Denial = if b then as_filter given else Err (Form BadName) in read)
    ≡ Ok text
    → is_filter text ≡ true
short_is given text true is = given_filter given text (Form BadFilter) (is_filter given) (λ is. is) is
short_is given text false is = absurd cc

pub named_filter : (policy : Policy) (type : TopicIdType) (given text : List ℕ)
    → filter_in policy type given ≡ Ok text → is_filter text ≡ true
named_filter policy Normal given text is =
    given_filter given text (Form BadFilter) (is_filter given) (λ is. is) is
named_filter policy Short given text is = short_is given text (is_name given) is
named_filter policy Predefined given text is =
    predefined_is (id_in given) (topic policy (id_in given)) text is
named_filter policy Reserved given text is = absurd cc

-- ---- the filters of each client

abbrev pub AreFilters : List Held → Type 0
AreFilters [] = Unit {0}
AreFilters (h ∷ held) = (is_filter h.filter ≡ true) × AreFilters held

are_pick : (b : Bool) (h : Held) (rest : List Held) → is_filter h.filter ≡ true → AreFilters rest
    → AreFilters (if b then h ∷ rest else rest)
are_pick true h rest one more = (one, more)
are_pick false h rest one more = more

pub are_keep : (keep : Held → Bool) (held : List Held) → AreFilters held → AreFilters (filter keep held)
are_keep keep [] are = tt
are_keep keep (h ∷ held) are = are_pick (keep h) h (filter keep held) are.0 (are_keep keep held are.1)

are_lasting : Lasting AreFilters
are_lasting = record { less = λ held text are. are_keep (λ h. not (has_text text h)) held are; none = tt }

more_by : (h : Held) (held rest : List Held) (q : Qos) (b : Bool) → AreFilters (h ∷ held) → AreFilters rest
    → AreFilters (if b then record h { qos = q } ∷ held else h ∷ rest)
more_by h held rest q true are more = (are.0, are.1)
more_by h held rest q false are more = (are.0, more)

are_more : (held : List Held) (text : List ℕ) (q : Qos) → is_filter text ≡ true → AreFilters held
    → AreFilters (with_filter held text q)
are_more [] text q one are = (one, tt)
are_more (h ∷ held) text q one are =
    more_by h held (with_filter held text q) q (has_text text h) are (are_more held text q one are.1)

are_standing : (x y : Client) (r : TopicRequest) (text : List ℕ) (o : Outcome) → y.filters ≡ x.filters
    → is_filter text ≡ true → AreFilters x.filters → AreFilters (subscribed (Some r) (Some text) o y).filters
are_standing x y r text (Denied rule) same one are = rw same are
are_standing x y r text Allowed same one are = rw same (are_more x.filters text (granted r.flags.qos) one are)

subscribe_are : (s : State) (from : Address) (r : TopicRequest) (x : Client) (here : Bool)
    → AreFilters x.filters
    → (let a = around s (ByMessage from (ToSubscribe r)) in AreFilters
    (notes_by a (if here then subscribe_ask s x r ∷ [] else []) (start_by a x)).filters)
subscribe_are s from r x true are =
    let a = around s (ByMessage from (ToSubscribe r)) in
    let y = start_by a x in
    ask_cases (λ said. AreFilters (note_by a said y).filters) s x r
    (λ text is. are_standing x y r text (subscribe_verdict s x r text) (start_filters a x)
    (named_filter s.policy r.flags.id_type r.topic text is) are)
    (λ rule. rw (start_filters a x) are)
subscribe_are s from r x false are =
    let a = around s (ByMessage from (ToSubscribe r)) in rw (start_filters a x) are

are_request : (s : State) (from : Address) (request : Request) (x : Client) → AreFilters x.filters
    → AreFilters (client_next s (ByMessage from request) x).filters
are_request s from (ToSubscribe r) x are =
    let c = ByMessage from (ToSubscribe r) in
    subst AreFilters (sym (client_filters (around s c) (fixed_for s c x) x))
    (subscribe_are s from r x (is_here x from) are)
are_request s from (ToPing client) x are =
    kept_next AreFilters are_lasting s (ByMessage from (ToPing client)) x refl are
are_request s from ToLeave x are = kept_next AreFilters are_lasting s (ByMessage from ToLeave) x refl are
are_request s from (ToRegister r) x are =
    kept_next AreFilters are_lasting s (ByMessage from (ToRegister r)) x refl are
are_request s from (ToPublish p) x are =
    kept_next AreFilters are_lasting s (ByMessage from (ToPublish p)) x refl are
are_request s from (ToPublishOnce p) x are =
    kept_next AreFilters are_lasting s (ByMessage from (ToPublishOnce p)) x refl are
are_request s from (ToRelease n) x are =
    kept_next AreFilters are_lasting s (ByMessage from (ToRelease n)) x refl are
are_request s from (ToUnsubscribe r) x are =
    kept_next AreFilters are_lasting s (ByMessage from (ToUnsubscribe r)) x refl are
are_request s from (ToConfirm r) x are =
    kept_next AreFilters are_lasting s (ByMessage from (ToConfirm r)) x refl are
are_request s from (ToAcknowledge r) x are =
    kept_next AreFilters are_lasting s (ByMessage from (ToAcknowledge r)) x refl are
are_request s from (ToSleep duration) x are =
    kept_next AreFilters are_lasting s (ByMessage from (ToSleep duration)) x refl are
are_request s from (ToState statement) x are =
    kept_next AreFilters are_lasting s (ByMessage from (ToState statement)) x refl are
are_request s from (Untaken message) x are =
    kept_next AreFilters are_lasting s (ByMessage from (Untaken message)) x refl are

are_client : (s : State) (c : Cause) (x : Client) → AreFilters x.filters
    → AreFilters (client_next s c x).filters
are_client s (ByMessage from request) x are = are_request s from request x are
are_client s (ByConnect from connect) x are =
    kept_next AreFilters are_lasting s (ByConnect from connect) x refl are
are_client s (BySource from p) x are = kept_next AreFilters are_lasting s (BySource from p) x refl are
are_client s (ByBroken from rule) x are = kept_next AreFilters are_lasting s (ByBroken from rule) x refl are
are_client s (ByPacket p) x are = kept_next AreFilters are_lasting s (ByPacket p) x refl are
are_client s ByUp x are = kept_next AreFilters are_lasting s ByUp x refl are
are_client s ByDown x are = kept_next AreFilters are_lasting s ByDown x refl are
are_client s ByTake x are = kept_next AreFilters are_lasting s ByTake x refl are
are_client s (ByReplace policy) x are = kept_next AreFilters are_lasting s (ByReplace policy) x refl are
are_client s (ByTick clock) x are = kept_next AreFilters are_lasting s (ByTick clock) x refl are

abbrev pub OwnFilters : Client → Type 0
OwnFilters x = AreFilters x.filters

pub filters_next : (s : State) (c : Cause) → Each OwnFilters s.clients → Each OwnFilters (clients_next s c)
filters_next s c are =
    let xs = s.clients ++ newcomers_for s c in
    each_mapped OwnFilters (client_next s c) xs
    (each_map OwnFilters (λ x. OwnFilters (client_next s c x)) xs (λ x was. are_client s c x was)
    (each_append OwnFilters s.clients (newcomers_for s c) are
    (each_map Unheld OwnFilters (newcomers_for s c) (λ x none. rw none tt) (newcomers_unheld s c))))

-- so a filter that stands for a client is one
pub stands_filter : (held : List Held) (text : List ℕ) → AreFilters held → stands held text ≡ true
    → is_filter text ≡ true
stands_filter [] text are stood = absurd cc
stands_filter (h ∷ held) text are stood =
    at (has_text text h) refl stood (λ later. stands_filter held text are.1 later)
  where
    at : (b : Bool) → has_text text h ≡ b → (b || stands held text) ≡ true
        → (stands held text ≡ true → is_filter text ≡ true) → is_filter text ≡ true
    at true is stood rest = subst (λ t. is_filter t ≡ true) (same_means h.filter text is) are.0
    at false is stood rest = rest stood

-- ---- how long it is

within_by : (n most : ℕ) → nat_lt most n ≡ false → n ≤ most
within_by n most is = grind (arith, nat_tests, is)

no_fault : (b : Bool) (fault : TextFault) (rest : Option TextFault)
    → is_none (if b then Some fault else rest) ≡ true → (b ≡ false) × (is_none rest ≡ true)
no_fault true fault rest none = absurd cc
no_fault false fault rest none = (refl, none)

fault_within : (most : ℕ) (text : List ℕ) (fits : Bool) → is_none (text_fault most text fits) ≡ true
    → length text ≤ most
fault_within most text fits none =
    let last : Option TextFault =
    if not (is_utf8 text) then Some NotUtf8 else
    (if has_byte 0 text then Some Null else (if fits then None else Some Wildcard)) in
    let some =
    no_fault (length text == 0) Empty (if nat_lt most (length text) then Some TooLong else last) none in
    within_by (length text) most (no_fault (nat_lt most (length text)) TooLong last some.1).0

pub filter_short : (text : List ℕ) → is_filter text ≡ true → length text ≤ 65535
filter_short text is =
    let within : length text ≤ MAX_FILTER =
    fault_within MAX_FILTER text (is_in_place (levels_of text)) is in omega (arith, within)
