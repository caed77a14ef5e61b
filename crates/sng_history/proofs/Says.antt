-- What a step lets out has just the notes that the step makes: of each client, and of what leaves.
use Rattle.std.proofs.Common.{◌≡◌, Bool, true, false, List, [], ◌∷◌, ◌++◌, refl, ap, sym, ◌∙◌, subst}
use Rattle.std.specs.Prelude.{if◌then◌else◌, Option, Some, None}
use Rattle.std.specs.List.{flat_map}
use Rattle.std.proofs.lemmas.List.{append-nil}
use Rattle.sng_frames.specs.declared.messages.publish.Publish.{Publish}
use Rattle.sng_frames.specs.declared.frame.SnFrame.{SnFrame}
use Rattle.sng_frames.specs.declared.frame.SnFrame.TheVariants as frame
use Rattle.sng_book.specs.declared.address.Address.{Address}
use Rattle.sng_book.specs.declared.decision.Decision.{Decision}
use Rattle.sng_book.specs.declared.decision.Decision.TheVariants as note
use Rattle.sng_book.specs.declared.decision.Who.TheVariants as who
use Rattle.sng_book.specs.declared.outcome.Denial.{Denial}
use Rattle.sng_book.specs.declared.outcome.Denial.TheVariants.{Form}
use Rattle.sng_book.specs.declared.outcome.FormDenial.TheVariants.{NotSupported, NoSession}
use Rattle.sng_book.specs.declared.outcome.Outcome.TheVariants.{Denied}
use Rattle.sng_book.specs.declared.out.Out.{Out}
use Rattle.sng_book.specs.declared.out.Out.TheVariants.{Note}
use Rattle.sng_history.specs.Causes.{Request, ToPing, ToLeave, ToSleep, ToRegister, ToPublish, ToSubscribe}
use Rattle.sng_history.specs.Causes.{ToUnsubscribe, ToConfirm, ToAcknowledge, ToState, Untaken, Cause}
use Rattle.sng_history.specs.Causes.{publish_asked}
use Rattle.sng_history.specs.Causes.{ByConnect, ByMessage, BySource, ByBroken, ByPacket, ByUp, ByDown, ByTake}
use Rattle.sng_history.specs.Causes.{ByReplace, ByTick}
use Rattle.sng_history.specs.Causes.{ToPublishOnce, ToRelease}
use Rattle.sng_history.specs.Clients.{Client, is_here, is_from}
use Rattle.sng_history.specs.Notes.{notes_of, exits_in}
use Rattle.sng_history.specs.State.{State, around, later, newcomers, asked_all, asked_in}
use Rattle.sng_history.specs.Standing.{Release}
use Rattle.sng_history.specs.Ticking.{with_wills, ping_dropped}
use Rattle.sng_history.specs.Verdicts.{entry}
use Rattle.sng_history.specs.Answers.{dismissed, denied_note}
use Rattle.sng_history.specs.Packets.{answer_of, dropped, answer_outs}
use Rattle.sng_history.specs.Whole.{any_from, stranger_to, client_rows}
use Rattle.sng_history.specs.Lawful.{fixed_for, exits_for}
use Rattle.sng_history.specs.Steps.{notes_for, outs_by, newcomers_for, asked_by_all, asked_for}
use Rattle.sng_history.specs.Good.{Each, Distinct}
use Rattle.sng_history.proofs.Own.{notes_append, exits_append, asks_append}
use Rattle.sng_history.proofs.Own.{each_all, each_map}
use Rattle.sng_history.proofs.Spelled.{Mute, mute_none}
use Rattle.sng_history.proofs.Spelled.{part_asks}
use Rattle.sng_history.proofs.SaysUpstream.{Foreign, foreign, foreign_source, take_exits, take_none, up_exits}
use Rattle.sng_history.proofs.SaysUpstream.{up_none, mute_packet, mute_ping}
use Rattle.sng_history.proofs.SaysParts.{Says, part_for, fan_own, fan_exits, none_from, drops_for, row_for}
use Rattle.sng_history.proofs.SaysParts.{Strange, frame_own, frame_exits, all_here}
use Rattle.sng_history.proofs.SaysConnect.{entry_says}

-- ---- what is asked for

-- the source's own note asks for its publish, and the notes of clients for theirs
fan_asks : (s : State) (c : Cause) (dropped : List Release) (p : Option Publish) (xs : List Client)
    → asked_all p (flat_map (part_for s c dropped) xs) ≡ flat_map (λ x. asked_by_all p (fixed_for s c x)) xs
fan_asks s c dropped p [] = refl
fan_asks s c dropped p (x ∷ xs) =
    asks_append p (part_for s c dropped x) (flat_map (part_for s c dropped) xs)
    ∙ (ap (λ items. items ++ asked_all p (flat_map (part_for s c dropped) xs))
    (part_asks (around s c) dropped (fixed_for s c x) x p)
    ∙ ap (λ items. asked_by_all p (fixed_for s c x) ++ items) (fan_asks s c dropped p xs))

none_asked : (s : State) (c : Cause) (p : Option Publish) (xs : List Client)
    → Each (λ x. fixed_for s c x ≡ []) xs → flat_map (λ x. asked_by_all p (fixed_for s c x)) xs ≡ []
none_asked s c p [] none = refl
none_asked s c p (x ∷ xs) none = rw (none.0, none_asked s c p xs none.1) refl

row_asks : (s : State) (c : Cause) (stranger : List Out) (p : Option Publish) (any : Bool)
    → any_from c s.clients ≡ any → Strange s c stranger
    → asked_all p (row_for s c stranger) ≡ flat_map (λ x. asked_by_all p (fixed_for s c x)) s.clients
row_asks s c stranger p true is strange = rw is (fan_asks s c (drops_for s c) p s.clients)
row_asks s c stranger p false is strange =
    rw is (strange.mute.asks p
    ∙ sym (none_asked s c p s.clients
    (each_map (λ x. is_from c x ≡ false) (λ x. fixed_for s c x ≡ []) s.clients strange.quiet
    (none_from c s.clients is))))

-- ---- each cause

quiet_if : (b : Bool) (notes : List Decision) → b ≡ false → (if b then notes else []) ≡ []
quiet_if true notes is = absurd cc
quiet_if false notes is = refl

-- nobody's PUBLISH asks for nothing
unasked_publish : (from : Address) (rule : Denial) (p : Option Publish)
    → asked_all p (Note (note.Publish (who.Address from) None (Denied rule)) ∷ []) ≡ []
unasked_publish from rule None = refl
unasked_publish from rule (Some p) = refl

mute_unsupported : (from : Address) (message : SnFrame)
    → Mute (Note (denied_note message (who.Address from) (Form NotSupported)) ∷ [])
mute_unsupported from (frame.Connect connect) = record { notes = λ c. refl; exits = refl; asks = λ q. refl }
mute_unsupported from (frame.ConnectAck code) = record { notes = λ c. refl; exits = refl; asks = λ q. refl }
mute_unsupported from frame.WillTopicRequest = record { notes = λ c. refl; exits = refl; asks = λ q. refl }
mute_unsupported from (frame.WillTopic topic) = record { notes = λ c. refl; exits = refl; asks = λ q. refl }
mute_unsupported from frame.WillMessageRequest = record { notes = λ c. refl; exits = refl; asks = λ q. refl }
mute_unsupported from (frame.WillMessage message) =
    record { notes = λ c. refl; exits = refl; asks = λ q. refl }
mute_unsupported from (frame.Register register) = record { notes = λ c. refl; exits = refl; asks = λ q. refl }
mute_unsupported from (frame.RegisterAck answer) =
    record { notes = λ c. refl; exits = refl; asks = λ q. refl }
mute_unsupported from (frame.Publish p) =
    record { notes = λ c. refl; exits = refl; asks = unasked_publish from (Form NotSupported) }
mute_unsupported from (frame.PublishAck answer) = record { notes = λ c. refl; exits = refl; asks = λ q. refl }
mute_unsupported from (frame.PublishComplete id) =
    record { notes = λ c. refl; exits = refl; asks = λ q. refl }
mute_unsupported from (frame.PublishReceived id) =
    record { notes = λ c. refl; exits = refl; asks = λ q. refl }
mute_unsupported from (frame.PublishRelease id) = record { notes = λ c. refl; exits = refl; asks = λ q. refl }
mute_unsupported from (frame.Subscribe request) = record { notes = λ c. refl; exits = refl; asks = λ q. refl }
mute_unsupported from (frame.SubscribeAck answer) =
    record { notes = λ c. refl; exits = refl; asks = λ q. refl }
mute_unsupported from (frame.Unsubscribe request) =
    record { notes = λ c. refl; exits = refl; asks = λ q. refl }
mute_unsupported from (frame.UnsubscribeAck id) = record { notes = λ c. refl; exits = refl; asks = λ q. refl }
mute_unsupported from (frame.PingRequest client) =
    record { notes = λ c. refl; exits = refl; asks = λ q. refl }
mute_unsupported from frame.PingResponse = record { notes = λ c. refl; exits = refl; asks = λ q. refl }
mute_unsupported from (frame.Disconnect duration) =
    record { notes = λ c. refl; exits = refl; asks = λ q. refl }
mute_unsupported from (frame.WillTopicUpdate topic) =
    record { notes = λ c. refl; exits = refl; asks = λ q. refl }
mute_unsupported from (frame.WillTopicResponse code) =
    record { notes = λ c. refl; exits = refl; asks = λ q. refl }
mute_unsupported from (frame.WillMessageUpdate message) =
    record { notes = λ c. refl; exits = refl; asks = λ q. refl }
mute_unsupported from (frame.WillMessageResponse code) =
    record { notes = λ c. refl; exits = refl; asks = λ q. refl }

unasked_bye : (from : Address) (p : Option Publish)
    → asked_all p
    (Note (note.Publish (who.Address from) None (Denied (Form NoSession))) ∷ dismissed from ∷ [])
    ≡ []
unasked_bye from None = refl
unasked_bye from (Some p) = refl

pub mute_stranger : (from : Address) (request : Request) → Mute (stranger_to from request)
mute_stranger from (ToPing client) = record { notes = λ c. refl; exits = refl; asks = λ q. refl }
mute_stranger from (ToSleep duration) = record { notes = λ c. refl; exits = refl; asks = λ q. refl }
mute_stranger from ToLeave = record { notes = λ c. refl; exits = refl; asks = λ q. refl }
mute_stranger from (ToRegister r) = record { notes = λ c. refl; exits = refl; asks = λ q. refl }
mute_stranger from (ToPublish p) = record { notes = λ c. refl; exits = refl; asks = unasked_bye from }
mute_stranger from (ToPublishOnce p) = record { notes = λ c. refl; exits = refl; asks = unasked_bye from }
mute_stranger from (ToRelease id) = record { notes = λ c. refl; exits = refl; asks = λ q. refl }
mute_stranger from (ToSubscribe r) = record { notes = λ c. refl; exits = refl; asks = λ q. refl }
mute_stranger from (ToUnsubscribe r) = record { notes = λ c. refl; exits = refl; asks = λ q. refl }
mute_stranger from (ToConfirm r) = record { notes = λ c. refl; exits = refl; asks = λ q. refl }
mute_stranger from (ToAcknowledge r) = record { notes = λ c. refl; exits = refl; asks = λ q. refl }
mute_stranger from (ToState statement) = record { notes = λ c. refl; exits = refl; asks = λ q. refl }
mute_stranger from (Untaken message) = mute_unsupported from message

strange_message : (s : State) (from : Address) (request : Request)
    → Strange s (ByMessage from request) (stranger_to from request)
strange_message s from request =
    record { mute = mute_stranger from request; quiet = λ x away. quiet_if (is_here x from) _ away }

abbrev broken_outs : Address → Denial → List Out
broken_outs from rule = Note (note.Frame (who.Address from) (Denied rule)) ∷ []

strange_broken : (s : State) (from : Address) (rule : Denial)
    → Strange s (ByBroken from rule) (broken_outs from rule)
strange_broken s from rule =
    record {
      mute = record { notes = λ c. refl; exits = refl; asks = λ q. refl };
      quiet = λ x away. quiet_if (is_here x from) _ away;
    }

frame_says : (s : State) (c : Cause) (stranger : List Out) → newcomers_for s c ≡ []
    → newcomers c s.clients (row_for s c stranger) ≡ newcomers_for s c → exits_for s c ≡ []
    → Distinct s.clients → Strange s c stranger → Says s c (row_for s c stranger)
frame_says s c stranger none new quiet apart strange =
    all_here s c (row_for s c stranger) none new
    (frame_exits s c stranger (any_from c s.clients) refl strange ∙ sym quiet)
    (frame_own s c stranger (any_from c s.clients) refl apart strange)

mute_says : (s : State) (c : Cause) (outs : List Out) → newcomers_for s c ≡ []
    → newcomers c s.clients outs ≡ newcomers_for s c → exits_for s c ≡ [] → Foreign outs
    → ((x : Client) → fixed_for s c x ≡ []) → Says s c outs
mute_says s c outs none new quiet mute all =
    all_here s c outs none new (mute.exits ∙ sym quiet)
    (each_all (λ x. notes_of x.id outs ≡ fixed_for s c x) s.clients (λ x. mute.notes x.id ∙ sym (all x)))

-- the clients' notes, and behind them what is nobody's
rows_says : (s : State) (c : Cause) (dropped : List Release) (rest : List Out) → newcomers_for s c ≡ []
    → newcomers c s.clients (client_rows s c dropped (notes_for s c) ++ rest) ≡ newcomers_for s c
    → exits_for s c ≡ [] → Distinct s.clients → Mute rest
    → Says s c (client_rows s c dropped (notes_for s c) ++ rest)
rows_says s c dropped rest none new quiet apart mute =
    let own = flat_map (part_for s c dropped) s.clients in
    all_here s c (own ++ rest) none new
    (exits_append own rest ∙ (ap (λ exits. exits ++ exits_in rest) (fan_exits s c dropped)
    ∙ (mute.exits ∙ sym quiet)))
    (each_map (λ x. notes_of x.id own ≡ fixed_for s c x)
    (λ x. notes_of x.id (own ++ rest) ≡ fixed_for s c x) s.clients
    (λ x is. notes_append x.id own rest
    ∙ (ap (λ notes. notes_of x.id own ++ notes) (mute.notes x.id)
    ∙ (append-nil (notes_of x.id own) ∙ is)))
    (fan_own s c dropped apart))

-- a message of a client asks for what its notes allow
pub message_asks : (s : State) (from : Address) (request : Request)
    → asked_in (ByMessage from request) (outs_by s (ByMessage from request))
    ≡ asked_for s (ByMessage from request)
message_asks s from request =
    let c = ByMessage from request in
    row_asks s c (stranger_to from request) (publish_asked request) (any_from c s.clients) refl
    (strange_message s from request)

pub says : (s : State) (c : Cause) → Distinct s.clients → Says s c (outs_by s c)
says s (ByConnect from connect) apart = entry_says s from connect (entry s connect) refl apart
says s (ByMessage from request) apart =
    frame_says s (ByMessage from request) (stranger_to from request) refl refl refl apart
    (strange_message s from request)
says s (ByBroken from rule) apart =
    frame_says s (ByBroken from rule) (broken_outs from rule) refl refl refl apart
    (strange_broken s from rule)
says s (BySource from p) apart =
    mute_says s (BySource from p) (outs_by s (BySource from p)) refl refl refl (foreign_source s from.ip p)
    (λ x. refl)
says s (ByPacket p) apart =
    rows_says s (ByPacket p) [] (answer_outs s.policy.limits s.up s.link (answer_of p)) refl refl refl apart
    (mute_packet s.policy.limits s.up s.link (answer_of p))
says s ByUp apart =
    all_here s ByUp (outs_by s ByUp) refl refl (up_exits s)
    (each_all (λ x. notes_of x.id (outs_by s ByUp) ≡ fixed_for s ByUp x) s.clients (λ x. up_none s x.id))
says s ByDown apart = mute_says s ByDown [] refl refl refl (foreign [] mute_none) (λ x. refl)
says s ByTake apart =
    all_here s ByTake (outs_by s ByTake) refl refl (take_exits s s.up refl)
    (each_all (λ x. notes_of x.id (outs_by s ByTake) ≡ fixed_for s ByTake x) s.clients
    (λ x. take_none s x.id s.up refl))
says s (ByReplace policy) apart =
    let c = ByReplace policy in
    subst (Says s c) (append-nil (outs_by s c))
    (rows_says s c (drops_for s c) [] refl refl refl apart mute_none)
says s (ByTick clock) apart =
    let now = later s.clock clock in
    let limits = s.policy.limits in
    let link = with_wills limits s.link now s.clients in
    rows_says s (ByTick clock) [] (ping_dropped limits s.up link now) refl refl refl apart
    (mute_ping limits s.up link now)
