-- The row and the next state of a message that is not taken, and of an event that moves no client, as code
-- makes them.
use Rattle.std.proofs.Common.{◌≡◌, ℕ, zero, suc, Bool, true, false, List, [], ◌∷◌, ◌++◌, map, refl, ap, sym}
use Rattle.std.proofs.Common.{◌∙◌, subst}
use Rattle.std.specs.Prelude.{if◌then◌else◌, Option, Some, None}
use Rattle.std.proofs.lemmas.List.{append-nil}
use Rattle.sng_frames.specs.declared.messages.publish.Publish.{Publish}
use Rattle.sng_frames.specs.declared.frame.SnFrame.{SnFrame}
use Rattle.sng_frames.specs.declared.frame.SnFrame.TheVariants as frame
use Rattle.sng_outbox.specs.Sending.{publishes}
use Rattle.sng_outbox.specs.declared.item.Item.{Item}
use Rattle.sng_book.specs.declared.address.Address.{Address}
use Rattle.sng_book.specs.declared.decision.Who.TheVariants as who
use Rattle.sng_book.specs.declared.outcome.Denial.{Denial}
use Rattle.sng_book.specs.declared.outcome.Denial.TheVariants.{Form}
use Rattle.sng_book.specs.declared.outcome.FormDenial.TheVariants.{NotSupported}
use Rattle.sng_book.specs.declared.out.Out.TheVariants.{Note}
use Rattle.sng_history.specs.Causes.{Untaken, Cause, ByMessage}
use Rattle.sng_history.specs.Causes.{BySource, ByBroken, ByUp, ByDown, ByTake}
use Rattle.sng_history.specs.Clients.{Client, is_here}
use Rattle.sng_history.specs.State.{State, around, asked_by}
use Rattle.sng_history.specs.Verdicts.{source_ask}
use Rattle.sng_history.specs.Answers.{denied_note, refused}
use Rattle.sng_history.specs.Whole.{frames_of, stranger_to}
use Rattle.sng_history.specs.Steps.{outs_by, client_next, next_by, newcomers_for}
use Rattle.sng_history.specs.Links.{Link, resumed, filters_wanted, subscribe_sent, subscribes_sent}
use Rattle.sng_history.specs.Links.{may_open}
use Rattle.sng_history.specs.Exits.{agains_of, beginning}
use Rattle.sng_history.specs.Good.{Each, AtRest, Good}
use Rattle.sng_history.proofs.EndlessRequests.{denied_stays}
use Rattle.sng_core.specs.Forms.{place_at, at_place, moved_if, found_outs, heard_at}
use Rattle.sng_core.specs.Forms.{unsupported_outs, broken_outs}
use Rattle.sng_core.specs.Forms.{taken_outs, taken_next, begun_next}
use Rattle.sng_sessions.specs.Moving.{moved_at}
use Rattle.sng_core.proofs.Plain.{Busy, plain_next, plain_part, plain_moves}
use Rattle.sng_core.proofs.Rows.{Makes, makes, with_clients, message_row, heard_busy, with_link}
use Rattle.sng_core.proofs.Rows.{still_message, broken_from, broken_message}

-- ---- a message that is not taken

denied_frames : (s : State) (from : Address) (all : SnFrame) (x : Client) (message : SnFrame)
    → frames_of (around s (ByMessage from (Untaken all))) [] x
    (denied_note message (who.Client x.id) (Form NotSupported)) ≡ refused x.address all (Form NotSupported)
denied_frames s from all x (frame.Connect connect) = refl
denied_frames s from all x (frame.ConnectAck code) = refl
denied_frames s from all x frame.WillTopicRequest = refl
denied_frames s from all x (frame.WillTopic topic) = refl
denied_frames s from all x frame.WillMessageRequest = refl
denied_frames s from all x (frame.WillMessage message) = refl
denied_frames s from all x (frame.Register register) = refl
denied_frames s from all x (frame.RegisterAck answer) = refl
denied_frames s from all x (frame.Publish p) = refl
denied_frames s from all x (frame.PublishAck answer) = refl
denied_frames s from all x (frame.PublishComplete packet) = refl
denied_frames s from all x (frame.PublishReceived packet) = refl
denied_frames s from all x (frame.PublishRelease packet) = refl
denied_frames s from all x (frame.Subscribe request) = refl
denied_frames s from all x (frame.SubscribeAck answer) = refl
denied_frames s from all x (frame.Unsubscribe request) = refl
denied_frames s from all x (frame.UnsubscribeAck packet) = refl
denied_frames s from all x (frame.PingRequest client) = refl
denied_frames s from all x frame.PingResponse = refl
denied_frames s from all x (frame.Disconnect duration) = refl
denied_frames s from all x (frame.WillTopicUpdate topic) = refl
denied_frames s from all x (frame.WillTopicResponse code) = refl
denied_frames s from all x (frame.WillMessageUpdate message) = refl
denied_frames s from all x (frame.WillMessageResponse code) = refl

unsupported_part : (s : State) (from : Address) (message : SnFrame) (x : Client) → is_here x from ≡ true
    → unsupported_outs message x ≡ plain_part s (ByMessage from (Untaken message)) [] x
unsupported_part s from message x here =
    rw here (ap (λ more. Note (denied_note message (who.Client x.id) (Form NotSupported)) ∷ more)
    (sym (append-nil (refused x.address message (Form NotSupported)))
    ∙ ap (λ outs. outs ++ []) (sym (denied_frames s from message (heard_at s.clock x) message))))

unsupported_next : (s : State) (from : Address) (message : SnFrame) (x : Client) → is_here x from ≡ true
    → heard_at s.clock x ≡ plain_next s (ByMessage from (Untaken message)) x
unsupported_next s from message x here =
    rw here (sym (denied_stays (around s (ByMessage from (Untaken message)))
    (heard_at s.clock x) x.id message))

pub unsupported_row : (s : State) (from : Address) (message : SnFrame) → Good s
    → Makes s (ByMessage from (Untaken message))
    (found_outs (stranger_to from (Untaken message)) (unsupported_outs message)
    (at_place s.clients (place_at from s.clients)))
    (record s { clients = moved_if (place_at from s.clients) (heard_at s.clock) s.clients })
unsupported_row s from message good =
    message_row s (ByMessage from (Untaken message)) from (stranger_to from (Untaken message))
    (unsupported_outs message) (heard_at s.clock) (place_at from s.clients) good
    (still_message s from (Untaken message) good refl refl) refl (unsupported_part s from message)
    (unsupported_next s from message)
    (λ x here rest. heard_busy s.clock x rest)

-- ---- a datagram that is not a message

abbrev same_client : Client → Client
same_client x = x

moved_none : (xs : List Client) (i : ℕ) → moved_at i same_client xs ≡ xs
moved_none [] i = refl
moved_none (x ∷ xs) zero = refl
moved_none (x ∷ xs) (suc i) = ap (λ ys. x ∷ ys) (moved_none xs i)

moved_nobody : (xs : List Client) (place : Option ℕ) → moved_if place same_client xs ≡ xs
moved_nobody xs None = refl
moved_nobody xs (Some i) = moved_none xs i

pub broken_row : (s : State) (from : Address) (rule : Denial) → Good s
    → Makes s (ByBroken from rule)
    (found_outs (broken_from from rule) (broken_outs rule) (at_place s.clients (place_at from s.clients)))
    s
broken_row s from rule good =
    subst (Makes s (ByBroken from rule)
    (found_outs (broken_from from rule) (broken_outs rule)
    (at_place s.clients (place_at from s.clients))))
    (ap (with_clients s) (moved_nobody s.clients (place_at from s.clients)))
    (message_row s (ByBroken from rule) from (broken_from from rule) (broken_outs rule) same_client
    (place_at from s.clients) good (broken_message s from rule) refl (λ x here. rw here refl)
    (λ x here. rw here refl)
    (λ x here rest. rest.busy))

-- ---- what no client is moved by

-- nobody is touched
pub record Idle (s : State) (c : Cause) : Type 0 where
  pub none : newcomers_for s c ≡ []
  pub same : (x : Client) → plain_next s c x ≡ x

all_same : (s : State) (c : Cause) (xs : List Client) → ((x : Client) → plain_next s c x ≡ x) → Each AtRest xs
    → map (client_next s c) xs ≡ xs
all_same s c [] same rest = refl
all_same s c (x ∷ xs) same rest =
    let moves : client_next s c x ≡ x = plain_moves s c x (subst Busy (sym (same x)) rest.0.busy) ∙ same x in
    rw (moves, all_same s c xs same rest.1) refl

pub idle_clients : (s : State) (c : Cause) → Good s → Idle s c
    → map (client_next s c) (s.clients ++ newcomers_for s c) ≡ s.clients
idle_clients s c good idle =
    ap (λ xs. map (client_next s c) (s.clients ++ xs)) idle.none
    ∙ (ap (map (client_next s c)) (append-nil s.clients) ∙ all_same s c s.clients idle.same good.rest)

abbrev with_all : State → List Item → List Client → State
with_all s items xs = record s { link = record s.link { waiting = items }; clients = xs }

pub source_row : (s : State) (from : Address) (p : Publish) → Good s
    → Makes s (BySource from p) (Note (source_ask s from.ip p) ∷ [])
    (record s {
      link = record s.link
          { waiting = s.link.waiting ++ asked_by (Some p) (source_ask s from.ip p) };
    })
source_row s from p good =
    makes s (BySource from p) (Note (source_ask s from.ip p) ∷ [])
    (record s {
      link = record s.link
          { waiting = s.link.waiting ++ asked_by (Some p) (source_ask s from.ip p) };
    }) good refl
    (ap (with_all s (s.link.waiting ++ asked_by (Some p) (source_ask s from.ip p)))
    (sym (idle_clients s (BySource from p) good (record { none = refl; same = λ x. refl }))))

-- whether it leaves or is owed
sent_waiting : (link : Link) (filter : List ℕ) (b : Bool) → may_open link.wanted filter ≡ b
    → (subscribe_sent link filter).waiting ≡ link.waiting
sent_waiting link filter true is = rw is refl
sent_waiting link filter false is = rw is refl

subscribes_waiting : (link : Link) (filters : List (List ℕ))
    → (subscribes_sent link filters).waiting ≡ link.waiting
subscribes_waiting link [] = refl
subscribes_waiting link (filter ∷ filters) =
    subscribes_waiting (subscribe_sent link filter) filters
    ∙ sent_waiting link filter (may_open link.wanted filter) refl

-- what waits is the same before what goes out and after it
pub begun : (s : State) (link : Link)
    → link ≡ subscribes_sent (resumed s.link s.clock (agains_of s.policy s.link.in_flight))
    (filters_wanted s.link)
    → (let after : State = record s {
      up = true;
      link = record link
          { waiting = if s.up then publishes link.waiting else link.waiting };
    } in after) ≡ begun_next s
begun s link is =
    rw (
      is,
      subscribes_waiting (resumed s.link s.clock (agains_of s.policy s.link.in_flight))
          (filters_wanted s.link),
    ) refl

pub up_row : (s : State) → Good s
    → Makes s ByUp (beginning s.link s.clock (agains_of s.policy s.link.in_flight)) (begun_next s)
up_row s good =
    makes s ByUp (beginning s.link s.clock (agains_of s.policy s.link.in_flight)) (begun_next s) good refl
    (ap (with_clients (begun_next s))
    (sym (idle_clients s ByUp good (record { none = refl; same = λ x. refl }))))

pub down_row : (s : State) → Good s
    → Makes s ByDown [] (record s { up = false; link = record s.link { waiting = publishes s.link.waiting } })
down_row s good =
    makes s ByDown [] (record s { up = false; link = record s.link { waiting = publishes s.link.waiting } })
    good refl
    (ap (with_clients (record s { up = false; link = record s.link { waiting = publishes s.link.waiting } }))
    (sym (idle_clients s ByDown good (record { none = refl; same = λ x. refl }))))

take_outs : (s : State) (up : Bool) → s.up ≡ up → taken_outs s ≡ outs_by s ByTake
take_outs s true is = rw is refl
take_outs s false is = rw is refl

take_link : (s : State) (up : Bool) → s.up ≡ up → (taken_next s).link ≡ (next_by s ByTake).link
take_link s true is = rw is refl
take_link s false is = rw is refl

pub take_row : (s : State) → Good s → Makes s ByTake (taken_outs s) (taken_next s)
take_row s good =
    makes s ByTake (taken_outs s) (taken_next s) good
    (take_outs s s.up refl)
    (ap (with_clients (taken_next s))
    (sym (idle_clients s ByTake good (record { none = refl; same = λ x. refl })))
    ∙ ap (λ link. with_link (with_clients s (map (client_next s ByTake) (s.clients ++ []))) link)
    (take_link s s.up refl))
