-- What a client asks for, and that it leaves, moves what is kept of the messages for it as the rows show.
use Rattle.std.proofs.Common.{◌≡◌, ℕ, Bool, true, false, List, [], ◌∷◌, refl, ap, sym, ◌∙◌, subst}
use Rattle.std.proofs.Common.{if◌then◌else◌}
use Rattle.std.specs.Prelude.{◌&&◌, Option, Some, None}
use Rattle.std.specs.Str.{bytes_eq}
use Rattle.sng_states.specs.declared.state.ClientState.TheVariants.{Active}
use Rattle.sng_frames.specs.declared.messages.subscribe.TopicRequest.{TopicRequest}
use Rattle.sng_frames.specs.declared.frame.SnFrame.{SnFrame}
use Rattle.sng_frames.specs.declared.frame.SnFrame.TheVariants as frame
use Rattle.sng_queue.specs.Messages.{Message}
use Rattle.sng_book.specs.declared.decision.Decision.{Decision}
use Rattle.sng_book.specs.declared.decision.Decision.TheVariants as note
use Rattle.sng_book.specs.declared.decision.Who.TheVariants as who
use Rattle.sng_book.specs.declared.outcome.Denial.{Denial}
use Rattle.sng_book.specs.declared.outcome.Outcome.{Outcome}
use Rattle.sng_book.specs.declared.outcome.Outcome.TheVariants.{Allowed, Denied}
use Rattle.sng_history.specs.Clients.{Client, Around, gone, subscribed, unsubscribed, subscribe_of, told}
use Rattle.sng_history.specs.Clients.{note_by, statement_of, id_opened_of}
use Rattle.sng_history.specs.Answers.{denied_note}
use Rattle.sng_history.specs.Outgoing.{all_gone}
use Rattle.sng_laws.specs.ViewsClients.{with_name, tells_id, names_by}
use Rattle.sng_laws.specs.ViewsHanding.{knows_by}
use Rattle.sng_history.proofs.Own.{same_self}
use Rattle.sng_history.proofs.Steady.{denied_received}
use Rattle.sng_promise.proofs.Names.SeenIds.{gets_same}
use Rattle.sng_promise.proofs.Handing.SeenFollows.{View, Follows}
use Rattle.sng_promise.proofs.Handing.SeenTurns.{closed_view, told_follows}
use Rattle.sng_promise.proofs.Handing.SeenHandingNotes.{view_by, Shown, Step, Moved}
use Rattle.sng_promise.proofs.Handing.SeenHanding.{gone_moved}
use Rattle.sng_promise.proofs.Clients.SeenClients.{stated_none, will_none}

pub record Quiet (a : Around) (id : List ℕ) (due : List Message) (said : Decision) : Type 0 where
  pub ids : (x : Client) → (note_by a said x).ids ≡ x.ids
  pub number : (x : Client) → (note_by a said x).number ≡ x.number
  pub buffer : (x : Client) → (note_by a said x).buffer ≡ x.buffer
  pub view : (v : View) → view_by a id due said v ≡ v
  pub step : (v : View) (x : Client) → Step a id said v x

pub quiet_shown : (a : Around) (id : List ℕ) (due : List Message) (said : Decision) (v : View) (x : Client)
    → Quiet a id due said
    → Shown due v x → Moved a id due (said ∷ []) v x
quiet_shown a id due said v x quiet shown =
    (quiet.step v x, rw (quiet.view v, quiet.ids x, quiet.number x, quiet.buffer x) shown)

-- a statement of a will that is denied, and a will that finds no place
pub quiet_will : (a : Around) (id client : List ℕ) (due : List Message) (name : Option (List ℕ))
    (rule : Denial)
    → Quiet a id due (note.Will (who.Client client) name (Denied rule))
quiet_will a id client due name rule = record {
  ids = λ x. ap (λ y. y.ids) (stated_none (statement_of a.cause) rule x);
  number = λ x. ap (λ y. y.number) (stated_none (statement_of a.cause) rule x);
  buffer = λ x. ap (λ y. y.buffer) (stated_none (statement_of a.cause) rule x);
  view = λ v. refl;
  step = λ v x. record {
    phase = λ m fits.
        will_none (bytes_eq id client) (Some x.phase) (Some Active)
        ∙ ap (λ y. Some y.phase) (sym (stated_none (statement_of a.cause) rule x));
    turn = tt;
  };
}

pub quiet_denied : (a : Around) (id : List ℕ) (due : List Message) (message : SnFrame) (rule : Denial)
    → Quiet a id due (denied_note message (who.Client id) rule)
quiet_denied a id due (frame.Register r) rule =
    record {
      ids = λ x. refl;
      number = λ x. refl;
      buffer = λ x. refl;
      view = λ v. rw (same_self id) refl;
      step = λ v x.
          record { phase = λ m fits. refl; turn = tt };
    }
quiet_denied a id due (frame.Subscribe r) rule = record {
  ids = λ x. ap (λ y. y.ids) (never (subscribe_of a.cause) x);
  number = λ x. ap (λ y. y.number) (never (subscribe_of a.cause) x);
  buffer = λ x. ap (λ y. y.buffer) (never (subscribe_of a.cause) x);
  view = λ v. rw (same_self id) refl;
  step =
      λ v x. record {
        phase = λ m fits. ap (λ y. Some y.phase) (sym (never (subscribe_of a.cause) x));
        turn = tt;
      };
}
  where
    never : (r : Option TopicRequest) (x : Client) → subscribed r None (Denied rule) x ≡ x
    never None x = refl
    never (Some r) x = refl
quiet_denied a id due (frame.Publish p) rule = record {
  ids = λ x. ap (λ y. y.ids) (denied_received (id_opened_of a.cause) rule x);
  number = λ x. ap (λ y. y.number) (denied_received (id_opened_of a.cause) rule x);
  buffer = λ x. ap (λ y. y.buffer) (denied_received (id_opened_of a.cause) rule x);
  view = λ v. refl;
  step =
      λ v x. record {
        phase = λ m fits. ap (λ y. Some y.phase) (sym (denied_received (id_opened_of a.cause) rule x));
        turn = tt;
      };
}
quiet_denied a id due (frame.WillTopic topic) rule = quiet_will a id id due None rule
quiet_denied a id due (frame.WillMessage message) rule = quiet_will a id id due None rule
quiet_denied a id due (frame.WillTopicUpdate topic) rule = quiet_will a id id due None rule
quiet_denied a id due (frame.WillMessageUpdate message) rule = quiet_will a id id due None rule
quiet_denied a id due message rule =
    record {
      ids = λ x. refl;
      number = λ x. refl;
      buffer = λ x. refl;
      view = λ v. refl;
      step = λ v x.
          record { phase = λ m fits. refl; turn = tt };
    }

-- ---- what a client asks for

pub registered_moved : (a : Around) (id : List ℕ) (due : List Message) (v : View) (x : Client)
    (name : Option (List ℕ)) (o : Outcome)
    → Shown due v x
    → Moved a id due (note.Register (who.Client id) name o ∷ []) v x
registered_moved a id due v x (Some name) Allowed shown = (
  record { phase = λ m fits. refl; turn = tt },
  rw (same_self id) (told_follows due v x.ids x.number x.buffer name shown),
)
registered_moved a id due v x (Some name) (Denied rule) shown =
    (record { phase = λ m fits. refl; turn = tt }, rw (same_self id) shown)
registered_moved a id due v x None Allowed shown =
    (record { phase = λ m fits. refl; turn = tt }, rw (same_self id) shown)
registered_moved a id due v x None (Denied rule) shown =
    (record { phase = λ m fits. refl; turn = tt }, rw (same_self id) shown)

-- what a SUBSCRIBE shows
abbrev subscribed_view : Option TopicRequest → List ℕ → Option (List ℕ) → Outcome → View → View
subscribed_view r id filter o v = record v {
  told = names_by r id (note.Subscribe (who.Client id) filter o) v.told;
  known = knows_by r id (note.Subscribe (who.Client id) filter o) v.known;
}

named_follows : (due : List Message) (v : View) (x : Client) (text : List ℕ) (b : Bool) → Shown due v x
    → let name : Option (List ℕ) = if b then Some text else None in
    let w : View = record v { told = with_name name v.told; known = with_name name v.known } in
    Follows due w (if b then told text x.ids else x.ids) x.number x.buffer
named_follows due v x text true shown = told_follows due v x.ids x.number x.buffer text shown
named_follows due v x text false shown = shown

pub subscribed_follows : (due : List Message) (v : View) (x : Client) (id : List ℕ) (r : Option TopicRequest)
    (filter : Option (List ℕ))
    (o : Outcome)
    → Shown due v x
    → Shown due (subscribed_view r id filter o v) (subscribed r filter o x)
subscribed_follows due v x id None filter Allowed shown = rw (same_self id) shown
subscribed_follows due v x id None filter (Denied rule) shown = rw (same_self id) shown
subscribed_follows due v x id (Some r) None Allowed shown = rw (same_self id) shown
subscribed_follows due v x id (Some r) None (Denied rule) shown = rw (same_self id) shown
subscribed_follows due v x id (Some r) (Some text) Allowed shown =
    rw (same_self id, gets_same r.flags.id_type text)
    (named_follows due v x text (tells_id r.flags.id_type text) shown)
subscribed_follows due v x id (Some r) (Some text) (Denied rule) shown = rw (same_self id) shown

-- neither moves its state
pub subscribed_step : (a : Around) (v : View) (x : Client) (id : List ℕ) (filter : Option (List ℕ))
    (o : Outcome)
    → Step a id (note.Subscribe (who.Client id) filter o) v x
subscribed_step a v x id filter o =
    record { phase = λ m fits. ap Some (sym (by_ask (subscribe_of a.cause) filter o x)); turn = tt }
  where
    by_ask : (r : Option TopicRequest) (filter : Option (List ℕ)) (o : Outcome) (x : Client)
        → (subscribed r filter o x).phase ≡ x.phase
    by_ask None filter o x = refl
    by_ask (Some r) None o x = refl
    by_ask (Some r) (Some text) Allowed x = refl
    by_ask (Some r) (Some text) (Denied rule) x = refl

pub unsubscribed_step : (a : Around) (v : View) (x : Client) (id : List ℕ) (filter : Option (List ℕ))
    (o : Outcome)
    → Step a id (note.Unsubscribe (who.Client id) filter o) v x
unsubscribed_step a v x id filter o =
    record { phase = λ m fits. ap Some (sym (by_filter filter o x)); turn = tt }
  where
    by_filter : (filter : Option (List ℕ)) (o : Outcome) (x : Client)
        → (unsubscribed filter o x).phase ≡ x.phase
    by_filter None o x = refl
    by_filter (Some text) Allowed x = refl
    by_filter (Some text) (Denied rule) x = refl

pub unsubscribed_follows : (due : List Message) (v : View) (x : Client) (filter : Option (List ℕ))
    (o : Outcome) → Shown due v x
    → Shown due v (unsubscribed filter o x)
unsubscribed_follows due v x None o shown = shown
unsubscribed_follows due v x (Some text) Allowed shown = shown
unsubscribed_follows due v x (Some text) (Denied rule) shown = shown

-- ---- it leaves

view_left : (a : Around) (id : List ℕ) (due : List Message) (v : View)
    → view_by a id due (note.Left id) v ≡ closed_view v
view_left a id due v = rw (same_self id) refl

pub left_moved : (a : Around) (id : List ℕ) (due : List Message) (v : View) (x : Client) → Shown due v x
    → Moved a id due (note.Left id ∷ all_gone id x.buffer.waiting) v x
left_moved a id due v x shown =
    let notes = all_gone id x.buffer.waiting in (
      record { phase = λ m fits. rw (same_self id) refl; turn = tt },
      subst (λ w. Moved a id due notes w (gone x)) (sym (view_left a id due v))
          (gone_moved a id due x.buffer.waiting (closed_view v)
          (gone x) refl refl shown.settling shown.telling shown.given),
    )

pub both_true : (a b : Bool) → (a && b) ≡ true → (a ≡ true) × (b ≡ true)
both_true true b is = (refl, is)
both_true false b is = absurd cc
