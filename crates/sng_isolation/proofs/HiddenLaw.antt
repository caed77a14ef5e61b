-- A datagram from elsewhere goes unnoticed by the client.
use Rattle.std.proofs.Common.{◌≡◌, ℕ, Bool, true, false, List, [], ◌∷◌, ◌++◌, refl, ap, sym, ◌∙◌, subst}
use Rattle.std.proofs.Common.{if◌then◌else◌}
use Rattle.std.specs.Prelude.{◌&&◌, Some}
use Rattle.std.proofs.lemmas.List.Elements.{filter-append}
use Rattle.sng_states.specs.States.{has_session}
use Rattle.sng_frames.specs.declared.messages.publish.Publish.{Publish}
use Rattle.sng_book.specs.declared.address.Address.{Address}
use Rattle.sng_book.specs.declared.decision.Decision.{Decision}
use Rattle.sng_book.specs.Traces.{is_own}
use Rattle.sng_history.specs.Causes.{Request, Cause, publish_asked}
use Rattle.sng_history.specs.Causes.{ByConnect, ByMessage, BySource, ByBroken, ByPacket, ByUp, ByDown, ByTake}
use Rattle.sng_history.specs.Causes.{ByReplace, ByTick}
use Rattle.sng_history.specs.Clients.{Client, is_here}
use Rattle.sng_history.specs.Notes.{is_of}
use Rattle.sng_history.specs.Standing.{released, unsubscribes}
use Rattle.sng_history.specs.State.{State, asked_by}
use Rattle.sng_history.specs.Verdicts.{source_ask}
use Rattle.sng_history.specs.Lawful.{fixed_for}
use Rattle.sng_history.specs.Steps.{asked_by_all, asked_for, clients_next, next_by}
use Rattle.sng_history.specs.Good.{Each}
use Rattle.sng_history.proofs.Own.{each_map}
use Rattle.sng_history.proofs.Booleans.{and_no}
use Rattle.sng_history.proofs.Places.{here_is}
use Rattle.sng_history.proofs.SaysUpstream.{foreign_source}
use Rattle.sng_history.proofs.Told.{tells}
use Rattle.sng_isolation.specs.Own.{names}
use Rattle.sng_isolation.proofs.Still.{message_unconcerned}
use Rattle.sng_isolation.proofs.Foreign.{Elsewhere}
use Rattle.sng_isolation.proofs.ForeignConnect.{Off}
use Rattle.sng_isolation.proofs.ForeignStep.{CameFrom, foreign_silent, foreign_kept}
use Rattle.sng_isolation.proofs.Alike.{is_mine, mine, Alike, IsPlaced, HiddenEvent}
use Rattle.sng_isolation.proofs.Fan.{none_flat}
use Rattle.sng_isolation.proofs.Waits.{mine_behind, mine_unsubscribes, asked_foreign, asked_other}

-- ---- where clients are

placed_elsewhere : (id : List ℕ) (own : List Address) (from : Address) (x : Client) → is_own own from ≡ false
    → IsPlaced id own x → Elsewhere id from x
placed_elsewhere id own from x off placed here =
    sym placed ∙ (ap (is_own own) (here_is x from here) ∙ off)

placed_off : (id : List ℕ) (own : List Address) (x : Client) → IsPlaced id own x → Off id own x
placed_off id own x placed away =
    ap (λ b. has_session x.phase && b) (placed ∙ away) ∙ and_no (has_session x.phase)

pub all_elsewhere : (id : List ℕ) (own : List Address) (from : Address) (xs : List Client)
    → is_own own from ≡ false
    → Each (IsPlaced id own) xs → Each (Elsewhere id from) xs
all_elsewhere id own from xs off placed =
    each_map (IsPlaced id own) (Elsewhere id from) xs (λ x at. placed_elsewhere id own from x off at) placed

pub all_off : (id : List ℕ) (own : List Address) (xs : List Client) → Each (IsPlaced id own) xs
    → Each (Off id own) xs
all_off id own xs placed = each_map (IsPlaced id own) (Off id own) xs (λ x at. placed_off id own x at) placed

-- ---- what comes to wait

-- whoever is where the message came from asks for nothing of the client, and nobody else asks for anything
asked_elsewhere : (id : List ℕ) (s : State) (from : Address) (request : Request) (x : Client)
    → Elsewhere id from x
    → mine id (asked_by_all (publish_asked request) (fixed_for s (ByMessage from request) x)) ≡ []
asked_elsewhere id s from request x elsewhere = by_here (is_here x from) refl
  where
    by_here : (here : Bool) → is_here x from ≡ here
        → mine id (asked_by_all (publish_asked request) (fixed_for s (ByMessage from request) x)) ≡ []
    by_here true is =
        let c = ByMessage from request in
        asked_other id x.id (publish_asked request) (fixed_for s c x) (elsewhere is) (tells s c x)
    by_here false is =
        ap (λ notes. mine id (asked_by_all (publish_asked request) notes))
        (message_unconcerned s from request x is).fixed

message_waits : (id : List ℕ) (s : State) (from : Address) (request : Request)
    → Each (Elsewhere id from) s.clients
    → mine id s.link.waiting ≡ mine id (next_by s (ByMessage from request)).link.waiting
message_waits id s from request elsewhere =
    let c = ByMessage from request in
    let asked = asked_for s c in
    let ends = unsubscribes s.policy.limits s.link (released s.clients (clients_next s c)) in
    let none : mine id asked ≡ [] =
    none_flat (is_mine id) (λ x. asked_by_all (publish_asked request) (fixed_for s c x)) s.clients
    (each_map (Elsewhere id from)
    (λ x. mine id (asked_by_all (publish_asked request) (fixed_for s c x)) ≡ []) s.clients
    (λ x away. asked_elsewhere id s from request x away) elsewhere) in
    sym (mine_behind id s.link.waiting (asked ++ ends)
    (filter-append (is_mine id) asked ends
    ∙ (ap (λ some. some ++ mine id ends) none
    ∙ mine_unsubscribes s.policy.limits id s.link (released s.clients (clients_next s c)))))

-- the note of a source is no client's
own_note : (id : List ℕ) (said : Decision) (b : Bool) → is_of id said ≡ b
    → (let notes : List Decision = if b then said ∷ [] else [] in notes ++ [] ≡ []) → b ≡ false
own_note id said true is none = absurd cc
own_note id said false is none = refl

pub source_waits : (id : List ℕ) (s : State) (source : List ℕ) (p : Publish)
    → mine id (asked_by (Some p) (source_ask s source p)) ≡ []
source_waits id s source p =
    let said = source_ask s source p in
    asked_foreign id (Some p) said
    (own_note id said (is_of id said) refl ((foreign_source s source p).notes id))

-- ---- all that the client cannot tell

pub hidden_event : HiddenEvent
hidden_event id own s from c sound came off named =
    let elsewhere = all_elsewhere id own from s.clients off sound.placed in
    record {
      silent =
          foreign_silent id own s from c came named off sound.good.rest elsewhere
          (all_off id own s.clients sound.placed);
      alike = by_cause c came named elsewhere;
    }
  where
    by_cause : (c : Cause) → CameFrom from c → names id c ≡ false → Each (Elsewhere id from) s.clients
        → Alike id s (next_by s c)
    by_cause (ByConnect place connect) came named elsewhere =
        let c = ByConnect place connect in
        record {
          kept = sym (foreign_kept id s from c came named sound.good.rest elsewhere);
          policy = refl;
          clock = refl;
          up = refl;
          waits =
              sym (mine_behind id s.link.waiting
              (unsubscribes s.policy.limits s.link (released s.clients (clients_next s c)))
              (mine_unsubscribes s.policy.limits id s.link (released s.clients (clients_next s c))));
        }
    by_cause (ByMessage place request) came named elsewhere =
        let c = ByMessage place request in
        record {
          kept = sym (foreign_kept id s from c came named sound.good.rest elsewhere);
          policy = refl;
          clock = refl;
          up = refl;
          waits =
              message_waits id s place request
              (subst (λ a. Each (Elsewhere id a) s.clients) (sym came) elsewhere);
        }
    by_cause (BySource place p) came named elsewhere =
        let c = BySource place p in
        record {
          kept = sym (foreign_kept id s from c came named sound.good.rest elsewhere);
          policy = refl;
          clock = refl;
          up = refl;
          waits =
              sym (mine_behind id s.link.waiting (asked_for s c) (source_waits id s place.ip p));
        }
    by_cause (ByBroken place rule) came named elsewhere =
        let c = ByBroken place rule in
        record {
          kept = sym (foreign_kept id s from c came named sound.good.rest elsewhere);
          policy = refl;
          clock = refl;
          up = refl;
          waits = refl;
        }
    by_cause (ByPacket p) came named elsewhere = absurd came
    by_cause ByUp came named elsewhere = absurd came
    by_cause ByDown came named elsewhere = absurd came
    by_cause ByTake came named elsewhere = absurd came
    by_cause (ByReplace policy) came named elsewhere = absurd came
    by_cause (ByTick clock) came named elsewhere = absurd came
