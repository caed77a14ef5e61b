-- What a datagram from one of its addresses does to a client in two states that it cannot tell apart, where it
-- is no CONNECT.
use Rattle.std.proofs.Common.{◌≡◌, ℕ, Bool, true, false, List, [], ◌∷◌, ◌++◌, refl, ap, sym, ◌∙◌, cond}
use Rattle.std.proofs.Common.{if◌then◌else◌}
use Rattle.std.specs.Prelude.{◌||◌, Option, Some, None}
use Rattle.std.specs.List.{flat_map}
use Rattle.std.specs.Str.{bytes_eq}
use Rattle.sng_frames.specs.declared.messages.publish.Publish.{Publish}
use Rattle.sng_book.specs.declared.address.Address.{Address}
use Rattle.sng_book.specs.declared.decision.Decision.TheVariants as note
use Rattle.sng_book.specs.declared.decision.Who.TheVariants as who
use Rattle.sng_book.specs.declared.outcome.Denial.{Denial}
use Rattle.sng_book.specs.declared.outcome.Outcome.TheVariants.{Denied}
use Rattle.sng_book.specs.declared.out.Out.{Out}
use Rattle.sng_book.specs.declared.out.Out.TheVariants.{Note}
use Rattle.sng_book.specs.Traces.{is_own, trace_of}
use Rattle.sng_history.specs.Causes.{Request, Cause, publish_asked, ByMessage, BySource, ByBroken}
use Rattle.sng_history.specs.Clients.{Client, is_here, is_from}
use Rattle.sng_history.specs.Standing.{released, unsubscribes}
use Rattle.sng_history.specs.State.{State, around}
use Rattle.sng_history.specs.Verdicts.{source_ask}
use Rattle.sng_history.specs.Whole.{part, any_from, stranger_to, drops, frame_row}
use Rattle.sng_history.specs.Lawful.{fixed_for}
use Rattle.sng_history.specs.Steps.{notes_for, outs_by, asked_by_all, asked_for, clients_next}
use Rattle.sng_history.specs.Good.{Each, Distinct}
use Rattle.sng_history.proofs.Own.{each_map, each_with}
use Rattle.sng_history.proofs.Places.{here_is}
use Rattle.sng_history.proofs.SaysUpstream.{foreign_source}
use Rattle.sng_history.proofs.Told.{tells}
use Rattle.sng_isolation.specs.Room.{HasRoom}
use Rattle.sng_isolation.specs.Isolation.{kept_of}
use Rattle.sng_history.proofs.Stayed.{enters_by}
use Rattle.sng_isolation.proofs.Silent.{Silent, silent_off}
use Rattle.sng_isolation.proofs.Alike.{is_mine, mine, Alike, IsPlaced, Sound, GoesOn}
use Rattle.sng_isolation.proofs.Fan.{others_behind, fans}
use Rattle.sng_isolation.proofs.Waits.{mine_behind, mine_both, mine_unsubscribes, asked_other}
use Rattle.sng_isolation.proofs.HiddenLaw.{source_waits}
use Rattle.sng_isolation.proofs.Noted.{message_same}
use Rattle.sng_isolation.proofs.Common.{SameNotes, says_alike, roomy_fixed, rows_common, kept_common}

-- ---- who is where the datagram came from

-- nobody but the client is
pub others_gone : (id : List ℕ) (own : List Address) (from : Address) (x : Client) → is_own own from ≡ true
    → IsPlaced id own x → bytes_eq id x.id ≡ false → is_here x from ≡ false
others_gone id own from x ours placed away = by_here (is_here x from) refl
  where
    by_here : (b : Bool) → is_here x from ≡ b → is_here x from ≡ false
    by_here true here =
        absurd (let e : true ≡ false =
        sym ours ∙ (ap (is_own own) (sym (here_is x from here)) ∙ (placed ∙ away)) in cc)
    by_here false here = here

-- the client is there
abbrev here_of : Address → Option Client → Bool
here_of from None = false
here_of from (Some x) = is_here x from

none_any : (c : Cause) (xs : List Client) → Each (λ x. is_from c x ≡ false) xs → any_from c xs ≡ false
none_any c [] none = refl
none_any c (x ∷ xs) none = ap (λ b. b || any_from c xs) none.0 ∙ none_any c xs none.1

or_no : (b : Bool) → (b || false) ≡ b
or_no true = refl
or_no false = refl

any_own : (id : List ℕ) (own : List Address) (from : Address) (c : Cause) (xs : List Client)
    → ((x : Client) → is_from c x ≡ is_here x from) → is_own own from ≡ true → Distinct xs
    → Each (IsPlaced id own) xs
    → any_from c xs ≡ here_of from (kept_of id xs)
any_own id own from c [] comes ours apart placed = refl
any_own id own from c (x ∷ xs) comes ours apart placed =
    by_one (bytes_eq id x.id) refl (any_own id own from c xs comes ours apart.1 placed.1)
  where
    by_one : (b : Bool) → bytes_eq id x.id ≡ b → any_from c xs ≡ here_of from (kept_of id xs)
        → (is_from c x || any_from c xs) ≡ here_of from (cond b (Some x) (kept_of id xs))
    by_one true is rest =
        ap (λ b. is_from c x || b) (none_any c xs
        (each_with (λ y. bytes_eq id y.id ≡ false) (IsPlaced id own) (λ y. is_from c y ≡ false) xs
        (λ y away at. comes y ∙ others_gone id own from y ours at away) (others_behind id x xs is apart.0)
        placed.1))
        ∙ (or_no (is_from c x) ∙ comes x)
    by_one false is rest =
        ap (λ b. b || any_from c xs) (comes x ∙ others_gone id own from x ours placed.0 is) ∙ rest

-- ---- the row of a client, or of a stranger

frame_common : (id : List ℕ) (own : List Address) (s t : State) (from : Address) (c : Cause)
    (stranger : List Out)
    → ((x : Client) → is_from c x ≡ is_here x from) → ((x : Client) → enters_by c x ≡ false)
    → is_own own from ≡ true → Sound id own s → Sound id own t → Alike id s t → SameNotes id s t c
    → trace_of id own (frame_row s c stranger (notes_for s c))
    ≡ trace_of id own (frame_row t c stranger (notes_for t c))
frame_common id own s t from c stranger comes others ours sound also alike notes =
    let rows : List Out =
    flat_map (λ x. part (around s c) (drops s c (notes_for s c)) (fixed_for s c x) x) s.clients in
    let more : List Out =
    flat_map (λ x. part (around t c) (drops t c (notes_for t c)) (fixed_for t c x) x) t.clients in
    let any : any_from c s.clients ≡ any_from c t.clients =
    any_own id own from c s.clients comes ours sound.good.apart sound.placed
    ∙ (ap (here_of from) alike.kept
    ∙ sym (any_own id own from c t.clients comes ours also.good.apart also.placed)) in
    ap (λ b. trace_of id own (if b then rows else stranger)) any
    ∙ by_any (any_from c t.clients) rows more
    (rows_common id own s t c (drops s c (notes_for s c)) (drops t c (notes_for t c)) others sound also alike
    notes)
  where
    by_any : (b : Bool) (rows more : List Out) → trace_of id own rows ≡ trace_of id own more
        → trace_of id own (if b then rows else stranger) ≡ trace_of id own (if b then more else stranger)
    by_any true rows more same = same
    by_any false rows more same = refl

-- ---- a message

asked_common : (id : List ℕ) (own : List Address) (s t : State) (from : Address) (request : Request)
    → Sound id own s → Sound id own t → Alike id s t → SameNotes id s t (ByMessage from request)
    → mine id (asked_for s (ByMessage from request)) ≡ mine id (asked_for t (ByMessage from request))
asked_common id own s t from request sound also alike notes =
    let c = ByMessage from request in
    let p = publish_asked request in
    fans (is_mine id) id (λ x. asked_by_all p (fixed_for s c x)) (λ x. asked_by_all p (fixed_for t c x))
    s.clients t.clients sound.good.apart also.good.apart
    (each_map (IsPlaced id own) (λ x. bytes_eq id x.id ≡ false
    → mine id (asked_by_all p (fixed_for s c x)) ≡ []) s.clients
    (λ x at away. asked_other id x.id p (fixed_for s c x) away (tells s c x)) sound.placed)
    (each_map (IsPlaced id own) (λ x. bytes_eq id x.id ≡ false
    → mine id (asked_by_all p (fixed_for t c x)) ≡ []) t.clients
    (λ x at away. asked_other id x.id p (fixed_for t c x) away (tells t c x)) also.placed)
    alike.kept (λ x is it. ap (λ some. mine id (asked_by_all p some)) (notes x is it))

ends_same : (id : List ℕ) (s t : State) (c : Cause)
    → mine id (unsubscribes s.policy.limits s.link (released s.clients (clients_next s c)))
    ≡ mine id (unsubscribes t.policy.limits t.link (released t.clients (clients_next t c)))
ends_same id s t c =
    mine_unsubscribes s.policy.limits id s.link (released s.clients (clients_next s c))
    ∙ sym (mine_unsubscribes t.policy.limits id t.link (released t.clients (clients_next t c)))

pub common_message : (id : List ℕ) (own : List Address) (s t : State) (from : Address) (request : Request)
    → Sound id own s → Sound id own t → Alike id s t → is_own own from ≡ true
    → HasRoom id (outs_by s (ByMessage from request)) → HasRoom id (outs_by t (ByMessage from request))
    → GoesOn id own s t (ByMessage from request) (ByMessage from request)
common_message id own s t from request sound also alike ours room other =
    let c = ByMessage from request in
    let notes : SameNotes id s t c =
    λ x is it. message_same s t from request x (says_alike id s t x alike is) alike.up
    (roomy_fixed id s c x sound.good room is) (roomy_fixed id t c x also.good other it) in
    record {
      traces =
          frame_common id own s t from c (stranger_to from request) (λ x. refl) (λ x. refl) ours sound also alike
          notes;
      alike = record {
        kept = kept_common id s t c refl alike notes;
        policy = alike.policy;
        clock = alike.clock;
        up = alike.up;
        waits =
            mine_both id s.link.waiting
            (asked_for s c ++ unsubscribes s.policy.limits s.link (released s.clients (clients_next s c)))
            t.link.waiting
            (asked_for t c ++ unsubscribes t.policy.limits t.link (released t.clients (clients_next t c)))
            alike.waits
            (mine_both id (asked_for s c) (unsubscribes s.policy.limits s.link
            (released s.clients (clients_next s c)))
            (asked_for t c) (unsubscribes t.policy.limits t.link (released t.clients (clients_next t c)))
            (asked_common id own s t from request sound also alike notes) (ends_same id s t c));
      };
    }

-- ---- what is no message

pub common_broken : (id : List ℕ) (own : List Address) (s t : State) (from : Address) (rule : Denial)
    → Sound id own s → Sound id own t → Alike id s t → is_own own from ≡ true
    → GoesOn id own s t (ByBroken from rule) (ByBroken from rule)
common_broken id own s t from rule sound also alike ours =
    let c = ByBroken from rule in
    record {
      traces =
          frame_common id own s t from c (Note (note.Frame (who.Address from) (Denied rule)) ∷ []) (λ x. refl)
          (λ x. refl) ours sound also alike (λ x is it. refl);
      alike = record {
        kept = kept_common id s t c refl alike (λ x is it. refl);
        policy = alike.policy;
        clock = alike.clock;
        up = alike.up;
        waits = alike.waits;
      };
    }

-- ---- a PUBLISH without a session, which is a source's

source_silent : (id : List ℕ) (own : List Address) (s : State) (from : Address) (p : Publish)
    → Silent id own (outs_by s (BySource from p))
source_silent id own s from p =
    let says = foreign_source s from.ip p in
    silent_off id own (Note (source_ask s from.ip p) ∷ []) tt (says.notes id) says.exits

pub common_source : (id : List ℕ) (own : List Address) (s t : State) (from : Address) (p : Publish)
    → Sound id own s → Sound id own t → Alike id s t
    → GoesOn id own s t (BySource from p) (BySource from p)
common_source id own s t from p sound also alike =
    let c = BySource from p in
    record {
      traces = source_silent id own s from p ∙ sym (source_silent id own t from p);
      alike = record {
        kept = kept_common id s t c refl alike (λ x is it. refl);
        policy = alike.policy;
        clock = alike.clock;
        up = alike.up;
        waits =
            mine_behind id s.link.waiting (asked_for s c) (source_waits id s from.ip p)
            ∙ (alike.waits
            ∙ sym (mine_behind id t.link.waiting (asked_for t c) (source_waits id t from.ip p)));
      };
    }
