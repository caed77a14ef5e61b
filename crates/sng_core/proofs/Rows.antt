-- The row and the next state of an event, as code makes them: by whom it finds, of each kind of message, and
-- of a DISCONNECT.
use Rattle.std.proofs.Common.{◌≡◌, ℕ, Bool, true, false, List, [], ◌∷◌, ◌++◌, map, refl, ap, sym}
use Rattle.std.proofs.Common.{◌∙◌, subst}
use Rattle.std.specs.Prelude.{if◌then◌else◌, slice_get, Option, Some, None}
use Rattle.std.specs.List.{flat_map}
use Rattle.std.proofs.lemmas.List.{append-nil}
use Rattle.sng_fan.specs.Subscriptions.{stands}
use Rattle.sng_book.specs.declared.address.Address.{Address}
use Rattle.sng_book.specs.declared.decision.Who.TheVariants as who
use Rattle.sng_book.specs.declared.outcome.Denial.{Denial}
use Rattle.sng_book.specs.declared.outcome.Denial.TheVariants.{Peer}
use Rattle.sng_book.specs.declared.outcome.PeerDenial.TheVariants.{Gone}
use Rattle.sng_book.specs.declared.outcome.Outcome.TheVariants.{Denied}
use Rattle.sng_book.specs.declared.out.Out.{Out}
use Rattle.sng_book.specs.declared.out.Out.TheVariants.{Note}
use Rattle.sng_book.specs.declared.decision.Decision.TheVariants as note
use Rattle.sng_history.specs.Causes.{Request, ToLeave, Cause, ByMessage}
use Rattle.sng_history.specs.Causes.{ByBroken}
use Rattle.sng_queue.specs.Messages.{Message as Mail}
use Rattle.sng_history.specs.Outgoing.{all_gone}
use Rattle.sng_history.proofs.Hands.{gone_stays}
use Rattle.sng_turns.specs.HandingOver.{gone_outs}
use Rattle.sng_history.specs.Clients.{Client, Around, is_here, is_from, note_by}
use Rattle.sng_history.specs.State.{State, around}
use Rattle.sng_history.specs.Standing.{Release}
use Rattle.sng_history.specs.Answers.{dismissed}
use Rattle.sng_history.specs.Whole.{spell, stranger_to, any_from}
use Rattle.sng_history.specs.Lawful.{fixed_for}
use Rattle.sng_history.specs.Steps.{outs_by, client_next, next_by}
use Rattle.sng_history.specs.Links.{Link}
use Rattle.sng_history.specs.Good.{AtRest, Good}
use Rattle.sng_history.proofs.SaysParts.{part_for, row_for, drops_for}
use Rattle.sng_history.proofs.Endless.{Endless}
use Rattle.sng_history.proofs.EndlessRequests.{is_still, still_endless}
use Rattle.sng_history.proofs.EndlessAsks.{is_quiet}
use Rattle.sng_history.proofs.Endless.{endless_drops}
use Rattle.sng_history.proofs.EndlessAsks.{still_link}
use Rattle.sng_history.proofs.GoodNext.{good_next}
use Rattle.sng_history.proofs.Steady.{client_filters}
use Rattle.sng_history.proofs.Holding.{broken_unmoved}
use Rattle.sng_core.specs.Forms.{place_at, client_at, at_place, moved_if, found_outs, heard_at, left_at}
use Rattle.sng_core.specs.Forms.{left_outs}
use Rattle.sng_sessions.specs.Moving.{moved_at}
use Rattle.sng_core.proofs.Plain.{Busy, plain_next, plain_part, plain_moves, plain_row, all_busy}
use Rattle.sng_core.proofs.Found.{each_at, found_here, nobody_here, one_outs_at}
use Rattle.sng_core.proofs.Found.{one_moves_at, no_moves_at, moved_same, any_here, none_here, read_at, within}

-- the cause lets these outs out and leads to this state, which is good
pub record Makes (s : State) (c : Cause) (row : List Out) (after : State) : Type 0 where
  pub outs : row ≡ outs_by s c
  pub next : after ≡ next_by s c
  pub good : Good after

pub makes : (s : State) (c : Cause) (outs : List Out) (after : State) → Good s → outs ≡ outs_by s c
    → after ≡ next_by s c → Makes s c outs after
makes s c outs after good is to =
    record { outs = is; next = to; good = subst Good (sym to) (good_next s c good) }

-- a message of one client at the address, which ends no subscription; beside the clients it leads to this
-- state
pub record Message (s : State) (c : Cause) (from : Address) (stranger : List Out)
    (base : State) : Type 0 where
  pub of : (y : Client) → is_from c y ≡ is_here y from
  pub quiet : (y : Client) → is_here y from ≡ false → Busy y → part_for s c [] y ≡ []
  pub same : (y : Client) → is_here y from ≡ false → Busy y → client_next s c y ≡ y
  pub kept : drops_for s c ≡ []
  pub outs : outs_by s c ≡ row_for s c stranger
  pub next : next_by s c ≡ record base { clients = map (client_next s c) (s.clients ++ []) }

abbrev pub with_clients : State → List Client → State
with_clients s xs = record s { clients = xs }

-- the row of those at the address, or of nobody
abbrev row_by : State → Cause → List Out → Bool → List Release → List Out
row_by s c stranger any dropped = if any then flat_map (part_for s c dropped) s.clients else stranger

-- it comes from this client
pub found_row : (s : State) (c : Cause) (from : Address) (stranger : List Out) (base : State) (i : ℕ)
    (x : Client) (outs : List Out) (g : Client → Client)
    → Good s → Message s c from stranger base → place_at from s.clients ≡ Some i
    → slice_get s.clients i ≡ Some x
    → (is_here x from ≡ true → outs ≡ part_for s c [] x) → (is_here x from ≡ true → g x ≡ client_next s c x)
    → Makes s c outs (record base { clients = moved_at i g s.clients })
found_row s c from stranger base i x outs g good m at read is moves =
    let here = found_here from s.clients i x at read in
    let busy = all_busy s.clients good.rest in
    let any : any_from c s.clients ≡ true = any_here c from s.clients i x m.of read here in
    makes s c outs (record base { clients = moved_at i g s.clients }) good
    (is here
    ∙ (sym (one_outs_at from (part_for s c []) s.clients i x m.quiet busy good.places read here)
    ∙ (sym (ap (λ dropped. row_by s c stranger true dropped) m.kept)
    ∙ (sym (ap (λ b. row_by s c stranger b (drops_for s c)) any) ∙ sym m.outs))))
    (ap (with_clients base) (moved_same g (client_next s c) s.clients i x read (moves here)
    ∙ (sym (one_moves_at from (client_next s c) s.clients i x m.same busy good.places read here)
    ∙ sym (ap (map (client_next s c)) (append-nil s.clients)))) ∙ sym m.next)

-- which is busy behind its notes, as it was before
pub busy_row : (s : State) (c : Cause) (from : Address) (stranger : List Out) (base : State) (i : ℕ)
    (x : Client) (outs : List Out) (g : Client → Client)
    → Good s → Message s c from stranger base → place_at from s.clients ≡ Some i
    → slice_get s.clients i ≡ Some x
    → (is_here x from ≡ true → outs ≡ plain_part s c [] x) → (is_here x from ≡ true → g x ≡ plain_next s c x)
    → (is_here x from ≡ true → AtRest x → Busy (g x))
    → Makes s c outs (record base { clients = moved_at i g s.clients })
busy_row s c from stranger base i x outs g good m at read is moves busy =
    let rest = each_at AtRest s.clients i x good.rest read in
    let still : is_here x from ≡ true → Busy (plain_next s c x) =
    λ here. subst Busy (moves here) (busy here rest) in
    found_row s c from stranger base i x outs g good m at read
    (λ here. is here ∙ sym (plain_row s c [] x (still here)))
    (λ here. moves here ∙ sym (plain_moves s c x (still here)))

-- or from nobody
pub stranger_row : (s : State) (c : Cause) (from : Address) (stranger : List Out) (base : State) → Good s
    → Message s c from stranger base
    → place_at from s.clients ≡ None → Makes s c stranger (record base { clients = s.clients })
stranger_row s c from stranger base good m at =
    let none = nobody_here from s.clients at in
    let any : any_from c s.clients ≡ false = none_here c from s.clients m.of none in
    makes s c stranger (record base { clients = s.clients }) good
    (sym (ap (λ b. row_by s c stranger b (drops_for s c)) any) ∙ sym m.outs)
    (ap (with_clients base) (sym (no_moves_at from (client_next s c) s.clients m.same
    (all_busy s.clients good.rest) none)
    ∙ sym (ap (map (client_next s c)) (append-nil s.clients))) ∙ sym m.next)

-- from whomever it comes
pub message_row : (s : State) (c : Cause) (from : Address) (stranger : List Out) (f : Client → List Out)
    (g : Client → Client) (place : Option ℕ)
    → Good s → Message s c from stranger s → place_at from s.clients ≡ place
    → ((x : Client) → is_here x from ≡ true → f x ≡ plain_part s c [] x)
    → ((x : Client) → is_here x from ≡ true → g x ≡ plain_next s c x)
    → ((x : Client) → is_here x from ≡ true → AtRest x → Busy (g x))
    → Makes s c (found_outs stranger f (at_place s.clients place))
    (record s { clients = moved_if place g s.clients })
message_row s c from stranger f g None good m at is moves busy = stranger_row s c from stranger s good m at
message_row s c from stranger f g (Some i) good m at is moves busy =
    let x = client_at s.clients i in
    busy_row s c from stranger s i x (f x) g good m at (read_at s.clients i (within from s.clients i at))
    (is x) (moves x) (busy x)

-- by which a client may fall asleep again
pub drain_row : (s : State) (c : Cause) (from : Address) (stranger : List Out) (f : Client → List Out)
    (g : Client → Client) (place : Option ℕ)
    → Good s → Message s c from stranger s → place_at from s.clients ≡ place
    → ((x : Client) → is_here x from ≡ true → AtRest x → f x ≡ part_for s c [] x)
    → ((x : Client) → is_here x from ≡ true → AtRest x → g x ≡ client_next s c x)
    → Makes s c (found_outs stranger f (at_place s.clients place))
    (record s { clients = moved_if place g s.clients })
drain_row s c from stranger f g None good m at is moves = stranger_row s c from stranger s good m at
drain_row s c from stranger f g (Some i) good m at is moves =
    let x = client_at s.clients i in
    let read = read_at s.clients i (within from s.clients i at) in
    let rest = each_at AtRest s.clients i x good.rest read in
    found_row s c from stranger s i x (f x) g good m at read (λ here. is x here rest)
    (λ here. moves x here rest)

-- ---- what falls asleep again

-- it stands as before, with what waits and is open
pub heard_busy : (clock : ℕ) (x : Client) → AtRest x → Busy (heard_at clock x)
heard_busy clock x rest = rest.busy

-- ---- each kind of message

abbrev pub with_link : State → Link → State
with_link s link = record s { link = link }

-- those who are not at the address are as they were
off_quiet : (s : State) (from : Address) (request : Request) (y : Client) → is_here y from ≡ false
    → plain_part s (ByMessage from request) [] y ≡ []
off_quiet s from request y off = rw off refl

pub off_same : (s : State) (from : Address) (request : Request) (y : Client) → is_here y from ≡ false
    → plain_next s (ByMessage from request) y ≡ y
off_same s from request y off = rw off refl

-- one that ends nothing
pub request_message : (s : State) (from : Address) (request : Request) (link : Link)
    → Endless s (ByMessage from request) → (next_by s (ByMessage from request)).link ≡ link
    → Message s (ByMessage from request) from (stranger_to from request) (record s { link = link })
request_message s from request link e is =
    let c = ByMessage from request in
    record {
      of = λ y. refl;
      quiet =
          λ y off busy. plain_row s c [] y (subst Busy (sym (off_same s from request y off)) busy)
          ∙ off_quiet s from request y off;
      same =
          λ y off busy. plain_moves s c y (subst Busy (sym (off_same s from request y off)) busy)
          ∙ off_same s from request y off;
      kept = endless_drops s c e;
      outs = refl;
      next =
          ap (λ l. let t : State = record s { link = l; clients = map (client_next s c) (s.clients ++ []) } in
          t) is;
    }

-- one that asks for nothing, either
pub still_message : (s : State) (from : Address) (request : Request) → Good s → is_still request ≡ true
    → is_quiet request ≡ true → Message s (ByMessage from request) from (stranger_to from request) s
still_message s from request good still quiet =
    let e = still_endless s from request still in
    request_message s from request s.link e (still_link s from request good e quiet)

abbrev pub broken_from : Address → Denial → List Out
broken_from from rule = Note (note.Frame (who.Address from) (Denied rule)) ∷ []

off_outs : (s : State) (from : Address) (rule : Denial) (y : Client) → is_here y from ≡ false
    → plain_part s (ByBroken from rule) [] y ≡ []
off_outs s from rule y off = rw off refl

off_moves : (s : State) (from : Address) (rule : Denial) (y : Client) → is_here y from ≡ false
    → plain_next s (ByBroken from rule) y ≡ y
off_moves s from rule y off = rw off refl

pub broken_message : (s : State) (from : Address) (rule : Denial)
    → Message s (ByBroken from rule) from (broken_from from rule) s
broken_message s from rule =
    let c = ByBroken from rule in
    record {
      of = λ y. refl;
      quiet =
          λ y off busy. plain_row s c [] y (subst Busy (sym (off_moves s from rule y off)) busy)
          ∙ off_outs s from rule y off;
      same =
          λ y off busy. plain_moves s c y (subst Busy (sym (off_moves s from rule y off)) busy)
          ∙ off_moves s from rule y off;
      kept =
          endless_drops s c (
            refl,
            λ x text is. ap (λ held. stands held text)
                (client_filters (around s c) (fixed_for s c x) x
                ∙ broken_unmoved s from rule x (is_here x from))
                ∙ is,
          );
      outs = refl;
      next = refl;
    }

-- ---- a DISCONNECT

-- what is gone is noted, whatever the client is by then
pub gone_spelled : (a : Around) (id : List ℕ) (waiting : List Mail) (y : Client)
    → spell a [] y (all_gone id waiting) ≡ gone_outs id waiting
gone_spelled a id [] y = refl
gone_spelled a id (m ∷ waiting) y =
    ap (λ outs. Note (note.Hand id m.name (Denied (Peer Gone))) ∷ outs)
    (gone_spelled a id waiting (note_by a (note.Hand id m.name (Denied (Peer Gone))) y))

pub leave_row : (s : State) (from : Address) → Good s
    → Makes s (ByMessage from ToLeave)
    (found_outs (stranger_to from ToLeave) left_outs (at_place s.clients (place_at from s.clients)))
    (record s { clients = moved_if (place_at from s.clients) (left_at s.clock) s.clients })
leave_row s from good =
    message_row s (ByMessage from ToLeave) from (stranger_to from ToLeave) left_outs (left_at s.clock)
    (place_at from s.clients) good (still_message s from ToLeave good refl refl) refl
    (λ x here. rw here (ap (λ outs. Note (note.Left x.id) ∷ dismissed x.address ∷ outs)
    (sym (gone_spelled (around s (ByMessage from ToLeave)) x.id x.buffer.waiting (left_at s.clock x)))))
    (λ x here. rw here (sym (gone_stays (around s (ByMessage from ToLeave)) x.id x.buffer.waiting
    (left_at s.clock x) refl)))
    (λ x here rest. refl)
