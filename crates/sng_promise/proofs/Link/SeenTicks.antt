-- The wills that wait for the broker after a tick are those that the rows show: of each client that the row
-- says is lost, unless it says that its will found no place.
use Rattle.std.proofs.Common.{◌≡◌, ℕ, Bool, true, false, List, [], ◌∷◌, ◌++◌, refl, ap, sym, ◌∙◌, subst}
use Rattle.std.proofs.Common.{if◌then◌else◌}
use Rattle.std.specs.Prelude.{Option, Some, None, slice_get}
use Rattle.std.specs.List.{flat_map}
use Rattle.std.proofs.lemmas.Grind.{flat_map-append}
use Rattle.std.proofs.lemmas.List.{append_assoc, append-nil}
use Rattle.sng_grants.specs.Limits.{Limits}
use Rattle.sng_outbox.specs.declared.item.Publication.{Publication}
use Rattle.sng_queue.specs.Messages.{Message}
use Rattle.sng_book.specs.declared.address.Address.{Address}
use Rattle.sng_book.specs.declared.decision.Decision.{Decision}
use Rattle.sng_book.specs.declared.decision.Decision.TheVariants as note
use Rattle.sng_book.specs.declared.outcome.Outcome.{Outcome}
use Rattle.sng_book.specs.declared.outcome.Outcome.TheVariants.{Allowed, Denied}
use Rattle.sng_book.specs.declared.out.Out.{Out}
use Rattle.sng_book.specs.declared.row.Row.{Row}
use Rattle.sng_history.specs.Causes.{ByTick}
use Rattle.sng_history.specs.Clients.{Around, Client, lost, note_by, is_drained, notes_by}
use Rattle.sng_history.specs.Handing.{Known, known_as, front, handed_outs, announced_again, repeated_outs}
use Rattle.sng_history.specs.Good.{Each, Distinct}
use Rattle.sng_history.specs.Lawful.{fixed_for}
use Rattle.sng_history.specs.Links.{Link}
use Rattle.sng_history.specs.Losing.{before, unplaced, will_dropped, lost_notes, again_notes}
use Rattle.sng_history.specs.Notes.{notes_of}
use Rattle.sng_history.specs.Outgoing.{all_gone}
use Rattle.sng_history.specs.Room.{room_in}
use Rattle.sng_history.specs.State.{State, around, later}
use Rattle.sng_history.specs.Ticking.{will_of, testament, testaments, all_placed}
use Rattle.sng_history.specs.Ticking.{is_lost_at}
use Rattle.sng_history.specs.Whole.{frames_of, spell, part, drained_outs}
use Rattle.sng_laws.specs.ViewsLink.{testament_by}
use Rattle.sng_laws.specs.ViewsLink.{testaments_in}
use Rattle.sng_laws.specs.ViewsWills as views
use Rattle.sng_history.proofs.Hands.{Every, OfMessages, every_append, every_gone}
use Rattle.sng_history.specs.Answers.{pong}
use Rattle.sng_queue.specs.declared.exchange.Exchange.{Exchange}
use Rattle.sng_queue.specs.declared.exchange.Exchange.TheVariants.{Announcing, Acknowledging}
use Rattle.sng_queue.specs.declared.exchange.Sending.{Sending}
use Rattle.sng_queue.specs.Buffers.{Buffer}
use Rattle.sng_history.proofs.Statements.{every_again}
use Rattle.sng_promise.proofs.Link.SeenPlaced.{laid, laid_append, lost_laid}
use Rattle.sng_history.proofs.WillsPlaced.{placed_append}
use Rattle.sng_history.proofs.WillsPlaced.{before_is}

-- ---- what a row says of one client

-- a note that asks for no will, nor does what follows it
abbrev Bare : Around → List Row → List Out → Decision → Type 0
Bare a h all said =
    (x : Client) (rest : List Out)
    → testament_by h all said ++ testaments_in h all (frames_of a [] x said ++ rest)
    ≡ testaments_in h all rest

handed_bare : (h : List Row) (all : List Out) (to : Address) (number : ℕ) (m : Option Message)
    (known : Option Known) (rest : List Out)
    → testaments_in h all (handed_outs to number m known ++ rest) ≡ testaments_in h all rest
handed_bare h all to number None known rest = refl
handed_bare h all to number (Some m) None rest = refl
handed_bare h all to number (Some m) (Some known) rest = refl

hand_bare : (a : Around) (h : List Row) (all : List Out) (client name : List ℕ) (o : Outcome)
    → Bare a h all (note.Hand client name o)
hand_bare a h all client name Allowed x rest =
    handed_bare h all x.address x.number (front x.buffer) (known_as a.policy x.ids name) rest
hand_bare a h all client name (Denied rule) x rest = refl

bare_messages : (a : Around) (h : List Row) (all : List Out) (client : List ℕ)
    → OfMessages (Bare a h all) client
bare_messages a h all client = record { announces = λ name x rest. refl; hands = hand_bare a h all client }

spell_bare : (a : Around) (h : List Row) (all : List Out) (x : Client) (notes : List Decision)
    (rest : List Out)
    → Every (Bare a h all) notes
    → testaments_in h all (spell a [] x notes ++ rest) ≡ testaments_in h all rest
spell_bare a h all x [] rest every = refl
spell_bare a h all x (said ∷ notes) rest every =
    let y = note_by a said x in
    ap (λ outs. testament_by h all said ++ testaments_in h all outs)
    (append_assoc (frames_of a [] x said) (spell a [] y notes) rest)
    ∙ (every.0 x (spell a [] y notes ++ rest) ∙ spell_bare a h all y notes rest every.1)

-- at a tick
abbrev pub tick_around : State → ℕ → Around
tick_around s clock = around s (ByTick clock)

unplaced_bare : (s : State) (clock : ℕ) (h : List Row) (all : List Out) (id : List ℕ) (p : Publication)
    (o : Outcome)
    → Every (Bare (tick_around s clock) h all) (unplaced id p o)
unplaced_bare s clock h all id p Allowed = tt
unplaced_bare s clock h all id p (Denied rule) = ((λ x rest. refl), tt)

dropped_bare : (limits : Limits) (s : State) (clock : ℕ) (h : List Row) (all : List Out) (link : Link) (id : List ℕ)
    (ps : List Publication)
    → Every (Bare (tick_around s clock) h all) (will_dropped limits link id ps)
dropped_bare limits s clock h all link id [] = tt
dropped_bare limits s clock h all link id (p ∷ ps) = unplaced_bare s clock h all id p (room_in limits link p.qos)

lost_spelled : (limits : Limits) (s : State) (clock : ℕ) (h : List Row) (all : List Out) (link : Link) (x : Client)
    (rest : List Out)
    → testaments_in h all (spell (tick_around s clock) [] x (lost_notes limits link x) ++ rest)
    ≡ testament_by h all (note.Lost x.id) ++ testaments_in h all rest
lost_spelled limits s clock h all link x rest =
    let a = tick_around s clock in
    let gone = all_gone x.id x.buffer.waiting in
    let dropped = will_dropped limits link x.id (will_of x.id x.wills.will) in
    ap (λ more. testament_by h all (note.Lost x.id) ++ more)
    (spell_bare a h all (lost x) (gone ++ dropped) rest
    (every_append (Bare a h all) gone dropped
    (every_gone (Bare a h all) x.id x.buffer.waiting (bare_messages a h all x.id))
    (dropped_bare limits s clock h all link x.id (will_of x.id x.wills.will))))

abbrev pub tick_part : State → ℕ → Client → List Out
tick_part s clock x = part (tick_around s clock) [] (fixed_for s (ByTick clock) x) x

-- what is open is sent again
announced_bare : (h : List Row) (all : List Out) (to : Address) (sent : Sending) (m : Option Message)
    (rest : List Out)
    → testaments_in h all (announced_again to sent m ++ rest) ≡ testaments_in h all rest
announced_bare h all to sent None rest = refl
announced_bare h all to sent (Some m) rest = refl

repeated_bare : (h : List Row) (all : List Out) (to : Address) (b : Buffer) (open_one : Option Exchange)
    (rest : List Out)
    → testaments_in h all (repeated_outs to b open_one ++ rest) ≡ testaments_in h all rest
repeated_bare h all to b None rest = refl
repeated_bare h all to b (Some (Announcing sent)) rest =
    announced_bare h all to sent (slice_get b.waiting 0) rest
repeated_bare h all to b (Some (Acknowledging sent k m)) rest = refl

again_bare : (a : Around) (h : List Row) (all : List Out) (client name : List ℕ) (o : Outcome)
    → Bare a h all (note.Retry client name o)
again_bare a h all client name Allowed x rest = repeated_bare h all x.address x.buffer x.buffer.exchange rest
again_bare a h all client name (Denied rule) x rest = refl

again_spelled : (s : State) (clock : ℕ) (h : List Row) (all : List Out) (x : Client) (rest : List Out)
    → testaments_in h all (spell (tick_around s clock) [] x (again_notes s.policy (later s.clock clock) x)
    ++ rest)
    ≡ testaments_in h all rest
again_spelled s clock h all x rest =
    let a = tick_around s clock in
    spell_bare a h all x (again_notes s.policy (later s.clock clock) x) rest
    (every_again (Bare a h all) s.policy (later s.clock clock) x
    (record { again = again_bare a h all x.id; messages = bare_messages a h all x.id }))

drained_bare : (h : List Row) (all : List Out) (z : Client) (rest : List Out)
    → testaments_in h all (drained_outs z ++ rest) ≡ testaments_in h all rest
drained_bare h all z rest = by_drained (is_drained z)
  where
    by_drained : (b : Bool) → testaments_in h all ((if b then pong z.address ∷ [] else []) ++ rest)
        ≡ testaments_in h all rest
    by_drained true = refl
    by_drained false = refl

part_laid : (s : State) (clock : ℕ) (h : List Row) (all : List Out) (link : Link) (x : Client)
    (rest : List Out) (b : Bool)
    → notes_of x.id all ≡ (if b then lost_notes s.policy.limits link x else again_notes s.policy
    (later s.clock clock) x)
    → x.wills.will ≡ views.will_of x.id h
    → testaments_in h all
    (spell (tick_around s clock) [] x
    (if b then lost_notes s.policy.limits link x else again_notes s.policy (later s.clock clock) x) ++ rest)
    ≡ laid s.policy.limits link (if b then will_of x.id x.wills.will else []) ++ testaments_in h all rest
part_laid s clock h all link x rest true own shown =
    lost_spelled s.policy.limits s clock h all link x rest
    ∙ ap (λ first. first ++ testaments_in h all rest) (lost_laid s.policy.limits h all link x own shown)
part_laid s clock h all link x rest false own shown = again_spelled s clock h all x rest

-- ---- all clients

-- what is noted of each is what the tick fixes, and its will is shown
pub record Said (s : State) (clock : ℕ) (h : List Row) (all : List Out) (x : Client) : Type 0 where
  pub own : notes_of x.id all ≡ fixed_for s (ByTick clock) x
  pub will : x.wills.will ≡ views.will_of x.id h

rows_laid : (s : State) (clock : ℕ) (h : List Row) (all : List Out) (done rest : List Client)
    (more : List Out) → s.clients ≡ done ++ rest
    → Distinct (done ++ rest)
    → Each (Said s clock h all) rest
    → let now = later s.clock clock in
    testaments_in h all (flat_map (tick_part s clock) rest ++ more)
    ≡ laid s.policy.limits (all_placed s.policy.limits s.link (testaments now done)) (testaments now rest)
    ++ testaments_in h all more
rows_laid s clock h all done [] more is apart said = refl
rows_laid s clock h all done (x ∷ rest) more is apart said =
    let now = later s.clock clock in
    let left = all_placed s.policy.limits s.link (testaments now done) in
    let outs = flat_map (tick_part s clock) rest ++ more in
    let z = notes_by (tick_around s clock) (fixed_for s (ByTick clock) x) x in
    let known : before x.id s.clients ≡ done = ap (before x.id) is ∙ before_is done x rest apart in
    let own =
    subst
    (λ ids. notes_of x.id all
    ≡ (if is_lost_at now x then lost_notes s.policy.limits (all_placed s.policy.limits s.link (testaments now ids)) x
    else again_notes s.policy now x)) known said.0.own in
    let next = done ++ x ∷ [] in
    let shifted : done ++ x ∷ rest ≡ next ++ rest = sym (append_assoc done (x ∷ []) rest) in
    let after : all_placed s.policy.limits s.link (testaments now next)
    ≡ all_placed s.policy.limits left (testament now x) =
    ap (all_placed s.policy.limits s.link)
    (flat_map-append (testament now) done (x ∷ [])
    ∙ ap (λ ps. testaments now done ++ ps) (append-nil (testament now x)))
    ∙ placed_append s.policy.limits s.link (testaments now done) (testament now x) in
    ap (testaments_in h all) (append_assoc (tick_part s clock x) (flat_map (tick_part s clock) rest) more)
    ∙ (ap (testaments_in h all) (append_assoc
    (spell (tick_around s clock) [] x (fixed_for s (ByTick clock) x)) (drained_outs z) outs)
    ∙ (ap
    (λ ids. testaments_in h all
    (spell (tick_around s clock) [] x
    (if is_lost_at now x then lost_notes s.policy.limits (all_placed s.policy.limits s.link (testaments now ids)) x
    else again_notes s.policy now x) ++
    (drained_outs z ++ outs))) known
    ∙ (part_laid s clock h all left x (drained_outs z ++ outs) (is_lost_at now x) own said.0.will
    ∙ (ap (λ wills. laid s.policy.limits left (testament now x) ++ wills)
    (drained_bare h all z outs
    ∙ rows_laid s clock h all next rest more (is ∙ shifted) (subst Distinct shifted apart) said.1
    ∙ ap (λ link. laid s.policy.limits link (testaments now rest) ++ testaments_in h all more) after)
    ∙ (sym
    (append_assoc (laid s.policy.limits left (testament now x))
    (laid s.policy.limits (all_placed s.policy.limits left (testament now x)) (testaments now rest))
    (testaments_in h all more))
    ∙ ap (λ wills. wills ++ testaments_in h all more)
    (sym (laid_append s.policy.limits left (testament now x) (testaments now rest))))))))

-- the wills of a tick
pub tick_laid : (s : State) (clock : ℕ) (h : List Row) (all more : List Out) → Distinct s.clients
    → Each (Said s clock h all) s.clients
    → testaments_in h all (flat_map (tick_part s clock) s.clients ++ more)
    ≡ laid s.policy.limits s.link (testaments (later s.clock clock) s.clients) ++ testaments_in h all more
tick_laid s clock h all more apart said = rows_laid s clock h all [] s.clients more refl apart said
