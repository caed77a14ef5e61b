-- A client falls asleep again only where nothing is left for it; any other is as its notes leave it, and lets
-- out just what they say.
use Rattle.std.proofs.Common.{◌≡◌, false, List, [], ◌∷◌, ◌++◌, ap, ◌∙◌}
use Rattle.std.specs.Prelude.{if◌then◌else◌, ◌&&◌, is_none, slice_get}
use Rattle.std.proofs.lemmas.List.{append-nil}
use Rattle.sng_states.specs.States.{is_awake}
use Rattle.sng_book.specs.declared.out.Out.{Out}
use Rattle.sng_history.specs.Causes.{Cause, request_of}
use Rattle.sng_history.specs.Clients.{Client, is_author, start_by, notes_by, is_drained}
use Rattle.sng_history.specs.Answers.{pong}
use Rattle.sng_history.specs.Lawful.{fixed_for}
use Rattle.sng_history.specs.Standing.{Release}
use Rattle.sng_history.specs.State.{State, around}
use Rattle.sng_history.specs.Steps.{client_next}
use Rattle.sng_history.specs.Whole.{answer, spell, drained_outs}
use Rattle.sng_history.specs.Good.{Each, AtRest}
use Rattle.sng_history.proofs.SaysParts.{part_for}
use Rattle.sng_history.proofs.Steady.{undrained}

-- something is left for the client, or it is not awake
abbrev pub Busy : Client → Type 0
Busy x = is_drained x ≡ false

-- the client as its notes leave it
abbrev pub plain_next : State → Cause → Client → Client
plain_next s c x = let a = around s c in notes_by a (fixed_for s c x) (start_by a x)

-- what is let out with them
abbrev pub plain_part : State → Cause → List Release → Client → List Out
plain_part s c dropped x =
    let a = around s c in
    (if is_author a.cause x then answer (request_of a.cause) x else [])
    ++ spell a dropped (start_by a x) (fixed_for s c x)

pub plain_moves : (s : State) (c : Cause) (x : Client) → Busy (plain_next s c x)
    → client_next s c x ≡ plain_next s c x
plain_moves s c x busy = undrained (plain_next s c x) busy

pub busy_outs : (x : Client) → Busy x → drained_outs x ≡ []
busy_outs x busy = ap (λ b. if b then pong x.address ∷ [] else []) busy

pub plain_row : (s : State) (c : Cause) (dropped : List Release) (x : Client) → Busy (plain_next s c x)
    → part_for s c dropped x ≡ plain_part s c dropped x
plain_row s c dropped x busy =
    let a = around s c in
    let lead : List Out = if is_author a.cause x then answer (request_of a.cause) x else [] in
    let own = spell a dropped (start_by a x) (fixed_for s c x) in
    ap (λ more. lead ++ (own ++ more)) (busy_outs (plain_next s c x) busy)
    ∙ ap (λ more. lead ++ more) (append-nil own)

-- one that is not awake is busy,
pub sleepless : (x : Client) → is_awake x.phase ≡ false → Busy x
sleepless x is = ap (λ b. b && (is_none (slice_get x.buffer.waiting 0) && is_none x.buffer.exchange)) is

-- and one that stands as before, with what waits and is open
pub busy_same : (x y : Client) → y.phase ≡ x.phase → y.buffer ≡ x.buffer → Busy x → Busy y
busy_same x y phase buffer busy = (λ i. is_drained (record y { phase = phase i; buffer = buffer i })) ∙ busy

-- each client at rest is
pub all_busy : (xs : List Client) → Each AtRest xs → Each Busy xs
all_busy [] each = tt
all_busy (x ∷ xs) each = (each.0.busy, all_busy xs each.1)
