-- Which events a client sees, and what it sees of them.
use Rattle.std.proofs.Common.{◌≡◌, ℕ, Bool, true, false, List, [], ◌∷◌, refl, sym, ◌∙◌, subst}
use Rattle.std.proofs.Common.{if◌then◌else◌}
use Rattle.std.specs.Prelude.{not}
use Rattle.sng_frames.specs.Reading.{frame_of}
use Rattle.sng_grants.specs.declared.policy.Policy.{Policy}
use Rattle.sng_book.specs.declared.address.Address.{Address}
use Rattle.sng_book.specs.declared.event.Event.{Event}
use Rattle.sng_book.specs.declared.event.Event.TheVariants as event
use Rattle.sng_book.specs.Traces.{is_own, trace_of}
use Rattle.sng_history.specs.Books.{row_outs, row_next}
use Rattle.sng_history.specs.Causes.{Cause, cause_of}
use Rattle.sng_history.specs.State.{State}
use Rattle.sng_history.specs.Steps.{outs_by, next_by}
use Rattle.sng_isolation.specs.Own.{names, named_from}
use Rattle.sng_isolation.specs.View.{part_of, seen}
use Rattle.sng_isolation.specs.Room.{HasRoom}
use Rattle.sng_isolation.specs.Isolation.{IsHarmless}
use Rattle.sng_isolation.proofs.Silent.{Silent}
use Rattle.sng_isolation.proofs.ForeignStep.{CameFrom, datagram_came}
use Rattle.sng_isolation.proofs.Alike.{Alike, Sound}
use Rattle.sng_isolation.proofs.HiddenLaw.{hidden_event}
use Rattle.sng_isolation.proofs.Placed.{sound_next}
use Rattle.sng_isolation.proofs.Straight.{hidden_straight}
use Rattle.sng_isolation.proofs.CommonLaw.{shown_datagram}
use Rattle.sng_isolation.proofs.EventsAlike.{BothGo, plain_go, policy_goes, tick_goes}

-- a datagram from elsewhere
abbrev pub is_hidden : List Address → Event → Bool
is_hidden own (event.Datagram from bytes) = not (is_own own from)
is_hidden own (event.Broker packet) = false
is_hidden own event.Up = false
is_hidden own event.Down = false
is_hidden own event.Take = false
is_hidden own (event.Replace policy) = false
is_hidden own (event.Tick clock) = false

-- what is seen of any other event
abbrev pub face : List ℕ → Event → Event
face id (event.Replace policy) = event.Replace (part_of id policy)
face id (event.Datagram from bytes) = event.Datagram from bytes
face id (event.Broker packet) = event.Broker packet
face id event.Up = event.Up
face id event.Down = event.Down
face id event.Take = event.Take
face id (event.Tick clock) = event.Tick clock

hidden_by : (ours : Bool) (e : Event) → not ours ≡ true → (let some : List Event = if ours then e ∷ [] else [] in some ≡ [])
hidden_by true e is = absurd cc
hidden_by false e is = refl

shown_by : (ours : Bool) (e : Event) → not ours ≡ false
    → (let some : List Event = if ours then e ∷ [] else [] in some ≡ e ∷ [])
shown_by true e is = refl
shown_by false e is = absurd cc

pub seen_hidden : (id : List ℕ) (own : List Address) (e : Event) → is_hidden own e ≡ true → seen id own e ≡ []
seen_hidden id own (event.Datagram from bytes) is = hidden_by (is_own own from) (event.Datagram from bytes) is
seen_hidden id own (event.Broker packet) is = absurd cc
seen_hidden id own event.Up is = absurd cc
seen_hidden id own event.Down is = absurd cc
seen_hidden id own event.Take is = absurd cc
seen_hidden id own (event.Replace policy) is = absurd cc
seen_hidden id own (event.Tick clock) is = absurd cc

pub seen_shown : (id : List ℕ) (own : List Address) (e : Event) → is_hidden own e ≡ false
    → seen id own e ≡ face id e ∷ []
seen_shown id own (event.Datagram from bytes) is = shown_by (is_own own from) (event.Datagram from bytes) is
seen_shown id own (event.Broker packet) is = refl
seen_shown id own event.Up is = refl
seen_shown id own event.Down is = refl
seen_shown id own event.Take is = refl
seen_shown id own (event.Replace policy) is = refl
seen_shown id own (event.Tick clock) is = refl

-- ---- a hidden event

-- all of these are among the client's addresses
abbrev pub AllOwn : List Address → List Address → Type 0
AllOwn own [] = Unit {0}
AllOwn own (place ∷ places) = (is_own own place ≡ true) × AllOwn own places

not_named : (own : List Address) (from : Address) (b : Bool) → is_own own from ≡ false
    → AllOwn own (if b then from ∷ [] else []) → b ≡ false
not_named own from true off owned = absurd (let e : true ≡ false = sym owned.0 ∙ off in cc)
not_named own from false off owned = refl

not_ours : (b : Bool) → not b ≡ true → b ≡ false
not_ours true is = absurd cc
not_ours false is = refl

ours_is : (b : Bool) → not b ≡ false → b ≡ true
ours_is true is = refl
ours_is false is = absurd cc

pub record GoesUnseen (id : List ℕ) (own : List Address) (s : State) (e : Event) : Type 0 where
  pub silent : Silent id own (row_outs s e)
  pub alike : Alike id s (row_next s e)
  pub sound : Sound id own (row_next s e)

unseen_cause : (id : List ℕ) (own : List Address) (s : State) (from : Address) (c : Cause) → Sound id own s
    → CameFrom from c → is_own own from ≡ false → names id c ≡ false
    → Silent id own (outs_by s c) × Alike id s (next_by s c) × Sound id own (next_by s c)
unseen_cause id own s from c sound came off named =
    let quiet = hidden_event id own s from c sound came off named in
    (quiet.silent, quiet.alike, sound_next id own s c (hidden_straight id own from c came off named) sound)

pub goes_unseen : (id : List ℕ) (own : List Address) (s : State) (e : Event) → Sound id own s
    → is_hidden own e ≡ true → AllOwn own (named_from id e) → GoesUnseen id own s e
goes_unseen id own s (event.Datagram from bytes) sound is owned =
    let c = cause_of (event.Datagram from bytes) in
    let off = not_ours (is_own own from) is in
    let quiet = unseen_cause id own s from c sound (datagram_came from (frame_of bytes)) off
    (not_named own from (names id c) off owned) in
    record { silent = quiet.0; alike = quiet.1; sound = quiet.2 }
goes_unseen id own s (event.Broker packet) sound is owned = absurd cc
goes_unseen id own s event.Up sound is owned = absurd cc
goes_unseen id own s event.Down sound is owned = absurd cc
goes_unseen id own s event.Take sound is owned = absurd cc
goes_unseen id own s (event.Replace policy) sound is owned = absurd cc
goes_unseen id own s (event.Tick clock) sound is owned = absurd cc

-- ---- an event that is seen

go_plain : (id : List ℕ) (own : List Address) (s t : State) (c : Cause) (e : Event)
    → (trace_of id own (row_outs s e) ≡ trace_of id own (row_outs t e))
    × Alike id (row_next s e) (row_next t e) × Sound id own (row_next s e) × Sound id own (row_next t e)
    → BothGo id own s t e e
go_plain id own s t c e go = record { traces = go.0; alike = go.1; sound = go.2; also = go.3 }

-- the very same one
go_alike : (id : List ℕ) (own : List Address) (s t : State) (e : Event) → Sound id own s → Sound id own t
    → Alike id s t → is_hidden own e ≡ false → IsHarmless id own (cause_of e)
    → HasRoom id (row_outs s e) → HasRoom id (row_outs t e) → BothGo id own s t e e
go_alike id own s t (event.Datagram from bytes) sound also alike is harmless room other =
    let c = cause_of (event.Datagram from bytes) in
    go_plain id own s t c (event.Datagram from bytes)
    (plain_go id own s t c sound also alike
    (shown_datagram id own from c (datagram_came from (frame_of bytes)) (ours_is (is_own own from) is) harmless)
    room other)
go_alike id own s t (event.Broker packet) sound also alike is harmless room other =
    let c = cause_of (event.Broker packet) in
    go_plain id own s t c (event.Broker packet) (plain_go id own s t c sound also alike harmless room other)
go_alike id own s t event.Up sound also alike is harmless room other =
    go_plain id own s t (cause_of event.Up) event.Up
    (plain_go id own s t (cause_of event.Up) sound also alike tt room other)
go_alike id own s t event.Down sound also alike is harmless room other =
    go_plain id own s t (cause_of event.Down) event.Down
    (plain_go id own s t (cause_of event.Down) sound also alike tt room other)
go_alike id own s t event.Take sound also alike is harmless room other =
    go_plain id own s t (cause_of event.Take) event.Take
    (plain_go id own s t (cause_of event.Take) sound also alike tt room other)
go_alike id own s t (event.Replace policy) sound also alike is harmless room other =
    policy_goes id own s t policy policy sound also alike refl
go_alike id own s t (event.Tick clock) sound also alike is harmless room other =
    tick_goes id own s t clock sound also alike room other

-- or a policy that says the same to the client
go_policy : (id : List ℕ) (own : List Address) (s t : State) (p : Policy) (f : Event) → Sound id own s
    → Sound id own t → Alike id s t → event.Replace (part_of id p) ≡ face id f
    → BothGo id own s t (event.Replace p) f
go_policy id own s t p (event.Replace q) sound also alike same =
    let says : part_of id p ≡ part_of id q = cc in policy_goes id own s t p q sound also alike says
go_policy id own s t p (event.Datagram from bytes) sound also alike same = absurd cc
go_policy id own s t p (event.Broker packet) sound also alike same = absurd cc
go_policy id own s t p event.Up sound also alike same = absurd cc
go_policy id own s t p event.Down sound also alike same = absurd cc
go_policy id own s t p event.Take sound also alike same = absurd cc
go_policy id own s t p (event.Tick clock) sound also alike same = absurd cc

-- an event that shows itself as it is, and is no policy
abbrev IsPlain : List ℕ → Event → Type 0
IsPlain id e = (f : Event) → e ≡ face id f → f ≡ e

plain_but : (id : List ℕ) (e : Event) → ((p : Policy) → e ≡ event.Replace p → ⊥) → IsPlain id e
plain_but id e never (event.Replace p) same = absurd (never (part_of id p) same)
plain_but id e never (event.Datagram from bytes) same = sym same
plain_but id e never (event.Broker packet) same = sym same
plain_but id e never event.Up same = sym same
plain_but id e never event.Down same = sym same
plain_but id e never event.Take same = sym same
plain_but id e never (event.Tick clock) same = sym same

go_same : (id : List ℕ) (own : List Address) (s t : State) (e f : Event) → IsPlain id e → e ≡ face id f
    → Sound id own s → Sound id own t → Alike id s t → is_hidden own e ≡ false
    → IsHarmless id own (cause_of e) → HasRoom id (row_outs s e) → HasRoom id (row_outs t f)
    → BothGo id own s t e f
go_same id own s t e f plain same sound also alike is harmless room other =
    let it : f ≡ e = plain f same in
    subst (λ (g : Event). BothGo id own s t e g) (sym it)
    (go_alike id own s t e sound also alike is harmless room
    (subst (λ (g : Event). HasRoom id (row_outs t g)) it other))

pub both_go : (id : List ℕ) (own : List Address) (s t : State) (e f : Event) → Sound id own s
    → Sound id own t → Alike id s t → is_hidden own e ≡ false → face id e ≡ face id f
    → IsHarmless id own (cause_of e) → HasRoom id (row_outs s e) → HasRoom id (row_outs t f)
    → BothGo id own s t e f
both_go id own s t (event.Replace p) f sound also alike is same harmless room other =
    go_policy id own s t p f sound also alike same
both_go id own s t (event.Datagram from bytes) f sound also alike is same harmless room other =
    go_same id own s t (event.Datagram from bytes) f
    (plain_but id (event.Datagram from bytes) (λ p never. absurd cc)) same sound also alike is harmless room other
both_go id own s t (event.Broker packet) f sound also alike is same harmless room other =
    go_same id own s t (event.Broker packet) f (plain_but id (event.Broker packet) (λ p never. absurd cc)) same
    sound also alike is harmless room other
both_go id own s t event.Up f sound also alike is same harmless room other =
    go_same id own s t event.Up f (plain_but id event.Up (λ p never. absurd cc)) same sound also alike is harmless
    room other
both_go id own s t event.Down f sound also alike is same harmless room other =
    go_same id own s t event.Down f (plain_but id event.Down (λ p never. absurd cc)) same sound also alike is
    harmless room other
both_go id own s t event.Take f sound also alike is same harmless room other =
    go_same id own s t event.Take f (plain_but id event.Take (λ p never. absurd cc)) same sound also alike is
    harmless room other
both_go id own s t (event.Tick clock) f sound also alike is same harmless room other =
    go_same id own s t (event.Tick clock) f (plain_but id (event.Tick clock) (λ p never. absurd cc)) same sound
    also alike is harmless room other
