-- The parts of the clients in what a step lets out: a message of one client, or of nobody, and a CONNECT.
use Rattle.std.proofs.Common.{◌≡◌, ℕ, Bool, true, false, List, [], ◌∷◌, ◌++◌, refl, sym, ◌∙◌, subst}
use Rattle.std.specs.Prelude.{if◌then◌else◌, ◌&&◌, not, drop}
use Rattle.std.specs.List.{flat_map}
use Rattle.std.specs.Str.{bytes_eq}
use Rattle.std.proofs.lemmas.List.{append-nil}
use Rattle.sng_states.specs.States.{has_session}
use Rattle.sng_frames.specs.declared.messages.connect.Connect.{Connect}
use Rattle.sng_book.specs.declared.address.Address.{Address}
use Rattle.sng_book.specs.declared.decision.Decision.{Decision}
use Rattle.sng_book.specs.declared.out.Out.{Out}
use Rattle.sng_history.specs.Causes.{Cause}
use Rattle.sng_history.specs.Causes.{ByConnect}
use Rattle.sng_history.specs.Clients.{Client, same_address, is_from, let_in}
use Rattle.sng_history.specs.Notes.{notes_of, exits_in}
use Rattle.sng_history.specs.State.{State, around, later, newcomers}
use Rattle.sng_history.specs.Standing.{Release}
use Rattle.sng_history.specs.Answers.{dismissed}
use Rattle.sng_history.specs.Packets.{dropped}
use Rattle.sng_history.specs.Whole.{spell, part, any_from, drops, frame_row, moved}
use Rattle.sng_history.specs.Whole.{beside, entering_part}
use Rattle.sng_history.specs.Lawful.{fixed_for, exits_for}
use Rattle.sng_history.specs.Steps.{notes_for, newcomers_for}
use Rattle.sng_history.specs.Good.{Each, Distinct}
use Rattle.sng_history.proofs.Own.{each_all, each_map, OnlyAbout, each_own}
use Rattle.sng_history.proofs.Own.{no_exits}
use Rattle.sng_history.proofs.Spelled.{Mute, mute_none, mute_both, AllAbout, spell_other}
use Rattle.sng_history.proofs.Spelled.{spell_exits, part_own, part_other, part_exits}
use Rattle.sng_history.proofs.Told.{tells}

-- the outs have just these notes, and bring in who is accepted for the first time
pub record Says (s : State) (c : Cause) (outs : List Out) : Type 0 where
  pub exits : exits_in outs ≡ exits_for s c
  pub new : newcomers c s.clients outs ≡ newcomers_for s c
  pub own : Each (λ x. notes_of x.id outs ≡ fixed_for s c x) (s.clients ++ newcomers_for s c)

-- ---- parts of the clients

abbrev pub part_for : State → Cause → List Release → Client → List Out
part_for s c dropped x = part (around s c) dropped (fixed_for s c x) x

pub fan_own : (s : State) (c : Cause) (dropped : List Release) → Distinct s.clients
    → Each (λ x. notes_of x.id (flat_map (part_for s c dropped) s.clients) ≡ fixed_for s c x) s.clients
fan_own s c dropped apart =
    let f = part_for s c dropped in
    each_map (λ x. notes_of x.id (flat_map f s.clients) ≡ notes_of x.id (f x))
    (λ x. notes_of x.id (flat_map f s.clients) ≡ fixed_for s c x) s.clients
    (λ x own. own ∙ part_own (around s c) dropped (fixed_for s c x) x (tells s c x))
    (each_own f s.clients (each_all (OnlyAbout f) s.clients
    (λ x d away. part_other (around s c) dropped (fixed_for s c x) x d away (tells s c x))) apart)

pub fan_exits : (s : State) (c : Cause) (dropped : List Release)
    → exits_in (flat_map (part_for s c dropped) s.clients) ≡ []
fan_exits s c dropped =
    let f = part_for s c dropped in
    no_exits f s.clients (each_all (λ x. exits_in (f x) ≡ []) s.clients
    (λ x. part_exits (around s c) dropped (fixed_for s c x) x (tells s c x)))

-- ---- a message of one client, or of nobody

none_from_by : (c : Cause) (x : Client) (xs : List Client) (b : Bool) → is_from c x ≡ b
    → any_from c (x ∷ xs) ≡ false → (any_from c xs ≡ false → Each (λ y. is_from c y ≡ false) xs)
    → Each (λ y. is_from c y ≡ false) (x ∷ xs)
none_from_by c x xs true is none later = absurd (let bad : true ≡ false = rw is at none in cc)
none_from_by c x xs false is none later = let rest : any_from c xs ≡ false = rw is at none in (is, later rest)

pub none_from : (c : Cause) (xs : List Client) → any_from c xs ≡ false → Each (λ y. is_from c y ≡ false) xs
none_from c [] is = tt
none_from c (x ∷ xs) is = none_from_by c x xs (is_from c x) refl is (none_from c xs)

abbrev pub drops_for : State → Cause → List Release
drops_for s c = drops s c (notes_for s c)

abbrev pub row_for : State → Cause → List Out → List Out
row_for s c stranger = frame_row s c stranger (notes_for s c)

-- what a message from nobody lets out is no client's
pub record Strange (s : State) (c : Cause) (stranger : List Out) : Type 0 where
  pub mute : Mute stranger
  pub quiet : (x : Client) → is_from c x ≡ false → fixed_for s c x ≡ []

pub frame_own : (s : State) (c : Cause) (stranger : List Out) (any : Bool) → any_from c s.clients ≡ any
    → Distinct s.clients → Strange s c stranger
    → Each (λ x. notes_of x.id (row_for s c stranger) ≡ fixed_for s c x) s.clients
frame_own s c stranger true is apart strange = rw is (fan_own s c (drops_for s c) apart)
frame_own s c stranger false is apart strange =
    rw is (each_map (λ x. is_from c x ≡ false) (λ x. notes_of x.id stranger ≡ fixed_for s c x) s.clients
    (λ x away. strange.mute.notes x.id ∙ sym (strange.quiet x away)) (none_from c s.clients is))

pub frame_exits : (s : State) (c : Cause) (stranger : List Out) (any : Bool) → any_from c s.clients ≡ any
    → Strange s c stranger → exits_in (row_for s c stranger) ≡ []
frame_exits s c stranger true is strange = rw is (fan_exits s c (drops_for s c))
frame_exits s c stranger false is strange = rw is strange.mute.exits

-- nobody is accepted, and each client has its notes
pub all_here : (s : State) (c : Cause) (outs : List Out) → newcomers_for s c ≡ []
    → newcomers c s.clients outs ≡ newcomers_for s c → exits_in outs ≡ exits_for s c
    → Each (λ x. notes_of x.id outs ≡ fixed_for s c x) s.clients → Says s c outs
all_here s c outs none new exits own = record {
  exits = exits;
  new = new;
  own =
      subst (λ xs. Each (λ x. notes_of x.id outs ≡ fixed_for s c x) (s.clients ++ xs)) (sym none)
      (rw (append-nil s.clients) own);
}

-- ---- a CONNECT

mute_moved : (x : Client) (same out : Bool)
    → Mute (if same then (if out then dismissed x.address ∷ [] else []) else [])
mute_moved x true true = record { notes = λ c. refl; exits = refl; asks = λ q. refl }
mute_moved x true false = mute_none
mute_moved x false out = mute_none

mute_all : (f : Client → List Out) (xs : List Client) → ((x : Client) → Mute (f x)) → Mute (flat_map f xs)
mute_all f [] each = mute_none
mute_all f (x ∷ xs) each = mute_both (f x) (flat_map f xs) (each x) (mute_all f xs each)

pub moved_all : (from : Address) (id : List ℕ) (xs : List Client) → Mute (flat_map (moved from id) xs)
moved_all from id xs =
    mute_all (moved from id) xs (λ x. mute_moved x (bytes_eq id x.id)
    (has_session x.phase && not (same_address x.address from)))

abbrev pub beside_for : State → Address → Connect → Client → List Out
beside_for s from connect =
    let c = ByConnect from connect in beside (around s c) (notes_for s c) connect.client_id

beside_other_by : (s : State) (from : Address) (connect : Connect) (x : Client) (d : List ℕ) (same : Bool)
    → bytes_eq d x.id ≡ false
    → notes_of d (if same then [] else part_for s (ByConnect from connect) [] x) ≡ []
beside_other_by s from connect x d true away = refl
beside_other_by s from connect x d false away =
    let c = ByConnect from connect in part_other (around s c) [] (fixed_for s c x) x d away (tells s c x)

pub beside_exits_by : (s : State) (from : Address) (connect : Connect) (x : Client) (same : Bool)
    → exits_in (if same then [] else part_for s (ByConnect from connect) [] x) ≡ []
beside_exits_by s from connect x true = refl
beside_exits_by s from connect x false =
    let c = ByConnect from connect in part_exits (around s c) [] (fixed_for s c x) x (tells s c x)

pub only_beside : (s : State) (from : Address) (connect : Connect)
    → Each (OnlyAbout (beside_for s from connect)) s.clients
only_beside s from connect =
    each_all (OnlyAbout (beside_for s from connect)) s.clients
    (λ x d away. beside_other_by s from connect x d (bytes_eq connect.client_id x.id) away)

-- what becomes of what waits for the one that connects
abbrev pub entering_for : State → Address → Connect → Client → List Out
entering_for s from connect =
    let c = ByConnect from connect in entering_part (around s c) (notes_for s c) from connect

later_about : (c : List ℕ) (notes : List Decision) → AllAbout c notes → AllAbout c (drop 1 notes)
later_about c [] about = tt
later_about c (said ∷ notes) about = about.1

pub entering_about : (s : State) (from : Address) (connect : Connect) (x : Client)
    → AllAbout x.id (drop 1 (fixed_for s (ByConnect from connect) x))
entering_about s from connect x =
    let c = ByConnect from connect in later_about x.id (fixed_for s c x) (tells s c x)

-- those behind the note that it is accepted, from wherever the client is
abbrev pub entering_if : State → Address → Connect → Client → Bool → List Out
entering_if s from connect x same =
    let c = ByConnect from connect in
    let a = around s c in
    if same then spell a [] (let_in a.clock from connect x) (drop 1 (fixed_for s c x)) else []

entering_other_by : (s : State) (from : Address) (connect : Connect) (x : Client) (d : List ℕ) (same : Bool)
    → bytes_eq d x.id ≡ false
    → notes_of d (entering_if s from connect x same) ≡ []
entering_other_by s from connect x d true away =
    let c = ByConnect from connect in
    let a = around s c in
    spell_other a [] (let_in a.clock from connect x) x.id d (drop 1 (fixed_for s c x)) away
    (entering_about s from connect x)
entering_other_by s from connect x d false away = refl

pub entering_exits_by : (s : State) (from : Address) (connect : Connect) (x : Client) (same : Bool)
    → exits_in (entering_if s from connect x same) ≡ []
entering_exits_by s from connect x true =
    let c = ByConnect from connect in
    let a = around s c in
    spell_exits a [] (let_in a.clock from connect x) x.id (drop 1 (fixed_for s c x))
    (entering_about s from connect x)
entering_exits_by s from connect x false = refl

pub only_entering : (s : State) (from : Address) (connect : Connect)
    → Each (OnlyAbout (entering_for s from connect)) s.clients
only_entering s from connect =
    each_all (OnlyAbout (entering_for s from connect)) s.clients
    (λ x d away. entering_other_by s from connect x d (bytes_eq connect.client_id x.id) away)
