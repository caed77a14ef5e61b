-- The index follows as a client moves.
use Rattle.std.proofs.Common.{◌≡◌, ℕ, zero, suc, ◌<◌, arith, position, Bool, true, false, ◌&&◌, ◌||◌, nat_lt}
use Rattle.std.proofs.Common.{length, List, [], ◌∷◌, ◌++◌, map, Option, Some, None, unwrap_or, is_some}
use Rattle.std.proofs.Common.{slice_get, append-nil, eqb, refl, sym, ap, subst, ◌∙◌, true≢false}
use Rattle.std.proofs.Common.{if◌then◌else◌}
use Rattle.std.specs.Str.{bytes_eq}
use Rattle.std.proofs.lemmas.Bool.{eqb-true, ltb-true}
use Rattle.std.specs.Cmp.Lexicographic.{bytes_decides}
use Rattle.std.specs.List.{position_or_len}
use Rattle.std.specs.Map.{keys_of, values_of, lookup}
use Rattle.indexmap.specs.IndexMap.{set_value_at, insert_entry}
use Rattle.sng_book.specs.declared.address.Address.{Address}
use Rattle.sng_fan.specs.declared.held.Held.{Held}
use Rattle.sng_frames.specs.declared.messages.connect.Connect.{Connect}
use Rattle.sng_ids.specs.Ids.{Ids}
use Rattle.sng_queue.specs.Buffers.{Buffer, nothing}
use Rattle.sng_states.specs.States.{has_session}
use Rattle.sng_states.specs.declared.state.ClientState.{ClientState}
use Rattle.sng_wills.specs.Wills.{Wills}
use Rattle.sng_history.specs.Clients.{Client, same_address, is_here, let_in, opened, cleaned, no_will, blank}
use Rattle.sng_history.specs.State.{is_known}
use Rattle.sng_history.specs.Good.{Away, Distinct}
use Rattle.sng_sessions.specs.declared.session.Presence.{Presence}
use Rattle.sng_sessions.specs.declared.session.Session.{Session}
use Rattle.sng_history.specs.Entering.{left_at, entering, entered}
use Rattle.sng_sessions.specs.Standing.{client_at}
use Rattle.sng_sessions.specs.Willing.{phase_opened, wills_opened}
use Rattle.sng_sessions.specs.Places.{client_of, clients_of, holds_at, stands_at, is_place, points_at}
use Rattle.sng_sessions.specs.Places.{presence_in, was_at, Indexed, moved_at, vacated, settled}
use Rattle.sng_sessions.proofs.Looks.{is_place-self, is_place-same, points-same}

address-same : (a b : Address) → same_address a b ≡ true → a ≡ b
address-same a b same = by (bytes_eq a.ip b.ip) (eqb a.port b.port) refl refl same
  where
    by : (one two : Bool) → bytes_eq a.ip b.ip ≡ one → eqb a.port b.port ≡ two → (one && two) ≡ true → a ≡ b
    by true true is_ip is_port both =
        let ip = (bytes_decides a.ip b.ip).0 is_ip in
        let port = eqb-true a.port b.port is_port in
        λ i. record { ip = ip i; port = port i }
    by true false is_ip is_port both = absurd (true≢false (sym both))
    by false two is_ip is_port both = absurd (true≢false (sym both))

-- one client moves from where it was to where it is now, and the look-ups follow
pub record Moved (look after : Address → Option ℕ) (xs ys : List Client) (at : ℕ)
    (was now : Address → Bool) : Type 0 where
  pub before : (from : Address) → stands_at from xs at ≡ was from
  pub here : (from : Address) → stands_at from ys at ≡ now from
  pub others : (from : Address) (place : ℕ) → is_place at place ≡ false
      → stands_at from ys place ≡ stands_at from xs place
  pub looks : (from : Address) → after from
      ≡ (if now from then Some at else (if was from then None else look from))
  -- where it is now no other was
  pub alone : (from : Address) (place : ℕ) → now from ≡ true → is_place at place ≡ false
      → stands_at from xs place ≡ false

pub indexed-moved : (look after : Address → Option ℕ) (xs ys : List Client) (at : ℕ)
    (was now : Address → Bool)
    → Indexed look xs → Moved look after xs ys at was now → Indexed after ys
indexed-moved look after xs ys at was now indexed m from place = own (is_place at place) refl
  where
    look_other : is_place at place ≡ false → was from ≡ true → points_at place (look from) ≡ false
    look_other other is =
        let found : look from ≡ Some at = points-same at (look from) (indexed from at ∙ m.before from ∙ is) in
        ap (points_at place) found ∙ other

    at_own : (b w : Bool) → now from ≡ b → was from ≡ w
        → points_at at (if b then Some at else (if w then None else look from)) ≡ b
    at_own true w is is_was = is_place-self at
    at_own false true is is_was = refl
    at_own false false is is_was = indexed from at ∙ m.before from ∙ is_was

    at_other : (b w : Bool) → now from ≡ b → was from ≡ w → is_place at place ≡ false
        → points_at place (if b then Some at else (if w then None else look from)) ≡ stands_at from xs place
    at_other true w is is_was other = other ∙ sym (m.alone from place is other)
    at_other false true is is_was other = sym (look_other other is_was) ∙ indexed from place
    at_other false false is is_was other = indexed from place

    own : (same : Bool) → is_place at place ≡ same → points_at place (after from) ≡ stands_at from ys place
    own true same =
        rw (← is_place-same at place same, m.looks from, m.here from) (at_own (now from) (was from) refl refl)
    own false other =
        rw (m.looks from, m.others from place other) (at_other (now from) (was from) refl refl other)

-- ---- a move at a place

pub clients-set : (entries : List (List ℕ × Session)) (place : ℕ) (session after : Session)
    (f : Client → Client)
    → slice_get (values_of entries) place ≡ Some session
    → ((id : List ℕ) → f (client_of (id, session)) ≡ client_of (id, after))
    → clients_of (set_value_at entries place after) ≡ moved_at place f (clients_of entries)
clients-set [] place session after f found moves = refl
clients-set (entry ∷ entries) zero session after f found moves =
    let same : entry.1 ≡ session = ap (λ o. unwrap_or o entry.1) found in
    ap (λ x. x ∷ clients_of entries) (sym (moves entry.0) ∙ ap (λ s. f (client_of (entry.0, s))) (sym same))
clients-set (entry ∷ entries) (suc place) session after f found moves =
    ap (λ rest. client_of entry ∷ rest) (clients-set entries place session after f found moves)

-- past the end nothing moves
pub moved_at-past : (entries : List (List ℕ × Session)) (place : ℕ) (f : Client → Client)
    → slice_get (values_of entries) place ≡ None
    → moved_at place f (clients_of entries) ≡ clients_of entries
moved_at-past [] place f none = refl
moved_at-past (entry ∷ entries) zero f none = absurd (true≢false (ap is_some none))
moved_at-past (entry ∷ entries) (suc place) f none =
    ap (λ rest. client_of entry ∷ rest) (moved_at-past entries place f none)

-- the same session at its place changes nothing
pub clients-same : (entries : List (List ℕ × Session)) (place : ℕ) (session after : Session)
    → slice_get (values_of entries) place ≡ Some session
    → ((id : List ℕ) → client_of (id, session) ≡ client_of (id, after))
    → clients_of (set_value_at entries place after) ≡ clients_of entries
clients-same [] place session after found same = refl
clients-same (entry ∷ entries) zero session after found same =
    let old : entry.1 ≡ session = ap (λ o. unwrap_or o entry.1) found in
    ap (λ x. x ∷ clients_of entries) (sym (same entry.0) ∙ ap (λ s. client_of (entry.0, s)) (sym old))
clients-same (entry ∷ entries) (suc place) session after found same =
    ap (λ rest. client_of entry ∷ rest) (clients-same entries place session after found same)

-- a client as its presence, its ids, its last MsgId, what waits for it, its filters, its will and the open
-- MsgIds have it
abbrev kept_as : List ℕ → Presence → Ids → ℕ → Buffer → List Held → Wills → List ℕ → Client
kept_as id at ids number queue held wills unreleased =
    record (blank id) {
      address = at.address;
      phase = at.phase;
      duration = at.duration;
      heard = at.heard;
      ids = ids;
      number = number;
      buffer = queue;
      filters = held;
      wills = wills;
      unreleased = unreleased;
    }

-- the client of a session that begins anew
pub client-begun : (id : List ℕ) (clock : ℕ) (from : Address) (connect : Connect) (session after : Session)
    → after.presence ≡ record {
      address = from;
      phase = phase_opened connect.flags.will;
      duration = connect.duration;
      heard = clock;
    } → after.ids ≡ []
    → after.number ≡ session.number
    → after.queue ≡ (if connect.flags.clean then nothing else record session.queue { exchange = None })
    → after.filters ≡ (if connect.flags.clean then [] else session.filters)
    → after.wills ≡ wills_opened connect.flags.clean connect.flags.will session.wills
    → after.unreleased ≡ (if connect.flags.clean then [] else session.unreleased)
    → let_in clock from connect (client_of (id, session)) ≡ client_of (id, after)
client-begun id clock from connect session after one two three four five six seven =
    by connect.flags.clean connect.flags.will
    ∙ (λ i. kept_as id (sym one i) (sym two i) (sym three i) (sym four i) (sym five i) (sym six i)
    (sym seven i))
  where
    by : (clean will : Bool)
        → opened will (cleaned clean (record (client_of (id, session))
        { address = from; ids = []; duration = connect.duration; heard = clock }))
        ≡ kept_as id (record {
          address = from;
          phase = phase_opened will;
          duration = connect.duration;
          heard = clock;
        }) [] session.number
        (if clean then nothing else record session.queue { exchange = None })
        (if clean then [] else session.filters)
        (wills_opened clean will session.wills)
        (if clean then [] else session.unreleased)
    by true true = refl
    by true false = refl
    by false true = refl
    by false false = refl

-- a test that the move keeps passes where it did
pub holds_at-kept : (test : Client → Bool) (f : Client → Client) → ((x : Client) → test (f x) ≡ test x)
    → (xs : List Client) (at place : ℕ) → holds_at test (moved_at at f xs) place ≡ holds_at test xs place
holds_at-kept test f keeps [] at place = refl
holds_at-kept test f keeps (x ∷ xs) zero zero = keeps x
holds_at-kept test f keeps (x ∷ xs) zero (suc place) = refl
holds_at-kept test f keeps (x ∷ xs) (suc at) zero = refl
holds_at-kept test f keeps (x ∷ xs) (suc at) (suc place) = holds_at-kept test f keeps xs at place

-- no other client moves
pub holds_at-other : (test : Client → Bool) (f : Client → Client) (xs : List Client) (at place : ℕ)
    → is_place at place ≡ false
    → holds_at test (moved_at at f xs) place ≡ holds_at test xs place
holds_at-other test f [] at place other = refl
holds_at-other test f (x ∷ xs) zero zero other = absurd (true≢false other)
holds_at-other test f (x ∷ xs) zero (suc place) other = refl
holds_at-other test f (x ∷ xs) (suc at) zero other = refl
holds_at-other test f (x ∷ xs) (suc at) (suc place) other = holds_at-other test f xs at place other

-- who is nowhere once moved stands nowhere
stands_at-left : (f : Client → Client) (from : Address) (xs : List Client) (at : ℕ)
    → ((x : Client) → is_here (f x) from ≡ false)
    → stands_at from (moved_at at f xs) at ≡ false
stands_at-left f from [] at off = refl
stands_at-left f from (x ∷ xs) zero off = off x
stands_at-left f from (x ∷ xs) (suc at) off = stands_at-left f from xs at off

stands_at-was : (from : Address) (entries : List (List ℕ × Session)) (at : ℕ)
    → stands_at from (clients_of entries) at ≡ was_at (presence_in (slice_get (values_of entries) at)) from
stands_at-was from [] at = refl
stands_at-was from (entry ∷ entries) zero = refl
stands_at-was from (entry ∷ entries) (suc at) = stands_at-was from entries at

-- a client leaves, or is lost
pub left-indexed : (look after : Address → Option ℕ) (entries : List (List ℕ × Session)) (at : ℕ)
    (f : Client → Client)
    → ((x : Client) (from : Address) → is_here (f x) from ≡ false) → Indexed look (clients_of entries)
    → ((from : Address) → after from
    ≡ (if was_at (presence_in (slice_get (values_of entries) at)) from then None else look from))
    → Indexed after (moved_at at f (clients_of entries))
left-indexed look after entries at f off indexed looks =
    indexed-moved look after xs (moved_at at f xs) at
    (was_at (presence_in (slice_get (values_of entries) at))) (λ from. false) indexed (record {
      before = λ from. stands_at-was from entries at;
      here = λ from. stands_at-left f from xs at (λ x. off x from);
      others = λ from place other. holds_at-other (λ x. is_here x from) f xs at place other;
      looks = looks;
      alone = λ from place now other. absurd (true≢false (sym now));
    })
  where
    xs : List Client
    xs = clients_of entries

-- ---- whoever is at the address leaves

-- a move of each client that passes the test and is not the named one: there is none, or one
if-same : (b : Bool) (x : Client) → (if b then x else x) ≡ x
if-same true x = refl
if-same false x = refl

map_none : (named test : Client → Bool) (f : Client → Client) (xs : List Client)
    → ((place : ℕ) → holds_at test xs place ≡ false)
    → map (λ x. if named x then x else (if test x then f x else x)) xs ≡ xs
map_none named test f [] is = refl
map_none named test f (x ∷ xs) is =
    rw (is zero, map_none named test f xs (λ place. is (suc place)), if-same (named x) x) refl

map_only : (named test : Client → Bool) (f : Client → Client) (xs : List Client) (found : ℕ)
    → ((place : ℕ) → holds_at test xs place ≡ is_place found place)
    → map (λ x. if named x then x else (if test x then f x else x)) xs
    ≡ moved_at found (λ x. if named x then x else f x) xs
map_only named test f [] found is = refl
map_only named test f (x ∷ xs) zero is =
    rw (is zero, map_none named test f xs (λ place. is (suc place))) refl
map_only named test f (x ∷ xs) (suc found) is =
    rw (is zero, map_only named test f xs found (λ place. is (suc place)), if-same (named x) x) refl

moved_named : (named : Client → Bool) (f : Client → Client) (xs : List Client) (found : ℕ)
    → holds_at named xs found ≡ true
    → moved_at found (λ x. if named x then x else f x) xs ≡ xs
moved_named named f [] found is = refl
moved_named named f (x ∷ xs) zero is = rw is refl
moved_named named f (x ∷ xs) (suc found) is = ap (λ rest. x ∷ rest) (moved_named named f xs found is)

moved_unnamed : (named : Client → Bool) (f : Client → Client) (xs : List Client) (found : ℕ)
    → holds_at named xs found ≡ false
    → moved_at found (λ x. if named x then x else f x) xs ≡ moved_at found f xs
moved_unnamed named f [] found is = refl
moved_unnamed named f (x ∷ xs) zero is = rw is refl
moved_unnamed named f (x ∷ xs) (suc found) is = ap (λ rest. x ∷ rest) (moved_unnamed named f xs found is)

stands_only : (look : Address → Option ℕ) (xs : List Client) (from : Address) (o : Option ℕ) → Indexed look xs
    → look from ≡ o
    → (place : ℕ) → stands_at from xs place ≡ points_at place o
stands_only look xs from o indexed is place = sym (indexed from place) ∙ ap (points_at place) is

pub vacated-none : (look : Address → Option ℕ) (xs : List Client) (clock : ℕ) (from : Address) (id : List ℕ)
    → Indexed look xs → look from ≡ None
    → map (vacated clock from id) xs ≡ xs
vacated-none look xs clock from id indexed is =
    map_none (λ x. bytes_eq id x.id) (λ x. is_here x from) (left_at clock) xs
    (stands_only look xs from None indexed is)

pub vacated-own : (look : Address → Option ℕ) (xs : List Client) (clock : ℕ) (from : Address) (id : List ℕ)
    (found : ℕ) → Indexed look xs
    → look from ≡ Some found → holds_at (λ x. bytes_eq id x.id) xs found ≡ true
    → map (vacated clock from id) xs ≡ xs
vacated-own look xs clock from id found indexed is named =
    map_only (λ x. bytes_eq id x.id) (λ x. is_here x from) (left_at clock) xs found
    (stands_only look xs from (Some found) indexed is)
    ∙ moved_named (λ x. bytes_eq id x.id) (left_at clock) xs found named

pub vacated-other : (look : Address → Option ℕ) (xs : List Client) (clock : ℕ) (from : Address) (id : List ℕ)
    (found : ℕ) → Indexed look xs
    → look from ≡ Some found → holds_at (λ x. bytes_eq id x.id) xs found ≡ false
    → map (vacated clock from id) xs ≡ moved_at found (left_at clock) xs
vacated-other look xs clock from id found indexed is named =
    map_only (λ x. bytes_eq id x.id) (λ x. is_here x from) (left_at clock) xs found
    (stands_only look xs from (Some found) indexed is)
    ∙ moved_unnamed (λ x. bytes_eq id x.id) (left_at clock) xs found named

-- and keeps its filters
pub vacated-filters : (clock : ℕ) (from : Address) (id : List ℕ) (x : Client)
    → (vacated clock from id x).filters ≡ x.filters
vacated-filters clock from id x = by (bytes_eq id x.id) (is_here x from) refl refl
  where
    by : (named here : Bool) → bytes_eq id x.id ≡ named → is_here x from ≡ here
        → (vacated clock from id x).filters ≡ x.filters
    by true here is is_there = rw is refl
    by false true is is_there = rw (is, is_there) refl
    by false false is is_there = rw (is, is_there) refl

-- so no other client is at the address
own_alone : (clock : ℕ) (from : Address) (id : List ℕ) (x : Client) (named here : Bool)
    → bytes_eq id x.id ≡ named → is_here x from ≡ here
    → is_here (vacated clock from id x) from ≡ true → bytes_eq id (vacated clock from id x).id ≡ true
own_alone clock from id x true here is is_there there = rw is is
own_alone clock from id x false true is is_there there =
    absurd (true≢false (sym there ∙ (rw (is, is_there) refl)))
own_alone clock from id x false false is is_there there =
    absurd (true≢false (sym there ∙ (rw (is, is_there) is_there)))

pub vacated-alone : (clock : ℕ) (from : Address) (id : List ℕ) (xs : List Client) (place : ℕ)
    → stands_at from (map (vacated clock from id) xs) place ≡ true
    → holds_at (λ x. bytes_eq id x.id) (map (vacated clock from id) xs) place ≡ true
vacated-alone clock from id [] place there = there
vacated-alone clock from id (x ∷ xs) zero there =
    own_alone clock from id x (bytes_eq id x.id) (is_here x from) refl refl there
vacated-alone clock from id (x ∷ xs) (suc place) there = vacated-alone clock from id xs place there

-- the key at a place is the id of the client there
pub named-key : (id : List ℕ) (entries : List (List ℕ × Session)) (place : ℕ) (entry : List ℕ × Session)
    → slice_get entries place ≡ Some entry
    → holds_at (λ x. bytes_eq id x.id) (clients_of entries) place ≡ bytes_eq id entry.0
named-key id [] place entry found = absurd (true≢false (sym (ap is_some found)))
named-key id (first ∷ entries) zero entry found = ap (λ o. bytes_eq id (unwrap_or o first).0) found
named-key id (first ∷ entries) (suc place) entry found = named-key id entries place entry found

pub named-none : (id : List ℕ) (entries : List (List ℕ × Session)) (place : ℕ)
    → slice_get entries place ≡ None
    → holds_at (λ x. bytes_eq id x.id) (clients_of entries) place ≡ false
named-none id [] place none = refl
named-none id (first ∷ entries) zero none = absurd (true≢false (ap is_some none))
named-none id (first ∷ entries) (suc place) none = named-none id entries place none

-- the session at a place is the client's
pub session-there : (entries : List (List ℕ × Session)) (place : ℕ) (session : Session)
    → slice_get (values_of entries) place ≡ Some session
    → client_of ((client_at (clients_of entries) place).id, session) ≡ client_at (clients_of entries) place
session-there [] place session found = absurd (true≢false (sym (ap is_some found)))
session-there (entry ∷ entries) zero session found =
    let one : entry.1 ≡ session = ap (λ o. unwrap_or o entry.1) found in
    ap (λ s. client_of (entry.0, s)) (sym one)
session-there (entry ∷ entries) (suc place) session found = session-there entries place session found

-- and the key its id
pub key-there : (entries : List (List ℕ × Session)) (place : ℕ) (entry : List ℕ × Session)
    → slice_get entries place ≡ Some entry
    → entry.0 ≡ (client_at (clients_of entries) place).id
key-there [] place entry found = absurd (true≢false (sym (ap is_some found)))
key-there (first ∷ entries) zero entry found = ap (λ o. (unwrap_or o first).0) (sym found)
key-there (first ∷ entries) (suc place) entry found = key-there entries place entry found

-- ---- the client that connects

-- where its key is, or would be
abbrev pub place_for : List ℕ → List (List ℕ × Session) → ℕ
place_for id entries = position_or_len (bytes_eq id) (keys_of entries)

next_place : (id : List ℕ) (entry : List ℕ × Session) (entries : List (List ℕ × Session))
    → bytes_eq id entry.0 ≡ false
    → place_for id (entry ∷ entries) ≡ suc (place_for id entries)
next_place id entry entries is = rw is (omega arith)

module _ (id : List ℕ) where
  -- none of these has the id
  named-away : (xs : List Client) → Away id xs → (place : ℕ)
      → holds_at (λ x. bytes_eq id x.id) xs place ≡ false
  named-away [] away place = refl
  named-away (x ∷ xs) away zero = away.0
  named-away (x ∷ xs) away (suc place) = named-away xs away.1 place

  away_of : (key : List ℕ) (xs : List Client) → bytes_eq id key ≡ true → Away key xs → Away id xs
  away_of key xs same away = subst (λ i. Away i xs) (sym ((bytes_decides id key).0 same)) away

module _ (id : List ℕ) (session : Session) where
  settled-before : (from : Address) (entries : List (List ℕ × Session))
      → stands_at from (clients_of entries) (place_for id entries)
      ≡ was_at (presence_in (lookup (bytes_eq id) entries)) from
  settled-before from [] = refl
  settled-before from (entry ∷ entries) = by (bytes_eq id entry.0) refl (settled-before from entries)
    where
      by : (same : Bool) → bytes_eq id entry.0 ≡ same
          → stands_at from (clients_of entries) (place_for id entries)
          ≡ was_at (presence_in (lookup (bytes_eq id) entries)) from
          → stands_at from (clients_of (entry ∷ entries)) (place_for id (entry ∷ entries))
          ≡ was_at (presence_in (lookup (bytes_eq id) (entry ∷ entries))) from
      by true is rest = rw is refl
      by false is rest = rw (next_place id entry entries is, is) rest

  settled-here : (from : Address) (entries : List (List ℕ × Session))
      → stands_at from (clients_of (insert_entry bytes_eq entries id session)) (place_for id entries)
      ≡ was_at (Some session.presence) from
  settled-here from [] = refl
  settled-here from (entry ∷ entries) = by (bytes_eq id entry.0) refl (settled-here from entries)
    where
      by : (same : Bool) → bytes_eq id entry.0 ≡ same
          → stands_at from (clients_of (insert_entry bytes_eq entries id session)) (place_for id entries)
          ≡ was_at (Some session.presence) from
          → stands_at from (clients_of (insert_entry bytes_eq (entry ∷ entries) id session))
          (place_for id (entry ∷ entries)) ≡ was_at (Some session.presence) from
      by true is rest = rw is refl
      by false is rest = rw (next_place id entry entries is, is) rest

  settled-others : (from : Address) (entries : List (List ℕ × Session)) (place : ℕ)
      → is_place (place_for id entries) place ≡ false
      → stands_at from (clients_of (insert_entry bytes_eq entries id session)) place
      ≡ stands_at from (clients_of entries) place
  settled-others from [] zero other = absurd (true≢false other)
  settled-others from [] (suc place) other = refl
  settled-others from (entry ∷ entries) place other =
      by (bytes_eq id entry.0) refl place other (λ later. settled-others from entries later)
    where
      by : (same : Bool) → bytes_eq id entry.0 ≡ same → (place : ℕ)
          → is_place (place_for id (entry ∷ entries)) place ≡ false
          → ((later : ℕ) → is_place (place_for id entries) later ≡ false
          → stands_at from (clients_of (insert_entry bytes_eq entries id session)) later
          ≡ stands_at from (clients_of entries) later)
          → stands_at from (clients_of (insert_entry bytes_eq (entry ∷ entries) id session)) place
          ≡ stands_at from (clients_of (entry ∷ entries)) place
      by true is zero other rest = absurd (true≢false (sym (rw is refl) ∙ other))
      by true is (suc place) other rest = rw is refl
      by false is zero other rest = rw is refl
      by false is (suc place) other rest =
          rw is (rest place (sym (ap (λ at. is_place at (suc place)) (next_place id entry entries is))
          ∙ other))

  -- one client at most has the id
  named-once : (entries : List (List ℕ × Session)) → Distinct (clients_of entries) → (place : ℕ)
      → is_place (place_for id entries) place ≡ false
      → holds_at (λ x. bytes_eq id x.id) (clients_of entries) place ≡ false
  named-once [] apart place other = refl
  named-once (entry ∷ entries) apart place other =
      by (bytes_eq id entry.0) refl place other (λ later. named-once entries apart.1 later)
    where
      by : (same : Bool) → bytes_eq id entry.0 ≡ same → (place : ℕ)
          → is_place (place_for id (entry ∷ entries)) place ≡ false
          → ((later : ℕ) → is_place (place_for id entries) later ≡ false
          → holds_at (λ x. bytes_eq id x.id) (clients_of entries) later ≡ false)
          → holds_at (λ x. bytes_eq id x.id) (clients_of (entry ∷ entries)) place ≡ false
      by true is zero other rest = absurd (true≢false (sym (rw is refl) ∙ other))
      by true is (suc place) other rest =
          named-away id (clients_of entries) (away_of id entry.0 (clients_of entries) is apart.0) place
      by false is zero other rest = is
      by false is (suc place) other rest =
          rest place (sym (ap (λ at. is_place at (suc place)) (next_place id entry entries is)) ∙ other)

  -- the entries after the insertion are the clients as it settles
  kept_away : (xs : List Client) → Away id xs
      → map (λ x. if bytes_eq id x.id then client_of (x.id, session) else x) xs ≡ xs
  kept_away [] away = refl
  kept_away (x ∷ xs) away = rw (away.0, kept_away xs away.1) refl

  pub clients-insert : (entries : List (List ℕ × Session)) → Distinct (clients_of entries)
      → clients_of (insert_entry bytes_eq entries id session) ≡ settled id session (clients_of entries)
  clients-insert [] apart = refl
  clients-insert (entry ∷ entries) apart = by (bytes_eq id entry.0) refl (clients-insert entries apart.1)
    where
      by : (same : Bool) → bytes_eq id entry.0 ≡ same
          → clients_of (insert_entry bytes_eq entries id session) ≡ settled id session (clients_of entries)
          → clients_of (insert_entry bytes_eq (entry ∷ entries) id session)
          ≡ settled id session (clients_of (entry ∷ entries))
      by true is rest =
          rw (
            is,
            kept_away (clients_of entries) (away_of id entry.0 (clients_of entries) is apart.0),
            append-nil (clients_of entries),
          ) refl
      by false is rest = rw (is, rest) refl

  pub settled-indexed : (look after : Address → Option ℕ) (entries : List (List ℕ × Session))
      → Indexed look (clients_of entries)
      → Distinct (clients_of entries) → has_session session.presence.phase ≡ true
      → ((place : ℕ) → stands_at session.presence.address (clients_of entries) place ≡ true
      → holds_at (λ x. bytes_eq id x.id) (clients_of entries) place ≡ true)
      → ((from : Address) → after from
      ≡ (if same_address session.presence.address from then Some (place_for id entries)
      else (if was_at (presence_in (lookup (bytes_eq id) entries)) from then None else look from)))
      → Indexed after (clients_of (insert_entry bytes_eq entries id session))
  settled-indexed look after entries indexed apart there alone looks =
      indexed-moved look after (clients_of entries) (clients_of (insert_entry bytes_eq entries id session))
      (place_for id entries)
      (was_at (presence_in (lookup (bytes_eq id) entries))) (same_address session.presence.address) indexed
      (record {
        before = λ from. settled-before from entries;
        here = λ from. settled-here from entries ∙ (rw there refl);
        others = λ from place other. settled-others from entries place other;
        looks = looks;
        alone =
            λ from place now other. nobody from place now other
            (stands_at from (clients_of entries) place) refl;
      })
    where
      nobody : (from : Address) (place : ℕ) → same_address session.presence.address from ≡ true
          → is_place (place_for id entries) place ≡ false
          → (b : Bool) → stands_at from (clients_of entries) place ≡ b
          → stands_at from (clients_of entries) place ≡ false
      nobody from place now other false is = is
      nobody from place now other true is =
          let same : session.presence.address ≡ from = address-same session.presence.address from now in
          let named = alone place (ap (λ a. stands_at a (clients_of entries) place) same ∙ is) in
          absurd (true≢false (sym named ∙ named-once entries apart place other))

-- ---- a CONNECT that is accepted

known_vacated : (clock : ℕ) (from : Address) (id : List ℕ) (xs : List Client)
    → is_known id (map (vacated clock from id) xs) ≡ is_known id xs
known_vacated clock from id [] = refl
known_vacated clock from id (x ∷ xs) =
    rw (by (bytes_eq id x.id) (is_here x from) refl refl, known_vacated clock from id xs) refl
  where
    by : (named here : Bool) → bytes_eq id x.id ≡ named → is_here x from ≡ here
        → bytes_eq id (vacated clock from id x).id ≡ bytes_eq id x.id
    by true here is is_there = rw is is
    by false true is is_there = rw (is, is_there) is
    by false false is is_there = rw (is, is_there) is

-- the session of an accepted CONNECT of a client that was not known
abbrev pub session_by : ℕ → Address → Connect → ClientState → Ids → Buffer → List Held → Wills → List ℕ
    → Session
session_by clock from connect phase ids queue held wills unreleased = record {
  presence = record { address = from; phase = phase; duration = connect.duration; heard = clock };
  ids = ids;
  number = 0;
  queue = queue;
  filters = held;
  wills = wills;
  unreleased = unreleased;
}

abbrev pub begun_wills : Connect → Wills → Wills
begun_wills connect wills = wills_opened connect.flags.clean connect.flags.will wills

let_in-blank : (clock : ℕ) (from : Address) (connect : Connect)
    → client_of (
      connect.client_id,
      session_by clock from connect (phase_opened connect.flags.will) [] nothing []
          (begun_wills connect no_will) [],
    )
    ≡ let_in clock from connect (blank connect.client_id)
let_in-blank clock from connect = by connect.flags.clean connect.flags.will
  where
    by : (clean will : Bool)
        → kept_as connect.client_id (record {
          address = from;
          phase = phase_opened will;
          duration = connect.duration;
          heard = clock;
        }) [] 0
        nothing [] (wills_opened clean will no_will) []
        ≡ opened will (cleaned clean (record (blank connect.client_id)
        { address = from; ids = []; duration = connect.duration; heard = clock }))
    by true true = refl
    by true false = refl
    by false true = refl
    by false false = refl

-- the first of a list that is not known, and the rest
pub known-first : (id : List ℕ) (x : Client) (xs : List Client) → is_known id (x ∷ xs) ≡ false
    → (bytes_eq id x.id ≡ false) × (is_known id xs ≡ false)
known-first id x xs new = by (bytes_eq id x.id) refl new
  where
    by : (b : Bool) → bytes_eq id x.id ≡ b → (b || is_known id xs) ≡ false
        → (bytes_eq id x.id ≡ false) × (is_known id xs ≡ false)
    by true is or = absurd (true≢false or)
    by false is or = (is, or)

entering-new : (clock : ℕ) (from : Address) (connect : Connect) (session : Session) (xs : List Client)
    → is_known connect.client_id xs ≡ false
    → map (λ x. if bytes_eq connect.client_id x.id then client_of (x.id, session) else x)
    (map (vacated clock from connect.client_id) xs)
    ≡ map (entering clock from connect) xs
entering-new clock from connect session [] new = refl
entering-new clock from connect session (x ∷ xs) new =
    let first = known-first connect.client_id x xs new in
    λ i. by (is_here x from) refl first.0 i ∷ entering-new clock from connect session xs first.1 i
  where
    by : (here : Bool) → is_here x from ≡ here → bytes_eq connect.client_id x.id ≡ false
        → (let y = vacated clock from connect.client_id x in
        if bytes_eq connect.client_id y.id then client_of (y.id, session) else y)
        ≡ entering clock from connect x
    by true is_there is = rw (is, is_there, is) refl
    by false is_there is = rw (is, is_there, is) refl

settled_entered : (clock : ℕ) (from : Address) (connect : Connect) (xs : List Client)
    → is_known connect.client_id xs ≡ false
    → settled connect.client_id (session_by clock from connect (phase_opened connect.flags.will) [] nothing []
    (begun_wills connect no_will) []) (map (vacated clock from connect.client_id) xs)
    ≡ entered clock from connect xs
settled_entered clock from connect xs unknown =
    let known = known_vacated clock from connect.client_id xs in
    let new = let_in-blank clock from connect in
    let all =
    entering-new clock from connect
    (session_by clock from connect (phase_opened connect.flags.will) [] nothing []
    (begun_wills connect no_will) []) xs unknown in
    λ i. all i ++ (if known i then [] else new i ∷ [])

pub settled-entered : (clock : ℕ) (from : Address) (connect : Connect) (phase : ClientState) (ids : Ids)
    (queue : Buffer) (held : List Held) (wills after : Wills) (unreleased : List ℕ)
    → (ids ≡ []) × (queue ≡ nothing) × (held ≡ []) × (wills ≡ no_will)
    → phase ≡ phase_opened connect.flags.will → after ≡ begun_wills connect wills → unreleased ≡ []
    → (xs : List Client)
    → is_known connect.client_id xs ≡ false
    → settled connect.client_id (session_by clock from connect phase ids queue held after unreleased)
    (map (vacated clock from connect.client_id) xs)
    ≡ entered clock from connect xs
settled-entered clock from connect phase ids queue held wills after unreleased none stands is shut xs new =
    let begun = is ∙ ap (begun_wills connect) none.3 in
    (λ i. settled connect.client_id
    (session_by clock from connect (stands i) (none.0 i) (none.1 i) (none.2 i) (begun i) (shut i))
    (map (vacated clock from connect.client_id) xs))
    ∙ settled_entered clock from connect xs new

-- ---- a client that connects again

-- the place of a key that is there is that of the one client with the id
named-there : (id : List ℕ) (entries : List (List ℕ × Session)) → Distinct (clients_of entries)
    → place_for id entries < length (keys_of entries)
    → (place : ℕ) → holds_at (λ x. bytes_eq id x.id) (clients_of entries) place
    ≡ is_place (place_for id entries) place
named-there id [] apart within place = absurd (omega arith)
named-there id (entry ∷ entries) apart within place =
    by (bytes_eq id entry.0) refl (λ inside later. named-there id entries apart.1 inside later) place
  where
    by : (same : Bool) → bytes_eq id entry.0 ≡ same
        → (place_for id entries < length (keys_of entries) → (later : ℕ)
        → holds_at (λ x. bytes_eq id x.id) (clients_of entries) later ≡ is_place (place_for id entries) later)
        → (place : ℕ) → holds_at (λ x. bytes_eq id x.id) (clients_of (entry ∷ entries)) place
        ≡ is_place (place_for id (entry ∷ entries)) place
    by true is rest zero = rw is refl
    by true is rest (suc place) =
        rw is (named-away id (clients_of entries) (away_of id entry.0 (clients_of entries) is apart.0) place)
    by false is rest zero = is ∙ sym (ap (λ at. is_place at zero) (next_place id entry entries is))
    by false is rest (suc place) =
        let next : place_for id (entry ∷ entries) ≡ suc (place_for id entries) =
        next_place id entry entries is in
        rest (omega (arith, next)) place ∙ sym (ap (λ at. is_place at (suc place)) next)

-- a key that is found is the client's
pub named-found : (id : List ℕ) (entries : List (List ℕ × Session)) (found : ℕ)
    → Distinct (clients_of entries)
    → position (bytes_eq id) (keys_of entries) ≡ Some found
    → (place : ℕ) → holds_at (λ x. bytes_eq id x.id) (clients_of entries) place ≡ is_place found place
named-found id entries found apart is place =
    by (nat_lt (place_for id entries) (length (keys_of entries))) refl is
  where
    by : (b : Bool) → nat_lt (place_for id entries) (length (keys_of entries)) ≡ b
        → (if b then Some (place_for id entries) else None) ≡ Some found
        → holds_at (λ x. bytes_eq id x.id) (clients_of entries) place ≡ is_place found place
    by true within at =
        named-there id entries apart (ltb-true (place_for id entries) (length (keys_of entries)) within) place
        ∙ ap (λ o. is_place (unwrap_or o found) place) at
    by false within at = absurd (true≢false (sym (ap is_some at)))

-- a client is known where its key is found
pub known-found : (id : List ℕ) (entries : List (List ℕ × Session))
    → is_known id (clients_of entries) ≡ is_some (lookup (bytes_eq id) entries)
known-found id [] = refl
known-found id (entry ∷ entries) = by (bytes_eq id entry.0) (known-found id entries)
  where
    by : (b : Bool) → is_known id (clients_of entries) ≡ is_some (lookup (bytes_eq id) entries)
        → (b || is_known id (clients_of entries))
        ≡ is_some (if b then Some entry.1 else lookup (bytes_eq id) entries)
    by true rest = refl
    by false rest = rest

pub known-at : (id : List ℕ) (xs : List Client) (place : ℕ) → holds_at (λ x. bytes_eq id x.id) xs place ≡ true
    → is_known id xs ≡ true
known-at id [] place is = absurd (true≢false (sym is))
known-at id (x ∷ xs) zero is = rw is refl
known-at id (x ∷ xs) (suc place) is = by (bytes_eq id x.id) (known-at id xs place is)
  where
    by : (b : Bool) → is_known id xs ≡ true → (b || is_known id xs) ≡ true
    by true rest = refl
    by false rest = rest

-- who leaves keeps its id
named-vacated : (clock : ℕ) (from : Address) (id : List ℕ) (xs : List Client) (place : ℕ)
    → holds_at (λ x. bytes_eq id x.id) (map (vacated clock from id) xs) place
    ≡ holds_at (λ x. bytes_eq id x.id) xs place
named-vacated clock from id [] place = refl
named-vacated clock from id (x ∷ xs) zero = by (bytes_eq id x.id) (is_here x from) refl refl
  where
    by : (named here : Bool) → bytes_eq id x.id ≡ named → is_here x from ≡ here
        → bytes_eq id (vacated clock from id x).id ≡ bytes_eq id x.id
    by true here is is_there = rw is is
    by false true is is_there = rw (is, is_there) is
    by false false is is_there = rw (is, is_there) is
named-vacated clock from id (x ∷ xs) (suc place) = named-vacated clock from id xs place

-- nobody else is where it connects from
pub vacated-sole : (clock : ℕ) (from : Address) (id : List ℕ) (xs : List Client) (found : ℕ)
    → ((place : ℕ) → holds_at (λ x. bytes_eq id x.id) xs place ≡ is_place found place)
    → (place : ℕ) → stands_at from (map (vacated clock from id) xs) place ≡ true → is_place found place ≡ true
vacated-sole clock from id xs found only place there =
    sym (only place) ∙ sym (named-vacated clock from id xs place) ∙ vacated-alone clock from id xs place there

entering-again : (clock : ℕ) (from : Address) (connect : Connect) (xs : List Client)
    → map (λ x. if bytes_eq connect.client_id x.id then let_in clock from connect x else x)
    (map (vacated clock from connect.client_id) xs)
    ≡ map (entering clock from connect) xs
entering-again clock from connect [] = refl
entering-again clock from connect (x ∷ xs) =
    λ i. by (bytes_eq connect.client_id x.id) (is_here x from) refl refl i
    ∷ entering-again clock from connect xs i
  where
    by : (named here : Bool) → bytes_eq connect.client_id x.id ≡ named → is_here x from ≡ here
        → (let y = vacated clock from connect.client_id x in
        if bytes_eq connect.client_id y.id then let_in clock from connect y else y)
        ≡ entering clock from connect x
    by true here is is_there = rw (is, is) refl
    by false true is is_there = rw (is, is_there, is) refl
    by false false is is_there = rw (is, is_there, is) refl

pub returned-entered : (clock : ℕ) (from : Address) (connect : Connect) (xs : List Client) (found : ℕ)
    → ((place : ℕ) → holds_at (λ x. bytes_eq connect.client_id x.id) xs place ≡ is_place found place)
    → moved_at found (let_in clock from connect) (map (vacated clock from connect.client_id) xs)
    ≡ entered clock from connect xs
returned-entered clock from connect xs found only =
    let id = connect.client_id in
    let known : is_known id xs ≡ true = known-at id xs found (only found ∙ is_place-self found) in
    sym (map_only (λ x. false) (λ x. bytes_eq id x.id) (let_in clock from connect)
    (map (vacated clock from id) xs) found
    (λ place. named-vacated clock from id xs place ∙ only place))
    ∙ entering-again clock from connect xs
    ∙ (rw (known, append-nil (map (entering clock from connect) xs)) refl)

-- who connects is at the address
let_in-here : (clock : ℕ) (at from : Address) (connect : Connect) (x : Client)
    → is_here (let_in clock at connect x) from ≡ same_address at from
let_in-here clock at from connect x = by connect.flags.clean connect.flags.will
  where
    by : (clean will : Bool)
        → is_here (opened will (cleaned clean
        (record x { address = at; ids = []; duration = connect.duration; heard = clock }))) from
        ≡ same_address at from
    by true true = refl
    by true false = refl
    by false true = refl
    by false false = refl

stands_at-let_in : (clock : ℕ) (at from : Address) (connect : Connect) (entries : List (List ℕ × Session))
    (place : ℕ) (session : Session)
    → slice_get (values_of entries) place ≡ Some session
    → stands_at from (moved_at place (let_in clock at connect) (clients_of entries)) place
    ≡ same_address at from
stands_at-let_in clock at from connect [] place session found = absurd (true≢false (sym (ap is_some found)))
stands_at-let_in clock at from connect (entry ∷ entries) zero session found =
    let_in-here clock at from connect (client_of entry)
stands_at-let_in clock at from connect (entry ∷ entries) (suc place) session found =
    stands_at-let_in clock at from connect entries place session found

pub returned-indexed : (look after : Address → Option ℕ) (entries : List (List ℕ × Session)) (at clock : ℕ)
    (where_from : Address) (connect : Connect)
    (session : Session) → slice_get (values_of entries) at ≡ Some session → Indexed look (clients_of entries)
    → ((place : ℕ) → stands_at where_from (clients_of entries) place ≡ true → is_place at place ≡ true)
    → ((from : Address) → after from ≡ (if same_address where_from from then Some at
    else (if was_at (Some session.presence) from then None else look from)))
    → Indexed after (moved_at at (let_in clock where_from connect) (clients_of entries))
returned-indexed look after entries at clock where_from connect session found indexed sole looks =
    indexed-moved look after xs (moved_at at (let_in clock where_from connect) xs) at
    (was_at (Some session.presence)) (same_address where_from) indexed (record {
      before = λ from. stands_at-was from entries at ∙ ap (λ o. was_at (presence_in o) from) found;
      here = λ from. stands_at-let_in clock where_from from connect entries at session found;
      others =
          λ from place other. holds_at-other (λ x. is_here x from)
          (let_in clock where_from connect) xs at place other;
      looks = looks;
      alone = λ from place now other. nobody from place now other (stands_at from xs place) refl;
    })
  where
    xs : List Client
    xs = clients_of entries

    nobody : (from : Address) (place : ℕ) → same_address where_from from ≡ true → is_place at place ≡ false
        → (b : Bool) → stands_at from xs place ≡ b → stands_at from xs place ≡ false
    nobody from place now other false is = is
    nobody from place now other true is =
        let same : where_from ≡ from = address-same where_from from now in
        let own = sole place (ap (λ a. stands_at a xs place) same ∙ is) in
        absurd (true≢false (sym own ∙ other))
