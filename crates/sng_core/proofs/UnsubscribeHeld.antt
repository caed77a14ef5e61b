-- What an UNSUBSCRIBE lets out, who holds filters then, and which stay wanted.
use Rattle.std.proofs.Common.{◌≡◌, ℕ, ◌+◌, zero, suc, Bool, true, false, List, [], ◌∷◌, map, take}
use Rattle.std.proofs.Common.{drop, refl, ap, sym, ◌∙◌}
use Rattle.std.specs.Prelude.{if◌then◌else◌, ◌&&◌, ◌||◌, not, filter, slice_get, Option}
use Rattle.std.specs.Prelude.{Some, None}
use Rattle.std.specs.Str.{bytes_eq}
use Rattle.sng_frames.specs.declared.messages.subscribe.TopicRequest.{TopicRequest}
use Rattle.sng_book.specs.declared.address.Address.{Address}
use Rattle.sng_book.specs.declared.outcome.Outcome.{Outcome}
use Rattle.sng_book.specs.declared.outcome.Outcome.TheVariants.{Allowed, Denied}
use Rattle.sng_history.specs.Causes.{ToUnsubscribe, ByMessage}
use Rattle.sng_history.specs.Clients.{Client, unsubscribed}
use Rattle.sng_history.specs.Links.{Wanted, is_filter_of, wants}
use Rattle.sng_history.specs.Standing.{holds, is_held}
use Rattle.sng_history.specs.Standing.{drop_note, still_wanted}
use Rattle.sng_history.specs.State.{State}
use Rattle.sng_history.specs.Answers.{unsuback}
use Rattle.sng_history.specs.Whole.{dropped_with, replied}
use Rattle.sng_history.specs.Good.{Good}
use Rattle.sng_history.proofs.Own.{same_means, same_self}
use Rattle.sng_history.proofs.Endless.{EachWanted, each_wanted, all_still}
use Rattle.sng_sessions.specs.Moving.{moved_at}
use Rattle.sng_sessions.proofs.HeldLemmas.{stands-without}
use Rattle.sng_sessions.proofs.MovedLists.{take-moved, drop-moved}
use Rattle.sng_core.specs.Forms.{client_at, heard_at}
use Rattle.sng_core.specs.Subscribing.{others_hold}
use Rattle.sng_core.specs.Subscribing.{holds_alone, let_go, untold_of, unwanted}
use Rattle.sng_core.proofs.OneEnds.{held_split}
use Rattle.sng_core.proofs.UnsubscribeEnds.{release}

-- ---- what is let out

noted_by : (x : Client) (text : List ℕ) (place : Bool)
    → drop_note (if place then [] else map (release x) (text ∷ [])) x.id text ≡ untold_of place (text ∷ [])
noted_by x text true = refl
noted_by x text false = rw (same_self x.id, same_self text) refl

noted_if : (x : Client) (text : List ℕ) (b place : Bool)
    → drop_note (if place then [] else map (release x) (if b then text ∷ [] else [])) x.id text
    ≡ untold_of place (if b then text ∷ [] else [])
noted_if x text true place = noted_by x text place
noted_if x text false true = refl
noted_if x text false false = refl

pub judged_noted : (s : State) (i : ℕ) (x : Client) (filter : Option (List ℕ)) (o : Outcome) (place : Bool)
    → dropped_with (if place then [] else map (release x) (let_go s.clients i filter o)) x.id filter
    ≡ untold_of place (let_go s.clients i filter o)
judged_noted s i x None o place = refl
judged_noted s i x (Some text) Allowed place = noted_if x text (holds_alone s.clients i text) place
judged_noted s i x (Some text) (Denied rule) true = refl
judged_noted s i x (Some text) (Denied rule) false = refl

pub acked : (clock : ℕ) (from : Address) (r : TopicRequest) (x : Client) (filter : Option (List ℕ))
    (o : Outcome)
    → replied (ByMessage from (ToUnsubscribe r)) (heard_at clock x) filter o ≡ unsuback x.address r ∷ []
acked clock from r x filter Allowed = refl
acked clock from r x filter (Denied rule) = refl

-- ---- who holds filters then

read_moved : (g : Client → Client) (xs : List Client) (i : ℕ) (x : Client) → slice_get xs i ≡ Some x
    → slice_get (moved_at i g xs) i ≡ Some (g x)
read_moved g [] i x read = absurd cc
read_moved g (y ∷ ys) zero x read = let e : y ≡ x = cc in ap (λ z. Some (g z)) e
read_moved g (y ∷ ys) (suc i) x read = read_moved g ys i x read

others_moved : (g : Client → Client) (xs : List Client) (i : ℕ) (text : List ℕ)
    → others_hold (moved_at i g xs) i text ≡ others_hold xs i text
others_moved g xs i text =
    ap (λ ys. is_held ys text || is_held (drop (i + 1) (moved_at i g xs)) text) (take-moved g i xs)
    ∙ ap (λ ys. is_held (take i xs) text || is_held ys text) (drop-moved g i xs)

-- of a filter after the row
held_after : (g : Client → Client) (xs : List Client) (i : ℕ) (x : Client) (text : List ℕ)
    → slice_get xs i ≡ Some x
    → is_held (moved_at i g xs) text ≡ (holds text (g x) || others_hold xs i text)
held_after g xs i x text read =
    held_split (moved_at i g xs) i (g x) text (read_moved g xs i x read)
    ∙ ap (λ b. holds text (g x) || b) (others_moved g xs i text)

abbrev EachOf : (Wanted → Type 0) → List Wanted → Type 0
EachOf P [] = Unit {0}
EachOf P (w ∷ wanted) = P w × EachOf P wanted

-- the filters that stay wanted, where the tests agree on each that is wanted
tests_agree : (p q : Wanted → Bool) (wanted : List Wanted) → EachOf (λ w. p w ≡ q w) wanted
    → filter p wanted ≡ filter q wanted
tests_agree p q [] same = refl
tests_agree p q (w ∷ wanted) same = rw (same.0, tests_agree p q wanted same.1) refl

-- ---- what stays wanted

-- of a filter once another, or this one, ended for the client
after_by : (ends same stood others : Bool) → (stood || others) ≡ true
    → (ends ≡ true → same ≡ true → others ≡ false) → (ends ≡ false → same ≡ true → others ≡ true)
    → ((not same && stood) || others) ≡ (not (ends && same))
after_by true true stood others is alone shared = alone refl refl
after_by true false stood others is alone shared = is
after_by false true stood others is alone shared = shared refl refl
after_by false false stood others is alone shared = is

alone_others : (stood others : Bool) → (stood && not others) ≡ true → others ≡ false
alone_others true false is = refl
alone_others true true is = absurd cc
alone_others false others is = absurd cc

shared_others : (stood others : Bool) → (stood && not others) ≡ false → (stood || others) ≡ true
    → others ≡ true
shared_others true true none is = refl
shared_others true false none is = absurd cc
shared_others false true none is = refl
shared_others false false none is = absurd cc

-- whether a wanted filter is held then
held_then : (s : State) (i : ℕ) (x : Client) (text other : List ℕ) (ends : Bool)
    → slice_get s.clients i ≡ Some x → (holds text x && not (others_hold s.clients i text)) ≡ ends
    → is_held s.clients other ≡ true
    → is_held (moved_at i (λ y. unsubscribed (Some text) Allowed (heard_at s.clock y)) s.clients) other
    ≡ (not (ends && bytes_eq text other))
held_then s i x text other ends read is there =
    let g : Client → Client = λ y. unsubscribed (Some text) Allowed (heard_at s.clock y) in
    let others = others_hold s.clients i in
    let before : (holds other x || others other) ≡ true = sym (held_split s.clients i x other read) ∙ there in
    held_after g s.clients i x other read
    ∙ (ap (λ b. b || others other) (stands-without x.filters text other)
    ∙ after_by ends (bytes_eq text other) (holds other x) (others other) before
    (λ e same. let t : text ≡ other = same_means text other same in ap others (sym t)
    ∙ alone_others (holds text x) (others text) (is ∙ e))
    (λ e same. let t : text ≡ other = same_means text other same in
    ap others (sym t) ∙ shared_others (holds text x) (others text) (is ∙ e)
    (ap (λ u. holds u x || others u) t ∙ before)))

each_then : (s : State) (i : ℕ) (x : Client) (text : List ℕ) (wanted : List Wanted)
    → slice_get s.clients i ≡ Some x → (holds text x && not (others_hold s.clients i text)) ≡ true
    → ((other : List ℕ) → wants s.link.wanted other ≡ is_held s.clients other)
    → EachWanted s.link.wanted wanted
    → EachOf (λ w. is_held (moved_at i (λ y. unsubscribed (Some text) Allowed (heard_at s.clock y)) s.clients)
    w.filter ≡ (not (is_filter_of text w))) wanted
each_then s i x text [] read is held each = tt
each_then s i x text (w ∷ wanted) read is held each = (
  held_then s i x text w.filter true read is (sym (held w.filter) ∙ each.0),
  each_then s i x text wanted read is held each.1,
)

still_by : (s : State) (i : ℕ) (x : Client) (text : List ℕ) (ends : Bool) → Good s
    → slice_get s.clients i ≡ Some x → (holds text x && not (others_hold s.clients i text)) ≡ ends
    → still_wanted (moved_at i (λ y. unsubscribed (Some text) Allowed (heard_at s.clock y)) s.clients)
    s.link.wanted ≡ unwanted s.link.wanted (if ends then text ∷ [] else [])
still_by s i x text true good read is =
    tests_agree (λ w. is_held (moved_at i
    (λ y. unsubscribed (Some text) Allowed (heard_at s.clock y)) s.clients) w.filter)
    (λ w. not (is_filter_of text w)) s.link.wanted
    (each_then s i x text s.link.wanted read is good.wanted_held (each_wanted s.link.wanted))
still_by s i x text false good read is =
    all_still (moved_at i (λ y. unsubscribed (Some text) Allowed (heard_at s.clock y)) s.clients)
    s.link.wanted s.link.wanted
    (λ other there. held_then s i x text other false read is (sym (good.wanted_held other) ∙ there))
    (each_wanted s.link.wanted)

same_held : (s : State) (i : ℕ) (x : Client) (other : List ℕ) → slice_get s.clients i ≡ Some x
    → is_held (moved_at i (heard_at s.clock) s.clients) other ≡ is_held s.clients other
same_held s i x other read =
    held_after (heard_at s.clock) s.clients i x other read ∙ sym (held_split s.clients i x other read)

still_same : (s : State) (i : ℕ) (x : Client) → Good s → slice_get s.clients i ≡ Some x
    → still_wanted (moved_at i (heard_at s.clock) s.clients) s.link.wanted ≡ s.link.wanted
still_same s i x good read =
    all_still (moved_at i (heard_at s.clock) s.clients) s.link.wanted s.link.wanted
    (λ other there. same_held s i x other read ∙ (sym (good.wanted_held other) ∙ there))
    (each_wanted s.link.wanted)

pub judged_still : (s : State) (i : ℕ) (x : Client) (filter : Option (List ℕ)) (o : Outcome) → Good s
    → slice_get s.clients i ≡ Some x → x ≡ client_at s.clients i
    → still_wanted (moved_at i (λ y. unsubscribed filter o (heard_at s.clock y)) s.clients) s.link.wanted
    ≡ unwanted s.link.wanted (let_go s.clients i filter o)
judged_still s i x None o good read at = still_same s i x good read
judged_still s i x (Some text) (Denied rule) good read at = still_same s i x good read
judged_still s i x (Some text) Allowed good read at =
    still_by s i x text (holds_alone s.clients i text) good read
    (ap (λ y. holds text y && not (others_hold s.clients i text)) at)
