-- What is let go of upstream as a client connects.
use Rattle.std.proofs.Common.{◌≡◌, ℕ, suc, ◌+◌, ◌<◌, Bool, true, false, List, [], ◌∷◌, ◌++◌, map}
use Rattle.std.proofs.Common.{take, drop, length, refl, ap, sym, ◌∙◌, arith}
use Rattle.std.specs.Prelude.{if◌then◌else◌, ◌||◌, ◌&&◌, not, nat_lt}
use Rattle.std.specs.Prelude.{Some, None}
use Rattle.std.specs.List.{position_or_len}
use Rattle.std.specs.Str.{bytes_eq}
use Rattle.std.proofs.lemmas.List.{map-append}
use Rattle.std.proofs.lemmas.Bool.Decides.{nat_tests}
use Rattle.sng_fan.specs.Subscriptions.{stands}
use Rattle.sng_fan.specs.declared.held.Held.{Held}
use Rattle.sng_frames.specs.declared.messages.connect.Connect.{Connect}
use Rattle.sng_book.specs.declared.address.Address.{Address}
use Rattle.sng_history.specs.Clients.{Client, Around, blank, is_here, opened, cleaned, let_in}
use Rattle.sng_history.specs.Entering.{left_at, entering, entering_first, served, serving, welcomed}
use Rattle.sng_history.specs.Standing.{holds, is_held, releases_of, released}
use Rattle.sng_history.specs.State.{is_known}
use Rattle.sng_history.specs.Good.{Each, Distinct}
use Rattle.sng_history.proofs.Own.{each_all}
use Rattle.sng_history.proofs.Hands.{served_steady}
use Rattle.sng_history.proofs.WantedKept.{or_no}
use Rattle.sng_history.proofs.NothingNew.{held_both}
use Rattle.sng_history.proofs.ClientIds.{ids_of}
use Rattle.sng_history.proofs.ClientIds.{length_ids}
use Rattle.sng_core.specs.Forms.{place_of, client_at}
use Rattle.sng_core.specs.Connecting.{alone_in, held_beside, alone_at}
use Rattle.sng_core.specs.Connecting.{alone_by}
use Rattle.sng_core.proofs.Found.{read_at, within}
use Rattle.sng_core.proofs.Releasing.{Same, Others, away_same, besides, texts_of, released_none}
use Rattle.sng_core.proofs.ReleasingLink.{gone_in}
use Rattle.sng_core.proofs.Releasing.{released_one, held_each, held_one, held_split, all_ended}
use Rattle.sng_core.proofs.Releasing.{releases_alone, alone_same}
use Rattle.sng_core.proofs.ReleasingLink.{alone_gone}
use Rattle.sng_core.proofs.ConnectingKnown.{known_here, unknown_all}

-- the client as it is let in, by whether its session is clean and whether it states a will
abbrev pub in_with : ℕ → Address → Connect → Client → Bool → Bool → Client
in_with clock from connect x clean will =
    opened will (cleaned clean (record x
    { address = from; ids = []; duration = connect.duration; heard = clock }))

in_filters : (clock : ℕ) (from : Address) (connect : Connect) (x : Client) (clean will : Bool)
    → (in_with clock from connect x clean will).filters ≡ (if clean then [] else x.filters)
in_filters clock from connect x true true = refl
in_filters clock from connect x true false = refl
in_filters clock from connect x false true = refl
in_filters clock from connect x false false = refl

abbrev kept_if : Client → Bool → List Held
kept_if x clean = if clean then [] else x.filters

filters_by : (clock : ℕ) (from : Address) (connect : Connect) (x : Client) (same here : Bool)
    → connect.flags.clean ≡ false
    → (if same then let_in clock from connect x else (if here then left_at clock x else x)).filters
    ≡ x.filters
filters_by clock from connect x true here keeps =
    in_filters clock from connect x connect.flags.clean connect.flags.will ∙ ap (kept_if x) keeps
filters_by clock from connect x false true keeps = refl
filters_by clock from connect x false false keeps = refl

-- the function leaves those filters that stand as the client enters
abbrev Alike : ℕ → Address → Connect → (Client → Client) → Type 0
Alike clock from connect f = (x : Client) → (f x).filters ≡ (entering clock from connect x).filters

all_keep : (clock : ℕ) (from : Address) (connect : Connect) (f : Client → Client) (x : Client)
    → Alike clock from connect f → connect.flags.clean ≡ false → Same f x
all_keep clock from connect f x alike keeps =
    alike x ∙ filters_by clock from connect x (bytes_eq connect.client_id x.id) (is_here x from) keeps

other_filters : (clock : ℕ) (x : Client) (here : Bool)
    → (if here then left_at clock x else x).filters ≡ x.filters
other_filters clock x true = refl
other_filters clock x false = refl

other_keeps : (clock : ℕ) (from : Address) (connect : Connect) (y : Client)
    → bytes_eq connect.client_id y.id ≡ false → Same (entering clock from connect) y
other_keeps clock from connect y off = rw off (other_filters clock y (is_here y from))

others_keep : (clock : ℕ) (from : Address) (connect : Connect) (f : Client → Client)
    → Alike clock from connect f → Others connect.client_id f
others_keep clock from connect f alike y off = alike y ∙ other_keeps clock from connect y off

cleared : (clock : ℕ) (from : Address) (connect : Connect) (x : Client)
    → bytes_eq connect.client_id x.id ≡ true → connect.flags.clean ≡ true
    → (entering clock from connect x).filters ≡ []
cleared clock from connect x is clean =
    rw is (in_filters clock from connect x connect.flags.clean connect.flags.will ∙ ap (kept_if x) clean)

-- these filters are those that are released, and of those that stood just these stand no more
pub record LetGo (f : Client → Client) (xs : List Client) (texts : List (List ℕ)) : Type 0 where
  pub released : (rest : List Client) → texts_of (released xs (map f xs ++ rest)) ≡ texts
  pub held : (text : List ℕ) → is_held xs text ≡ true → is_held (map f xs) text ≡ not (gone_in texts text)

nothing_goes : (f : Client → Client) (xs : List Client) → Each (Same f) xs → LetGo f xs []
nothing_goes f xs same = record {
  released = λ rest. ap texts_of (released_none f [] xs rest same);
  held = λ text is. held_each f xs text same ∙ is;
}

still : (a b h : Bool) → ((a || h) || b) ≡ true → ((a || false) || b) ≡ not (h && not ((false || a) || b))
still true b true is = refl
still true b false is = refl
still false true true is = refl
still false true false is = refl
still false false true is = refl
still false false false is = absurd cc

some_go : (clock : ℕ) (from : Address) (connect : Connect) (f : Client → Client) (xs : List Client) (i : ℕ)
    → Alike clock from connect f → Distinct xs → i < length xs
    → bytes_eq connect.client_id (client_at xs i).id ≡ true → connect.flags.clean ≡ true
    → LetGo f xs (alone_at xs (Some i))
some_go clock from connect f xs i alike apart within is clean =
    let id = connect.client_id in
    let x = client_at xs i in
    let none : List ℕ → Bool = λ text. false in
    let gone : (f x).filters ≡ [] = alike x ∙ cleared clock from connect x is clean in
    let others = others_keep clock from connect f alike in
    let one : i + 1 ≡ suc i = omega arith in
    let aside : (text : List ℕ) → besides none xs i text ≡ held_beside xs i text =
    λ text. ap (λ n. is_held (take i xs) text || is_held (drop n xs) text) (sym one) in
    let same : alone_in (besides none xs i) x.filters ≡ alone_at xs (Some i) =
    alone_same (besides none xs i) (held_beside xs i) x.filters aside in
    record {
      released = λ rest.
          ap texts_of (released_one id f [] xs rest none i others (λ text. refl) apart within is)
          ∙ (ap (λ texts. texts_of (releases_of x.id (besides none xs i) texts)) (all_ended x (f x) gone)
          ∙ (releases_alone x.id (besides none xs i) x.filters ∙ same));
      held = λ text stood.
          let a = is_held (take i xs) text in
          let b = is_held (drop (suc i) xs) text in
          held_one id f xs i text others apart within is
          ∙ (ap (λ held. (a || stands held text) || b) gone
          ∙ (still a b (holds text x) (sym (held_split xs i text within) ∙ stood)
          ∙ ap not (sym (alone_gone (besides none xs i) x.filters text)
          ∙ ap (λ texts. gone_in texts text) same)));
    }

let_go_place : (clock : ℕ) (from : Address) (connect : Connect) (f : Client → Client) (xs : List Client)
    (found : Bool) → nat_lt (position_or_len (bytes_eq connect.client_id) (ids_of xs)) (length (ids_of xs))
    ≡ found → Alike clock from connect f → Distinct xs → connect.flags.clean ≡ true
    → LetGo f xs (alone_at xs (if found then Some (position_or_len (bytes_eq connect.client_id) (ids_of xs))
    else None))
let_go_place clock from connect f xs true is alike apart clean =
    let id = connect.client_id in
    let i = position_or_len (bytes_eq id) (ids_of xs) in
    let lt = ap (λ n. nat_lt i n) (sym (length_ids xs)) ∙ is in
    some_go clock from connect f xs i alike apart (grind (arith, nat_tests, lt))
    (known_here id xs i (client_at xs i) refl (read_at xs i lt)) clean
let_go_place clock from connect f xs false is alike apart clean =
    let id = connect.client_id in
    nothing_goes f xs (away_same id f xs (others_keep clock from connect f alike) (unknown_all id xs is))

lets_go_by : (clock : ℕ) (from : Address) (connect : Connect) (f : Client → Client) (xs : List Client)
    (clean : Bool) → connect.flags.clean ≡ clean → Alike clock from connect f → Distinct xs
    → LetGo f xs (if clean then alone_at xs (place_of connect.client_id xs) else [])
lets_go_by clock from connect f xs true is alike apart =
    let_go_place clock from connect f xs
    (nat_lt (position_or_len (bytes_eq connect.client_id) (ids_of xs)) (length (ids_of xs))) refl alike
    apart is
lets_go_by clock from connect f xs false is alike apart =
    nothing_goes f xs (each_all (Same f) xs (λ x. all_keep clock from connect f x alike is))

pub lets_go : (clock : ℕ) (from : Address) (connect : Connect) (f : Client → Client) (xs : List Client)
    → Alike clock from connect f → Distinct xs → LetGo f xs (alone_by connect xs)
lets_go clock from connect f xs alike apart =
    lets_go_by clock from connect f xs connect.flags.clean refl alike apart

-- for one that comes first nothing stands
no_filters : (held : List Held) (clean : Bool) → held ≡ [] → (if clean then [] else held) ≡ []
no_filters held true is = refl
no_filters held false is = is

blank_filters : (clock : ℕ) (from : Address) (connect : Connect) (id : List ℕ)
    → (let_in clock from connect (blank id)).filters ≡ []
blank_filters clock from connect id =
    in_filters clock from connect (blank id) connect.flags.clean connect.flags.will
    ∙ no_filters [] connect.flags.clean refl

first_unheld_by : (clock : ℕ) (from : Address) (connect : Connect) (text : List ℕ) (known : Bool)
    → is_held (if known then [] else let_in clock from connect (blank connect.client_id) ∷ []) text ≡ false
first_unheld_by clock from connect text true = refl
first_unheld_by clock from connect text false =
    ap (λ held. stands held text || false) (blank_filters clock from connect connect.client_id)

first_unheld : (clock : ℕ) (from : Address) (connect : Connect) (xs : List Client) (text : List ℕ)
    → is_held (entering_first clock from connect xs) text ≡ false
first_unheld clock from connect xs text =
    first_unheld_by clock from connect text (is_known connect.client_id xs)

-- handing over leaves what stands
serving_by : (a : Around) (x : Client) (same : Bool) → (if same then served a x else x).filters ≡ x.filters
serving_by a x true = (served_steady a x).filters
serving_by a x false = refl

serving_keeps : (a : Around) (id : List ℕ) (x : Client) → Same (serving a id) x
serving_keeps a id x = serving_by a x (bytes_eq id x.id)

-- one of the clients once the CONNECT is answered, and who comes last
abbrev pub welcoming : Around → Address → Connect → Client → Client
welcoming a from connect x = serving a connect.client_id (entering a.clock from connect x)

abbrev pub welcomed_first : Around → Address → Connect → List Client → List Client
welcomed_first a from connect xs = map (serving a connect.client_id) (entering_first a.clock from connect xs)

pub welcoming_alike : (a : Around) (from : Address) (connect : Connect)
    → Alike a.clock from connect (welcoming a from connect)
welcoming_alike a from connect x = serving_keeps a connect.client_id (entering a.clock from connect x)

map_twice : (g h : Client → Client) (xs : List Client) → map g (map h xs) ≡ map (λ x. g (h x)) xs
map_twice g h [] = refl
map_twice g h (x ∷ xs) = ap (λ ys. g (h x) ∷ ys) (map_twice g h xs)

pub welcomed_are : (a : Around) (from : Address) (connect : Connect) (xs : List Client)
    → welcomed a from connect xs ≡ map (welcoming a from connect) xs ++ welcomed_first a from connect xs
welcomed_are a from connect xs =
    let g = serving a connect.client_id in
    let h = entering a.clock from connect in
    map-append g (map h xs) (entering_first a.clock from connect xs)
    ∙ ap (λ ys. ys ++ welcomed_first a from connect xs) (map_twice g h xs)

welcomed_unheld : (a : Around) (from : Address) (connect : Connect) (xs : List Client) (text : List ℕ)
    → is_held (welcomed_first a from connect xs) text ≡ false
welcomed_unheld a from connect xs text =
    let g = serving a connect.client_id in
    let first = entering_first a.clock from connect xs in
    held_each g first text (each_all (Same g) first (serving_keeps a connect.client_id))
    ∙ first_unheld a.clock from connect xs text

pub welcomed_held : (a : Around) (from : Address) (connect : Connect) (xs : List Client) (text : List ℕ)
    → is_held (map (welcoming a from connect) xs ++ welcomed_first a from connect xs) text
    ≡ is_held (map (welcoming a from connect) xs) text
welcomed_held a from connect xs text =
    let ys = map (welcoming a from connect) xs in
    held_both ys (welcomed_first a from connect xs) text
    ∙ (ap (λ b. is_held ys text || b) (welcomed_unheld a from connect xs text) ∙ or_no (is_held ys text))
