-- For whom filters stand, and which are wanted, once one of them ended for one client.
use Rattle.std.proofs.Common.{◌≡◌, ℕ, Bool, true, false, List, [], ◌∷◌}
use Rattle.std.proofs.Common.{◌++◌, refl, ap, sym, ◌∙◌}
use Rattle.std.specs.Prelude.{if◌then◌else◌, ◌&&◌, ◌||◌, not}
use Rattle.std.specs.Str.{bytes_eq}
use Rattle.std.proofs.lemmas.List.Folds.{list_any-append}
use Rattle.sng_history.specs.Clients.{Client, without}
use Rattle.sng_history.specs.Links.{Wanted, is_filter_of}
use Rattle.sng_history.specs.Standing.{holds, is_held}
use Rattle.sng_history.specs.Standing.{still_wanted}
use Rattle.sng_wanted.specs.Filters.{without_wanted}
use Rattle.sng_history.proofs.Own.{same_self, same_means}
use Rattle.sng_history.proofs.Booleans.{and_no, and_yes}
use Rattle.sng_history.proofs.OneEnds.{without_stands}

-- ---- one of many clients

held_mid : (earlier : List Client) (z : Client) (xs : List Client) (text : List ℕ)
    → is_held (earlier ++ z ∷ xs) text ≡ (is_held earlier text || (holds text z || is_held xs text))
held_mid earlier z xs text = list_any-append (holds text) earlier (z ∷ xs)

-- for whom a filter stands once the client in the middle holds this one no more
abbrev pub Middle : List Client → Client → List Client → List ℕ → List Client
Middle earlier z xs text = earlier ++ without text z ∷ xs

middle_held : (earlier : List Client) (z : Client) (xs : List Client) (gone text : List ℕ)
    → is_held (Middle earlier z xs gone) text
    ≡ (is_held earlier text || ((holds text z && not (bytes_eq gone text)) || is_held xs text))
middle_held earlier z xs gone text =
    held_mid earlier (without gone z) xs text
    ∙ ap (λ b. is_held earlier text || (b || is_held xs text)) (without_stands z.filters gone text)

-- the filter that ended stands for the others
pub gone_held : (earlier : List Client) (z : Client) (xs : List Client) (gone : List ℕ)
    → is_held (Middle earlier z xs gone) gone ≡ (is_held earlier gone || is_held xs gone)
gone_held earlier z xs gone =
    middle_held earlier z xs gone gone
    ∙ (ap (λ b. is_held earlier gone || ((holds gone z && not b) || is_held xs gone)) (same_self gone)
    ∙ ap (λ b. is_held earlier gone || (b || is_held xs gone)) (and_no (holds gone z)))

other_held : (earlier : List Client) (z : Client) (xs : List Client) (gone text : List ℕ)
    → bytes_eq gone text ≡ false → is_held (Middle earlier z xs gone) text ≡ is_held (earlier ++ z ∷ xs) text
other_held earlier z xs gone text away =
    middle_held earlier z xs gone text
    ∙ (ap (λ b. is_held earlier text || ((holds text z && not b) || is_held xs text)) away
    ∙ (ap (λ b. is_held earlier text || (b || is_held xs text)) (and_yes (holds text z))
    ∙ sym (held_mid earlier z xs text)))

-- where it still stands for somebody, just the same filters stand for somebody
or_stays : (a b c : Bool) → (a || c) ≡ true → (a || (b || c)) ≡ true
or_stays true b c is = refl
or_stays false true c is = refl
or_stays false false c is = is

pub stays_by : (earlier : List Client) (z : Client) (xs : List Client) (gone text : List ℕ) (b : Bool)
    → bytes_eq gone text ≡ b → is_held (Middle earlier z xs gone) gone ≡ true
    → is_held (earlier ++ z ∷ xs) text ≡ is_held (Middle earlier z xs gone) text
stays_by earlier z xs gone text false is held = sym (other_held earlier z xs gone text is)
stays_by earlier z xs gone text true is held =
    let e : gone ≡ text = same_means gone text is in
    let yes : is_held (Middle earlier z xs gone) text ≡ true =
    ap (is_held (Middle earlier z xs gone)) (sym e) ∙ held in
    let others : (is_held earlier gone || is_held xs gone) ≡ true =
    sym (gone_held earlier z xs gone) ∙ held in
    ap (is_held (earlier ++ z ∷ xs)) (sym e)
    ∙ (held_mid earlier z xs gone
    ∙ (or_stays (is_held earlier gone) (holds gone z) (is_held xs gone) others ∙ sym yes))

-- else all but this one
pub leaves_by : (earlier : List Client) (z : Client) (xs : List Client) (gone text : List ℕ) (b : Bool)
    → bytes_eq gone text ≡ b → is_held (Middle earlier z xs gone) gone ≡ false
    → is_held (Middle earlier z xs gone) text ≡ (is_held (earlier ++ z ∷ xs) text && not b)
leaves_by earlier z xs gone text false is held =
    other_held earlier z xs gone text is ∙ sym (and_yes (is_held (earlier ++ z ∷ xs) text))
leaves_by earlier z xs gone text true is held =
    let e : gone ≡ text = same_means gone text is in
    ap (is_held (Middle earlier z xs gone)) (sym e) ∙ (held ∙ sym (and_no (is_held (earlier ++ z ∷ xs) text)))

-- ---- the wanted filters

pub still_same : (xs ys : List Client) (wanted : List Wanted)
    → ((text : List ℕ) → is_held xs text ≡ is_held ys text) → still_wanted xs wanted ≡ still_wanted ys wanted
still_same xs ys [] same = refl
still_same xs ys (w ∷ wanted) same = rw (same w.filter, still_same xs ys wanted same) refl

fewer_by : (xs ys : List Client) (gone : List ℕ) (w : Wanted) (wanted : List Wanted) (held same : Bool)
    → is_filter_of gone w ≡ same
    → without_wanted (still_wanted xs wanted) gone ≡ still_wanted ys wanted
    → without_wanted (if held then w ∷ still_wanted xs wanted else still_wanted xs wanted) gone
    ≡ (if held && not same then w ∷ still_wanted ys wanted else still_wanted ys wanted)
fewer_by xs ys gone w wanted true true is later = rw is later
fewer_by xs ys gone w wanted true false is later = rw is (ap (λ ws. w ∷ ws) later)
fewer_by xs ys gone w wanted false same is later = later

pub still_fewer : (xs ys : List Client) (gone : List ℕ) (wanted : List Wanted)
    → ((text : List ℕ) → is_held ys text ≡ (is_held xs text && not (bytes_eq gone text)))
    → without_wanted (still_wanted xs wanted) gone ≡ still_wanted ys wanted
still_fewer xs ys gone [] less = refl
still_fewer xs ys gone (w ∷ wanted) less =
    fewer_by xs ys gone w wanted (is_held xs w.filter) (is_filter_of gone w) refl
    (still_fewer xs ys gone wanted less)
    ∙ ap (λ b. if b then w ∷ still_wanted ys wanted else still_wanted ys wanted) (sym (less w.filter))
