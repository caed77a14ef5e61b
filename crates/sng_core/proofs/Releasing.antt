-- Which filters stand for nobody any more as one client's subscriptions end.
use Rattle.std.proofs.Common.{◌≡◌, ◌<◌, ℕ, zero, suc, Bool, true, false, List, [], ◌∷◌, ◌++◌, map}
use Rattle.std.proofs.Common.{take, drop, length, refl, ap, sym, ◌∙◌, subst, arith}
use Rattle.std.specs.Prelude.{if◌then◌else◌, ◌||◌, not, filter}
use Rattle.std.specs.Str.{bytes_eq}
use Rattle.std.proofs.lemmas.List.{append-nil}
use Rattle.sng_fan.specs.declared.held.Held.{Held}
use Rattle.sng_fan.specs.Subscriptions.{has_text, stands}
use Rattle.sng_history.specs.Clients.{Client}
use Rattle.sng_history.specs.Standing.{Release, holds, is_held, ended, releases_of, released_from}
use Rattle.sng_history.specs.Good.{Each, Away, Distinct}
use Rattle.sng_history.proofs.Own.{same_self, same_means, each_map}
use Rattle.sng_history.proofs.WantedKept.{or_no}
use Rattle.sng_history.proofs.NothingNew.{held_both}
use Rattle.sng_history.proofs.Booleans.{or_right}
use Rattle.sng_sessions.specs.Standing.{client_at}
use Rattle.sng_core.specs.Connecting.{alone_in}

-- ---- who keeps its filters releases none

abbrev pub Same : (Client → Client) → Client → Type 0
Same f y = (f y).filters ≡ y.filters

none_of : (all held : List Held) → ((text : List ℕ) → stands held text ≡ true → stands all text ≡ true)
    → filter (λ h. not (stands all h.filter)) held ≡ []
none_of all [] each = refl
none_of all (h ∷ held) each =
    let now : stands all h.filter ≡ true =
    each h.filter (ap (λ b. b || stands held h.filter) (same_self h.filter)) in
    rw now (none_of all held (λ text is. each text (or_right (has_text text h) (stands held text) is)))

ended_none : (x y : Client) → y.filters ≡ x.filters → ended x y ≡ []
ended_none x y same =
    ap (map (λ h. h.filter)) (none_of y.filters x.filters
    (λ text is. ap (λ held. stands held text) same ∙ is))

pub released_none : (f : Client → Client) (earlier xs rest : List Client) → Each (Same f) xs
    → released_from earlier xs (map f xs ++ rest) ≡ []
released_none f earlier [] rest same = refl
released_none f earlier (x ∷ xs) rest same =
    rw (ended_none x (f x) same.0) (released_none f (earlier ++ f x ∷ []) xs rest same.1)

pub held_each : (f : Client → Client) (xs : List Client) (text : List ℕ) → Each (Same f) xs
    → is_held (map f xs) text ≡ is_held xs text
held_each f [] text same = refl
held_each f (x ∷ xs) text same =
    ap (λ held. stands held text || is_held (map f xs) text) same.0
    ∙ ap (λ b. holds text x || b) (held_each f xs text same.1)

-- ---- one of many

each_at : (P : Client → Type 0) (xs : List Client) (i : ℕ) → Each P xs → i < length xs → P (client_at xs i)
each_at P [] i all within = absurd (omega (arith, within))
each_at P (x ∷ xs) zero all within = all.0
each_at P (x ∷ xs) (suc i) all within = each_at P xs i all.1 (omega (arith, within))

pub differs_by : (id : List ℕ) (y x : Client) (b : Bool) → bytes_eq id y.id ≡ b → bytes_eq id x.id ≡ true
    → bytes_eq y.id x.id ≡ false → b ≡ false
differs_by id y x true is one away =
    absurd (let f : bytes_eq y.id x.id
    ≡ true = subst (λ c. bytes_eq c x.id ≡ true) (same_means id y.id is) one in cc)
differs_by id y x false is one away = refl

-- only the one with the id may change its filters
abbrev pub Others : List ℕ → (Client → Client) → Type 0
Others id f = (y : Client) → bytes_eq id y.id ≡ false → Same f y

pub away_same : (id : List ℕ) (f : Client → Client) (ys : List Client) → Others id f → Away id ys
    → Each (Same f) ys
away_same id f ys others away = each_map (λ y. bytes_eq id y.id ≡ false) (Same f) ys others away

behind : (id : List ℕ) (f : Client → Client) (y : Client) (ys : List Client) → Others id f
    → bytes_eq id y.id ≡ true → Away y.id ys → Each (Same f) ys
behind id f y ys others is away =
    away_same id f ys others (subst (λ c. Away c ys) (sym (same_means id y.id is)) away)

pub releases_same : (client : List ℕ) (o p : List ℕ → Bool) (texts : List (List ℕ))
    → ((text : List ℕ) → o text ≡ p text) → releases_of client o texts ≡ releases_of client p texts
releases_same client o p [] same = refl
releases_same client o p (t ∷ ts) same =
    ap (λ b. if b then releases_of client o ts
    else record { client = client; filter = t } ∷ releases_of client o ts) (same t)
    ∙ ap (λ rs. if p t then rs else record { client = client; filter = t } ∷ rs)
    (releases_same client o p ts same)

-- the filter stands for another than the one at this place
abbrev pub besides : (List ℕ → Bool) → List Client → ℕ → List ℕ → Bool
besides early ys i text = (early text || is_held (take i ys) text) || is_held (drop (suc i) ys) text

moved_in : (a b c d : Bool) → (((a || b) || c) || d) ≡ ((a || (b || c)) || d)
moved_in true b c d = refl
moved_in false b c d = refl

pub released_one : (id : List ℕ) (f : Client → Client) (earlier ys rest : List Client) (early : List ℕ → Bool)
    (i : ℕ) → Others id f → ((text : List ℕ) → is_held earlier text ≡ early text) → Distinct ys
    → i < length ys
    → bytes_eq id (client_at ys i).id ≡ true
    → released_from earlier ys (map f ys ++ rest)
    ≡ releases_of (client_at ys i).id (besides early ys i) (ended (client_at ys i) (f (client_at ys i)))
released_one id f earlier [] rest early i others same apart within is = absurd (omega (arith, within))
released_one id f earlier (y ∷ ys) rest early zero others same apart within is =
    let own = releases_of y.id (λ text. is_held earlier text || is_held ys text) (ended y (f y)) in
    ap (λ more. own ++ more) (released_none f (earlier ++ f y ∷ []) ys rest
    (behind id f y ys others is apart.0))
    ∙ (append-nil own
    ∙ releases_same y.id (λ text. is_held earlier text || is_held ys text) (besides early (y ∷ ys) zero)
    (ended y (f y))
    (λ text. ap (λ b. b || is_held ys text) (same text ∙ sym (or_no (early text)))))
released_one id f earlier (y ∷ ys) rest early (suc i) others same apart within is =
    let inside : i < length ys = omega (arith, within) in
    let x = client_at ys i in
    let off : bytes_eq id y.id ≡ false =
    differs_by id y x (bytes_eq id y.id) refl is
    (each_at (λ z. bytes_eq y.id z.id ≡ false) ys i apart.0 inside) in
    let now : List ℕ → Bool = λ text. early text || holds text y in
    let more : (text : List ℕ) → is_held (earlier ++ f y ∷ []) text ≡ now text =
    λ text. held_both earlier (f y ∷ []) text
    ∙ (ap (λ b. b || is_held (f y ∷ []) text) (same text)
    ∙ ap (λ b. early text || b) (or_no (holds text (f y))
    ∙ ap (λ held. stands held text) (others y off))) in
    rw (ended_none y (f y) (others y off))
    (released_one id f (earlier ++ f y ∷ []) ys rest now i others more apart.1 inside is
    ∙ releases_same x.id (besides now ys i) (besides early (y ∷ ys) (suc i)) (ended x (f x))
    (λ text. moved_in (early text) (holds text y) (is_held (take i ys) text)
    (is_held (drop (suc i) ys) text)))

-- ---- for whom the filter stands, by place

into : (a b c d : Bool) → (a || ((b || c) || d)) ≡ (((a || b) || c) || d)
into true b c d = refl
into false b c d = refl

pub held_one : (id : List ℕ) (f : Client → Client) (ys : List Client) (i : ℕ) (text : List ℕ) → Others id f
    → Distinct ys → i < length ys → bytes_eq id (client_at ys i).id ≡ true
    → is_held (map f ys) text ≡ ((is_held (take i ys) text || holds text (f (client_at ys i)))
    || is_held (drop (suc i) ys) text)
held_one id f [] i text others apart within is = absurd (omega (arith, within))
held_one id f (y ∷ ys) zero text others apart within is =
    ap (λ b. holds text (f y) || b) (held_each f ys text (behind id f y ys others is apart.0))
held_one id f (y ∷ ys) (suc i) text others apart within is =
    let inside : i < length ys = omega (arith, within) in
    let x = client_at ys i in
    let off : bytes_eq id y.id ≡ false =
    differs_by id y x (bytes_eq id y.id) refl is
    (each_at (λ z. bytes_eq y.id z.id ≡ false) ys i apart.0 inside) in
    ap (λ held. stands held text || is_held (map f ys) text) (others y off)
    ∙ (ap (λ b. holds text y || b) (held_one id f ys i text others apart.1 inside is)
    ∙ into (holds text y) (is_held (take i ys) text) (holds text (f x)) (is_held (drop (suc i) ys) text))

pub held_split : (ys : List Client) (i : ℕ) (text : List ℕ) → i < length ys
    → is_held ys text ≡ ((is_held (take i ys) text || holds text (client_at ys i))
    || is_held (drop (suc i) ys) text)
held_split [] i text within = absurd (omega (arith, within))
held_split (y ∷ ys) zero text within = refl
held_split (y ∷ ys) (suc i) text within =
    let inside : i < length ys = omega (arith, within) in
    ap (λ b. holds text y || b) (held_split ys i text inside)
    ∙ into (holds text y) (is_held (take i ys) text) (holds text (client_at ys i))
    (is_held (drop (suc i) ys) text)

-- ---- all filters of a client end

all_of : (held : List Held) → filter (λ h. true) held ≡ held
all_of [] = refl
all_of (h ∷ held) = ap (λ hs. h ∷ hs) (all_of held)

pub all_ended : (x y : Client) → y.filters ≡ [] → ended x y ≡ map (λ h. h.filter) x.filters
all_ended x y none =
    ap (λ held. map (λ h. h.filter) (filter (λ h. not (stands held h.filter)) x.filters)) none
    ∙ ap (map (λ h. h.filter)) (all_of x.filters)

abbrev pub texts_of : List Release → List (List ℕ)
texts_of releases = map (λ r. r.filter) releases

alone_step : (client : List ℕ) (others : List ℕ → Bool) (h : Held) (held : List Held) (b : Bool)
    → texts_of (releases_of client others (map (λ g. g.filter) held)) ≡ alone_in others held
    → texts_of (if b then releases_of client others (map (λ g. g.filter) held)
    else record { client = client; filter = h.filter }
    ∷ releases_of client others (map (λ g. g.filter) held))
    ≡ (if b then alone_in others held else h.filter ∷ alone_in others held)
alone_step client others h held true later = later
alone_step client others h held false later = ap (λ texts. h.filter ∷ texts) later

pub releases_alone : (client : List ℕ) (others : List ℕ → Bool) (held : List Held)
    → texts_of (releases_of client others (map (λ h. h.filter) held)) ≡ alone_in others held
releases_alone client others [] = refl
releases_alone client others (h ∷ held) =
    alone_step client others h held (others h.filter) (releases_alone client others held)

pub alone_same : (o p : List ℕ → Bool) (held : List Held) → ((text : List ℕ) → o text ≡ p text)
    → alone_in o held ≡ alone_in p held
alone_same o p [] same = refl
alone_same o p (h ∷ held) same =
    ap (λ b. if b then alone_in o held else h.filter ∷ alone_in o held) (same h.filter)
    ∙ ap (λ texts. if p h.filter then texts else h.filter ∷ texts) (alone_same o p held same)

-- one filter more
alone_last : (others : List ℕ → Bool) (h g : Held) (held : List Held) (b : Bool)
    → alone_in others (held ++ h ∷ []) ≡ alone_in others held ++ alone_in others (h ∷ [])
    → (if b then alone_in others (held ++ h ∷ []) else g.filter ∷ alone_in others (held ++ h ∷ []))
    ≡ (if b then alone_in others held else g.filter ∷ alone_in others held) ++ alone_in others (h ∷ [])
alone_last others h g held true later = later
alone_last others h g held false later = ap (λ texts. g.filter ∷ texts) later

pub alone_more : (others : List ℕ → Bool) (held : List Held) (h : Held)
    → alone_in others (held ++ h ∷ []) ≡ alone_in others held ++ alone_in others (h ∷ [])
alone_more others [] h = refl
alone_more others (g ∷ held) h = alone_last others h g held (others g.filter) (alone_more others held h)
