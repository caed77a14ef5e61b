-- What is sent to another place than this, or is not sent at all.
use Rattle.std.proofs.Common.{◌≡◌, ℕ, Bool, true, false, List, [], ◌∷◌, ◌++◌, refl, ap, sym, ◌∙◌, subst}
use Rattle.std.proofs.Common.{if◌then◌else◌}
use Rattle.std.specs.List.{flat_map}
use Rattle.sng_book.specs.declared.address.Address.{Address}
use Rattle.sng_book.specs.declared.out.Out.{Out}
use Rattle.sng_book.specs.declared.out.Out.TheVariants.{Send, Wire, Note}
use Rattle.sng_history.specs.Clients.{Client, same_address}
use Rattle.sng_history.specs.Good.{Each}
use Rattle.sng_laws.specs.ViewsLink.{sends_in}
use Rattle.sng_laws.specs.LawsSleep.{sent_to}
use Rattle.sng_history.proofs.Places.{address_means}
use Rattle.sng_history.proofs.SentTo.{AllTo}
use Rattle.sng_promise.proofs.Sleepers.QuietNotes.{NoneSent}

pub away_both : (place : Address) (xs ys : List Out) → sent_to place xs ≡ [] → sent_to place ys ≡ []
    → sent_to place (xs ++ ys) ≡ []
away_both place [] ys one two = two
away_both place (Send to datagram ∷ xs) ys one two =
    by_place (same_address place to) (sent_to place xs) one (away_both place xs ys)
  where
    by_place : (b : Bool) (rest : List (List ℕ)) → (if b then datagram ∷ [] else []) ++ rest ≡ []
        → (rest ≡ [] → sent_to place ys ≡ [] → sent_to place (xs ++ ys) ≡ [])
        → (if b then datagram ∷ [] else []) ++ sent_to place (xs ++ ys) ≡ []
    by_place true rest none more = absurd cc
    by_place false rest none more = more none two
away_both place (Note said ∷ xs) ys one two = away_both place xs ys one two
away_both place (Wire packet ∷ xs) ys one two = away_both place xs ys one two

pub away_flat : (place : Address) (f : Client → List Out) (xs : List Client)
    → Each (λ x. sent_to place (f x) ≡ []) xs
    → sent_to place (flat_map f xs) ≡ []
away_flat place f [] each = refl
away_flat place f (x ∷ xs) each = away_both place (f x) (flat_map f xs) each.0 (away_flat place f xs each.1)

pub away_either : (place : Address) (b : Bool) (xs ys : List Out) → sent_to place xs ≡ []
    → sent_to place ys ≡ []
    → sent_to place (if b then xs else ys) ≡ []
away_either place true xs ys one two = one
away_either place false xs ys one two = two

pub none_away : (place : Address) (outs : List Out) → NoneSent outs → sent_to place outs ≡ []
none_away place [] none = refl
none_away place (Send to datagram ∷ outs) none = absurd none
none_away place (Note said ∷ outs) none = none_away place outs none
none_away place (Wire packet ∷ outs) none = none_away place outs none

pub unsent_away : (place : Address) (outs : List Out) → sends_in outs ≡ [] → sent_to place outs ≡ []
unsent_away place [] none = refl
unsent_away place (Send to datagram ∷ outs) none = absurd cc
unsent_away place (Note said ∷ outs) none = unsent_away place outs none
unsent_away place (Wire packet ∷ outs) none = unsent_away place outs none

pub to_away : (place to : Address) (outs : List Out) → same_address place to ≡ false → AllTo to outs
    → sent_to place outs ≡ []
to_away place to [] off all = refl
to_away place to (Send other datagram ∷ outs) off all =
    ap (λ b. (if b then datagram ∷ [] else []) ++ sent_to place outs) (ap (same_address place) all.0 ∙ off)
    ∙ to_away place to outs off all.1
to_away place to (Note said ∷ outs) off all = to_away place to outs off all
to_away place to (Wire packet ∷ outs) off all = to_away place to outs off all

-- two addresses are one, or not, whichever is asked first
flip_by : (a b : Address) (t : Bool) → same_address b a ≡ t → same_address a b ≡ false → t ≡ false
flip_by a b true is off =
    let same : b ≡ a = address_means b a is in
    let self : same_address a a ≡ true = subst (λ z. same_address z a ≡ true) same is in
    let there : same_address a b ≡ true = subst (λ z. same_address a z ≡ true) (sym same) self in
    absurd (let e = sym off ∙ there in cc)
flip_by a b false is off = refl

pub flip_address : (a b : Address) → same_address a b ≡ false → same_address b a ≡ false
flip_address a b off = flip_by a b (same_address b a) refl off
