-- What a datagram lets out that comes from where the client is not, and is no CONNECT.
use Rattle.std.proofs.Common.{◌≡◌, ℕ, Bool, true, false, List, [], ◌∷◌, refl, sym, subst}
use Rattle.std.specs.List.{flat_map}
use Rattle.std.specs.Str.{bytes_eq}
use Rattle.sng_frames.specs.declared.messages.publish.Publish.{Publish}
use Rattle.sng_book.specs.declared.address.Address.{Address}
use Rattle.sng_book.specs.declared.decision.Decision.TheVariants as note
use Rattle.sng_book.specs.declared.decision.Who.TheVariants as who
use Rattle.sng_book.specs.declared.outcome.Denial.{Denial}
use Rattle.sng_book.specs.declared.outcome.Outcome.TheVariants.{Denied}
use Rattle.sng_book.specs.declared.out.Out.TheVariants.{Note}
use Rattle.sng_book.specs.Traces.{is_own}
use Rattle.sng_history.specs.Causes.{Request}
use Rattle.sng_history.specs.Causes.{Cause}
use Rattle.sng_history.specs.Causes.{ByMessage, BySource, ByBroken}
use Rattle.sng_history.specs.Clients.{Client, is_here}
use Rattle.sng_history.specs.State.{State, around}
use Rattle.sng_history.specs.Standing.{Release}
use Rattle.sng_history.specs.Verdicts.{source_ask}
use Rattle.sng_history.specs.Whole.{part, any_from, stranger_to, drops}
use Rattle.sng_history.specs.Lawful.{fixed_for}
use Rattle.sng_history.specs.Steps.{notes_for, outs_by}
use Rattle.sng_history.specs.Good.{Each, AtRest}
use Rattle.sng_history.proofs.Own.{each_with}
use Rattle.sng_history.proofs.Places.{here_is}
use Rattle.sng_history.proofs.Spelled.{part_other, part_exits}
use Rattle.sng_history.proofs.Told.{tells}
use Rattle.sng_history.proofs.Says.{mute_stranger}
use Rattle.sng_history.proofs.SaysUpstream.{foreign_source}
use Rattle.sng_history.proofs.SentTo.{part_to, stranger_goes}
use Rattle.sng_history.proofs.Stayed.{enters_by, fixed_put}
use Rattle.sng_isolation.proofs.Silent.{Silent, silent_flat, silent_either, silent_by}
use Rattle.sng_isolation.proofs.Still.{Unconcerned, part_none, message_unconcerned, broken_unconcerned}

-- whoever is where the datagram came from, it is not this client
abbrev pub Elsewhere : List ℕ → Address → Client → Type 0
Elsewhere id from x = is_here x from ≡ true → bytes_eq id x.id ≡ false

-- what is let out for another client goes to where that is
pub other_silent : (id : List ℕ) (own : List Address) (s : State) (c : Cause) (dropped : List Release)
    (x : Client)
    → enters_by c x ≡ false → bytes_eq id x.id ≡ false → is_own own x.address ≡ false
    → Silent id own (part (around s c) dropped (fixed_for s c x) x)
other_silent id own s c dropped x other away off =
    let a = around s c in
    let notes = fixed_for s c x in
    silent_by id own x.address (part a dropped notes x) off (part_to a dropped notes x (fixed_put s c x other))
    (part_other a dropped notes x id away (tells s c x)) (part_exits a dropped notes x (tells s c x))

-- what is let out for whoever is where the datagram came from, and nobody else has any part
pub part_silent : (id : List ℕ) (own : List Address) (s : State) (from : Address) (c : Cause)
    (dropped : List Release) (x : Client) → is_own own from ≡ false → enters_by c x ≡ false
    → (is_here x from ≡ false → Unconcerned s c x) → AtRest x → Elsewhere id from x
    → Silent id own (part (around s c) dropped (fixed_for s c x) x)
part_silent id own s from c dropped x off other still rest elsewhere = by_here (is_here x from) refl
  where
    by_here : (here : Bool) → is_here x from ≡ here
        → Silent id own (part (around s c) dropped (fixed_for s c x) x)
    by_here true is =
        other_silent id own s c dropped x other (elsewhere is)
        (subst (λ a. is_own own a ≡ false) (sym (here_is x from is)) off)
    by_here false is = rw (part_none s c dropped x rest.busy (still is)) refl

pub rows_silent : (id : List ℕ) (own : List Address) (s : State) (from : Address) (c : Cause)
    (dropped : List Release) → is_own own from ≡ false → ((x : Client) → enters_by c x ≡ false)
    → ((x : Client) → is_here x from ≡ false → Unconcerned s c x)
    → Each AtRest s.clients → Each (Elsewhere id from) s.clients
    → Silent id own (flat_map (λ x. part (around s c) dropped (fixed_for s c x) x) s.clients)
rows_silent id own s from c dropped off other still rest elsewhere =
    silent_flat id own (λ x. part (around s c) dropped (fixed_for s c x) x) s.clients
    (each_with AtRest (Elsewhere id from) (λ x. Silent id own (part (around s c) dropped (fixed_for s c x) x))
    s.clients
    (λ x at away. part_silent id own s from c dropped x off (other x) (still x) at away) rest elsewhere)

pub message_silent : (id : List ℕ) (own : List Address) (s : State) (from : Address) (request : Request)
    → is_own own from ≡ false → Each AtRest s.clients → Each (Elsewhere id from) s.clients
    → Silent id own (outs_by s (ByMessage from request))
message_silent id own s from request off rest elsewhere =
    let c = ByMessage from request in
    let dropped = drops s c (notes_for s c) in
    let stranger = stranger_to from request in
    silent_either id own (any_from c s.clients)
    (flat_map (λ x. part (around s c) dropped (fixed_for s c x) x) s.clients) stranger
    (rows_silent id own s from c dropped off (λ x. refl) (message_unconcerned s from request) rest elsewhere)
    (silent_by id own from stranger off (stranger_goes from request) ((mute_stranger from request).notes id)
    (mute_stranger from request).exits)

pub broken_silent : (id : List ℕ) (own : List Address) (s : State) (from : Address) (rule : Denial)
    → is_own own from ≡ false → Each AtRest s.clients → Each (Elsewhere id from) s.clients
    → Silent id own (outs_by s (ByBroken from rule))
broken_silent id own s from rule off rest elsewhere =
    let c = ByBroken from rule in
    let dropped = drops s c (notes_for s c) in
    silent_either id own (any_from c s.clients)
    (flat_map (λ x. part (around s c) dropped (fixed_for s c x) x) s.clients)
    (Note (note.Frame (who.Address from) (Denied rule)) ∷ [])
    (rows_silent id own s from c dropped off (λ x. refl) (broken_unconcerned s from rule) rest elsewhere)
    refl

pub source_silent : (id : List ℕ) (own : List Address) (s : State) (from : Address) (p : Publish)
    → is_own own from ≡ false
    → Silent id own (outs_by s (BySource from p))
source_silent id own s from p off =
    let says = foreign_source s from.ip p in
    silent_by id own from (Note (source_ask s from.ip p) ∷ []) off tt (says.notes id) says.exits
