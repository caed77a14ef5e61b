-- Of which wanted filters a SUBSCRIBE stays owed in a row that sends none.
use Rattle.std.proofs.Common.{◌≡◌, ℕ, Bool, true, false, List, [], ◌∷◌, ◌++◌, refl, ap, sym, ◌∙◌}
use Rattle.std.proofs.Common.{if◌then◌else◌}
use Rattle.std.specs.Prelude.{◌&&◌, ◌||◌, filter, None}
use Rattle.std.specs.Str.{bytes_eq}
use Rattle.sng_outbox.specs.declared.item.Item.{Item}
use Rattle.sng_outbox.specs.declared.item.Item.TheVariants as item
use Rattle.sng_history.specs.Causes.{Cause}
use Rattle.sng_history.specs.Causes.{ByConnect, ByMessage, BySource, ByBroken, ByPacket, ByUp, ByDown, ByTake}
use Rattle.sng_history.specs.Causes.{ByReplace, ByTick}
use Rattle.sng_history.specs.Good.{Good}
use Rattle.sng_history.specs.Lawful.{exits_for}
use Rattle.sng_history.specs.Links.{Link, Wanted, is_filter_of, wants, is_open, closed}
use Rattle.sng_history.specs.Packets.{Answer, Delivers, Acknowledges, Grants, Refuses, Confirms, Strange}
use Rattle.sng_history.specs.Packets.{answered}
use Rattle.sng_history.specs.Standing.{is_held, still_wanted}
use Rattle.sng_history.specs.State.{State, joined, link_moved, with_wanted}
use Rattle.sng_history.specs.Steps.{clients_next, next_by}
use Rattle.sng_history.specs.Steps.{asked_for}
use Rattle.sng_history.proofs.Holding.{wanted_held_next}
use Rattle.sng_history.proofs.Own.{same_means}
use Rattle.sng_promise.proofs.WantedFilters.UpstreamSpeaks.{none_owes, owes}
use Rattle.sng_promise.proofs.WantedFilters.UpstreamSettled.{Owes, settled_less}

-- ---- entries that are kept by their filter alone

both_no : (a b : Bool) → (a && false) ≡ (b && false)
both_no true true = refl
both_no true false = refl
both_no false true = refl
both_no false false = refl

both_yes : (a b : Bool) → (a || (b && true)) ≡ ((a || b) && true)
both_yes true b = refl
both_yes false b = refl

owes_by : (keep : List ℕ → Bool) (w : Wanted) (wanted : List Wanted) (text : List ℕ) (same kept : Bool)
    → is_filter_of text w ≡ same → keep w.filter ≡ kept
    → owes (filter (λ v. keep v.filter) wanted) text ≡ (owes wanted text && keep text)
    → owes (if kept then w ∷ filter (λ v. keep v.filter) wanted else filter (λ v. keep v.filter) wanted) text
    ≡ (((same && w.owed) || owes wanted text) && keep text)
owes_by keep w wanted text true true is may later =
    let yes : keep text ≡ true = ap keep (same_means text w.filter is) ∙ may in
    rw is (ap (λ b. w.owed || b) later ∙ rw yes (both_yes w.owed (owes wanted text)))
owes_by keep w wanted text true false is may later =
    let no : keep text ≡ false = ap keep (same_means text w.filter is) ∙ may in
    later ∙ rw no (both_no (owes wanted text) (w.owed || owes wanted text))
owes_by keep w wanted text false true is may later = rw is later
owes_by keep w wanted text false false is may later = later

owes_kept : (keep : List ℕ → Bool) (wanted : List Wanted) (text : List ℕ)
    → owes (filter (λ w. keep w.filter) wanted) text ≡ (owes wanted text && keep text)
owes_kept keep [] text = refl
owes_kept keep (w ∷ wanted) text =
    owes_by keep w wanted text (is_filter_of text w) (keep w.filter) refl refl (owes_kept keep wanted text)

-- what joins owes nothing
owes_push : (wanted : List Wanted) (one text : List ℕ)
    → owes (wanted ++ record { filter = one; open_id = None; owed = false } ∷ []) text ≡ owes wanted text
owes_push [] one text = none (bytes_eq text one)
  where
    none : (b : Bool) → ((b && false) || false) ≡ false
    none true = refl
    none false = refl
owes_push (w ∷ wanted) one text = ap (λ b. (is_filter_of text w && w.owed) || b) (owes_push wanted one text)

owes_with : (wanted : List Wanted) (one text : List ℕ) (there : Bool)
    → owes (if there then wanted else wanted ++ record { filter = one; open_id = None; owed = false } ∷ []) text
    ≡ owes wanted text
owes_with wanted one text true = refl
owes_with wanted one text false = owes_push wanted one text

owes_joined : (wanted : List Wanted) (items : List Item) (text : List ℕ)
    → owes (joined wanted items) text ≡ owes wanted text
owes_joined wanted [] text = refl
owes_joined wanted (item.Subscribe one ∷ items) text =
    owes_joined (with_wanted wanted one) items text ∙ owes_with wanted one text (wants wanted one)
owes_joined wanted (item.Publish p ∷ items) text = owes_joined wanted items text
owes_joined wanted (item.Unsubscribe one ∷ items) text = owes_joined wanted items text
owes_joined wanted (item.Acknowledge packet_id ∷ items) text = owes_joined wanted items text
owes_joined wanted (item.Ping ∷ items) text = owes_joined wanted items text

-- an answer leaves what is owed
closed_entry : (w : Wanted) (text : List ℕ) (b : Bool)
    → (let v : Wanted = if b then record w { open_id = None } else w in is_filter_of text v && v.owed)
    ≡ (is_filter_of text w && w.owed)
closed_entry w text true = refl
closed_entry w text false = refl

closed_owes : (wanted : List Wanted) (packet_id : ℕ) (text : List ℕ)
    → owes (closed wanted packet_id) text ≡ owes wanted text
closed_owes [] packet_id text = refl
closed_owes (w ∷ wanted) packet_id text =
    ap (λ b. b || owes (closed wanted packet_id) text) (closed_entry w text (is_open packet_id w))
    ∙ ap (λ b. (is_filter_of text w && w.owed) || b) (closed_owes wanted packet_id text)

pub answered_owes : (link : Link) (a : Answer) (text : List ℕ)
    → owes (answered link a).wanted text ≡ owes link.wanted text
answered_owes link (Delivers p) text = refl
answered_owes link (Acknowledges packet_id) text = refl
answered_owes link (Grants packet_id) text = closed_owes link.wanted packet_id text
answered_owes link (Refuses packet_id) text = closed_owes link.wanted packet_id text
answered_owes link Confirms text = refl
answered_owes link Strange text = refl

-- ---- a row

still_owes : (s : State) (c : Cause) (wanted : List Wanted) (text : List ℕ) → Good s
    → wants (next_by s c).link.wanted text ≡ true
    → owes (still_wanted (clients_next s c) wanted) text ≡ owes wanted text
still_owes s c wanted text good is =
    owes_kept (is_held (clients_next s c)) wanted text
    ∙ (ap (λ b. owes wanted text && b) (sym (wanted_held_next s c good text) ∙ is) ∙ whole (owes wanted text))
  where
    whole : (b : Bool) → (b && true) ≡ b
    whole true = refl
    whole false = refl

-- of a filter that is wanted then as much is owed as once the link moved
pub owes_next : (s : State) (c : Cause) (text : List ℕ) → Good s
    → wants (next_by s c).link.wanted text ≡ true
    → owes (next_by s c).link.wanted text ≡ owes (link_moved s c (exits_for s c)).wanted text
owes_next s (ByConnect from connect) text good is =
    let c = ByConnect from connect in still_owes s c (link_moved s c (exits_for s c)).wanted text good is
owes_next s (ByMessage from request) text good is =
    let c = ByMessage from request in
    let wanted = (link_moved s c (exits_for s c)).wanted in
    owes_joined (still_wanted (clients_next s c) wanted) (asked_for s c) text
    ∙ still_owes s c wanted text good is
owes_next s (BySource from p) text good is = refl
owes_next s (ByBroken from rule) text good is = refl
owes_next s (ByPacket p) text good is =
    let c = ByPacket p in still_owes s c (link_moved s c (exits_for s c)).wanted text good is
owes_next s ByUp text good is = refl
owes_next s ByDown text good is = refl
owes_next s ByTake text good is = refl
owes_next s (ByReplace policy) text good is =
    let c = ByReplace policy in still_owes s c (link_moved s c (exits_for s c)).wanted text good is
owes_next s (ByTick clock) text good is = refl

some_left : (a b : Bool) → (a || false) ≡ true → (a || b) ≡ true
some_left true b is = refl
some_left false b is = absurd cc

-- what is as good as kept stays so in a row that sends no SUBSCRIBE
pub marks_carry : (s : State) (c : Cause) (text : List ℕ) (u : Bool) → Good s
    → owes (link_moved s c (exits_for s c)).wanted text ≡ owes s.link.wanted text
    → Owes (next_by s c) text (u || owes s.link.wanted text)
    → Owes (next_by s c) text (u || owes (next_by s c).link.wanted text)
marks_carry s c text u good same was =
    let next = (next_by s c).link in
    settled_less (wants next.wanted text) next.waiting text (u || owes s.link.wanted text)
    (u || owes next.wanted text) was
    (λ is. ap (λ b. u || b) (owes_next s c text good is ∙ same))
    (λ is_not some. some_left u (owes s.link.wanted text)
    (ap (λ b. u || b) (sym (none_owes next.wanted text is_not)) ∙ some))
