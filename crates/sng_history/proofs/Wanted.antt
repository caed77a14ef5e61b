-- After a step just the filters that stand for somebody are wanted, each once.
use Rattle.std.proofs.Common.{◌≡◌, ℕ, Bool, true, false, List, [], ◌∷◌, ◌++◌, refl, ap, sym, ◌∙◌}
use Rattle.std.specs.Prelude.{if◌then◌else◌, ◌&&◌, ◌||◌, filter, None}
use Rattle.std.specs.Str.{bytes_eq}
use Rattle.sng_outbox.specs.declared.item.Item.{Item}
use Rattle.sng_outbox.specs.declared.item.Item.TheVariants as item
use Rattle.sng_history.specs.Causes.{Cause}
use Rattle.sng_history.specs.Causes.{ByConnect, ByMessage, BySource, ByBroken, ByPacket, ByUp, ByDown, ByTake}
use Rattle.sng_history.specs.Causes.{ByReplace, ByTick}
use Rattle.sng_history.specs.Links.{Wanted, is_filter_of, wants}
use Rattle.sng_history.specs.Packets.{answer_of, answered}
use Rattle.sng_history.specs.Standing.{is_held, still_wanted}
use Rattle.sng_history.specs.State.{State, link_moved, with_wanted, joined}
use Rattle.sng_history.specs.Lawful.{exits_for}
use Rattle.sng_history.specs.Steps.{clients_next, asked_for, next_by}
use Rattle.sng_history.specs.Good.{WantedOnce, Good}
use Rattle.sng_history.proofs.Own.{same_means, flip}
use Rattle.sng_history.proofs.WantedKept.{or_no, or_back, wants_kept, once_texts, moved_wanted}

-- a SUBSCRIBE of the filter is among the items
abbrev pub subscribes : List Item → List ℕ → Bool
subscribes [] text = false
subscribes (item.Subscribe filter ∷ items) text = bytes_eq text filter || subscribes items text
subscribes (item.Publish p ∷ items) text = subscribes items text
subscribes (item.Unsubscribe filter ∷ items) text = subscribes items text
subscribes (item.Acknowledge packet_id ∷ items) text = subscribes items text
subscribes (item.Ping ∷ items) text = subscribes items text

pub subscribes_both : (xs ys : List Item) (text : List ℕ)
    → subscribes (xs ++ ys) text ≡ (subscribes xs text || subscribes ys text)
subscribes_both [] ys text = refl
subscribes_both (item.Subscribe filter ∷ xs) ys text =
    ap (λ b. bytes_eq text filter || b) (subscribes_both xs ys text)
    ∙ or_back (bytes_eq text filter) (subscribes xs text) (subscribes ys text)
subscribes_both (item.Publish p ∷ xs) ys text = subscribes_both xs ys text
subscribes_both (item.Unsubscribe filter ∷ xs) ys text = subscribes_both xs ys text
subscribes_both (item.Acknowledge packet_id ∷ xs) ys text = subscribes_both xs ys text
subscribes_both (item.Ping ∷ xs) ys text = subscribes_both xs ys text

wants_push : (wanted : List Wanted) (w : Wanted) (text : List ℕ)
    → wants (wanted ++ w ∷ []) text ≡ (wants wanted text || is_filter_of text w)
wants_push [] w text = or_no (is_filter_of text w)
wants_push (v ∷ wanted) w text =
    ap (λ b. is_filter_of text v || b) (wants_push wanted w text)
    ∙ or_back (is_filter_of text v) (wants wanted text) (is_filter_of text w)

among_by : (wanted : List Wanted) (filter text : List ℕ) (same : Bool) → bytes_eq text filter ≡ same
    → wants wanted filter ≡ true → wants wanted text ≡ (wants wanted text || same)
among_by wanted filter text true is there =
    let yes : wants wanted text ≡ true = ap (wants wanted) (same_means text filter is) ∙ there in
    yes ∙ sym (ap (λ b. b || true) yes)
among_by wanted filter text false is there = sym (or_no (wants wanted text))

with_by : (wanted : List Wanted) (filter text : List ℕ) (there : Bool) → wants wanted filter ≡ there
    → wants (if there then wanted else wanted ++ record { filter = filter; open_id = None; owed = false } ∷ []) text
    ≡ (wants wanted text || bytes_eq text filter)
with_by wanted filter text true is = among_by wanted filter text (bytes_eq text filter) refl is
with_by wanted filter text false is = wants_push wanted (record { filter = filter; open_id = None; owed = false }) text

with_wants : (wanted : List Wanted) (filter text : List ℕ)
    → wants (with_wanted wanted filter) text ≡ (wants wanted text || bytes_eq text filter)
with_wants wanted filter text = with_by wanted filter text (wants wanted filter) refl

pub joined_wants : (wanted : List Wanted) (items : List Item) (text : List ℕ)
    → wants (joined wanted items) text ≡ (wants wanted text || subscribes items text)
joined_wants wanted [] text = sym (or_no (wants wanted text))
joined_wants wanted (item.Subscribe filter ∷ items) text =
    joined_wants (with_wanted wanted filter) items text
    ∙ (ap (λ b. b || subscribes items text) (with_wants wanted filter text)
    ∙ sym (or_back (wants wanted text) (bytes_eq text filter) (subscribes items text)))
joined_wants wanted (item.Publish p ∷ items) text = joined_wants wanted items text
joined_wants wanted (item.Unsubscribe filter ∷ items) text = joined_wants wanted items text
joined_wants wanted (item.Acknowledge packet_id ∷ items) text = joined_wants wanted items text
joined_wants wanted (item.Ping ∷ items) text = joined_wants wanted items text

once_push : (wanted : List Wanted) (filter : List ℕ) → wants wanted filter ≡ false → WantedOnce wanted
    → WantedOnce (wanted ++ record { filter = filter; open_id = None; owed = false } ∷ [])
once_push [] filter none once = (refl, tt)
once_push (w ∷ wanted) filter none once =
    let both = neither (bytes_eq filter w.filter) (wants wanted filter) none in (
      wants_push wanted (record { filter = filter; open_id = None; owed = false }) w.filter
          ∙ rw (once.0) (flip w.filter filter both.0),
      once_push wanted filter both.1 once.1,
    )
  where
    neither : (a b : Bool) → (a || b) ≡ false → (a ≡ false) × (b ≡ false)
    neither true b is = absurd cc
    neither false b is = (refl, is)

once_with_by : (wanted : List Wanted) (filter : List ℕ) (there : Bool) → wants wanted filter ≡ there
    → WantedOnce wanted
    → WantedOnce (if there then wanted else wanted ++ record { filter = filter; open_id = None; owed = false } ∷ [])
once_with_by wanted filter true is once = once
once_with_by wanted filter false is once = once_push wanted filter is once

joined_once : (wanted : List Wanted) (items : List Item) → WantedOnce wanted
    → WantedOnce (joined wanted items)
joined_once wanted [] once = once
joined_once wanted (item.Subscribe filter ∷ items) once =
    joined_once (with_wanted wanted filter) items (once_with_by wanted filter (wants wanted filter) refl once)
joined_once wanted (item.Publish p ∷ items) once = joined_once wanted items once
joined_once wanted (item.Unsubscribe filter ∷ items) once = joined_once wanted items once
joined_once wanted (item.Acknowledge packet_id ∷ items) once = joined_once wanted items once
joined_once wanted (item.Ping ∷ items) once = joined_once wanted items once

still_once_by : (keep : List ℕ → Bool) (w : Wanted) (wanted : List Wanted) (b : Bool)
    → wants wanted w.filter ≡ false → WantedOnce (filter (λ v. keep v.filter) wanted)
    → WantedOnce (if b then w ∷ filter (λ v. keep v.filter) wanted else filter (λ v. keep v.filter) wanted)
still_once_by keep w wanted true none once =
    (wants_kept keep wanted w.filter ∙ ap (λ b. b && keep w.filter) none, once)
still_once_by keep w wanted false none once = once

still_once : (keep : List ℕ → Bool) (wanted : List Wanted) → WantedOnce wanted
    → WantedOnce (filter (λ w. keep w.filter) wanted)
still_once keep [] once = tt
still_once keep (w ∷ wanted) once =
    still_once_by keep w wanted (keep w.filter) once.0 (still_once keep wanted once.1)

pub wanted_once_next : (s : State) (c : Cause) → Good s → WantedOnce (next_by s c).link.wanted
wanted_once_next s c good =
    by_cause s c (once_texts (link_moved s c (exits_for s c)).wanted s.link.wanted
    (moved_wanted s c) good.wanted_once)
  where
    by_cause : (s : State) (c : Cause) → WantedOnce (link_moved s c (exits_for s c)).wanted
        → WantedOnce (next_by s c).link.wanted
    by_cause s (ByMessage from request) once =
        let c = ByMessage from request in
        joined_once (still_wanted (clients_next s c) s.link.wanted) (asked_for s c)
        (still_once (is_held (clients_next s c)) s.link.wanted once)
    by_cause s (ByConnect from connect) once =
        still_once (is_held (clients_next s (ByConnect from connect))) s.link.wanted once
    by_cause s (ByReplace policy) once =
        still_once (is_held (clients_next s (ByReplace policy))) s.link.wanted once
    by_cause s (ByPacket p) once =
        still_once (is_held (clients_next s (ByPacket p))) (answered s.link (answer_of p)).wanted once
    by_cause s (BySource from p) once = once
    by_cause s (ByBroken from rule) once = once
    by_cause s ByUp once = once
    by_cause s ByDown once = once
    by_cause s ByTake once = once
    by_cause s (ByTick clock) once = once
