-- Which filters stand for a client at which QoS: a list, in order of first standing.
use Rattle.std.specs.Prelude.{ℕ, ◌≤◌, Bool, ◌&&◌, not, nat_le, List, [], ◌∷◌, length, filter, count_by}
use Rattle.std.specs.Prelude.{if◌then◌else◌}
use Rattle.std.specs.List.{list_any}
use Rattle.std.specs.Str.{bytes_eq}
use Rattle.sng_text.specs.declared.qos.Qos.{Qos}
use Rattle.sng_fan.specs.declared.held.Held.{Held}
use Rattle.sng_fan.specs.declared.limits.TheConstants.{MAX_SUBSCRIPTIONS}

-- it is this filter
abbrev pub has_text : List ℕ → Held → Bool
has_text text h = bytes_eq h.filter text

-- the filter is one of these
abbrev pub stands : List Held → List ℕ → Bool
stands held text = list_any (has_text text) held

-- as many filters stand as may, and this one does not
abbrev pub is_full : List Held → List ℕ → Bool
is_full held text = not (stands held text) && nat_le MAX_SUBSCRIPTIONS (length held)

-- the filter stands at this QoS: in its place where it stood, else behind all others
abbrev pub with_filter : List Held → List ℕ → Qos → List Held
with_filter [] text qos = record { filter = text; qos = qos } ∷ []
with_filter (h ∷ held) text qos =
    if has_text text h then record h { qos = qos } ∷ held else h ∷ with_filter held text qos

-- the filter stands no more
abbrev pub without_filter : List Held → List ℕ → List Held
without_filter held text = filter (λ h. not (has_text text h)) held

-- each filter stands once, and no more than may
abbrev pub IsOneClients : List Held → Type 0
IsOneClients held = ((text : List ℕ) → count_by (has_text text) held ≤ 1) × (length held ≤ MAX_SUBSCRIPTIONS)
