-- Figures, as they are read off the lines of a page.
use Rattle.std.specs.Prelude.{ℕ, ◌+◌, ◌^◌, ◌==◌, List, [], ◌∷◌, length, map, take, drop, if◌then◌else◌, nat_lt}
use Rattle.std.specs.Prelude.{Option, Some, None, option_and_then, Result, Ok, Err}
use Rattle.std.specs.Borrow.{Bor}
use Rattle.std.specs.List.{after_first, before_first}
use Rattle.std.specs.Str.{bytes_eq}
use Rattle.sng_metrics.specs.Metrics.{name_of}
use Rattle.sng_metrics.specs.Numbers.{number_of}
use Rattle.sng_metrics.specs.declared.metric.Metric.{Metric}
use Rattle.sng_metrics.specs.declared.reading.Sum.{Sum}
use Rattle.sng_metrics.specs.declared.reading.Sum.TheVariants as sum
use Rattle.sng_metrics.specs.declared.summary.SummaryFault.{SummaryFault}
use Rattle.sng_metrics.specs.declared.summary.SummaryFault.TheVariants.{Missing, Unreadable}

-- the octets of each line
abbrev pub texts : List (Bor (List ℕ)) → List (List ℕ)
texts lines = map (λ line. line.now) lines

-- what stands behind the front, where the text begins with it
abbrev pub past : (text front : List ℕ) → Option (List ℕ)
past text front =
    if bytes_eq (take (length front) text) front then Some (drop (length front) text) else None

-- the same behind a name and what follows it
abbrev pub past_front : (line name labels : List ℕ) → Option (List ℕ)
past_front line name labels = option_and_then (λ rest. past rest labels) (past line name)

-- the value of a sample stands behind the first space of its line
abbrev pub value_part : List ℕ → List ℕ
value_part line = after_first (λ b. b == 32) line

-- a sum with one sample more
abbrev pub plus : Sum → Option ℕ → Sum
plus sum.Nothing (Some number) = sum.Number number
plus (sum.Number so_far) (Some number) =
    if nat_lt (so_far + number) (2 ^ 64) then sum.Number (so_far + number) else sum.Unreadable
plus sum.Unreadable (Some number) = sum.Unreadable
plus so_far None = sum.Unreadable

abbrev pub summed_at : Sum → List ℕ → Option (List ℕ) → Sum
summed_at so_far line None = so_far
summed_at so_far line (Some rest) = plus so_far (number_of (value_part line))

-- a sum with one line more, which counts where it begins with the name and the labels
abbrev pub summed : Sum → (line name labels : List ℕ) → Sum
summed so_far line name labels = summed_at so_far line (past_front line name labels)

abbrev pub sum_onto : Sum → (name labels : List ℕ) → List (List ℕ) → Sum
sum_onto so_far name labels [] = so_far
sum_onto so_far name labels (line ∷ lines) = sum_onto (summed so_far line name labels) name labels lines

-- a figure that is there and can be read
abbrev pub figure_of : Metric → Sum → Result ℕ SummaryFault
figure_of metric sum.Nothing = Err (Missing metric)
figure_of metric (sum.Number number) = Ok number
figure_of metric sum.Unreadable = Err (Unreadable metric)

-- the sum of the samples in the lines that begin with the family's name and these labels
abbrev pub figure_in : List (List ℕ) → Metric → List ℕ → Result ℕ SummaryFault
figure_in lines metric labels = figure_of metric (sum_onto sum.Nothing (name_of metric) labels lines)

abbrev pub label_or : Option (List ℕ) → Option (List ℕ) → Option (List ℕ)
label_or None next = next
label_or (Some rest) next = Some (before_first (λ b. b == 34) rest)

-- what stands up to the next quote, octet 34, in the first line that begins so
abbrev pub label_in : List (List ℕ) → (name labels : List ℕ) → Option (List ℕ)
label_in [] name labels = None
label_in (line ∷ lines) name labels =
    label_or (past_front line name labels) (label_in lines name labels)
