-- The text format of Prometheus, 0.0.4: a page is families, each with its help text, its type and its samples,
-- in lines.
use Rattle.std.specs.Prelude.{ℕ, ◌+◌, ◌/◌, ◌%◌, ◌==◌, List, [], ◌∷◌, ◌++◌, codes, if◌then◌else◌}
use Rattle.std.specs.Fmt.{decimal}
use Rattle.sng_metrics.specs.Metrics.{help_of, kind_of, kind_word, name_of}
use Rattle.sng_metrics.specs.declared.metric.Metric.{Metric}
use Rattle.sng_metrics.specs.declared.sample.Label.{Label}
use Rattle.sng_metrics.specs.declared.sample.Value.{Value}
use Rattle.sng_metrics.specs.declared.sample.Value.TheVariants.{Whole, Millis}

-- ---- a value

abbrev pub digit : ℕ → List ℕ
digit n = (48 + n) ∷ []

-- three digits
abbrev pub thousandths : ℕ → List ℕ
thousandths n = digit (n / 100 % 10) ++ (digit (n / 10 % 10) ++ digit (n % 10))

-- a whole number, or one of thousandths
abbrev pub value_text : Value → List ℕ
value_text (Whole n) = decimal n
value_text (Millis n) = decimal (n / 1000) ++ (codes "." ++ thousandths n)

-- ---- labels

-- in the value of a label a backslash, 92, a quote, 34, and a line feed, 10, are escaped
abbrev pub escaped_byte : ℕ → List ℕ
escaped_byte b =
    if b == 92
    then codes "\\\\"
    else (if b == 34 then codes "\\\"" else (if b == 10 then codes "\\n" else b ∷ []))

abbrev pub escaped : List ℕ → List ℕ
escaped [] = []
escaped (b ∷ text) = escaped_byte b ++ escaped text

-- a name and a value
abbrev pub Pair : Type 0
Pair = List ℕ × List ℕ

abbrev pub label_text : Pair → List ℕ
label_text label = label.0 ++ (codes "=\"" ++ (escaped label.1 ++ codes "\""))

abbrev pub more_labels : List Pair → List ℕ
more_labels [] = []
more_labels (label ∷ labels) = codes "," ++ (label_text label ++ more_labels labels)

-- no braces stand where there is no label
unfoldable pub labels_text : List Pair → List ℕ
labels_text [] = []
labels_text (label ∷ labels) = codes "{" ++ (label_text label ++ (more_labels labels ++ codes "}"))

-- ---- samples and families

pub record Sample : Type 0 where
  pub labels : List Pair
  pub value : Value

-- a line for each sample, with the name of its family
unfoldable pub sample_text : List ℕ → Sample → List ℕ
sample_text name sample =
    name ++ (labels_text sample.labels ++ (codes " " ++ (value_text sample.value ++ codes "\n")))

abbrev pub samples_text : List ℕ → List Sample → List ℕ
samples_text name [] = []
samples_text name (sample ∷ samples) = sample_text name sample ++ samples_text name samples

-- which family it is, and its samples
pub record Family : Type 0 where
  pub metric : Metric
  pub samples : List Sample

-- the lines before the samples: the help text and the type
unfoldable pub title_text : Metric → List ℕ
title_text metric =
    codes "# HELP " ++ (name_of metric ++ (codes " " ++ (help_of metric ++ (codes "\n# TYPE "
    ++ (name_of metric ++ (codes " " ++ (kind_word (kind_of metric) ++ codes "\n")))))))

unfoldable pub family_text : Family → List ℕ
family_text family = title_text family.metric ++ samples_text (name_of family.metric) family.samples

abbrev pub page_text : List Family → List ℕ
page_text [] = []
page_text (family ∷ families) = family_text family ++ page_text families

-- ---- what code gives

-- the name and the value of a label
abbrev pub pair : Label → Pair
pair label = (label.name.now, label.value.now)

abbrev pub pairs : List Label → List Pair
pairs [] = []
pairs (label ∷ labels) = pair label ∷ pairs labels

-- a family of one sample without labels
abbrev pub plain : Metric → Value → Family
plain metric value = record { metric = metric; samples = record { labels = []; value = value } ∷ [] }

-- a family of one whole number
abbrev pub counted : Metric → ℕ → Family
counted metric count = plain metric (Whole count)
