-- What is printed for words that are to be filters: whether the first is included in the union of the others.
use Rattle.std.specs.Prelude.{ℕ, suc, List, [], ◌∷◌, ◌++◌, if◌then◌else◌, codes, Some, None}
use Rattle.std.specs.declared.option.Option.{Option}
use Rattle.std.specs.Fmt.{decimal}
use Rattle.sng_text.specs.Texts.{is_filter}
use Rattle.sng_cover.specs.Covering.{cover_of}
use Rattle.sng_cover.specs.declared.answer.Cover.TheVariants.{Included, Uncovered}
use Rattle.sng_book.specs.Printing.{name_text}
use Rattle.sng_script.specs.declared.status.Status.{Status}
use Rattle.sng_script.specs.declared.status.Status.TheVariants as statuses
use Rattle.sng_questions.specs.declared.covering.Answer.{Answer}
use Rattle.sng_questions.specs.declared.covering.Answer.TheVariants.{Covered, BadFilter}

-- the place of the first word that is no filter, where the first of all has this place
abbrev pub first_bad : ℕ → List (List ℕ) → Option ℕ
first_bad place [] = None
first_bad place (word ∷ words) = if is_filter word then first_bad (suc place) words else Some place

-- the answer to filters; with none there is no first word to read
abbrev pub covered : List (List ℕ) → Answer
covered [] = BadFilter 1
covered (asked ∷ granted) = Covered (cover_of asked granted)

abbrev pub answer_by : Option ℕ → List (List ℕ) → Answer
answer_by None words = covered words
answer_by (Some place) words = BadFilter place

abbrev pub answer_of : List (List ℕ) → Answer
answer_of words = answer_by (first_bad 1 words) words

-- the line of an answer, with its line feed
abbrev pub answer_text : Answer → List ℕ
answer_text (Covered Included) = codes "included\n"
answer_text (Covered (Uncovered name)) = codes "uncovered " ++ (name_text name ++ codes "\n")
answer_text (BadFilter place) = codes "bad filter " ++ (decimal place ++ codes "\n")

-- how a run with this answer comes out
abbrev pub status_of : Answer → Status
status_of (Covered Included) = statuses.Done
status_of (Covered (Uncovered name)) = statuses.Uncovered
status_of (BadFilter place) = statuses.Unreadable
