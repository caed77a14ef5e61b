-- Every answer is one of HTTP/1.1, by the grammar by which heads are read.
use Rattle.std.proofs.Common.{ℕ, ◌≡◌, ◌+◌, ◌%◌, ◌<◌, ◌≤◌, ◌^◌, ◌&&◌, Bool, true, IsTrue, List, [], ◌∷◌, ◌++◌, length}
use Rattle.std.proofs.Common.{reverse, append_assoc, map, refl, sym, ap, ◌∙◌, arith, codes, Some}
use Rattle.std.specs.Prelude.{All, not}
use Rattle.std.specs.Fmt.{decimal}
use Rattle.std.specs.List.{list_all}
use Rattle.std.proofs.lemmas.Bool.Decides.{nat_tests}
use Rattle.std.proofs.lemmas.Fmt.{decimal_by_steps}
use Rattle.std.proofs.lemmas.List.Elements.{All-cons, All-head, All-nil, All-weaker}
use Rattle.std.proofs.lemmas.List.Folds.{list_all-append}
use Rattle.std.proofs.lemmas.List.Sums.{AllPass-from_list_all}
use Rattle.httparse.specs.Grammar.{AllPass, Field, IsField, IsToken, ResponseHead, ReadsResponse, IsResponseHead}
use Rattle.httparse.specs.Grammar.{crlf, is_ows, is_token_byte, is_value_byte, print_response, skip_ows}
use Rattle.httparse.specs.Grammar.{trim_ows}
use Rattle.std.specs.Char.{is_ascii_digit}
use Rattle.std.specs.Str.Parse.{digits_value}
use Rattle.httparse.specs.Spans.{name_and_value}
use Rattle.httparse.proofs.TrimLemmas.{AllPass-reverse, trim_ows_space}
use Rattle.sng_text.specs.Ipv4.{is_digit}
use Rattle.sng_metrics.specs.Answers.{answer_text, content_text, head_text}
use Rattle.sng_metrics.specs.Laws.{IsAnswer, code_of}
use Rattle.sng_metrics.specs.Responses.{length_field}
use Rattle.sng_metrics.specs.Statuses.{media_of}
use Rattle.sng_metrics.specs.declared.heard.Form.{Form}
use Rattle.sng_metrics.specs.declared.status.Media.{Media}
use Rattle.sng_metrics.specs.declared.status.Media.TheVariants as media
use Rattle.sng_metrics.specs.declared.status.Status.{Status}
use Rattle.sng_metrics.specs.declared.status.Status.TheVariants as status

-- ---- decimal digits

one_digit : (n : ℕ) → n < 10 → list_all is_digit ((48 + n) ∷ []) ≡ true
one_digit n small = grind (arith, nat_tests)

more_digits : (n : ℕ) (ds : List ℕ) → 10 ≤ n → list_all is_digit ds ≡ true
    → list_all is_digit (ds ++ ((48 + n % 10) ∷ [])) ≡ true
more_digits n ds many had = rw (list_all-append, had) (one_digit (n % 10) (omega arith))

are_digits : (n : ℕ) → n < 2 ^ 64 → AllPass is_digit (decimal n)
are_digits n small =
    AllPass-from_list_all is_digit (decimal n)
    (decimal_by_steps (λ m ds. list_all is_digit ds ≡ true) one_digit more_digits n small)

digit_is_value : (b : ℕ) → IsTrue (is_digit b) → IsTrue (is_value_byte b)
digit_is_value b h = grind (arith, nat_tests)

digit_is_no_blank : (b : ℕ) → IsTrue (is_digit b) → IsTrue (not (is_ows b))
digit_is_no_blank b h = grind (arith, nat_tests)

weaker : (test other : ℕ → Bool) → ((b : ℕ) → IsTrue (test b) → IsTrue (other b)) → (bs : List ℕ)
    → AllPass test bs → AllPass other bs
weaker test other implies bs pass =
    All-weaker (λ b. IsTrue (test b)) (λ b. IsTrue (other b)) implies bs pass

not_skipped : (bs : List ℕ) → AllPass (λ b. not (is_ows b)) bs → skip_ows bs ≡ bs
not_skipped [] pass = refl
not_skipped (b ∷ bs) pass =
    let first : IsTrue (not (is_ows b)) = All-head (λ x. IsTrue (not (is_ows x))) b bs pass in
    grind (arith, nat_tests, first)

-- the number is the value of a field behind a space
trimmed : (n : ℕ) → n < 2 ^ 64 → trim_ows (32 ∷ decimal n) ≡ decimal n
trimmed n small =
    let plain : AllPass (λ b. not (is_ows b)) (decimal n) =
    weaker is_digit (λ b. not (is_ows b)) digit_is_no_blank (decimal n) (are_digits n small) in
    trim_ows_space (decimal n) (not_skipped (decimal n) plain)
    (not_skipped (reverse (decimal n)) (AllPass-reverse (λ b. not (is_ows b)) (decimal n) plain))

-- ---- fields

abbrev field : (name raw : List ℕ) → Field
field name raw = record { name = name; raw = raw; end = crlf }

abbrev connection : Field
connection = field (codes "Connection") (codes " close")

abbrev content_type : Media → Field
content_type media = field (codes "Content-Type") (32 ∷ media_of media)

abbrev content_length : ℕ → Field
content_length count = field (codes "Content-Length") (32 ∷ decimal count)

abbrev allow : Status → List Field
allow status.Ok = []
allow status.BadRequest = []
allow status.NotFound = []
allow status.MethodNotAllowed = field (codes "Allow") (codes " GET, HEAD") ∷ []
allow status.RequestTimeout = []
allow status.FieldsTooLarge = []
allow status.Unavailable = []

is_literal : (name raw : List ℕ) → 0 < length name → list_all is_token_byte name ≡ true
    → list_all is_value_byte raw ≡ true → IsField (field name raw)
is_literal name raw some token value = record {
  name = (some, AllPass-from_list_all is_token_byte name token);
  raw = AllPass-from_list_all is_value_byte raw value;
}

connection_is : IsField connection
unfolding is_token_byte
connection_is = is_literal (codes "Connection") (codes " close") (omega arith) refl refl

type_is : (media : Media) → IsField (content_type media)
unfolding is_token_byte
type_is media.Text = is_literal (codes "Content-Type") (32 ∷ media_of media.Text) (omega arith) refl refl
type_is media.Figures = is_literal (codes "Content-Type") (32 ∷ media_of media.Figures) (omega arith) refl refl

length_is : (count : ℕ) → count < 2 ^ 64 → IsField (content_length count)
unfolding is_token_byte
length_is count small = record {
  name = (omega arith, AllPass-from_list_all is_token_byte (codes "Content-Length") refl);
  raw =
      All-cons (λ b. IsTrue (is_value_byte b)) 32 (decimal count) refl
      (weaker is_digit is_value_byte digit_is_value (decimal count) (are_digits count small));
}

allow_is : (status : Status) → All IsField (allow status)
unfolding is_token_byte
allow_is status.Ok = All-nil IsField
allow_is status.BadRequest = All-nil IsField
allow_is status.NotFound = All-nil IsField
allow_is status.MethodNotAllowed =
    All-cons IsField (field (codes "Allow") (codes " GET, HEAD")) []
    (is_literal (codes "Allow") (codes " GET, HEAD") (omega arith) refl refl) (All-nil IsField)
allow_is status.RequestTimeout = All-nil IsField
allow_is status.FieldsTooLarge = All-nil IsField
allow_is status.Unavailable = All-nil IsField

-- ---- the head

abbrev digits : Status → List ℕ
digits status.Ok = codes "200"
digits status.BadRequest = codes "400"
digits status.NotFound = codes "404"
digits status.MethodNotAllowed = codes "405"
digits status.RequestTimeout = codes "408"
digits status.FieldsTooLarge = codes "431"
digits status.Unavailable = codes "503"

abbrev phrase : Status → List ℕ
phrase status.Ok = codes "OK"
phrase status.BadRequest = codes "Bad Request"
phrase status.NotFound = codes "Not Found"
phrase status.MethodNotAllowed = codes "Method Not Allowed"
phrase status.RequestTimeout = codes "Request Timeout"
phrase status.FieldsTooLarge = codes "Request Header Fields Too Large"
phrase status.Unavailable = codes "Service Unavailable"

abbrev head_of : Status → Media → ℕ → ResponseHead
head_of status media count = record {
  blank = [];
  minor = 1;
  digits = digits status;
  reason = Some (phrase status);
  line_end = crlf;
  fields = connection ∷ content_type media ∷ content_length count ∷ allow status;
  last = crlf;
}

prints : (status : Status) (media : Media) (count : ℕ)
    → head_text status media count ≡ print_response (head_of status media count)
unfolding print_response
prints status.Ok media.Text count = simp append_assoc
prints status.Ok media.Figures count = simp append_assoc
prints status.BadRequest media.Text count = simp append_assoc
prints status.BadRequest media.Figures count = simp append_assoc
prints status.NotFound media.Text count = simp append_assoc
prints status.NotFound media.Figures count = simp append_assoc
prints status.MethodNotAllowed media.Text count =
    rw (append_assoc (decimal count ++ codes "\r\n") (codes "Allow: GET, HEAD\r\n") (codes "\r\n"))
prints status.MethodNotAllowed media.Figures count =
    rw (append_assoc (decimal count ++ codes "\r\n") (codes "Allow: GET, HEAD\r\n") (codes "\r\n"))
prints status.RequestTimeout media.Text count = simp append_assoc
prints status.RequestTimeout media.Figures count = simp append_assoc
prints status.FieldsTooLarge media.Text count = simp append_assoc
prints status.FieldsTooLarge media.Figures count = simp append_assoc
prints status.Unavailable media.Text count = simp append_assoc
prints status.Unavailable media.Figures count = simp append_assoc

digits_are : (status : Status) → (length (digits status) ≡ 3) × AllPass is_ascii_digit (digits status)
digits_are status.Ok = (refl, AllPass-from_list_all is_ascii_digit (codes "200") refl)
digits_are status.BadRequest = (refl, AllPass-from_list_all is_ascii_digit (codes "400") refl)
digits_are status.NotFound = (refl, AllPass-from_list_all is_ascii_digit (codes "404") refl)
digits_are status.MethodNotAllowed = (refl, AllPass-from_list_all is_ascii_digit (codes "405") refl)
digits_are status.RequestTimeout = (refl, AllPass-from_list_all is_ascii_digit (codes "408") refl)
digits_are status.FieldsTooLarge = (refl, AllPass-from_list_all is_ascii_digit (codes "431") refl)
digits_are status.Unavailable = (refl, AllPass-from_list_all is_ascii_digit (codes "503") refl)

phrase_is : (status : Status) → AllPass is_value_byte (phrase status)
phrase_is status.Ok = AllPass-from_list_all is_value_byte (codes "OK") refl
phrase_is status.BadRequest = AllPass-from_list_all is_value_byte (codes "Bad Request") refl
phrase_is status.NotFound = AllPass-from_list_all is_value_byte (codes "Not Found") refl
phrase_is status.MethodNotAllowed = AllPass-from_list_all is_value_byte (codes "Method Not Allowed") refl
phrase_is status.RequestTimeout = AllPass-from_list_all is_value_byte (codes "Request Timeout") refl
phrase_is status.FieldsTooLarge = AllPass-from_list_all is_value_byte (codes "Request Header Fields Too Large") refl
phrase_is status.Unavailable = AllPass-from_list_all is_value_byte (codes "Service Unavailable") refl

head_is : (status : Status) (media : Media) (count : ℕ) → count < 2 ^ 64
    → IsResponseHead (head_of status media count)
head_is status media count small = record {
  minor = omega arith;
  digits = digits_are status;
  reason = phrase_is status;
  fields =
      All-cons IsField connection (content_type media ∷ content_length count ∷ allow status) connection_is
      (All-cons IsField (content_type media) (content_length count ∷ allow status) (type_is media)
      (All-cons IsField (content_length count) (allow status) (length_is count small) (allow_is status)));
}

code_is : (status : Status) → digits_value 10 (digits status) ≡ code_of status
code_is status.Ok = refl
code_is status.BadRequest = refl
code_is status.NotFound = refl
code_is status.MethodNotAllowed = refl
code_is status.RequestTimeout = refl
code_is status.FieldsTooLarge = refl
code_is status.Unavailable = refl

pub is_answer : (status : Status) (media : Media) (form : Form) (content : List ℕ)
    → length content < 2 ^ 64
    → IsAnswer (answer_text status media form content) (code_of status) (length content)
    (content_text form content)
is_answer status media form content small = record {
  head = head_of status media (length content);
  reads = (
    head_is status media (length content) small,
    ap (λ text. text ++ content_text form content) (prints status media (length content)),
  );
  code_is = code_is status;
  length_is = ap Some (trimmed (length content) small);
}
