-- The names of the fields of a head, by their places.
use Rattle.std.proofs.Common.{ℕ, Bool, ◌≡◌, ◌≤◌, List, [], ◌∷◌, length, map, refl, ap, ◌∙◌, sym, arith}
use Rattle.std.specs.Prelude.{All}
use Rattle.std.specs.List.{count_by}
use Rattle.httparse.specs.Grammar.{Field, RequestHead}
use Rattle.httparse.specs.Spans.{header_bytes, name_and_value, IsHeaderWithin}
use Rattle.httparse.specs.declared.spans.HeaderSpan.{HeaderSpan}
use Rattle.sng_metrics.specs.Requests.{field_name, header_name, heard_of, host_fits, hosts_of, is_host, judged}
use Rattle.sng_metrics.specs.declared.heard.Heard.{Heard}

firsts : {A : Type 0} (f : A → List ℕ × List ℕ) (xs : List A)
    → map (λ x. (f x).0) xs ≡ map (λ p. p.0) (map f xs)
firsts f [] = refl
firsts f (x ∷ xs) = ap (λ ys. (f x).0 ∷ ys) (firsts f xs)

-- the names that the places cover are those of the fields
pub hosts_are : (octets : List ℕ) (places : List HeaderSpan) (fields : List Field)
    → map (header_bytes octets) places ≡ map name_and_value fields
    → count_by is_host (map (header_name octets) places) ≡ hosts_of fields
hosts_are octets places fields same =
    ap (count_by is_host)
    (firsts (header_bytes octets) places
    ∙ ap (map (λ p. p.0)) same
    ∙ sym (firsts name_and_value fields))

-- what is heard of a head, by its parts
pub judged_by : (head : RequestHead) (minor hosts : ℕ) (method target : List ℕ) (heard : Heard) (fits : Bool)
    → host_fits minor hosts ≡ fits → minor ≡ head.minor → hosts ≡ hosts_of head.fields
    → method ≡ head.method → target ≡ head.target → heard ≡ judged fits method target
    → heard ≡ heard_of head
judged_by head minor hosts method target heard fits f m h t p e =
    let b : host_fits head.minor (hosts_of head.fields) ≡ fits = rw (← m, ← h) f in
    e ∙ cc
