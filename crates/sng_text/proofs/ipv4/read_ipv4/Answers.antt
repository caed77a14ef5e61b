use Rattle.std.proofs.Common.{◌≡◌, ◌∷◌, sym}
use Rattle.sng_text.specs.Ipv4.{parts_of}
use Rattle.sng_text.proofs.Ipv4Lemmas.{four_of-five}
use Rattle.sng_text.proofs.ipv4.read_ipv4.Goals as goal

pub returns-in-Some : goal.returns-in-Some
returns-in-Some c =
    let one : parts_of c.args.text.now ≡ c.in_ok-a.a.now ∷ parts_of c.in_ok-a.rest.now = c.in_ok-a.ensures in
    let two : parts_of c.in_ok-a.rest.now ≡ c.in_ok-b.b.now ∷ parts_of c.in_ok-b.rest.now =
    c.in_ok-b.ensures in
    let three : parts_of c.in_ok-b.rest.now ≡ c.in_ok-c.c.now ∷ parts_of c.in_ok-c.d.now =
    c.in_ok-c.ensures in
    rw (one, two, three, c.in-Some.ensures)
    (sym (four_of-five c.in_ok-a.a.now c.in_ok-b.b.now c.in_ok-c.c.now c.in-Some.field-0.0.now
    c.in-Some.field-0.1.now))
