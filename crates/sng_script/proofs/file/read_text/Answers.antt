use Rattle.std.proofs.Common.{◌<◌, length, arith}
use Rattle.sng_script.proofs.FileLemmas.{all_read}
use Rattle.sng_script.proofs.file.read_text.Goals as goal

pub returns-clause-all : goal.returns-clause-all
returns-clause-all g c =
    let size = c.read_to_end.new.buf.ok.0 in
    let short : length c.read_to_end.new.buf.items < c.take.result.limit = omega arith in
    all_read (g.R.Read.remaining c.take.result.inner.inner) (g.R.Read.remaining c.args.input)
    c.take.result.limit c.new-text.result.items c.read_to_end.new.buf.items
    c.in_ok-read_to_end.ensures.bytes (cc) c.new-text.ensures.items short
