use Rattle.std.proofs.Common.{sym, subst}
use Rattle.std.specs.Str.{IsUtf8}
use Rattle.sng_scope.proofs.WriteLemmas.{filter-utf8}
use Rattle.sng_scope.proofs.write.scopes.pair_value.Goals as goal

pub text_of-requires : goal.text_of-requires
text_of-requires c =
    subst IsUtf8 (sym c.text.ensures.value) (filter-utf8 c.args.pair.now.filter c.text.ensures.filter)
