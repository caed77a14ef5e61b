-- Names as they are written.
use Rattle.std.proofs.Common.{◌≡◌, Some, refl}
use Rattle.sng_config.specs.declared.names.TextName.TheVariants.{Listen, Broker, Id, Policy, Book, Metrics}
use Rattle.sng_config.specs.declared.names.NumberName.TheVariants.{Workers, Tries, FloodEach, FloodAll}
use Rattle.sng_config.specs.declared.names.SwitchName.TheVariants.{Verbose, Rows, NoWatch, LogTime}
use Rattle.sng_config.specs.declared.names.Name.{Name}
use Rattle.sng_config.specs.declared.names.Name.TheVariants.{Text, Number, Switch}
use Rattle.sng_config.specs.Names.{word_of, name_of}

pub read-back : (name : Name) → name_of (word_of name) ≡ Some name
unfolding name_of
read-back (Text Listen) = refl
read-back (Text Broker) = refl
read-back (Text Id) = refl
read-back (Text Policy) = refl
read-back (Text Book) = refl
read-back (Text Metrics) = refl
read-back (Number Workers) = refl
read-back (Number Tries) = refl
read-back (Number FloodEach) = refl
read-back (Number FloodAll) = refl
read-back (Switch Verbose) = refl
read-back (Switch Rows) = refl
read-back (Switch NoWatch) = refl
read-back (Switch LogTime) = refl
