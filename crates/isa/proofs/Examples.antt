-- The examples of specs/Examples.antt come out as they say, by computation. Assumes nothing.
use mathlib.Core.Path.{◌≡◌, refl}
use mathlib.Core.List.{map}
use Rattle.isa.specs.Table.{table}
use Rattle.isa.specs.Answers.{describe, missing, decode_of}
use Rattle.isa.specs.Examples.{examples, replayed, missing_sums, sums_of}

pub examples_hold : map replayed examples ≡ examples
unfolding decode_of describe missing
examples_hold = refl

pub features_hold : map (sums_of 16) table ≡ missing_sums
features_hold = refl
