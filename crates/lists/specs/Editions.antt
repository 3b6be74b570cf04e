-- "An edition 1 file is read as if `next` equalled `rate`": its sums are judged as they were before there was a `next`.
use Rattle.std.specs.Prelude.{◌≡◌, List, ℕ}
use Rattle.model.specs.OneRate.{OneRate}
use Rattle.lists.specs.Lists.{at, network_of}

abbrev pub EditionOne : Type 0
EditionOne = (l : List ℕ) → at l 0 ≡ 1 → OneRate (network_of l)
