-- The parts of the loads by their numbers.
use Rattle.std.specs.Prelude.{ℕ}
use Rattle.loads.specs.declared.gather.Part.{Part}
use Rattle.loads.specs.declared.gather.Part.TheVariants.{Protected, Others}

abbrev pub number_of : Part → ℕ
number_of Protected = 0
number_of Others = 1
