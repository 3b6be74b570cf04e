-- There are two parts.
use Prim.Native.Nat.{◌<◌}
use native.Mathlib.Omega.{arith}
use Rattle.loads.specs.declared.gather.Part.{Part}
use Rattle.loads.specs.declared.gather.Part.TheVariants.{Protected, Others}
use Rattle.loads.specs.Parts.{number_of}

pub part_in : (p : Part) → number_of p < 2
part_in Protected = omega arith
part_in Others = omega arith
