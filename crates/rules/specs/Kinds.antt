-- The code's kinds by their numbers.
use Rattle.std.specs.Prelude.{ℕ}
use Rattle.rules.specs.Rules.{keep, add, remove}
use Rattle.rules.specs.declared.judged.Kind.{Kind}
use Rattle.rules.specs.declared.judged.Kind.TheVariants.{Keep, Add, Remove}

abbrev pub kind_number : Kind → ℕ
kind_number Keep = keep
kind_number Add = add
kind_number Remove = remove
