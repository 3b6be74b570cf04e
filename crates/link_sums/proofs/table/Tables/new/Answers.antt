-- `link_sums::table::Tables::new` meets its contract.
use mathlib.Core.Path.{refl}
use Rattle.link_sums.proofs.Tables.{split-zero}
use Rattle.link_sums.proofs.table.Tables.new.Goals as goal

pub returns : goal.returns
returns c N = split-zero N _ refl refl
