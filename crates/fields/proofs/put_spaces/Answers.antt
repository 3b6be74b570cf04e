-- `fields::put_spaces` meets its contract.
use native.Mathlib.Omega.{arith}
use Rattle.fields.proofs.Fields.{filled-puts}
use Rattle.fields.proofs.put_spaces.Goals as goal

pub returns : goal.returns
returns c = filled-puts c.args.out.now _ c.args.from c.args.n _ 32 (omega arith) c.requires (c.fill.ensures.after (λ y e. e))
