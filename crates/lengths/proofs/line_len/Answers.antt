-- `lengths::line_len` meets its contract.
use mathlib.Core.Path.{sym, ◌∙◌}
use native.Mathlib.Omega.{arith}
use Rattle.lengths.proofs.Runs.{set-size, number_size}
use Rattle.lengths.proofs.line_len.Goals as goal

pub returns-then-is_hex : goal.returns-then-is_hex
returns-then-is_hex c =
    sym (set-size _ _ _ _ _ _ c.in-Some.is c.text-name.ensures c.is_hex.ensures c.if-is_hex.true)

pub width-requires : goal.width-requires
width-requires c = c.requires.small _ _ c.in-Some.is (sym c.is_hex.ensures ∙ c.if-is_hex.false)

pub returns : goal.returns
returns c =
    omega (arith, c.width.ensures.0, number_size _ _ _ c.args.v _ _ c.in-Some.is c.text-name.ensures c.is_hex.ensures c.if-is_hex.false)
