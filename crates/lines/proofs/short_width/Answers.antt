-- `lines::short_width` meets its contract.
use mathlib.Core.Path.{sym, refl}
use mathlib.Core.Logic.{inl, inr}
use native.Mathlib.Omega.{arith}
use Rattle.forms.proofs.Numbers.{width_is}
use Rattle.lines.proofs.short_width.Goals as goal

pub returns-then-v-lt10 : goal.returns-then-v-lt10
returns-then-v-lt10 c = (sym (width_is _ 1 (omega arith) (omega arith) c.if-v-lt10.true (inl refl)), omega arith)

pub returns-else-v-lt10 : goal.returns-else-v-lt10
returns-else-v-lt10 c = (sym (width_is _ 2 (omega arith) (omega arith) c.if-v-lt100.true (inr c.if-v-lt10.false)), omega arith)

pub returns-then-v-lt1000 : goal.returns-then-v-lt1000
returns-then-v-lt1000 c = (sym (width_is _ 3 (omega arith) (omega arith) c.if-v-lt1000.true (inr c.if-v-lt100.false)), omega arith)

pub returns-else-v-lt1000 : goal.returns-else-v-lt1000
returns-else-v-lt1000 c = (sym (width_is _ 4 (omega arith) (omega arith) c.requires (inr c.if-v-lt1000.false)), omega arith)
