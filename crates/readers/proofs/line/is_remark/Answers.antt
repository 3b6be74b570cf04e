-- `readers::line::is_remark` meets its contract.
use Rattle.std.proofs.Common.{sym, ◌∙◌}
use Rattle.readers.proofs.Remarks.{hash-here}
use Rattle.readers.proofs.line.is_remark.Goals as goal

pub returns-then-has_remarks : goal.returns-then-has_remarks
returns-then-has_remarks c = rw (sym c.has_remarks.ensures ∙ c.if-has_remarks.true) (c.starts_with.ensures.value ∙ hash-here _)
