-- `lengths::plan_needed` meets its contract.
use native.Mathlib.Omega.{arith}
use native.Mathlib.Nat.{le_trans}
use Prim.Native.Nat.{ℕ, ◌+◌, ◌*◌, ◌-◌}
use mathlib.Core.Path.{◌≡◌, ap, ◌∙◌}
use mathlib.Core.List.{List}
use lib.ListN.{length}
use Rattle.forms.specs.declared.form.Form.TheVariants.{Plan}
use Rattle.forms.proofs.Rendering.{render-short}
use Rattle.forms.proofs.Good.{whole-plan}
use Rattle.forms.specs.Write.{render}
use Rattle.lengths.specs.Lines.{widths_of}
use Rattle.lengths.proofs.Measuring.{plan-length}
use Rattle.lengths.proofs.plan_needed.Goals as goal

pub returns-then-room-ge-BYTES : goal.returns-then-room-ge-BYTES
returns-then-room-ge-BYTES c = record { short = λ h. absurd (omega arith); fits = λ h. le_trans (render-short Plan c.args.plan.now (whole-plan _ c.numbers-list.ensures.good)) c.if-room-ge-BYTES.true }

pub returns : goal.returns
returns c =
    let l = c.args.plan.now in
    let digits = c.widths.ensures.0 ∙ ap (λ (k : List ℕ). widths_of k (length k)) c.numbers-list.ensures.numbers in
    let m : 29 + 4 * (length c.numbers-list.result.now - 4) + c.widths.result ≡ length (render Plan l)
    = omega (arith, plan-length l c.numbers-list.ensures.good, digits, ap length c.numbers-list.ensures.numbers) in
    record { short = λ h. m; fits = λ h. omega (arith, m) }
