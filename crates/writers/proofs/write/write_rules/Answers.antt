-- `writers::write::write_rules` meets its contract.
use Prim.Native.Nat.{◌<◌}
use mathlib.Core.Path.{◌≡◌, sym, ◌∙◌}
use native.Mathlib.Omega.{arith}
use lib.ListN.{length}
use Rattle.model.specs.Outcome.{good}
use Rattle.forms.specs.Form.{Whole}
use Rattle.forms.specs.Read.{judge_list}
use Rattle.forms.specs.Write.{render}
use Rattle.forms.specs.declared.form.Form.TheVariants.{Rules}
use Rattle.writers.proofs.Written.{counted-whole, too-long, written}
use Rattle.writers.proofs.write.write_rules.Goals as goal
use Rattle.writers.proofs.write.write_rules.Goals.{In_ok-judge_rules}

accepted : (c : In_ok-judge_rules) → (judge_list Rules c.args.list.now ≡ good c.args.list.now) × Whole Rules c.args.list.now
accepted c = counted-whole Rules _ _ (sym c.judge_rules.ensures ∙ c.in_ok-judge_rules.was)

pub rules_len-rules_size-requires : goal.rules_len-rules_size-requires
rules_len-rules_size-requires c = (accepted c).1

pub put_rules-requires-clause-whole : goal.put_rules-requires-clause-whole
put_rules-requires-clause-whole c = (accepted ((goal.at.put_rules-requires-clause-whole c).In_ok-judge_rules)).1

pub returns-then-out-rules_size : goal.returns-then-out-rules_size
returns-then-out-rules_size c =
    let short : length c.args.out.now < length (render Rules c.args.list.now) = omega (arith, c.if-out-rules_size.true, c.rules_len-rules_size.ensures) in
    let e = too-long Rules _ c.args.out.now (accepted ((goal.at.returns-then-out-rules_size c).In_ok-judge_rules)).0 short in
    record { value = rw (c.no_room.ensures, c.rules_len-rules_size.ensures) (sym e.0); out_after = sym e.1 }

pub returns : goal.returns
returns c =
    let e = written Rules _ _ (accepted ((goal.at.returns c).In_ok-judge_rules)).0 (omega (arith, c.if-out-rules_size.false, c.rules_len-rules_size.ensures)) c.put_rules.ensures in
    record { value = sym e.0; out_after = e.1 }
