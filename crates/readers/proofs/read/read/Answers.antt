-- `readers::read::read` meets its contract.
use Rattle.std.proofs.Common.{◌≡◌, ◌+◌, ◌<◌, ◌≤◌, true, length, take, drop, sym, refl, ap, ◌∙◌, arith, rules}
use Rattle.std.specs.declared.option.Option.TheVariants.{Some}
use Rattle.model.proofs.Searches.{and-true}
use Rattle.lists.specs.Refusals.{counted}
use Rattle.forms.specs.Form.{has_remarks}
use Rattle.forms.specs.Line.{is_remark, most_remarks}
use Rattle.forms.specs.Turns.{hashed}
use Rattle.forms.specs.Read.{read_lines}
use Rattle.forms.proofs.Forms.{sound_none}
use Rattle.forms.proofs.Remarks.{read-by-turns}
use Rattle.readers.specs.Line.{first_line, remark_len}
use Rattle.readers.specs.Read.{onward}
use Rattle.readers.proofs.Reading.{rest-is, walk-disorder, onward-past, past-facts, go_on, walk-taken, ended, all-read, holds-refused}
use Rattle.readers.proofs.Remarks.{remark-below}
use borrow.Author.Rules.{rules}
use Rattle.readers.proofs.read.read.Goals as goal
use Rattle.readers.proofs.read.read.Goals.{Else-head_read, In-Some, Then-not-is_remark, Else-not-is_remark}

-- lines are read up to one that gives no number
rest : (c : Else-head_read) → read_lines c.args.form c.args.text.now ≡ onward c.args.form c.args.text.now c.read_on-stopped.new.vals c.read_on-stopped.result.count c.read_on-stopped.result.at c.loop-stopped.remarks
rest c = c.loop-stopped.invariant.rest ∙ c.read_on-stopped.ensures.same c.loop-stopped.remarks

-- that line is no remark
walked : (c : Then-not-is_remark)
    → go_on c.args.form (c.read_on-stopped.result.count + c.loop-stopped.remarks + 1) c.loop-stopped.remarks (take c.read_on-stopped.result.count c.read_on-stopped.new.vals) c.args.text.now c.read_on-stopped.result.at c.read_on-stopped.result.taken
    (onward c.args.form c.args.text.now c.read_on-stopped.new.vals c.read_on-stopped.result.count c.read_on-stopped.result.at c.loop-stopped.remarks)
walked c =
    walk-taken _ _ _ _ _ _ (sym (rw rest-is at c.is_remark.ensures) ∙ c.if-not-is_remark.true) _
    (rw (sym c.head_read.ensures ∙ c.if-head_read.false) at c.read_on-stopped.ensures.gives)

-- or it is one
module _ (c : Else-not-is_remark) where
  remark : is_remark c.args.form (first_line (drop c.read_on-stopped.result.at c.args.text.now)) ≡ true
  remark = sym (rw rest-is at c.is_remark.ensures) ∙ c.if-not-is_remark.false

  with-hash : hashed (first_line (drop c.read_on-stopped.result.at c.args.text.now)) ≡ true
  with-hash = (and-true (has_remarks c.args.form) _ remark).1

  below : c.read_on-stopped.result.at < length c.args.text.now
  below = remark-below c.args.text.now _ (rw with-hash tt)

-- which is passed over
module _ (c : In-Some) (h : c.read_on-stopped.result.at < length c.args.text.now) where
  long : remark_len (drop c.read_on-stopped.result.at c.args.text.now) c.loop-stopped.remarks ≡ Some c.in-Some.length
  long = rw rest-is at (sym c.remark_len.ensures ∙ c.in-Some.is)

  passed_over : (0 < c.in-Some.length) × ((c.read_on-stopped.result.at + c.in-Some.length ≤ length c.args.text.now) × (c.loop-stopped.remarks < most_remarks))
  passed_over = past-facts _ _ _ _ long h

pub loop-stopped-init : goal.loop-stopped-init
loop-stopped-init c = record { length-kept = refl; begun = record { within = search rules; few = search rules; sound = sound_none _ }; passed = search rules; rest = read-by-turns _ _ }

pub returns-in_default : goal.returns-in_default
returns-in_default c =
    let stop = c.read_on-stopped in
    let e = rw (ended stop.result.taken stop.ensures.stops c.in_default.not-Stop) at (walked ((goal.at.returns-in_default c).Then-not-is_remark)) in
    let within : stop.result.count ≤ length stop.new.vals = omega (arith, stop.ensures.begun.few, stop.auto.vals, c.loop-stopped.invariant.length-kept, c.requires) in
    let p = all-read _ _ _ within (rest ((goal.at.returns-in_default c).Else-head_read) ∙ e) in record { value = sym p.0; holds = p.1 }

pub returns-then-not-is_remark : goal.returns-then-not-is_remark
returns-then-not-is_remark c =
    let d = ap counted (rest ((goal.at.returns-then-not-is_remark c).Else-head_read)) ∙ rw c.in-Stop.is at (walked ((goal.at.returns-then-not-is_remark c).Then-not-is_remark)) in
    record { value = rw c.refusal.ensures (sym d); holds = holds-refused _ _ _ d }

pub returns-in_default-remark_len : goal.returns-in_default-remark_len
returns-in_default-remark_len c =
    let at' = (goal.at.returns-in_default-remark_len c).Else-not-is_remark in
    let d = ap counted (rest ((goal.at.returns-in_default-remark_len c).Else-head_read) ∙ walk-disorder _ _ _ _ _ _ (below at') (remark at') (rw rest-is at (sym c.remark_len.ensures ∙ c.in_default-remark_len.is))) in
    record { value = rw c.refusal-in_default-remark_len.ensures (sym d); holds = holds-refused _ _ _ d }

pub overflow_add-at : goal.overflow_add-at
overflow_add-at c = omega (arith, (passed_over c (below ((goal.at.overflow_add-at c).Else-not-is_remark))).1.0)

pub loop-stopped-smaller : goal.loop-stopped-smaller
loop-stopped-smaller c =
    let p = passed_over c (below ((goal.at.loop-stopped-smaller c).Else-not-is_remark)) in
    omega (arith, p.0, p.1.0, c.read_on-stopped.ensures.later, c.read_on-stopped.ensures.more)

pub loop-stopped-preserved : goal.loop-stopped-preserved
loop-stopped-preserved c =
    let at' = (goal.at.loop-stopped-preserved c).Else-not-is_remark in
    let p = passed_over c (below at') in
    let b = c.read_on-stopped.ensures.begun in
    record {
      length-kept = c.read_on-stopped.auto.vals ∙ c.loop-stopped.invariant.length-kept;
      begun = record { within = p.1.0; few = b.few; sound = b.sound };
      passed = omega (arith, p.1.1);
      rest = rest ((goal.at.loop-stopped-preserved c).Else-head_read) ∙ onward-past _ _ _ _ _ _ _ (below at') (remark at') (long c (below at'));
    }
