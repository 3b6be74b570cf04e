-- What stands at the front of the output is what is printed.
use Prim.Native.Nat.{ℕ, ◌≤◌}
use mathlib.Core.Path.{◌≡◌, sym, ap, ◌∙◌}
use mathlib.Core.List.{List, ◌++◌}
use native.Mathlib.Omega.{arith}
use lib.ListN.{length, take, drop, length-append}
use lib.Seq.{take-append_seam, length-take-le}
use Rattle.report.specs.Counts.{IsPrefixLen}
use Rattle.model.specs.Outcome.{Outcome, good, refused, number}
use Rattle.std.specs.declared.result.Result.TheVariants.{Err}
use Rattle.lists.specs.Answers.{lent}
use Rattle.lists.specs.Refusals.{refusal, counted, done_with}
use Rattle.lists.specs.declared.Answer.{Answer}
use Rattle.lists.specs.declared.refusal.Refusal.{Refusal}
use Rattle.forms.specs.Bytes.{bytes}
use Rattle.lines.specs.Puts.{Puts}
use Rattle.lines.proofs.Writing.{placed-front}
use Rattle.report.specs.Printed.{printed_line, refusal_lines, printed_plan, on_read}
use Rattle.report.proofs.Decimals.{line-most}

-- bytes that are put at the front stand there
pub puts-front : (t out out' : List ℕ) (past : ℕ) → length t ≤ length out → Puts t 0 out out' past → IsPrefixLen past out' × (take past out' ≡ t)
puts-front t out out' past h p =
    let e : past ≡ length t = omega (arith, p.place) in
    let s : out' ≡ t ++ drop (length t) out = p.bytes ∙ placed-front out t in
    let f : take past out' ≡ t = rw (e, s) (take-append_seam t (drop (length t) out)) in
    let w : past ≤ length out' = omega (arith, e, ap length s, length-append t (drop (length t) out)) in
    ((w, sym (length-take-le past out' w)), f)

pub refusal-most : (m place second : ℕ) → length (refusal_lines m place second) ≤ 84
refusal-most m place second =
    let a = printed_line (bytes "refused=") m in
    let b = printed_line (bytes "place=") place in
    let c = printed_line (bytes "second=") second in
    omega (arith, length-append (a ++ b) c, length-append a b, line-most (bytes "refused=") m, line-most (bytes "place=") place, line-most (bytes "second=") second)

pub refusal-front : (m place second : ℕ) (out out' : List ℕ) (past : ℕ) → 84 ≤ length out → Puts (refusal_lines m place second) 0 out out' past
    → IsPrefixLen past out' × (take past out' ≡ refusal_lines m place second)
refusal-front m place second out out' past h p = puts-front (refusal_lines m place second) out out' past (omega (arith, h, refusal-most m place second)) p

-- ---- what a refusal of the plan text is printed as, and what it leaves

module _ (r : Refusal) where
  pub err-lines : (o : Outcome (List ℕ)) → counted o ≡ Err r → printed_plan o ≡ refusal_lines (number r.cause) r.place r.second
  err-lines (good l) e = let y : ◌≡◌ {A = ℕ} 0 1 = cc in absurd (omega arith)
  err-lines (refused c place second) e = let z : refusal c place second ≡ r = cc in ap (λ (x : Refusal). refusal_lines (number x.cause) x.place x.second) z

  pub err-left : (o : Outcome (List ℕ)) (out s : List ℕ) → counted o ≡ Err r → s ≡ lent o out → s ≡ out
  err-left (good l) out s e h = let y : ◌≡◌ {A = ℕ} 0 1 = cc in absurd (omega arith)
  err-left (refused c place second) out s e h = h

  -- and a text that is refused is what the check comes to
  pub err-read : (o : Outcome (List ℕ)) (next : List ℕ → Answer) → counted o ≡ Err r → done_with (Err r) ≡ on_read o next
  err-read (good l) next e = let y : ◌≡◌ {A = ℕ} 0 1 = cc in absurd (omega arith)
  err-read (refused c place second) next e = ap done_with (sym e)
