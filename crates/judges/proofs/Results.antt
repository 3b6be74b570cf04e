-- What the judges give: a whole list is judged by its sums, and the refusal of a number stands.
use Prim.Native.Nat.{ℕ}
use mathlib.Core.Path.{◌≡◌, ap}
use mathlib.Core.List.{List}
use Rattle.std.specs.declared.result.Result.TheVariants.{Ok}
use Rattle.model.specs.Outcome.{Outcome, and_then}
use Rattle.lists.specs.Refusals.{counted}
use Rattle.lists.proofs.Refusals.{counted-good}
use Rattle.forms.specs.Form.{Whole}
use Rattle.forms.specs.Read.{judge_numbers, judge_list, add_up}
use Rattle.forms.specs.declared.form.Form.{Form}
use Rattle.forms.proofs.Walks.{judged-whole, whole-judged}

module _ (form : Form) (l : List ℕ) where
  pub whole-counted : (n : ℕ) → counted (judge_numbers form l) ≡ Ok n → Whole form l
  whole-counted n e = let g = counted-good _ n e in (judged-whole form l g.0 g.1).1

  pub whole-sums : Whole form l → judge_list form l ≡ add_up form l
  whole-sums w = ap (λ (o : Outcome (List ℕ)). and_then o (add_up form)) (whole-judged form l w)
