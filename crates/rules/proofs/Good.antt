-- What is known of a list that is judged good as rule tables.
use mathlib.Core.Path.{◌≡◌, ap, ◌∙◌}
use mathlib.Core.List.{List}
use Prim.Native.Nat.{ℕ}
use native.Mathlib.Omega.{arith}
use Rattle.model.specs.Limits.{least_share, most_share}
use Rattle.model.specs.Outcome.{good}
use Rattle.lists.specs.Refusals.{counted}
use Rattle.lists.specs.Lists.{at, table_sizes, rule_at}
use Rattle.lists.proofs.Refusals.{counted-good}
use Rattle.std.specs.declared.result.Result.TheVariants.{Ok}
use Rattle.forms.specs.Form.{Whole}
use Rattle.forms.specs.Read.{judge_list}
use Rattle.forms.specs.declared.form.Form.TheVariants.{Rules}
use Rattle.forms.proofs.Forms.{between}
use Rattle.forms.proofs.Good.{set-in}
use Rattle.judges.proofs.RulesInRange.{head-counts, whole-tables}
use Rattle.forms.proofs.Walks.{judged-good}
use Rattle.rules.specs.Lists.{GoodRules}

ranges : (l : List ℕ) → Whole Rules l → GoodRules l
ranges l w =
    let r = whole-tables l w in
    let c = head-counts l r.head in
    record {
      size = r.size;
      slack = between least_share most_share (at l 1) (r.head.each 1 (omega arith));
      switches = c.switches;
      tunnels = c.tunnels;
      room = r.rooms.room;
      via = λ t h. let p = set-in (table_sizes l).switches (at l (rule_at (table_sizes l) t)) (r.rules.via t h) in (λ z. omega (arith, z, p.0), p.1);
      kind = λ t h. (r.rules.least t h, r.rules.most t h);
    }

-- a list that is judged good is what is got, and is good
pub good-rules : (l g : List ℕ) → judge_list Rules l ≡ good g → (g ≡ l) × GoodRules l
good-rules l g e =
    let j = judged-good Rules l g e in
    (j.same, ranges l j.whole)

-- what the result of a judge tells of a list
pub counted-rules : (l : List ℕ) (n : ℕ) → counted (judge_list Rules l) ≡ Ok n → (judge_list Rules l ≡ good l) × GoodRules l
counted-rules l n e =
    let p = counted-good (judge_list Rules l) n e in
    let j = good-rules l p.0 p.1 in
    (p.1 ∙ ap good j.0, j.1)
