-- `judges::ranges::tables_in` meets its contract.
use mathlib.Core.Path.{◌≡◌, sym, ap, subst, subst⁻¹, ◌∙◌}
use Prim.Native.Nat.{ℕ}
use mathlib.Core.Bool.{true, false, true≢false}
use mathlib.Core.List.{List}
use borrow.Author.Tests.{ne_eqb}
use Rattle.forms.specs.Form.{Whole}
use Rattle.forms.specs.declared.form.Form.TheVariants.{Rules}
use native.Mathlib.Omega.{arith}
use Rattle.lists.specs.Lists.{tables_size}
use Rattle.lists.specs.declared.RuleTables.{RuleTables}
use Rattle.judges.specs.Ranges.{TablesSized, RoomsIn, RulesIn}
use Rattle.judges.proofs.InRange.{decides-no, decides-same}
use Rattle.judges.proofs.RulesInRange.{tables-sized, tables-whole, whole-tables}
use Rattle.judges.proofs.ranges.tables_in.Goals as goal
use Rattle.judges.proofs.ranges.tables_in.Goals.{Joined-list-rule_at, then-list-rule_at, else-list-rule_at}

-- where the first test and the rooms' hold, the list is as long as its sizes say and the rooms are in their range
module _ (c : Joined-list-rule_at) where
  abbrev l : List ℕ
  l = c.args.list.now

  first : c.if-list-rule_at.value ≡ true → TablesSized l × RoomsIn l c.of-sizes.result.switches
  first e = elim c.if-list-rule_at.branch [
    | then-list-rule_at v ↦ (
      tables-sized _ c.requires.1 (omega (arith, v.if-list-rule_at.true, c.rule_at.ensures, ap (λ (n : RuleTables). tables_size n) c.of-sizes.ensures)),
      v.rooms_in.ensures.yes (sym v.value-is ∙ e),
    )
    | else-list-rule_at v ↦ absurd (true≢false (sym e ∙ v.value-is ∙ ne_eqb _ _ v.if-list-rule_at.false))
  ]

  first-no : c.if-list-rule_at.value ≡ false → Whole Rules l → ⊥
  first-no e w = elim c.if-list-rule_at.branch [
    | then-list-rule_at v ↦
        v.rooms_in.ensures.no (sym v.value-is ∙ e) (subst⁻¹ (λ (n : RuleTables). RoomsIn l n.switches) c.of-sizes.ensures (whole-tables _ w).rooms)
    | else-list-rule_at v ↦ absurd (v.if-list-rule_at.false (omega (arith, c.rule_at.ensures, ap (λ (n : RuleTables). tables_size n) c.of-sizes.ensures, (whole-tables _ w).size)))
  ]

pub rules_in-requires : goal.rules_in-requires
rules_in-requires c = ((first ((goal.at.rules_in-requires c).Joined-list-rule_at) c.if-rooms_in.true).0, c.of-sizes.ensures)

pub returns-then-rooms_in : goal.returns-then-rooms_in
returns-then-rooms_in c =
    let p = first ((goal.at.returns-then-rooms_in c).Joined-list-rule_at) c.if-rooms_in.true in
    decides-same _
    (λ r. tables-whole c.args.list.now (record {
      head = c.requires.1;
      size = p.0.size;
      rooms = subst (λ (n : RuleTables). RoomsIn c.args.list.now n.switches) c.of-sizes.ensures p.1;
      rules = subst (λ (n : RuleTables). RulesIn c.args.list.now n.tunnels) c.of-sizes.ensures r;
    }))
    (λ w. subst⁻¹ (λ (n : RuleTables). RulesIn c.args.list.now n.tunnels) c.of-sizes.ensures (whole-tables _ w).rules) c.rules_in.ensures

pub returns-else-rooms_in : goal.returns-else-rooms_in
returns-else-rooms_in c = rw c.if-rooms_in.false (decides-no (first-no ((goal.at.returns-else-rooms_in c).Joined-list-rule_at) c.if-rooms_in.false))
