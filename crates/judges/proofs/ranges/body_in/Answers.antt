-- `judges::ranges::body_in` meets its contract.
use Prim.Native.Nat.{ℕ}
use mathlib.Core.Path.{◌≡◌, sym, ap, subst, subst⁻¹, ◌∙◌}
use mathlib.Core.Bool.{true, false, true≢false}
use mathlib.Core.List.{List}
use native.Mathlib.Omega.{arith}
use lib.ListN.{length}
use borrow.Author.Tests.{ne_eqb}
use Rattle.lists.specs.Lists.{network_sizes, network_size}
use Rattle.lists.specs.Good.{Limited, Sized, LinksIn, FlowsIn, TunnelsIn}
use Rattle.lists.specs.declared.Network as counts
use Rattle.forms.specs.Form.{Whole}
use Rattle.forms.specs.declared.form.Form.TheVariants.{Network}
use Rattle.forms.proofs.Forms.{head-there, limited}
use Rattle.forms.proofs.Good.{network-size}
use Rattle.judges.specs.Ranges.{NetworkHead}
use Rattle.judges.proofs.InRange.{in-range-whole, decides-no, decides-same, whole_in_range}
use Rattle.judges.proofs.ranges.body_in.Goals as goal
use Rattle.judges.proofs.ranges.body_in.Goals.{Joined-list-tunnel_at, Joined-links_in, then-list-tunnel_at, else-list-tunnel_at, then-links_in, else-links_in}

-- where r is how many numbers the sizes n say, a list that is as long is sized, and one that is not is not whole
module _ (l : List ℕ) (n : counts.Network) (r : ℕ) (same : n ≡ network_sizes l) (e : r ≡ network_size n) where
  sized : NetworkHead l → length l ≡ r → Sized l
  sized h f = record { counts = (limited _ h.head.each).1; size = omega (arith, f, e, ap (λ (m : counts.Network). network_size m) same) }

  other-size : (length l ≡ r → ⊥) → Whole Network l → ⊥
  other-size f w = f (omega (arith, e, ap (λ (m : counts.Network). network_size m) same, network-size l w))

-- what the first two tests say together, and then the first three
module _ (c : Joined-list-tunnel_at) where
  abbrev l : List ℕ
  l = c.args.list.now

  two : c.if-list-tunnel_at.value ≡ true → Sized l × LinksIn l c.of-sizes.result.links
  two e = elim c.if-list-tunnel_at.branch [
    | then-list-tunnel_at v ↦ (sized l _ _ c.of-sizes.ensures c.tunnel_at.ensures c.requires v.if-list-tunnel_at.true, v.links_in.ensures.yes (sym v.value-is ∙ e))
    | else-list-tunnel_at v ↦ absurd (true≢false (sym e ∙ v.value-is ∙ ne_eqb _ _ v.if-list-tunnel_at.false))
  ]

  two-no : c.if-list-tunnel_at.value ≡ false → Whole Network l → ⊥
  two-no e w = elim c.if-list-tunnel_at.branch [
    | then-list-tunnel_at v ↦
        v.links_in.ensures.no (sym v.value-is ∙ e) (subst⁻¹ (λ (n : counts.Network). LinksIn l n.links) c.of-sizes.ensures (whole_in_range _ w).links)
    | else-list-tunnel_at v ↦ other-size l _ _ c.of-sizes.ensures c.tunnel_at.ensures v.if-list-tunnel_at.false w
  ]

module _ (c : Joined-links_in) where
  abbrev list : List ℕ
  list = c.args.list.now

  three : (c.if-list-tunnel_at.value ≡ true → Sized list × LinksIn list c.of-sizes.result.links) → c.if-links_in.value ≡ true
      → Sized list × LinksIn list c.of-sizes.result.links × FlowsIn list c.of-sizes.result.flows
  three f e = elim c.if-links_in.branch [
    | then-links_in v ↦ let p = f v.if-links_in.true in (p.0, p.1, v.flows_in.ensures.yes (sym v.value-is ∙ e))
    | else-links_in v ↦ absurd (true≢false (sym e ∙ v.value-is ∙ v.if-links_in.false))
  ]

  three-no : (c.if-list-tunnel_at.value ≡ false → Whole Network list → ⊥) → c.if-links_in.value ≡ false → Whole Network list → ⊥
  three-no f e w = elim c.if-links_in.branch [
    | then-links_in v ↦
        v.flows_in.ensures.no (sym v.value-is ∙ e) (subst⁻¹ (λ (n : counts.Network). FlowsIn list n.flows) c.of-sizes.ensures (whole_in_range _ w).flows)
    | else-links_in v ↦ f v.if-links_in.false w
  ]

pub of-sizes-requires : goal.of-sizes-requires
of-sizes-requires c = omega (arith, head-there c.args.list.now, c.requires.long)

pub tunnel_at-requires : goal.tunnel_at-requires
tunnel_at-requires c = (subst⁻¹ Limited c.of-sizes.ensures (limited _ c.requires.head.each).1, omega arith)

pub links_in-requires : goal.links_in-requires
links_in-requires c = (sized _ _ _ c.of-sizes.ensures c.tunnel_at.ensures c.requires c.if-list-tunnel_at.true, c.of-sizes.ensures)

pub flows_in-requires : goal.flows_in-requires
flows_in-requires c = ((two ((goal.at.flows_in-requires c).Joined-list-tunnel_at) c.if-links_in.true).0, c.of-sizes.ensures)

pub tunnels_in-requires : goal.tunnels_in-requires
tunnels_in-requires c = let p = goal.at.tunnels_in-requires c in ((three p.Joined-links_in (two p.Joined-list-tunnel_at) c.if-flows_in.true).0, c.of-sizes.ensures)

pub returns-then-flows_in : goal.returns-then-flows_in
returns-then-flows_in c =
    let p = goal.at.returns-then-flows_in c in
    let h = three p.Joined-links_in (two p.Joined-list-tunnel_at) c.if-flows_in.true in
    decides-same _
    (λ t. in-range-whole c.args.list.now (record {
      head = c.requires.head;
      size = h.0.size;
      links = subst (λ (n : counts.Network). LinksIn c.args.list.now n.links) c.of-sizes.ensures h.1;
      flows = subst (λ (n : counts.Network). FlowsIn c.args.list.now n.flows) c.of-sizes.ensures h.2;
      tunnels = subst (λ (n : counts.Network). TunnelsIn c.args.list.now n.tunnels) c.of-sizes.ensures t;
    }))
    (λ w. subst⁻¹ (λ (n : counts.Network). TunnelsIn c.args.list.now n.tunnels) c.of-sizes.ensures (whole_in_range _ w).tunnels) c.tunnels_in.ensures

pub returns-else-flows_in : goal.returns-else-flows_in
returns-else-flows_in c =
    let p = goal.at.returns-else-flows_in c in
    rw c.if-flows_in.false (decides-no (three-no p.Joined-links_in (two-no p.Joined-list-tunnel_at) c.if-flows_in.false))
