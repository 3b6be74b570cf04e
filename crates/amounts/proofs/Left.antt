-- What is left of a link, where its capacity is read and what is held of it taken off: l is the list that is read, s the one that a clause sees.
use Prim.Native.Nat.{ℕ, ◌-◌, ◌<◌, ◌≤◌}
use mathlib.Core.Path.{◌≡◌, sym, ap, ◌∙◌, subst⁻¹}
use mathlib.Core.List.{List}
use native.Mathlib.Omega.{arith}
use Rattle.model.specs.Limits.{most_amount}
use Rattle.lists.specs.declared.Network.{Network}
use Rattle.lists.specs.Lists.{at, network_sizes, link_at, held_of, network_of}
use Rattle.lists.specs.Good.{Limited, NetworkRanges, GoodNetwork}
use Rattle.lists.proofs.Held.{held-most}
use Rattle.lists.proofs.Numbers.{link-stands, cap-is}
use Rattle.lists.proofs.Positions.{LinkPlace, limited}

module _ (l s : List ℕ) (same : l ≡ s) (good : GoodNetwork s) (n : Network) (e : n ≡ network_sizes s) (k : ℕ) (there : k < (network_sizes s).links) where
  own : n ≡ network_sizes l
  own = e ∙ sym (ap network_sizes same)

  ranges : NetworkRanges l
  ranges = (subst⁻¹ GoodNetwork same good).ranges

  within : k < n.links
  within = subst⁻¹ (λ (m : Network). k < m.links) e there

  -- its place and what is held can be asked for
  pub place-asked : Limited n × (k ≤ n.links)
  place-asked = (limited s good.ranges.sized n e, omega (arith, within))

  pub held-asked : (n ≡ network_sizes l) × NetworkRanges l × (k < n.links)
  held-asked = (own, ranges, within)

  module _ (i : ℕ) (q : i ≡ link_at n k) where
    pub stands : LinkPlace l k i
    stands = link-stands l s same (subst⁻¹ GoodNetwork same good) n own k i there q

    pub cap-low : at l i ≤ most_amount
    cap-low = rw stands.here (ranges.links.cap k stands.there)

    module _ (held : ℕ) (h : held ≡ held_of l k) where
      pub held-low : held ≤ at l i
      held-low = omega (arith, h, held-most l k ranges stands.there, ap (at l) stands.here)

      pub left-is : at l i - held ≡ (network_of s).cap k
      left-is = cap-is l s same k i held h stands
