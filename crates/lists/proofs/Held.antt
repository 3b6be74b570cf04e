-- Laws of what is held of the links, and of what is left.
use Prim.Native.Nat.{ℕ, ◌+◌, ◌-◌, ◌≤◌, ◌<◌}
use mathlib.Core.Path.{◌≡◌, refl, ap}
use mathlib.Core.Logic.{⊎_elim}
use mathlib.Core.Bool.{true, false}
use mathlib.Core.List.{List}
use native.Mathlib.Omega.{arith}
use lib.ListN.{length}
use Rattle.model.specs.Limits.{most_amount}
use Rattle.lists.specs.Lists.{at, has_held, per_link, network_sizes, link_at, held_of, network_of}
use Rattle.lists.specs.Good.{LinksIn, NetworkRanges}
use Rattle.lists.proofs.Positions.{two-a-link, one-a-link, link-in}
use Rattle.model.proofs.Searches.{bool_cases}

module _ (l : List ℕ) (k : ℕ) where
  pub with-held : has_held (network_sizes l).edition ≡ true → held_of l k ≡ at l (link_at (network_sizes l) k + 1)
  unfolding held_of network_sizes
  with-held e = rw e refl

  pub without-held : has_held (network_sizes l).edition ≡ false → held_of l k ≡ 0
  unfolding held_of network_sizes
  without-held e = rw e refl

  pub held_in : NetworkRanges l → has_held (network_sizes l).edition ≡ true → k < (network_sizes l).links → link_at (network_sizes l) k + 1 < length l
  held_in r e h = link-in l r.sized.size k 1 h (omega (arith, two-a-link (network_sizes l).edition e))

  pub held-most : NetworkRanges l → k < (network_sizes l).links → held_of l k ≤ at l (link_at (network_sizes l) k)
  held-most r h = r.links.held k h

  -- in the last number of a link: where nothing is held, that is its capacity
  module _ (last : ℕ) (e : last ≡ per_link (network_sizes l).edition - 1) where
    pub last-held : held_of l k ≤ at l (link_at (network_sizes l) k) → at l (link_at (network_sizes l) k + last) ≤ at l (link_at (network_sizes l) k)
    last-held h = ⊎_elim with without (bool_cases (has_held (network_sizes l).edition))
      where
        with : has_held (network_sizes l).edition ≡ true → at l (link_at (network_sizes l) k + last) ≤ at l (link_at (network_sizes l) k)
        with y = let one : last ≡ 1 = omega (arith, e, two-a-link (network_sizes l).edition y) in rw one (omega (arith, with-held y))

        without : has_held (network_sizes l).edition ≡ false → at l (link_at (network_sizes l) k + last) ≤ at l (link_at (network_sizes l) k)
        without n = let same : link_at (network_sizes l) k + last ≡ link_at (network_sizes l) k = omega (arith, e, one-a-link (network_sizes l).edition n) in omega (arith, ap (at l) same)

    pub held-last : at l (link_at (network_sizes l) k + last) ≤ at l (link_at (network_sizes l) k) → held_of l k ≤ at l (link_at (network_sizes l) k)
    held-last h = ⊎_elim with without (bool_cases (has_held (network_sizes l).edition))
      where
        with : has_held (network_sizes l).edition ≡ true → held_of l k ≤ at l (link_at (network_sizes l) k)
        with y = let one : last ≡ 1 = omega (arith, e, two-a-link (network_sizes l).edition y) in omega (arith, with-held y, rw one at h)

        without : has_held (network_sizes l).edition ≡ false → held_of l k ≤ at l (link_at (network_sizes l) k)
        without n = omega (arith, without-held n)

  pub cap-most : (n : ℕ) → LinksIn l n → k < n → (network_of l).cap k ≤ most_amount
  unfolding network_of
  cap-most n r h = omega (arith, r.cap k h)
