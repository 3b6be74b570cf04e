-- The figures computed from a link's sums fit 64 bits.
use Prim.Native.Nat.{ℕ, ◌+◌, ◌-◌, ◌*◌, ◌≤◌, max}
use mathlib.Core.Path.{◌≡◌, refl}
use native.Mathlib.Omega.{arith}
use native.Mathlib.Nat.{mul-le-mul}
use Rattle.model.specs.Limits.{most_steps, most_amount}
use Rattle.link_sums.specs.declared.table.LinkSums.{LinkSums}
use Rattle.link_sums.specs.Tables.{Part, most_sums, Few}
use Rattle.planner.specs.Sums.{step_sum, end_sum}

-- "96 tunnels and 50 steps; amounts up to 10,000,000": a load of a plan of even steps, in parts, has at most three such products, and 1000 times it fits 64 bits
abbrev pub most_product : ℕ
most_product = most_steps * (most_sums * most_amount)

product-room : (k x : ℕ) → k ≤ most_steps → x ≤ most_sums * most_amount → k * x ≤ most_product
product-room k x hk hx = mul-le-mul hk hx

module _ (s : LinkSums) (r : Few s) where
  pub old-part : (m i : ℕ) → i + m ≤ most_steps → (most_steps - (i + m)) * s.old ≤ most_product
  old-part m i k = product-room _ _ (omega arith) (r Part.old)

  pub new-part : (i : ℕ) → i ≤ most_steps → i * s.new ≤ most_product
  new-part i k = product-room _ _ k (r Part.new)

  pub peak-part : (m : ℕ) → m ≤ most_steps → m * s.peak ≤ most_product
  peak-part m k = product-room _ _ k (r Part.peak)

  pub most-part : (m q x : ℕ) → q ≤ most_steps → x ≡ max s.old s.new → (q - m) * x ≤ most_product
  most-part m q x k e = product-room _ _ (omega arith) (omega (arith, e, r Part.old, r Part.new))

  pub end-room : (m q : ℕ) → m ≤ q → q ≤ most_steps → end_sum s m q ≤ 2 * most_product
  end-room m q less k = omega (arith, most-part m q _ k refl, peak-part m (omega arith))

  pub step_room : (m i : ℕ) → i + m ≤ most_steps → step_sum s m most_steps i ≤ 3 * most_product
  step_room m i k = omega (arith, old-part m i k, new-part i (omega arith), peak-part m (omega arith))
