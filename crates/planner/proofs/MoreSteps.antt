-- More even steps never do worse on a link: a bound that the even plan of q steps keeps, that of q + 1 steps keeps.
use Prim.Native.Nat.{ℕ, suc, ◌+◌, ◌-◌, ◌*◌, ◌≤◌, ◌<◌, min, max}
use mathlib.Core.Path.{◌≡◌}
use native.Mathlib.Omega.{arith}
use native.Mathlib.Decide.{dec_le}
use native.Mathlib.Nat.{max-le, mul-le-mul_left, le_of_mul-le-mul_left}
use Rattle.model.specs.Net.{Net}
use Rattle.model.specs.Scan.{Bound}
use Rattle.model.specs.ThreeSums.{old_load, new_load, peak_load, end_load}
use Rattle.model.proofs.Movers.{load-mono}
use Rattle.model.proofs.Choices.{factor, room}

-- the larger of the old and the new load is at most the load of the larger amounts
larger-peak : (N : Net) (b : Bound) (l : ℕ) → max (old_load N b l) (new_load N b l) ≤ peak_load N b l
unfolding old_load new_load peak_load
larger-peak N b l = max-le (load-mono N b (λ m. omega arith)) (load-mono N b (λ m. omega arith))

-- in a plan of q = d + w steps that keeps R a step, x is at most R, and one step more adds one x
beyond : (f d w x y R : ℕ) → 0 < d + w → x ≤ y → f * (d * x + w * y) ≤ (d + w) * R → f * (suc d * x + w * y) ≤ suc (d + w) * R
beyond f d w x y R pos h k =
    let less : d * x + w * x ≤ d * x + w * y = omega (arith, mul-le-mul_left w h) in
    let all : (d + w) * (f * x) ≤ (d + w) * R = omega (arith, mul-le-mul_left f less) in
    omega (arith, le_of_mul-le-mul_left all pos)

-- one of fewer steps than the lag has one window of all rows, in which each counts y
within : (f q x y R : ℕ) → 0 < q → f * (0 * x + q * y) ≤ q * R → f * (0 * x + suc q * y) ≤ suc q * R
within f q x y R pos k =
    let all : q * (f * y) ≤ q * R = omega arith in
    omega (arith, mul-le-mul_left (suc q) (le_of_mul-le-mul_left all pos))

pub more-steps : (w : ℕ) (N : Net) (b : Bound) (q l : ℕ) → 0 < q → factor b * end_load w N b q l ≤ q * room N b l → factor b * end_load w N b (suc q) l ≤ suc q * room N b l
unfolding end_load
more-steps w N b q l pos =
    let x : ℕ = max (old_load N b l) (new_load N b l) in
    let y : ℕ = peak_load N b l in
    elim (dec_le w q) [
      | yes h ↦
          let now : min w q ≡ w = omega arith in
          let then : min w (suc q) ≡ w = omega arith in
          let one : suc q - w ≡ suc (q - w) = omega arith in
          let sum : q - w + w ≡ q = omega arith in
          rw (now, then, one) (rw sum at (beyond (factor b) (q - w) w x y (room N b l) (omega arith) (larger-peak N b l)))
      | no h ↦
          let now : min w q ≡ q = omega arith in
          let then : min w (suc q) ≡ suc q = omega arith in
          let none : q - q ≡ 0 = omega arith in
          let none_then : suc q - suc q ≡ 0 = omega arith in
          rw (now, then, none, none_then) (within (factor b) q x y (room N b l) pos)
    ]
