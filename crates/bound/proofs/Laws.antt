-- What the step bound's definition says, case by case.
use Prim.Native.Nat.{ℕ, suc, zero, ◌+◌, ◌-◌, ◌≤◌, max}
use mathlib.Core.Path.{◌≡◌, refl}
use mathlib.Core.Logic.{◌≢◌}
use mathlib.Core.Bool.{Bool, true, false, ◌||◌}
use native.Mathlib.Omega.{arith}
use borrow.Author.Tests.{leb-true, ne_eqb}
use lib.Dec.{leb, eqb}
use Rattle.model.specs.Outcome.{good, refused}
use Rattle.model.specs.declared.Cause.TheVariants.{OutOfRange as out_of_range}
use Rattle.model.specs.Even.{ceil_div, step_bound}
use Rattle.model.proofs.Searches.{and-true}
use Rattle.model.proofs.Bounded.{ceil-least}
use Rattle.bound.specs.Bound.{is_share, bound_of}

pub share : (x : ℕ) → is_share x ≡ true → (20 ≤ x) × (x ≤ 500)
share x e = let s = and-true (leb 20 x) (leb x 500) e in (leb-true 20 x s.0, leb-true x 500 s.1)

or-true : (a b : Bool) → b ≡ true → (a || b) ≡ true
or-true true b e = refl
or-true false b e = e

pub one_more : (x : ℕ) → is_share x ≡ true → ceil_div 1000 x - 1 + 1 ≡ ceil_div 1000 x
one_more x e = let s = share x e in omega (arith, ceil-least x (omega arith) s.1)

pub scratch-out : (s o : ℕ) → is_share s ≡ false → bound_of s o ≡ refused out_of_range 2 0
unfolding bound_of
scratch-out s o e = simp e

pub no-overrun : (s o : ℕ) → is_share s ≡ true → o ≡ 0 → bound_of s o ≡ good (ceil_div 1000 s - 1)
unfolding bound_of step_bound
no-overrun s o e z = rw z (simp e)

pub overrun-out : (s o : ℕ) → is_share s ≡ true → o ≢ 0 → is_share o ≡ false → bound_of s o ≡ refused out_of_range 3 0
unfolding bound_of
overrun-out s o e z f = simp (e, ne_eqb o 0 z, f)

pub with-overrun : (s o : ℕ) → is_share s ≡ true → is_share o ≡ true → bound_of s o ≡ good (max (ceil_div 1000 s - 1) (ceil_div 1000 o))
unfolding bound_of step_bound
with-overrun s zero e f = absurd (omega (arith, share 0 f))
with-overrun s (suc o) e f = simp (e, or-true (eqb (suc o) 0) (is_share (suc o)) f)
