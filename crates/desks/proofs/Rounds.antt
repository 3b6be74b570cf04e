-- Laws of the round.
use Prim.Native.Nat.{ℕ, suc, ◌+◌, ◌-◌, ◌≤◌, ◌<◌, min}
use mathlib.Core.Path.{◌≡◌, sym, ap, ap₂, ◌∙◌}
use mathlib.Core.Logic.{◌≢◌}
use mathlib.Core.Bool.{cond}
use native.Mathlib.Omega.{arith}
use borrow.Author.Tests.{lt-ltb, le-ltb, eq-eqb, ne_eqb}
use Rattle.model.specs.Sum.{sum_over}
use Rattle.model.proofs.Sums.{sum-zero, sum-next}
use Rattle.desks.specs.Round.{in_round, place_in_round, turns, other_than, jobs_before}

-- ---- desks and places in the round
pub place-below : (last d : ℕ) → place_in_round last d < 8
unfolding place_in_round
place-below last d = omega arith

pub round-place : (last d : ℕ) → d < 8 → in_round last (place_in_round last d) ≡ d
unfolding in_round place_in_round
round-place last d h = omega arith

pub place-round : (last k : ℕ) → k < 8 → place_in_round last (in_round last k) ≡ k
unfolding in_round place_in_round
place-round last k h = omega arith

pub round-below : (last k : ℕ) → in_round last k < 8
unfolding in_round
round-below last k = omega arith

-- once desk e is served it comes last, and the desks after it come that much earlier
pub place-served : (e : ℕ) → e < 8 → place_in_round e e ≡ 7
unfolding place_in_round
place-served e h = omega arith

round-again : (last j k : ℕ) → j < k → k < 8 → in_round (in_round last j) (k - suc j) ≡ in_round last k
unfolding in_round
round-again last j k h l = omega arith

pub place_after : (last e d : ℕ) → e < 8 → d < 8 → place_in_round last e < place_in_round last d
    → place_in_round last d ≡ suc (place_in_round last e + place_in_round e d)
place_after last e d h k l =
    let j : ℕ = place_in_round last e in
    let m : ℕ = place_in_round last d in
    let b = place-below last d in
    let on : place_in_round e d ≡ m - suc j =
    ap₂ place_in_round (sym (round-place last e h)) (sym (round-place last d k) ∙ sym (round-again last j m l b))
    ∙ place-round (in_round last j) (m - suc j) (omega (arith, b)) in
    omega (arith, on, l)

pub place_other : (last d e : ℕ) → d < 8 → e < 8 → d ≢ e → place_in_round last d ≢ place_in_round last e
unfolding place_in_round
place_other last d e h k o p = o (omega arith)

-- ---- the turns of another desk
pub turns-earlier : (last d p e : ℕ) → place_in_round last e < place_in_round last d → turns last d p e ≡ p + 1
unfolding turns
turns-earlier last d p e h = simp (lt-ltb _ _ h)

pub turns-later : (last d p e : ℕ) → place_in_round last d ≤ place_in_round last e → turns last d p e ≡ p
unfolding turns
turns-later last d p e h = simp (le-ltb _ _ h)

-- ---- the figure, desk by desk: what a loop that goes up proves at its start, at each turn and at its end
pub other-own : (d e x : ℕ) → e ≡ d → cond (other_than d e) x 0 ≡ 0
other-own d e x h = simp (eq-eqb e d h)

pub other-one : (d e x : ℕ) → e ≢ d → cond (other_than d e) x 0 ≡ x
other-one d e x h = simp (ne_eqb e d h)

module _ (waiting : ℕ → ℕ) (last desk p : ℕ) where
  abbrev pub below : ℕ → ℕ
  below n = p + sum_over n (other_than desk) (λ other. min (waiting other) (turns last desk p other))

  pub below_none : p ≡ below 0
  below_none = omega (arith, sum-zero (other_than desk) (λ other. min (waiting other) (turns last desk p other)))

  pub below_next : (sum n x : ℕ) → sum ≡ below n → x ≡ cond (other_than desk n) (min (waiting n) (turns last desk p n)) 0 → sum + x ≡ below (n + 1)
  below_next sum n x e f =
      omega (arith, e, f, sum-next n (other_than desk) (λ other. min (waiting other) (turns last desk p other)))

  pub below_all : (sum n : ℕ) → n ≡ 8 → sum ≡ below n → sum ≡ jobs_before waiting last desk p
  unfolding jobs_before
  below_all sum n k e = e ∙ ap below k
