-- The search for the level: what its loop knows of the demands met so far, added up, and of how many are left to share what is free.
use Prim.Native.Nat.{ℕ, ◌+◌, ◌-◌, ◌*◌, ◌/◌, ◌≤◌, ◌<◌}
use mathlib.Core.Path.{◌≡◌}
use mathlib.Core.Logic.{◌≢◌}
use mathlib.Core.List.{List}
use native.Mathlib.Nat.{div-mul-le_self, lt-div-mul-add, le-div_iff_mul-le}
use native.Mathlib.Omega.{arith}
use lib.ListN.{length}
use Rattle.sharing.specs.Share.{total, up_to, level, above}
use Rattle.sharing.specs.Inner.{met_by}
use Rattle.sharing.proofs.Levels.{up-to-most, up-to-exact, up-to-count, up-to-all, met-mono, above-mono, above-count, level-found, demand-most}

-- No level takes more than `met` and the level for each of c; and from the next level to be tried on, that much is met, and no more than c are above.
pub record Filling (rate : ℕ) (demands : List ℕ) (met c : ℕ) : Type 0 where
  pub some : 0 < c
  pub room : met ≤ rate
  pub most : (u : ℕ) → up_to demands u ≤ met + u * c
  pub more : (u : ℕ) → (rate - met) / c ≤ u → met ≤ met_by demands u (length demands)
  pub fewer : (u : ℕ) → (rate - met) / c ≤ u → above demands u (length demands) ≤ c

pub filling-none : (rate : ℕ) (demands : List ℕ) → 1 ≤ length demands → Filling rate demands 0 (length demands)
filling-none rate demands h = record {
  some = h;
  room = omega arith;
  most = λ u. omega (arith, up-to-count demands u);
  more = λ u k. omega arith;
  fewer = λ u k. above-count demands u;
}

module _ (rate : ℕ) (demands : List ℕ) (met c : ℕ) (f : Filling rate demands met c) where
  abbrev n : ℕ
  n = length demands

  -- the next level to be tried
  abbrev t : ℕ
  t = (rate - met) / c

  low : t * c ≤ rate - met
  low = div-mul-le_self (rate - met) c

  reached : up_to demands t ≤ rate
  reached = omega (arith, f.most t, f.room, low)

  -- as many above it as before: it is the level, and nothing more is met at it
  pub filling-found : rate < total demands → above demands t n ≡ c → (t ≡ level rate demands) × (up_to demands t ≡ met + c * t)
  filling-found h e =
      let high : rate - met < t * c + c = lt-div-mul-add {a = rate - met} f.some in
      let m : met ≤ met_by demands t n = f.more t (omega arith) in
      let now : up_to demands t ≡ met_by demands t n + t * above demands t n = up-to-exact demands t t (omega arith) (omega arith) in
      let next : up_to demands (t + 1) ≡ met_by demands t n + (t + 1) * above demands t n = up-to-exact demands t (t + 1) (omega arith) (omega arith) in
      let now' : up_to demands t ≡ met_by demands t n + t * c = rw e at now in
      let next' : up_to demands (t + 1) ≡ met_by demands t n + (t + 1) * c = rw e at next in
      (level-found rate demands t h reached (omega (arith, high, m, next')), omega (arith, now', m, f.most t))

  -- fewer: what it meets goes out, and the others share what is free then
  pub filling-next : rate < total demands → above demands t n ≢ c → Filling rate demands (met_by demands t n) (above demands t n) × (above demands t n < c)
  filling-next h e =
      let now : up_to demands t ≡ met_by demands t n + t * above demands t n = up-to-exact demands t t (omega arith) (omega arith) in
      let all : total demands ≡ up_to demands (total demands) = up-to-all demands (total demands) (demand-most demands) in
      let left : ¬ (above demands t n ≡ 0) =
      λ z.
      let none : total demands * above demands t n ≡ 0 = rw z (omega arith) in
      omega (arith, h, all, up-to-most demands t (total demands), none, now, reached) in
      let some : 0 < above demands t n = omega (arith, left) in
      let up : t ≤ (rate - met_by demands t n) / above demands t n = (le-div_iff_mul-le some).1 (omega (arith, now, reached)) in (
        record {
          some = some;
          room = omega (arith, now, reached);
          most = up-to-most demands t;
          more = λ u k. met-mono demands t u (omega (arith, up, k));
          fewer = λ u k. above-mono demands t u (omega (arith, up, k));
        },
        omega (arith, f.fewer t (omega arith), e),
      )
