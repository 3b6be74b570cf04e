-- Laws of blocks: lines of fields, put one after the other.
use Prim.Native.Nat.{ℕ, zero, suc, ◌+◌, ◌*◌, ◌≤◌, ◌<◌}
use mathlib.Core.Path.{◌≡◌, refl, ap}
use mathlib.Core.List.{List, flat_map, ◌++◌}
use native.Mathlib.Numerals.{add-one}
use native.Mathlib.Omega.{arith}
use lib.ListN.{length, length-append}
use Rattle.model.specs.Listed.{listed}
use Rattle.model.proofs.Listed.{flat_map-listed}
use Rattle.lines.specs.Puts.{Puts}
use Rattle.lines.proofs.Writing.{puts_none}
use Rattle.fields.specs.Columns.{line, line_size}
use Rattle.fields.proofs.Fields.{Put, put_next}
use Rattle.page.specs.Inner.{block}

module _ (f : ℕ → List (List ℕ)) where
  block_more : (k : ℕ) → block (k + 1) f ≡ block k f ++ line (f k)
  unfolding block
  block_more k = flat_map-listed line k f

  pub block-length : (n : ℕ) → ((k : ℕ) → k < n → length (line (f k)) ≡ line_size) → length (block n f) ≡ line_size * n
  unfolding block listed flat_map
  block-length zero h = refl
  block-length (suc n) h =
      omega (arith, ap length (rw add-one at (block_more n)), length-append (block n f) (line (f n)), block-length n (λ k g. h k (omega arith)), h n (omega arith))

  pub block_none : (at : ℕ) (out : List ℕ) → Put (block 0 f) (line_size * 0) at out out at
  unfolding block listed flat_map
  block_none at out = record { puts = puts_none at out; size = refl; same = refl; place = omega arith }

  -- n lines are put from a place on, of which k are
  module _ (n k : ℕ) {at : ℕ} {out₀ out : List ℕ} {p : ℕ} (fits : at + line_size * n ≤ length out₀) (less : k < n) (q : Put (block k f) (line_size * k) at out₀ out p) where
    pub block_room : p + line_size ≤ length out
    block_room = omega (arith, q.same, q.place)

    pub block-next : length (line (f k)) ≡ line_size → {out' : List ℕ} {b : ℕ} → Puts (line (f k)) p out out' b → Put (block (k + 1) f) (line_size * (k + 1)) at out₀ out' b
    block-next h r =
        let more : line_size * k + line_size ≡ line_size * (k + 1) = omega arith in
        rw (block_more k, ← more) (put_next h (omega arith) q r)
