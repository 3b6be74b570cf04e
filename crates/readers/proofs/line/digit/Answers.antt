-- `readers::line::digit` meets its contract.
use Rattle.std.proofs.Common.{◌⊎◌, inl, inr, ◌%◌, ◌≤◌, ◌≡◌, ℕ, ◌+◌, ◌<◌, List, [], ◌∷◌, ◌++◌, get_or, ap, sym, ◌∙◌, arith, replicate}
use native.Mathlib.Decide.{dec_lt}
use Rattle.forms.specs.Line.{digit_of}
use Rattle.model.proofs.Table.{value}
use Rattle.readers.proofs.Digits.{digit-outside}
use Rattle.readers.proofs.line.digit.Goals as goal

-- the table's rule is a test at each of its entries, which antt computes
abbrev table : List ℕ
table = 0 ∷ 1 ∷ 2 ∷ 3 ∷ 4 ∷ 5 ∷ 6 ∷ 7 ∷ 8 ∷ 9 ∷ (replicate 39 16 ++ (10 ∷ 11 ∷ 12 ∷ 13 ∷ 14 ∷ 15 ∷ []))

entry : (k : ℕ) → k < 55 → get_or table k 0 ≡ digit_of (k + 48)
unfolding digit_of
entry k h = value (λ i. digit_of (i + 48)) table tt k h

-- how far a byte is above `0`
outside : (b : ℕ) → b < 256 → 55 ≤ (b + 208) % 256 → (b < 48) ⊎ (102 < b)
outside b fits h = go (dec_lt b 48)
  where
    go : Dec (b < 48) → (b < 48) ⊎ (102 < b)
    go (yes k) = inl k
    go (no k) = inr (omega arith)

pub returns-then-x-lt55 : goal.returns-then-x-lt55
returns-then-x-lt55 c =
    let e : (c.args.b + 208) % 256 + 48 ≡ c.args.b = omega arith in
    entry ((c.args.b + 208) % 256) c.if-x-lt55.true ∙ ap digit_of e

pub returns-else-x-lt55 : goal.returns-else-x-lt55
returns-else-x-lt55 c = sym (digit-outside _ (outside c.args.b (omega arith) c.if-x-lt55.false))
