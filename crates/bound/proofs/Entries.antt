-- The card's rule, by one test over all of its entries, which antt computes.
use Prim.Native.Nat.{ℕ, ◌+◌, ◌-◌, ◌<◌}
use mathlib.Core.Path.{◌≡◌, ap, ◌∙◌}
use mathlib.Core.Bool.{true}
use mathlib.Core.List.{List}
use native.Mathlib.Omega.{arith}
use lib.Dec.{T}
use lib.ListN.{length, get_or}
use Rattle.model.specs.Even.{ceil_div}
use Rattle.model.proofs.Table.{values, value}
use Rattle.bound.specs.Bound.{is_share}
use Rattle.bound.specs.Card.{IsCard}
use Rattle.bound.proofs.Laws.{share}

-- the entry at place k is that of scratch k + 20
abbrev pub steps : ℕ → ℕ
steps k = ceil_div 1000 (k + 20) - 1

pub is-card : (card : List ℕ) → length card ≡ 481 → T (values steps card) → IsCard card
is-card card long t = record { entries = long; rule = rule }
  where
    rule : (scratch : ℕ) → is_share scratch ≡ true → get_or card (scratch - 20) 0 ≡ ceil_div 1000 scratch - 1
    rule scratch e =
        let k = scratch - 20 in
        let s = share scratch e in
        let inside : k < length card = omega (arith, long) in
        let back : k + 20 ≡ scratch = omega arith in
        value steps card t k inside ∙ ap (λ (x : ℕ). ceil_div 1000 x - 1) back
