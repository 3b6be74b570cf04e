-- Laws of the sums that are gathered tunnel by tunnel, and of the search for the first that misses its rate.
use mathlib.Core.Path.{◌≡◌, refl, sym, ap, ap₂, ◌∙◌}
use mathlib.Core.List.{List}
use mathlib.Core.Option.{Option, none, some, or_else}
use Prim.Native.Nat.{ℕ, zero, suc, ◌+◌, ◌*◌, ◌%◌, ◌^◌, ◌≤◌, ◌<◌}
use native.Mathlib.Decide.{ℕ_discrete}
use native.Mathlib.Nat.{mul-le-mul_right}
use native.Mathlib.Omega.{arith}
use lib.Dec.{eqb}
use lib.ListN.{length, get_or, set, replicate, length-set}
use lib.Seq.{get_or-set_same, get_or-set_other}
use borrow.Author.Tests.{eq-eqb, ne_eqb}
use Rattle.model.specs.Limits.{most_flows, most_tunnels, most_amount}
use Rattle.model.specs.Sum.{sum_over}
use Rattle.model.specs.Search.{only_if}
use Rattle.model.specs.Net.{Net}
use Rattle.model.specs.Outcome.{Place, unless, good}
use Rattle.model.specs.declared.Cause.TheVariants as causes
use Rattle.model.specs.Rule.{flow_sum, missed_by, missed_rate}
use Rattle.model.proofs.Sums.{sum-zero, sum-take, sum-skip, sum-line, sum_bound}
use Rattle.lists.specs.Lists.{network_of}
use Rattle.lists.specs.Refusals.{judged}
use Rattle.model.specs.declared.Cause.TheVariants.{MissedRate}
use Rattle.std.specs.declared.result.Result.TheVariants.{Ok, Err}
use Rattle.std.specs.declared.option.Option.TheVariants.{Some, None}
use Rattle.forms.specs.Read.{add_up}
use Rattle.judges.specs.Sums.{Gathered, pair_of, missed_of}
use Rattle.judges.specs.declared.sums.MissedSum.{MissedSum}
use Rattle.forms.specs.declared.form.Form.TheVariants.{Network}

zeros : (n f : ℕ) → ◌≡◌ {A = ℕ} (get_or (replicate n 0) f 0) 0
zeros zero f = refl
zeros (suc n) zero = refl
zeros (suc n) (suc f) = zeros n f

module _ (N : Net) (x : ℕ → ℕ) where
  pub gathered_none : (s : List ℕ) → s ≡ replicate most_flows 0 → Gathered N x 0 s
  gathered_none s e =
      record {
        size = rw e;
        sums = λ f h. rw (e, sum-zero) (zeros most_flows f);
      }

  -- the amount of tunnel n is added to the sum of its flow
  pub gathered-more : (n : ℕ) (s : List ℕ) → N.flow n < most_flows → Gathered N x n s → Gathered N x (n + 1) (set s (N.flow n) (get_or s (N.flow n) 0 + x n))
  gathered-more n s h g = record { size = simp length-set g.size; sums = λ f k. go f k (ℕ_discrete (N.flow n) f) }
    where
      within : N.flow n < length s
      within = omega (arith, g.size)

      go : (f : ℕ) → f < most_flows → Dec (N.flow n ≡ f) → get_or (set s (N.flow n) (get_or s (N.flow n) 0 + x n)) f 0 ≡ sum_over (n + 1) (λ t. eqb (N.flow t) f) x
      go f k (yes e) =
          rw (← e, get_or-set_same s (N.flow n) (get_or s (N.flow n) 0 + x n) 0 within, sum-take n (λ t. eqb (N.flow t) (N.flow n)) x (eq-eqb (N.flow n) (N.flow n) refl))
          (ap (λ (y : ℕ). y + x n) (g.sums (N.flow n) h))
      go f k (no e) =
          rw (get_or-set_other s (N.flow n) f (get_or s (N.flow n) 0 + x n) 0 (λ q. e (sym q)), sum-skip n (λ t. eqb (N.flow t) f) x (ne_eqb (N.flow n) f e)) (g.sums f k)

  -- a sum fits where the largest amount does, once for every tunnel
  pub gathered-fits : (most n : ℕ) (s : List ℕ) (f : ℕ) → most_tunnels * most < 2 ^ 64 → Gathered N x n s → f < most_flows → n < most_tunnels
      → ((t : ℕ) → t < n + 1 → x t ≤ most) → get_or s f 0 + x n < 2 ^ 64
  gathered-fits most n s f room g h k b =
      let up : n + 1 ≤ most_tunnels = omega arith in
      omega (arith, room, g.sums f h, sum_bound n (λ t. eqb (N.flow t) f) x most (λ t j. b t (omega arith)), b n (omega arith), mul-le-mul_right most up)

  pub gathered-all : (s : List ℕ) (f : ℕ) → Gathered N x N.tunnels s → f < most_flows → get_or s f 0 ≡ flow_sum N x f
  unfolding flow_sum
  gathered-all s f g h = g.sums f h

-- ---- the first sum that misses its rate or its next

module _ (N : Net) (f : ℕ) where
  pub miss-old : (flow_sum N N.old f ≡ N.rate f → ⊥) → missed_by N f ≡ some (record { place = f; second = 0 })
  unfolding missed_by only_if or_else
  miss-old e = rw (ne_eqb (flow_sum N N.old f) (N.rate f) e)

  pub miss-new : flow_sum N N.old f ≡ N.rate f → (flow_sum N N.new f ≡ N.next f → ⊥) → missed_by N f ≡ some (record { place = f; second = 1 })
  unfolding missed_by only_if or_else
  miss-new e k = rw (eq-eqb (flow_sum N N.old f) (N.rate f) e, ne_eqb (flow_sum N N.new f) (N.next f) k)

  pub miss-none : flow_sum N N.old f ≡ N.rate f → flow_sum N N.new f ≡ N.next f → missed_by N f ≡ none
  unfolding missed_by only_if or_else
  miss-none e k = rw (eq-eqb (flow_sum N N.old f) (N.rate f) e, eq-eqb (flow_sum N N.new f) (N.next f) k)

-- ---- both sums of a flow in one number

-- either sum lies below 2 ^ 32
pub sum-small : (N : Net) (x : ℕ → ℕ) (f : ℕ) → N.tunnels ≤ most_tunnels → ((t : ℕ) → t < N.tunnels → x t ≤ most_amount) → flow_sum N x f < 2 ^ 32
unfolding flow_sum
sum-small N x f h b = omega (arith, sum_bound N.tunnels (λ t. eqb (N.flow t) f) x most_amount b)

-- a flow's sum of pairs is the pair of its sums
pub pair-sum : (N : Net) (f : ℕ) → flow_sum N (pair_of N) f ≡ flow_sum N N.old f + flow_sum N N.new f * 2 ^ 32
unfolding flow_sum pair_of
pair-sum N f = omega (arith, sum-line N.tunnels (λ t. eqb (N.flow t) f) 1 (2 ^ 32) (pair_of N) N.old N.new (λ t h. omega arith))

-- the low part of a pair
pair-low : (a b : ℕ) → a < 2 ^ 32 → (a + b * 2 ^ 32) % 2 ^ 32 ≡ a
pair-low a b h = omega arith

-- pairs are equal where both parts are, and only there
pair_same : (a b r n : ℕ) → a < 2 ^ 32 → r < 2 ^ 32 → a + b * 2 ^ 32 ≡ r + n * 2 ^ 32 → (a ≡ r) × (b ≡ n)
pair_same a b r n h k e = (omega arith, omega arith)

-- s is the pair of a flow's sums, as the code finds it, beside the flow's rate r and its next n
module _ (N : Net) (f s r n : ℕ) (e : s ≡ flow_sum N N.old f + flow_sum N N.new f * 2 ^ 32) (low : flow_sum N N.old f < 2 ^ 32) (er : r ≡ N.rate f) (en : n ≡ N.next f) where
  pub pair-met : r < 2 ^ 32 → s ≡ r + n * 2 ^ 32 → missed_by N f ≡ none
  pair-met h k = let both = pair_same _ _ _ _ low h (sym e ∙ k) in miss-none N f (both.0 ∙ er) (both.1 ∙ en)

  -- where the pair is missed, its low part tells which of the two sums is
  pub pair-missed : (second : ℕ) → (s ≡ r + n * 2 ^ 32 → ⊥) → ((s % 2 ^ 32 ≡ r → ⊥) → second ≡ 0) × (s % 2 ^ 32 ≡ r → second ≡ 1)
      → missed_by N f ≡ some (record { place = f; second = second })
  pair-missed second k told = go (ℕ_discrete (flow_sum N N.old f) r)
    where
      part : s % 2 ^ 32 ≡ flow_sum N N.old f
      part = ap (λ (m : ℕ). m % 2 ^ 32) e ∙ pair-low _ _ low

      go : Dec (flow_sum N N.old f ≡ r) → missed_by N f ≡ some (record { place = f; second = second })
      go (yes q) = rw (told.1 (part ∙ q)) (miss-new N f (q ∙ er) (λ j. k (e ∙ ap₂ (λ (a b : ℕ). a + b * 2 ^ 32) q (j ∙ sym en))))
      go (no q) = rw (told.0 (λ j. q (sym part ∙ j))) (miss-old N f (λ j. q (j ∙ sym er)))

-- ---- the place as the code has it

pub missed-some : (o : Option Place) (m : MissedSum) → missed_of o ≡ Some m → o ≡ some (record { place = m.flow; second = m.second })
missed-some none m e = let z : ◌≡◌ {A = ℕ} 0 1 = cc in absurd (omega arith)
missed-some (some p) m e =
    let r : record { flow = p.place; second = p.second } ≡ m = cc in
    ap (λ (k : MissedSum). some (record { place = k.flow; second = k.second })) r

pub miss_none : (o : Option Place) → missed_of o ≡ None → o ≡ none
miss_none none e = refl
miss_none (some p) e = let z : ◌≡◌ {A = ℕ} 0 1 = cc in absurd (omega arith)

module _ (l : List ℕ) where
  pub missed-at : (p : Place) → missed_rate (network_of l) ≡ some p → judged (add_up Network l) ≡ Err (record { cause = MissedRate; place = p.place; second = p.second })
  unfolding add_up
  missed-at p e = ap (λ (o : Option Place). judged (unless causes.MissedRate o (good l))) e

  pub missed-none : missed_rate (network_of l) ≡ none → judged (add_up Network l) ≡ Ok l
  unfolding add_up
  missed-none e = ap (λ (o : Option Place). judged (unless causes.MissedRate o (good l))) e
