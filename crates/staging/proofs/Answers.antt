-- Laws of the answer: where it starts from, what is refused, and what is answered and left.
use Prim.Native.Nat.{ℕ, zero, suc, ◌≤◌, ◌<◌}
use mathlib.Core.Path.{◌≡◌, refl, sym, ap, fun_ext, ◌∙◌}
use mathlib.Core.Logic.{⊎_elim}
use mathlib.Core.Option.{Option, none, some}
use mathlib.Core.List.{List, [], ◌∷◌, ◌++◌}
use native.Mathlib.Numerals.{add-one}
use Rattle.std.proofs.lemmas.List.{take_more}
use Rattle.lists.proofs.Rooms.{good-room}
use native.Mathlib.Omega.{arith}
use lib.ListN.{length, take, drop, replicate, length-replicate}
use Rattle.model.specs.Limits.{most_tunnels, most_switches}
use Rattle.model.specs.Listed.{listed}
use Rattle.model.specs.Outcome.{Outcome, good, Place, unless}
use Rattle.model.specs.declared.Cause.TheVariants.{Unfit as unfit, NoRoom as no_room}
use Rattle.model.proofs.Listed.{listed-length}
use Rattle.lists.specs.Lists.{at, table_sizes}
use Rattle.std.specs.Prelude.{Result, Ok, Err, ⊤}
use borrow.Author.Tests.{lt-leb}
use Rattle.lists.specs.Answers.{with_room, lent}
use Rattle.lists.specs.Refusals.{refusal, counted}
use Rattle.lists.specs.declared.refusal.Refusal.{Refusal}
use Rattle.rules.specs.Rules.{Rules, remove, count, last_stage}
use Rattle.rules.specs.Stage.{Move, adds, removes, moved, stages, lowest_unfit, staged}
use Rattle.rules.specs.Lists.{rules_of}
use Rattle.switches.specs.Inner.{OfKind, Spares, told, Judged}
use Rattle.staging.specs.Inner.{counts, StagedTo}
use Rattle.rules.proofs.Counts.{count-who, count-kind}
use Rattle.rules.proofs.Passes.{moved-is}

-- ---- where the stages start from

zeros : (n u : ℕ) → at (replicate n 0) u ≡ 0
zeros zero u = refl
zeros (suc n) zero = refl
zeros (suc n) (suc u) = zeros n u

module _ (l r a o : List ℕ) (ea : a ≡ replicate most_switches 0) (eo : o ≡ replicate most_tunnels 0)
    (C : OfKind l remove r) where
  abbrev R : Rules
  R = rules_of l

  none_yet : (u : ℕ) → at o u ≡ 0
  none_yet u = ap (λ (k : List ℕ). at k u) eo ∙ zeros most_tunnels u

  none-moved : (m : Move) (s : ℕ) → count R (moved R m (at o)) s ≡ 0
  none-moved m s = ⊎_elim (λ e. e) (λ w. absurd (moved-is R m (at o) w.0 w.2 (none_yet w.0))) (count-who R s (moved R m (at o)))

  pub staged-none : StagedTo l 0 a r o
  unfolding counts stages count
  staged-none = record {
    added = record {
      size = ap length ea ∙ length-replicate {A = ℕ} most_switches 0;
      each = λ s h. ap (λ (k : List ℕ). at k s) ea ∙ zeros most_switches s ∙ sym (none-moved adds s);
    };
    remaining = record { size = C.size; each = λ s h. omega (arith, C.each s h, count-kind R s removes (at o), none-moved removes s) };
    size = ap length eo ∙ length-replicate {A = ℕ} most_tunnels 0;
    stages = fun_ext none_yet;
  }

-- ---- what it comes to, and what is left in the output

module _ (l out : List ℕ) (a : Result ⊤ Refusal) (x : List ℕ) (J : Judged l a x) where
  abbrev bad : Option Place
  bad = lowest_unfit (rules_of l)

  abbrev all : List ℕ
  all = listed (rules_of l).tunnels (stages (rules_of l) (last_stage (rules_of l)))

  abbrev outcome : Outcome (List ℕ)
  outcome = with_room (length out) (staged (rules_of l))

  pub stage-refused : (e : Refusal) → a ≡ Err e → (Err e ≡ counted outcome) × (out ≡ lent outcome out)
  unfolding staged
  stage-refused e is = go bad (sym is ∙ J.answer)
    where
      go : (o : Option Place) → Err e ≡ told o → (Err e ≡ counted (with_room (length out) (unless unfit o (good all)))) × (out ≡ lent (with_room (length out) (unless unfit o (good all))) out)
      go none q = let z : ◌≡◌ {A = ℕ} 0 1 = cc in absurd (omega arith)
      go (some p) q = (cc, refl)

  module _ (d : a ≡ Ok tt) where
    fit : bad ≡ none
    fit = go bad (sym d ∙ J.answer)
      where
        go : (o : Option Place) → Ok tt ≡ told o → o ≡ none
        go none q = refl
        go (some p) q = let z : ◌≡◌ {A = ℕ} 0 1 = cc in absurd (omega arith)

    pub stage-spares : Spares (rules_of l) x
    stage-spares = J.spares fit

    all-length : length all ≡ (table_sizes l).tunnels
    unfolding rules_of
    all-length = listed-length (table_sizes l).tunnels _

    pub stage-none : length out < (table_sizes l).tunnels → (Err (refusal no_room (table_sizes l).tunnels 0) ≡ counted outcome) × (out ≡ lent outcome out)
    unfolding staged
    stage-none h = rw (fit, all-length, lt-leb (table_sizes l).tunnels (length out) h) (refl, refl)

    pub stage-all : (table_sizes l).tunnels ≤ length out → (Ok (table_sizes l).tunnels ≡ counted outcome) × (listed (table_sizes l).tunnels (stages (rules_of l) (last_stage (rules_of l))) ++ drop (table_sizes l).tunnels out ≡ lent outcome out)
    unfolding staged rules_of
    stage-all h =
        let e : outcome ≡ good all = ap (λ (o : Option Place). with_room (length out) (unless unfit o (good all))) fit ∙ good-room (length out) all (rw all-length h) in
        (ap Ok (sym all-length) ∙ ap counted (sym e), ap (λ (n : ℕ). all ++ drop n out) (sym all-length) ∙ ap (λ (o : Outcome (List ℕ)). lent o out) (sym e))

-- ---- the stages are copied

pub front : (n : ℕ) (xs : List ℕ) → n ≤ length xs → take n xs ≡ listed n (at xs)
unfolding listed
front zero xs h = refl
front (suc n) xs h =
    ap (λ (k : ℕ). take k xs) (sym (add-one n))
    ∙ take_more xs n 0 (omega (arith, h))
    ∙ ap (λ (l : List ℕ). l ++ at xs n ∷ []) (front n xs (omega (arith, h)))
