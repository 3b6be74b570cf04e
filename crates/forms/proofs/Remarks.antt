-- Laws of remarks: a text without them, the walk that passes over them, and how long they are.
use mathlib.Core.Path.{◌≡◌, refl, sym, ap, ◌∙◌}
use mathlib.Core.Bool.{Bool, true, false, cond, not, ◌&&◌}
use mathlib.Core.List.{List, [], ◌∷◌, ◌++◌, flatten, flat_map}
use mathlib.Core.Option.{Option, none, some, some-ne-none, Option-elim}
use Prim.Native.Nat.{ℕ, zero, suc, ◌+◌, ◌-◌, ◌*◌, ◌≤◌, ◌<◌}
use native.Mathlib.Omega.{arith}
use lib.Dec.{T, ltb, ltb→lt}
use lib.ListN.{length, length-append}
use native.Mathlib.Decide.{dec_lt}
use borrow.Author.Tests.{lt-ltb, le-ltb, lt-leb}
use Rattle.model.specs.Outcome.{Outcome, good, refused}
use Rattle.model.specs.declared.Cause.{Cause}
use Rattle.model.specs.declared.Cause.TheVariants.{Malformed as malformed, OutOfRange as out_of_range, Missing as missing}
use Rattle.model.proofs.Searches.{both, and-false}
use Rattle.forms.specs.Line.{lines, before_feed, is_remark, fits, most_in_remark, most_remarks, plain, line_value, is_passed}
use Rattle.forms.specs.Form.{Field, line, field_of, admits_of, second_of, has_remarks}
use Rattle.forms.specs.Read.{walk, number_in, moved, first_bad, or_earlier, read_lines, on_field}
use Rattle.forms.specs.Turns.{walk_lines, at_end, at_item}
use Rattle.forms.specs.Laws.{InOrder, Remarked}
use Rattle.forms.specs.declared.form.Form.{Form}
use Rattle.forms.specs.declared.form.Range.{Range}
use Rattle.forms.proofs.Lines.{last-feed}
use Rattle.std.specs.declared.option.Option.TheVariants.{None, Some}
use Rattle.forms.specs.declared.form.Key.{Key}
use Rattle.forms.proofs.Texts.{filter, lines-flatten, lines-filter}

-- ---- the real lines of a text, and its remarks

abbrev is_real : Form → List ℕ → Bool
is_real form l = not (is_remark form l)

abbrev pub real_lines : Form → List ℕ → List (List ℕ)
real_lines form text = filter (is_real form) (lines text)

abbrev remarks : Form → List ℕ → List (List ℕ)
remarks form text = filter (is_remark form) (lines text)

pub plain-real : (form : Form) (text : List ℕ) → plain form text ≡ flatten (real_lines form text)
unfolding plain flat_map flatten filter
plain-real form text = go (lines text)
  where
    go : (ls : List (List ℕ)) → flat_map (λ l. cond (is_remark form l) [] l) ls ≡ flatten (filter (is_real form) ls)
    go [] = refl
    go (l ∷ ls) = turn (is_remark form l) (go ls)
      where
        turn : (b : Bool) → flat_map (λ l. cond (is_remark form l) [] l) ls ≡ flatten (filter (is_real form) ls)
            → cond b [] l ++ flat_map (λ l. cond (is_remark form l) [] l) ls ≡ flatten (cond (not b) (l ∷ filter (is_real form) ls) (filter (is_real form) ls))
        turn true h = h
        turn false h = ap (λ (r : List ℕ). l ++ r) h

pub lines-plain : (form : Form) (text : List ℕ) → lines (plain form text) ≡ real_lines form text
lines-plain form text = ap lines (plain-real form text) ∙ lines-filter (is_real form) text

-- ---- where there are no remarks

filter_none : (form : Form) (ls : List (List ℕ)) → filter (is_remark form) (filter (is_real form) ls) ≡ []
unfolding filter
filter_none form [] = refl
filter_none form (l ∷ ls) = go (is_remark form l) refl (filter_none form ls)
  where
    go : (b : Bool) → is_remark form l ≡ b → filter (is_remark form) (filter (is_real form) ls) ≡ []
        → filter (is_remark form) (cond (not b) (l ∷ filter (is_real form) ls) (filter (is_real form) ls)) ≡ []
    go true e h = h
    go false e h = rw e h

plain-unremarked : (form : Form) (text : List ℕ) → remarks form (plain form text) ≡ []
plain-unremarked form text = rw (lines-plain form text) (filter_none form (lines text))

-- the first of some lines is no remark where none is
none_first : (form : Form) (l : List ℕ) (ls : List (List ℕ)) → filter (is_remark form) (l ∷ ls) ≡ [] → (is_remark form l ≡ false) × (filter (is_remark form) ls ≡ [])
unfolding filter
none_first form l ls e = go (is_remark form l) e
  where
    go : (b : Bool) → cond b (l ∷ filter (is_remark form) ls) (filter (is_remark form) ls) ≡ [] → (b ≡ false) × (filter (is_remark form) ls ≡ [])
    go true e = let z : ◌≡◌ {A = ℕ} 0 1 = cc in absurd (omega arith)
    go false e = (refl, e)

filter-all : (form : Form) (ls : List (List ℕ)) → filter (is_remark form) ls ≡ [] → filter (is_real form) ls ≡ ls
unfolding filter
filter-all form [] e = refl
filter-all form (l ∷ ls) e = let p = none_first form l ls e in rw (p.0, filter-all form ls p.1)

number_same : (form : Form) (ls : List (List ℕ)) (n : ℕ) → filter (is_remark form) ls ≡ [] → number_in form ls n ≡ n
unfolding number_in
number_same form [] n e = refl
number_same form (l ∷ ls) zero e = refl
number_same form (l ∷ ls) (suc n) e = let p = none_first form l ls e in rw p.0 (ap suc (number_same form ls n p.1))

pub plain-same : (form : Form) (text : List ℕ) → remarks form text ≡ [] → plain form text ≡ text
plain-same form text e = plain-real form text ∙ ap flatten (filter-all form (lines text) e) ∙ lines-flatten text

pub none_remarks : (form : Form) → has_remarks form ≡ false → (text : List ℕ) → plain form text ≡ text
unfolding filter
none_remarks form e text = plain-same form text (go (lines text))
  where
    go : (ls : List (List ℕ)) → filter (is_remark form) ls ≡ []
    go [] = refl
    go (l ∷ ls) = rw e (go ls)

parts-length : (form : Form) (ls : List (List ℕ)) → length (flatten ls) ≡ length (flatten (filter (is_real form) ls)) + length (flatten (filter (is_remark form) ls))
unfolding flatten filter
parts-length form [] = refl
parts-length form (l ∷ ls) = go (is_remark form l) (parts-length form ls)
  where
    go : (b : Bool) → length (flatten ls) ≡ length (flatten (filter (is_real form) ls)) + length (flatten (filter (is_remark form) ls))
        → length (l ++ flatten ls) ≡ length (flatten (cond (not b) (l ∷ filter (is_real form) ls) (filter (is_real form) ls))) + length (flatten (cond b (l ∷ filter (is_remark form) ls) (filter (is_remark form) ls)))
    go true h = simp length-append (omega arith)
    go false h = simp length-append (omega arith)

-- a text that is its own plain text has none
none_left : (form : Form) (ls : List (List ℕ)) → length (flatten (filter (is_remark form) ls)) ≡ 0 → filter (is_remark form) ls ≡ []
unfolding flatten filter
none_left form [] e = refl
none_left form (l ∷ ls) e = go l (is_remark form l) refl e (none_left form ls)
  where
    go : (x : List ℕ) (b : Bool) → is_remark form x ≡ b → length (flatten (cond b (x ∷ filter (is_remark form) ls) (filter (is_remark form) ls))) ≡ 0
        → (length (flatten (filter (is_remark form) ls)) ≡ 0 → filter (is_remark form) ls ≡ []) → cond b (x ∷ filter (is_remark form) ls) (filter (is_remark form) ls) ≡ []
    go x false r e ih = ih e
    go [] true r e ih = let z : false ≡ true = sym (and-false (has_remarks form)) ∙ r in let y : ◌≡◌ {A = ℕ} 0 1 = cc in absurd (omega arith)
    go (y ∷ x) true r e ih = absurd (omega (arith, e))

same_none : (form : Form) (text : List ℕ) → plain form text ≡ text → remarks form text ≡ []
same_none form text e =
    none_left form (lines text) (omega (arith, parts-length form (lines text), ap length (plain-real form text), ap length e, ap length (lines-flatten text)))

-- ---- the walk, line by line

moved-good : (f : ℕ → ℕ) (o : Outcome (List ℕ)) (g : List ℕ) → moved f o ≡ good g → o ≡ good g
moved-good f (good l) g e = e
moved-good f (refused c a b) g e = let z : ◌≡◌ {A = ℕ} 0 1 = cc in absurd (omega arith)

moved_same : (f : ℕ → ℕ) → ((n : ℕ) → f n ≡ n) → (o : Outcome (List ℕ)) → moved f o ≡ o
moved_same f h (good l) = refl
moved_same f h (refused c a b) = rw (h a)

number-first : (form : Form) (ls : List (List ℕ)) → number_in form ls 0 ≡ 0
unfolding number_in
number-first form [] = refl
number-first form (l ∷ ls) = refl

-- no refusal of a walk is at a place before its first
abbrev From : ℕ → Outcome (List ℕ) → Type 0
From n (good l) = Unit {0}
From n (refused c place second) = n ≤ place

from-later : (n : ℕ) (o : Outcome (List ℕ)) → From (n + 1) o → From n o
from-later n (good l) h = tt
from-later n (refused c place second) h = omega arith

from_end : (n : ℕ) (done : List ℕ) (s : ℕ) (d : Field) → From n (on_field d (good done) (λ k r. refused missing n s))
from_end n done s None = tt
from_end n done s (Some x) = omega arith

from-item : (form : Form) (n : ℕ) (done : List ℕ) (value : Key → Range → Option ℕ) (next : List ℕ → Outcome (List ℕ)) → ((more : List ℕ) → From (n + 1) (next more))
    → From n (at_item form n done value next)
unfolding Option-elim
from-item form n done value next on = by_field (field_of form done)
  where
    by-range : (v : ℕ) (b : Bool) → From n (cond b (next (done ++ (v ∷ []))) (refused out_of_range n (second_of form)))
    by-range v true = from-later n (next (done ++ (v ∷ []))) (on (done ++ (v ∷ [])))
    by-range v false = omega arith

    by_value : (r : Range) (x : Option ℕ) → From n (Option-elim x (refused malformed n (second_of form)) (λ v. cond (admits_of r v) (next (done ++ (v ∷ []))) (refused out_of_range n (second_of form))))
    by_value r none = omega arith
    by_value r (some v) = by-range v (admits_of r v)

    by_field : (d : Field)
        → From n (on_field d (refused missing n (second_of form)) (λ k r. Option-elim (value k r) (refused malformed n (second_of form)) (λ v. cond (admits_of r v) (next (done ++ (v ∷ []))) (refused out_of_range n (second_of form)))))
    by_field None = omega arith
    by_field (Some x) = by_value x.range (value x.key x.range)

walk_from : (form : Form) (n : ℕ) (done : List ℕ) (ls : List (List ℕ)) → From n (walk line_value form n done ls)
unfolding walk
walk_from form n done [] = from_end n done (second_of form) (field_of form done)
walk_from form n done (l ∷ ls) = from-item form n done (λ k r. line_value k r l) (λ more. walk line_value form (n + 1) more ls) (λ more. walk_from form (n + 1) more ls)

-- nor is a remark that is not in order
abbrev BadFrom : ℕ → Option ℕ → Type 0
BadFrom n none = Unit {0}
BadFrom n (some b) = n ≤ b

bad-later : (n : ℕ) (o : Option ℕ) → BadFrom (n + 1) o → BadFrom n o
bad-later n none h = tt
bad-later n (some b) h = omega arith

bad-turn : (n : ℕ) (a b : Bool) (x y : Option ℕ) → BadFrom (n + 1) x → BadFrom (n + 1) y → BadFrom n (cond a (cond b x (some n)) y)
bad-turn n true true x y p q = bad-later n x p
bad-turn n true false x y p q = omega arith
bad-turn n false b x y p q = bad-later n y q

bad-from : (form : Form) (n c : ℕ) (ls : List (List ℕ)) → BadFrom n (first_bad form n c ls)
unfolding first_bad
bad-from form n c [] = tt
bad-from form n c (l ∷ ls) = bad-turn n (is_remark form l) (is_passed c l) _ _ (bad-from form (n + 1) _ ls) (bad-from form (n + 1) _ ls)

-- a turn at the place n is one at m, seen through F
module _ (form : Form) (n m : ℕ) (done : List ℕ) (F : Outcome (List ℕ) → Outcome (List ℕ)) (seen : (c : Cause) → F (refused c m (second_of form)) ≡ refused c n (second_of form)) where
  end_seen : F (good done) ≡ good done → at_end form n done ≡ F (at_end form m done)
  end_seen e = go (field_of form done)
    where
      go : (d : Field) → on_field d (good done) (λ k r. refused missing n (second_of form)) ≡ F (on_field d (good done) (λ k r. refused missing m (second_of form)))
      go None = sym e
      go (Some x) = sym (seen missing)

  pub item-seen : (value : Key → Range → Option ℕ) (next next' : List ℕ → Outcome (List ℕ))
      → ((k : Key) (r : Range) (v : ℕ) → field_of form done ≡ line k r → value k r ≡ some v → admits_of r v ≡ true → next (done ++ (v ∷ [])) ≡ F (next' (done ++ (v ∷ []))))
      → at_item form n done value next ≡ F (at_item form m done value next')
  unfolding Option-elim
  item-seen value next next' on = by_field (field_of form done) refl
    where
      by-range : (k : Key) (r : Range) (v : ℕ) → field_of form done ≡ line k r → value k r ≡ some v → (b : Bool) → admits_of r v ≡ b
          → cond b (next (done ++ (v ∷ []))) (refused out_of_range n (second_of form)) ≡ F (cond b (next' (done ++ (v ∷ []))) (refused out_of_range m (second_of form)))
      by-range k r v f x true a = on k r v f x a
      by-range k r v f x false a = sym (seen out_of_range)

      by_value : (k : Key) (r : Range) → field_of form done ≡ line k r → (x : Option ℕ) → value k r ≡ x
          → Option-elim x (refused malformed n (second_of form)) (λ v. cond (admits_of r v) (next (done ++ (v ∷ []))) (refused out_of_range n (second_of form)))
          ≡ F (Option-elim x (refused malformed m (second_of form)) (λ v. cond (admits_of r v) (next' (done ++ (v ∷ []))) (refused out_of_range m (second_of form))))
      by_value k r f none x = sym (seen malformed)
      by_value k r f (some v) x = by-range k r v f x (admits_of r v) refl

      by_field : (d : Field) → field_of form done ≡ d
          → on_field d (refused missing n (second_of form)) (λ k r. Option-elim (value k r) (refused malformed n (second_of form)) (λ v. cond (admits_of r v) (next (done ++ (v ∷ []))) (refused out_of_range n (second_of form))))
          ≡ F (on_field d (refused missing m (second_of form)) (λ k r. Option-elim (value k r) (refused malformed m (second_of form)) (λ v. cond (admits_of r v) (next' (done ++ (v ∷ []))) (refused out_of_range m (second_of form)))))
      by_field None f = sym (seen missing)
      by_field (Some x) f = by_value x.key x.range f (value x.key x.range) refl

-- the lines that are left, of which the first has the number n and the first real one is the real line m
abbrev Numbered : Form → (ℕ → ℕ) → ℕ → ℕ → List (List ℕ) → Type 0
Numbered form f n m ls = (j : ℕ) → f (m + j) + 1 ≡ n + number_in form ls (suc j)

first-number : (f : ℕ → ℕ) (n m k : ℕ) → f (m + 0) + 1 ≡ n + suc k → k ≡ 0 → f m ≡ n
first-number f n m k e z =
    let o : m + 0 ≡ m = omega arith in
    let w : f m + 1 ≡ n + suc k = rw o at e in
    omega arith

module _ (form : Form) (f : ℕ → ℕ) (n m c : ℕ) (done l : List ℕ) (ls : List (List ℕ)) (numbered : Numbered form f n m (l ∷ ls)) where
  abbrev s : ℕ
  s = second_of form

  -- what the rest is read as is what its real lines are, seen through this
  abbrev sight : ℕ → Outcome (List ℕ) → Outcome (List ℕ)
  sight before o = or_earlier s (first_bad form (n + 1) before ls) (moved f o)

  turn-remark : is_remark form l ≡ true → (b : Bool) → is_passed c l ≡ b
      → (Numbered form f (n + 1) m ls → walk_lines form (n + 1) (c + 1) done ls ≡ sight (c + 1) (walk line_value form m done (filter (is_real form) ls)))
      → walk_lines form n c done (l ∷ ls) ≡ or_earlier s (first_bad form n c (l ∷ ls)) (moved f (walk line_value form m done (filter (is_real form) (l ∷ ls))))
  unfolding walk_lines filter number_in first_bad
  turn-remark e true ok ih =
      let k : Numbered form f (n + 1) m ls = λ j. let x : f (m + j) + 1 ≡ n + suc (number_in form ls (suc j)) = rw e at (numbered j) in omega (arith, x) in
      rw (e, ok) (ih k)
  turn-remark e false ok ih = rw (e, ok) (go (walk line_value form m done (filter (is_real form) ls)) (walk_from form m done (filter (is_real form) ls)))
    where
      go : (o : Outcome (List ℕ)) → From m o → refused malformed n s ≡ or_earlier s (some n) (moved f o)
      go (good g) h = refl
      go (refused k place second) h =
          let p : m + (place - m) ≡ place = omega arith in
          let x : f place + 1 ≡ n + suc (number_in form ls (suc (place - m))) = rw (e, p) at (numbered (place - m)) in
          rw (le-ltb (f place) n (omega (arith, x)))

  turn-real : is_remark form l ≡ false
      → ((more : List ℕ) → Numbered form f (n + 1) (m + 1) ls → walk_lines form (n + 1) c more ls ≡ sight c (walk line_value form (m + 1) more (filter (is_real form) ls)))
      → walk_lines form n c done (l ∷ ls) ≡ or_earlier s (first_bad form n c (l ∷ ls)) (moved f (walk line_value form m done (filter (is_real form) (l ∷ ls))))
  unfolding walk_lines walk filter number_in first_bad
  turn-real e ih =
      let k : Numbered form f (n + 1) (m + 1) ls =
      λ j. let x : f (m + suc j) + 1 ≡ n + suc (number_in form ls (suc j)) = rw e at (numbered (suc j)) in rw (next m j) (omega (arith, x)) in
      let z : f (m + 0) + 1 ≡ n + suc (number_in form ls 0) = rw e at (numbered 0) in
      let at : f m ≡ n = first-number f n m (number_in form ls 0) z (number-first form ls) in
      rw e
      (item-seen form n m done (sight c) (λ k. rw at (go k (first_bad form (n + 1) c ls) (bad-from form (n + 1) c ls))) (λ k r. line_value k r l)
      (λ more. walk_lines form (n + 1) c more ls) (λ more. walk line_value form (m + 1) more (filter (is_real form) ls)) (λ _ _ v _ _ _. ih (done ++ (v ∷ [])) k))
    where
      next : (m j : ℕ) → m + 1 + j ≡ m + suc j
      next m j = omega arith

      go : (k : Cause) (o : Option ℕ) → BadFrom (n + 1) o → or_earlier s o (refused k n s) ≡ refused k n s
      go k none h = refl
      go k (some b) h = rw (lt-ltb n b (omega arith))

by-turns : (form : Form) (f : ℕ → ℕ) (n m c : ℕ) (done : List ℕ) (ls : List (List ℕ)) → Numbered form f n m ls
    → walk_lines form n c done ls ≡ or_earlier (second_of form) (first_bad form n c ls) (moved f (walk line_value form m done (filter (is_real form) ls)))
unfolding walk_lines walk filter number_in first_bad
by-turns form f n m c done [] numbered =
    let at : f m ≡ n = first-number f n m 0 (numbered 0) refl in
    end_seen form n m done (moved f) (λ k. rw at) refl
by-turns form f n m c done (l ∷ ls) numbered = go (is_remark form l) refl (λ more. by-turns form f (n + 1) (m + 1) c more ls) (by-turns form f (n + 1) m (c + 1) done ls)
  where
    go : (b : Bool) → is_remark form l ≡ b
        → ((more : List ℕ) → Numbered form f (n + 1) (m + 1) ls → walk_lines form (n + 1) c more ls ≡ or_earlier (second_of form) (first_bad form (n + 1) c ls) (moved f (walk line_value form (m + 1) more (filter (is_real form) ls))))
        → (Numbered form f (n + 1) m ls → walk_lines form (n + 1) (c + 1) done ls ≡ or_earlier (second_of form) (first_bad form (n + 1) (c + 1) ls) (moved f (walk line_value form m done (filter (is_real form) ls))))
        → walk_lines form n c done (l ∷ ls) ≡ or_earlier (second_of form) (first_bad form n c (l ∷ ls)) (moved f (walk line_value form m done (filter (is_real form) (l ∷ ls))))
    go true e real remark = turn-remark form f n m c done l ls numbered e (is_passed c l) refl remark
    go false e real remark = turn-real form f n m c done l ls numbered e real

-- what a text is read as, by its real lines and the first remark that is not in order
read-real-lines : (form : Form) (text : List ℕ)
    → read_lines form text ≡ or_earlier (second_of form) (first_bad form 1 0 (lines text)) (moved (number_in form (lines text)) (walk line_value form 1 [] (real_lines form text)))
unfolding read_lines
read-real-lines form text = rw (lines-plain form text)

-- and line by line
pub read-by-turns : (form : Form) (text : List ℕ) → read_lines form text ≡ walk_lines form 1 0 [] (lines text)
read-by-turns form text =
    read-real-lines form text ∙ sym (by-turns form (number_in form (lines text)) 1 1 0 [] (lines text) (λ j. rw (one j) (omega arith)))
  where
    one : (j : ℕ) → 1 + j ≡ suc j
    one j = omega arith

-- ---- remarks in order

none-bad : (form : Form) (n c : ℕ) (ls : List (List ℕ)) → filter (is_remark form) ls ≡ [] → first_bad form n c ls ≡ none
unfolding first_bad
none-bad form n c [] e = refl
none-bad form n c (l ∷ ls) e = let p = none_first form l ls e in rw p.0 (none-bad form (n + 1) c ls p.1)

abbrev all_fit : List (List ℕ) → Bool
all_fit [] = true
all_fit (l ∷ ls) = fits l && all_fit ls

-- so many remarks were passed over, and these are left
abbrev Ordered : ℕ → List (List ℕ) → Type 0
Ordered c rs = (c + length rs ≤ most_remarks) × T (all_fit rs)

bad-none : (form : Form) (n c : ℕ) (ls : List (List ℕ)) → c ≤ most_remarks → first_bad form n c ls ≡ none → Ordered c (filter (is_remark form) ls)
unfolding filter first_bad
bad-none form n c [] h e = (omega arith, tt)
bad-none form n c (l ∷ ls) h e = go (is_remark form l) (ltb c most_remarks) (fits l) refl refl e (bad-none form (n + 1) (c + 1) ls) (bad-none form (n + 1) c ls h)
  where
    go : (b x y : Bool) → ltb c most_remarks ≡ x → fits l ≡ y → cond b (cond (x && y) (first_bad form (n + 1) (c + 1) ls) (some n)) (first_bad form (n + 1) c ls) ≡ none
        → (c + 1 ≤ most_remarks → first_bad form (n + 1) (c + 1) ls ≡ none → Ordered (c + 1) (filter (is_remark form) ls))
        → (first_bad form (n + 1) c ls ≡ none → Ordered c (filter (is_remark form) ls))
        → Ordered c (cond b (l ∷ filter (is_remark form) ls) (filter (is_remark form) ls))
    go true true true u w e remark real =
        let k : c < most_remarks = ltb→lt c most_remarks (rw u tt) in
        let p = remark (omega arith) e in
        (omega (arith, p.0), rw w p.1)
    go true true false u w e remark real = absurd (some-ne-none n e)
    go true false y u w e remark real = absurd (some-ne-none n e)
    go false x y u w e remark real = real e

-- the real lines of a text are read, and a refusal's place is moved
pub read-passed : (form : Form) (text : List ℕ) → InOrder form text → read_lines form text ≡ moved (number_in form (lines text)) (walk line_value form 1 [] (real_lines form text))
read-passed form text o = read-real-lines form text ∙ rw o

pub read-unremarked : (form : Form) (text : List ℕ) → plain form text ≡ text → read_lines form text ≡ walk line_value form 1 [] (lines text)
read-unremarked form text e =
    let r = same_none form text e in
    read-passed form text (none-bad form 1 0 (lines text) r)
    ∙ moved_same (number_in form (lines text)) (λ n. number_same form (lines text) n r) _
    ∙ ap (walk line_value form 1 []) (filter-all form (lines text) r)

-- a text that is read has its remarks in order, and its real lines are read
or-good : (s : ℕ) (b : Option ℕ) (o : Outcome (List ℕ)) (g : List ℕ) → or_earlier s b o ≡ good g → (b ≡ none) × (o ≡ good g)
or-good s none o g e = (refl, e)
or-good s (some n) (good l) g e = let z : ◌≡◌ {A = ℕ} 0 1 = cc in absurd (omega arith)
or-good s (some n) (refused c place second) g e = go (ltb place n) e
  where
    go : (x : Bool) → cond x (refused c place second) (refused malformed n s) ≡ good g → (some n ≡ none) × (refused c place second ≡ good g)
    go true e = let z : ◌≡◌ {A = ℕ} 0 1 = cc in absurd (omega arith)
    go false e = let z : ◌≡◌ {A = ℕ} 0 1 = cc in absurd (omega arith)

module _ (form : Form) (text g : List ℕ) (e : read_lines form text ≡ good g) where
  turns-good : (first_bad form 1 0 (lines text) ≡ none) × (moved (number_in form (lines text)) (walk line_value form 1 [] (real_lines form text)) ≡ good g)
  turns-good = or-good (second_of form) (first_bad form 1 0 (lines text)) _ g (sym (read-real-lines form text) ∙ e)

  pub read-ordered : InOrder form text
  read-ordered = turns-good.0

  pub read_real : walk line_value form 1 [] (real_lines form text) ≡ good g
  read_real = moved-good (number_in form (lines text)) _ g turns-good.1

pub plain_again : (form : Form) (text : List ℕ) → plain form (plain form text) ≡ plain form text
plain_again form text = plain-same form (plain form text) (plain-unremarked form text)

plain-read : (form : Form) (text : List ℕ) → read_lines form (plain form text) ≡ walk line_value form 1 [] (real_lines form text)
plain-read form text = read-unremarked form (plain form text) (plain_again form text) ∙ ap (walk line_value form 1 []) (lines-plain form text)

pub remarked : (form : Form) → Remarked form
remarked form =
    record {
      unremarked = read-unremarked form;
      none_remarks = none_remarks form;
      plain_again = plain_again form;
      passed_over = λ text o. rw (plain-read form text) (read-passed form text o);
    }

-- a line that does not fit is no remark in order, however many there were before
pub unfit : (c : ℕ) (l : List ℕ) → fits l ≡ false → is_passed c l ≡ false
unfit c l e = rw e (and-false (ltb c most_remarks))

-- ---- how long remarks are

pub fits-short : (l : List ℕ) → T (fits l) → length l ≤ most_in_remark + 1
unfolding fits
fits-short l t = go (before_feed l) refl (dec_lt most_in_remark (length (before_feed l)))
  where
    go : (d : List ℕ) → before_feed l ≡ d → Dec (most_in_remark < length (before_feed l)) → length l ≤ most_in_remark + 1
    go d e (yes h) = absurd (rw (lt-leb (length (before_feed l)) most_in_remark h, and-false) at t)
    go [] e (no h) = absurd (rw e at t)
    go (x ∷ d) e (no h) =
        let n : length l ≡ length (x ∷ d) + 1 = ap length (last-feed l (x ∷ d) (omega arith) e) ∙ length-append (x ∷ d) (10 ∷ []) in
        omega (arith, ap length e)

remarks-short : (rs : List (List ℕ)) → T (all_fit rs) → length (flatten rs) ≤ length rs * (most_in_remark + 1)
unfolding flatten
remarks-short [] t = omega arith
remarks-short (l ∷ rs) t =
    let p = both (fits l) (all_fit rs) t in
    omega (arith, length-append l (flatten rs), fits-short l p.0, remarks-short rs p.1)

-- a text is longer than its plain text by so much at most
pub plain-longer : (form : Form) (text : List ℕ) → InOrder form text → length text ≤ length (plain form text) + most_remarks * (most_in_remark + 1)
plain-longer form text o =
    let p = bad-none form 1 0 (lines text) (omega arith) o in
    omega (arith, ap length (lines-flatten text), ap length (plain-real form text), parts-length form (lines text), remarks-short (remarks form text) p.1, p.0)
