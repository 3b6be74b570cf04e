-- Reading the first 65,536 bytes of a text answers as reading all of it: at a line that the end of these bytes cuts, or that
-- lies beyond, both have stopped before, or stop there alike.
use mathlib.Core.Path.{◌≡◌, refl, sym, ap, ◌∙◌}
use mathlib.Core.Bool.{Bool, true, false, cond, ◌&&◌}
use mathlib.Core.List.{List, [], ◌∷◌, ◌++◌}
use mathlib.Core.Option.{Option, none, some, Option-elim}
use Prim.Native.Nat.{ℕ, zero, suc, ◌+◌, ◌-◌, ◌*◌, ◌≤◌, ◌<◌}
use native.Mathlib.Omega.{arith}
use lib.Dec.{T, eqb, leb, ltb, ltb→lt}
use borrow.Author.Tests.{le-leb, lt-leb}
use native.Mathlib.Decide.{dec_lt}
use lib.Seq.{get_or-take, length-take-le}
use lib.ListN.{length, take, length-append}
use Rattle.model.specs.Outcome.{Outcome, refused}
use Rattle.model.specs.declared.Cause.TheVariants.{Missing as missing, Malformed as malformed, OutOfRange as out_of_range}
use Rattle.forms.specs.Line.{lines, on_first, is_remark, fits, most_in_remark, most_remarks, line_value, is_passed}
use Rattle.forms.specs.Form.{Field, line, field_of, admits_of, second_of, Sound}
use Rattle.forms.specs.Read.{read_lines, on_field}
use Rattle.forms.specs.Turns.{walk_lines, at_item}
use Rattle.forms.specs.Write.{line_of, render_from, render}
use Rattle.forms.specs.Laws.{most_bytes}
use Rattle.forms.specs.declared.form.Form.{Form}
use Rattle.forms.specs.declared.form.Range.{Range}
use Rattle.forms.proofs.Forms.{sound_none, sound_more}
use Rattle.forms.proofs.Rendering.{render-more, line-short, render-plain}
use Rattle.forms.proofs.Values.{line-of-value}
use Rattle.forms.proofs.Remarks.{item-seen, unfit, fits-short, read-by-turns}
use Rattle.std.specs.declared.option.Option.TheVariants.{None, Some}
use Rattle.forms.specs.declared.form.Key.{Key}
use Rattle.forms.proofs.Walks.{allows-line}

-- ---- the lines of the first bytes of a text

-- the lines of the first c bytes, by the lines of all
unfoldable cut : List (List ℕ) → ℕ → List (List ℕ)
cut [] c = []
cut (l ∷ ls) c = cond (leb 1 c) (cond (leb (length l) c) (l ∷ cut ls (c - length l)) (take c l ∷ [])) []

cut-none : (ls : List (List ℕ)) → cut ls 0 ≡ []
unfolding cut
cut-none [] = refl
cut-none (l ∷ ls) = refl

module _ (l : List ℕ) (ls : List (List ℕ)) (c : ℕ) (some : 1 ≤ c) where
  cut-after : (k : ℕ) → length l + k ≡ c → cut (l ∷ ls) c ≡ l ∷ cut ls k
  unfolding cut
  cut-after k e =
      let left : c - length l ≡ k = omega arith in
      rw (le-leb 1 c some, le-leb (length l) c (omega arith), left)

  cut-through : c < length l → cut (l ∷ ls) c ≡ take c l ∷ []
  unfolding cut
  cut-through h = rw (le-leb 1 c some, lt-leb (length l) c h)

cut-first : (b c : ℕ) (ls : List (List ℕ)) → on_first b (cut ls c) ≡ cut (on_first b ls) (suc c)
unfolding on_first cut
cut-first b c [] = sym (cut-after (b ∷ []) [] (suc c) (omega arith) c (omega arith))
cut-first b zero ([] ∷ ls) = sym (cut-after (b ∷ []) ls 1 (omega arith) 0 refl ∙ ap (λ (r : List (List ℕ)). (b ∷ []) ∷ r) (cut-none ls))
cut-first b zero ((x ∷ l) ∷ ls) = sym (cut-through (b ∷ x ∷ l) ls 1 (omega arith) (omega arith))
cut-first b (suc c) (l ∷ ls) = go (dec_lt (suc c) (length l))
  where
    go : Dec (suc c < length l) → on_first b (cut (l ∷ ls) (suc c)) ≡ cut ((b ∷ l) ∷ ls) (suc (suc c))
    go (yes h) = rw (cut-through l ls (suc c) (omega arith) h, cut-through (b ∷ l) ls (suc (suc c)) (omega arith) (omega arith))
    go (no h) =
        let k = suc c - length l in
        rw (cut-after l ls (suc c) (omega arith) k (omega arith), cut-after (b ∷ l) ls (suc (suc c)) (omega arith) k (omega arith))

lines-take : (c : ℕ) (t : List ℕ) → lines (take c t) ≡ cut (lines t) c
unfolding lines cut
lines-take zero t = sym (cut-none (lines t))
lines-take (suc c) [] = refl
lines-take (suc c) (b ∷ t) = go (eqb b 10) (lines-take c t)
  where
    go : (e : Bool) → lines (take c t) ≡ cut (lines t) c
        → cond e ((b ∷ []) ∷ lines (take c t)) (on_first b (lines (take c t))) ≡ cut (cond e ((b ∷ []) ∷ lines t) (on_first b (lines t))) (suc c)
    go true h = rw (cut-after (b ∷ []) (lines t) (suc c) (omega arith) c (omega arith), h)
    go false h = rw h (cut-first b c (lines t))

-- ---- a line that is too long for a value and for a remark stops the reading, and so does what a cut leaves of it

long-value : (k : Key) (r : Range) (l : List ℕ) → 27 < length l → line_value k r l ≡ none
long-value k r l h = go (line_value k r l) refl
  where
    go : (o : Option ℕ) → line_value k r l ≡ o → o ≡ none
    go none e = refl
    go (some v) e = absurd (omega (arith, ap length (line-of-value k r l v e), line-short (line k r) v))

long-remark : (l : List ℕ) → most_in_remark + 1 < length l → fits l ≡ false
long-remark l h = go (fits l) refl
  where
    go : (b : Bool) → fits l ≡ b → b ≡ false
    go true e = absurd (omega (arith, fits-short l (rw e tt)))
    go false e = refl

-- what comes of it, by its first byte alone
stopped : Form → ℕ → List ℕ → Bool → Outcome (List ℕ)
stopped form n done remark =
    cond remark (refused malformed n (second_of form))
    (on_field (field_of form done) (refused missing n (second_of form)) (λ k r. refused malformed n (second_of form)))

item-none : (form : Form) (n : ℕ) (done : List ℕ) (value : Key → Range → Option ℕ) (next : List ℕ → Outcome (List ℕ)) → ((k : Key) (r : Range) → value k r ≡ none)
    → at_item form n done value next ≡ on_field (field_of form done) (refused missing n (second_of form)) (λ k r. refused malformed n (second_of form))
unfolding Option-elim
item-none form n done value next f = go (field_of form done)
  where
    go : (d : Field)
        → on_field d (refused missing n (second_of form)) (λ k r. Option-elim (value k r) (refused malformed n (second_of form)) (λ v. cond (admits_of r v) (next (done ++ (v ∷ []))) (refused out_of_range n (second_of form))))
        ≡ on_field d (refused missing n (second_of form)) (λ k r. refused malformed n (second_of form))
    go None = refl
    go (Some x) = rw (f x.key x.range)

walk-long : (form : Form) (n c : ℕ) (done l : List ℕ) (ls : List (List ℕ)) → most_in_remark + 1 < length l → walk_lines form n c done (l ∷ ls) ≡ stopped form n done (is_remark form l)
unfolding walk_lines stopped
walk-long form n c done l ls h =
    rw (unfit c l (long-remark l h))
    (ap (λ (o : Outcome (List ℕ)). cond (is_remark form l) (refused malformed n (second_of form)) o)
    (item-none form n done (λ k r. line_value k r l) (λ more. walk_lines form (n + 1) c more ls) (λ k r. long-value k r l (omega arith))))

-- ---- the walk over the lines of the first bytes

-- one turn over the same line, where the rest comes to the same
same_turn : (form : Form) (n c : ℕ) (done l : List ℕ) (xs ls : List (List ℕ))
    → (c < most_remarks → T (fits l) → walk_lines form (n + 1) (c + 1) done xs ≡ walk_lines form (n + 1) (c + 1) done ls)
    → ((k : Key) (r : Range) (v : ℕ) → field_of form done ≡ line k r → line_value k r l ≡ some v → admits_of r v ≡ true
    → walk_lines form (n + 1) c (done ++ (v ∷ [])) xs ≡ walk_lines form (n + 1) c (done ++ (v ∷ [])) ls)
    → walk_lines form n c done (l ∷ xs) ≡ walk_lines form n c done (l ∷ ls)
unfolding walk_lines
same_turn form n c done l xs ls remark real = go (is_remark form l)
  where
    passed : (a b : Bool) → ltb c most_remarks ≡ a → fits l ≡ b
        → cond (a && b) (walk_lines form (n + 1) (c + 1) done xs) (refused malformed n (second_of form)) ≡ cond (a && b) (walk_lines form (n + 1) (c + 1) done ls) (refused malformed n (second_of form))
    passed true true x y = remark (ltb→lt c most_remarks (rw x tt)) (rw y tt)
    passed true false x y = refl
    passed false b x y = refl

    go : (b : Bool)
        → cond b (cond (is_passed c l) (walk_lines form (n + 1) (c + 1) done xs) (refused malformed n (second_of form))) (at_item form n done (λ k r. line_value k r l) (λ more. walk_lines form (n + 1) c more xs))
        ≡ cond b (cond (is_passed c l) (walk_lines form (n + 1) (c + 1) done ls) (refused malformed n (second_of form))) (at_item form n done (λ k r. line_value k r l) (λ more. walk_lines form (n + 1) c more ls))
    go true = passed (ltb c most_remarks) (fits l) refl refl
    go false = item-seen form n n done (λ o. o) (λ k. refl) (λ k r. line_value k r l) (λ more. walk_lines form (n + 1) c more xs) (λ more. walk_lines form (n + 1) c more ls) real

-- so many bytes are left of the first 65,536, after some numbers and remarks
abbrev Left : Form → ℕ → List ℕ → ℕ → Type 0
Left form c done left = most_bytes ≤ left + (length (render form done) + c * (most_in_remark + 1))

left-more : (form : Form) (c : ℕ) (k : Key) (r : Range) (done l : List ℕ) (v left : ℕ) → field_of form done ≡ line k r → line_value k r l ≡ some v → length l ≤ left
    → Left form c done left → Left form c (done ++ (v ∷ [])) (left - length l)
unfolding render
left-more form c k r done l v left f e w h =
    let n : length (render_from form [] (done ++ (v ∷ []))) ≡ length (render_from form [] done) + length (line_of (field_of form done) v)
    = ap length (render-more form [] done v) ∙ length-append (render_from form [] done) _ in
    let m : length l ≡ length (line_of (field_of form done) v) = ap length (line-of-value k r l v e) ∙ ap (λ (d : Field). length (line_of d v)) (sym f) in
    omega (arith, n, m)

cut-walk : (form : Form) (n c : ℕ) (done : List ℕ) (ls : List (List ℕ)) (left : ℕ) → Sound form done → c ≤ most_remarks → Left form c done left
    → walk_lines form n c done (cut ls left) ≡ walk_lines form n c done ls
unfolding cut
cut-walk form n c done [] left s few h = refl
cut-walk form n c done (l ∷ ls) left s few h = go (dec_lt left (length l)) (λ b. cut-walk form (n + 1) (c + 1) done ls b) (λ more b. cut-walk form (n + 1) c more ls b)
  where
    enough : most_in_remark + 1 < left
    enough = omega (arith, h, render-plain form done s, few)

    first : is_remark form (take left l) ≡ is_remark form l
    first = rw (get_or-take left l 0 0 (omega (arith, enough)))

    go : Dec (left < length l)
        → ((b : ℕ) → Sound form done → c + 1 ≤ most_remarks → Left form (c + 1) done b → walk_lines form (n + 1) (c + 1) done (cut ls b) ≡ walk_lines form (n + 1) (c + 1) done ls)
        → ((more : List ℕ) (b : ℕ) → Sound form more → c ≤ most_remarks → Left form c more b → walk_lines form (n + 1) c more (cut ls b) ≡ walk_lines form (n + 1) c more ls)
        → walk_lines form n c done (cut (l ∷ ls) left) ≡ walk_lines form n c done (l ∷ ls)
    go (yes k) remark real =
        rw (cut-through l ls left (omega (arith, enough)) k)
        (walk-long form n c done (take left l) [] (rw (length-take-le left l (omega arith)) enough) ∙ ap (stopped form n done) first
        ∙ sym (walk-long form n c done l ls (omega (arith, enough))))
    go (no k) remark real =
        rw (cut-after l ls left (omega (arith, enough)) (left - length l) (omega arith))
        (same_turn form n c done l (cut ls (left - length l)) ls
        (λ m f. remark (left - length l) s (omega arith) (omega (arith, h, fits-short l f)))
        (λ key r v f e a. real (done ++ (v ∷ [])) (left - length l) (sound_more form done v s (allows-line _ key r v f a)) few (left-more form c key r done l v left f e (omega arith) h)))

-- "Both read at most 65,536 bytes of a text": no answer depends on what comes after them
pub first_bytes : (form : Form) (text : List ℕ) → read_lines form (take most_bytes text) ≡ read_lines form text
first_bytes form text =
    rw (read-by-turns form (take most_bytes text), read-by-turns form text, lines-take most_bytes text)
    (cut-walk form 1 0 [] (lines text) most_bytes (sound_none form) (omega arith) (omega arith))
