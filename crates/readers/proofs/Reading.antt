-- Laws of reading: what is taken from the rest of a text in each case, the walk's next turn by what was taken, and how a list is handed over.
use Rattle.std.proofs.Common.{◌≡◌, ℕ, ◌+◌, ◌-◌, ◌<◌, ◌≤◌, Bool, true, false, cond, ◌&&◌, T, eqb, ltb, List, [], ◌∷◌, ◌++◌, length, take, drop, sym, refl, ap, ◌∙◌, arith, length-append, length-drop, length-take, length-take-le, take_all, drop-drop, ltb-false, ltb-true, le-ltb, eq-eqb, ne_eqb}
use mathlib.Core.Option.{Option, none, some, Option-elim}
use native.Mathlib.Decide.{ℕ_discrete}
use lib.Seq.{take-append_seam}
use Rattle.std.specs.declared.option.Option.TheVariants.{None, Some}
use Rattle.std.specs.declared.result.Result.TheVariants.{Ok, Err}
use Rattle.model.specs.Outcome.{Outcome, good, refused}
use Rattle.model.specs.declared.Cause.TheVariants.{Missing as missing, Malformed as malformed, OutOfRange as out_of_range}
use Rattle.lists.specs.Lists.{at, network_sizes}
use Rattle.lists.proofs.Positions.{head-low}
use Rattle.lists.specs.Refusals.{counted}
use Rattle.lists.specs.declared.refusal.Refusal.{Refusal}
use Rattle.model.specs.declared.Cause.{Cause}
use Rattle.model.specs.declared.Cause.TheVariants.{Malformed, OutOfRange, Missing}
use Rattle.forms.specs.Keys.{prefix_of}
use Rattle.forms.specs.Line.{value_part, lines, is_remark, fits, most_remarks, is_passed, line_value}
use Rattle.forms.specs.Form.{Field, is_hex, network_lines, field_of, admits_of, allows, second_of}
use Rattle.forms.proofs.Forms.{lines-in-head, edition-kept, sizes-kept}
use Rattle.forms.specs.Turns.{walk_lines, at_end, at_item}
use Rattle.forms.specs.declared.form.Form.{Form}
use Rattle.forms.specs.declared.form.Line.{Line}
use Rattle.forms.specs.declared.form.Range.{Range}
use Rattle.forms.proofs.Numbers.{some-digits}
use Rattle.forms.proofs.Values.{value-real-line}
use Rattle.readers.specs.Line.{line_len, first_line, remark_len, Parsed}
use Rattle.readers.specs.declared.line.Value.{Value}
use Rattle.readers.specs.Read.{taken_of, next_of, NoNumber, in_head, Body, Fits, head_read, field_by, onward, Holds}
use Rattle.readers.specs.declared.read.Taken.{Taken}
use Rattle.readers.specs.declared.read.Taken.TheVariants.{Number, Stop, Ended}
use Rattle.readers.proofs.Lines.{line-length, lines-some, line-some, line-within}

-- the rest of a text
pub rest-is : (text : List ℕ) (at : ℕ) → take (length text - at) (drop at text) ≡ drop at text
rest-is text at = take_all (length text - at) (drop at text) (omega (arith, length-drop at text))

-- ---- what is taken

module _ (l : Line) (text : List ℕ) where
  pub taken-missing : length text ≡ 0 → taken_of l text ≡ Stop Missing
  unfolding taken_of
  taken-missing e = rw (eq-eqb (length text) 0 e)

  module _ (more : length text ≡ 0 → ⊥) where
    pub taken-malformed : line_value l.key l.range (first_line text) ≡ none → taken_of l text ≡ Stop Malformed
    unfolding taken_of Option-elim
    taken-malformed m = rw (ne_eqb (length text) 0 more, m)

    pub taken-number : (v : ℕ) → line_value l.key l.range (first_line text) ≡ some v → admits_of l.range v ≡ true → taken_of l text ≡ Number v (line_len text)
    unfolding taken_of Option-elim
    taken-number v m a = rw (ne_eqb (length text) 0 more, m, a)

    pub taken-outside : (v : ℕ) → line_value l.key l.range (first_line text) ≡ some v → admits_of l.range v ≡ false → taken_of l text ≡ Stop OutOfRange
    unfolding taken_of Option-elim
    taken-outside v m a = rw (ne_eqb (length text) 0 more, m, a)

-- what the line reader hands back of a line, by the line's key and range
pub record Read (l : Line) (text key : List ℕ) (d : Value) : Type 0 where
  pub value : line_value l.key l.range (first_line text) ≡ some d.number
  pub bytes : length key + length d.digits.now + 1 ≡ line_len text

module _ (l : Line) (text key : List ℕ) (named : key ≡ prefix_of l.key) (hex : Bool) (is : hex ≡ is_hex l.range) where
  pub none-read : (length text ≡ 0 → ⊥) → Parsed hex (value_part key (first_line text)) None → taken_of l text ≡ Stop Malformed
  none-read more p = taken-malformed l text more (rw (named, is) at p)

  pub some-read : (d : Value) → Parsed hex (value_part key (first_line text)) (Some d) → Read l text key d
  some-read d p =
      let q = rw (named, is) at p in
      let some' : 1 ≤ length (value_part (prefix_of l.key) (first_line text)) = some-digits (is_hex l.range) _ d.number q.0 in
      record { value = q.0; bytes = omega (arith, line-length (prefix_of l.key) text some', ap length q.1, ap length named) }

-- the line at `at` ends within the text
pub line-ends : (text : List ℕ) (at : ℕ) → at < length text → (0 < line_len (drop at text)) × (at + line_len (drop at text) ≤ length text)
line-ends text at h =
    let fits : line_len (drop at text) ≤ length text - at = simp length-drop at (line-within (drop at text)) in
    (line-some (drop at text) (simp length-drop (omega arith)), omega arith)

-- a remark that is in order is passed over to where its line ends
module _ (text : List ℕ) (at c n : ℕ) (is : remark_len (drop at text) c ≡ Some n) where
  passes : (is_passed c (first_line (drop at text)) ≡ true) × (line_len (drop at text) ≡ n)
  unfolding remark_len
  passes = go (is_passed c (first_line (drop at text))) is
    where
      go : (b : Bool) → cond b (Some (line_len (drop at text))) None ≡ Some n → (b ≡ true) × (line_len (drop at text) ≡ n)
      go true e = (refl, cc)
      go false e = let z : ◌≡◌ {A = ℕ} 0 1 = cc in absurd (omega arith)

  pub past-facts : at < length text → (0 < n) × ((at + n ≤ length text) × (c < most_remarks))
  past-facts h =
      let p = line-ends text at h in
      (omega (arith, p.0, passes.1), (omega (arith, p.1, passes.1), few (ltb c most_remarks) refl passes.0))
    where
      few : (b : Bool) → ltb c most_remarks ≡ b → (b && fits (first_line (drop at text))) ≡ true → c < most_remarks
      few true e t = ltb-true c most_remarks e
      few false e t = let z : ◌≡◌ {A = ℕ} 0 1 = cc in absurd (omega arith)

-- ---- the walk, where no lines are left

walk_none : (form : Form) (n c : ℕ) (done' text : List ℕ) → length text ≡ 0 → walk_lines form n c done' (lines text) ≡ at_end form n done'
unfolding walk_lines lines
walk_none form n c done' [] e = refl
walk_none form n c done' (b ∷ t) e = absurd (omega arith)

-- ---- and where the next line is a remark, or a real line

lines_at : (text : List ℕ) (at : ℕ) → at < length text → lines (drop at text) ≡ first_line (drop at text) ∷ lines (drop (at + line_len (drop at text)) text)
lines_at text at h = rw (← drop-drop (line_len (drop at text)) at text) (lines-some (drop at text) (simp length-drop (omega arith)))

module _ (form : Form) (n c : ℕ) (done' text : List ℕ) (at : ℕ) (h : at < length text) where
  walk_first : (b : Bool) → is_remark form (first_line (drop at text)) ≡ b
      → walk_lines form n c done' (lines (drop at text))
      ≡ cond b (cond (is_passed c (first_line (drop at text))) (walk_lines form (n + 1) (c + 1) done' (lines (drop (at + line_len (drop at text)) text))) (refused malformed n (second_of form)))
      (at_item form n done' (λ k r. line_value k r (first_line (drop at text))) (λ more. walk_lines form (n + 1) c more (lines (drop (at + line_len (drop at text)) text))))
  unfolding walk_lines
  walk_first b e = rw (lines_at text at h, e)

  -- a remark that is not in order, and one that is
  module _ (remark : is_remark form (first_line (drop at text)) ≡ true) where
    abbrev after : ℕ
    after = line_len (drop at text)

    pub walk-disorder : remark_len (drop at text) c ≡ None → walk_lines form n c done' (lines (drop at text)) ≡ refused malformed n (second_of form)
    unfolding remark_len
    walk-disorder e = walk_first true remark ∙ go (is_passed c (first_line (drop at text))) e
      where
        go : (b : Bool) → cond b (Some after) None ≡ None
            → cond b (walk_lines form (n + 1) (c + 1) done' (lines (drop (at + after) text))) (refused malformed n (second_of form)) ≡ refused malformed n (second_of form)
        go true e = let z : ◌≡◌ {A = ℕ} 0 1 = cc in absurd (omega arith)
        go false e = refl

    pub walk-past : (m : ℕ) → remark_len (drop at text) c ≡ Some m → walk_lines form n c done' (lines (drop at text)) ≡ walk_lines form (n + 1) (c + 1) done' (lines (drop (at + m) text))
    walk-past m is = let p = passes text at c m is in walk_first true remark ∙ rw (p.0, p.1)

-- after a remark that is passed over the reading goes on
pub onward-past : (form : Form) (text vals : List ℕ) (i at remarks m : ℕ) → at < length text → is_remark form (first_line (drop at text)) ≡ true → remark_len (drop at text) remarks ≡ Some m
    → onward form text vals i at remarks ≡ onward form text vals i (at + m) (remarks + 1)
onward-past form text vals i at remarks m h remark is =
    let n : i + remarks + 1 + 1 ≡ i + (remarks + 1) + 1 = omega arith in
    rw (← n) (walk-past form (i + remarks + 1) remarks (take i vals) text at h remark m is)

-- ---- the walk, by what the next line gives

abbrev pub refusal_of : Cause → ℕ → ℕ → Refusal
refusal_of cause n second = record { cause = cause; place = n; second = second }

module _ (form : Form) (n c : ℕ) (done' text : List ℕ) (at : ℕ) where
  -- what the walk comes to
  abbrev pub go_on : Taken → Outcome (List ℕ) → Type 0
  go_on (Number v m) o = o ≡ walk_lines form (n + 1) c (done' ++ (v ∷ [])) (lines (drop (at + m) text))
  go_on (Stop cause) o = counted o ≡ Err (refusal_of cause n (second_of form))
  go_on Ended o = o ≡ good done'

  by-range : (m v : ℕ) (b : Bool)
      → go_on (cond b (Number v m) (Stop OutOfRange)) (cond b (walk_lines form (n + 1) c (done' ++ (v ∷ [])) (lines (drop (at + m) text))) (refused out_of_range n (second_of form)))
  by-range m v true = refl
  by-range m v false = refl

  by_value : (m : ℕ) (r : Range) (x : Option ℕ)
      → go_on (Option-elim x (Stop Malformed) (λ v. cond (admits_of r v) (Number v m) (Stop OutOfRange)))
      (Option-elim x (refused malformed n (second_of form)) (λ v. cond (admits_of r v) (walk_lines form (n + 1) c (done' ++ (v ∷ [])) (lines (drop (at + m) text))) (refused out_of_range n (second_of form))))
  unfolding Option-elim
  by_value m r none = refl
  by_value m r (some v) = by-range m v (admits_of r v)

  -- a real line, or the text's end
  module _ (real : is_remark form (first_line (drop at text)) ≡ false) where
    pub walk-next : (d : Field) → field_of form done' ≡ d → go_on (next_of d (drop at text)) (walk_lines form n c done' (lines (drop at text)))
    unfolding taken_of
    walk-next d f = go (ℕ_discrete (length (drop at text)) 0) d f
      where
        go : Dec (length (drop at text) ≡ 0) → (d : Field) → field_of form done' ≡ d → go_on (next_of d (drop at text)) (walk_lines form n c done' (lines (drop at text)))
        go (yes e) None f = rw (eq-eqb (length (drop at text)) 0 e) (walk_none form n c done' (drop at text) e ∙ rw f)
        go (yes e) (Some l) f =
            let w : walk_lines form n c done' (lines (drop at text)) ≡ refused missing n (second_of form) = walk_none form n c done' (drop at text) e ∙ rw f in
            rw (eq-eqb (length (drop at text)) 0 e) (ap counted w)
        go (no e) None f =
            let w : walk_lines form n c done' (lines (drop at text)) ≡ refused missing n (second_of form) = walk_first form n c done' text at (omega (arith, length-drop at text)) false real ∙ rw f in
            rw (ne_eqb (length (drop at text)) 0 e) (ap counted w)
        go (no e) (Some l) f =
            rw (ne_eqb (length (drop at text)) 0 e, walk_first form n c done' text at (omega (arith, length-drop at text)) false real, f)
            (by_value (line_len (drop at text)) l.range (line_value l.key l.range (first_line (drop at text))))

    pub walk-taken : (t : Taken) → next_of (field_of form done') (drop at text) ≡ t → go_on t (walk_lines form n c done' (lines (drop at text)))
    walk-taken t e = rw e at (walk-next (field_of form done') refl)

-- ---- the head of a network, then its body

-- what the head says stays, with more numbers
more-sizes : (l : List ℕ) (v : ℕ) → in_head l ≡ false → (in_head (l ++ (v ∷ [])) ≡ false) × (network_sizes l ≡ network_sizes (l ++ (v ∷ [])))
more-sizes l v e =
    let size : length (l ++ (v ∷ [])) ≡ length l + 1 = length-append l (v ∷ []) in
    let long = ltb-false (length l) (length (network_lines (at l 0))) e in
    let some : 0 < length l = omega (arith, long, lines-in-head (at l 0), head-low (at l 0)) in
    let front : take (length l) (l ++ (v ∷ [])) ≡ l = take-append_seam l (v ∷ []) in
    let fit : length l ≤ length (l ++ (v ∷ [])) = omega (arith, size) in
    let same : at l 0 ≡ at (l ++ (v ∷ [])) 0 = sym (ap (λ (m : List ℕ). at m 0) front) ∙ edition-kept (l ++ (v ∷ [])) (length l) fit some in
    let less : length (network_lines (at (l ++ (v ∷ [])) 0)) ≤ length l = rw (← same) long in (
      le-ltb (length (l ++ (v ∷ []))) (length (network_lines (at (l ++ (v ∷ [])) 0))) (omega (arith, less, size)),
      sym (ap network_sizes front) ∙ sizes-kept (l ++ (v ∷ [])) (length l) fit less,
    )

pub fits_more : (form : Form) (b : Body) (l : List ℕ) (v : ℕ) → Fits form b l → Fits form b (l ++ (v ∷ []))
fits_more Form.Network None l v f = tt
fits_more Form.Network (Some n) l v f = let m = more-sizes l v f.0 in (m.0, f.1 ∙ m.1)
fits_more Form.Plan b l v f = tt
fits_more Form.Rules b l v f = tt

-- where a number is given, the field is the form's
pub number-field : (form : Form) (b : Body) (l text : List ℕ) (v m : ℕ) → next_of (field_by form b l) text ≡ Number v m → field_by form b l ≡ field_of form l
number-field form b l text v m e = go (head_read form b l) refl e
  where
    none : (x : Bool) → cond x Ended (Stop Missing) ≡ Number v m → ⊥
    none true z = let y : ◌≡◌ {A = ℕ} 0 1 = cc in omega arith
    none false z = let y : ◌≡◌ {A = ℕ} 0 1 = cc in omega arith

    go : (h : Bool) → head_read form b l ≡ h → next_of (cond h None (field_of form l)) text ≡ Number v m → cond (head_read form b l) None (field_of form l) ≡ field_of form l
    go true k z = absurd (none (eqb (length text) 0) z)
    go false k z = rw k refl

-- ---- what is known of a number that a line gives

pub record Given (d : Field) (text : List ℕ) (at v m : ℕ) : Type 0 where
  pub later : 0 < m
  pub within : at + m ≤ length text
  pub allowed : T (allows d v)
  -- the line is no remark
  pub real : (form : Form) → is_remark form (first_line (drop at text)) ≡ false

abbrev Facts : Field → List ℕ → ℕ → Taken → Type 0
Facts d text at (Number v m) = Given d text at v m
Facts d text at (Stop cause) = Unit {0}
Facts d text at Ended = Unit {0}

line-facts : (l : Line) (text : List ℕ) (at : ℕ) → at < length text → (x : Option ℕ) → line_value l.key l.range (first_line (drop at text)) ≡ x
    → Facts (Some l) text at (Option-elim x (Stop Malformed) (λ v. cond (admits_of l.range v) (Number v (line_len (drop at text))) (Stop OutOfRange)))
unfolding Option-elim
line-facts l text at h none x = tt
line-facts l text at h (some v) x = go (admits_of l.range v) refl
  where
    go : (b : Bool) → admits_of l.range v ≡ b → Facts (Some l) text at (cond b (Number v (line_len (drop at text))) (Stop OutOfRange))
    go true a =
        let p = line-ends text at h in
        record { later = p.0; within = p.1; allowed = rw a tt; real = λ form. value-real-line form l.key l.range (first_line (drop at text)) v x }
    go false a = tt

facts : (d : Field) (text : List ℕ) (at : ℕ) → Facts d text at (next_of d (drop at text))
unfolding taken_of
facts d text at = go (ℕ_discrete (length (drop at text)) 0) d
  where
    go : Dec (length (drop at text) ≡ 0) → (d : Field) → Facts d text at (next_of d (drop at text))
    go (yes e) None = rw (eq-eqb (length (drop at text)) 0 e) tt
    go (yes e) (Some l) = rw (eq-eqb (length (drop at text)) 0 e) tt
    go (no e) None = rw (ne_eqb (length (drop at text)) 0 e) tt
    go (no e) (Some l) =
        rw (ne_eqb (length (drop at text)) 0 e) (line-facts l text at (omega (arith, length-drop at text)) (line_value l.key l.range (first_line (drop at text))) refl)

pub given : (d : Field) (text : List ℕ) (at v m : ℕ) → next_of d (drop at text) ≡ Number v m → Given d text at v m
given d text at v m e = rw e at (facts d text at)

-- the reading goes on with it
pub onward-number : (form : Form) (text vals after : List ℕ) (i at v m remarks : ℕ) → next_of (field_of form (take i vals)) (drop at text) ≡ Number v m
    → take (i + 1) after ≡ take i vals ++ (v ∷ []) → onward form text vals i at remarks ≡ onward form text after (i + 1) (at + m) remarks
onward-number form text vals after i at v m remarks e more =
    let n : i + remarks + 1 + 1 ≡ i + 1 + remarks + 1 = omega arith in
    let real = (given (field_of form (take i vals)) text at v m e).real form in
    let w : onward form text vals i at remarks ≡ walk_lines form (i + remarks + 1 + 1) remarks (take i vals ++ (v ∷ [])) (lines (drop (at + m) text))
    = rw e at (walk-next form (i + remarks + 1) remarks (take i vals) text at real (field_of form (take i vals)) refl) in
    rw (more, ← n) w

-- ---- what is given where no number is

-- where a text is refused, the list may have anything
pub holds-refused : (o : Outcome (List ℕ)) (e : Refusal) (vals : List ℕ) → counted o ≡ Err e → Holds o vals
holds-refused (good l) e vals q = let z : ◌≡◌ {A = ℕ} 0 1 = cc in absurd (omega arith)
holds-refused (refused c a b) e vals q = tt

-- what the `else` of `let Taken::Stop(cause) = t else { .. }` knows
pub ended : (t : Taken) → NoNumber t → ((cause : Cause) → t ≡ Stop cause → ⊥) → t ≡ Ended
ended (Number v m) k s = absurd k
ended (Stop cause) k s = absurd (s cause refl)
ended Ended k s = refl

-- at the end of the text all numbers are read
pub all-read : (o : Outcome (List ℕ)) (vals : List ℕ) (i : ℕ) → i ≤ length vals → o ≡ good (take i vals) → (counted o ≡ Ok i) × Holds o vals
all-read o vals i h e =
    let size : length (take i vals) ≡ i = length-take-le i vals h in
    (ap counted e ∙ ap Ok size, rw e (ap (λ (m : ℕ). take m vals) size))

-- the numbers that were read
pub lines-read : (o : Outcome (List ℕ)) (vals : List ℕ) (n : ℕ) → counted o ≡ Ok n → Holds o vals → (o ≡ good (take n vals)) × (n ≤ length vals)
lines-read (good l) vals n e h =
    let size : length l ≡ n = cc in
    let k : length (take (length l) vals) ≡ length l = ap length h in
    (ap good (sym h ∙ ap (λ (m : ℕ). take m vals) size), omega (arith, length-take (length l) vals))
lines-read (refused c a b) vals n e h = let z : ◌≡◌ {A = ℕ} 0 1 = cc in absurd (omega arith)
