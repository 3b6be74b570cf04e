-- Laws of the walk over a list: its next turn by what stands at an index, and that a list is judged good exactly where it is whole.
use mathlib.Core.Path.{◌≡◌, refl, ap, ◌∙◌}
use mathlib.Core.Bool.{Bool, true, false, cond}
use mathlib.Core.List.{List, [], ◌∷◌, ◌++◌, append-nil}
use mathlib.Core.Option.{Option, none, some, Option-elim}
use Prim.Native.Nat.{ℕ, ◌+◌, ◌≤◌, ◌<◌}
use native.Mathlib.Numerals.{add-one}
use native.Mathlib.Omega.{arith}
use lib.Dec.{T}
use lib.ListN.{length, get_or, drop, drop_of_length-le, length-append}
use lib.Seq.{drop-cons, append_snoc, take-append_seam, get_or-append_seam}
use Rattle.model.specs.Outcome.{Outcome, good, refused, unless, Place}
use Rattle.model.specs.declared.Cause.TheVariants.{OutOfRange as out_of_range, Missing as missing, Malformed as malformed}
use Rattle.model.specs.declared.Cause.TheVariants as causes
use Rattle.model.specs.Rule as rule
use Rattle.lists.specs.Lists.{network_of}
use Rattle.forms.specs.Form.{Field, line, field_of, admits_of, allows, second_of, Sound, Whole}
use Rattle.model.specs.Outcome.{and_then}
use Rattle.forms.specs.Read.{walk, on_field, judge_numbers, judge_list, add_up}
use Rattle.forms.specs.Turns.{itself}
use Rattle.forms.specs.declared.form.Form.{Form}
use Rattle.forms.specs.declared.form.Form.TheVariants.{Network, Plan, Rules}
use Rattle.forms.specs.declared.form.Range.{Range}
use Rattle.std.specs.declared.option.Option.TheVariants.{None, Some}
use Rattle.forms.specs.declared.form.Key.{Key}
use Rattle.forms.proofs.Forms.{sound_none, sound_more, sound-at}

-- what stands from i on: the element at i, and what stands from i + 1 on
pub step : (t : List ℕ) (i : ℕ) → i < length t → drop i t ≡ get_or t i 0 ∷ drop (i + 1) t
step t i h = rw (add-one, drop-cons t i 0 h)

-- ---- the walk over the numbers of a list, from i on, in each case

module _ (form : Form) (n : ℕ) (done l : List ℕ) (i : ℕ) where
  pub judge-done : length l ≤ i → field_of form done ≡ None → walk itself form n done (drop i l) ≡ good done
  unfolding walk
  judge-done h f = rw (drop_of_length-le l h, f)

  pub judge-missing : (k : Key) (r : Range) → length l ≤ i → field_of form done ≡ line k r → walk itself form n done (drop i l) ≡ refused missing n (second_of form)
  unfolding walk
  judge-missing k r h f = rw (drop_of_length-le l h, f)

  pub judge-many : i < length l → field_of form done ≡ None → walk itself form n done (drop i l) ≡ refused missing n (second_of form)
  unfolding walk
  judge-many h f = rw (step l i h, f)

  pub judge-outside : (k : Key) (r : Range) → i < length l → field_of form done ≡ line k r → admits_of r (get_or l i 0) ≡ false
      → walk itself form n done (drop i l) ≡ refused out_of_range n (second_of form)
  unfolding walk Option-elim
  judge-outside k r h f a = rw (step l i h, f, a)

  pub judge-more : (k : Key) (r : Range) → i < length l → field_of form done ≡ line k r → admits_of r (get_or l i 0) ≡ true
      → walk itself form n done (drop i l) ≡ walk itself form (n + 1) (done ++ (get_or l i 0 ∷ [])) (drop (i + 1) l)
  unfolding walk Option-elim
  judge-more k r h f a = rw (step l i h, f, a)

pub allows-line : (f : Field) (k : Key) (r : Range) (v : ℕ) → f ≡ line k r → admits_of r v ≡ true → T (allows f v)
allows-line f k r v e a = rw (e, a) tt

-- ---- a list that is judged good is whole, and it is what is got

abbrev Accepts : Form → List ℕ → List ℕ → Type 0
Accepts form g l = (g ≡ l) × Whole form l

judged-end : (form : Form) (n : ℕ) (done g : List ℕ) (f : Field) → on_field f (good done) (λ k r. refused missing n (second_of form)) ≡ good g → (g ≡ done) × (f ≡ None)
judged-end form n done g None e = (cc, refl)
judged-end form n done g (Some x) e = let z : ◌≡◌ {A = ℕ} 0 1 = cc in absurd (omega arith)

judged-range : (form : Form) (n : ℕ) (g : List ℕ) (w : Outcome (List ℕ)) (b : Bool) (P : Type 0) → (T b → w ≡ good g → P)
    → cond b w (refused out_of_range n (second_of form)) ≡ good g → P
judged-range form n g w true P f e = f tt e
judged-range form n g w false P f e = let z : ◌≡◌ {A = ℕ} 0 1 = cc in absurd (omega arith)

judged-field : (form : Form) (n v : ℕ) (g : List ℕ) (w : Outcome (List ℕ)) (f : Field) (P : Type 0) → (T (allows f v) → w ≡ good g → P)
    → on_field f (refused missing n (second_of form)) (λ k r. Option-elim (itself k r v) (refused malformed n (second_of form)) (λ u. cond (admits_of r u) w (refused out_of_range n (second_of form)))) ≡ good g → P
unfolding Option-elim
judged-field form n v g w None P f e = let z : ◌≡◌ {A = ℕ} 0 1 = cc in absurd (omega arith)
judged-field form n v g w (Some x) P f e = judged-range form n g w (admits_of x.range v) P f e

judged : (form : Form) (n : ℕ) (done l g : List ℕ) → Sound form done → walk itself form n done l ≡ good g → Accepts form g (done ++ l)
unfolding walk Option-elim
judged form n done [] g s e =
    let p = judged-end form n done g (field_of form done) e in
    rw append-nil (p.0, record { sound = s; ends = p.1 })
judged form n done (v ∷ l) g s e =
    judged-field form n v g (walk itself form (n + 1) (done ++ (v ∷ [])) l) (field_of form done) (Accepts form g (done ++ (v ∷ l)))
    (λ t w. rw (← append_snoc done v l) (judged form (n + 1) (done ++ (v ∷ [])) l g (sound_more form done v s t) w)) e

pub judged-whole : (form : Form) (l g : List ℕ) → judge_numbers form l ≡ good g → Accepts form g l
unfolding judge_numbers
judged-whole form l g e = judged form 1 [] l g (sound_none form) e

-- ---- and a whole list is judged good

by_field : (f : Field) (v : ℕ) (w o : Outcome (List ℕ)) (x y : Outcome (List ℕ)) → T (allows f v)
    → on_field f x (λ k r. Option-elim (itself k r v) y (λ u. cond (admits_of r u) w o)) ≡ w
unfolding Option-elim
by_field None v w o p q t = absurd t
by_field (Some x) v w o p q t = go (admits_of x.range v) t
  where
    go : (b : Bool) → T b → cond b w o ≡ w
    go true t = refl
    go false t = absurd t

accepted : (form : Form) (n : ℕ) (done l : List ℕ) → Whole form (done ++ l) → walk itself form n done l ≡ good (done ++ l)
unfolding walk Option-elim
accepted form n done [] w =
    let e : field_of form done ≡ None = rw append-nil at w.ends in
    rw (e, append-nil)
accepted form n done (v ∷ l) w =
    let h : length done < length (done ++ (v ∷ l)) = simp length-append (omega arith) in
    let t : T (allows (field_of form done) v) = rw (take-append_seam done (v ∷ l), get_or-append_seam done v l 0) at (sound-at form (done ++ (v ∷ l)) (length done) h w.sound) in
    let w' : Whole form ((done ++ (v ∷ [])) ++ l) = rw (append_snoc done v l) w in
    by_field (field_of form done) v (walk itself form (n + 1) (done ++ (v ∷ [])) l) _ _ (refused malformed n (second_of form)) t
    ∙ accepted form (n + 1) (done ++ (v ∷ [])) l w'
    ∙ ap good (append_snoc done v l)

pub whole-judged : (form : Form) (l : List ℕ) → Whole form l → judge_numbers form l ≡ good l
unfolding judge_numbers
whole-judged form l w = accepted form 1 [] l w

-- ---- with the sums

pub add-up-same : (form : Form) (l g : List ℕ) → add_up form l ≡ good g → g ≡ l
unfolding add_up
add-up-same Network l g e = go (rule.missed_rate (network_of l)) e
  where
    go : (o : Option Place) → unless causes.MissedRate o (good l) ≡ good g → g ≡ l
    go none e = cc
    go (some p) e = let z : ◌≡◌ {A = ℕ} 0 1 = cc in absurd (omega arith)
add-up-same Plan l g e = cc
add-up-same Rules l g e = cc

pub then-good : (o : Outcome (List ℕ)) (next : List ℕ → Outcome (List ℕ)) (g : List ℕ) → and_then o next ≡ good g
    → (l : List ℕ) × (o ≡ good l) × (next l ≡ good g)
then-good (good l) next g e = (l, refl, e)
then-good (refused c a b) next g e = let z : ◌≡◌ {A = ℕ} 0 1 = cc in absurd (omega arith)

-- a list that is judged good is what is got; its numbers are judged good, and its sums
pub record Judged (form : Form) (l g : List ℕ) : Type 0 where
  pub same : g ≡ l
  pub whole : Whole form l
  pub sums : add_up form l ≡ good l

pub judged-good : (form : Form) (l g : List ℕ) → judge_list form l ≡ good g → Judged form l g
judged-good form l g e =
    let p = then-good (judge_numbers form l) (add_up form) g e in
    let q = judged-whole form l p.0 p.1 in
    let s : add_up form l ≡ good g = rw q.0 at p.2 in
    let same : g ≡ l = add-up-same form l g s in
    record { same = same; whole = q.1; sums = rw same at s }

pub good-judged : (form : Form) (l : List ℕ) → Whole form l → add_up form l ≡ good l → judge_list form l ≡ good l
good-judged form l w s = rw (whole-judged form l w) s

-- rule tables have no sums
pub rules-no-sums : (o : Outcome (List ℕ)) → and_then o (add_up Rules) ≡ o
unfolding add_up
rules-no-sums (good l) = refl
rules-no-sums (refused c a b) = refl
