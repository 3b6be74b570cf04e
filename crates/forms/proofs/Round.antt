-- The laws of reading, judging and writing: the round trips, and that a text is read exactly when it follows the file form.
use mathlib.Core.Path.{◌≡◌, refl, sym, ap, ◌∙◌}
use mathlib.Core.Bool.{Bool, true, false, cond}
use mathlib.Core.List.{List, [], ◌∷◌, ◌++◌, flatten, append-nil}
use mathlib.Core.Option.{Option, none, some, Option-elim}
use Prim.Native.Nat.{ℕ, ◌+◌, ◌≤◌}
use native.Mathlib.Omega.{arith}
use lib.Dec.{T}
use lib.ListN.{length}
use lib.Seq.{append_snoc}
use Rattle.model.specs.Outcome.{Outcome, good, refused, and_then}
use Rattle.model.specs.declared.Cause.TheVariants.{Malformed as malformed, OutOfRange as out_of_range, Missing as missing}
use Rattle.lists.specs.Answers.{with_room}
use Rattle.forms.specs.Line.{lines, is_remark, plain, line_value}
use Rattle.forms.specs.Form.{Field, line, field_of, admits_of, allows, second_of, Sound}
use Rattle.forms.specs.Read.{walk, number_in, moved, read_lines, judge_numbers, read_text, judge_list, add_up, on_field}
use Rattle.forms.specs.Turns.{itself}
use Rattle.forms.specs.Write.{line_of, render_from, render, write_text}
use Rattle.forms.specs.Laws.{InOrder, Follows, FileForm, RoundTrip, most_bytes}
use Rattle.forms.specs.declared.form.Form.{Form}
use Rattle.forms.specs.declared.form.Range.{Range}
use Rattle.lists.proofs.Rooms.{room-good, good-room}
use Rattle.forms.proofs.Forms.{sound_none, sound_more, small, small-set}
use Rattle.forms.proofs.Rendering.{render-plain}
use Rattle.forms.proofs.Values.{value-of-line, line-of-value, value-real-line, lines-written}
use Rattle.forms.proofs.Cut.{first_bytes}
use Rattle.forms.proofs.Texts.{filter}
use Rattle.forms.proofs.Remarks.{real_lines, plain-real, plain-same, lines-plain, read-passed, read-unremarked, read-ordered, read_real, plain-longer}
use Rattle.std.specs.declared.option.Option.TheVariants.{None, Some}
use Rattle.forms.specs.declared.form.Key.{Key}
use Rattle.forms.proofs.Walks.{then-good, judged-good}

-- ---- the first round trip

module _ (form : Form) (n v : ℕ) (done l g : List ℕ) (s : Sound form done) where
  abbrev more : List ℕ
  more = done ++ (v ∷ [])

  abbrev Again : Type 0
  Again = Sound form more → walk itself form (n + 1) more l ≡ good g → walk line_value form (n + 1) more (lines (render_from form more l)) ≡ good g

  again-line : (k : Key) (r : Range) → field_of form done ≡ line k r → admits_of r v ≡ true → Again → walk itself form (n + 1) more l ≡ good g
      → walk line_value form n done (lines (render_from form done (v ∷ l))) ≡ good g
  unfolding walk render_from Option-elim
  again-line k r e a ih w =
      let t : T (admits_of r v) = rw a tt in
      let t' : T (allows (field_of form done) v) = rw (e, a) tt in
      let x : line_value k r (line_of (line k r) v) ≡ some v = value-of-line k r v (small form done k r v s e t) (small-set form done k r v s e t) in
      rw (e, lines-written k r v (render_from form more l), e, x, a) (ih (sound_more form done v s t') w)

  again-range : (k : Key) (r : Range) → field_of form done ≡ line k r → (b : Bool) → admits_of r v ≡ b → Again
      → cond b (walk itself form (n + 1) more l) (refused out_of_range n (second_of form)) ≡ good g → walk line_value form n done (lines (render_from form done (v ∷ l))) ≡ good g
  again-range k r e true a ih w = again-line k r e a ih w
  again-range k r e false a ih w = let z : ◌≡◌ {A = ℕ} 0 1 = cc in absurd (omega arith)

  again-field : (f : Field) → field_of form done ≡ f → Again
      → on_field f (refused missing n (second_of form)) (λ k r. Option-elim (itself k r v) (refused malformed n (second_of form)) (λ u. cond (admits_of r u) (walk itself form (n + 1) (done ++ (u ∷ [])) l) (refused out_of_range n (second_of form)))) ≡ good g
      → walk line_value form n done (lines (render_from form done (v ∷ l))) ≡ good g
  unfolding Option-elim
  again-field None e ih w = let z : ◌≡◌ {A = ℕ} 0 1 = cc in absurd (omega arith)
  again-field (Some x) e ih w = again-range x.key x.range e (admits_of x.range v) refl ih w

again : (form : Form) (n : ℕ) (done l g : List ℕ) → Sound form done → walk itself form n done l ≡ good g → walk line_value form n done (lines (render_from form done l)) ≡ good g
unfolding walk render_from lines
again form n done [] g s e = e
again form n done (v ∷ l) g s e = again-field form n v done l g s (field_of form done) refl (again form (n + 1) (done ++ (v ∷ [])) l g) e

-- ---- the second round trip

record Reads (form : Form) (n : ℕ) (done : List ℕ) (ls : List (List ℕ)) (g : List ℕ) : Type 0 where
  list : List ℕ
  same : g ≡ done ++ list
  written : render_from form done list ≡ flatten ls
  real : filter (is_remark form) ls ≡ []
  accepted : walk itself form n done list ≡ good g

module _ (form : Form) (n : ℕ) (done g : List ℕ) where
  reads_end : (f : Field) → field_of form done ≡ f → on_field f (good done) (λ k r. refused missing n (second_of form)) ≡ good g → Reads form n done [] g
  unfolding walk render_from flatten filter
  reads_end None f e = record { list = []; same = rw append-nil (let k : g ≡ done = cc in k); written = refl; real = refl; accepted = rw f e }
  reads_end (Some x) f e = let z : ◌≡◌ {A = ℕ} 0 1 = cc in absurd (omega arith)

  module _ (x : List ℕ) (xs : List (List ℕ)) where
    abbrev Rest : Type 0
    Rest = (v : ℕ) → walk line_value form (n + 1) (done ++ (v ∷ [])) xs ≡ good g → Reads form (n + 1) (done ++ (v ∷ [])) xs g

    reads-range : (k : Key) (r : Range) (v : ℕ) → field_of form done ≡ line k r → line_value k r x ≡ some v → (b : Bool) → admits_of r v ≡ b → Rest
        → cond b (walk line_value form (n + 1) (done ++ (v ∷ [])) xs) (refused out_of_range n (second_of form)) ≡ good g → Reads form n done (x ∷ xs) g
    unfolding walk render_from flatten filter Option-elim
    reads-range k r v f w true a ih e =
        let p = ih v e in
        record {
          list = v ∷ p.list;
          same = p.same ∙ append_snoc done v p.list;
          written = rw (f, p.written, ← line-of-value k r x v w);
          real = rw (value-real-line form k r x v w) p.real;
          accepted = rw (f, a) p.accepted;
        }
    reads-range k r v f w false a ih e = let z : ◌≡◌ {A = ℕ} 0 1 = cc in absurd (omega arith)

    reads-value : (k : Key) (r : Range) → field_of form done ≡ line k r → (y : Option ℕ) → line_value k r x ≡ y → Rest
        → Option-elim y (refused malformed n (second_of form)) (λ v. cond (admits_of r v) (walk line_value form (n + 1) (done ++ (v ∷ [])) xs) (refused out_of_range n (second_of form))) ≡ good g
        → Reads form n done (x ∷ xs) g
    unfolding Option-elim
    reads-value k r f none w ih e = let z : ◌≡◌ {A = ℕ} 0 1 = cc in absurd (omega arith)
    reads-value k r f (some v) w ih e = reads-range k r v f w (admits_of r v) refl ih e

    reads-field : (f : Field) → field_of form done ≡ f → Rest
        → on_field f (refused missing n (second_of form)) (λ k r. Option-elim (line_value k r x) (refused malformed n (second_of form)) (λ v. cond (admits_of r v) (walk line_value form (n + 1) (done ++ (v ∷ [])) xs) (refused out_of_range n (second_of form)))) ≡ good g
        → Reads form n done (x ∷ xs) g
    reads-field None f ih e = let z : ◌≡◌ {A = ℕ} 0 1 = cc in absurd (omega arith)
    reads-field (Some d) f ih e = reads-value d.key d.range f (line_value d.key d.range x) refl ih e

reads : (form : Form) (n : ℕ) (done : List ℕ) (ls : List (List ℕ)) (g : List ℕ) → walk line_value form n done ls ≡ good g → Reads form n done ls g
unfolding walk
reads form n done [] g e = reads_end form n done g (field_of form done) refl e
reads form n done (x ∷ xs) g e = reads-field form n done g x xs (field_of form done) refl (λ v. reads form (n + 1) (done ++ (v ∷ [])) xs g) e

-- a list that is accepted is read again from what it is written as
lines-rendered : (form : Form) (l g : List ℕ) → judge_numbers form l ≡ good g → walk line_value form 1 [] (lines (render form l)) ≡ good g
unfolding judge_numbers render
lines-rendered form l g e = again form 1 [] l g (sound_none form) e

read-written : (form : Form) (l g : List ℕ) → judge_numbers form l ≡ good g → read_lines form (render form l) ≡ good g
read-written form l g e =
    let w = lines-rendered form l g e in
    read-unremarked form (render form l) (plain-same form (render form l) (reads form 1 [] (lines (render form l)) g w).real) ∙ w

-- a text that is read is, without its remarks, what the numbers are written as, and they are accepted
written_read : (form : Form) (t g : List ℕ) → read_lines form t ≡ good g → (render form g ≡ plain form t) × (judge_numbers form g ≡ good g)
unfolding judge_numbers render
written_read form t g e =
    let p = reads form 1 [] (real_lines form t) g (read_real form t g e) in
    (rw p.same (p.written ∙ sym (plain-real form t)), ap (λ (l : List ℕ). walk itself form 1 [] l) p.same ∙ p.accepted)

-- a text whose remarks are in order and which is without them what some numbers are written as
read_plain : (form : Form) (t l g : List ℕ) → InOrder form t → render form l ≡ plain form t → judge_numbers form l ≡ good g → read_lines form t ≡ good g
read_plain form t l g o e j =
    let w : walk line_value form 1 [] (real_lines form t) ≡ good g = ap (walk line_value form 1 []) (sym (ap lines e ∙ lines-plain form t)) ∙ lines-rendered form l g j in
    read-passed form t o ∙ ap (moved (number_in form (lines t))) w

-- ---- with the sums

-- reading what a list is written as comes to what judging the list does, where its numbers are judged good
read-judged : (form : Form) (l g : List ℕ) → judge_numbers form l ≡ good g → read_text form (render form l) ≡ judge_list form l
read-judged form l g e = rw (read-written form l g e, e)

module _ (form : Form) (text l : List ℕ) (e : read_text form text ≡ good l) where
  taken : (g : List ℕ) × (read_lines form text ≡ good g) × (add_up form g ≡ good l)
  taken = then-good (read_lines form text) (add_up form) l e

  judged-again : judge_list form taken.0 ≡ good l
  judged-again = rw (written_read form text taken.0 taken.1).1 taken.2

  same : l ≡ taken.0
  same = (judged-good form taken.0 l judged-again).same

  -- what a text is read as is judged good as a list
  pub read-good : judge_list form l ≡ good l
  read-good = rw (sym same) at judged-again

  pub rendered : render form l ≡ plain form text
  rendered = rw same (written_read form text taken.0 taken.1).0

  in_order : InOrder form text
  in_order = read-ordered form text taken.0 taken.1

  short : length text ≤ most_bytes
  short = omega (arith, plain-longer form text in_order, ap length rendered, render-plain form l (judged-good form l l read-good).whole.sound)

  read-follows : Follows form text
  read-follows = record { ordered = in_order; list = l; judged = read-good; written = rendered }

pub good-read : (form : Form) (l : List ℕ) → judge_list form l ≡ good l → read_text form (render form l) ≡ good l
good-read form l e =
    let p = then-good (judge_numbers form l) (add_up form) l e in
    read-judged form l p.0 p.1 ∙ e

verdict : (form : Form) (text l : List ℕ) → read_lines form text ≡ good l → (judge_numbers form l ≡ good l) × (read_text form text ≡ judge_list form l)
verdict form text l e =
    let j : judge_numbers form l ≡ good l = (written_read form text l e).1 in
    (j, rw (e, j))

follows-read : (form : Form) (text : List ℕ) (f : Follows form text) → read_text form text ≡ good f.list
follows-read form text f =
    let p = then-good (judge_numbers form f.list) (add_up form) f.list f.judged in
    rw (read_plain form text f.list p.0 f.ordered f.written p.1) p.2

-- a text is read exactly when it follows the file form
pub file-form : (form : Form) → FileForm form
file-form form =
    record {
      same_verdict = verdict form;
      follows = read-follows form;
      read = follows-read form;
      short = short form;
      first_bytes = λ text. ap (λ (o : Outcome (List ℕ)). and_then o (add_up form)) (first_bytes form text);
    }

-- ---- the round trips, with room

text_again : (form : Form) (text l : List ℕ) (room space : ℕ) → with_room room (read_text form text) ≡ good l → length (plain form text) ≤ space
    → with_room space (write_text form l) ≡ good (plain form text)
text_again form text l room space e h =
    let r : read_text form text ≡ good l = room-good room (read_text form text) l e in
    rw (read-good form text l r, rendered form text l r) (good-room space (plain form text) h)

list_again : (form : Form) (l text : List ℕ) (space room : ℕ) → with_room space (write_text form l) ≡ good text → length l ≤ room
    → with_room room (read_text form text) ≡ good l
list_again form l text space room e h =
    let p = then-good (judge_list form l) (λ g. good (render form g)) text (room-good space (write_text form l) text e) in
    let same : p.0 ≡ l = (judged-good form l p.0 p.1).same in
    let j : judge_list form l ≡ good l = p.1 ∙ ap good same in
    let t : text ≡ render form l = let k : render form p.0 ≡ text = cc p.2 in sym k ∙ ap (render form) same in
    rw (t, good-read form l j) (good-room room l h)

pub round_trip : (form : Form) → RoundTrip form
round_trip form = record { text_again = text_again form; list_again = list_again form }
