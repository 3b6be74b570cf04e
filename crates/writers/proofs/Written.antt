-- What is left in the room for the text of a list that is judged good, and what is given.
use mathlib.Core.Path.{◌≡◌, refl, sym, ap, subst⁻¹, ◌∙◌}
use mathlib.Core.List.{List}
use Prim.Native.Nat.{ℕ, ◌≤◌, ◌<◌}
use native.Mathlib.Nat.{zero-add}
use lib.ListN.{length}
use borrow.Author.Tests.{le-leb, lt-leb}
use Rattle.std.specs.declared.result.Result.TheVariants.{Ok, Err}
use Rattle.model.specs.Outcome.{Outcome, good, and_then}
use Rattle.lists.specs.Answers.{with_room, lent}
use Rattle.lists.specs.Refusals.{judged, counted}
use Rattle.model.specs.declared.Cause.TheVariants.{NoRoom}
use Rattle.lists.proofs.Refusals as results
use Rattle.forms.specs.Form.{Whole}
use Rattle.forms.specs.Read.{judge_list}
use Rattle.forms.specs.Write.{render, write_text}
use Rattle.forms.specs.declared.form.Form.{Form}
use Rattle.forms.proofs.Walks.{judged-good}
use Rattle.lines.specs.Puts.{Puts}
use Rattle.lines.proofs.Writing.{given}

-- what is left where the text of a good list is put, and what is given for it
module _ (form : Form) (l out : List ℕ) (e : judge_list form l ≡ good l) where
  text : write_text form l ≡ good (render form l)
  text = ap (λ (o : Outcome (List ℕ)). and_then o (λ g. good (render form g))) e

  pub too-long : length out < length (render form l)
      → (counted (with_room (length out) (write_text form l)) ≡ Err (record { cause = NoRoom; place = length (render form l); second = 0 })) × (lent (with_room (length out) (write_text form l)) out ≡ out)
  too-long h = rw (text, lt-leb (length (render form l)) (length out) h) (refl, refl)

  pub written : {out' : List ℕ} {past : ℕ} → length (render form l) ≤ length out → Puts (render form l) 0 out out' past
      → (counted (with_room (length out) (write_text form l)) ≡ Ok past) × (out' ≡ lent (with_room (length out) (write_text form l)) out)
  written h p =
      let s = render form l in
      let room : with_room (length out) (good s) ≡ good s = rw (le-leb (length s) (length out) h) in
      (rw (text, room) (ap (λ (n : ℕ). Ok n) (sym (p.place ∙ zero-add (length s)))), rw text (given s out h p).1)

-- a list that the judge gives is the list, and whole
module _ (form : Form) (l g : List ℕ) (e : judged (judge_list form l) ≡ Ok g) where
  good-list : judge_list form l ≡ good g
  good-list = results.judged-good _ g e

  same : g ≡ l
  same = (judged-good form l g good-list).same

  pub ok-whole : Whole form g
  ok-whole = subst⁻¹ (Whole form) same (judged-good form l g good-list).whole

  pub ok-written : (out : List ℕ) {out' : List ℕ} {past : ℕ} → length (render form g) ≤ length out → Puts (render form g) 0 out out' past → out' ≡ lent (with_room (length out) (write_text form l)) out
  ok-written out h p = (written form l out (good-list ∙ ap good same) (rw same at h) (rw same at p)).1

-- the same of a list of which the judge gives the length
pub counted-whole : (form : Form) (l : List ℕ) (n : ℕ) → counted (judge_list form l) ≡ Ok n → (judge_list form l ≡ good l) × Whole form l
counted-whole form l n e =
    let g = results.counted-good _ n e in
    let j = judged-good form l g.0 g.1 in
    (g.1 ∙ ap good j.same, j.whole)
