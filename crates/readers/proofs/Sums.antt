-- What a text is read as, by what was read of its lines and by its sums. `read_text` names these in its attribute, so that the check finds its answers.
use Rattle.std.proofs.Common.{◌≡◌, ℕ, List, take, refl, sym, ap, ◌∙◌}
use Rattle.std.specs.declared.result.Result.TheVariants.{Ok}
use Rattle.model.specs.Outcome.{Outcome, good, and_then}
use Rattle.lists.specs.Refusals.{judged, counted}
use Rattle.lists.proofs.Refusals.{judged-good}
use Rattle.forms.specs.Read.{add_up, read_lines, read_text}
use Rattle.forms.specs.declared.form.Form.{Form}
use Rattle.forms.specs.declared.form.Form.TheVariants.{Network, Plan, Rules}
use Rattle.forms.proofs.Walks.{add-up-same}
use Rattle.readers.specs.Read.{Holds}
use Rattle.readers.proofs.Reading.{lines-read, all-read}

module _ (form : Form) (text vals : List ℕ) (n : ℕ) (lines : counted (read_lines form text) ≡ Ok n) (holds : Holds (read_lines form text) vals) where
  -- the numbers are those of the text
  told : add_up form (take n vals) ≡ good (take n vals) → (counted (read_text form text) ≡ Ok n) × Holds (read_text form text) vals
  told sums =
      let l = lines-read _ _ _ lines holds in
      all-read (read_text form text) vals n l.1 (ap (λ (o : Outcome (List ℕ)). and_then o (add_up form)) l.0 ∙ sums)

  -- its sums are right
  right : (x : List ℕ) → judged (add_up form (take n vals)) ≡ Ok x → add_up form (take n vals) ≡ good (take n vals)
  right x e = let p = judged-good (add_up form (take n vals)) x e in p ∙ ap good (add-up-same form (take n vals) x p)

  pub value_summed : (x : List ℕ) → judged (add_up form (take n vals)) ≡ Ok x → Ok n ≡ counted (read_text form text)
  value_summed x e = sym (told (right x e)).0

  pub holds_summed : (x : List ℕ) → judged (add_up form (take n vals)) ≡ Ok x → Holds (read_text form text) vals
  holds_summed x e = (told (right x e)).1

  -- or there are none
  none : (f : Form) → (f ≡ Network → ⊥) → add_up f (take n vals) ≡ good (take n vals)
  unfolding add_up
  none Network k = absurd (k refl)
  none Plan k = refl
  none Rules k = refl

  pub value_unsummed : (form ≡ Network → ⊥) → Ok n ≡ counted (read_text form text)
  value_unsummed k = sym (told (none form k)).0

  pub holds_unsummed : (form ≡ Network → ⊥) → Holds (read_text form text) vals
  holds_unsummed k = (told (none form k)).1
