-- Reading line by line, as the readers' loop does, remarks passed over on the way. What a text is read as is defined in Read.antt;
-- that both come to the same is `read-by-turns` in proofs/Remarks.antt.
use Rattle.std.specs.Prelude.{ℕ, ◌+◌, Bool, true, cond, not, ◌&&◌, List, [], ◌∷◌, ◌++◌, eqb, get_or}
use Rattle.std.proofs.Math.Option.{Option, some, Option-elim}
use Rattle.model.specs.Outcome.{Outcome, good, refused}
use Rattle.model.specs.declared.Cause.TheVariants.{Malformed as malformed, OutOfRange as out_of_range, Missing as missing}
use Rattle.forms.specs.Line.{line_value, is_remark, fits, is_passed}
use Rattle.forms.specs.Form.{field_of, admits_of, second_of}
use Rattle.forms.specs.Read.{on_field}
use Rattle.forms.specs.declared.form.Form.{Form}
use Rattle.forms.specs.declared.form.Key.{Key}
use Rattle.forms.specs.declared.form.Range.{Range}

-- the value of a number in a list
abbrev pub itself : Key → Range → ℕ → Option ℕ
itself k r v = some v

-- no byte is a line feed
abbrev pub no_feeds : List ℕ → Bool
no_feeds [] = true
no_feeds (b ∷ l) = not (eqb b 10) && no_feeds l

-- a line begins with `#`
abbrev pub hashed : List ℕ → Bool
hashed l = eqb (get_or l 0 0) 35

-- a turn of a walk: at the place n, after the numbers that are done, nothing is left, or an item is that has a value or none;
-- `next` goes on with one number more
abbrev pub at_end : Form → ℕ → List ℕ → Outcome (List ℕ)
at_end form n done = on_field (field_of form done) (good done) (λ k r. refused missing n (second_of form))

abbrev pub at_item : Form → ℕ → List ℕ → (Key → Range → Option ℕ) → (List ℕ → Outcome (List ℕ)) → Outcome (List ℕ)
at_item form n done value next =
    on_field (field_of form done) (refused missing n (second_of form)) (λ k r.
    Option-elim (value k r) (refused malformed n (second_of form)) (λ v.
    cond (admits_of r v) (next (done ++ (v ∷ []))) (refused out_of_range n (second_of form))))

-- over lines, so many remarks having been passed over
unfoldable pub walk_lines : Form → ℕ → ℕ → List ℕ → List (List ℕ) → Outcome (List ℕ)
unfolding fits
walk_lines form n remarks done [] = at_end form n done
walk_lines form n remarks done (l ∷ ls) =
    cond (is_remark form l)
    (cond (is_passed remarks l) (walk_lines form (n + 1) (remarks + 1) done ls) (refused malformed n (second_of form)))
    (at_item form n done (λ k r. line_value k r l) (λ more. walk_lines form (n + 1) remarks more ls))
