-- `readers::read::read_on` meets its contract.
use Rattle.std.proofs.Common.{◌≡◌, ℕ, ◌+◌, ◌<◌, List, [], ◌∷◌, ◌++◌, length, take, drop, set, sym, ap, ◌∙◌, add-one, arith, length-set, length-take-le, take-suc-set}
use lib.Seq.{take-set-le}
use Rattle.forms.specs.Form.{Field, field_of, most_of}
use Rattle.forms.proofs.Forms.{room, sound_more}
use Rattle.readers.specs.Read.{next_of}
use Rattle.readers.specs.declared.read.Taken.TheVariants.{Number}
use Rattle.readers.proofs.Reading.{rest-is, Given, given, fits_more, number-field, onward-number}
use Rattle.readers.proofs.read.read_on.Goals as goal
use Rattle.readers.proofs.read.read_on.Goals.{In-Number}

-- the next line gives a number
module _ (c : In-Number) where
  abbrev text : List ℕ
  text = c.args.text.now

  abbrev so_far : List ℕ
  so_far = take c.loop-v.i c.loop-v.vals

  taken : next_of (field_of c.args.form so_far) (drop c.loop-v.at text) ≡ Number c.in-Number.v c.in-Number.length
  taken =
      let e = sym (rw rest-is at c.next_line-taken.ensures ∙ ap (λ (d : Field). next_of d (drop c.loop-v.at text)) c.field_after-field.ensures) ∙ c.in-Number.is in
      ap (λ (d : Field). next_of d (drop c.loop-v.at text)) (sym (number-field _ _ _ _ _ _ e)) ∙ e

  known : Given (field_of c.args.form so_far) text c.loop-v.at c.in-Number.v c.in-Number.length
  known = given _ _ _ _ _ taken

  full : length c.loop-v.vals ≡ most_of c.args.form
  full = c.loop-v.invariant.length-kept ∙ c.requires.vals_len

  free : c.loop-v.i < most_of c.args.form
  free = rw (length-take-le c.loop-v.i c.loop-v.vals (omega (arith, full, c.loop-v.invariant.begun.few))) at (room _ _ _ c.loop-v.invariant.begun.sound known.allowed)

  more : take (c.loop-v.i + 1) (set c.loop-v.vals c.loop-v.i c.in-Number.v) ≡ so_far ++ (c.in-Number.v ∷ [])
  more = rw add-one (take-suc-set c.loop-v.vals c.loop-v.i c.in-Number.v (omega (arith, free, full)))

pub bounds-vals-i : goal.bounds-vals-i
bounds-vals-i c = omega (arith, free c, full c)

pub overflow_add-at : goal.overflow_add-at
overflow_add-at c = omega (arith, (known c).within)

pub loop-v-smaller : goal.loop-v-smaller
loop-v-smaller c = omega (arith, (known c).later, (known c).within)

pub loop-v-preserved : goal.loop-v-preserved
loop-v-preserved c =
    record {
      length-kept = simp length-set c.loop-v.invariant.length-kept;
      begun =
          record {
            within = (known c).within;
            few = omega (arith, free c);
            sound = rw (more c) (sound_more _ _ _ c.loop-v.invariant.begun.sound (known c).allowed);
          };
      fits = rw (more c) (fits_more c.args.form c.args.body (take c.loop-v.i c.loop-v.vals) c.in-Number.v c.loop-v.invariant.fits);
      more = omega (arith, c.loop-v.invariant.more);
      kept = take-set-le _ c.loop-v.vals _ _ c.loop-v.invariant.more ∙ c.loop-v.invariant.kept;
      later = omega (arith, c.loop-v.invariant.later, (known c).later);
      same = λ remarks. c.loop-v.invariant.same remarks ∙ onward-number _ _ _ _ _ _ _ _ _ (taken c) (more c);
    }
