use Rattle.std.proofs.Common.{ℕ, ◌+◌, ◌-◌, ◌≡◌, ◌≤◌, List, ◌++◌, rules, length, take, sym, ap, ◌∙◌, subst, length-take-le}
use lib.Seq.{take-append-add, take-append-le}
use borrow.Rule.Slice.PartMut.{put_mid, post_of}
use Rattle.std.specs.Io.KnownBytes.{Consumes}
use Rattle.std.proofs.KnownBytes.{Consumes-trans}
use Rattle.report.proofs.input.read_full.Goals as goal

-- what was read stands behind what stood there
joined : (a k n : ℕ) (xs ys : List ℕ) → a ≤ length xs → n ≤ length ys → take a xs ++ take n ys ≡ take (a + n) (put_mid a k xs ys)
joined a k n xs ys within fits =
    let size : length (take a xs) ≡ a = length-take-le a xs within in
    ap (λ l. take a xs ++ l) (sym (take-append-le n ys (post_of a k xs) fits))
    ∙ sym (take-append-add (take a xs) (ys ++ post_of a k xs) n)
    ∙ ap (λ m. take (m + n) (put_mid a k xs ys)) size

pub loop-done-preserved : goal.loop-done-preserved
loop-done-preserved g c =
    let e = joined c.loop-done.done (length c.loop-done.buf - c.loop-done.done) c.in-Ok.count c.loop-done.buf c.read.new.buf c.loop-done.invariant.within c.in-Ok.ensures.bound.0 in
    record {
      within = search rules;
      consumed = subst (Consumes _ _) e (Consumes-trans _ _ _ _ _ c.loop-done.invariant.consumed c.in-Ok.ensures.bytes.0);
    }
