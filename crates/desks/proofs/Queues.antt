-- Laws of a value seen as a state: what the stores of the two inner functions make of it.
use Prim.Native.Nat.{ℕ, zero, suc, ◌+◌, ◌-◌, ◌*◌, ◌%◌, ◌<◌, min}
use mathlib.Core.Path.{◌≡◌, refl, sym, ap, ap₂, ◌∙◌, fun_ext}
use mathlib.Core.Logic.{◌≢◌}
use mathlib.Core.Bool.{cond}
use mathlib.Core.List.{List, [], ◌∷◌, ◌++◌}
use mathlib.Core.Option.{none, some}
use native.Mathlib.Omega.{arith}
use lib.ListN.{length, get_or, set, replicate}
use lib.Seq.{get_or-set_same, get_or-set_other}
use Rattle.model.specs.Search.{first}
use Rattle.model.proofs.Searches.{first-zero, first_on, first-at}
use Rattle.model.specs.Listed.{listed}
use Rattle.model.proofs.Listed.{listed-length, listed-cong, listed-front}
use Rattle.desks.specs.State.{Job, State, empty, replaced, joined, before, work, work_at, first_work, hand_of}
use Rattle.desks.specs.Round.{in_round, jobs_before}
use Rattle.desks.specs.Seen.{place_of, job_at, seen, told_job}
use Rattle.desks.specs.declared.Desks.{Desks}
use Rattle.std.specs.declared.result.Result.TheVariants.{Ok}
use Rattle.desks.proofs.States.{by-desk, work-on}

-- ---- a queue of a value
pub seen-length : (s : Desks) (d : ℕ) → length ((seen s).queue d) ≡ min (get_or s.waiting d 0) 4
unfolding seen
seen-length s d = listed-length (min (get_or s.waiting d 0) 4) (job_at s d)

-- the jobs before one that is submitted, by the counts
pub seen-before : (s : Desks) (d : ℕ)
    → jobs_before (λ e. min (get_or s.waiting e 0) 4) s.last d (min (get_or s.waiting d 0) 4) ≡ before (seen s) d (length ((seen s).queue d))
unfolding seen
seen-before s d = ap₂ (λ counts p. jobs_before counts s.last d p) (fun_ext (λ e. sym (seen-length s e))) (sym (seen-length s d))

pub seen_none : (s : Desks) (d : ℕ) → get_or s.waiting d 0 ≡ 0 → (seen s).queue d ≡ []
unfolding seen listed
seen_none s d e = ap (λ n. listed (min n 4) (job_at s d)) e

pub seen-some : (s : Desks) (d : ℕ) → 0 < get_or s.waiting d 0
    → (seen s).queue d ≡ job_at s d 0 ∷ listed (min (get_or s.waiting d 0) 4 - 1) (λ i. job_at s d (suc i))
unfolding seen
seen-some s d h =
    let e : min (get_or s.waiting d 0) 4 ≡ suc (min (get_or s.waiting d 0) 4 - 1) = omega (arith, h) in
    ap (λ n. listed n (job_at s d)) e ∙ listed-front (min (get_or s.waiting d 0) 4 - 1) (job_at s d)

-- two states with the same parts
state-is : (s t : State) → ((d : ℕ) → s.queue d ≡ t.queue d) → s.last ≡ t.last → ((d : ℕ) → s.counter d ≡ t.counter d) → s ≡ t
state-is s t q l c =
    ap (λ f. record { queue = f; last = s.last; counter = s.counter }) (fun_ext q)
    ∙ ap₂ (λ a b. record { queue = t.queue; last = a; counter = b }) l (fun_ext c)

-- ---- nothing waits, and no number was given
no-count : (n d : ℕ) → ◌≡◌ {A = ℕ} (get_or (replicate n 0) d 0) 0
no-count zero d = refl
no-count (suc n) zero = refl
no-count (suc n) (suc d) = no-count n d

pub seen-empty : (s : Desks) → s.waiting ≡ replicate 8 0 → s.last ≡ 7 → s.counters ≡ replicate 8 0 → seen s ≡ empty
unfolding empty seen
seen-empty s w l c = state-is (seen s) empty (λ d. seen_none s d (zero-at w d)) l (zero-at c)
  where
    zero-at : {l : List ℕ} → l ≡ replicate 8 0 → (d : ℕ) → get_or l d 0 ≡ 0
    zero-at e d = ap (λ x. get_or x d 0) e ∙ no-count 8 d

-- ---- a job is put into its place
abbrev stored : Desks → ℕ → ℕ → ℕ → ℕ → Desks
stored s d at number tag = record {
  numbers = set s.numbers at number;
  tags = set s.tags at tag;
  oldest = s.oldest;
  waiting = set s.waiting d (get_or s.waiting d 0 + 1);
  last = s.last;
  counters = set s.counters d number;
}

-- the desk's counter is replaced
set-replaced : (l : List ℕ) (d v e : ℕ) → d < length l → get_or (set l d v) e 0 ≡ replaced d v (λ i. get_or l i 0) e
unfolding replaced
set-replaced l d v e h =
    by-desk e d (λ b. get_or (set l d v) e 0 ≡ cond b v (get_or l e 0))
    (λ o. ap (λ i. get_or (set l d v) i 0) o ∙ get_or-set_same l d v 0 h)
    (λ o. get_or-set_other l d e v 0 o)

-- the jobs at other places stay
stored_other : (s : Desks) (d at number tag e i : ℕ) → place_of s e i ≢ at → job_at (stored s d at number tag) e i ≡ job_at s e i
unfolding job_at
stored_other s d at number tag e i h =
    ap₂ (λ a b. record { number = a; tag = b }) (get_or-set_other s.numbers at (place_of s e i) number 0 h) (get_or-set_other s.tags at (place_of s e i) tag 0 h)

stored_here : (s : Desks) (d at number tag i : ℕ) → at ≡ place_of s d i → at < length s.numbers → at < length s.tags
    → job_at (stored s d at number tag) d i ≡ record { number = number; tag = tag }
unfolding job_at
stored_here s d at number tag i e h k =
    ap (λ p. record { number = get_or (set s.numbers at number) p 0; tag = get_or (set s.tags at tag) p 0 }) (sym e)
    ∙ ap₂ (λ a b. record { number = a; tag = b }) (get_or-set_same s.numbers at number 0 h) (get_or-set_same s.tags at tag 0 k)

pub stored-joins : (s : Desks) (d at number tag : ℕ) → at ≡ place_of s d (get_or s.waiting d 0) → d < 8 → get_or s.waiting d 0 < 4
    → length s.numbers ≡ 32 → length s.tags ≡ 32 → length s.waiting ≡ 8 → length s.counters ≡ 8
    → seen (stored s d at number tag) ≡ joined d (record { number = number; tag = tag }) (seen s)
unfolding joined replaced seen listed
stored-joins s d at number tag a h l n g w c =
    let t : Desks = stored s d at number tag in
    let job : Job = record { number = number; tag = tag } in
    let k : ℕ = get_or s.waiting d 0 in
    let more : min (get_or t.waiting d 0) 4 ≡ suc k =
    ap (λ x. min x 4) (get_or-set_same s.waiting d (k + 1) 0 (omega (arith, w, h))) ∙ omega (arith, l) in
    let all : min k 4 ≡ k = omega (arith, l) in
    state-is (seen t) (joined d job (seen s))
    (λ e. by-desk e d (λ b. (seen t).queue e ≡ cond b ((seen s).queue d ++ job ∷ []) ((seen s).queue e))
    (λ o.
    ap (seen t).queue o
    ∙ ap (λ m. listed m (job_at t d)) more
    ∙ ap₂ (λ (f : List Job) (j : Job). f ++ j ∷ [])
    (listed-cong (job_at t d) (job_at s d) k (λ i x. stored_other s d at number tag d i (λ y. omega (arith, y, x, a, l)))
    ∙ ap (λ m. listed m (job_at s d)) (sym all))
    (stored_here s d at number tag k a (omega (arith, n, h, a)) (omega (arith, g, h, a))))
    (λ o.
    ap (λ x. listed (min x 4) (job_at t e)) (get_or-set_other s.waiting d e (k + 1) 0 o)
    ∙ listed-cong (job_at t e) (job_at s e) (min (get_or s.waiting e 0) 4) (λ i x. stored_other s d at number tag e i (λ y. o (omega (arith, y, a))))))
    refl (λ e. set-replaced s.counters d number e (omega (arith, c, h)))

-- ---- the oldest job is taken
abbrev taken : Desks → ℕ → ℕ → Desks
taken s d count = record {
  numbers = s.numbers;
  tags = s.tags;
  oldest = set s.oldest d (get_or s.oldest d 0 % 4 + 1);
  waiting = set s.waiting d (count - 1);
  last = d;
  counters = s.counters;
}

taken-same : (s : Desks) (d count i : ℕ) → d < length s.oldest → job_at (taken s d count) d i ≡ job_at s d (suc i)
unfolding job_at
taken-same s d count i h =
    let e : place_of (taken s d count) d i ≡ place_of s d (suc i) =
    ap (λ x. 4 * d + (x + i) % 4) (get_or-set_same s.oldest d (get_or s.oldest d 0 % 4 + 1) 0 h) ∙ omega arith in
    ap (λ p. record { number = get_or s.numbers p 0; tag = get_or s.tags p 0 }) e

taken-other : (s : Desks) (d count e i : ℕ) → e ≢ d → job_at (taken s d count) e i ≡ job_at s e i
unfolding job_at
taken-other s d count e i h =
    ap (λ x. record { number = get_or s.numbers (4 * e + (x + i) % 4) 0; tag = get_or s.tags (4 * e + (x + i) % 4) 0 })
    (get_or-set_other s.oldest d e (get_or s.oldest d 0 % 4 + 1) 0 h)

-- the work of a desk that has some
pub seen-work : (s : Desks) (d : ℕ) → 0 < get_or s.waiting d 0
    → work d ((seen s).queue d) ≡ some (record { desk = d; oldest = job_at s d 0; others = listed (min (get_or s.waiting d 0) 4 - 1) (λ i. job_at s d (suc i)) })
seen-work s d h = ap (work d) (seen-some s d h) ∙ work-on d _ _

-- ---- the round, by the counts
pub nobody-yet : (s : Desks) → first 0 (work_at (seen s)) ≡ none
nobody-yet s = first-zero (work_at (seen s))

pub nobody : (s : Desks) → first 8 (work_at (seen s)) ≡ none → first_work (seen s) ≡ none
unfolding first_work seen
nobody s e = e

pub passed : (s : Desks) (k d : ℕ) → d ≡ in_round s.last k → first k (work_at (seen s)) ≡ none → get_or s.waiting d 0 ≡ 0 → first (k + 1) (work_at (seen s)) ≡ none
unfolding work seen
passed s k d e n z = first_on (work_at (seen s)) k n (ap (λ x. work x ((seen s).queue x)) (sym e) ∙ ap (work d) (seen_none s d z))

pub found : (s : Desks) (k d : ℕ) → d ≡ in_round s.last k → k < 8 → first k (work_at (seen s)) ≡ none → 0 < get_or s.waiting d 0 → first_work (seen s) ≡ work d ((seen s).queue d)
unfolding first_work seen
found s k d e h n w = first-at (work_at (seen s)) k 8 _ n (ap (λ x. work x ((seen s).queue x)) (sym e) ∙ seen-work s d w) h ∙ sym (seen-work s d w)

pub taken-leaves : (s : Desks) (d count : ℕ) → count ≡ min (get_or s.waiting d 0) 4 → d < 8 → 0 < get_or s.waiting d 0 → length s.oldest ≡ 8 → length s.waiting ≡ 8
    → seen (taken s d count) ≡ (hand_of (seen s) (work d ((seen s).queue d))).state
unfolding hand_of replaced seen
taken-leaves s d count c h l o w =
    let t : Desks = taken s d count in
    let m : ℕ = min (get_or s.waiting d 0) 4 - 1 in
    let younger : List Job = listed m (λ i. job_at s d (suc i)) in
    let fewer : min (get_or t.waiting d 0) 4 ≡ m = ap (λ x. min x 4) (get_or-set_same s.waiting d (count - 1) 0 (omega (arith, w, h))) ∙ omega (arith, c) in
    state-is (seen t) _
    (λ e. by-desk e d (λ b. (seen t).queue e ≡ cond b younger ((seen s).queue e))
    (λ y. ap (seen t).queue y ∙ ap (λ x. listed x (job_at t d)) fewer ∙ listed-cong (job_at t d) _ m (λ i x. taken-same s d count i (omega (arith, o, h))))
    (λ y.
    ap (λ x. listed (min x 4) (job_at t e)) (get_or-set_other s.waiting d e (count - 1) 0 y)
    ∙ listed-cong (job_at t e) (job_at s e) (min (get_or s.waiting e 0) 4) (λ i x. taken-other s d count e i y)))
    refl (λ e. refl)
    ∙ ap (λ v. (hand_of (seen s) v).state) (sym (seen-work s d l))

-- and answered
pub taken-told : (s : Desks) (d at : ℕ) → at ≡ place_of s d 0 → 0 < get_or s.waiting d 0
    → Ok (record { desk = d; number = get_or s.numbers at 0; tag = get_or s.tags at 0 }) ≡ told_job (hand_of (seen s) (work d ((seen s).queue d))).answer
unfolding hand_of job_at
taken-told s d at a h =
    ap (λ p. Ok (record { desk = d; number = get_or s.numbers p 0; tag = get_or s.tags p 0 })) a
    ∙ ap (λ v. told_job (hand_of (seen s) v).answer) (sym (seen-work s d h))
