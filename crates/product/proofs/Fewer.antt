-- A network that asks less, or a lag at which less is asked: what is accepted of one is accepted of the other, and the planner's fewest steps are no more.
use Prim.Native.Nat.{ℕ, ◌-◌, ◌*◌, ◌≤◌}
use mathlib.Core.Path.{◌≡◌, refl, ap, ◌∙◌}
use mathlib.Core.Bool.{true}
use mathlib.Core.List.{List}
use mathlib.Core.Option.{some, Option-elim}
use native.Mathlib.Omega.{arith}
use native.Mathlib.Nat.{le_trans, mul-le-mul_right}
use lib.ListN.{length}
use Rattle.model.specs.Net.{Plan}
use Rattle.model.specs.Outcome.{good, is_lag}
use Rattle.model.specs.Rule.{accepted}
use Rattle.model.specs.Even.{even, fewest}
use Rattle.model.proofs.Rows.{accepted-both}
use Rattle.model.proofs.Choices.{none_kept, kept-none}
use Rattle.model.proofs.Bounded.{fewest-least}
use Rattle.lists.specs.Lists.{at, network_of, plan_of}
use Rattle.forms.specs.Named.{judge_network}
use Rattle.planner.specs.Planned.{even_list, even_plan, planned}
use Rattle.planner.proofs.EvenLists.{list-head, list_length}
use Rattle.planner.proofs.Judged.{planned-good}
use Rattle.planner.proofs.Main.{claim}
use Rattle.product.specs.Demand2.{Accepts}
use Rattle.product.specs.Demand3.{Returns}
use Rattle.product.proofs.Main.{returned, returns-planned, returns-room}
use Rattle.product.proofs.Plans.{demand2}

-- the network of a list n at a lag of w, and that of m at v, which has as many tunnels
module _ (w v : ℕ) (n m : List ℕ) (lag : is_lag v ≡ true) (j : judge_network m ≡ good m) (tunnels : (network_of n).tunnels ≡ (network_of m).tunnels) where
  pub less-accepts : ((P : Plan) → accepted w (network_of n) P ≡ true → accepted v (network_of m) P ≡ true) → (p : List ℕ) (room : ℕ) → Accepts w n p room → Accepts v m p room
  less-accepts passes p room a =
      let r = (demand2.accepts w n p room).0 a in
      let q = (accepted-both v (network_of m) (plan_of p)).0 (passes (plan_of p) ((accepted-both w (network_of n) (plan_of p)).1 (r.0.rows, kept-none w (network_of n) (plan_of p) r.1))) in
      (demand2.accepts v m p room).1 (
        record { lag = lag; network = j; plan = r.0.plan; tunnels = r.0.tunnels ∙ tunnels; rows = q.0; room = omega (arith, tunnels, r.0.room) },
        none_kept v (network_of m) (plan_of p) q.1,
      )

  even-planned : (q : ℕ) → fewest v (network_of m) ≡ some q → planned v m ≡ good (even_list (network_of m) q)
  unfolding even_plan Option-elim
  even-planned q e = planned-good v m lag j ∙ rw e refl

  -- fewer steps need no more room
  module _ (p : List ℕ) (q r : ℕ) (list : p ≡ even_list (network_of n) q) (less : r ≤ q) where
    steps-fewer : (plan_of (even_list (network_of m) r)).steps ≤ (plan_of p).steps
    unfolding plan_of
    steps-fewer = omega (arith, (list-head (network_of m) r).2, ap (λ (l : List ℕ). at l 2) list ∙ (list-head (network_of n) q).2)

    room-fewer : length (even_list (network_of m) r) ≤ length p
    room-fewer =
        let k : r - 1 ≤ q - 1 = omega arith in
        omega (arith, list_length (network_of m) r, ap length list, list_length (network_of n) q, mul-le-mul_right (network_of n).tunnels k, ap (λ (t : ℕ). (r - 1) * t) tunnels)

  pub less-returns : ((q : ℕ) → accepted w (network_of n) (even (network_of n) q) ≡ true → accepted v (network_of m) (even (network_of m) q) ≡ true)
      → (p out : List ℕ) → Returns w n p out → (q : List ℕ) × ((plan_of q).steps ≤ (plan_of p).steps) × Returns v m q out
  less-returns passes p out r =
      let f = claim.fewest w n p (returns-planned w n p out r) in
      let s = fewest-least v (network_of m) f.steps f.least f.most (passes f.steps f.accepted) in
      let q = even_list (network_of m) s.0 in
      (q, steps-fewer p f.steps s.0 f.list s.2, returned v m q out (even-planned s.0 s.1) (le_trans (room-fewer p f.steps s.0 f.list s.2) (returns-room w n p out r)))
