-- What the movers put on a link: tunnel by tunnel, or with `unit=1` flow by flow.
use Prim.Native.Nat.{ℕ, ◌+◌, ◌*◌, ◌≤◌, ◌<◌}
use mathlib.Core.Path.{◌≡◌, refl, sym, ap, ap₂, ◌∙◌, fun_ext}
use mathlib.Core.Logic.{⊎_elim}
use mathlib.Core.Bool.{Bool, true, false, cond, ◌&&◌, true≢false}
use mathlib.Core.Option.{Option}
use native.Mathlib.Omega.{arith}
use borrow.Author.Tests.{eqb-true, eq-eqb, ne_eqb}
use lib.Dec.{eqb}
use Rattle.model.specs.Sum.{sum_over}
use Rattle.model.specs.Search.{only_if, is_none, first}
use Rattle.model.specs.Net.{Net}
use Rattle.model.specs.Scan.{Bound}
use Rattle.model.specs.Rule.{crosses, across, flow_sum, by_flow, movers, mover_of, flow_of, on_link, counts, load, movers_of}
use Rattle.model.proofs.Sums.{sum_mono, sum-cong, sum-add, sum-mul, sum-line, sum-pos, sum-groups}
use Rattle.model.proofs.Searches.{bool_cases, option_cases, and-true, only-some, only-true, first_some, first_found, first_cong}

-- ---- tunnels and flows

by-unit : {C : Type 0} (N : Net) → (by_flow N ≡ true → C) → (by_flow N ≡ false → C) → C
by-unit N f g = ⊎_elim f g (bool_cases (by_flow N))

pub unit-0 : (N : Net) → N.unit ≡ 0 → by_flow N ≡ false
unfolding by_flow
unit-0 N e = ne_eqb N.unit 1 (λ q. omega (arith, e, q))

pub unit-1 : (N : Net) → N.unit ≡ 1 → by_flow N ≡ true
unfolding by_flow
unit-1 N e = eq-eqb N.unit 1 e

module _ (N : Net) (e : by_flow N ≡ false) where
  pub movers-tunnels : movers N ≡ N.tunnels
  unfolding movers
  movers-tunnels = simp e

  pub mover-tunnel : (t : ℕ) → mover_of N t ≡ t
  unfolding mover_of
  mover-tunnel t = simp e

  pub flow-tunnel : (t : ℕ) → flow_of N t ≡ N.flow t
  unfolding flow_of
  flow-tunnel t = simp e

  pub on-tunnel : (l : ℕ) (x : ℕ → ℕ) (t : ℕ) → on_link N l x t ≡ across N l x t
  unfolding on_link
  on-tunnel l x t = simp e

module _ (N : Net) (e : by_flow N ≡ true) where
  pub movers-flows : movers N ≡ N.flows
  unfolding movers
  movers-flows = simp e

  pub mover-flow : (t : ℕ) → mover_of N t ≡ N.flow t
  unfolding mover_of
  mover-flow t = simp e

  pub flow-flow : (f : ℕ) → flow_of N f ≡ f
  unfolding flow_of
  flow-flow f = simp e

  pub on-flow : (l : ℕ) (x : ℕ → ℕ) (f : ℕ) → on_link N l x f ≡ flow_sum N (across N l x) f
  unfolding on_link
  on-flow l x f = simp e

-- either way, the flow of a tunnel's mover is the tunnel's
pub flow-mover : (N : Net) (t : ℕ) → flow_of N (mover_of N t) ≡ N.flow t
flow-mover N t = by-unit N (λ e. flow-flow N e (mover_of N t) ∙ mover-flow N e t) (λ e. flow-tunnel N e (mover_of N t) ∙ ap N.flow (mover-tunnel N e t))

-- ---- what a mover puts on a link

-- it depends on the tunnels that there are
pub on_same : (N : Net) (l : ℕ) {x y : ℕ → ℕ} → ((t : ℕ) → t < N.tunnels → x t ≡ y t) → (m : ℕ) → m < movers N → on_link N l x m ≡ on_link N l y m
unfolding flow_sum across
on_same N l {x} {y} h m k =
    by-unit N
    (λ e. on-flow N e l x m ∙ sum-cong N.tunnels _ (λ t g _. ap (λ (u : ℕ). cond (crosses N l t) u 0) (h t g)) ∙ sym (on-flow N e l y m))
    (λ e. on-tunnel N e l x m ∙ ap (λ (u : ℕ). cond (crosses N l m) u 0) (h m (rw movers-tunnels at k)) ∙ sym (on-tunnel N e l y m))

-- of amounts that are d times some and i times others
across-line : (b : Bool) (d i o v : ℕ) {x : ℕ} → x ≡ d * o + i * v → cond b x 0 ≡ d * cond b o 0 + i * cond b v 0
across-line true d i o v e = e
across-line false d i o v e = omega arith

pub on_line : (N : Net) (l d i : ℕ) (x o v : ℕ → ℕ) → ((t : ℕ) → x t ≡ d * o t + i * v t) → (m : ℕ) → on_link N l x m ≡ d * on_link N l o m + i * on_link N l v m
unfolding on_link flow_sum across
on_line N l d i x o v h m =
    by-unit N
    (λ e. rw e (sum-line N.tunnels _ d i _ _ _ (λ t _. across-line (crosses N l t) d i (o t) (v t) (h t))))
    (λ e. rw e (across-line (crosses N l m) d i (o m) (v m) (h m)))

-- where it is not 0, a tunnel of the mover crosses the link
cond_pos : (b : Bool) (u : ℕ) → 0 < cond b u 0 → b ≡ true
cond_pos true u h = refl
cond_pos false u h = absurd (omega arith)

pub mover-crosses : (N : Net) (l : ℕ) (x : ℕ → ℕ) (m : ℕ) → m < movers N → 0 < on_link N l x m
    → (t : ℕ) × (t < N.tunnels) × (crosses N l t ≡ true) × (mover_of N t ≡ m)
unfolding flow_sum across
mover-crosses N l x m k h =
    by-unit N
    (λ e.
    let s = sum-pos N.tunnels _ _ (rw (on-flow N e l x m) at h) in
    (s.0, s.1, cond_pos _ _ s.3, mover-flow N e s.0 ∙ eqb-true _ _ s.2))
    (λ e. (m, rw (movers-tunnels N e) at k, cond_pos _ _ (rw (on-tunnel N e l x m) at h), mover-tunnel N e m))

-- ---- the movers of some tunnels

module _ (N : Net) (s : ℕ → Bool) where
  abbrev of : ℕ → ℕ → Option ℕ
  of m t = only_if (s t && eqb (mover_of N t) m) t

  pub picked-mover : (t : ℕ) → t < N.tunnels → s t ≡ true → movers_of N s (mover_of N t) ≡ true
  unfolding movers_of is_none
  picked-mover t h e =
      let here : (s t && eqb (mover_of N t) (mover_of N t)) ≡ true = ap₂ ◌&&◌ e (eq-eqb (mover_of N t) (mover_of N t) refl) in
      rw (first_found (of (mover_of N t)) N.tunnels t t h (only-true (s t && eqb (mover_of N t) (mover_of N t)) t here)).1 refl

  pub mover-picked : (m : ℕ) → movers_of N s m ≡ true → (t : ℕ) × (t < N.tunnels) × (s t ≡ true) × (mover_of N t ≡ m)
  unfolding movers_of is_none
  mover-picked m e =
      ⊎_elim
      (λ q. absurd (true≢false (sym (rw q at e))))
      (λ r.
      let f = first_some (of m) N.tunnels r.0 r.1 in
      let b = and-true _ _ (only-some _ _ _ f.2).0 in
      (f.0, f.1, b.0, eqb-true _ _ b.1))
      (option_cases (first N.tunnels (of m)))

pub movers-same : (N : Net) (s r : ℕ → Bool) → ((t : ℕ) → t < N.tunnels → s t ≡ r t) → (m : ℕ) → movers_of N s m ≡ movers_of N r m
unfolding movers_of
movers-same N s r h m = rw (first_cong _ _ N.tunnels (λ t k. ap (λ (b : Bool). only_if (b && eqb (mover_of N t) m) t) (h t k)))

-- ---- loads

pub load-mono : (N : Net) (b : Bound) {y z : ℕ → ℕ} → ((m : ℕ) → y m ≤ z m) → load N b y ≤ load N b z
unfolding load
load-mono N b h = sum_mono (movers N) (counts N b) (λ m _ _. h m)

pub load-cong : (N : Net) (b : Bound) {y z : ℕ → ℕ} → ((m : ℕ) → m < movers N → y m ≡ z m) → load N b y ≡ load N b z
unfolding load
load-cong N b h = sum-cong (movers N) (counts N b) (λ m k _. h m k)

pub load-add : (N : Net) (b : Bound) (y z : ℕ → ℕ) → load N b (λ m. y m + z m) ≡ load N b y + load N b z
unfolding load
load-add N b y z = sum-add (movers N) (counts N b) y z

pub load-mul : (N : Net) (b : Bound) (k : ℕ) (y : ℕ → ℕ) → load N b (λ m. k * y m) ≡ k * load N b y
unfolding load
load-mul N b k y = sum-mul (movers N) (counts N b) k y

-- where all tunnels have the amounts x, a load is the same tunnel by tunnel and flow by flow
pub load-tunnels : (N : Net) (b : Bound) (l : ℕ) (x : ℕ → ℕ) → ((t : ℕ) → t < N.tunnels → N.flow t < N.flows)
    → load N b (on_link N l x) ≡ sum_over N.tunnels (λ t. counts N b (mover_of N t)) (across N l x)
unfolding load flow_sum
load-tunnels N b l x h =
    by-unit N
    (λ e.
    ap (load N b) (fun_ext (on-flow N e l x))
    ∙ simp (movers-flows N e, mover-flow N e) (sum-groups N.flows N.tunnels (counts N b) N.flow (across N l x) h))
    (λ e. ap (load N b) (fun_ext (on-tunnel N e l x)) ∙ simp (movers-tunnels N e, mover-tunnel N e))
