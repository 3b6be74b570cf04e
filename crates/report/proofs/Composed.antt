-- What holds of the two programs together.
use Prim.Native.Nat.{ℕ, ◌≤◌}
use mathlib.Core.Path.{◌≡◌, sym, ap, ap₂, ◌∙◌}
use mathlib.Core.List.{List}
use lib.ListN.{length}
use Rattle.model.specs.Outcome.{Outcome, good, and_then}
use Rattle.model.specs.Limits.{most_tunnels}
use Rattle.model.proofs.Outcomes.{then-good, good-same}
use Rattle.lists.specs.Lists.{network_of}
use Rattle.lists.specs.declared.Answer.TheVariants.{Done}
use Rattle.forms.specs.Laws.{most_bytes}
use Rattle.forms.specs.Write.{render}
use Rattle.forms.specs.Named.{read_network, read_plan, write_plan, judge_plan}
use Rattle.forms.specs.declared.form.Form.TheVariants as form
use Rattle.forms.proofs.Good.{good-network}
use Rattle.forms.proofs.Round.{file-form, read-good, good-read}
use Rattle.planner.specs.Planned.{planned}
use Rattle.planner.proofs.Main.{safe}
use Rattle.checker.specs.Check.{verdict, checked}
use Rattle.product.proofs.Main.{accepted}
use Rattle.report.specs.Printed.{plan_text, on_read, check_texts}
use Rattle.report.specs.Programs.{Programs}
use Rattle.report.proofs.Room.{fits}

-- a plan text that is printed: its network, its plan, and that it is the plan's rendering
record Printed (text t : List ℕ) : Type 0 where
  network : List ℕ
  read : read_network text ≡ good network
  plan : List ℕ
  made : planned 1 network ≡ good plan
  judged : judge_plan plan ≡ good plan
  written : t ≡ render form.Plan plan

printed : (text t : List ℕ) → plan_text text ≡ good t → Printed text t
printed text t e =
    let r = then-good (read_network text) (λ n. and_then (planned 1 n) write_plan) t e in
    let p = then-good (planned 1 r.0) write_plan t r.2 in
    let s = safe 1 r.0 p.0 p.1 in
    record {
      network = r.0;
      read = r.1;
      plan = p.0;
      made = p.1;
      judged = s.judged;
      written = good-same _ _ (sym p.2 ∙ ap (λ (o : Outcome (List ℕ)). and_then o (λ g. good (render form.Plan g))) s.judged);
    }

composed : (text t : List ℕ) → plan_text text ≡ good t → (tunnels : ℕ) × (check_texts text t ≡ Done tunnels)
unfolding network_of
composed text t e =
    let w = printed text t e in
    let n = w.network in
    let few : (network_of n).tunnels ≤ most_tunnels = (good-network n n (read-good form.Network text n w.read)).1.ranges.sized.counts.tunnels in
    let again : read_plan t ≡ good w.plan = ap read_plan w.written ∙ good-read form.Plan w.plan w.judged in (
      (network_of n).tunnels,
      ap₂ (λ (a b : Outcome (List ℕ)). on_read a (λ m. on_read b (λ p. checked m (verdict 1 m p most_tunnels)))) w.read again ∙ accepted 1 n w.plan most_tunnels w.made few,
    )

plan-short : (text t : List ℕ) → plan_text text ≡ good t → length t ≤ most_bytes
plan-short text t e =
    let w = printed text t e in
    (file-form form.Plan).short t w.plan (ap read_plan w.written ∙ good-read form.Plan w.plan w.judged)

pub programs : Programs
programs = record {
  composed = composed;
  plan_bytes = λ text. ap (λ (o : Outcome (List ℕ)). and_then o (λ n. and_then (planned 1 n) write_plan)) ((file-form form.Network).first_bytes text);
  check_bytes = λ network plan.
      ap₂ (λ (a b : Outcome (List ℕ)). on_read a (λ n. on_read b (λ p. checked n (verdict 1 n p most_tunnels)))) ((file-form form.Network).first_bytes network) ((file-form form.Plan).first_bytes plan);
  plan_room = λ text. fits most_bytes (plan_text text) (plan-short text);
}
