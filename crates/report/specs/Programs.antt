-- What holds of the two programs together.
use Rattle.std.specs.Prelude.{ℕ, ◌≡◌, List, take}
use Rattle.model.specs.Outcome.{good}
use Rattle.lists.specs.Answers.{with_room}
use Rattle.lists.specs.declared.Answer.TheVariants.{Done}
use Rattle.forms.specs.Laws.{most_bytes}
use Rattle.report.specs.Printed.{plan_text, check_texts}

pub record Programs : Type 0 where
  -- what the planning program prints for a text, the checking program accepts with it
  pub composed : (text plan : List ℕ) → plan_text text ≡ good plan → (tunnels : ℕ) × (check_texts text plan ≡ Done tunnels)
  -- "Both read at most 65,536 bytes of a text": what stands after them changes nothing that is printed, and a plan text has no more
  pub plan_bytes : (text : List ℕ) → plan_text (take most_bytes text) ≡ plan_text text
  pub check_bytes : (network plan : List ℕ) → check_texts (take most_bytes network) (take most_bytes plan) ≡ check_texts network plan
  pub plan_room : (text : List ℕ) → with_room most_bytes (plan_text text) ≡ plan_text text
