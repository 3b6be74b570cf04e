-- Reading, judging and writing, by name for each form. Abbreviations: no promise of the product cites these.
use Rattle.std.specs.Prelude.{ℕ, List}
use Rattle.model.specs.Outcome.{Outcome}
use Rattle.forms.specs.Read.{read_text, judge_list}
use Rattle.forms.specs.Write.{write_text}
use Rattle.forms.specs.declared.form.Form.TheVariants.{Network, Plan, Rules}

abbrev pub read_network : List ℕ → Outcome (List ℕ)
read_network text = read_text Network text

abbrev pub read_plan : List ℕ → Outcome (List ℕ)
read_plan text = read_text Plan text

abbrev pub read_rules : List ℕ → Outcome (List ℕ)
read_rules text = read_text Rules text

abbrev pub judge_network : List ℕ → Outcome (List ℕ)
judge_network l = judge_list Network l

abbrev pub judge_plan : List ℕ → Outcome (List ℕ)
judge_plan l = judge_list Plan l

abbrev pub judge_rules : List ℕ → Outcome (List ℕ)
judge_rules l = judge_list Rules l

abbrev pub write_network : List ℕ → Outcome (List ℕ)
write_network l = write_text Network l

abbrev pub write_plan : List ℕ → Outcome (List ℕ)
write_plan l = write_text Plan l

abbrev pub write_rules : List ℕ → Outcome (List ℕ)
write_rules l = write_text Rules l
