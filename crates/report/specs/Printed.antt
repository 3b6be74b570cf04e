-- What the two programs come to and print, given the bytes that they read.
use Rattle.std.specs.Prelude.{ℕ, List, [], ◌∷◌, ◌++◌}
use Rattle.model.specs.Outcome.{Outcome, good, refused, and_then, number}
use Rattle.model.specs.Limits.{most_tunnels}
use Rattle.lists.specs.declared.Answer.{Answer}
use Rattle.lists.specs.declared.Answer.TheVariants.{Done, Plan, Refused}
use Rattle.forms.specs.Bytes.{bytes}
use Rattle.forms.specs.Write.{digits_in, width_from}
use Rattle.forms.specs.Named.{read_network, read_plan, write_plan}
use Rattle.planner.specs.Planned.{planned}
use Rattle.checker.specs.Check.{verdict, checked}

-- "programs use 1" as the lag. "The planning program reads a network on standard input and prints the plan text": that text, or a refusal
abbrev pub plan_text : List ℕ → Outcome (List ℕ)
plan_text text = and_then (read_network text) (λ network. and_then (planned 1 network) write_plan)

-- what comes after a text is read; its refusal is the answer
abbrev pub on_read : Outcome (List ℕ) → (List ℕ → Answer) → Answer
on_read (good l) next = next l
on_read (refused c place second) next = Refused (number c) place second

-- what the checking program comes to: "the whole network first, then the whole plan", and then the check, with room for the marks
abbrev pub check_texts : List ℕ → List ℕ → Answer
check_texts network plan = on_read (read_network network) (λ n. on_read (read_plan plan) (λ p. checked n (verdict 1 n p most_tunnels)))

-- ---- what is printed

-- a number below 10^20, and so every 64-bit number, in decimal
unfoldable pub decimal : ℕ → List ℕ
decimal v = digits_in 10 (width_from 19 1 v) v

abbrev pub printed_line : List ℕ → ℕ → List ℕ
printed_line key v = key ++ (decimal v ++ (10 ∷ []))

-- "After a refusal it prints the lines `refused=`, `place=`, `second=` instead."
abbrev pub refusal_lines : ℕ → ℕ → ℕ → List ℕ
refusal_lines number place second = printed_line (bytes "refused=") number ++ printed_line (bytes "place=") place ++ printed_line (bytes "second=") second

abbrev pub printed_plan : Outcome (List ℕ) → List ℕ
printed_plan (good text) = text
printed_plan (refused c place second) = refusal_lines (number c) place second

-- "prints `accepted=1`, or those three lines"
abbrev pub printed_check : Answer → List ℕ
printed_check (Done n) = bytes "accepted=1\n"
printed_check (Plan n) = bytes "accepted=1\n"
printed_check (Refused number place second) = refusal_lines number place second
