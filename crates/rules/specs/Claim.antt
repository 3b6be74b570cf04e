-- What holds of the stages, whenever a list of them is given.
use Rattle.std.specs.Prelude.{ℕ, ◌+◌, ◌*◌, ◌≤◌, ◌<◌, ◌≡◌, ◌≢◌, Bool, true, false, cond, not, ◌&&◌, ◌||◌, List, leb, ltb, length}
use Rattle.model.specs.Limits.{most_switches, most_tunnels}
use Rattle.model.specs.Outcome.{good}
use Rattle.lists.specs.Lists.{at}
use Rattle.forms.specs.Read.{read_text, judge_list}
use Rattle.forms.specs.declared.form.Form.TheVariants as forms
use Rattle.rules.specs.Rules.{Rules, keep, add, remove, is_kind, count, last_stage, usable}
use Rattle.rules.specs.Stage.{Move, Stages, too_many}
use Rattle.rules.specs.Lists.{rules_of, staged_list}

-- ---- the rules that the switches hold

-- a tunnel's move is done in stage i: its stage is i or an earlier one if c picks it, else an earlier one
unfoldable pub is_done : Stages → ℕ → (ℕ → Bool) → ℕ → Bool
is_done f i c t = cond (c t) (leb (f t) i) (ltb (f t) i)

-- the tunnels whose rules the switches hold then: those kept, those to add that are in, and those to remove that are not out
unfoldable pub holds : Rules → Stages → ℕ → (ℕ → Bool) → ℕ → Bool
holds R f i c t = is_kind R keep t || (is_kind R add t && is_done f i c t) || (is_kind R remove t && not (is_done f i c t))

-- after a stage all of its moves are done
abbrev pub whole : ℕ → Bool
whole t = true

-- of a stage so much is done: the tunnels to add below n; or all to add, and the tunnels to remove below n
unfoldable pub sofar : Rules → Move → ℕ → ℕ → Bool
sofar R Move.adds n t = is_kind R add t && ltb t n
sofar R Move.removes n t = is_kind R add t || ltb t n

-- ---- the claim

pub record Safe (R : Rules) (l : List ℕ) : Type 0 where
  pub size : length l ≡ R.tunnels
  -- "0 for a kept one"
  pub kept : (t : ℕ) → t < R.tunnels → R.kind t ≡ keep → at l t ≡ 0
  -- "all is done after stage k": each other tunnel has one stage, of 1 to k
  pub moved : (t : ℕ) → t < R.tunnels → R.kind t ≢ keep → (1 ≤ at l t) × (at l t ≤ last_stage R)
  -- after stage 0, which is before stage 1, the switches hold the old set, after stage k the new one
  pub begins : (t : ℕ) → t < R.tunnels → holds R (at l) 0 whole t ≡ not (is_kind R add t)
  pub ends : (t : ℕ) → t < R.tunnels → holds R (at l) (last_stage R) whole t ≡ not (is_kind R remove t)
  -- "after each stage `slack` is free", as it is before stage 1
  pub free : (i s : ℕ) → i ≤ last_stage R → s < R.switches → 1000 * count R (holds R (at l) i whole) s ≤ usable R s
  -- "No switch exceeds its room": in any stage, whichever of its moves are done, each for itself and in any order
  pub within : (i s : ℕ) → 1 ≤ i → i ≤ last_stage R → s < R.switches → (c : ℕ → Bool) → count R (holds R (at l) i c) s ≤ R.room s
  -- "even between adding and removing", and at each moment of both, where they go in number order
  pub moments : (i s : ℕ) → 1 ≤ i → i ≤ last_stage R → s < R.switches → (m : Move) (n : ℕ) → count R (holds R (at l) i (sofar R m n)) s ≤ R.room s

-- both sets fit at every switch
pub record Fit (R : Rules) : Type 0 where
  pub old : (s : ℕ) → s < R.switches → too_many R remove s ≡ false
  pub new : (s : ℕ) → s < R.switches → too_many R add s ≡ false

-- the longest text: 4 lines with 41 bytes, for each switch one of 11, and for each tunnel one of 21 and one of 7
abbrev pub most_rule_bytes : ℕ
most_rule_bytes = 41 + 11 * most_switches + 28 * most_tunnels

pub record Claim : Type 0 where
  -- the stages that are given, whatever the list
  pub safe : (input l : List ℕ) → staged_list input ≡ good l → Safe (rules_of input) l
  -- and they are given to every list that is judged good and whose sets fit
  pub given : (input : List ℕ) → judge_list forms.Rules input ≡ good input → Fit (rules_of input) → (l : List ℕ) × (staged_list input ≡ good l)
  -- no valid text is longer
  pub longest : (text l : List ℕ) → read_text forms.Rules text ≡ good l → length text ≤ most_rule_bytes
