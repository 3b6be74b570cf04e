-- The longest text of rule tables: how many bytes its lines have at most.
use mathlib.Core.Path.{◌≡◌, refl, ap, ◌∙◌}
use mathlib.Core.List.{List}
use Prim.Native.Nat.{ℕ, zero, suc, ◌+◌, ◌*◌, ◌^◌, ◌≤◌, ◌<◌}
use native.Mathlib.Nat.{le_of_lt}
use native.Mathlib.Omega.{arith}
use lib.ListN.{length, get_or, take, drop}
use Rattle.model.specs.Limits.{most_tunnels, most_switches, most_room, least_share, most_share}
use Rattle.model.specs.Outcome.{good}
use Rattle.lists.specs.Lists.{at, table_sizes, room_at, rule_at}
use Rattle.lists.specs.declared.RuleTables.{RuleTables}
use Rattle.forms.specs.Keys.{prefix_of}
use Rattle.forms.specs.declared.form.Key.{Key}
use Rattle.forms.specs.declared.form.Key.TheVariants as key
use Rattle.std.specs.Prelude.{None}
use Rattle.forms.specs.Form.{line, field_of, rules_lines, rules_body, Sound}
use Rattle.forms.specs.Read.{read_text}
use Rattle.forms.specs.Write.{render_from, render}
use Rattle.forms.specs.declared.form.Form.TheVariants.{Rules}
use Rattle.forms.specs.declared.form.Range.TheVariants.{Between, Set}
use Rattle.forms.proofs.Forms.{between, sound-at, rules-head-field, rules-body-field, body-room, body-rule}
use Rattle.forms.proofs.Numbers.{width-most}
use Rattle.forms.proofs.Rendering.{render-end, line-length, line-then}
use Rattle.forms.proofs.Remarks.{none_remarks}
use Rattle.forms.proofs.Round.{read-good, rendered}
use Rattle.forms.proofs.Walks.{judged-good}
use Rattle.rules.specs.Lists.{GoodRules}
use Rattle.rules.specs.Claim.{most_rule_bytes}
use Rattle.rules.proofs.Good.{good-rules}

module _ (l : List ℕ) (g : GoodRules l) (s : Sound Rules l) where
  -- how many bytes the lines from i on have
  abbrev from : ℕ → ℕ
  from i = length (render_from Rules (take i l) (drop i l))

  -- a line whose number has at most d digits, and a line of a set
  number-then : (k : Key) (low high d i : ℕ) → field_of Rules (take i l) ≡ line k (Between low high) → 1 ≤ d → d ≤ 10 → high < 10 ^ d → i < length l
      → from i ≤ length (prefix_of k) + d + 1 + from (i + 1)
  number-then k low high d i e one ten small h =
      let v : at l i ≤ high = (between low high (at l i) (rw e at (sound-at Rules l i h s))).1 in
      line-then Rules l i (length (prefix_of k) + d + 1) h
      (rw e (omega (arith, line-length k (Between low high) (at l i), width-most (at l i) d one ten (omega (arith, v, small)))))

  set_then : (k : Key) (n i : ℕ) → field_of Rules (take i l) ≡ line k (Set n) → i < length l → from i ≤ length (prefix_of k) + 17 + from (i + 1)
  set_then k n i e h = line-then Rules l i (length (prefix_of k) + 17) h (rw e (omega (arith, line-length k (Set n) (at l i))))

  abbrev sizes : RuleTables
  sizes = table_sizes l

  -- the lines of the tunnels from t on, of which k are left, and before them those of the switches
  tunnels-then : (k t : ℕ) → t + k ≡ sizes.tunnels → from (rule_at sizes t) ≤ k * 28
  tunnels-then zero t e = rw (render-end Rules (take (rule_at sizes t) l) l (rule_at sizes t) (omega (arith, g.size))) (omega arith)
  tunnels-then (suc k) t e =
      let i : ℕ = rule_at sizes t in
      let h : rule_at sizes t + 1 < length l = omega (arith, g.size) in
      let in-t : t < sizes.tunnels = omega arith in
      let first : rule_at sizes t ≡ rule_at sizes t + 0 = omega arith in
      let via : field_of Rules (take (rule_at sizes t) l) ≡ line key.Via (Set sizes.switches)
      = rules-body-field l i (omega arith) (omega arith) ∙ ap (rules_body sizes) first ∙ body-rule sizes t 0 in-t (omega arith) in
      let kind : field_of Rules (take (rule_at sizes t + 1) l) ≡ line key.Kind (Between 1 3)
      = rules-body-field l (i + 1) (omega arith) (omega arith) ∙ body-rule sizes t 1 in-t (omega arith) in
      let n : rule_at sizes t + 1 + 1 ≡ rule_at sizes (t + 1) = omega arith in
      let rest : from (rule_at sizes t + 1 + 1) ≤ k * 28 = rw n (tunnels-then k (t + 1) (omega arith)) in
      omega (arith, set_then key.Via sizes.switches (rule_at sizes t) via (omega arith), number-then key.Kind 1 3 1 (rule_at sizes t + 1) kind (omega arith) (omega arith) (omega arith) h)

  switches-then : (k s : ℕ) → s + k ≡ sizes.switches → from (room_at sizes s) ≤ k * 11 + sizes.tunnels * 28
  switches-then zero s e =
      let n : room_at sizes s ≡ rule_at sizes 0 = omega arith in
      rw n (omega (arith, tunnels-then sizes.tunnels 0 (omega arith)))
  switches-then (suc k) s e =
      let h : room_at sizes s < length l = omega (arith, g.size) in
      let in-s : s < sizes.switches = omega arith in
      let field : field_of Rules (take (room_at sizes s) l) ≡ line key.Room (Between 0 most_room)
      = rules-body-field l (room_at sizes s) (le_of_lt h) (omega arith) ∙ body-room sizes s in-s in
      let n : room_at sizes s + 1 ≡ room_at sizes (s + 1) = omega arith in
      let rest : from (room_at sizes s + 1) ≤ k * 11 + sizes.tunnels * 28 = rw n (switches-then k (s + 1) (omega arith)) in
      omega (arith, number-then key.Room 0 most_room 5 (room_at sizes s) field (omega arith) (omega arith) (omega arith) h)

  head-then : from 0 ≤ 41 + from 4
  head-then =
      let four : 4 ≤ length l = omega (arith, g.size) in
      let field : (i : ℕ) → i < 4 → field_of Rules (take i l) ≡ get_or rules_lines i None = λ i h. rules-head-field l i (omega arith) h in
      let one = number-then key.Rules 1 1 1 0 (field 0 (omega arith)) (omega arith) (omega arith) (omega arith) (omega arith) in
      let two = number-then key.Slack least_share most_share 3 1 (field 1 (omega arith)) (omega arith) (omega arith) (omega arith) (omega arith) in
      let three = number-then key.Switches 1 most_switches 2 2 (field 2 (omega arith)) (omega arith) (omega arith) (omega arith) (omega arith) in
      omega (arith, one, two, three, number-then key.Tunnels 0 most_tunnels 2 3 (field 3 (omega arith)) (omega arith) (omega arith) (omega arith) (omega arith))

  most : length (render Rules l) ≤ most_rule_bytes
  unfolding render
  most = omega (arith, head-then, switches-then sizes.switches 0 (omega arith), g.switches.1, g.tunnels)

pub longest : (text l : List ℕ) → read_text Rules text ≡ good l → length text ≤ most_rule_bytes
longest text l e =
    let j = judged-good Rules l l (read-good Rules text l e) in
    let same : render Rules l ≡ text = rendered Rules text l e ∙ none_remarks Rules refl text in
    rw (← same) (most l (good-rules l l (read-good Rules text l e)).1 j.whole.sound)
