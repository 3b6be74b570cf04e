-- Laws of the loops over the parts of a list of rule tables, and that a list with its parts in their ranges is whole.
use mathlib.Core.Path.{◌≡◌, refl, sym, ◌∙◌, subst, subst⁻¹}
use mathlib.Core.List.{List}
use Prim.Native.Nat.{ℕ, zero, suc, ◌+◌, ◌-◌, ◌/◌, ◌%◌, ◌≤◌, ◌<◌}
use native.Mathlib.Nat.{le_of_lt}
use native.Mathlib.Decide.{dec_lt}
use native.Mathlib.Omega.{arith}
use lib.Dec.{T}
use lib.ListN.{length, get_or, take}
use borrow.Author.Tests.{lt-ltb, le-ltb}
use Rattle.model.specs.Limits.{most_tunnels, most_switches, most_room}
use Rattle.lists.specs.Lists.{at, table_sizes, room_at, rule_at, tables_size}
use Rattle.lists.specs.declared.RuleTables.{RuleTables}
use Rattle.forms.specs.Form.{Sound, Whole, allows, admits_of, field_of, rules_lines, rule_lines, rules_body}
use Rattle.judges.specs.Ranges.{HeadIn, TablesSized, RoomsIn, RulesIn}
use Rattle.std.specs.declared.option.Option.TheVariants.{None}
use Rattle.forms.specs.declared.form.Form.TheVariants.{Rules}
use Rattle.forms.specs.declared.form.Range.TheVariants.{Set}
use Rattle.forms.proofs.Forms.{between, in_between, rules-head-field, rules-body-field, rules-head-at, rules-body-at, body-room, body-rule, rules-end, RulesHead}
use Rattle.forms.proofs.Good.{lines-no-end}
use Rattle.judges.proofs.InRange.{one_more}

-- ---- what holds of the numbers passed holds with one more

module _ (l : List ℕ) where
  pub rooms-none : RoomsIn l 0
  rooms-none = record { room = λ s h. absurd (omega arith) }

  pub rooms-more : (n : ℕ) → RoomsIn l n → at l (room_at (table_sizes l) n) ≤ most_room → RoomsIn l (n + 1)
  rooms-more n h r = record { room = one_more (λ s. at l (room_at (table_sizes l) s) ≤ most_room) n h.room r }

  pub rules-none : RulesIn l 0
  rules-none = record { via = λ t h. absurd (omega arith); least = λ t h. absurd (omega arith); most = λ t h. absurd (omega arith) }

  pub rules-more : (n : ℕ) → RulesIn l n → T (admits_of (Set (table_sizes l).switches) (at l (rule_at (table_sizes l) n)))
      → 1 ≤ at l (rule_at (table_sizes l) n + 1) → at l (rule_at (table_sizes l) n + 1) ≤ 3 → RulesIn l (n + 1)
  rules-more n h v a b =
      record {
        via = one_more (λ t. T (admits_of (Set (table_sizes l).switches) (at l (rule_at (table_sizes l) t)))) n h.via v;
        least = one_more (λ t. 1 ≤ at l (rule_at (table_sizes l) t + 1)) n h.least a;
        most = one_more (λ t. at l (rule_at (table_sizes l) t + 1) ≤ 3) n h.most b;
      }

-- ---- a list is its head, then the switches' and the tunnels' numbers: what holds of each holds after the head

module _ (n : RuleTables) where
  each_number : (P : ℕ → Type 0) → ((s : ℕ) → s < n.switches → P (room_at n s)) → ((t j : ℕ) → t < n.tunnels → j < 2 → P (rule_at n t + j))
      → (i : ℕ) → room_at n 0 ≤ i → i < tables_size n → P i
  each_number P room rule i h k = by-room (dec_lt (i - room_at n 0) n.switches)
    where
      by-room : Dec (i - room_at n 0 < n.switches) → P i
      by-room (yes less) = let e : room_at n (i - room_at n 0) ≡ i = omega arith in subst P e (room (i - room_at n 0) less)
      by-room (no more) =
          let m : ℕ = i - rule_at n 0 in
          let e : rule_at n (m / 2) + m % 2 ≡ i = omega arith in
          subst P e (rule (m / 2) (m % 2) (omega arith) (omega arith))

  -- where the form has an end, it is past the last number
  body-ends : (i : ℕ) → room_at n 0 ≤ i → rules_body n i ≡ None → tables_size n ≤ i
  body-ends i h e = go (dec_lt i (tables_size n))
    where
      go : Dec (i < tables_size n) → tables_size n ≤ i
      go (yes k) =
          absurd (each_number (λ m. rules_body n m ≡ None → ⊥)
          (λ s k x. let z : ◌≡◌ {A = ℕ} 0 1 = cc (body-room n s k) in omega arith)
          (λ t j k g x. lines-no-end (rule_lines n) j (tt, (tt, tt)) g (sym (body-rule n t j k g) ∙ x)) i h k e)
      go (no k) = omega arith

-- ---- a list with its parts in their ranges is whole

pub record TablesIn (l : List ℕ) : Type 0 where
  pub head : HeadIn Rules l (length rules_lines)
  pub size : length l ≡ tables_size (table_sizes l)
  pub rooms : RoomsIn l (table_sizes l).switches
  pub rules : RulesIn l (table_sizes l).tunnels

-- what the lines of a head say of the counts
pub head-counts : (l : List ℕ) → HeadIn Rules l (length rules_lines) → RulesHead l
head-counts l h =
    record {
      switches = between 1 most_switches (at l 2) (h.each 2 (omega arith));
      tunnels = (between 0 most_tunnels (at l 3) (h.each 3 (omega arith))).1;
    }

pub tables-sized : (l : List ℕ) → HeadIn Rules l (length rules_lines) → length l ≡ tables_size (table_sizes l) → TablesSized l
tables-sized l h e = let c = head-counts l h in record { switches = c.switches.1; tunnels = c.tunnels; size = e }

module _ (l : List ℕ) (r : TablesIn l) where
  rule-in : (t j : ℕ) → t < (table_sizes l).tunnels → j < 2 → T (allows (get_or (rule_lines (table_sizes l)) j None) (at l (rule_at (table_sizes l) t + j)))
  rule-in t zero h k =
      let e : rule_at (table_sizes l) t + 0 ≡ rule_at (table_sizes l) t = omega arith in
      subst⁻¹ (λ (i : ℕ). T (admits_of (Set (table_sizes l).switches) (at l i))) e (r.rules.via t h)
  rule-in t (suc zero) h k = in_between 1 3 _ (r.rules.least t h) (r.rules.most t h)
  rule-in t (suc (suc j)) h k = absurd (omega arith)

  body-in : (i : ℕ) → room_at (table_sizes l) 0 ≤ i → i < tables_size (table_sizes l) → T (allows (rules_body (table_sizes l) i) (at l i))
  body-in =
      each_number (table_sizes l) (λ i. T (allows (rules_body (table_sizes l) i) (at l i)))
      (λ s h. rw (body-room (table_sizes l) s h) (in_between 0 most_room _ (omega arith) (r.rooms.room s h)))
      (λ t j h k. rw (body-rule (table_sizes l) t j h k) (rule-in t j h k))

  in-sound : (i : ℕ) → i < length l → Dec (i < length rules_lines) → T (allows (field_of Rules (take i l)) (at l i))
  in-sound i h (yes k) = rw (rules-head-field l i (le_of_lt h) k) (r.head.each i k)
  in-sound i h (no k) = rw (rules-body-field l i (le_of_lt h) (omega arith)) (body-in i (omega arith) (omega (arith, r.size)))

  ends : field_of Rules l ≡ None
  unfolding field_of
  ends =
      let long : length rules_lines ≤ length l = omega (arith, r.size) in
      rw (le-ltb (length l) (length rules_lines) long) (rules-end (table_sizes l) (length l) (omega (arith, r.size)))

  pub tables-whole : Whole Rules l
  unfolding Sound
  tables-whole = record { sound = λ i h. in-sound i h (dec_lt i (length rules_lines)); ends = ends }

-- and the parts of a whole list are in their ranges
module _ (l : List ℕ) (w : Whole Rules l) where
  long : length rules_lines ≤ length l
  unfolding field_of
  long = go (dec_lt (length l) (length rules_lines))
    where
      go : Dec (length l < length rules_lines) → length rules_lines ≤ length l
      go (yes h) = absurd (lines-no-end rules_lines (length l) (tt, (tt, (tt, (tt, tt)))) h (rw (lt-ltb (length l) (length rules_lines) h) at w.ends))
      go (no h) = omega arith

  rules-ends : rules_body (table_sizes l) (length l) ≡ None
  unfolding field_of
  rules-ends = rw (le-ltb (length l) (length rules_lines) long) at w.ends

  tables-size : length l ≡ tables_size (table_sizes l)
  tables-size = go (dec_lt (tables_size (table_sizes l)) (length l))
    where
      go : Dec (tables_size (table_sizes l) < length l) → length l ≡ tables_size (table_sizes l)
      go (yes h) =
          let e : rules_body (table_sizes l) (tables_size (table_sizes l)) ≡ None = rules-end (table_sizes l) (tables_size (table_sizes l)) (omega arith) in
          absurd (rw e at (rules-body-at l w.sound (tables_size (table_sizes l)) h (omega arith)))
      go (no h) = omega (arith, body-ends (table_sizes l) (length l) (omega (arith, long)) rules-ends)

  tunnel-line : (t j i : ℕ) → t < (table_sizes l).tunnels → j < 2 → i ≡ rule_at (table_sizes l) t + j → T (allows (get_or (rule_lines (table_sizes l)) j None) (at l i))
  tunnel-line t j i h k e =
      rw e (rw (body-rule (table_sizes l) t j h k) at (rules-body-at l w.sound (rule_at (table_sizes l) t + j) (omega (arith, tables-size)) (omega arith)))

  pub whole-tables : TablesIn l
  whole-tables =
      record {
        head = record { each = λ i h. rules-head-at l w.sound i (omega (arith, long)) h };
        size = tables-size;
        rooms = record {
          room = λ s h. (between 0 most_room _ (rw (body-room (table_sizes l) s h) at (rules-body-at l w.sound (room_at (table_sizes l) s) (omega (arith, tables-size)) (omega arith)))).1;
        };
        rules = record {
          via = λ t h. tunnel-line t 0 (rule_at (table_sizes l) t) h (omega arith) (omega arith);
          least = λ t h. (between 1 3 _ (tunnel-line t 1 _ h (omega arith) refl)).0;
          most = λ t h. (between 1 3 _ (tunnel-line t 1 _ h (omega arith) refl)).1;
        };
      }
