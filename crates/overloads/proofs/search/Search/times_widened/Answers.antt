-- `overloads::search::Search::times_widened` meets its contract.
use Prim.Native.Nat.{ℕ, ◌-◌}
use mathlib.Core.Path.{◌≡◌, sym, ap, ◌∙◌}
use mathlib.Core.Bool.{true, false}
use Rattle.model.specs.Rule.{by_flow}
use Rattle.lists.specs.Lists.{network_of, plan_of}
use Rattle.overloads.proofs.Blocks.{times-flow, times-tunnel}
use Rattle.overloads.proofs.search.Search.times_widened.Goals as goal

pub returns-then-whole : goal.returns-then-whole
unfolding plan_of
returns-then-whole c = let e : by_flow (network_of c.args.self.now.pair.now.network) ≡ true = cc in
    c.reach-reach.ensures ∙ sym (times-flow _ _ _ e)

pub returns-else-whole : goal.returns-else-whole
unfolding plan_of
returns-else-whole c = let e : by_flow (network_of c.args.self.now.pair.now.network) ≡ false = cc in
    ap (λ (m : ℕ). m - 1) c.reach-reach.ensures ∙ sym (times-tunnel _ _ _ e)
