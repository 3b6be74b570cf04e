-- `forms::form::network_body_field` meets its contract.
use Prim.Native.Nat.{◌-◌, ◌≤◌}
use mathlib.Core.Path.{ap, sym, subst⁻¹, ◌∙◌}
use lib.ListN.{length}
use Rattle.lists.specs.Lists.{at, network_sizes, link_at}
use Rattle.lists.specs.Good.{Limited}
use Rattle.lists.specs.declared.Network as counts
use Rattle.lists.proofs.Positions.{head-least}
use Rattle.forms.specs.Form.{network_body}
use Rattle.forms.proofs.Forms.{head-there, head-of-network, own_body}
use native.Mathlib.Omega.{arith}
use Rattle.forms.proofs.form.network_body_field.Goals as goal
use Rattle.forms.proofs.form.network_body_field.Goals.{Start}

some : (s : Start) → 1 ≤ length s.args.done.now
some s = omega (arith, s.requires.1, head-there s.args.done.now, head-least (network_sizes s.args.done.now))

pub network_body-requires : goal.network_body-requires
network_body-requires c =
    (subst⁻¹ Limited c.requires.2 (head-of-network _ c.requires.0 c.requires.1), omega (arith, c.requires.1, head-there c.args.done.now, ap (λ (n : counts.Network). link_at n 0) c.requires.2))

pub returns : goal.returns
returns c =
    let l = c.args.done.now in
    c.network_body.ensures ∙ ap (λ (n : counts.Network). network_body n (at l (length l - 1)) (length l)) c.requires.2 ∙ sym (own_body l c.requires.1)
