-- `forms::form::Key::text` meets its contract.
use mathlib.Core.Path.{sym, ap}
use Rattle.forms.specs.Keys.{prefix_of}
use Rattle.forms.proofs.form.Key.text.Goals as goal

pub returns-in-Net : goal.returns-in-Net
returns-in-Net c = ap prefix_of (sym c.in-Net.is)

pub returns-in-Scratch : goal.returns-in-Scratch
returns-in-Scratch c = ap prefix_of (sym c.in-Scratch.is)

pub returns-in-Overrun : goal.returns-in-Overrun
returns-in-Overrun c = ap prefix_of (sym c.in-Overrun.is)

pub returns-in-Links : goal.returns-in-Links
returns-in-Links c = ap prefix_of (sym c.in-Links.is)

pub returns-in-Flows : goal.returns-in-Flows
returns-in-Flows c = ap prefix_of (sym c.in-Flows.is)

pub returns-in-Tunnels : goal.returns-in-Tunnels
returns-in-Tunnels c = ap prefix_of (sym c.in-Tunnels.is)

pub returns-in-Cap : goal.returns-in-Cap
returns-in-Cap c = ap prefix_of (sym c.in-Cap.is)

pub returns-in-Class : goal.returns-in-Class
returns-in-Class c = ap prefix_of (sym c.in-Class.is)

pub returns-in-Rate : goal.returns-in-Rate
returns-in-Rate c = ap prefix_of (sym c.in-Rate.is)

pub returns-in-Flow : goal.returns-in-Flow
returns-in-Flow c = ap prefix_of (sym c.in-Flow.is)

pub returns-in-Via : goal.returns-in-Via
returns-in-Via c = ap prefix_of (sym c.in-Via.is)

pub returns-in-Old : goal.returns-in-Old
returns-in-Old c = ap prefix_of (sym c.in-Old.is)

pub returns-in-New : goal.returns-in-New
returns-in-New c = ap prefix_of (sym c.in-New.is)

pub returns-in-Plan : goal.returns-in-Plan
returns-in-Plan c = ap prefix_of (sym c.in-Plan.is)

pub returns-in-Parts : goal.returns-in-Parts
returns-in-Parts c = ap prefix_of (sym c.in-Parts.is)

pub returns-in-Steps : goal.returns-in-Steps
returns-in-Steps c = ap prefix_of (sym c.in-Steps.is)

pub returns-in-At : goal.returns-in-At
returns-in-At c = ap prefix_of (sym c.in-At.is)

pub returns-in-Rules : goal.returns-in-Rules
returns-in-Rules c = ap prefix_of (sym c.in-Rules.is)

pub returns-in-Slack : goal.returns-in-Slack
returns-in-Slack c = ap prefix_of (sym c.in-Slack.is)

pub returns-in-Switches : goal.returns-in-Switches
returns-in-Switches c = ap prefix_of (sym c.in-Switches.is)

pub returns-in-Room : goal.returns-in-Room
returns-in-Room c = ap prefix_of (sym c.in-Room.is)

pub returns-in-Kind : goal.returns-in-Kind
returns-in-Kind c = ap prefix_of (sym c.in-Kind.is)

pub returns-in-Next : goal.returns-in-Next
returns-in-Next c = ap prefix_of (sym c.in-Next.is)

pub returns-in-Unit : goal.returns-in-Unit
returns-in-Unit c = ap prefix_of (sym c.in-Unit.is)

pub returns-in-Held : goal.returns-in-Held
returns-in-Held c = ap prefix_of (sym c.in-Held.is)
