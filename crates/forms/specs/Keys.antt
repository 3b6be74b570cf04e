-- The keys. "Each line is a key, `=`, a value and one line feed (byte 10)."
use Rattle.std.specs.Prelude.{ℕ, List}
use Prim.Native.String.{String}
use Rattle.forms.specs.Bytes.{bytes}
use Rattle.forms.specs.declared.form.Key.{Key}
use Rattle.forms.specs.declared.form.Key.TheVariants.{Net, Scratch, Overrun, Links, Flows, Tunnels, Cap, Class, Rate, Flow, Via, Old, New, Plan, Parts, Steps, At, Rules, Slack, Switches, Room, Kind, Next, Unit, Held}

-- the keys of a network's head, and those of its links, flows and tunnels; the others are those of plans and of rule tables
abbrev pub head_key : Key → String → String
head_key key other = elim key [ Net ↦ "net=" | Scratch ↦ "scratch=" | Overrun ↦ "overrun=" | Unit ↦ "unit=" | Links ↦ "links=" | Flows ↦ "flows=" | Tunnels ↦ "tunnels=" | _ ↦ other ]

abbrev pub body_key : Key → String → String
body_key key other = elim key [ Cap ↦ "cap=" | Held ↦ "held=" | Class ↦ "class=" | Rate ↦ "rate=" | Next ↦ "next=" | Flow ↦ "flow=" | Via ↦ "via=" | Old ↦ "old=" | New ↦ "new=" | _ ↦ other ]

abbrev pub plan_key : Key → String
plan_key key = elim key [ Plan ↦ "plan=" | Parts ↦ "parts=" | Steps ↦ "steps=" | At ↦ "at=" | Rules ↦ "rules=" | Slack ↦ "slack=" | Switches ↦ "switches=" | Room ↦ "room=" | Kind ↦ "kind=" | _ ↦ "" ]

-- what stands before a value: the key with its `=`
abbrev pub prefix_of : Key → List ℕ
prefix_of key = bytes (head_key key (body_key key (plan_key key)))
