-- The keys: each has at most 9 bytes with its `=`, none of them a line feed, and the first no `#`.
use mathlib.Core.Bool.{Bool, not, ◌&&◌}
use mathlib.Core.List.{List}
use Prim.Native.Nat.{ℕ, ◌≤◌}
use lib.Dec.{T, leb, leb→le}
use lib.ListN.{length}
use Rattle.forms.specs.Keys.{prefix_of}
use Rattle.forms.specs.declared.form.Key.{Key}
use Rattle.forms.specs.declared.form.Key.TheVariants.{Net, Scratch, Overrun, Links, Flows, Tunnels, Cap, Class, Rate, Flow, Via, Old, New, Plan, Parts, Steps, At, Rules, Slack, Switches, Room, Kind, Next, Unit, Held}
use Rattle.forms.specs.Turns.{hashed, no_feeds}
use Rattle.model.proofs.Searches.{both}

abbrev plain : List ℕ → Bool
plain k = leb (length k) 9 && (no_feeds k && not (hashed k))

all-plain : (k : Key) → T (plain (prefix_of k))
all-plain Net = tt
all-plain Scratch = tt
all-plain Overrun = tt
all-plain Links = tt
all-plain Flows = tt
all-plain Tunnels = tt
all-plain Cap = tt
all-plain Class = tt
all-plain Rate = tt
all-plain Flow = tt
all-plain Via = tt
all-plain Old = tt
all-plain New = tt
all-plain Plan = tt
all-plain Parts = tt
all-plain Steps = tt
all-plain At = tt
all-plain Rules = tt
all-plain Slack = tt
all-plain Switches = tt
all-plain Room = tt
all-plain Kind = tt
all-plain Next = tt
all-plain Unit = tt
all-plain Held = tt

module _ (k : Key) where
  plain-key : T (leb (length (prefix_of k)) 9) × T (no_feeds (prefix_of k) && not (hashed (prefix_of k)))
  plain-key = both (leb (length (prefix_of k)) 9) (no_feeds (prefix_of k) && not (hashed (prefix_of k))) (all-plain k)

  pub key-length : length (prefix_of k) ≤ 9
  key-length = leb→le _ _ plain-key.0

  pub key-no-feed : T (no_feeds (prefix_of k))
  key-no-feed = (both (no_feeds (prefix_of k)) (not (hashed (prefix_of k))) plain-key.1).0

  pub key-real : T (not (hashed (prefix_of k)))
  key-real = (both (no_feeds (prefix_of k)) (not (hashed (prefix_of k))) plain-key.1).1
