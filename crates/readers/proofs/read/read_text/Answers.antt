-- `readers::read::read_text` meets its contract.
use Rattle.std.proofs.Common.{◌≡◌, ◌≤◌, List, ℕ, length, take, sym}
use Rattle.model.specs.Outcome.{good}
use Rattle.lists.specs.Good.{NetworkRanges}
use Rattle.lists.proofs.Positions.{head_in}
use Rattle.forms.specs.Read.{read_lines}
use Rattle.forms.specs.declared.form.Form.TheVariants.{Network}
use Rattle.forms.proofs.Walks.{judged-whole}
use Rattle.forms.proofs.Good.{network-ranges}
use Rattle.forms.proofs.Round.{file-form}
use Rattle.readers.proofs.Reading.{lines-read}
use Rattle.readers.proofs.read.read_text.Goals as goal
use Rattle.readers.proofs.read.read_text.Goals.{In_ok-n, In-Network}

-- what was read
module _ (c : In_ok-n) where
  abbrev list : List ℕ
  list = take c.in_ok-n.n c.read.new.vals

  all_read : (read_lines c.args.form c.args.text.now ≡ good list) × (c.in_ok-n.n ≤ length c.read.new.vals)
  all_read = lines-read _ _ _ (sym c.in_ok-n.ensures.value) c.read.ensures.holds

ranges : (c : In-Network) (l : List ℕ) → read_lines c.args.form c.args.text.now ≡ good l → NetworkRanges l
ranges c l e = network-ranges _ (judged-whole Network _ _ ((file-form Network).same_verdict c.args.text.now l (rw c.in-Network.is at e)).0).1

pub of-requires : goal.of-requires
of-requires c = head_in _ (ranges c _ (all_read ((goal.at.of-requires c).In_ok-n)).0).sized.size

pub add_up-requires : goal.add_up-requires
add_up-requires c = (ranges ((goal.at.add_up-requires c).In-Network) _ (all_read ((goal.at.add_up-requires c).In_ok-n)).0, c.of.ensures)
