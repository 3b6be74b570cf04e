-- `lines::digit_char` meets its contract: the table has each digit's byte, by a test that antt computes over it.
use Rattle.forms.specs.Bytes.{bytes}
use Rattle.forms.specs.Write.{digit_char}
use Rattle.model.proofs.Table.{value}
use Rattle.lines.proofs.digit_char.Goals as goal

pub returns : goal.returns
returns c = value digit_char (bytes "0123456789abcdef") tt c.args.x c.requires
