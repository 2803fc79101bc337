use Rattle.sheet.specs.Sheet.{bytes_of, spaced}
use Rattle.sheet.proofs.Texts.{stored_then}
use Rattle.sheet.proofs.text.put_number.Goals as goal

pub returns : goal.returns
unfolding spaced bytes_of
returns c = stored_then c.put_decimal-next.ensures c.put_byte.ensures
