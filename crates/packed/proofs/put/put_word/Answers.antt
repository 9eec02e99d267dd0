-- `packed::put::put_word` meets its contract. Assumes nothing.
use Rattle.packed.proofs.put.put_word.Goals as goal

pub returns : goal.returns
returns c = rw (
  c.put_byte-4.ensures,
  c.put_byte-3.ensures,
  c.put_byte-2.ensures,
  c.put_byte.ensures,
)
