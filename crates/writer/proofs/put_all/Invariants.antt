-- The bytes of the parts so far are always laid, and the place is behind them.
-- Assumes nothing.
use Rattle.std.proofs.Common.{◌≡◌, ◌+◌, length, take}
use Rattle.writer.specs.Bytes.{joined, laid}
use Rattle.writer.proofs.put_all.Given as goal

abbrev pub invariant-loop-part : goal.invariant-loop-part
invariant-loop-part l = (l.out ≡ laid l.fn.out l.at (joined (take l.part-index l.parts))) × (l.place ≡ l.at + length (joined (take l.part-index l.parts)))
