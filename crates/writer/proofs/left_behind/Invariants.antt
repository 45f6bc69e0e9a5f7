-- What is left and the bytes of the parts so far are always what is left from the place on.
-- Assumes nothing.
use Rattle.std.proofs.Common.{◌≡◌, ◌+◌, length, take}
use Rattle.writer.specs.Bytes.{joined}
use Rattle.writer.proofs.left_behind.Given as goal

abbrev pub invariant-loop-part : goal.invariant-loop-part
invariant-loop-part l = l.at + length (joined (take l.part-index l.parts)) + l.left ≡ l.n
