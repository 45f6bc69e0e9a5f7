-- Between two turns the records counted and those due make up the tally, and the rest of the run leaves the same window; less is left to do with each turn.
-- Assumes nothing.
use Rattle.protocol.proofs.Turns.{left_of}
use Rattle.protocol.proofs.Between.{Between}
use Rattle.protocol.proofs.run.Given as goal

abbrev pub invariant-loop-state : goal.invariant-loop-state
invariant-loop-state l = Between l.input l.initial.window l.chunk l.state l.window l.at l.records

abbrev pub decreases-loop-state : goal.decreases-loop-state
decreases-loop-state l = left_of l.input l.state l.at l.records
