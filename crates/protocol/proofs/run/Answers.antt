use borrow.Author.Rules.{rules}
use Rattle.protocol.proofs.Between.{between_first, record_turn, request_turn, closing_turn}
use Rattle.protocol.proofs.run.Goals as goal

pub loop-state-init : goal.loop-state-init
loop-state-init c = between_first _ _ _ _ c.requires.0

pub loop-state-smaller-in-Record : goal.loop-state-smaller-in-Record
loop-state-smaller-in-Record c = (record_turn _ _ _ _ _ _ _ c.loop-state.invariant _ _ c.next-n.ensures c.kind_of.ensures c.in-Record.is).1

pub loop-state-preserved-in-Record : goal.loop-state-preserved-in-Record
loop-state-preserved-in-Record c = (record_turn _ _ _ _ _ _ _ c.loop-state.invariant _ _ c.next-n.ensures c.kind_of.ensures c.in-Record.is).0

pub loop-state-smaller : goal.loop-state-smaller
loop-state-smaller c = (request_turn _ _ _ _ _ _ _ c.loop-state.invariant _ _ c.next-n.ensures c.kind_of.ensures c.in-Request.is c.requires.1 c.requires.2 _ _ c.supply-s.ensures.answer c.supply-s.ensures.bytes (search rules)).1

pub loop-state-preserved : goal.loop-state-preserved
loop-state-preserved c = (request_turn _ _ _ _ _ _ _ c.loop-state.invariant _ _ c.next-n.ensures c.kind_of.ensures c.in-Request.is c.requires.1 c.requires.2 _ _ c.supply-s.ensures.answer c.supply-s.ensures.bytes (search rules)).0

pub returns-in-Closing : goal.returns-in-Closing
returns-in-Closing c =
    let h = closing_turn _ _ _ _ _ _ _ c.loop-state.invariant _ _ c.next-n.ensures c.kind_of.ensures c.in-Closing.is in
    record { tally = h.0; bytes = h.1 }
