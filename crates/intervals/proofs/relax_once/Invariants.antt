-- `relax_once` meets its contract: each edge keeps what a pass keeps, and where none changed anything, none has anything left to do. Assumes nothing.
use Rattle.intervals.proofs.Tables.{Relaxing}
use Rattle.intervals.proofs.relax_once.Given as goal

abbrev pub invariant-loop-turn : goal.invariant-loop-turn
invariant-loop-turn l = Relaxing l.back l.edges.numbers.now l.edges.count l.initial.table l.turn l.changed l.table
