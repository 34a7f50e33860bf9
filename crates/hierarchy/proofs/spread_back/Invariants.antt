-- `spread_back` meets its contract: each turn flags what its edge leads to. Assumes nothing.
use Rattle.hierarchy.specs.Hierarchy.{edges_in}
use Rattle.hierarchy.specs.Inner.{Grown}
use Rattle.hierarchy.proofs.Pairs.{Whole}
use Rattle.hierarchy.proofs.spread_back.Given as goal

-- what is left are edges
abbrev pub invariant-loop-edge : goal.invariant-loop-edge
invariant-loop-edge l = record { grown : Grown (edges_in l.edges) l.initial.flags l.flags; left : Whole (edges_in l.edges) l.edge-iterator.iter.rest.now }
