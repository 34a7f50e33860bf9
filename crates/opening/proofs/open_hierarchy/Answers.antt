-- `open_hierarchy` meets its contract: over 256 nodes are refused, and building decides of the others. Assumes nothing.
use native.Mathlib.Omega.{arith}
use Rattle.std.proofs.lemmas.Result.{err_from_is_err_and}
use Rattle.opening.proofs.Opens.{too_large, build_refused, build_done}
use Rattle.opening.proofs.open_hierarchy.Goals as goal

pub returns-then-n-gt-NODES : goal.returns-then-n-gt-NODES
returns-then-n-gt-NODES c = too_large c.args.n c.args.edges.now.numbers.now c.args.edges.now.count c.args.total c.args.places.now c.if-n-gt-NODES.true

pub returns-in_err-build : goal.returns-in_err-build
returns-in_err-build c = let p = err_from_is_err_and c.from_residual.result c.from_residual.ensures.1 in rw (p.1, p.2)
    (build_refused c.args.n c.args.edges.now.numbers.now c.args.edges.now.count c.args.total c.args.places.now _ c.if-n-gt-NODES.false c.requires.0 c.requires.1
    (omega arith) c.build.result c.build.ensures.result_value c.build.ensures.places_after _ c.in_err-build.was)

pub returns : goal.returns
returns c = build_done c.args.n c.args.edges.now.numbers.now c.args.edges.now.count c.args.total c.args.places.now _ c.if-n-gt-NODES.false c.requires.0 c.requires.1
    (omega arith) c.build.result c.build.ensures.result_value c.build.ensures.places_after _ c.in_ok-build.was
