-- `report` meets its contract: a refused file has no wait, and an opened one those of its steps. Assumes nothing.
use mathlib.Core.Path.{sym, ◌∙◌}
use native.Mathlib.Omega.{arith}
use lib.ListN.{length}
use lib.Seq.{length-take-le}
use Prim.Native.Nat.{◌*◌, ◌≤◌}
use Rattle.opening.proofs.Opens.{Ready, opened_refused, opened_ready}
use Rattle.needless.proofs.Files.{refused_waits, opened_waits}
use Rattle.needless.proofs.report.Goals as goal
use Rattle.needless.proofs.report.Goals.{In-Ok}

-- what the opened file has in its places
module _ (c : In-Ok) where
  ready : Ready c.args.file.now c.in-Ok.opened.n c.in-Ok.opened.edge_count c.in-Ok.opened.total
      c.open_run.new.records c.open_run.new.edges
      c.open_run.new.places
  ready = opened_ready c.args.file.now _ _ _ c.open_run.result (omega arith) (omega arith) (omega arith) c.open_run.ensures c.in-Ok.opened c.in-Ok.is

pub count_opened-requires : goal.count_opened-requires
count_opened-requires c = let r = ready (goal.at.count_opened-requires c).In-Ok in let edges : 2 * c.in-Ok.opened.edge_count ≤ length c.open_run.new.edges = omega (arith, r.edges_most, c.open_run.auto.edges) in record {
  n_in_bounds = (omega (arith, r.n_most, c.open_run.auto.places), edges, omega (arith, r.records_most, c.open_run.auto.records));
  countable = record { legal = r.legal; whole = omega (arith, length-take-le (2 * c.in-Ok.opened.edge_count) c.open_run.new.edges edges); right = r.right };
}

pub returns-in-Err : goal.returns-in-Err
returns-in-Err c = sym (refused_waits c.args.file.now _ (opened_refused c.args.file.now _ _ _ c.open_run.result (omega arith) (omega arith) (omega arith) c.open_run.ensures _ c.in-Err.is))

pub returns-in-Ok : goal.returns-in-Ok
returns-in-Ok c = c.count_opened.ensures ∙ opened_waits c.args.file.now _ _ _ _ _ _ (ready (goal.at.returns-in-Ok c).In-Ok)
