-- `list_file` meets its contract: a refused file has one line, and an opened one its run. Assumes nothing.
use mathlib.Core.Path.{sym, ap, ◌∙◌}
use native.Mathlib.Omega.{arith}
use Rattle.lists.specs.Answer.{refused}
use Rattle.opening.proofs.Opens.{Ready, opened_refused, opened_ready}
use Rattle.lines.proofs.Files.{refused_listed}
use Rattle.lines.proofs.list_file.Goals as goal
use Rattle.lines.proofs.list_file.Goals.{In-Ok}

-- what the opened file has in its places
module _ (c : In-Ok) where
  ready : Ready c.args.file.now
      c.in-Ok.opened.n c.in-Ok.opened.edge_count c.in-Ok.opened.total
      c.open_run.new.records c.open_run.new.edges
      c.open_run.new.places
  ready =
      opened_ready c.args.file.now _ _ _
      c.open_run.result (omega arith) (omega arith) (omega arith) c.open_run.ensures c.in-Ok.opened c.in-Ok.is

pub list_opened-requires : goal.list_opened-requires
list_opened-requires c = let r = ready (goal.at.list_opened-requires c).In-Ok in record {
  n_bound = (r.n_most, r.edges_most, r.records_most);
  in_bounds = (omega (arith, c.open_run.auto.places), omega (arith, c.open_run.auto.edges), omega (arith, c.open_run.auto.records), c.requires);
  records_value = r.right;
}

pub returns-in-Err : goal.returns-in-Err
returns-in-Err c = refused_listed c.number.result c.args.values.now c.args.text.now
    (opened_refused c.args.file.now _ _ _ c.open_run.result (omega arith) (omega arith) (omega arith) c.open_run.ensures c.in-Err.k c.in-Err.is ∙ ap refused (sym c.number.ensures)) c.put_refused.ensures

pub returns-in-Ok : goal.returns-in-Ok
returns-in-Ok c = let r = ready (goal.at.returns-in-Ok c).In-Ok in
    rw r.ran c.list_opened.ensures
