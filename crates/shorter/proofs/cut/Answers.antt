-- `cut` meets its contract: 1, then what opening is refused for, and then what cutting the opened file comes to. Assumes nothing.
use native.Mathlib.Omega.{arith}
use Rattle.std.proofs.lemmas.Result.{err_from_is_err_and}
use Rattle.opening.proofs.Opens.{Ready, opened_turned, opened_ready}
use Rattle.shorter.proofs.Shapes.{cut_short, cut_turned, ready_shaped, ready_cut}
use Rattle.shorter.proofs.cut.Goals as goal
use Rattle.shorter.proofs.cut.Goals.{In_ok-opened}

-- what the opened file has in its places
module _ (c : In_ok-opened) where
  ready : Ready c.args.file.now c.in_ok-opened.opened.n c.in_ok-opened.opened.edge_count c.in_ok-opened.opened.total c.open_run.new.records c.open_run.new.edges c.open_run.new.places
  ready = opened_ready c.args.file.now _ _ _ c.open_run.result (omega arith) (omega arith) (omega arith) c.open_run.ensures c.in_ok-opened.opened c.in_ok-opened.was

pub returns-then-room-file : goal.returns-then-room-file
returns-then-room-file c = cut_short c.args.file.now c.args.k c.args.room.now c.if-room-file.true

pub returns-in_err-opened : goal.returns-in_err-opened
returns-in_err-opened c = let p = err_from_is_err_and c.from_residual.result c.from_residual.ensures.1 in rw (p.1, p.2)
    (cut_turned c.args.file.now c.args.k c.args.room.now c.if-room-file.false _
    (opened_turned c.args.file.now _ _ _ c.open_run.result (omega arith) (omega arith) (omega arith) c.open_run.ensures _ c.in_err-opened.was))

pub cut_opened-requires : goal.cut_opened-requires
cut_opened-requires c = let r = ready (goal.at.cut_opened-requires c).In_ok-opened in record {
  n_bound = (r.n_most, omega (arith, r.n_most, c.open_run.auto.places), omega (arith, r.edges_most, c.open_run.auto.edges), omega (arith, r.records_most, c.open_run.auto.records));
  shaped = ready_shaped c.args.file.now _ _ _ _ _ _ r;
}

pub returns : goal.returns
returns c = let a = c.args in ready_cut a.file.now _ _ _ _ _ _ (ready (goal.at.returns c).In_ok-opened) a.k a.room.now c.cut_opened.result c.if-room-file.false c.cut_opened.ensures
