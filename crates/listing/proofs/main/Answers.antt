-- `main` meets its contract: an opened file is within its rooms. Assumes nothing.
use native.Mathlib.Omega.{arith}
use borrow.Author.Rules.{rules}
use Rattle.opening.proofs.Opens.{opened_ready}
use Rattle.listing.proofs.main.Goals as goal

pub write_opened-written-requires : goal.write_opened-written-requires
write_opened-written-requires c =
    let o = c.open_run-answer in
    let ready = opened_ready _ _ _ _ o.result (omega arith) (omega arith) (omega arith)
    o.ensures c.in-Ok.opened c.in-Ok.is in
    record {
      n_bound = (ready.n_most, ready.edges_most, ready.records_most);
      in_bounds = (
        omega (arith, o.auto.places),
        omega (arith, o.auto.edges),
        omega (arith, o.auto.records),
        search rules,
      );
    }
