-- `open_run` meets its contract: refused with 1 where a place is short, with 2 where the file is too long, and else opened. Assumes nothing.
use mathlib.Core.Path.{refl}
use borrow.Author.Tests.{lt-ltb, le-ltb}
use Rattle.opening.proofs.Opens.{opens_short, opens_long}
use Rattle.opening.proofs.open_run.Goals as goal
use Rattle.opening.proofs.open_run.Goals.{then-records-lt-RECORD_BYTES-via-then-records-lt-RECORD_BYTES, then-records-lt-RECORD_BYTES-via-else-records-lt-RECORD_BYTES+then-edges-lt-EDGE_PLACES, then-records-lt-RECORD_BYTES-via-else-records-lt-RECORD_BYTES+else-edges-lt-EDGE_PLACES+then-places-lt-INTERVAL_PLACES}

pub returns-then-records-lt-RECORD_BYTES : goal.returns-then-records-lt-RECORD_BYTES
returns-then-records-lt-RECORD_BYTES c = opens_short c.args.file.now c.args.records.now c.args.edges.now c.args.places.now (elim c.then-records-lt-RECORD_BYTES.branch [
  | then-records-lt-RECORD_BYTES-via-then-records-lt-RECORD_BYTES w ↦ rw (lt-ltb _ _ w.if-records-lt-RECORD_BYTES.true) refl
  | then-records-lt-RECORD_BYTES-via-else-records-lt-RECORD_BYTES+then-edges-lt-EDGE_PLACES w ↦ rw (le-ltb _ _ w.if-records-lt-RECORD_BYTES.false, lt-ltb _ _ w.if-edges-lt-EDGE_PLACES.true) refl
  | then-records-lt-RECORD_BYTES-via-else-records-lt-RECORD_BYTES+else-edges-lt-EDGE_PLACES+then-places-lt-INTERVAL_PLACES w ↦
      rw (le-ltb _ _ w.if-records-lt-RECORD_BYTES.false, le-ltb _ _ w.if-edges-lt-EDGE_PLACES.false, lt-ltb _ _ w.if-places-lt-INTERVAL_PLACES.true) refl
])

pub returns-then-file-gt-FILE_BYTES : goal.returns-then-file-gt-FILE_BYTES
returns-then-file-gt-FILE_BYTES c = opens_long c.args.file.now c.args.records.now c.args.edges.now c.args.places.now c.if-records-lt-RECORD_BYTES.false c.if-edges-lt-EDGE_PLACES.false c.if-places-lt-INTERVAL_PLACES.false c.if-file-gt-FILE_BYTES.true
