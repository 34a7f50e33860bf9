-- Steps written out, for cases by computation. Assumes nothing.
use mathlib.Core.List.{List, []}
use Prim.Native.Nat.{ℕ}
use lib.ListN.{length, replicate}
use Rattle.locks.specs.declared.Mode.{Mode}
use Rattle.locks.specs.Lent.{Hierarchy}
use Rattle.desk.specs.declared.Desk.{Desk}
use Rattle.runs.specs.Run.{enter, leave, State}
use Rattle.fairness.specs.AnySteps.{AnyStep}

-- a list of steps starts from it
abbrev pub at : Desk → State
at d = record { hierarchy = record { n = 0; intervals = []; edges = []; edge_count = 0 }; desk = d; values = [] }

-- a party comes, over these tables,
abbrev pub comes : Hierarchy → ℕ → Mode → List ℕ → AnyStep
comes K party mode names = record { tables = K; call = enter party mode names (length names) }

-- and goes, lent so many bytes
abbrev pub goes : Hierarchy → ℕ → (bytes : ℕ) → AnyStep
goes K party bytes = record { tables = K; call = leave party (replicate bytes 0) }
