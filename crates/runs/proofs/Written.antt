-- Locks, desks and table T written out, not worked out, for cases by computation. Assumes nothing.
use mathlib.Core.List.{List, [], ◌∷◌, ◌++◌, map}
use Prim.Native.Nat.{ℕ}
use lib.ListN.{length, take, replicate}
use Rattle.naming.specs.Names.{named}
use Rattle.locks.specs.declared.Mode.{Mode}
use Rattle.locks.specs.declared.Lock.{Lock}
use Rattle.locks.specs.declared.Stage.{Stage}
use Rattle.locks.specs.declared.Stage.TheVariants.{Out}
use Rattle.locks.specs.Lent.{Hierarchy}
use Rattle.parties.specs.Parties.{entry_of}
use Rattle.arrivals.specs.Arrivals.{queue_places}
use Rattle.desk.specs.declared.Desk.{Desk}
use Rattle.runs.specs.Run.{whole as all, Call, Step}

-- a hold or a waiting call: mode, cover, low and high, names
abbrev pub lock : Mode → ℕ → ℕ → ℕ → List ℕ → Lock
lock mode cover low high names = record { mode = mode; cover = cover; low = low; high = high; names = named names }

-- a desk with parties 0, 1 and so on at these stages, the others out; these in arrival order; these counts of grants
abbrev pub desk : List Stage → List ℕ → List ℕ → Desk
desk stages list grants =
    record {
      entries = take 32 (map entry_of stages ++ replicate 32 (entry_of Out));
      queue = queue_places list;
      waiting = length list;
      grants = take 32 (grants ++ replicate 32 0);
    }

-- one node
abbrev pub one : Hierarchy
one = record { n = 1; intervals = 1 ∷ 1 ∷ []; edges = []; edge_count = 0 }

-- and what a party holds or waits for that is in it in a mode
abbrev pub whole : Mode → Lock
whole mode = lock mode 0 1 1 (0 ∷ [])

-- TABLE T of document 01
abbrev pub T : Hierarchy
T = record {
  n = 10;
  intervals = 1 ∷ 4 ∷ 1 ∷ 2 ∷ 3 ∷ 4 ∷ 1 ∷ 1 ∷ 2 ∷ 2 ∷ 3 ∷ 3 ∷ 3 ∷ 4 ∷ 3 ∷ 3 ∷ 4 ∷ 4 ∷ 3 ∷ 3 ∷ [];
  edges = 0 ∷ 1 ∷ 0 ∷ 2 ∷ 1 ∷ 3 ∷ 1 ∷ 4 ∷ 2 ∷ 5 ∷ 2 ∷ 6 ∷ 5 ∷ 7 ∷ 6 ∷ 7 ∷ 6 ∷ 8 ∷ 7 ∷ 9 ∷ 9 ∷ 7 ∷ [];
  edge_count = 11;
}

-- a step that is lent both tables as they are
abbrev pub step : Call → Step
step call = record { intervals = all; edges = all; call = call }
