-- Numbering (004, Algorithm 1, altered): a walk from node 0. Assumes nothing.
use Rattle.std.specs.Prelude.{List, [], ◌∷◌, Bool, true, false, ℕ, zero, suc, ◌+◌, eqb, get_or, set, replicate}
use Rattle.hierarchy.specs.Hierarchy.{children}

-- where a walk stands: the next number, and for each node its mark (0 unseen, 1 open, 2 closed) and its number (0: it has none)
pub record Walk : Type 0 where
  pub next : ℕ
  pub marks : List ℕ
  pub numbers : List ℕ

-- the walk that stands there
abbrev pub at : ℕ → List ℕ → List ℕ → Walk
at next marks numbers = record { next = next; marks = marks; numbers = numbers }

-- a node gets a mark
abbrev pub marked : ℕ → ℕ → Walk → Walk
marked node mark s = at s.next (set s.marks node mark) s.numbers

-- a node takes the next number
abbrev pub numbered : ℕ → Walk → Walk
numbered node s = at (s.next + 1) s.marks (set s.numbers node s.next)

-- an unseen child is walked; an open child without a number takes the next number; any other is passed over
abbrev pub meet_by : (unseen : Bool) (opened : Bool) (unnumbered : Bool) → (ℕ → Walk → Walk) → ℕ → Walk → Walk
meet_by true opened unnumbered into child s = into child s
meet_by false true true into child s = numbered child s
meet_by false true false into child s = s
meet_by false false unnumbered into child s = s

-- a child is met (one that the tables lack counts as closed)
unfoldable pub meet : (ℕ → Walk → Walk) → ℕ → Walk → Walk
meet into child s =
    meet_by (eqb (get_or s.marks child 2) 0) (eqb (get_or s.marks child 2) 1) (eqb (get_or s.numbers child 1) 0) into child s

-- children are taken in table order
unfoldable pub visit : (ℕ → Walk → Walk) → List ℕ → Walk → Walk
visit into [] s = s
visit into (child ∷ cs) s = visit into cs (meet into child s)

-- if a node has no child, it takes the next number; otherwise its children are taken
unfoldable pub inside : (ℕ → Walk → Walk) → ℕ → List ℕ → Walk → Walk
inside into node [] s = numbered node s
inside into node (child ∷ cs) s = visit into (child ∷ cs) s

-- a node walked into is open; after its last child it is closed. A walk goes at most k nodes deep
unfoldable pub walk : ℕ → List ℕ → ℕ → Walk → Walk
walk zero es node s = s
walk (suc k) es node s = marked node 2 (inside (walk k es) node (children es node) (marked node 1 s))

-- a walk starts at node 0 with number 1 as the next: the number of each of n nodes
unfoldable pub numbering : ℕ → List ℕ → List ℕ
numbering n es = (walk n es 0 (at 1 (replicate n 0) (replicate n 0))).numbers
