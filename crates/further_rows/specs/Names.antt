-- Only what was called for (02, point 6): the names that are kept, what a visit sees, desks with wrong names, and the scratch of the search. Assumes nothing.
use Rattle.std.specs.Prelude.{List, [], ◌∷◌, ◌++◌, map, ℕ, length, take, replicate}
use Rattle.lists.specs.Lists.{one}
use Rattle.naming.specs.declared.Names.{Names}
use Rattle.naming.specs.Names.{places_of, names_of, names_right, ascending, named}
use Rattle.locks.specs.declared.Mode.{Mode}
use Rattle.locks.specs.declared.Mode.TheVariants.{Reading, Writing, Adding}
use Rattle.locks.specs.declared.Stage.TheVariants.{Waiting, Holding}
use Rattle.locks.specs.Lent.{Hierarchy, lent, lock_on}
use Rattle.desk.specs.declared.Desk.{Desk}
use Rattle.desk.specs.Desks.{fresh_desk}
use Rattle.desk.specs.Steps.{enter_step, get_step, put_step, add_step}
use Rattle.replay.specs.Replay.{StepAnswer, value, stored, added, refused, get_line, put_line, add_line}
use Rattle.examples.specs.Rows.{Row, is, are, answer}
use Rattle.examples.specs.Table.{T}
use Rattle.examples.specs.Desks.{recounted, locked, seat, counting}
use Rattle.further_rows.specs.Steps.{intervals_t, table_t, four, adders, sound, all_five, all}

-- node 0 with the nine leaves 1 to 9: leaf i has the interval [i,i]
abbrev pub star : Hierarchy
star =
    lent 10 (1 ∷ 9 ∷ 1 ∷ 1 ∷ 2 ∷ 2 ∷ 3 ∷ 3 ∷ 4 ∷ 4 ∷ 5 ∷ 5 ∷ 6 ∷ 6 ∷ 7 ∷ 7 ∷ 8 ∷ 8 ∷ 9 ∷ 9 ∷ [])
    (0 ∷ 1 ∷ 0 ∷ 2 ∷ 0 ∷ 3 ∷ 0 ∷ 4 ∷ 0 ∷ 5 ∷ 0 ∷ 6 ∷ 0 ∷ 7 ∷ 0 ∷ 8 ∷ 0 ∷ 9 ∷ []) 9

-- NAMES KEPT of a call with these: the names, and then places and count
abbrev pub kept_of : List ℕ → List ℕ
kept_of names = let m = named (ascending names) in names_of m ++ (m.count ∷ places_of m)

-- party 1 after it named these over a hierarchy
abbrev pub named1 : Hierarchy → Mode → List ℕ → Desk
named1 H mode names = (enter_step H fresh_desk 1 mode names (length names)).desk

-- what its gets of nodes 0 to 9 are answered; each value is 100
abbrev pub sees : Hierarchy → List ℕ → List StepAnswer
sees H names =
    map (λ node. get_line (get_step H (named1 H Reading names) 1 node (replicate 10 100) (replicate 256 7)).answer)
    (0 ∷ 1 ∷ 2 ∷ 3 ∷ 4 ∷ 5 ∷ 6 ∷ 7 ∷ 8 ∷ 9 ∷ [])

-- a node that it sees, and one that it does not
abbrev pub yes : StepAnswer
yes = value 100

-- 16
abbrev pub no : StepAnswer
no = refused 16

-- its get, with other edges lent than it entered with
abbrev pub gets_by : List ℕ → ℕ → List ℕ → ℕ → List StepAnswer
gets_by edges edge_count names node =
    get_line (get_step (lent 10 intervals_t edges edge_count) (named1 table_t Reading names) 1 node (replicate 10 100) (replicate 256 7)).answer ∷ []

-- its put
abbrev pub puts_for : List ℕ → ℕ → List StepAnswer
puts_for names node = put_line (put_step table_t (named1 table_t Writing names) 1 node 1 (replicate 10 100) (replicate 256 7)).answer ∷ []

-- and its add
abbrev pub adds_for : List ℕ → ℕ → List StepAnswer
adds_for names node = add_line (add_step table_t (named1 table_t Adding names) 1 node 1 (replicate 10 100) (replicate 256 7)).answer ∷ []

-- what is kept, and what is seen
unfoldable pub called : List Row
called =
    -- ascending and each once; zeros behind
    are (kept_of (8 ∷ 3 ∷ 8 ∷ 0 ∷ 3 ∷ [])) (0 ∷ 3 ∷ 8 ∷ 3 ∷ 0 ∷ 3 ∷ 8 ∷ 0 ∷ 0 ∷ 0 ∷ 0 ∷ 0 ∷ [])
    ∷ are (kept_of (9 ∷ 8 ∷ 7 ∷ 6 ∷ 5 ∷ 4 ∷ 3 ∷ 2 ∷ [])) (2 ∷ 3 ∷ 4 ∷ 5 ∷ 6 ∷ 7 ∷ 8 ∷ 9 ∷ 8 ∷ 2 ∷ 3 ∷ 4 ∷ 5 ∷ 6 ∷ 7 ∷ 8 ∷ 9 ∷ [])
    ∷ are (kept_of (replicate 8 3)) (3 ∷ 1 ∷ 3 ∷ 0 ∷ 0 ∷ 0 ∷ 0 ∷ 0 ∷ 0 ∷ 0 ∷ [])
    ∷ are (kept_of (0 ∷ 0 ∷ [])) (0 ∷ 1 ∷ 0 ∷ 0 ∷ 0 ∷ 0 ∷ 0 ∷ 0 ∷ 0 ∷ 0 ∷ [])
    ∷ are (kept_of (255 ∷ 254 ∷ [])) (254 ∷ 255 ∷ 2 ∷ 254 ∷ 255 ∷ 0 ∷ 0 ∷ 0 ∷ 0 ∷ 0 ∷ 0 ∷ [])
    -- a visit that names 6 of T sees 6, 7, 8 and 9: not 5, whose interval lies inside its hold, and not 2, its cover
    ∷ answer (sees table_t (6 ∷ [])) (no ∷ no ∷ no ∷ no ∷ no ∷ no ∷ yes ∷ yes ∷ yes ∷ yes ∷ [])
    -- 7, and 9, which lie on a cycle: not 5, which has the same interval and is the cover of both
    ∷ answer (sees table_t (7 ∷ [])) (no ∷ no ∷ no ∷ no ∷ no ∷ no ∷ no ∷ yes ∷ no ∷ yes ∷ [])
    ∷ answer (sees table_t (9 ∷ [])) (no ∷ no ∷ no ∷ no ∷ no ∷ no ∷ no ∷ yes ∷ no ∷ yes ∷ [])
    -- 8 and 3, given in that order and 8 twice, and nothing between them
    ∷ answer (sees table_t (8 ∷ 3 ∷ 8 ∷ [])) (no ∷ no ∷ no ∷ yes ∷ no ∷ no ∷ no ∷ no ∷ yes ∷ no ∷ [])
    -- 1 and 5, with what each of them reaches; the root reaches all
    ∷ answer (sees table_t (5 ∷ 1 ∷ [])) (no ∷ yes ∷ no ∷ yes ∷ yes ∷ yes ∷ no ∷ yes ∷ no ∷ yes ∷ [])
    ∷ answer (sees table_t (0 ∷ [])) (replicate 10 yes)
    -- eight leaves of the star, of which each counts; the ninth and the root are not seen
    ∷ answer (sees star (1 ∷ 2 ∷ 3 ∷ 4 ∷ 5 ∷ 6 ∷ 7 ∷ 8 ∷ [])) (no ∷ replicate 8 yes ++ (no ∷ []))
    ∷ answer (sees star (9 ∷ 8 ∷ 7 ∷ 6 ∷ 5 ∷ 4 ∷ 3 ∷ 2 ∷ [])) (no ∷ no ∷ replicate 8 yes)
    ∷ answer (sees star (5 ∷ 5 ∷ 5 ∷ 5 ∷ 5 ∷ 5 ∷ 5 ∷ 1 ∷ [])) (no ∷ yes ∷ no ∷ no ∷ no ∷ yes ∷ no ∷ no ∷ no ∷ no ∷ [])
    -- put and add likewise
    ∷ answer (puts_for (6 ∷ []) 5) (no ∷ [])
    ∷ answer (puts_for (6 ∷ []) 7) (stored ∷ [])
    ∷ answer (adds_for (6 ∷ []) 5) (no ∷ [])
    ∷ answer (adds_for (6 ∷ []) 8) (added ∷ [])
    -- by the lent edges: 7→9 is the tenth of T; with 7→8 alone a visit that named 7 sees 8, whatever the intervals are, and not 9
    ∷ answer (gets_by T 10 (7 ∷ []) 9) (yes ∷ [])
    ∷ answer (gets_by T 9 (7 ∷ []) 9) (no ∷ [])
    ∷ answer (gets_by (7 ∷ 8 ∷ []) 1 (7 ∷ []) 8) (yes ∷ [])
    ∷ answer (gets_by (7 ∷ 8 ∷ []) 1 (7 ∷ []) 9) (no ∷ [])
    ∷ answer (gets_by [] 0 (7 ∷ []) 7) (yes ∷ [])
    -- edges in an order that a pass over them is against
    ∷ answer (gets_by (3 ∷ 4 ∷ 2 ∷ 3 ∷ 1 ∷ 2 ∷ []) 3 (1 ∷ []) 4) (yes ∷ [])
    ∷ answer (gets_by (3 ∷ 4 ∷ 2 ∷ 3 ∷ 1 ∷ 2 ∷ []) 3 (2 ∷ []) 1) (no ∷ [])
    ∷ []

-- DESKS: whether one is sound where party 1 reads in a cover, with these names
abbrev pub sound_with : ℕ → Names → ℕ
sound_with cover m = sound (seat fresh_desk 1 (Holding (lock_on table_t Reading cover m)))

-- whether `four` is sound where 4 waits in 0 with these names,
abbrev pub waiting_with : Names → ℕ
waiting_with m = sound (seat four 4 (Waiting (lock_on table_t Reading 0 m)))

-- and where 3 reads 3 with these
abbrev pub holding_with : Names → ℕ
holding_with m = sound (seat four 3 (Holding (lock_on table_t Reading 3 m)))

-- eight names, 1 to 8
abbrev pub eight : List ℕ
eight = 1 ∷ 2 ∷ 3 ∷ 4 ∷ 5 ∷ 6 ∷ 7 ∷ 8 ∷ []

-- desks that names make wrong, beside sound ones
unfoldable pub desk_names : List Row
desk_names =
    -- right ones; a place behind the count is not looked at
    is (sound_with 6 (named (6 ∷ []))) 1
    ∷ is (sound_with 6 (named (7 ∷ 8 ∷ []))) 1
    ∷ is (sound_with 2 (named (6 ∷ []))) 1
    ∷ is (sound_with 0 (named eight)) 1
    ∷ is (sound_with 6 (recounted (named (6 ∷ 1 ∷ 200 ∷ [])) 1)) 1
    -- descending, twice, descending behind the second, none, nine, as many as a byte says, not below n, outside the cover: all, the second, the first
    ∷ is (sound_with 6 (named (8 ∷ 7 ∷ []))) 0
    ∷ is (sound_with 6 (named (6 ∷ 6 ∷ []))) 0
    ∷ is (sound_with 0 (named (1 ∷ 3 ∷ 2 ∷ []))) 0
    ∷ is (sound_with 6 (named [])) 0
    ∷ is (sound_with 0 (recounted (named eight) 9)) 0
    ∷ is (sound_with 0 (recounted (named eight) 255)) 0
    ∷ is (sound_with 0 (named (10 ∷ []))) 0
    ∷ is (sound_with 0 (named (3 ∷ 255 ∷ []))) 0
    ∷ is (sound_with 6 (named (1 ∷ []))) 0
    ∷ is (sound_with 5 (named (5 ∷ 8 ∷ []))) 0
    ∷ is (sound_with 2 (named (1 ∷ 2 ∷ []))) 0
    -- of a waiter, and of a holder among others
    ∷ is (waiting_with (named (4 ∷ 5 ∷ []))) 1
    ∷ is (waiting_with (named (5 ∷ 4 ∷ []))) 0
    ∷ is (waiting_with (named [])) 0
    ∷ is (waiting_with (recounted (named eight) 9)) 0
    ∷ is (waiting_with (named (10 ∷ []))) 0
    ∷ is (holding_with (named (3 ∷ []))) 1
    ∷ is (holding_with (named (3 ∷ 3 ∷ []))) 0
    ∷ is (holding_with (named (4 ∷ []))) 0
    -- the test of names alone: 1 to 8, below n
    ∷ is (one (names_right 9 (named eight))) 1
    ∷ is (one (names_right 8 (named eight))) 0
    ∷ is (one (names_right 1 (named (0 ∷ [])))) 1
    ∷ is (one (names_right 256 (named (0 ∷ 255 ∷ [])))) 1
    -- what the steps answer then
    ∷ answer (all_five table_t (seat four 3 (Holding (locked Reading 3 1 1 [])))) (all 10)
    ∷ answer (all_five table_t (seat four 3 (Holding (locked Reading 3 1 1 (4 ∷ []))))) (all 10)
    ∷ answer (all_five table_t (seat four 4 (Waiting (locked Reading 0 1 4 (5 ∷ 4 ∷ []))))) (all 10)
    ∷ []

-- THE SCRATCH that a get of party and node leaves, of so many bytes of 7, with ten values
abbrev pub after_get : Hierarchy → Desk → ℕ → ℕ → ℕ → List ℕ
after_get H d party node room = (get_step H d party node (replicate 10 100) (replicate room 7)).scratch

-- a put's
abbrev pub after_put : Desk → ℕ → ℕ → ℕ → List ℕ
after_put d party node room = (put_step table_t d party node 1 (replicate 10 100) (replicate room 7)).scratch

-- an add's
abbrev pub after_add : Desk → ℕ → ℕ → ℕ → List ℕ
after_add d party node room = (add_step table_t d party node 1 (replicate 10 100) (replicate room 7)).scratch

-- 300 bytes wiped: the first 256 are zero, the rest unchanged
abbrev pub wiped : List ℕ
wiped = replicate 256 0 ++ replicate 44 7

-- untouched
abbrev pub dirty : List ℕ
dirty = replicate 300 7

-- what each end leaves in the scratch
unfoldable pub scratches : List Row
scratches =
    -- 255 bytes: 1, and unchanged, whatever else holds; 256: not 1
    answer (get_line (get_step table_t four 1 9 (replicate 10 100) (replicate 255 7)).answer ∷ []) (refused 1 ∷ [])
    ∷ answer (get_line (get_step table_t four 32 9 (replicate 10 100) []).answer ∷ []) (refused 1 ∷ [])
    ∷ are (after_get table_t four 1 9 255) (replicate 255 7)
    ∷ are (after_put four 1 9 255) (replicate 255 7)
    ∷ are (after_add adders 1 9 255) (replicate 255 7)
    ∷ are (after_get table_t four 1 9 256) (replicate 256 0)
    ∷ are (after_put four 1 9 256) (replicate 256 0)
    ∷ are (after_add adders 1 9 256) (replicate 256 0)
    -- 300 bytes, after a value, a put and an add
    ∷ are (after_get table_t four 1 9 300) wiped
    ∷ are (after_put four 1 9 300) wiped
    ∷ are (after_add adders 1 9 300) wiped
    -- after 1 for tables and for values that are too short: unchanged
    ∷ are (after_get (lent 10 (take 19 intervals_t) T 11) four 1 9 300) dirty
    ∷ are (after_get (lent 10 intervals_t (take 21 T) 11) four 1 9 300) dirty
    ∷ are (get_step table_t four 1 9 (replicate 9 100) dirty).scratch dirty
    ∷ are (put_step table_t four 1 9 1 (replicate 9 100) dirty).scratch dirty
    ∷ are (add_step table_t adders 1 9 1 (replicate 9 100) dirty).scratch dirty
    -- after 5, 6, 7, 10, 11, 13, 14, 15, 16, 17 and 18: wiped
    ∷ are (after_get (lent 0 intervals_t T 11) four 1 9 300) wiped
    ∷ are (after_get (lent 10 intervals_t (replicate 2050 0) 1025) four 1 9 300) wiped
    ∷ are (after_get (lent 10 intervals_t (1 ∷ 1 ∷ []) 1) four 1 9 300) wiped
    ∷ are (after_get table_t (counting four 1) 1 9 300) wiped
    ∷ are (after_get table_t four 32 9 300) wiped
    ∷ are (after_get table_t four 5 9 300) wiped
    ∷ are (after_get table_t four 4 9 300) wiped
    ∷ are (after_get table_t four 1 10 300) wiped
    ∷ are (after_get table_t four 1 5 300) wiped
    ∷ are (after_put four 3 3 300) wiped
    ∷ are (after_get table_t adders 1 9 300) wiped
    ∷ are (after_put adders 1 9 300) wiped
    ∷ are (after_add four 1 9 300) wiped
    ∷ are (after_add adders 1 8 300) wiped
    ∷ []
