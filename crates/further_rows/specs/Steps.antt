-- The steps' refusals over table T, on the desk `four`, on tables and on desks that are wrong in one way. Assumes nothing.
use Rattle.std.specs.Prelude.{List, [], ◌∷◌, ◌++◌, ℕ, ◌+◌, length, set, take, replicate}
use Rattle.lists.specs.Lists.{one}
use Rattle.locks.specs.declared.Mode.{Mode}
use Rattle.locks.specs.declared.Mode.TheVariants.{Reading, Writing, Adding}
use Rattle.locks.specs.declared.Lock.{Lock}
use Rattle.locks.specs.declared.Stage.{Stage}
use Rattle.locks.specs.declared.Stage.TheVariants.{Out, Waiting, Holding}
use Rattle.parties.specs.declared.Entry.{Entry}
use Rattle.desk.specs.declared.Desk.{Desk}
use Rattle.naming.specs.Names.{places_of}
use Rattle.locks.specs.Lent.{Hierarchy, lent}
use Rattle.desk.specs.Desks.{fresh_desk}
use Rattle.desk.specs.Sound.{sound_desk}
use Rattle.locks.specs.Locks.{mode_number}
use Rattle.desk.specs.Steps.{enter_step, get_step, PutResult, put_step, add_step, LeaveResult, leave_step}
use Rattle.runs.specs.Run.{listed}
use Rattle.replay.specs.Replay.{StepAnswer, granted, waits, value, stored, added, left, refused, enter_line, get_line, put_line, add_line, leave_line, state_of, perform}
use Rattle.examples.specs.Table.{T, bytes16, size, edge, enter1, get, put, leave, add}
use Rattle.examples.specs.Rows.{Row, is, are, answer}
use Rattle.examples.specs.Desks.{locked, lock, seat, list, counting, granting}

-- T's intervals
abbrev pub intervals_t : List ℕ
intervals_t = 1 ∷ 4 ∷ 1 ∷ 2 ∷ 3 ∷ 4 ∷ 1 ∷ 1 ∷ 2 ∷ 2 ∷ 3 ∷ 3 ∷ 3 ∷ 4 ∷ 3 ∷ 3 ∷ 4 ∷ 4 ∷ 3 ∷ 3 ∷ []

-- T as it is lent
abbrev pub table_t : Hierarchy
table_t = lent 10 intervals_t T 11

-- a desk after three enters: 1 writes in 5, for 7, 3 reads 3, and 2 waits to read in 2, for 6
abbrev pub three : Desk
three =
    granting
    (granting
    (list (seat (seat (seat fresh_desk 1 (Holding (locked Writing 5 3 3 (7 ∷ [])))) 3 (Holding (lock Reading 3 1 1))) 2 (Waiting (locked Reading 2 3 4 (6 ∷ [])))) 2)
    1 1)
    3 1

-- and after four: 4 waits to read in 0, for 4 and 5, behind 2
abbrev pub four : Desk
four = list (seat three 4 (Waiting (locked Reading 0 1 4 (4 ∷ 5 ∷ [])))) 4

-- 1 adds in 5, for 9, and 3 in 2, both at once; 2 waits to read 2, and 4, behind it, to add in 0
abbrev pub adders : Desk
adders =
    list (list
    (seat (seat (seat (seat fresh_desk 1 (Holding (locked Adding 5 3 3 (9 ∷ [])))) 3 (Holding (lock Adding 2 3 4))) 2 (Waiting (lock Reading 2 3 4))) 4 (Waiting (lock Adding 0 1 4)))
    2) 4

-- the desk after an enter over T
abbrev pub after_enter : Desk → ℕ → Mode → List ℕ → Desk
after_enter d party mode names = (enter_step table_t d party mode names (length names)).desk

-- the desk that these four steps make
abbrev pub stepped : Desk
stepped =
    after_enter (after_enter (after_enter (after_enter fresh_desk 1 Writing (7 ∷ [])) 2 Reading (6 ∷ [])) 3 Reading (3 ∷ [])) 4 Reading (4 ∷ 5 ∷ [])

-- a lock as numbers, with its mode's number, the places of its names and their count
abbrev pub lock_numbers : Lock → List ℕ
lock_numbers l = mode_number l.mode ∷ l.cover ∷ l.low ∷ l.high ∷ l.names.count ∷ places_of l.names

-- a stage as numbers: out, waiting or holding, then the lock
abbrev pub stage_numbers : Stage → List ℕ
stage_numbers Out = 0 ∷ []
stage_numbers (Waiting l) = 1 ∷ lock_numbers l
stage_numbers (Holding l) = 2 ∷ lock_numbers l

-- the stages of all parties
unfoldable pub all_stages : List Entry → List ℕ
all_stages [] = []
all_stages (e ∷ es) = stage_numbers e.stage ++ all_stages es

-- a whole desk as numbers
unfoldable pub desk_numbers : Desk → List ℕ
desk_numbers d = d.waiting ∷ d.grants ++ (d.queue ++ all_stages d.entries)

-- STEPS over T, with ten values of 100, 256 bytes of 7 for the search and 32 bytes for the list. Enter, with as many names as lent and a name count
abbrev pub enters : Desk → ℕ → List ℕ → ℕ → List StepAnswer
enters d party names name_count = enter_line (enter_step table_t d party Reading names name_count).answer ∷ []

-- get of so many values
abbrev pub gets : ℕ → Desk → ℕ → ℕ → List StepAnswer
gets values d party node = get_line (get_step table_t d party node (replicate values 100) (replicate 256 7)).answer ∷ []

-- put to so many values
abbrev pub puts : ℕ → Desk → ℕ → ℕ → List StepAnswer
puts values d party node = put_line (put_step table_t d party node 1 (replicate values 100) (replicate 256 7)).answer ∷ []

-- add to so many values
abbrev pub adds : ℕ → Desk → ℕ → ℕ → List StepAnswer
adds values d party node = add_line (add_step table_t d party node 1 (replicate values 100) (replicate 256 7)).answer ∷ []

-- a number added to node 9 of these values
abbrev pub adds_to : Desk → ℕ → ℕ → List ℕ → PutResult
adds_to d party number values = add_step table_t d party 9 number values (replicate 256 7)

-- enter with a mode and one name
abbrev pub enters_as : Mode → Desk → ℕ → ℕ → List StepAnswer
enters_as mode d party name = enter_line (enter_step table_t d party mode (name ∷ []) 1).answer ∷ []

-- what a leave comes to
abbrev pub left_line : LeaveResult → StepAnswer
left_line r = leave_line (listed r.list r.answer)

-- leave with so many bytes
abbrev pub leaves : ℕ → Desk → ℕ → List StepAnswer
leaves bytes d party = left_line (leave_step table_t d party (replicate bytes 170)) ∷ []

-- all five over a hierarchy: enter 5 writing {7}, get 1 9, put 1 9, add 1 9, leave 1
abbrev pub all_five : Hierarchy → Desk → List StepAnswer
all_five H d =
    enter_line (enter_step H d 5 Writing (7 ∷ []) 1).answer
    ∷ get_line (get_step H d 1 9 (replicate 10 100) (replicate 256 7)).answer
    ∷ put_line (put_step H d 1 9 77 (replicate 10 100) (replicate 256 7)).answer
    ∷ add_line (add_step H d 1 9 77 (replicate 10 100) (replicate 256 7)).answer
    ∷ left_line (leave_step H d 1 (replicate 34 170))
    ∷ []

-- each is refused with this number
abbrev pub all : ℕ → List StepAnswer
all k = refused k ∷ refused k ∷ refused k ∷ refused k ∷ refused k ∷ []

-- none is refused on the desk after four steps but the add, last of all, since 1 writes
abbrev pub good : List StepAnswer
good = waits ∷ value 100 ∷ stored ∷ refused 18 ∷ left (2 ∷ 4 ∷ []) ∷ []

-- on a desk where nobody is in
abbrev pub nobody : List StepAnswer
nobody = refused 15 ∷ refused 13 ∷ refused 13 ∷ refused 13 ∷ refused 13 ∷ []

-- REFUSALS of what one step alone is lent and asks for, lowest number first; where two apply, the lower is given
unfoldable pub steps : List Row
steps =
    -- 1: fewer names than counted, also where 11, 12 or 15 holds
    answer (enters four 5 (7 ∷ []) 2) (refused 1 ∷ [])
    ∷ answer (enters four 5 [] 1) (refused 1 ∷ [])
    ∷ answer (enters four 32 (replicate 8 3) 9) (refused 1 ∷ [])
    ∷ answer (enters four 1 (99 ∷ []) 18446744073709551615) (refused 1 ∷ [])
    -- 1: nine values, also where 11 or 17 holds
    ∷ answer (gets 9 four 1 9) (refused 1 ∷ [])
    ∷ answer (puts 9 four 1 9) (refused 1 ∷ [])
    ∷ answer (gets 9 four 32 9) (refused 1 ∷ [])
    ∷ answer (puts 9 four 3 3) (refused 1 ∷ [])
    -- 1: 31 bytes, also where 11 holds
    ∷ answer (leaves 31 four 1) (refused 1 ∷ [])
    ∷ answer (leaves 31 four 32) (refused 1 ∷ [])
    -- 11: party 32, and the largest number
    ∷ answer (enters fresh_desk 32 (3 ∷ []) 1) (refused 11 ∷ [])
    ∷ answer (gets 10 fresh_desk 32 3) (refused 11 ∷ [])
    ∷ answer (puts 10 fresh_desk 32 3) (refused 11 ∷ [])
    ∷ answer (leaves 32 fresh_desk 32) (refused 11 ∷ [])
    ∷ answer (enters fresh_desk 18446744073709551615 (3 ∷ []) 1) (refused 11 ∷ [])
    ∷ answer (gets 10 fresh_desk 18446744073709551615 3) (refused 11 ∷ [])
    ∷ answer (puts 10 fresh_desk 18446744073709551615 3) (refused 11 ∷ [])
    ∷ answer (leaves 32 fresh_desk 18446744073709551615) (refused 11 ∷ [])
    -- 11: numbers that end in the bits of a holder; 11 before 15
    ∷ answer (gets 10 four 257 9) (refused 11 ∷ [])
    ∷ answer (leaves 32 four 4294967297) (refused 11 ∷ [])
    ∷ answer (enters four 32 [] 0) (refused 11 ∷ [])
    ∷ answer (puts 10 four 32 10) (refused 11 ∷ [])
    -- party 31 is one
    ∷ answer (enters fresh_desk 31 (3 ∷ []) 1) (granted 3 ∷ [])
    ∷ answer (gets 10 (seat fresh_desk 31 (Holding (lock Writing 3 1 1))) 31 3) (value 100 ∷ [])
    ∷ answer (puts 10 (seat fresh_desk 31 (Holding (lock Writing 3 1 1))) 31 3) (stored ∷ [])
    ∷ answer (leaves 32 (seat fresh_desk 31 (Holding (lock Writing 3 1 1))) 31) (left [] ∷ [])
    -- 12: a holder, a waiter; 12 before 15
    ∷ answer (enters (seat fresh_desk 1 (Holding (lock Reading 3 1 1))) 1 (3 ∷ []) 1) (refused 12 ∷ [])
    ∷ answer (enters four 4 (3 ∷ []) 1) (refused 12 ∷ [])
    ∷ answer (enters four 1 [] 0) (refused 12 ∷ [])
    ∷ answer (enters four 4 (10 ∷ []) 1) (refused 12 ∷ [])
    -- 13: on a fresh desk, and on one of others; 13 before 15
    ∷ answer (leaves 32 fresh_desk 4) (refused 13 ∷ [])
    ∷ answer (gets 10 fresh_desk 4 9) (refused 13 ∷ [])
    ∷ answer (puts 10 fresh_desk 4 9) (refused 13 ∷ [])
    ∷ answer (leaves 32 four 5) (refused 13 ∷ [])
    ∷ answer (gets 10 four 5 10) (refused 13 ∷ [])
    ∷ answer (puts 10 four 5 10) (refused 13 ∷ [])
    -- 14; 14 before 15, and before 16 and 17
    ∷ answer (gets 10 four 4 9) (refused 14 ∷ [])
    ∷ answer (puts 10 four 4 9) (refused 14 ∷ [])
    ∷ answer (gets 10 four 4 10) (refused 14 ∷ [])
    ∷ answer (puts 10 four 4 10) (refused 14 ∷ [])
    ∷ answer (gets 10 four 2 3) (refused 14 ∷ [])
    -- 15: the name count
    ∷ answer (enters four 5 [] 0) (refused 15 ∷ [])
    ∷ answer (enters four 5 (3 ∷ []) 0) (refused 15 ∷ [])
    ∷ answer (enters four 5 (replicate 9 3) 9) (refused 15 ∷ [])
    ∷ answer (enters four 5 (replicate 8 3) 8) (granted 3 ∷ [])
    ∷ answer (enters fresh_desk 5 (9 ∷ 8 ∷ 7 ∷ 6 ∷ 5 ∷ 2 ∷ 8 ∷ 9 ∷ []) 8) (granted 2 ∷ [])
    ∷ answer (enters fresh_desk 5 (9 ∷ 8 ∷ 7 ∷ 6 ∷ 5 ∷ 4 ∷ 3 ∷ 2 ∷ 1 ∷ []) 9) (refused 15 ∷ [])
    -- 15: a node not below n, named among others; a name past the name count is not looked at
    ∷ answer (enters four 5 (10 ∷ []) 1) (refused 15 ∷ [])
    ∷ answer (enters four 5 (3 ∷ 65535 ∷ []) 2) (refused 15 ∷ [])
    ∷ answer (enters four 5 (replicate 7 3 ++ (10 ∷ [])) 8) (refused 15 ∷ [])
    ∷ answer (enters four 5 (3 ∷ 10 ∷ []) 1) (granted 3 ∷ [])
    -- 15: a node not below n, asked for; 15 before 16 and 17
    ∷ answer (gets 10 four 1 10) (refused 15 ∷ [])
    ∷ answer (puts 10 four 1 10) (refused 15 ∷ [])
    ∷ answer (gets 10 four 1 18446744073709551615) (refused 15 ∷ [])
    ∷ answer (puts 10 four 3 10) (refused 15 ∷ [])
    -- 16; 16 before 17
    ∷ answer (gets 10 four 3 4) (refused 16 ∷ [])
    ∷ answer (puts 10 four 3 4) (refused 16 ∷ [])
    ∷ answer (gets 10 four 1 8) (refused 16 ∷ [])
    ∷ answer (gets 10 four 1 2) (refused 16 ∷ [])
    ∷ answer (puts 10 four 1 3) (refused 16 ∷ [])
    -- 17
    ∷ answer (gets 10 four 3 3) (value 100 ∷ [])
    ∷ answer (puts 10 four 3 3) (refused 17 ∷ [])
    -- ADD. 1: nine values, also where 11 or 18 holds
    ∷ answer (adds 9 adders 1 9) (refused 1 ∷ [])
    ∷ answer (adds 9 adders 32 9) (refused 1 ∷ [])
    ∷ answer (adds 9 four 1 9) (refused 1 ∷ [])
    -- 11
    ∷ answer (adds 10 adders 32 9) (refused 11 ∷ [])
    ∷ answer (adds 10 adders 18446744073709551615 9) (refused 11 ∷ [])
    ∷ answer (adds 10 adders 257 9) (refused 11 ∷ [])
    -- 13; 13 before 15 and 18
    ∷ answer (adds 10 fresh_desk 4 9) (refused 13 ∷ [])
    ∷ answer (adds 10 adders 5 10) (refused 13 ∷ [])
    -- 14: one that waits to add, and one that waits to read; 14 before 15, 16 and 18
    ∷ answer (adds 10 adders 4 9) (refused 14 ∷ [])
    ∷ answer (adds 10 adders 4 10) (refused 14 ∷ [])
    ∷ answer (adds 10 adders 2 3) (refused 14 ∷ [])
    ∷ answer (gets 10 adders 4 9) (refused 14 ∷ [])
    ∷ answer (puts 10 adders 4 9) (refused 14 ∷ [])
    -- 15; 15 before 16 and 18
    ∷ answer (adds 10 adders 1 10) (refused 15 ∷ [])
    ∷ answer (adds 10 four 1 10) (refused 15 ∷ [])
    ∷ answer (gets 10 adders 1 10) (refused 15 ∷ [])
    ∷ answer (puts 10 adders 1 10) (refused 15 ∷ [])
    -- 16; 16 before 18, in an adding visit, a writing and a reading one
    ∷ answer (adds 10 adders 1 8) (refused 16 ∷ [])
    ∷ answer (gets 10 adders 1 8) (refused 16 ∷ [])
    ∷ answer (puts 10 adders 1 8) (refused 16 ∷ [])
    ∷ answer (adds 10 four 1 8) (refused 16 ∷ [])
    ∷ answer (adds 10 four 3 4) (refused 16 ∷ [])
    -- 18: get and put in an adding visit, add in a writing and in a reading one
    ∷ answer (gets 10 adders 1 9) (refused 18 ∷ [])
    ∷ answer (puts 10 adders 1 9) (refused 18 ∷ [])
    ∷ answer (adds 10 four 1 9) (refused 18 ∷ [])
    ∷ answer (adds 10 four 3 3) (refused 18 ∷ [])
    -- two adding visits at one node, and each elsewhere
    ∷ answer (adds 10 adders 1 9) (added ∷ [])
    ∷ answer (adds 10 adders 3 9) (added ∷ [])
    ∷ answer (adds 10 adders 3 8) (added ∷ [])
    ∷ answer (adds 10 (seat fresh_desk 31 (Holding (lock Adding 3 1 1))) 31 3) (added ∷ [])
    -- WHO IS LET IN: beside one who adds in 5, to add there, to read, to write; beside a reader and a writer, to add
    ∷ answer (enters_as Adding (seat fresh_desk 1 (Holding (lock Adding 5 3 3))) 5 9) (granted 5 ∷ [])
    ∷ answer (enters_as Reading (seat fresh_desk 1 (Holding (lock Adding 5 3 3))) 5 9) (waits ∷ [])
    ∷ answer (enters_as Writing (seat fresh_desk 1 (Holding (lock Adding 5 3 3))) 5 9) (waits ∷ [])
    ∷ answer (enters_as Adding (seat fresh_desk 1 (Holding (lock Reading 5 3 3))) 5 9) (waits ∷ [])
    ∷ answer (enters_as Adding (seat fresh_desk 1 (Holding (lock Writing 5 3 3))) 5 9) (waits ∷ [])
    -- to add beside those who add, but behind 2, which waits to read; where nobody waits, it is let in
    ∷ answer (enters_as Adding adders 5 8) (waits ∷ [])
    ∷ answer (enters_as Adding (seat fresh_desk 3 (Holding (lock Adding 2 3 4))) 5 8) (granted 8 ∷ [])
    ∷ []

-- two nodes with these intervals and the edge between them, on a fresh desk: node 7, which enter names, is not below 2
abbrev pub spans : List ℕ → List StepAnswer
spans intervals = all_five (lent 2 intervals (0 ∷ 1 ∷ []) 1) fresh_desk

-- two nodes of interval [1,1] with these edges
abbrev pub edged : List ℕ → ℕ → List StepAnswer
edged edges edge_count = all_five (lent 2 (1 ∷ 1 ∷ 1 ∷ 1 ∷ []) edges edge_count) fresh_desk

-- T with another interval of node 4, and numbers behind the table
abbrev pub node4 : ℕ → ℕ → List ℕ → List StepAnswer
node4 low high past = all_five (lent 10 (set (set intervals_t 8 low) 9 high ++ past) T 11) four

-- THE TABLES that every step is lent: 1, 5, 6, 7 and 10
unfoldable pub tables : List Row
tables =
    answer (all_five table_t four) good
    -- 1: places and edge numbers, also where twice a number would wrap; 1 before 5
    ∷ answer (all_five (lent 2 (1 ∷ 1 ∷ 1 ∷ []) (0 ∷ 1 ∷ []) 1) fresh_desk) (all 1)
    ∷ answer (all_five (lent 10 (take 19 intervals_t) T 11) four) (all 1)
    ∷ answer (all_five (lent 10 [] T 11) four) (all 1)
    ∷ answer (all_five (lent 10 intervals_t (take 21 T) 11) four) (all 1)
    ∷ answer (all_five (lent 10 intervals_t (take 21 T) 10) four) good
    ∷ answer (all_five (lent 9223372036854775808 intervals_t T 11) four) (all 1)
    ∷ answer (all_five (lent 10 intervals_t T 9223372036854775819) four) (all 1)
    ∷ answer (all_five (lent 0 intervals_t (take 21 T) 11) four) (all 1)
    -- 5
    ∷ answer (all_five (lent 0 intervals_t T 11) four) (all 5)
    ∷ answer (all_five (lent 0 [] [] 0) four) (all 5)
    -- 6 before 7; a step does not look at 8, nor at 9
    ∷ answer (all_five (lent 10 intervals_t (replicate 2050 0) 1025) four) (all 6)
    ∷ answer (all_five (lent 10 intervals_t (replicate 2050 0) 1024) four) (all 7)
    ∷ answer (all_five (lent 10 intervals_t (7 ∷ 9 ∷ 7 ∷ 9 ∷ []) 2) four) good
    -- 7: equal ends, child 0, a child and a parent not below n, a later edge; past the edge count it is not looked at; 7 before 10
    ∷ answer (edged (1 ∷ 1 ∷ []) 1) (all 7)
    ∷ answer (edged (1 ∷ 0 ∷ []) 1) (all 7)
    ∷ answer (edged (0 ∷ 2 ∷ []) 1) (all 7)
    ∷ answer (edged (2 ∷ 1 ∷ []) 1) (all 7)
    ∷ answer (edged (0 ∷ 1 ∷ 1 ∷ 1 ∷ []) 2) (all 7)
    ∷ answer (edged (0 ∷ 1 ∷ 1 ∷ 1 ∷ []) 1) nobody
    ∷ answer (all_five (lent 2 (0 ∷ 1 ∷ 0 ∷ 1 ∷ []) (1 ∷ 1 ∷ []) 1) fresh_desk) (all 7)
    -- 10: intervals of two nodes
    ∷ answer (spans (1 ∷ 256 ∷ 256 ∷ 256 ∷ [])) nobody
    ∷ answer (spans (0 ∷ 4 ∷ 1 ∷ 1 ∷ [])) (all 10)
    ∷ answer (spans (0 ∷ 4 ∷ 0 ∷ 1 ∷ [])) (all 10)
    ∷ answer (spans (1 ∷ 257 ∷ 1 ∷ 1 ∷ [])) (all 10)
    ∷ answer (spans (1 ∷ 257 ∷ 1 ∷ 257 ∷ [])) (all 10)
    ∷ answer (spans (4 ∷ 1 ∷ 1 ∷ 1 ∷ [])) (all 10)
    ∷ answer (spans (1 ∷ 4 ∷ 3 ∷ 2 ∷ [])) (all 10)
    ∷ answer (spans (1 ∷ 4 ∷ 4 ∷ 5 ∷ [])) (all 10)
    ∷ answer (spans (2 ∷ 4 ∷ 1 ∷ 3 ∷ [])) (all 10)
    ∷ answer (spans (1 ∷ 65535 ∷ 1 ∷ 65535 ∷ [])) (all 10)
    ∷ answer (spans (0 ∷ 0 ∷ 0 ∷ 0 ∷ [])) (all 10)
    -- 10: node 4 of T with low 0, low above high, high past the root's; past 2n nothing is looked at
    ∷ answer (node4 0 2 []) (all 10)
    ∷ answer (node4 3 2 []) (all 10)
    ∷ answer (node4 2 5 []) (all 10)
    ∷ answer (node4 2 2 (5 ∷ 0 ∷ [])) good
    ∷ []

-- whether a desk is sound; behind T's table the interval of node 3 stands again, so that a cover 10 is not wrong by its interval
abbrev pub sound : Desk → ℕ
sound d = one (sound_desk (lent 10 (intervals_t ++ (1 ∷ 1 ∷ [])) T 11) d)

-- 6 or 7 last in arrival order, for node 3, which 3 reads
abbrev pub last : Desk → ℕ → Mode → Desk
last d party mode = list (seat d party (Waiting (lock mode 3 1 1))) party

-- DESKS, each made wrong in one way, and some next to them that are sound; the steps there; what is left in buffers; grants
unfoldable pub desks : List Row
desks =
    -- the desk made by hand is what the four steps make, and is sound
    are (desk_numbers stepped) (desk_numbers four)
    ∷ is (sound four) 1
    -- listed twice, over 31, out, holding
    ∷ is (sound (list four 2)) 0
    ∷ is (sound (list four 4)) 0
    ∷ is (sound (list four 32)) 0
    ∷ is (sound (list four 255)) 0
    ∷ is (sound (list four 5)) 0
    ∷ is (sound (list four 3)) 0
    -- waiting and not listed; more than the list has places for
    ∷ is (sound (counting four 1)) 0
    ∷ is (sound (counting four 0)) 0
    ∷ is (sound (counting four 33)) 0
    ∷ is (sound (counting four 18446744073709551615)) 0
    ∷ is (sound (counting four 4294967298)) 0
    -- a holder's cover not below n, or with another interval
    ∷ is (sound (seat four 3 (Holding (locked Reading 10 1 1 (3 ∷ []))))) 0
    ∷ is (sound (seat four 3 (Holding (locked Reading 65535 1 1 (3 ∷ []))))) 0
    ∷ is (sound (seat four 3 (Holding (lock Reading 3 1 2)))) 0
    ∷ is (sound (seat four 3 (Holding (lock Reading 4 1 2)))) 0
    ∷ is (sound (seat four 3 (Holding (lock Reading 3 0 1)))) 0
    -- the same of a waiter's
    ∷ is (sound (seat four 4 (Waiting (lock Writing 0 1 4)))) 1
    ∷ is (sound (seat four 4 (Waiting (locked Writing 10 1 1 (3 ∷ []))))) 0
    ∷ is (sound (seat four 4 (Waiting (locked Writing 0 1 3 (3 ∷ []))))) 0
    ∷ is (sound (seat four 4 (Waiting (lock Writing 1 1 4)))) 0
    -- holders that conflict: two readers do not; a writer with a reader, on one node and on two; two writers
    ∷ is (sound (seat four 5 (Holding (lock Reading 3 1 1)))) 1
    ∷ is (sound (seat four 0 (Holding (lock Writing 3 1 1)))) 0
    ∷ is (sound (seat four 31 (Holding (lock Writing 3 1 1)))) 0
    ∷ is (sound (seat four 5 (Holding (lock Reading 2 3 4)))) 0
    ∷ is (sound (seat four 5 (Holding (lock Writing 9 3 3)))) 0
    -- two who add do not conflict, one who adds with a reader and with a writer does
    ∷ is (sound adders) 1
    ∷ is (sound (seat four 5 (Holding (lock Adding 3 1 1)))) 0
    ∷ is (sound (seat four 5 (Holding (lock Adding 9 3 3)))) 0
    ∷ is (sound (last (seat fresh_desk 1 (Holding (lock Adding 3 1 1))) 6 Adding)) 0
    ∷ is (sound (last (seat fresh_desk 1 (Holding (lock Adding 3 1 1))) 6 Reading)) 1
    ∷ is (sound (last four 6 Adding)) 1
    -- waiters that conflict with nobody before them, and some that do
    ∷ is (sound (last four 6 Reading)) 0
    ∷ is (sound (last (last four 6 Reading) 7 Writing)) 0
    ∷ is (sound (last (last four 7 Writing) 6 Reading)) 1
    ∷ is (sound (last four 6 Writing)) 1
    ∷ is (sound (last fresh_desk 6 Writing)) 0
    -- what the steps answer on an unsound desk, and on one with another waiter; 10 before 11 to 18
    ∷ answer (all_five table_t (counting four 1)) (all 10)
    ∷ answer (all_five table_t (seat four 4 (Waiting (lock Writing 0 1 4)))) (waits ∷ value 100 ∷ stored ∷ refused 18 ∷ left (2 ∷ []) ∷ [])
    ∷ answer (all_five table_t (seat four 5 (Holding (lock Reading 3 1 1)))) (refused 12 ∷ value 100 ∷ stored ∷ refused 18 ∷ left (2 ∷ 4 ∷ []) ∷ [])
    ∷ answer (enters (counting four 1) 32 (3 ∷ []) 1) (refused 10 ∷ [])
    ∷ answer (enters (counting four 1) 1 [] 0) (refused 10 ∷ [])
    ∷ answer (gets 10 (counting four 1) 5 9) (refused 10 ∷ [])
    ∷ answer (gets 10 (counting four 1) 4 9) (refused 10 ∷ [])
    ∷ answer (puts 10 (counting four 1) 3 10) (refused 10 ∷ [])
    ∷ answer (puts 10 (counting four 1) 3 3) (refused 10 ∷ [])
    ∷ answer (leaves 32 (counting four 1) 32) (refused 10 ∷ [])
    ∷ answer (leaves 32 (counting four 1) 5) (refused 10 ∷ [])
    -- what is left of 34 bytes of 170 and of ten values of 100: two bytes and one value are written, none where the step is refused
    ∷ are (leave_step table_t four 1 (replicate 34 170)).list (2 ∷ 4 ∷ replicate 32 170)
    ∷ are (leave_step table_t four 5 (replicate 34 170)).list (replicate 34 170)
    ∷ are (put_step table_t four 1 9 77 (replicate 10 100) (replicate 256 7)).values (replicate 9 100 ++ (77 ∷ []))
    ∷ are (put_step table_t four 3 3 1 (replicate 10 100) (replicate 256 7)).values (replicate 10 100)
    -- of twelve, an add leaves the sum at its node, modulo 2 to the 64; nothing where it is refused
    ∷ are (adds_to adders 1 77 (replicate 12 100)).values (replicate 9 100 ++ (177 ∷ 100 ∷ 100 ∷ []))
    ∷ are (adds_to adders 3 77 (adds_to adders 1 5 (replicate 10 100)).values).values (replicate 9 100 ++ (182 ∷ []))
    ∷ are (adds_to adders 1 18446744073709551515 (replicate 10 100)).values (replicate 9 100 ++ (18446744073709551615 ∷ []))
    ∷ are (adds_to adders 1 18446744073709551516 (replicate 10 100)).values (replicate 9 100 ++ (0 ∷ []))
    ∷ are (adds_to adders 1 18446744073709551615 (replicate 10 100)).values (replicate 9 100 ++ (99 ∷ []))
    ∷ are (adds_to four 1 77 (replicate 10 100)).values (replicate 10 100)
    ∷ are (desk_numbers (adds_to adders 1 77 (replicate 10 100)).desk) (desk_numbers adders)
    -- when 3 and 1 have left, 2 reads; when 2 leaves, 4 adds, which 2 held up
    ∷ are (leave_step table_t adders 3 (replicate 32 0)).list (replicate 32 0)
    ∷ answer (leaves 32 (leave_step table_t adders 3 (replicate 32 0)).desk 1) (left (2 ∷ []) ∷ [])
    ∷ answer (leaves 32 adders 2) (left (4 ∷ []) ∷ [])
    -- an enter that is granted counts for its party, up to the stop
    ∷ are (enter_step table_t (granting fresh_desk 0 4294967293) 0 Writing (3 ∷ []) 1).desk.grants (4294967294 ∷ replicate 31 0)
    ∷ are (enter_step table_t (granting fresh_desk 0 4294967294) 0 Writing (3 ∷ []) 1).desk.grants (4294967295 ∷ replicate 31 0)
    ∷ are (enter_step table_t (granting fresh_desk 0 4294967295) 0 Writing (3 ∷ []) 1).desk.grants (4294967295 ∷ replicate 31 0)
    ∷ are (enter_step table_t (granting fresh_desk 30 4294967295) 31 Writing (3 ∷ []) 1).desk.grants (replicate 30 0 ++ (4294967295 ∷ 1 ∷ []))
    -- a leave of 1 that grants 2 and 4 counts for these two, up to the stop, and not for 1
    ∷ are (leave_step table_t four 1 (replicate 32 0)).desk.grants (0 ∷ 1 ∷ 1 ∷ 1 ∷ 1 ∷ replicate 27 0)
    ∷ are (leave_step table_t (granting (granting four 2 4294967294) 4 4294967295) 1 (replicate 32 0)).desk.grants (0 ∷ 1 ∷ 4294967295 ∷ 1 ∷ 4294967295 ∷ replicate 27 0)
    ∷ are (leave_step table_t (granting (granting four 1 4294967294) 2 4294967293) 1 (replicate 32 0)).desk.grants (0 ∷ 4294967294 ∷ 4294967294 ∷ 1 ∷ 1 ∷ replicate 27 0)
    -- so does a leave of 3 that grants 6 behind 2, which stays waiting, and one of 2, which waits, that grants 7
    ∷ are (leave_step table_t (last (granting three 3 8) 6 Writing) 3 (replicate 32 0)).desk.grants (0 ∷ 1 ∷ 0 ∷ 8 ∷ 0 ∷ 0 ∷ 1 ∷ replicate 25 0)
    ∷ are (leave_step table_t (list (seat (granting three 2 8) 7 (Waiting (lock Writing 8 4 4))) 7) 2 (replicate 32 0)).desk.grants (0 ∷ 1 ∷ 8 ∷ 1 ∷ 0 ∷ 0 ∷ 0 ∷ 1 ∷ replicate 24 0)
    -- an enter that waits, a leave of a holder and one of a waiter that grant nobody, and a refused enter and leave count for none
    ∷ are (enter_step table_t four 5 Writing (0 ∷ []) 1).desk.grants (0 ∷ 1 ∷ 0 ∷ 1 ∷ replicate 28 0)
    ∷ are (leave_step table_t four 3 (replicate 32 0)).desk.grants (0 ∷ 1 ∷ 0 ∷ 1 ∷ replicate 28 0)
    ∷ are (leave_step table_t four 2 (replicate 32 0)).desk.grants (0 ∷ 1 ∷ 0 ∷ 1 ∷ replicate 28 0)
    ∷ are (enter_step table_t four 1 Writing (3 ∷ []) 1).desk.grants (0 ∷ 1 ∷ 0 ∷ 1 ∷ replicate 28 0)
    ∷ are (leave_step table_t four 5 (replicate 32 0)).desk.grants (0 ∷ 1 ∷ 0 ∷ 1 ∷ replicate 28 0)
    ∷ []

-- BYTES PERFORMED AS A RECORD over a hierarchy, on the desk `four` and ten values of 100
abbrev pub performing : Hierarchy → List ℕ → List StepAnswer
performing H bytes = (perform (state_of H four (replicate 10 100)) bytes).answer ∷ []

-- the desk and the values after them
abbrev pub performed_to : Hierarchy → List ℕ → List ℕ
performed_to H bytes =
    desk_numbers (perform (state_of H four (replicate 10 100)) bytes).state.desk ++ (perform (state_of H four (replicate 10 100)) bytes).state.values

-- a right step is performed; 4 is given to all else, before 1
unfoldable pub records : List Row
records =
    -- party 3 leaves, and nobody is granted: 2 and 4 still conflict with 1. Party 5 reads 3 beside it
    answer (performing table_t (leave 3)) (left [] ∷ [])
    ∷ answer (performing table_t (enter1 5 1 3)) (granted 3 ∷ [])
    -- 1 writes in 5, for 7, which reaches 9
    ∷ answer (performing table_t (get 1 9)) (value 100 ∷ [])
    ∷ answer (performing table_t (put 1 9 77)) (stored ∷ [])
    ∷ are (performed_to table_t (put 1 9 77)) (desk_numbers four ++ set (replicate 10 100) 9 77)
    -- what is no step: kind 0, size, edge, 8 though it is a right value; 10, of which no record is right; a 7 is an add, which 3, a reader, may not
    ∷ answer (performing table_t (bytes16 [])) (refused 4 ∷ [])
    ∷ answer (performing table_t (size 10)) (refused 4 ∷ [])
    ∷ answer (performing table_t (edge 0 1)) (refused 4 ∷ [])
    ∷ answer (performing table_t (bytes16 (8 ∷ 3 ∷ 0 ∷ 0 ∷ 77 ∷ []))) (refused 4 ∷ [])
    ∷ answer (performing table_t (bytes16 (10 ∷ 3 ∷ []))) (refused 4 ∷ [])
    ∷ answer (performing table_t (add 3 3 5)) (refused 18 ∷ [])
    -- desk and values are as they were
    ∷ are (performed_to table_t (bytes16 (8 ∷ 3 ∷ 0 ∷ 0 ∷ 77 ∷ []))) (desk_numbers four ++ replicate 10 100)
    -- a mode other than 1, 2 or 3, no name, an unused byte that is not zero
    ∷ answer (performing table_t (enter1 5 4 3)) (refused 4 ∷ [])
    ∷ answer (performing table_t (bytes16 (3 ∷ 5 ∷ 1 ∷ 0 ∷ []))) (refused 4 ∷ [])
    ∷ answer (performing table_t (set (leave 3) 15 1)) (refused 4 ∷ [])
    -- 15 bytes, and 17
    ∷ answer (performing table_t (take 15 (leave 3))) (refused 4 ∷ [])
    ∷ answer (performing table_t (leave 3 ++ (0 ∷ []))) (refused 4 ∷ [])
    -- lent no intervals: 1 to a right step, and still 4 to what is none
    ∷ answer (performing (lent 10 [] T 11) (leave 3)) (refused 1 ∷ [])
    ∷ answer (performing (lent 10 [] T 11) (bytes16 (8 ∷ 3 ∷ 0 ∷ 0 ∷ 77 ∷ []))) (refused 4 ∷ [])
    ∷ []
