-- A record of 16 bytes: byte 0 is its kind, fields follow from byte 1, unused bytes are zero. Each kind is a row of the table `kinds`. Assumes nothing.
use Rattle.std.specs.Prelude.{Bool, false, cond, not, ◌&&◌, List, [], ◌∷◌, ℕ, suc, ◌+◌, eqb, leb, ltb, take, drop}
use Rattle.octets.specs.Bytes.{byte, number2, number8, zero_between, zero_from}

-- FIELDS. Byte 0 of a record is its kind
abbrev pub kind_of : List ℕ → ℕ
kind_of r = byte 0 r

-- 1 size: bytes 1 and 2 are n
abbrev pub size_in : List ℕ → ℕ
size_in r = number2 1 r

-- 2 edge: byte 1 parent
abbrev pub parent_in : List ℕ → ℕ
parent_in r = byte 1 r

-- 2 edge: byte 2 child
abbrev pub child_in : List ℕ → ℕ
child_in r = byte 2 r

-- 3 enter, 4 get, 5 put, 6 leave, 7 add: byte 1 party
abbrev pub party_in : List ℕ → ℕ
party_in r = byte 1 r

-- 3 enter: byte 2 mode, 1 reading, 2 writing, 3 adding
abbrev pub mode_in : List ℕ → ℕ
mode_in r = byte 2 r

-- 3 enter: byte 3 name count, 1 to 8
abbrev pub name_count_in : List ℕ → ℕ
name_count_in r = byte 3 r

-- 3 enter: names in bytes 4 to 11
abbrev pub names_in : List ℕ → List ℕ
names_in r = take (name_count_in r) (drop 4 r)

-- 4 get, 5 put, 7 add: byte 2 the node
abbrev pub node_in : List ℕ → ℕ
node_in r = byte 2 r

-- 8 value: byte 1 the node
abbrev pub value_node_in : List ℕ → ℕ
value_node_in r = byte 1 r

-- 5 put, 8 value: value in bytes 4 to 11; 7 add is laid out like put, its number is there
abbrev pub value_in : List ℕ → ℕ
value_in r = number8 4 r

-- UNUSED BYTES. Those from a place on, but for a value in bytes 4 to 11, are zero
abbrev pub zero_but_value : ℕ → List ℕ → Bool
zero_but_value at r = zero_between at 4 r && zero_from 12 r

-- an enter with a mode of 1 to 3 and a name count of 1 to 8; name places past the count are unused
unfoldable pub enter_right : List ℕ → Bool
enter_right r =
    leb 1 (mode_in r) && leb (mode_in r) 3
    && leb 1 (name_count_in r) && leb (name_count_in r) 8
    && zero_from (4 + name_count_in r) r

-- a value is never zero
unfoldable pub value_right : List ℕ → Bool
value_right r = zero_but_value 2 r && not (eqb (value_in r) 0)

-- ORDER. Reading goes from record to record with a stage: where the last record stands, 1 the size record and edges, 2 values, 3 steps, and 0 before
-- any; n of the size record; the least node that the next value may have; and 0, or the refusal that was found, 3 or 4
pub record ReadStage : Type 0 where
  pub at : ℕ
  pub size : ℕ
  pub next : ℕ
  pub wrong : ℕ

-- a stage without a refusal
abbrev pub reached : (at size next : ℕ) → ReadStage
reached at size next = record { at = at; size = size; next = next; wrong = 0 }

-- nothing is read
abbrev pub begun : ReadStage
begun = reached 0 0 0

-- a refusal is found
abbrev pub faulty : ℕ → ReadStage → ReadStage
faulty k t = record { at = t.at; size = t.size; next = t.next; wrong = k }

-- a place in the order: whether a record there may come at a stage, and the stage after it; both may look at the stage and at the record
pub record Place : Type 0 where
  pub follows : ReadStage → List ℕ → Bool
  pub leads : ReadStage → List ℕ → ReadStage

-- the last record stands at one of the places from one to another
abbrev pub between : ℕ → ℕ → ReadStage → Bool
between least most t = leb least t.at && leb t.at most

-- one size record comes first
abbrev pub at_first : Place
at_first = record { follows = λ t r. between 0 0 t; leads = λ t r. reached 1 (size_in r) t.next }

-- then all edges
abbrev pub among_edges : Place
among_edges = record { follows = λ t r. between 1 1 t; leads = λ t r. reached 1 t.size t.next }

-- then values: ascending, so each node once, and below n
abbrev pub among_values : Place
among_values =
    record {
      follows = λ t r. between 1 2 t && (leb t.next (value_node_in r) && ltb (value_node_in r) t.size);
      leads = λ t r. reached 2 t.size (suc (value_node_in r));
    }

-- then steps
abbrev pub among_steps : Place
among_steps = record { follows = λ t r. between 1 3 t; leads = λ t r. reached 3 t.size t.next }

-- KINDS. A kind: byte 0 of its records, their place in the order, and whether fields and unused bytes of one are right
pub record Kind : Type 0 where
  pub number : ℕ
  pub place : Place
  pub right : List ℕ → Bool

-- a row of the table of kinds
abbrev pub row : ℕ → Place → (List ℕ → Bool) → Kind
row number place right = record { number = number; place = place; right = right }

-- size, edge, enter, get, put, leave, add, value
unfoldable pub kinds : List Kind
kinds =
    -- 1 size: bytes 1 and 2 are n
    row 1 at_first (zero_from 3)
    -- 2 edge: byte 1 parent, byte 2 child
    ∷ row 2 among_edges (zero_from 3)
    -- 3 enter: party, mode, name count, names from byte 4 on
    ∷ row 3 among_steps enter_right
    -- 4 get: party, node
    ∷ row 4 among_steps (zero_from 3)
    -- 5 put: party, node, value in bytes 4 to 11
    ∷ row 5 among_steps (zero_but_value 3)
    -- 6 leave: party
    ∷ row 6 among_steps (zero_from 2)
    -- 7 add: party, node, number in bytes 4 to 11
    ∷ row 7 among_steps (zero_but_value 3)
    -- 8 value: node, value in bytes 4 to 11
    ∷ row 8 among_values value_right
    ∷ []

-- the row of a kind; no record of a kind without a row is right
unfoldable pub row_in : List Kind → ℕ → Kind
row_in [] kind = row kind among_steps (λ r. false)
row_in (k ∷ ks) kind = cond (eqb kind k.number) k (row_in ks kind)

-- the row of a record's kind
abbrev pub row_of : List ℕ → Kind
row_of r = row_in kinds (kind_of r)

-- the kind has a row, and mode, name count, value and unused bytes are right. No length is asked: what is missing of 16 bytes counts as zero, and what is behind
-- them as unused
unfoldable pub record_right : List ℕ → Bool
record_right r = (row_of r).right r

-- a step's kind: from 3 on, but not that of a value; of these only 3 to 7 have a row, so that a right record with such a kind is of one of them
abbrev pub step_kind : ℕ → Bool
step_kind kind = leb 3 kind && not (eqb kind 8)
