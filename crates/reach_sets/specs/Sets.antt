-- Sets of nodes, one bit for each, as four words of 64 bits; the reach of each node as a set (02, point 2). Assumes nothing.
use Rattle.std.specs.Prelude.{List, [], ◌∷◌, ◌++◌, Bool, not, cond, ◌&&◌, ℕ, zero, suc, ◌+◌, ◌*◌, ◌/◌, ◌%◌, ◌^◌, eqb, ltb, length, get_or, set, take, drop, replicate}
use Rattle.std.specs.Int.Bits.{bit_or}
use Rattle.lists.specs.Lists.{one, any_below}
use Rattle.hierarchy.specs.Hierarchy.{reach}
use Rattle.reach_sets.specs.declared.NodeSet.{NodeSet}

-- bit i of a word
abbrev pub bit : ℕ → ℕ → ℕ
bit word i = word / 2 ^ i % 2

-- word k of a set
abbrev pub word_at : NodeSet → ℕ → ℕ
word_at s k = get_or s.words k 0

-- the node is in the set: bit i % 64 of word i / 64 for node i. A node from 256 on is in none
abbrev pub has : NodeSet → ℕ → Bool
has s node = eqb (bit (word_at s (node / 64)) (node % 64)) 1

-- the set without a node
abbrev pub no_nodes : NodeSet
no_nodes = record { words = replicate 4 0 }

-- the nodes of either set: their words joined by or
abbrev pub joined : NodeSet → NodeSet → NodeSet
joined a b =
    record {
      words =
          bit_or (word_at a 0) (word_at b 0)
          ∷ bit_or (word_at a 1) (word_at b 1)
          ∷ bit_or (word_at a 2) (word_at b 2)
          ∷ bit_or (word_at a 3) (word_at b 3)
          ∷ [];
    }

-- two sets meet: some node is in both
abbrev pub meets : NodeSet → NodeSet → Bool
meets a b = any_below 256 (λ node. has a node && has b node)

-- TABLES, four words for each node. The set of a node; a word past the table is 0
abbrev pub set_at : List ℕ → ℕ → NodeSet
set_at table node =
    record { words = get_or table (4 * node) 0 ∷ get_or table (4 * node + 1) 0 ∷ get_or table (4 * node + 2) 0 ∷ get_or table (4 * node + 3) 0 ∷ [] }

-- the four words of a node replaced
abbrev pub stored_at : List ℕ → ℕ → NodeSet → List ℕ
stored_at table node s =
    set (set (set (set table (4 * node) (word_at s 0)) (4 * node + 1) (word_at s 1)) (4 * node + 2) (word_at s 2)) (4 * node + 3) (word_at s 3)

-- the table with a node's set in it; a node that it has no four words for is passed over
abbrev pub set_to : List ℕ → ℕ → NodeSet → List ℕ
set_to table node s = cond (ltb node (length table / 4)) (stored_at table node s) table

-- a set joined with those of these nodes, one after the other
unfoldable pub joined_with : NodeSet → List ℕ → List ℕ → NodeSet
joined_with s table [] = s
joined_with s table (name ∷ names) = joined_with (joined s (set_at table name)) table names

-- the set of a call that names these nodes
abbrev pub call_set : List ℕ → List ℕ → NodeSet
call_set table names = joined_with no_nodes table names

-- REACH. Flags as the bits of a word, the first of them the lowest
unfoldable pub word_of : List ℕ → ℕ
word_of [] = 0
word_of (f ∷ fs) = one (not (eqb f 0)) + 2 * word_of fs

-- the set of the nodes with a flag, of at most 256
abbrev pub set_of : List ℕ → NodeSet
set_of flags =
    record {
      words =
          word_of (take 64 flags)
          ∷ word_of (take 64 (drop 64 flags))
          ∷ word_of (take 64 (drop 128 flags))
          ∷ word_of (take 64 (drop 192 flags))
          ∷ [];
    }

-- the reaches of k nodes, from a node on
unfoldable pub sets_from : ℕ → List ℕ → ℕ → ℕ → List ℕ
sets_from n es zero node = []
sets_from n es (suc k) node = (set_of (reach n es node)).words ++ sets_from n es k (suc node)

-- the reach of each of n nodes
unfoldable pub set_table : ℕ → List ℕ → List ℕ
set_table n es = sets_from n es n 0
