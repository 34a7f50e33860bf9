-- Records one behind the other: how many there are, and the bytes of one; the edge table, record by record. Assumes nothing.
use mathlib.Core.Path.{◌≡◌, refl, sym, ap, ◌∙◌}
use mathlib.Core.Logic.{◌≢◌}
use mathlib.Core.List.{List, [], ◌∷◌, ◌++◌}
use mathlib.Core.Bool.{Bool, true, false, cond}
use Prim.Native.Nat.{ℕ, zero, suc, ◌+◌, ◌-◌, ◌*◌, ◌/◌, ◌<◌, ◌≤◌, min}
use native.Mathlib.Nat.{not-suc-le-zero, zero-add}
use native.Mathlib.Numerals.{add-one}
use native.Mathlib.Omega.{arith}
use lib.Dec.{eqb, ltb}
use lib.ListN.{length, get_or, take, drop, set, length-append, length-take, length-drop, length-set}
use borrow.Author.Tests.{ne_eqb}
use lib.Seq.{set_out, get_or-take, get_or-drop, drop-drop, sets-eq}
use Rattle.lists.specs.Lists.{count, one, over}
use Rattle.lists.specs.Answer.{◌when◌, refusal}
use Rattle.lists.proofs.Loops.{drop_step}
use Rattle.octets.specs.Bytes.{byte, number2}
use Rattle.blocks.specs.Record.{kind_of, parent_in, child_in, name_count_in, names_in, value_node_in, value_in}
use Rattle.octets.specs.Writes.{over_at}
use Rattle.octets.proofs.Writes.{over_over, over_none, over_turn}
use Rattle.locks.proofs.Tables.{half_ltb}
use Rattle.replay.specs.Replay.{each_record, record_list, size_of, edge_if, edge_table, edge_count_of, with_value, values_from}
use Rattle.std.specs.Prelude.{Ok, Err}
use Rattle.refusals.specs.declared.Refusal.TheVariants.{Short}
use Rattle.replay.specs.Answers.{edges_refusal, EdgesInto, edges_into}
use Rattle.replay.specs.Inner.{record_at, edge_of}

-- a byte of a record
pub record_byte : (bytes : List ℕ) (i j : ℕ) → j < 16 → byte j (record_at bytes i) ≡ byte (16 * i + j) bytes
record_byte bytes i j h = get_or-take 16 (drop (16 * i) bytes) j 0 h ∙ get_or-drop (16 * i) bytes j 0

each_length : (k : ℕ) (bytes : List ℕ) → length (each_record k bytes) ≡ k
unfolding each_record
each_length zero bytes = refl
each_length (suc k) bytes = ap suc (each_length k (drop 16 bytes))

each_at : (k : ℕ) (bytes : List ℕ) (i : ℕ) → i < k → get_or (each_record k bytes) i [] ≡ record_at bytes i
unfolding each_record
each_at zero bytes i h = absurd (not-suc-le-zero h)
each_at (suc k) bytes zero h = refl
each_at (suc k) bytes (suc i) h =
    each_at k (drop 16 bytes) i (omega arith)
    ∙ ap (take 16) (drop-drop (16 * i) 16 bytes ∙ ap (λ (m : ℕ). drop m bytes) (let e : 16 + 16 * i ≡ 16 * suc i = omega arith in e))

-- as many records as the bytes hold whole
pub records_length : (bytes : List ℕ) → length (record_list bytes) ≡ length bytes / 16
records_length bytes = each_length (length bytes / 16) bytes

-- and which one stands at a place
pub records_at : (bytes : List ℕ) (i : ℕ) → i < length bytes / 16 → get_or (record_list bytes) i [] ≡ record_at bytes i
records_at bytes i h = each_at (length bytes / 16) bytes i h

-- a count goes on by one element
pub count_turn : {A : Type 0} (p : A → Bool) (l : List A) (i : ℕ) (d : A) (n : ℕ) {x : A} {r : ℕ} → n + count p (drop i l) ≡ r → get_or l i d ≡ x → i < length l
    → (n + one (p x)) + count p (drop (i + 1) l) ≡ r
unfolding count
count_turn p l i d n inv at h = let q = rw (drop_step l i d at h) at inv in omega arith

-- the edge table, record by record
edge_table_cons : (r : List ℕ) (rs : List (List ℕ)) → edge_table (r ∷ rs) ≡ edge_of r ++ edge_table rs
unfolding edge_table
edge_table_cons r rs = by (eqb (kind_of r) 2)
  where
    by : (b : Bool) → edge_if b (parent_in r) (child_in r) (edge_table rs) ≡ edge_if b (parent_in r) (child_in r) [] ++ edge_table rs
    by true = refl
    by false = refl

-- two places for each edge
pub edge_table_length : (rs : List (List ℕ)) → length (edge_table rs) ≡ 2 * edge_count_of rs
unfolding edge_table count
edge_table_length [] = refl
edge_table_length (r ∷ rs) = by (eqb (kind_of r) 2) (edge_table_length rs)
  where
    by : (b : Bool) → length (edge_table rs) ≡ 2 * edge_count_of rs → length (edge_if b (parent_in r) (child_in r) (edge_table rs)) ≡ 2 * (one b + edge_count_of rs)
    by true e = omega arith
    by false e = omega arith

-- a record's edge is put into the table
pub table_turn : (r : List ℕ) (rs : List (List ℕ)) (at : ℕ) (table : List ℕ) → at + length (edge_table (r ∷ rs)) ≤ length table
    → over_at (at + length (edge_of r)) (edge_table rs) (over_at at (edge_of r) table) ≡ over_at at (edge_table (r ∷ rs)) table
table_turn r rs at table fits =
    let e = edge_table_cons r rs in
    over_over table at (edge_of r) (edge_table rs) (omega (arith, ap length e, length-append (edge_of r) (edge_table rs)))
    ∙ ap (λ (t : List ℕ). over_at at t table) (sym e)

pub table_length_step : (r : List ℕ) (rs : List (List ℕ)) → length (edge_table (r ∷ rs)) ≡ length (edge_of r) + length (edge_table rs)
table_length_step r rs = ap length (edge_table_cons r rs) ∙ length-append (edge_of r) (edge_table rs)

-- and no record is left
pub table_end : (at : ℕ) (table : List ℕ) → table ≡ over_at at (edge_table []) table
unfolding edge_table
table_end at table = sym (over_none table at)

-- THE VALUES, record by record
pub with_length : (values r : List ℕ) → length (with_value values r) ≡ length values
with_length values r = by (eqb (kind_of r) 8)
  where
    by : (b : Bool) → length (cond b (set values (value_node_in r) (value_in r)) values) ≡ length values
    by true = length-set values (value_node_in r) (value_in r)
    by false = refl

-- a value record sets its node's place, if there is one, and no other record does
module _ (values r : List ℕ) where
  pub with_put : kind_of r ≡ 8 → with_value values r ≡ set values (value_node_in r) (value_in r)
  with_put e = ap (λ (k : ℕ). cond (eqb k 8) (set values (value_node_in r) (value_in r)) values) e

  pub with_out : kind_of r ≡ 8 → length values ≤ value_node_in r → with_value values r ≡ values
  with_out e h = with_put e ∙ set_out values (value_node_in r) (value_in r) h

  pub with_none : kind_of r ≢ 8 → with_value values r ≡ values
  with_none h = ap (λ (b : Bool). cond b (set values (value_node_in r) (value_in r)) values) (ne_eqb (kind_of r) 8 h)

pub values_length : (rs : List (List ℕ)) (values : List ℕ) → length (values_from values rs) ≡ length values
unfolding values_from
values_length [] values = refl
values_length (r ∷ rs) values = values_length rs (with_value values r) ∙ with_length values r

-- n is that of the first record
size_of_law : (k : ℕ) (bytes : List ℕ) → 1 ≤ k → size_of (each_record k bytes) ≡ number2 1 bytes
unfolding each_record
size_of_law zero bytes h = absurd (not-suc-le-zero h)
size_of_law (suc k) bytes h =
    ap (λ (x : ℕ). x + 256 * byte 2 (take 16 bytes)) (get_or-take 16 bytes 1 0 (omega arith))
    ∙ ap (λ (x : ℕ). byte 1 bytes + 256 * x) (get_or-take 16 bytes 2 0 (omega arith))

pub size_some : (bytes : List ℕ) → 16 ≤ length bytes → size_of (record_list bytes) ≡ number2 1 bytes
size_some bytes h = size_of_law (length bytes / 16) bytes (omega arith)

-- of no record it is 0
pub size_none : (bytes : List ℕ) → length bytes < 16 → size_of (record_list bytes) ≡ 0
unfolding each_record
size_none bytes h = let e : length bytes / 16 ≡ 0 = omega arith in ap (λ (k : ℕ). size_of (each_record k bytes)) e

-- a record that is no edge gives nothing to the edge table, and an edge its two ends
pub edge_none : (r : List ℕ) → eqb (kind_of r) 2 ≡ false → edge_of r ≡ []
edge_none r e = ap (λ (b : Bool). edge_if b (parent_in r) (child_in r) []) e

pub edge_some : (r : List ℕ) → eqb (kind_of r) 2 ≡ true → edge_of r ≡ parent_in r ∷ child_in r ∷ []
edge_some r e = ap (λ (b : Bool). edge_if b (parent_in r) (child_in r) []) e

-- two numbers are stored
pub stores_pair : (d : List ℕ) (at a b : ℕ) → at + 2 ≤ length d → set (set d at a) (at + 1) b ≡ over_at at (a ∷ b ∷ []) d
unfolding over_at
stores_pair d at a b h = rw add-one (sets-eq (a ∷ b ∷ []) d at h)

-- a record's names
pub names_length : (bytes : List ℕ) → length (names_in bytes) ≡ min (name_count_in bytes) (length bytes - 4)
names_length bytes = length-take (name_count_in bytes) (drop 4 bytes) ∙ ap (min (name_count_in bytes)) (length-drop 4 bytes)

pub names_at : (bytes : List ℕ) (i : ℕ) → i < length (names_in bytes) → get_or bytes (i + 4) 0 ≡ get_or (names_in bytes) i 0
names_at bytes i h =
    let few : i < name_count_in bytes = omega (arith, names_length bytes) in
    let swap : i + 4 ≡ 4 + i = omega arith in
    ap (λ (k : ℕ). get_or bytes k 0) swap ∙ sym (get_or-take (name_count_in bytes) (drop 4 bytes) i 0 few ∙ get_or-drop 4 bytes i 0)

-- one name is stored
pub names_turn : (bytes names : List ℕ) (i : ℕ) → i < length (names_in bytes) → i < length names
    → over_at (i + 1) (drop (i + 1) (names_in bytes)) (set names i (get_or bytes (i + 4) 0)) ≡ over_at i (drop i (names_in bytes)) names
names_turn bytes names i h room =
    let x : ℕ = get_or (names_in bytes) i 0 in
    ap (λ (y : ℕ). over_at (i + 1) (drop (i + 1) (names_in bytes)) (set names i y)) (names_at bytes i h)
    ∙ ap (λ (k : ℕ). over_at k (drop (i + 1) (names_in bytes)) (set names i x)) (sym (zero-add (i + 1)))
    ∙ ap (λ (k : ℕ). over_at (0 + (i + 1)) (drop (i + 1) (names_in bytes)) (set names k x)) (sym (zero-add i))
    ∙ over_turn names 0 i (names_in bytes) h (omega arith)
    ∙ ap (λ (k : ℕ). over_at k (drop i (names_in bytes)) names) (zero-add i)

-- THE EDGE TABLE into lent places
module _ (rs : List (List ℕ)) (table : List ℕ) where
  short_is : (b : Bool) → ltb (length table / 2) (edge_count_of rs) ≡ b → edges_refusal rs table ≡ refusal (1 when b ∷ [])
  short_is b e = ap (λ (x : Bool). refusal (1 when x ∷ [])) (sym (half_ltb (length table) (edge_count_of rs)) ∙ e)

  pub edges_short : ltb (length table / 2) (edge_count_of rs) ≡ true → EdgesInto (Err Short) table (edges_into rs table)
  unfolding edges_into refusal
  edges_short e = rw (short_is true e) (refl, refl)

  pub edges_done : (table' : List ℕ) → ltb (length table / 2) (edge_count_of rs) ≡ false → table' ≡ over (edge_table rs) table
      → EdgesInto (Ok (edge_count_of rs)) table' (edges_into rs table)
  unfolding edges_into refusal
  edges_done table' e t = rw (short_is false e) (refl, t)
