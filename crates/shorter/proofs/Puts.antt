-- Value records written one behind the other. Assumes nothing.
use mathlib.Core.Path.{◌≡◌, refl, sym, ap, ◌∙◌}
use mathlib.Core.Logic.{◌≢◌}
use mathlib.Core.Bool.{Bool, true, false, not}
use mathlib.Core.List.{List, [], ◌++◌, append-nil, append_assoc}
use Prim.Native.Nat.{ℕ, ◌+◌, ◌-◌, ◌/◌, ◌%◌, ◌<◌, ◌≤◌}
use native.Mathlib.Nat.{add-zero}
use native.Mathlib.Numerals.{add-one}
use native.Mathlib.Omega.{arith}
use lib.Dec.{eqb}
use lib.ListN.{length, get_or, take, drop, set, replicate, length-append, length-drop, drop_of_length-le}
use lib.Seq.{length-take-le, take_all}
use borrow.Author.Tests.{eq-eqb, ne_eqb}
use Rattle.lists.specs.Lists.{kept_if, over}
use Rattle.lists.proofs.Loops.{drop_step}
use Rattle.octets.specs.Bytes.{bytes4}
use Rattle.octets.specs.Writes.{over_at, put_at}
use Rattle.octets.proofs.Writes.{length_over, over_first, over_over, over_none, put_fits}
use Rattle.cutting.specs.Cut.{value_record, value_records, bytes_of}
use Rattle.shorter.specs.Inner.{value_bytes, values_bytes, short_bytes}

-- the kind, the node and the two halves of the value, put into sixteen zeros
pub sixteen_bytes : (node value : ℕ) → put_at 8 (bytes4 (value / 4294967296)) (put_at 4 (bytes4 (value % 4294967296)) (set (set (replicate 16 0) 0 8) 1 node)) ≡ value_record node value
unfolding put_at over_at
sixteen_bytes node value = refl

-- a value that is zero has no record, and any other has one
module _ (node value at : ℕ) (room : List ℕ) where
  pub value_zero : value ≡ 0 → (at ≡ at + length (value_bytes node value)) × (room ≡ over_at at (value_bytes node value) room)
  unfolding bytes_of
  value_zero z =
      let e : value_bytes node value ≡ [] = ap (λ (b : Bool). bytes_of (kept_if (not b) (value_record node value) [])) (eq-eqb value 0 z) in
      (sym (ap (λ (t : List ℕ). at + length t) e ∙ add-zero at), sym (ap (λ (t : List ℕ). over_at at t room) e ∙ over_none room at))

  pub value_some : value ≢ 0 → value_bytes node value ≡ value_record node value
  unfolding bytes_of
  value_some h = ap (λ (b : Bool). bytes_of (kept_if (not b) (value_record node value) [])) (ne_eqb value 0 h) ∙ append-nil (value_record node value)

-- THE SHORTER FILE'S RECORDS, in three writes
module _ (records : List ℕ) (head from : ℕ) (values room : List ℕ) (front : head ≤ length records) (back : from ≤ length records)
    (fits : length (short_bytes records head from values) ≤ length room) where
  abbrev first : List ℕ
  first = take head records

  abbrev second : List ℕ
  second = values_bytes values

  abbrev third : List ℕ
  third = drop from records

  first_long : length first ≡ head
  first_long = length-take-le head records front

  pub short_length : length (short_bytes records head from values) ≡ head + length second + (length records - from)
  short_length =
      length-append first (second ++ third)
      ∙ (let e : length first + length (second ++ third) ≡ head + length second + (length records - from) = omega (arith, first_long, length-append second third, length-drop from records) in e)

  pub short_put : {d1 d2 d3 : List ℕ} {at : ℕ} → d1 ≡ put_at 0 (take (head - 0) (drop 0 records)) room → at ≡ head + length second → d2 ≡ over_at head second d1
      → d3 ≡ put_at at (take (length records - from) (drop from records)) d2 → d3 ≡ over (short_bytes records head from values) room
  short_put {d1} {d2} {d3} {at} p1 a p2 p3 =
      let z : head - 0 ≡ head = omega arith in
      let e1 : d1 ≡ over_at 0 first room = p1 ∙ ap (λ (k : ℕ). put_at 0 (take k records) room) z ∙ put_fits room 0 first (omega (arith, first_long, short_length, fits)) in
      let e2 : d2 ≡ over_at 0 (first ++ second) room =
      p2 ∙ ap (λ (d : List ℕ). over_at head second d) e1
      ∙ ap (λ (k : ℕ). over_at k second (over_at 0 first room)) (let e : head ≡ 0 + length first = omega (arith, first_long) in e)
      ∙ over_over room 0 first second (omega (arith, first_long, short_length, fits)) in
      let long : length (over_at 0 (first ++ second) room) ≡ length room = length_over room 0 (first ++ second) (omega (arith, first_long, length-append first second, short_length, fits)) in
      p3
      ∙ ap (λ (t : List ℕ). put_at at t d2) (take_all (length records - from) third (omega (arith, length-drop from records)))
      ∙ ap (λ (d : List ℕ). put_at at third d) e2
      ∙ ap (λ (k : ℕ). put_at k third (over_at 0 (first ++ second) room)) (let e : at ≡ 0 + length (first ++ second) = omega (arith, a, first_long, length-append first second) in e)
      ∙ put_fits (over_at 0 (first ++ second) room) (0 + length (first ++ second)) third (omega (arith, long, first_long, length-append first second, length-drop from records, short_length, fits))
      ∙ over_over room 0 (first ++ second) third (omega (arith, first_long, length-append first second, short_length, fits))
      ∙ ap (λ (t : List ℕ). over_at 0 t room) (append_assoc first second third)
      ∙ over_first (short_bytes records head from values) room

-- the value records of the values from a node on
abbrev pub left : List ℕ → ℕ → List ℕ
left values node = bytes_of (value_records node (drop node values))

left_step : (values : List ℕ) (node : ℕ) → node < length values → left values node ≡ value_bytes node (get_or values node 0) ++ left values (node + 1)
unfolding value_records bytes_of
left_step values node h =
    ap (λ (l : List ℕ). bytes_of (value_records node l)) (drop_step values node 0 refl h)
    ∙ ap (λ (m : ℕ). bytes_of (kept_if (not (eqb (get_or values node 0) 0)) (value_record node (get_or values node 0)) (value_records m (drop (node + 1) values)))) (sym (add-one node))
    ∙ by (not (eqb (get_or values node 0) 0)) (value_records (node + 1) (drop (node + 1) values))
  where
    by : (b : Bool) (more : List (List ℕ)) → bytes_of (kept_if b (value_record node (get_or values node 0)) more) ≡ bytes_of (kept_if b (value_record node (get_or values node 0)) []) ++ bytes_of more
    by true more = ap (λ (t : List ℕ). t ++ bytes_of more) (sym (append-nil (value_record node (get_or values node 0))))
    by false more = refl

module _ (values : List ℕ) (node : ℕ) (h : node < length values) where
  abbrev here : List ℕ
  here = value_bytes node (get_or values node 0)

  pub left_length : length (left values node) ≡ length here + length (left values (node + 1))
  left_length = ap length (left_step values node h) ∙ length-append here (left values (node + 1))

  -- a node's record is written
  pub left_turn : (at : ℕ) (room : List ℕ) → at + length here ≤ length room
      → over_at (at + length here) (left values (node + 1)) (over_at at here room) ≡ over_at at (left values node) room
  left_turn at room fits =
      over_over room at here (left values (node + 1)) fits ∙ ap (λ (t : List ℕ). over_at at t room) (sym (left_step values node h))

pub left_end : (values : List ℕ) (node : ℕ) → length values ≤ node → left values node ≡ []
unfolding value_records bytes_of
left_end values node h = ap (λ (l : List ℕ). bytes_of (value_records node l)) (drop_of_length-le values {i = node} h)

-- sixteen bytes for each value at most
pub value_few : (node value : ℕ) → length (value_bytes node value) ≤ 16
unfolding bytes_of
value_few node value = by (not (eqb value 0))
  where
    by : (b : Bool) → length (bytes_of (kept_if b (value_record node value) [])) ≤ 16
    by true = omega arith
    by false = omega arith
