-- The stage after records and after blocks, one by one, and what an accepted block says. Assumes nothing.
use mathlib.Core.Path.{◌≡◌, refl, sym, ap, ap₂, subst, ◌∙◌}
use mathlib.Core.Logic.{◌≢◌}
use Rattle.std.specs.Prelude.{Err}
use Rattle.refusals.specs.declared.Refusal.{Refusal}
use mathlib.Core.Bool.{Bool, true, false, cond, ◌&&◌, ◌||◌}
use mathlib.Core.List.{List, ◌++◌}
use Prim.Native.Nat.{ℕ, zero, suc, ◌+◌, ◌*◌, ◌-◌, ◌/◌, ◌<◌, ◌≤◌}
use native.Mathlib.Numerals.{add-one}
use native.Mathlib.Omega.{arith}
use borrow.Author.Tests.{leb-true, eqb-true, eqb-false, eq-eqb, ne_eqb}
use lib.Dec.{eqb, leb}
use lib.ListN.{length, take, drop, length-drop, length-append}
use lib.Seq.{drop-drop, take_all, take-take, take_at, drop_at}
use Rattle.std.proofs.lemmas.List.{drop-take}
use Rattle.lists.proofs.Bools.{bool, and_left, and_right}
use Rattle.octets.specs.Bytes.{number2, zero_between}
use Rattle.octets.specs.Fletcher.{fletcher}
use Rattle.blocks.specs.Record.{ReadStage, kind_of, begun, faulty, Place, at_first, among_edges, among_values, among_steps, record_right}
use Rattle.blocks.specs.Block.{placed, after_record, after_records, number_in, count_in, check_in, count_right, head_right, after_block}
use Rattle.blocks.specs.File.{after_blocks}
use Rattle.blocks.specs.Inner.{Reads}
use Rattle.blocks.proofs.Rows.{after_stays, by_place}

-- THE RECORDS of a block, one by one. They are so many bytes from the front
pub front_records : (n : ℕ) (t : ReadStage) (s : List ℕ) → 16 * n ≤ length s → after_records t n (take (16 * n) s) ≡ after_records t n s
unfolding after_records
front_records zero t s h = refl
front_records (suc n) t s h =
    let k : 16 * suc n ≡ 16 + 16 * n = omega arith in
    rw (k, take-take 16 (16 + 16 * n) s (omega arith), drop-take 16 (16 * n) s) (front_records n (after_record t (take 16 s)) (drop 16 s) (omega (arith, length-drop 16 s)))

-- the first of those left, and the others
pub turn_records : (t : ReadStage) (r rest : List ℕ) {left : List ℕ} → left ≡ r ++ rest → length r ≡ 16 → after_records t (length left / 16) left ≡ after_records (after_record t r) (length rest / 16) rest
unfolding after_records
turn_records t r rest {left} e h =
    let more : length left / 16 ≡ suc (length rest / 16) = omega (arith, ap length e, length-append r rest) in
    ap (λ (k : ℕ). after_records t k left) more
    ∙ ap (λ (l : List ℕ). after_records (after_record t (take 16 l)) (length rest / 16) (drop 16 l)) e
    ∙ ap₂ (λ (a b : List ℕ). after_records (after_record t a) (length rest / 16) b) (take_at r rest 16 h) (drop_at r rest 16 h)

-- and none
pub end_records : (t : ReadStage) (left : List ℕ) → length left < 16 → after_records t (length left / 16) left ≡ t
unfolding after_records
end_records t left h = let none : length left / 16 ≡ 0 = omega arith in ap (λ (k : ℕ). after_records t k left) none

-- a refusal stays
pub records_stuck : (n : ℕ) (t : ReadStage) (s : List ℕ) → t.wrong ≢ 0 → after_records t n s ≡ t
unfolding after_records
records_stuck zero t s h = refl
records_stuck (suc n) t s h = rw (after_stays t (take 16 s) h) (records_stuck n t (drop 16 s) h)

-- so a record that is refused is the last that is read
pub stop_records : (t : ReadStage) (n : ℕ) (s : List ℕ) (k : Refusal) {whole : ReadStage} → Reads (Err k) t → after_records t n s ≡ whole → Reads (Err k) whole
stop_records t n s k refuses is = subst (λ (x : ReadStage). Reads (Err k) x) (sym (records_stuck n t s (λ z. omega (arith, z, refuses.1))) ∙ is) refuses

-- the blocks of a file, one by one: the last of k
last_block : (k i : ℕ) → i < k → eqb (i + 1) k ≡ eqb (k - (i + 1)) 0
last_block k i h =
    bool (eqb (i + 1) k)
    (λ e. let z : k - (i + 1) ≡ 0 = omega (arith, eqb-true _ _ e) in e ∙ sym (eq-eqb _ _ z))
    (λ e. e ∙ sym (ne_eqb (k - (i + 1)) 0 (λ z. eqb-false _ _ e (omega (arith, z)))))

pub step_blocks : (s : List ℕ) (t : ReadStage) (k i : ℕ) {u : ReadStage} → i < k
    → u ≡ after_block i (eqb (i + 1) k) t (take (512 * i + 512 - 512 * i) (drop (512 * i) s))
    → after_blocks (k - (i + 1)) (i + 1) u (drop (512 * (i + 1)) s) ≡ after_blocks (k - i) i t (drop (512 * i) s)
unfolding after_blocks
step_blocks s t k i h e =
    let m : k - i ≡ suc (k - (i + 1)) = omega arith in
    let w : 512 * i + 512 - 512 * i ≡ 512 = omega arith in
    let d : 512 * (i + 1) ≡ 512 * i + 512 = omega arith in
    rw (e, last_block k i h, w, m, d, add-one, ← drop-drop 512 (512 * i) s)

pub end_blocks : (s : List ℕ) (t : ReadStage) (k i : ℕ) → k ≤ i → t ≡ after_blocks (k - i) i t (drop (512 * i) s)
unfolding after_blocks
end_blocks s t k i h = let z : k - i ≡ 0 = omega arith in rw z

-- a block whose check differs, one whose head is wrong, and any other
module _ (number : ℕ) (last : Bool) (t : ReadStage) (b : List ℕ) (fine : t.wrong ≡ 0) where
  pub block_differs : check_in b ≢ fletcher (take 508 b) → after_block number last t b ≡ faulty 3 t
  unfolding after_block
  block_differs h = simp (fine, ne_eqb _ _ h)

  pub block_malformed : check_in b ≡ fletcher (take 508 b) → head_right number last b ≡ false → after_block number last t b ≡ faulty 4 t
  unfolding after_block
  block_malformed check h = simp (fine, eq-eqb _ _ check, h)

  pub block_goes : check_in b ≡ fletcher (take 508 b) → head_right number last b ≡ true → after_block number last t b ≡ after_records t (count_in b) (drop 8 b)
  unfolding after_block
  block_goes check h = simp (fine, eq-eqb _ _ check, h)

-- what a right head says
pub record Head (number : ℕ) (last : Bool) (b : List ℕ) : Type 0 where
  pub is : number_in b ≡ number
  pub low : 1 ≤ count_in b
  pub high : count_in b ≤ 31
  pub full : (last || eqb (count_in b) 31) ≡ true
  pub gap : number2 6 b ≡ 0
  pub zeros : zero_between (8 + 16 * count_in b) 508 b ≡ true

count_facts : (last : Bool) (n : ℕ) → count_right last n ≡ true → (1 ≤ n) × (n ≤ 31) × ((last || eqb n 31) ≡ true)
unfolding count_right
count_facts last n h =
    let a = and_left (leb 1 n && leb n 31) (last || eqb n 31) h in
    (leb-true _ _ (and_left (leb 1 n) (leb n 31) a), leb-true _ _ (and_right (leb 1 n) (leb n 31) a), and_right (leb 1 n && leb n 31) (last || eqb n 31) h)

pub head_facts : (number : ℕ) (last : Bool) (b : List ℕ) → head_right number last b ≡ true → Head number last b
unfolding head_right
head_facts number last b h =
    let p : Bool = eqb (number_in b) number in
    let q : Bool = count_right last (count_in b) in
    let r : Bool = eqb (number2 6 b) 0 in
    let t : Bool = zero_between (8 + 16 * count_in b) 508 b in
    let pqr = and_left (p && q && r) t h in
    let pq = and_left (p && q) r pqr in
    let c = count_facts last (count_in b) (and_right p q pq) in
    record { is = eqb-true _ _ (and_left p q pq); low = c.0; high = c.1; full = c.2; gap = eqb-true _ _ (and_right (p && q) r pqr); zeros = and_right (p && q && r) t h }

-- a block that reading took
pub record Good (number : ℕ) (last : Bool) (t : ReadStage) (b : List ℕ) : Type 0 where
  pub before : t.wrong ≡ 0
  pub check : check_in b ≡ fletcher (take 508 b)
  pub head : Head number last b
  pub then : after_records t (count_in b) (drop 8 b) ≡ after_block number last t b

picked : (x y z : Bool) (t after : ReadStage) → x ≡ eqb t.wrong 0 → (cond x (cond y (cond z after (faulty 4 t)) (faulty 3 t)) t).wrong ≡ 0
    → (t.wrong ≡ 0) × (y ≡ true) × (z ≡ true) × (after ≡ cond x (cond y (cond z after (faulty 4 t)) (faulty 3 t)) t)
picked false y z t after e h = absurd (eqb-false t.wrong 0 (sym e) h)
picked true true true t after e h = (eqb-true t.wrong 0 (sym e), refl, refl, refl)
picked true true false t after e h = absurd (omega (arith, h))
picked true false z t after e h = absurd (omega (arith, h))

pub good : (number : ℕ) (last : Bool) (t : ReadStage) (b : List ℕ) → (after_block number last t b).wrong ≡ 0 → Good number last t b
unfolding after_block
good number last t b h =
    let p = picked (eqb t.wrong 0) (eqb (check_in b) (fletcher (take 508 b))) (head_right number last b) t (after_records t (count_in b) (drop 8 b)) refl h in
    record { before = p.0; check = eqb-true _ _ p.1; head = head_facts number last b p.2; then = p.3 }

-- a refusal stays
block_stuck : (number : ℕ) (last : Bool) (t : ReadStage) (b : List ℕ) → eqb t.wrong 0 ≡ false → after_block number last t b ≡ t
unfolding after_block
block_stuck number last t b h = rw h

blocks_stuck : (k number : ℕ) (t : ReadStage) (s : List ℕ) → eqb t.wrong 0 ≡ false → after_blocks k number t s ≡ t
unfolding after_blocks
blocks_stuck zero number t s h = refl
blocks_stuck (suc k) number t s h = rw (block_stuck number (eqb k 0) t (take 512 s) h) (blocks_stuck k (suc number) t (drop 512 s) h)

-- so a block that is refused is the last that is read
pub stop_blocks : (s : List ℕ) (t : ReadStage) (n i : ℕ) (k : Refusal) {whole : ReadStage} → i < n
    → Reads (Err k) (after_block i (eqb (i + 1) n) t (take (512 * i + 512 - 512 * i) (drop (512 * i) s))) → after_blocks (n - i) i t (drop (512 * i) s) ≡ whole → Reads (Err k) whole
stop_blocks s t n i k h refuses is =
    let u : ReadStage = after_block i (eqb (i + 1) n) t (take (512 * i + 512 - 512 * i) (drop (512 * i) s)) in
    let stays = blocks_stuck (n - (i + 1)) (i + 1) u (drop (512 * (i + 1)) s) (ne_eqb u.wrong 0 (λ z. omega (arith, z, refuses.1))) in
    subst (λ (x : ReadStage). Reads (Err k) x) (sym stays ∙ step_blocks s t n i h refl ∙ is) refuses

-- so a stage that leads to none is none
pub blocks_before : (k number : ℕ) (t : ReadStage) (s : List ℕ) → (after_blocks k number t s).wrong ≡ 0 → t.wrong ≡ 0
blocks_before k number t s h =
    bool (eqb t.wrong 0)
    (λ e. eqb-true t.wrong 0 e)
    (λ e. sym (ap (λ (u : ReadStage). u.wrong) (blocks_stuck k number t s e)) ∙ h)

-- an accepted file starts with a good block
pub first_good : (k number : ℕ) (t : ReadStage) (s : List ℕ) → (after_blocks (suc k) number t s).wrong ≡ 0 → Good number (eqb k 0) t (take 512 s)
unfolding after_blocks
first_good k number t s h =
    good number (eqb k 0) t (take 512 s) (blocks_before k (suc number) (after_block number (eqb k 0) t (take 512 s)) (drop 512 s) h)

-- each block of an accepted file counts at most 31 records
counts : (k number : ℕ) (t : ReadStage) (s : List ℕ) → (after_blocks k number t s).wrong ≡ 0 → (i : ℕ) → i < k → count_in (take 512 (drop (512 * i) s)) ≤ 31
unfolding after_blocks
counts zero number t s ok i h = absurd (omega arith)
counts (suc k) number t s ok zero h = (first_good k number t s ok).head.high
counts (suc k) number t s ok (suc i) h =
    let e : 512 * suc i ≡ 512 + 512 * i = omega arith in
    rw (e, ← drop-drop (512 * i) 512 s) (counts k (suc number) (after_block number (eqb k 0) t (take 512 s)) (drop 512 s) ok i (omega arith))

pub counts_part : (k : ℕ) (s : List ℕ) → (after_blocks k 0 begun s).wrong ≡ 0 → (i : ℕ) → i < k → count_in (take (512 * i + 512 - 512 * i) (drop (512 * i) s)) ≤ 31
counts_part k s ok i h = let w : 512 * i + 512 - 512 * i ≡ 512 = omega arith in rw w (counts k 0 begun s ok i h)

-- a refusal is 3 or 4
abbrev Known : ReadStage → Type 0
Known t = (u : ℕ) → u ≡ t.wrong → (u ≡ 0 → ⊥) → (u ≡ 3 → ⊥) → u ≡ 4

none_known : (t : ReadStage) → t.wrong ≡ 0 → Known t
none_known t z u e Some-of three = absurd (Some-of (e ∙ z))

known_if : (b : Bool) (t u : ReadStage) → Known t → Known u → Known (cond b t u)
known_if true t u p q = p
known_if false t u p q = q

-- a record may be refused with 4 only
abbrev Four : ReadStage → Type 0
Four t = (t.wrong ≡ 0 → ⊥) → t.wrong ≡ 4

four_if : (b : Bool) (t u : ReadStage) → Four t → Four u → Four (cond b t u)
four_if true t u p q = p
four_if false t u p q = q

record_four : (t : ReadStage) (r : List ℕ) → Four t → Four (after_record t r)
unfolding after_record
record_four t r h =
    four_if (eqb t.wrong 0) _ t
    (four_if (record_right r) _ (faulty 4 t)
    (by_place (λ (p : Place). Four (placed p t r)) (in_place at_first refl) (in_place among_edges refl) (in_place among_values refl) (in_place among_steps refl) (kind_of r))
    four)
    h
  where
    four : Four (faulty 4 t)
    four Some-of = refl

    in_place : (p : Place) → (p.leads t r).wrong ≡ 0 → Four (placed p t r)
    in_place p z = four_if (p.follows t r) (p.leads t r) (faulty 4 t) (λ Some-of. absurd (Some-of z)) four

pub records_four : (n : ℕ) (t : ReadStage) (s : List ℕ) → Four t → Four (after_records t n s)
unfolding after_records
records_four zero t s h = h
records_four (suc n) t s h = records_four n (after_record t (take 16 s)) (drop 16 s) (record_four t (take 16 s) h)

records_known : (n : ℕ) (t : ReadStage) (s : List ℕ) → t.wrong ≡ 0 → Known (after_records t n s)
records_known n t s z u e Some-of three = e ∙ records_four n t s (λ h. absurd (h z)) (λ w. Some-of (e ∙ w))

block_known : (number : ℕ) (last : Bool) (t : ReadStage) (b : List ℕ) → Known t → Known (after_block number last t b)
unfolding after_block
block_known number last t b h = by (eqb t.wrong 0) refl
  where
    by : (x : Bool) → eqb t.wrong 0 ≡ x → Known (cond x (cond (eqb (check_in b) (fletcher (take 508 b))) (cond (head_right number last b) (after_records t (count_in b) (drop 8 b)) (faulty 4 t)) (faulty 3 t)) t)
    by true e =
        known_if (eqb (check_in b) (fletcher (take 508 b))) _ (faulty 3 t)
        (known_if (head_right number last b) (after_records t (count_in b) (drop 8 b)) (faulty 4 t) (records_known (count_in b) t (drop 8 b) (eqb-true t.wrong 0 e)) (λ u e Some-of three. e))
        (λ u e Some-of three. absurd (three e))
    by false e = h

pub blocks_known : (k number : ℕ) (t : ReadStage) (s : List ℕ) → Known t → Known (after_blocks k number t s)
unfolding after_blocks
blocks_known zero number t s h = h
blocks_known (suc k) number t s h =
    blocks_known k (suc number) (after_block number (eqb k 0) t (take 512 s)) (drop 512 s) (block_known number (eqb k 0) t (take 512 s) h)

pub file_known : (file : List ℕ) (k : ℕ) → Known (after_blocks k 0 begun file)
file_known file k = blocks_known k 0 begun file (none_known begun refl)

-- `&s[a..]` is what is left behind a
pub part_to_end : (s : List ℕ) (a : ℕ) → take (length s - a) (drop a s) ≡ drop a s
part_to_end s a = take_all (length s - a) (drop a s) (simp length-drop (omega arith))
