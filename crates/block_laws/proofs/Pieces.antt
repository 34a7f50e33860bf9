-- What the round trips rest on: runs of zeros, stages over records, numbers in bytes, the size of the check. Assumes nothing.
use mathlib.Core.Path.{◌≡◌, refl, sym, ap, ◌∙◌}
use mathlib.Core.Bool.{true}
use mathlib.Core.List.{List, [], ◌∷◌, ◌++◌}
use Prim.Native.Nat.{ℕ, zero, suc, ◌+◌, ◌*◌, ◌/◌, ◌%◌, ◌^◌, ◌<◌, ◌≤◌}
use native.Mathlib.Nat.{zero-add, suc-add, add-mul-mod_self_left, mod-eq_of_lt}
use native.Mathlib.Omega.{arith}
use borrow.Author.Tests.{eqb-true, eqb-false}
use lib.Dec.{eqb}
use lib.ListN.{length, take, drop, replicate, length-drop, take-append-drop}
use lib.Seq.{take-append-le, drop-append-le, get_or-drop, length-take-le}
use Rattle.lists.specs.Lists.{every, Below}
use Rattle.lists.proofs.Bools.{bool, and_left, and_right}
use Rattle.octets.specs.Fletcher.{words, sums, fletcher}
use Rattle.octets.specs.Bytes.{number4, bytes2, bytes4}
use Rattle.blocks.specs.Record.{ReadStage, begun}
use Rattle.blocks.specs.Block.{after_record, after_records}
use Rattle.blocks.proofs.Stages.{records_stuck}

-- ZEROS. A run of zero bytes is so many zeros, and the other way round
pub zeros_are : (s : List ℕ) → every (eqb 0) s ≡ true → s ≡ replicate (length s) 0
unfolding every
zeros_are [] h = refl
zeros_are (x ∷ s) h =
    let e : 0 ≡ x = eqb-true 0 x (and_left (eqb 0 x) (every (eqb 0) s) h) in
    let r : s ≡ replicate (length s) 0 = zeros_are s (and_right (eqb 0 x) (every (eqb 0) s) h) in
    rw (sym e) (ap (λ (l : List ℕ). 0 ∷ l) r)

pub zeros_pass : (n : ℕ) → every (eqb 0) (replicate n 0) ≡ true
unfolding every
zeros_pass zero = refl
zeros_pass (suc n) = zeros_pass n

-- RECORDS. The stage after n records reads no byte past them
pub records_prefix : (n : ℕ) (t : ReadStage) (c d : List ℕ) → length c ≡ 16 * n → after_records t n (c ++ d) ≡ after_records t n c
unfolding after_records
records_prefix zero t c d h = refl
records_prefix (suc n) t c d h =
    let room : 16 ≤ length c = omega arith in
    let less : length (drop 16 c) ≡ 16 * n = simp length-drop (omega arith) in
    ap (λ (l : List ℕ). after_records (after_record t l) n (drop 16 (c ++ d))) (take-append-le 16 c d room)
    ∙ ap (λ (l : List ℕ). after_records (after_record t (take 16 c)) n l) (drop-append-le 16 c d room)
    ∙ records_prefix n (after_record t (take 16 c)) (drop 16 c) d less

pub records_front : (n : ℕ) (r : List ℕ) → 16 * n ≤ length r → after_records begun n (take (16 * n) r) ≡ after_records begun n r
records_front n r h =
    sym (records_prefix n begun (take (16 * n) r) (drop (16 * n) r) (length-take-le (16 * n) r h))
    ∙ ap (λ (t : List ℕ). after_records begun n t) (take-append-drop (16 * n) r)

-- more records go on from the stage of the first
pub records_append : (n m : ℕ) (t : ReadStage) (c d : List ℕ) → length c ≡ 16 * n → after_records t (n + m) (c ++ d) ≡ after_records (after_records t n c) m d
unfolding after_records
records_append zero m t [] d h = rw zero-add
records_append zero m t (x ∷ c) d h = absurd (omega arith)
records_append (suc n) m t c d h =
    let room : 16 ≤ length c = omega arith in
    let less : length (drop 16 c) ≡ 16 * n = simp length-drop (omega arith) in
    ap (λ (k : ℕ). after_records t k (c ++ d)) (suc-add n m)
    ∙ ap (λ (l : List ℕ). after_records (after_record t l) (n + m) (drop 16 (c ++ d))) (take-append-le 16 c d room)
    ∙ ap (λ (l : List ℕ). after_records (after_record t (take 16 c)) (n + m) l) (drop-append-le 16 c d room)
    ∙ records_append n m (after_record t (take 16 c)) (drop 16 c) d less

-- a refusal stays, so a stage that leads to none is none
pub records_before : (n : ℕ) (t : ReadStage) (s : List ℕ) → (after_records t n s).wrong ≡ 0 → t.wrong ≡ 0
records_before n t s h =
    bool (eqb t.wrong 0)
    (λ e. eqb-true t.wrong 0 e)
    (λ e. sym (ap (λ (u : ReadStage). u.wrong) (records_stuck n t s (eqb-false t.wrong 0 e))) ∙ h)

-- NUMBERS IN BYTES. Bytes are those of the number that they hold
pub four : (a b c d : ℕ) → a < 256 → b < 256 → c < 256 → d < 256 → (a ∷ b ∷ c ∷ d ∷ []) ≡ bytes4 (a + 256 * b + 65536 * (c + 256 * d))
four a b c d ha hb hc hd =
    let n : ℕ = a + 256 * b + 65536 * (c + 256 * d) in
    let p : n % 256 ≡ a = omega arith in
    let q1 : n / 256 ≡ b + 256 * (c + 256 * d) = omega arith in
    let q : n / 256 % 256 ≡ b = ap (λ (k : ℕ). k % 256) q1 ∙ add-mul-mod_self_left b 256 (c + 256 * d) ∙ mod-eq_of_lt hb in
    let r1 : n / 65536 ≡ c + 256 * d = omega arith in
    let r : n / 65536 % 256 ≡ c = ap (λ (k : ℕ). k % 256) r1 ∙ add-mul-mod_self_left c 256 d ∙ mod-eq_of_lt hc in
    let t : n / 16777216 ≡ d = omega arith in
    rw (p, q, r, t)

pub four_are : (t : List ℕ) → Below 256 t → length t ≡ 4 → t ≡ bytes4 (number4 0 t)
four_are (a ∷ b ∷ c ∷ d ∷ []) h e =
    let ha : a < 256 = h 0 in
    let hb : b < 256 = h 1 in
    let hc : c < 256 = h 2 in
    let hd : d < 256 = h 3 in
    four a b c d ha hb hc hd
four_are [] h e = absurd (omega arith)
four_are (a ∷ []) h e = absurd (omega arith)
four_are (a ∷ b ∷ []) h e = absurd (omega arith)
four_are (a ∷ b ∷ c ∷ []) h e = absurd (omega arith)
four_are (a ∷ b ∷ c ∷ d ∷ x ∷ t) h e = absurd (omega arith)

pub two : (a b : ℕ) → a < 256 → b < 256 → (a ∷ b ∷ []) ≡ bytes2 (a + 256 * b)
two a b ha hb =
    let p : (a + 256 * b) % 256 ≡ a = omega arith in
    let q : (a + 256 * b) / 256 ≡ b = omega arith in
    rw (p, q)

pub value4 : (x : ℕ) → x < 2 ^ 32 → (x % 256 + 256 * (x / 256 % 256)) + 65536 * (x / 65536 % 256 + 256 * (x / 16777216)) ≡ x
value4 x h = omega arith

pub number4_drop : (s : List ℕ) → number4 0 (drop 508 s) ≡ number4 508 s
number4_drop s = simp get_or-drop

-- parts of bytes are bytes
pub bytes_drop : (n : ℕ) (s : List ℕ) → Below 256 s → Below 256 (drop n s)
bytes_drop n s h i = rw get_or-drop (h (n + i))

pub bytes_take : (n : ℕ) (s : List ℕ) → Below 256 s → Below 256 (take n s)
bytes_take zero s h i = omega arith
bytes_take (suc n) [] h i = h i
bytes_take (suc n) (x ∷ s) h zero = h 0
bytes_take (suc n) (x ∷ s) h (suc i) = bytes_take n s (λ (j : ℕ). h (suc j)) i

-- THE CHECK fits four bytes
sums_fit : (ws : List ℕ) (a b : ℕ) → a < 65535 → b < 65535 → sums a b ws < 2 ^ 32
unfolding sums
sums_fit [] a b ha hb = omega arith
sums_fit (w ∷ ws) a b ha hb = sums_fit ws ((a + w) % 65535) ((b + (a + w) % 65535) % 65535) (omega arith) (omega arith)

pub check_fits : (s : List ℕ) → fletcher s < 2 ^ 32
unfolding fletcher
check_fits s = sums_fit (words s) 0 0 (omega arith) (omega arith)
