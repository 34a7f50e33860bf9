-- Writing over a buffer: two writes, one behind the other, are one; bytes stored one by one; writes that fit or do not. Assumes nothing.
use mathlib.Core.Path.{◌≡◌, sym, ap, ◌∙◌}
use mathlib.Core.Bool.{true, false}
use mathlib.Core.List.{List, [], ◌∷◌, ◌++◌, append_assoc, append-nil}
use Prim.Native.Nat.{ℕ, ◌+◌, ◌-◌, ◌<◌, ◌≤◌}
use native.Mathlib.Nat.{add-zero, zero-add}
use native.Mathlib.Numerals.{add-one}
use native.Mathlib.Omega.{arith}
use borrow.Author.Tests.{le-leb, leb-true}
use lib.Dec.{leb}
use lib.ListN.{length, get_or, take, drop, set, length-append, length-drop, drop_of_length-le}
use lib.Seq.{drop-cons, sets-eq, paste-zero, take_at, drop_at, drop-drop, length-take-le}
use Rattle.lists.specs.Lists.{over}
use Rattle.octets.specs.Writes.{over_at, put_at}

pub length_over : (d : List ℕ) (at : ℕ) (bs : List ℕ) → at + length bs ≤ length d → length (over_at at bs d) ≡ length d
unfolding over_at
length_over d at bs h =
    simp (length-append, length-take-le at d (omega arith), length-drop) (omega arith)

-- from the first place on
pub over_first : (bs d : List ℕ) → over_at 0 bs d ≡ over bs d
unfolding over_at over
over_first bs d = ap (λ (k : ℕ). bs ++ drop k d) (zero-add (length bs))

-- behind the second write stands what stood there before both
drop_to : (d : List ℕ) (at : ℕ) (xs bs : List ℕ) → at + length xs ≤ length d
    → drop (at + length xs + length bs) (take at d ++ xs ++ drop (at + length xs) d) ≡ drop (at + length (xs ++ bs)) d
drop_to d at xs bs h =
    let n : length (take at d ++ xs) ≡ at + length xs = simp (length-append, length-take-le at d (omega arith)) in
    let e : at + length xs + length bs ≡ at + length (xs ++ bs) = simp (length-append) (omega arith) in
    rw (← drop-drop (length bs) (at + length xs) (take at d ++ xs ++ drop (at + length xs) d), drop_at (take at d ++ xs) (drop (at + length xs) d) (at + length xs) n, drop-drop, e)

-- two writes, one behind the other, are one
pub over_over : (d : List ℕ) (at : ℕ) (xs bs : List ℕ) → at + length xs ≤ length d
    → over_at (at + length xs) bs (over_at at xs d) ≡ over_at at (xs ++ bs) d
unfolding over_at
over_over d at xs bs h =
    let n : length (take at d ++ xs) ≡ at + length xs = simp (length-append, length-take-le at d (omega arith)) in
    let t : take (at + length xs) (take at d ++ xs ++ drop (at + length xs) d) ≡ take at d ++ xs = take_at (take at d ++ xs) (drop (at + length xs) d) (at + length xs) n in
    rw (t, drop_to d at xs bs h) (simp append_assoc)

over_set : (d : List ℕ) (at x : ℕ) → at < length d → set d at x ≡ over_at at (x ∷ []) d
unfolding over_at
over_set d at x h = sets-eq (x ∷ []) d at (omega arith)

-- nothing is written
pub over_none : (d : List ℕ) (at : ℕ) → over_at at [] d ≡ d
unfolding over_at
over_none d at = sym (paste-zero d at [])

-- one byte of what is left to be written is stored
pub over_turn : (d : List ℕ) (at j : ℕ) (src : List ℕ) → j < length src → at + j < length d
    → over_at (at + (j + 1)) (drop (j + 1) src) (set d (at + j) (get_or src j 0)) ≡ over_at (at + j) (drop j src) d
over_turn d at j src h room =
    let x : ℕ = get_or src j 0 in
    let p : at + (j + 1) ≡ at + j + 1 = omega arith in
    ap (λ (k : ℕ). over_at k (drop (j + 1) src) (set d (at + j) x)) p
    ∙ ap (λ (t : List ℕ). over_at (at + j + 1) (drop (j + 1) src) t) (over_set d (at + j) x room)
    ∙ over_over d (at + j) (x ∷ []) (drop (j + 1) src) (omega arith)
    ∙ ap (λ (t : List ℕ). over_at (at + j) t d) (ap (λ (k : ℕ). x ∷ drop k src) (add-one j) ∙ sym (drop-cons src j 0 h))

pub over_start : (d : List ℕ) (at : ℕ) (src : List ℕ) → over_at (at + 0) src d ≡ over_at at src d
over_start d at src = rw add-zero

pub over_end : (d : List ℕ) (at j : ℕ) (src : List ℕ) → length src ≤ j → d ≡ over_at (at + j) (drop j src) d
over_end d at j src h = rw (drop_of_length-le src h) (sym (over_none d (at + j)))

-- a part `&mut d[a..a + k]` that comes back as x
pub part_back : (d : List ℕ) (a k : ℕ) {ys x : List ℕ} → ys ≡ x → length x ≡ k → take a d ++ (ys ++ drop k (drop a d)) ≡ over_at a x d
unfolding over_at
part_back d a k {ys} {x} e l =
    ap (λ (t : List ℕ). take a d ++ (t ++ drop k (drop a d))) e
    ∙ ap (λ (t : List ℕ). take a d ++ (x ++ t)) (drop-drop k a d ∙ ap (λ (n : ℕ). drop (a + n) d) (sym l))
    ∙ sym (append_assoc (take a d) x (drop (a + length x) d))

-- WRITES THAT MAY NOT FIT
pub put_fits : (d : List ℕ) (at : ℕ) (bs : List ℕ) → at + length bs ≤ length d → put_at at bs d ≡ over_at at bs d
unfolding put_at
put_fits d at bs h = rw (le-leb _ _ h)

pub put_not : (d : List ℕ) (at : ℕ) (bs : List ℕ) → leb (at + length bs) (length d) ≡ false → d ≡ put_at at bs d
unfolding put_at
put_not d at bs e = rw e

-- two writes, one behind the other, are one
pub put_put : (d : List ℕ) (at : ℕ) (xs bs : List ℕ) → at + length xs + length bs ≤ length d
    → put_at (at + length xs) bs (put_at at xs d) ≡ put_at at (xs ++ bs) d
put_put d at xs bs h =
    let first : put_at at xs d ≡ over_at at xs d = put_fits d at xs (omega arith) in
    let all : at + length (xs ++ bs) ≤ length d = simp length-append (omega arith) in
    let room : at + length xs + length bs ≤ length (over_at at xs d) = rw (length_over d at xs (omega arith)) h in
    ap (λ (t : List ℕ). put_at (at + length xs) bs t) first
    ∙ put_fits (over_at at xs d) (at + length xs) bs room
    ∙ over_over d at xs bs (omega arith)
    ∙ sym (put_fits d at (xs ++ bs) all)

-- the front of what was written from place 0 on
pub put_front : (d bs : List ℕ) (n : ℕ) → length bs ≡ n → n ≤ length d → take n (put_at 0 bs d) ≡ bs
unfolding over_at
put_front d bs n e h = rw (put_fits d 0 bs (omega arith)) (take_at bs (drop (0 + length bs) d) n e)

-- all of a buffer is written
pub put_all : (d bs : List ℕ) → length bs ≡ length d → put_at 0 bs d ≡ bs
unfolding over_at
put_all d bs h =
    let none : length d ≤ 0 + length bs = omega arith in
    rw (put_fits d 0 bs (omega arith), drop_of_length-le d none) (append-nil bs)

-- a part `&mut d[at..at + n]` that comes back as the bytes
pub put_part : (d : List ℕ) (at n : ℕ) {ys bs : List ℕ} → leb (at + n) (length d) ≡ true → length bs ≡ n → ys ≡ bs
    → take at d ++ (ys ++ drop (at + n - at) (drop at d)) ≡ put_at at bs d
put_part d at n {ys} {bs} h l e =
    let k : length bs ≡ at + n - at = omega arith in
    part_back d at (at + n - at) e k ∙ sym (put_fits d at bs (omega (arith, leb-true _ _ h)))
