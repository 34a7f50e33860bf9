-- Bytes put into a text one behind the other, as far as they fit; the digits of a number. Assumes nothing.
use mathlib.Core.Path.{◌≡◌, refl, sym, ap, ◌∙◌}
use mathlib.Core.Bool.{Bool, true, false, cond}
use mathlib.Core.List.{List, [], ◌∷◌, ◌++◌, append_assoc}
use Prim.Native.Nat.{ℕ, zero, suc, ◌+◌, ◌-◌, ◌/◌, ◌%◌, ◌^◌, ◌≤◌, ◌<◌, min}
use native.Mathlib.Nat.{not-suc-le-zero, add-zero, pow-zero, pow-suc}
use native.Mathlib.Numerals.{add-one}
use native.Mathlib.Omega.{arith}
use lib.Dec.{leb, ltb}
use borrow.Author.Tests.{lt-ltb, le-ltb, leb-true, leb-false, ltb-true}
use lib.ListN.{length, take, drop, get_or, set, length-append, length-set, drop_of_length-le}
use lib.Seq.{length-take-le, drop-drop}
use borrow.Rule.Slice.PartMut.{put_mid, post_of}
use Rattle.std.proofs.lemmas.List.{take-append-drop}
use Rattle.std.specs.Prelude.{decimal as std_decimal}
use Rattle.std.proofs.lemmas.Fmt.{AppendsLastDigit, decimal_from_appends, length-decimal-le_succ}
use Rattle.octets.specs.Writes.{over_at}
use Rattle.octets.proofs.Writes.{over_none, over_turn}
use Rattle.lists.proofs.Bools.{bool}
use Rattle.lists.proofs.Loops.{drop_step}
use Rattle.replay.specs.declared.Outcome.{Outcome}
use Rattle.replay.specs.Answers.{step_meaning}
use Rattle.texts.specs.Text.{decimal_of, decimal, space, spaced, answer_text}
use Rattle.texts.specs.Lines.{line_if_granted, party_lines}
use Rattle.texts.specs.Pages.{Page, page_of, put_byte, put, Puts}

-- two puts, one behind the other, are one
pub put_two : (xs ys : List ℕ) (p : Page) → put (xs ++ ys) p ≡ put ys (put xs p)
unfolding put
put_two [] ys p = refl
put_two (x ∷ xs) ys p = put_two xs ys (put_byte x p)

pub puts_two : (at : ℕ) (xs ys text : List ℕ) {text₁ text₂ : List ℕ} {b r : ℕ} → Puts at xs text text₁ b → Puts b ys text₁ text₂ r → Puts at (xs ++ ys) text text₂ r
puts_two at xs ys text p q = q ∙ ap (put ys) p ∙ sym (put_two xs ys (page_of text at))

-- the same bytes, said in other words
pub puts_as : {xs ys : List ℕ} (at : ℕ) (text : List ℕ) {text' : List ℕ} {r : ℕ} → xs ≡ ys → Puts at xs text text' r → Puts at ys text text' r
puts_as at text e p = p ∙ ap (λ (t : List ℕ). put t (page_of text at)) e

-- WHAT IS LEFT to be put gives all that was to be put
pub put_left : (xs ys : List ℕ) (at : ℕ) (text : List ℕ) {text' : List ℕ} {r : ℕ} {w : Page} → Puts at xs text text' r → put (xs ++ ys) (page_of text at) ≡ w → put ys (page_of text' r) ≡ w
put_left xs ys at text p e = ap (put ys) p ∙ sym (put_two xs ys (page_of text at)) ∙ e

-- a full text stays as it is
put_full : (xs text : List ℕ) (at : ℕ) → length text ≤ at → put xs (page_of text at) ≡ page_of text at
unfolding put
put_full [] text at h = refl
put_full (x ∷ xs) text at h =
    ap (λ (b : Bool). put xs (cond b (page_of (set text at x) (suc at)) (page_of text at))) (le-ltb at (length text) h) ∙ put_full xs text at h

-- nothing is left, or no place is
pub put_end : (bytes text : List ℕ) (at i : ℕ) → min (length bytes) (length text - at) ≤ i → page_of text (at + i) ≡ put (drop i bytes) (page_of text (at + i))
unfolding put
put_end bytes text at i h =
    bool (leb (length bytes) i)
    (λ e. ap (λ (l : List ℕ). put l (page_of text (at + i))) (sym (drop_of_length-le bytes (leb-true (length bytes) i e))))
    (λ e. sym (put_full (drop i bytes) text (at + i) (omega (arith, h, leb-false (length bytes) i e))))

-- the place stays within the text, which keeps its length
abbrev Within : Page → Page → Type 0
Within p q = (q.at ≤ length q.text) × (length q.text ≡ length p.text)

byte_within : (x : ℕ) (p : Page) → p.at ≤ length p.text → Within p (put_byte x p)
byte_within x p h = by (ltb p.at (length p.text)) refl
  where
    by : (b : Bool) → ltb p.at (length p.text) ≡ b → Within p (cond b (page_of (set p.text p.at x) (suc p.at)) p)
    by true e = let l = length-set p.text p.at x in (omega (arith, ltb-true p.at (length p.text) e, l), l)
    by false e = (h, refl)

pub put_within : (xs : List ℕ) (p : Page) → p.at ≤ length p.text → Within p (put xs p)
unfolding put
put_within [] p h = (h, refl)
put_within (x ∷ xs) p h =
    let one = byte_within x p h in let more = put_within xs (put_byte x p) one.0 in (more.0, more.1 ∙ one.1)

pub puts_within : (at : ℕ) (bytes text : List ℕ) {text' : List ℕ} {r : ℕ} → at ≤ length text → Puts at bytes text text' r → r ≤ length text'
puts_within at bytes text h p =
    let w = put_within bytes (page_of text at) h in
    omega (arith, ap (λ (q : Page). q.at) p, ap (λ (q : Page). length q.text) p, w.0)

-- bytes that fit are written, all of them
pub put_fits : (xs text : List ℕ) (at : ℕ) → at + length xs ≤ length text → put xs (page_of text at) ≡ page_of (over_at at xs text) (at + length xs)
unfolding put
put_fits [] text at h = ap (λ (t : List ℕ). page_of t at) (sym (over_none text at)) ∙ ap (page_of (over_at at [] text)) (sym (add-zero at))
put_fits (x ∷ xs) text at h =
    let here : at + 0 ≡ at = add-zero at in
    let turn : over_at (suc at) xs (set text at x) ≡ over_at at (x ∷ xs) text = rw (here, add-one at) at (over_turn text at 0 (x ∷ xs) (omega arith) (omega arith)) in
    let next : suc at + length xs ≡ at + suc (length xs) = omega arith in
    ap (λ (b : Bool). put xs (cond b (page_of (set text at x) (suc at)) (page_of text at))) (lt-ltb at (length text) (omega arith))
    ∙ put_fits xs (set text at x) (suc at) (omega (arith, length-set text at x))
    ∙ ap (λ (t : List ℕ). page_of t (suc at + length xs)) turn
    ∙ ap (page_of (over_at at (x ∷ xs) text)) next

-- a part of the text that was written whole
pub part_over : (at k : ℕ) (xs text : List ℕ) {part : List ℕ} → part ≡ xs → k ≡ length xs → put_mid at k text part ≡ over_at at xs text
unfolding over_at
part_over at k xs text e n =
    ap (λ (l : List ℕ). take at text ++ (l ++ post_of at k text)) e
    ∙ ap (λ (l : List ℕ). take at text ++ (xs ++ l)) (drop-drop k at text ∙ ap (λ (m : ℕ). drop (at + m) text) n)
    ∙ sym (append_assoc (take at text) xs (drop (at + length xs) text))

-- and of any bytes the first, as many as fit
pub put_front : (bytes text : List ℕ) (at fits : ℕ) {text' : List ℕ} → fits ≡ min (length bytes) (length text - at) → at + fits ≤ length text → length text' ≡ length text → text' ≡ over_at at (take fits bytes) text
    → page_of text' (at + fits) ≡ put bytes (page_of text at)
unfolding over_at
put_front bytes text at fits {text'} e room long w =
    let first : List ℕ = take fits bytes in
    let n : length first ≡ fits = length-take-le fits bytes (omega arith) in
    put_end bytes text' at fits (omega arith)
    ∙ ap (λ (t : List ℕ). put (drop fits bytes) (page_of t (at + fits))) w
    ∙ ap (λ (k : ℕ). put (drop fits bytes) (page_of (over_at at first text) (at + k))) (sym n)
    ∙ ap (put (drop fits bytes)) (sym (put_fits first text at (omega arith)))
    ∙ sym (put_two first (drop fits bytes) (page_of text at))
    ∙ ap (λ (l : List ℕ). put l (page_of text at)) (take-append-drop fits bytes)

-- THE DIGITS of a number: one, or the last behind the others
last_digit : AppendsLastDigit decimal_of
unfolding decimal_of
last_digit = record {
  one = λ k n h. ap (λ (b : Bool). cond b ((48 + n) ∷ []) (decimal_of k (n / 10) ++ ((48 + n % 10) ∷ []))) (lt-ltb n 10 h);
  more = λ k n h. ap (λ (b : Bool). cond b ((48 + n) ∷ []) (decimal_of k (n / 10) ++ ((48 + n % 10) ∷ []))) (le-ltb n 10 h);
}

-- the digits that std has are those of the definition
pub same_decimal : (n : ℕ) → n < 2 ^ 64 → std_decimal n ≡ decimal n
same_decimal n h = sym (decimal_from_appends decimal_of last_digit (suc n) n h (omega (arith, length-decimal-le_succ n h)))

-- a number below 10 to the k has at most k digits
pub decimal_most : (most k n : ℕ) → n < 10 ^ k → 1 ≤ k → length (decimal_of most n) ≤ k
unfolding decimal_of
decimal_most zero k n h p = omega arith
decimal_most (suc most) zero n h p = absurd (not-suc-le-zero p)
decimal_most (suc most) (suc zero) n h p =
    let s : n < 10 = omega (arith, h, pow-suc 10 0, pow-zero 10) in
    rw (lt-ltb n 10 s) (omega arith)
decimal_most (suc most) (suc (suc j)) n h p =
    by (ltb n 10) (decimal_most most (suc j) (n / 10) (omega (arith, h, pow-suc 10 (suc j))) (omega arith))
  where
    by : (b : Bool) → length (decimal_of most (n / 10)) ≤ suc j → length (cond b ((48 + n) ∷ []) (decimal_of most (n / 10) ++ ((48 + n % 10) ∷ []))) ≤ suc (suc j)
    by true q = omega arith
    by false q = omega (arith, q, length-append (decimal_of most (n / 10)) ((48 + n % 10) ∷ []))

-- numbers, a space before each: the first of those from place i on
pub spaced_step : (l : List ℕ) (i : ℕ) {x : ℕ} → get_or l i 0 ≡ x → i < length l → spaced (drop i l) ≡ (space ++ decimal x) ++ spaced (drop (i + 1) l)
unfolding spaced
spaced_step l i at h = ap spaced (drop_step l i 0 at h)

pub spaced_end : (l : List ℕ) (i : ℕ) → length l ≤ i → spaced (drop i l) ≡ []
unfolding spaced
spaced_end l i h = ap spaced (drop_of_length-le l h)

-- the lines of the parties from the one at place i on: the first of them, and the others
pub party_lines_step : (l : List ℕ) (i : ℕ) {x : ℕ} → get_or l i 0 ≡ x → i < length l → party_lines i (drop i l) ≡ line_if_granted i x ++ party_lines (i + 1) (drop (i + 1) l)
unfolding party_lines
party_lines_step l i {x} at h =
    ap (party_lines i) (drop_step l i 0 at h) ∙ ap (λ (k : ℕ). line_if_granted i x ++ party_lines k (drop (i + 1) l)) (sym (add-one i))

pub party_lines_end : (l : List ℕ) (i : ℕ) → length l ≤ i → party_lines i (drop i l) ≡ []
unfolding party_lines
party_lines_end l i h = ap (party_lines i) (drop_of_length-le l h)

-- an answer, by its case
pub told : (parties : List ℕ) {o o' : Outcome} (at : ℕ) (text : List ℕ) {text' : List ℕ} {r : ℕ} → o ≡ o' → Puts at (answer_text (step_meaning o' parties)) text text' r
    → Puts at (answer_text (step_meaning o parties)) text text' r
told parties at text e p = puts_as at text (ap (λ (o : Outcome). answer_text (step_meaning o parties)) (sym e)) p
