-- Which answer reading and writing give, and what they leave in the room. Assumes nothing.
use mathlib.Core.Path.{◌≡◌, sym, ap, ◌∙◌}
use mathlib.Core.Logic.{◌≢◌}
use mathlib.Core.Bool.{Bool, true, false, not, ◌&&◌, ◌||◌}
use mathlib.Core.List.{List, [], ◌∷◌}
use mathlib.Core.Option.{Option, none, some}
use Prim.Native.Nat.{ℕ, ◌*◌, ◌/◌, ◌%◌, ◌<◌, ◌≤◌}
use native.Mathlib.Omega.{arith}
use borrow.Author.Tests.{lt-ltb, le-ltb, eq-eqb, ne_eqb, eqb-true, eqb-false, leb-true, not-false}
use lib.Dec.{eqb, leb, ltb}
use lib.ListN.{length}
use Rattle.lists.specs.Lists.{over}
use Rattle.lists.specs.Answer.{Answer, done, refused, ◌when◌, refusal}
use Rattle.lists.proofs.Bools.{bool, and_left, and_right, or_neither}
use Rattle.lists.proofs.Refusals.{refusal_nil, refused_here, refused_later}
use Rattle.blocks.specs.Record.{begun}
use Rattle.blocks.specs.Block.{after_records}
use Rattle.blocks.specs.File.{whole_blocks, file_stage, file_records, not_blocks, read_refusal, FileResult, leaving}
use Rattle.blocks.specs.File.{read_file, blocks_for, file_of, records_wrong, write_refusal, write_file}
use Rattle.blocks.proofs.Stages.{file_known}

-- a file that is not refused with 2
pub blocks_facts : (file : List ℕ) → not_blocks file ≡ false → (length file ≡ 512 * whole_blocks file) × (1 ≤ whole_blocks file) × (whole_blocks file ≤ 128)
unfolding not_blocks
blocks_facts file h =
    let p : Bool = eqb (length file % 512) 0 in
    let q : Bool = leb 1 (whole_blocks file) in
    let r : Bool = leb (whole_blocks file) 128 in
    let all = not-false (p && q && r) h in
    let pq = and_left (p && q) r all in
    let z : length file % 512 ≡ 0 = eqb-true _ _ (and_left p q pq) in
    (omega arith, leb-true _ _ (and_right p q pq), leb-true _ _ (and_right (p && q) r all))

-- what is left of an answer and a room
pub left : {result : FileResult} {answer : Answer ℕ} {room : List ℕ} → result ≡ record { answer = answer; room = room } → (answer ≡ result.answer) × (room ≡ result.room)
left e = (ap (λ (x : FileResult). x.answer) (sym e), ap (λ (x : FileResult). x.room) (sym e))

-- READING
module _ (file room : List ℕ) where
  pub read_refuses : {k : ℕ} → read_refusal file room ≡ some k → read_file file room ≡ record { answer = refused k; room = room }
  unfolding read_file
  read_refuses e = ap (λ (why : Option ℕ). leaving why (length (file_records file) / 16) (file_records file) room) e

  pub read_gives : read_refusal file room ≡ none → read_file file room ≡ record { answer = done (length (file_records file) / 16); room = over (file_records file) room }
  unfolding read_file
  read_gives e = ap (λ (why : Option ℕ). leaving why (length (file_records file) / 16) (file_records file) room) e

  pub read_1 : length room < 496 * whole_blocks file → read_refusal file room ≡ some 1
  read_1 h = refused_here _ _ (lt-ltb _ _ h)

  module _ (long : 496 * whole_blocks file ≤ length room) where
    pub read_2 : not_blocks file ≡ true → read_refusal file room ≡ some 2
    read_2 h = refused_later _ _ (le-ltb _ _ long) ∙ refused_here _ _ h

    module _ (whole : not_blocks file ≡ false) where
      pub read_34 : (k : ℕ) → k ≡ (file_stage file).wrong → k ≢ 0 → read_refusal file room ≡ some k
      read_34 k e some-wrong =
          refused_later _ _ (le-ltb _ _ long) ∙ refused_later _ _ whole
          ∙ ap (λ (w : ℕ). refusal (3 when eqb w 3 ∷ 4 when eqb w 4 ∷ [])) (sym e)
          ∙ bool (eqb k 3)
          (λ f. refused_here _ _ f ∙ ap some (sym (eqb-true _ _ f)))
          (λ f. let four : k ≡ 4 = file_known file (whole_blocks file) k e some-wrong (eqb-false _ _ f) in
          refused_later _ _ f ∙ refused_here _ _ (eq-eqb _ _ four) ∙ ap some (sym four))

      pub read_none : (file_stage file).wrong ≡ 0 → read_refusal file room ≡ none
      read_none h =
          refused_later _ _ (le-ltb _ _ long) ∙ refused_later _ _ whole
          ∙ refused_later _ _ (ap (λ (w : ℕ). eqb w 3) h)
          ∙ refused_later _ _ (ap (λ (w : ℕ). eqb w 4) h)
          ∙ refusal_nil

-- WRITING
module _ (records : List ℕ) (count : ℕ) (room : List ℕ) where
  pub write_refuses : {k : ℕ} → write_refusal records count room ≡ some k → write_file records count room ≡ record { answer = refused k; room = room }
  unfolding write_file
  write_refuses e = ap (λ (why : Option ℕ). leaving why (blocks_for count) (file_of records count) room) e

  pub write_gives : write_refusal records count room ≡ none → write_file records count room ≡ record { answer = done (blocks_for count); room = over (file_of records count) room }
  unfolding write_file
  write_gives e = ap (λ (why : Option ℕ). leaving why (blocks_for count) (file_of records count) room) e

  pub write_short : length records < 16 * count → write_refusal records count room ≡ some 1
  write_short h = refused_here _ _ (ap (λ (b : Bool). b || ltb (length room) (512 * blocks_for count)) (lt-ltb _ _ h))

  module _ (has : 16 * count ≤ length records) where
    pub write_room : length room < 512 * blocks_for count → write_refusal records count room ≡ some 1
    write_room h = refused_here _ _ (ap (λ (b : Bool). b || ltb (length room) (512 * blocks_for count)) (le-ltb _ _ has) ∙ lt-ltb _ _ h)

    module _ (long : 512 * blocks_for count ≤ length room) where
      fits : (ltb (length records) (16 * count) || ltb (length room) (512 * blocks_for count)) ≡ false
      fits = or_neither _ _ (le-ltb _ _ has) (le-ltb _ _ long)

      pub write_many : 3968 < count → write_refusal records count room ≡ some 2
      write_many h = refused_later _ _ fits ∙ refused_here _ _ (lt-ltb _ _ h)

      module _ (few : count ≤ 3968) where
        pub write_wrong : records_wrong records count ≡ true → write_refusal records count room ≡ some 4
        write_wrong h = refused_later _ _ fits ∙ refused_later _ _ (le-ltb _ _ few) ∙ refused_here _ _ h

        pub write_none : records_wrong records count ≡ false → write_refusal records count room ≡ none
        write_none h = refused_later _ _ fits ∙ refused_later _ _ (le-ltb _ _ few) ∙ refused_later _ _ h ∙ refusal_nil

-- no records are wrong, and so are those that reading does not take; others are not
pub no_records : (records : List ℕ) (count : ℕ) → count < 1 → records_wrong records count ≡ true
no_records records count h = let z : count ≡ 0 = omega arith in ap (λ (b : Bool). b || not (eqb (after_records begun count records).wrong 0)) (eq-eqb count 0 z)

module _ (records : List ℕ) (count : ℕ) (Some-of : 1 ≤ count) {wrong : ℕ} (e : wrong ≡ (after_records begun count records).wrong) where
  not_none : eqb count 0 ≡ false
  not_none = ne_eqb count 0 (λ z. omega arith)

  pub wrong_records : wrong ≢ 0 → records_wrong records count ≡ true
  wrong_records h = ap (λ (b : Bool). b || not (eqb (after_records begun count records).wrong 0)) not_none ∙ ap not (ap (λ (w : ℕ). eqb w 0) (sym e) ∙ ne_eqb wrong 0 h)

  pub right_records : wrong ≡ 0 → records_wrong records count ≡ false
  right_records h = or_neither _ _ not_none (ap (λ (w : ℕ). not (eqb w 0)) (sym e ∙ h))
