-- `count_built` meets its contract: the words have the reaches, nobody has called, and there are n values. Assumes nothing.
use mathlib.Core.Path.{◌≡◌, refl, sym, ◌∙◌}
use mathlib.Core.List.{List, ◌++◌}
use Prim.Native.Nat.{ℕ, ◌*◌, ◌≤◌}
use native.Mathlib.Omega.{arith}
use lib.ListN.{length, take, drop, replicate}
use lib.Seq.{length-take-le, length_front}
use Rattle.lists.proofs.Loops.{lent}
use Rattle.hierarchy.specs.Hierarchy.{edges_of}
use Rattle.hierarchy.proofs.Legals.{Promise, promised}
use Rattle.reach_sets.specs.Sets.{set_table}
use Rattle.reach_sets.specs.Plain.{sets_step}
use Rattle.reach_sets.proofs.Plains.{many_enough, sets_are}
use Rattle.needless.proofs.count_built.Goals as goal
use Rattle.needless.proofs.count_built.Goals.{Start}

-- what is known from the start
module _ (c : Start) where
  abbrev n : ℕ
  n = c.args.tables.now.n

  abbrev edges : List ℕ
  edges = c.args.tables.now.edges.numbers.now

  abbrev count : ℕ
  count = c.args.tables.now.edges.count

  promise : Promise n (edges_of edges count)
  promise = promised n edges count c.requires.legal

  abbrev fresh : List ℕ
  fresh = take (4 * n) (replicate 1024 0)

  words-room : 4 * n ≤ 1024
  words-room = omega (arith, promise.few)

  fresh-long : length fresh ≡ 4 * n
  fresh-long = length-take-le {A = ℕ} (4 * n) (replicate 1024 0) words-room

-- and once the reaches are worked out, as the first of the words
module _ (c : Start) (made : List ℕ) (same : length made ≡ length (fresh c)) where
  abbrev words : List ℕ
  words = made ++ drop (4 * n c) (replicate 1024 0)

  words_long : 4 * n c ≤ length words
  words_long = omega (arith, length_front {A = ℕ} (replicate 1024 0) made (4 * n c) same, words-room c)

  reaches : made ≡ (sets_step (n c) (edges c) (count c) (fresh c)).words → take (4 * n c) words ≡ set_table (n c) (edges_of (edges c) (count c))
  reaches e =
      lent (4 * n c) made (replicate 1024 0) (words-room c) same
      ∙ e
      ∙ sets_are (n c) (edges c) (count c) (fresh c)
      (many_enough (n c) (edges c) (count c) (fresh c) (omega (arith, fresh-long c)) (omega (arith, c.requires.whole))) c.requires.legal (fresh-long c)

pub overflow_mul-words : goal.overflow_mul-words
overflow_mul-words c = omega (arith, (promise (goal.at.overflow_mul-words c).Start).few)

pub slice_bounds-sets-end : goal.slice_bounds-sets-end
slice_bounds-sets-end c = words-room (goal.at.slice_bounds-sets-end c).Start

pub slice_bounds-sets-end-2 : goal.slice_bounds-sets-end-2
slice_bounds-sets-end-2 c = sym (fresh-long (goal.at.slice_bounds-sets-end-2 c).Start)

pub slice_bounds-sets-end-3 : goal.slice_bounds-sets-end-3
slice_bounds-sets-end-3 c = words_long (goal.at.slice_bounds-sets-end-3 c).Start c.sets.new.words c.sets.auto.words

pub slice_bounds-count_records-end : goal.slice_bounds-count_records-end
slice_bounds-count_records-end c = sym (length-take-le (4 * c.args.tables.now.n) (words (goal.at.slice_bounds-count_records-end c).Start c.sets.new.words c.sets.auto.words) (words_long (goal.at.slice_bounds-count_records-end c).Start c.sets.new.words c.sets.auto.words))

pub slice_bounds-values-end : goal.slice_bounds-values-end
slice_bounds-values-end c = (promise (goal.at.slice_bounds-values-end c).Start).few

pub slice_bounds-count_records-end-2 : goal.slice_bounds-count_records-end-2
slice_bounds-count_records-end-2 c = let s = (goal.at.slice_bounds-count_records-end-2 c).Start in sym (length-take-le {A = ℕ} (n s) (replicate 256 0) (promise s).few)

pub count_records-requires : goal.count_records-requires
count_records-requires c = let s = (goal.at.count_records-requires c).Start in
    record { records_value = c.requires.right; sets = record { few = (promise s).few; are = reaches s c.sets.new.words c.sets.auto.words c.sets.ensures.words_after }; called_value = refl; values_len = length-take-le {A = ℕ} (n s) (replicate 256 0) (promise s).few }

pub returns : goal.returns
returns c = c.count_records.ensures
