-- `write_intervals` meets its contract: the sets go into the first words, and the intervals into the first places. Assumes nothing.
use mathlib.Core.Path.{◌≡◌, sym, ap, ◌∙◌}
use mathlib.Core.List.{List, ◌++◌}
use Prim.Native.Nat.{ℕ, ◌*◌, ◌≤◌}
use native.Mathlib.Omega.{arith}
use lib.ListN.{length, take, drop}
use lib.Seq.{length-take-le}
use Rattle.hierarchy.specs.Hierarchy.{edges_of}
use Rattle.hierarchy.proofs.Legals.{Promise, promised}
use Rattle.intervals.specs.Intervals.{interval_table}
use Rattle.lists.proofs.Parts.{behind, laid}
use Rattle.intervals.proofs.Extremes.{numbering_long}
use Rattle.reach_sets.specs.Sets.{set_at}
use Rattle.reach_sets.proofs.Fills.{table_set}
use Rattle.reach_sets.proofs.write_intervals.Goals as goal
use Rattle.reach_sets.proofs.write_intervals.Goals.{Start}

-- what is known from the start
module _ (c : Start) where
  promise : Promise c.args.n (edges_of c.args.edges.now.numbers.now c.args.edges.now.count)
  promise = promised c.args.n c.args.edges.now.numbers.now c.args.edges.now.count c.requires.legal

  words_room : 4 * c.args.n ≤ length c.args.words.now
  words_room = omega (arith, promise.few, c.requires.room)

  numbers_long : length c.args.numbers.now ≡ c.args.n
  numbers_long = ap length c.requires.numbered ∙ numbering_long c.args.n (edges_of c.args.edges.now.numbers.now c.args.edges.now.count) promise

  places_long : length (take (2 * c.args.n) c.args.places.now) ≡ 2 * c.args.n
  places_long = length-take-le (2 * c.args.n) c.args.places.now c.requires.enough

pub slice_bounds-fill-end : goal.slice_bounds-fill-end
slice_bounds-fill-end c = words_room (goal.at.slice_bounds-fill-end c).Start

pub slice_bounds-fill-end-2 : goal.slice_bounds-fill-end-2
slice_bounds-fill-end-2 c = sym (length-take-le (4 * c.args.n) c.args.words.now (words_room (goal.at.slice_bounds-fill-end-2 c).Start))

pub fill-requires : goal.fill-requires
fill-requires c =
    record { legal = c.requires.legal; whole = c.requires.whole; long = length-take-le (4 * c.args.n) c.args.words.now (words_room (goal.at.fill-requires c).Start) }

pub slice_bounds-write_spans-end-2 : goal.slice_bounds-write_spans-end-2
slice_bounds-write_spans-end-2 c = sym (places_long (goal.at.slice_bounds-write_spans-end-2 c).Start)

pub write_spans-requires : goal.write_spans-requires
write_spans-requires c =
    let s = (goal.at.write_spans-requires c).Start in
    places_long s ∙ ap (λ (k : ℕ). 2 * k) (sym (numbers_long s))

pub returns : goal.returns
returns c =
    let s = (goal.at.returns c).Start in
    record {
      places_after = laid (2 * c.args.n) (interval_table c.args.n (edges_of c.args.edges.now.numbers.now c.args.edges.now.count)) c.write_spans.new.places c.args.places.now
          (c.write_spans.ensures c.args.n (edges_of c.args.edges.now.numbers.now c.args.edges.now.count)
          (record {
            few = (promise s).few;
            sets = λ x h. ap (λ (t : List ℕ). set_at (t ++ drop (4 * c.args.n) c.args.words.now) x) c.fill.ensures ∙ table_set c.args.n (edges_of c.args.edges.now.numbers.now c.args.edges.now.count) (drop (4 * c.args.n) c.args.words.now) x h;
            numbered = c.requires.numbered;
            each = numbers_long s;
          }))
          c.requires.enough c.write_spans.auto.places;
      words_unchanged = behind 1024 (4 * c.args.n) c.fill.new.table c.args.words.now (omega (arith, (promise s).few)) (words_room s) c.fill.auto.table;
    }
