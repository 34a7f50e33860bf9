-- BUILDING, COVERS AND BOUNDS beyond the edges: every figure is what the definitions give, by computation. Assumes nothing.
use mathlib.Core.Path.{◌≡◌, refl}
use mathlib.Core.Bool.{true}
use Rattle.lists.specs.Lists.{every, any, over, fold_from, least, greatest}
use Rattle.lists.specs.Answer.{refusal}
use Rattle.hierarchy.specs.Hierarchy.{children, some_edge, spread, spreads, reach, edge_twice, some_unreached}
use Rattle.intervals.specs.Numbering.{meet, visit, inside, walk, numbering}
use Rattle.intervals.specs.Intervals.{numbers_among, low_of, high_of, intervals_from, interval_table}
use Rattle.covers.specs.Cover.{closest}
use Rattle.intervals.specs.Build.{build_step}
use Rattle.examples.specs.Cases.{same_numbers, unrefused, wrote, passes}
use Rattle.examples.specs.Rows.{right}
use Rattle.further_rows.specs.Hierarchies.{hierarchies, small}

pub all_hierarchies : every right hierarchies ≡ true
unfolding every any over fold_from least greatest refusal children some_edge spread spreads reach edge_twice some_unreached meet visit inside
    walk numbering numbers_among low_of high_of intervals_from interval_table closest build_step same_numbers right hierarchies
all_hierarchies = refl

pub all_small : every passes small ≡ true
unfolding every any over fold_from least greatest refusal children some_edge spread spreads reach edge_twice some_unreached meet visit inside
    walk numbering numbers_among low_of high_of intervals_from interval_table closest build_step same_numbers unrefused wrote passes small
all_small = refl
