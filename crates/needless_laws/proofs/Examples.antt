-- FIGURES of the report: the whole table is right, by computation. Assumes nothing.
use mathlib.Core.Path.{◌≡◌, refl}
use mathlib.Core.Bool.{true}
use Rattle.lists.specs.Lists.{all_below, any_below, every, any, keep, count, over, fold_from, least, greatest}
use Rattle.lists.specs.Answer.{refusal}
use Rattle.hierarchy.specs.Hierarchy.{children, some_edge, spread, spreads, reach, edge_twice, some_unreached}
use Rattle.intervals.specs.Numbering.{meet, visit, inside, walk, numbering}
use Rattle.intervals.specs.Intervals.{numbers_among, low_of, high_of, intervals_from, interval_table}
use Rattle.covers.specs.Cover.{closest}
use Rattle.octets.specs.Fletcher.{words, sums, fletcher}
use Rattle.blocks.specs.Record.{enter_right, kinds, row_in, value_right, record_right}
use Rattle.blocks.specs.Block.{after_record, after_records, count_right, head_right, after_block, records_in, block_body, block_of}
use Rattle.blocks.specs.File.{after_blocks, records_of, not_blocks, blocks_of}
use Rattle.naming.specs.Names.{insert, insert_all, rises_from}
use Rattle.parties.specs.Sound.{sound_parties}
use Rattle.sweeps.specs.Sweeps.{offer, sweep}
use Rattle.desk.specs.Steps.{enter_step, get_step, put_step, add_step, leave_step}
use Rattle.runs.specs.Run.{lend, restored, lent_to, after_enter, after_get, after_put, after_add, listed, after_leave, move_call, move}
use Rattle.replay.specs.Replay.{each_record, edge_table, values_from}
use Rattle.trees.specs.Tree.{parent_count}
use Rattle.needless.specs.Waits.{waits_of_steps, waits_of_records, waits_of}
use Rattle.examples.specs.Cases.{same_numbers}
use Rattle.examples.specs.Rows.{right}
use Rattle.examples.specs.Table.{file_t, file_shared}
use Rattle.needless_laws.specs.Visits.{visits_name_one}
use Rattle.needless_laws.specs.Figures.{four, figures}

pub all_figures : every right figures ≡ true
unfolding all_below any_below every any keep count over fold_from least greatest refusal children some_edge spread spreads reach edge_twice
    some_unreached meet visit inside walk numbering numbers_among low_of high_of intervals_from interval_table closest words sums
    fletcher enter_right kinds row_in value_right record_right after_record after_records count_right head_right after_block records_in block_body block_of after_blocks
    records_of not_blocks blocks_of insert insert_all rises_from sound_parties enter_step get_step put_step add_step offer sweep leave_step each_record edge_table values_from lend restored lent_to after_enter after_get after_put after_add listed after_leave
    move_call move parent_count waits_of_steps waits_of_records waits_of visits_name_one four same_numbers right file_t file_shared figures
all_figures = refl
