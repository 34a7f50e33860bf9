-- A FILE CUT, by computation: every figure is what the definitions give. Assumes nothing.
use mathlib.Core.Path.{◌≡◌, refl}
use mathlib.Core.Bool.{true}
use Rattle.lists.specs.Lists.{all_below, any_below, every, any, keep, count, over, fold_from, least, greatest, sum}
use Rattle.lists.specs.Answer.{refusal}
use Rattle.hierarchy.specs.Hierarchy.{children, some_edge, spread, spreads, reach, edge_twice, some_unreached}
use Rattle.intervals.specs.Numbering.{meet, visit, inside, walk, numbering}
use Rattle.intervals.specs.Intervals.{numbers_among, low_of, high_of, intervals_from, interval_table}
use Rattle.covers.specs.Cover.{closest}
use Rattle.octets.specs.Fletcher.{words, sums, fletcher}
use Rattle.blocks.specs.Record.{enter_right, kinds, row_in, value_right, record_right}
use Rattle.blocks.specs.Block.{after_record, after_records, count_right, head_right, after_block, records_in, block_body, block_of}
use Rattle.blocks.specs.File.{after_blocks, records_of, not_blocks, blocks_of}
use Rattle.naming.specs.Names.{insert, insert_all, rises_from}
use Rattle.parties.specs.Sound.{sound_parties}
use Rattle.sweeps.specs.Sweeps.{offer, sweep}
use Rattle.grants.specs.Grants.{count_grants}
use Rattle.desk.specs.Steps.{enter_step, get_step, put_step, add_step, leave_step}
use Rattle.runs.specs.Run.{lend, restored, lent_to, after_enter, after_get, after_put, after_add, listed, after_leave, move_call, move, also_ran, run}
use Rattle.replay.specs.Replay.{each_record, edge_table, values_from, run_records, run_file}
use Rattle.examples.specs.Cases.{same_numbers, as_numbers, same_answers, with_grants, gave, passes}
use Rattle.examples.specs.Rows.{right}
use Rattle.cutting.specs.Cut.{value_records, cut_records, bytes_of, cut_file}
use Rattle.shorter_laws.specs.Figures.{calls, figures, runs}

pub all_figures : every right figures ≡ true
unfolding all_below any_below every any keep count over fold_from least greatest refusal children some_edge spread spreads reach edge_twice some_unreached meet visit inside walk numbering numbers_among low_of high_of
    intervals_from interval_table closest words sums fletcher enter_right kinds row_in value_right record_right after_record after_records count_right head_right after_block records_in block_body block_of after_blocks records_of
    not_blocks blocks_of insert insert_all rises_from sound_parties enter_step get_step put_step add_step offer sweep count_grants leave_step each_record edge_table values_from lend restored lent_to after_enter after_get after_put
    after_add listed after_leave move_call move also_ran run same_numbers right value_records cut_records bytes_of cut_file calls figures
all_figures = refl

pub all_runs : every passes runs ≡ true
unfolding all_below any_below every any keep count sum over fold_from least greatest refusal children some_edge spread spreads reach edge_twice some_unreached meet visit inside walk numbering numbers_among low_of high_of
    intervals_from interval_table closest words sums fletcher enter_right kinds row_in value_right record_right after_record after_records count_right head_right after_block records_in block_body block_of after_blocks records_of
    not_blocks blocks_of insert insert_all rises_from sound_parties enter_step get_step put_step add_step offer sweep count_grants leave_step each_record edge_table values_from lend restored lent_to after_enter after_get after_put
    after_add listed after_leave move_call move also_ran run run_records run_file same_numbers as_numbers same_answers with_grants gave passes value_records cut_records bytes_of calls runs
all_runs = refl
