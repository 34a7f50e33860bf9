-- EACH REFUSAL AT ITS EDGE: every figure is what the definitions give, by computation; of the longest files for all of that length. Assumes nothing.
use mathlib.Core.Path.{◌≡◌, refl}
use mathlib.Core.Bool.{true, false}
use mathlib.Core.List.{List, [], ◌∷◌}
use mathlib.Core.Option.{some}
use Prim.Native.Nat.{ℕ}
use lib.ListN.{length}
use Rattle.lists.specs.Lists.{all_below, any_below, every, any, keep, count, over, fold_from, least, greatest, sum}
use Rattle.lists.specs.Answer.{◌when◌, refusal}
use Rattle.hierarchy.specs.Hierarchy.{children, some_edge, spread, spreads, reach, edge_twice, some_unreached}
use Rattle.intervals.specs.Numbering.{meet, visit, inside, walk, numbering}
use Rattle.intervals.specs.Intervals.{numbers_among, low_of, high_of, intervals_from, interval_table}
use Rattle.covers.specs.Cover.{closest}
use Rattle.octets.specs.Fletcher.{words, sums, fletcher}
use Rattle.blocks.specs.Record.{enter_right, kinds, row_in, value_right, record_right}
use Rattle.blocks.specs.Block.{after_record, after_records, count_right, head_right, after_block, records_in, block_body, block_of}
use Rattle.blocks.specs.File.{after_blocks, records_of, not_blocks, blocks_of, records_wrong, write_refusal}
use Rattle.naming.specs.Names.{insert, insert_all, rises_from}
use Rattle.parties.specs.Sound.{sound_parties}
use Rattle.sweeps.specs.Sweeps.{offer, sweep}
use Rattle.grants.specs.Grants.{count_grants}
use Rattle.desk.specs.Steps.{enter_step, get_step, put_step, add_step, leave_step}
use Rattle.runs.specs.Run.{lend, restored, lent_to, after_enter, after_get, after_put, after_add, listed, after_leave, move_call, move, also_ran, run}
use Rattle.replay.specs.Replay.{each_record, edge_table, values_from, run_records, run_file}
use Rattle.examples.specs.Cases.{same_numbers, as_numbers, same_answers, with_grants, gave, passes}
use Rattle.examples.specs.Rows.{right}
use Rattle.refusal_rows.specs.Edges.{edges, block_edges, record_edges, sound_edges, file_edges, step_edges}

pub all_edges : every right edges ≡ true
unfolding all_below any_below every any sum refusal some_edge spread spreads reach edge_twice some_unreached not_blocks insert insert_all rises_from sound_parties right edges
all_edges = refl

pub all_block_edges : every right block_edges ≡ true
unfolding every refusal words sums fletcher enter_right kinds row_in value_right record_right after_record after_records count_right head_right after_block
    block_body block_of after_blocks not_blocks same_numbers right block_edges
all_block_edges = refl

pub all_record_edges : every right record_edges ≡ true
unfolding every refusal enter_right kinds row_in value_right record_right after_record after_records right record_edges
all_record_edges = refl

pub all_sound_edges : every right sound_edges ≡ true
unfolding all_below any_below every any insert insert_all rises_from sound_parties same_numbers right sound_edges
all_sound_edges = refl

-- 11 to 18, by the steps of a file
pub all_step_edges : passes step_edges ≡ true
unfolding all_below any_below every any keep count sum over fold_from least greatest refusal children some_edge spread spreads reach edge_twice
    some_unreached meet visit inside walk numbering numbers_among low_of high_of intervals_from interval_table closest words sums fletcher
    enter_right kinds row_in value_right record_right after_record after_records count_right head_right after_block records_in block_body block_of after_blocks
    records_of not_blocks blocks_of insert insert_all rises_from sound_parties enter_step get_step put_step add_step offer sweep count_grants leave_step each_record edge_table values_from lend restored lent_to after_enter after_get after_put after_add listed after_leave
    move_call move also_ran run
    run_records run_file same_numbers as_numbers same_answers with_grants gave passes file_edges step_edges
all_step_edges = refl

-- 2, bytes not 1 to 128 whole blocks: no file of 128 blocks, and every file of 129
pub most_blocks : (file : List ℕ) → length file ≡ 65536 → not_blocks file ≡ false
unfolding not_blocks
most_blocks file e = rw e refl

pub more_blocks : (file : List ℕ) → length file ≡ 66048 → not_blocks file ≡ true
unfolding not_blocks
more_blocks file e = rw e refl

-- 2, over 3,968 records to write: 3,968 are not refused with it, whatever they are, and 3,969 always are, into room for 128 and 129 blocks
pub most_records : (records room : List ℕ) → length records ≡ 63488 → length room ≡ 65536
    → write_refusal records 3968 room ≡ refusal (4 when records_wrong records 3968 ∷ [])
unfolding refusal
most_records records room e f = rw (e, f) refl

pub more_records : (records room : List ℕ) → length records ≡ 63504 → length room ≡ 66048 → write_refusal records 3969 room ≡ some 2
unfolding refusal
more_records records room e f = rw (e, f) refl
