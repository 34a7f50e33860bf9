-- THE STEPS' REFUSALS, and desks made by hand: every figure is what the definitions give, by computation. Assumes nothing.
use mathlib.Core.Path.{◌≡◌, refl}
use mathlib.Core.Bool.{true}
use Rattle.lists.specs.Lists.{all_below, any_below, every, any, keep, over, fold_from, least, greatest}
use Rattle.lists.specs.Answer.{refusal}
use Rattle.hierarchy.specs.Hierarchy.{some_edge, spread, spreads, reach}
use Rattle.covers.specs.Cover.{closest}
use Rattle.naming.specs.Names.{insert, insert_all, rises_from}
use Rattle.parties.specs.Sound.{sound_parties}
use Rattle.sweeps.specs.Sweeps.{offer, sweep}
use Rattle.grants.specs.Grants.{count_grants}
use Rattle.desk.specs.Steps.{enter_step, get_step, put_step, add_step, leave_step}
use Rattle.blocks.specs.Record.{enter_right, value_right, kinds, row_in, record_right}
use Rattle.runs.specs.Run.{lend, restored, lent_to, after_enter, after_get, after_put, after_add, listed, after_leave, move_call, move}
use Rattle.examples.specs.Cases.{same_numbers, as_numbers, same_answers}
use Rattle.examples.specs.Rows.{right}
use Rattle.further_rows.specs.Steps.{all_stages, desk_numbers, steps, tables, desks, records}

pub all_steps : every right steps ≡ true
unfolding all_below any_below every any keep over fold_from least greatest refusal some_edge spread spreads reach closest insert insert_all rises_from sound_parties enter_step get_step put_step add_step offer
    sweep leave_step listed same_numbers as_numbers same_answers right steps
all_steps = refl

pub all_tables : every right tables ≡ true
unfolding all_below any_below every any keep over fold_from least greatest refusal some_edge spread spreads reach closest insert insert_all rises_from sound_parties enter_step get_step put_step add_step offer
    sweep leave_step listed same_numbers as_numbers same_answers right tables
all_tables = refl

pub all_desks : every right desks ≡ true
unfolding all_below any_below every any keep over fold_from least greatest refusal some_edge spread spreads reach closest insert insert_all rises_from sound_parties enter_step get_step put_step add_step offer
    sweep count_grants leave_step listed same_numbers as_numbers same_answers all_stages desk_numbers right desks
all_desks = refl

pub all_records : every right records ≡ true
unfolding all_below any_below every any keep over fold_from least greatest refusal some_edge spread spreads reach closest insert insert_all rises_from sound_parties enter_step get_step put_step add_step offer sweep count_grants leave_step
    enter_right value_right kinds row_in record_right lend restored lent_to after_enter after_get after_put after_add listed after_leave move_call move
    same_numbers as_numbers same_answers all_stages desk_numbers right records
all_records = refl
