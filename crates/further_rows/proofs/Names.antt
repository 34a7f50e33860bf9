-- ONLY WHAT WAS CALLED FOR (02, point 6): every figure is what the definitions give, by computation. Assumes nothing.
use mathlib.Core.Path.{◌≡◌, refl}
use mathlib.Core.Bool.{true}
use Rattle.lists.specs.Lists.{all_below, any_below, every, any, keep, over, fold_from, least, greatest}
use Rattle.lists.specs.Answer.{refusal}
use Rattle.hierarchy.specs.Hierarchy.{some_edge, spread, spreads, reach}
use Rattle.covers.specs.Cover.{closest}
use Rattle.naming.specs.Names.{insert, insert_all, rises_from}
use Rattle.parties.specs.Sound.{sound_parties}
use Rattle.sweeps.specs.Sweeps.{offer, sweep}
use Rattle.desk.specs.Steps.{enter_step, get_step, put_step, add_step, leave_step}
use Rattle.runs.specs.Run.{listed}
use Rattle.examples.specs.Cases.{same_numbers, as_numbers, same_answers}
use Rattle.examples.specs.Rows.{right}
use Rattle.further_rows.specs.Names.{called, desk_names, scratches}

pub all_called : every right called ≡ true
unfolding all_below any_below every any over fold_from least greatest refusal some_edge spread spreads reach closest insert insert_all rises_from sound_parties
    enter_step get_step put_step add_step same_numbers as_numbers same_answers right called
all_called = refl

pub all_desk_names : every right desk_names ≡ true
unfolding all_below any_below every any keep over fold_from least greatest refusal some_edge spread spreads reach closest insert insert_all rises_from sound_parties
    enter_step get_step put_step add_step offer sweep leave_step listed same_numbers as_numbers same_answers right desk_names
all_desk_names = refl

pub all_scratches : every right scratches ≡ true
unfolding all_below any_below every any over refusal some_edge spread spreads reach rises_from sound_parties get_step put_step add_step
    same_numbers as_numbers same_answers right scratches
all_scratches = refl
