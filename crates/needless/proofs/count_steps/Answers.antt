-- `count_steps` meets its contract: the waits so far and those of the records left come to the same, from the fresh desk to the end. Assumes nothing.
use mathlib.Core.Path.{ap, ◌∙◌}
use native.Mathlib.Omega.{arith}
use Rattle.locks.specs.Lent.{lent_in}
use Rattle.desk.specs.declared.Desk.{Desk}
use Rattle.replay.proofs.Records.{records_length}
use Rattle.needless.specs.Waits.{no_waits}
use Rattle.needless.proofs.Tallies.{counting_start, counting_few, counting_right, counting_more, counting_end}
use Rattle.needless.proofs.count_steps.Goals as goal

pub loop-bytes-init : goal.loop-bytes-init
loop-bytes-init c = let a = c.args in (
  cc,
  counting_start (lent_in a.tables.now) a.sets.now a.records.now _ _ a.values.now a.called.now (cc) c.requires.records_value (ap (λ (d : Desk). record { desk = d; waits = no_waits }) c.fresh.ensures) c.requires.values_value c.requires.called_value,
)

pub count_step-progress-requires : goal.count_step-progress-requires
count_step-progress-requires c = let a = c.args in let k = c.loop-bytes.invariant in let steps = c.in-Some.ensures.steps in
    let few = counting_few (lent_in a.tables.now) a.sets.now a.records.now _ c.loop-bytes.progress c.loop-bytes.values c.loop-bytes.called k.1 in record {
      bytes_value = counting_right (lent_in a.tables.now) a.sets.now a.records.now _ c.loop-bytes.progress c.loop-bytes.values c.loop-bytes.called k.1 _ _ steps.1.0 (steps.1.1 ∙ k.0);
      all_bound = (omega (arith, few.0, records_length a.records.now, c.well_formed), omega (arith, few.1, records_length a.records.now, c.well_formed));
    }

pub loop-bytes-preserved : goal.loop-bytes-preserved
loop-bytes-preserved c = let a = c.args in let k = c.loop-bytes.invariant in let steps = c.in-Some.ensures.steps in (
  steps.0 ∙ k.0,
  counting_more (lent_in a.tables.now) a.sets.now a.records.now _ c.loop-bytes.progress c.loop-bytes.values c.loop-bytes.called k.1 _ _ steps.1.0 (steps.1.1 ∙ k.0)
      c.count_step-progress.result c.count_step-progress.new.values c.count_step-progress.new.called (c.count_step-progress.ensures c.requires.sets),
)

pub returns : goal.returns
returns c = let a = c.args in let k = c.loop-bytes.invariant in
    counting_end (lent_in a.tables.now) a.sets.now a.records.now _ c.loop-bytes.progress c.loop-bytes.values c.loop-bytes.called k.1 (omega (arith, c.in-None.ensures.steps.1.0, k.0))
