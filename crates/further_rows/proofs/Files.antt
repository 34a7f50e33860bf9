-- CHECKS, AND REFUSALS OF FILES, beyond the edges: every figure is what the definitions give, by computation. Assumes nothing.
use mathlib.Core.Path.{◌≡◌, refl}
use mathlib.Core.Bool.{true}
use Rattle.lists.specs.Lists.{every}
use Rattle.lists.specs.Answer.{refusal}
use Rattle.octets.specs.Fletcher.{words, sums, fletcher}
use Rattle.blocks.specs.Record.{enter_right, kinds, row_in, value_right, record_right}
use Rattle.blocks.specs.Block.{after_record, after_records, count_right, head_right, after_block}
use Rattle.blocks.specs.File.{after_blocks, not_blocks}
use Rattle.examples.specs.Rows.{right}
use Rattle.further_rows.specs.Files.{files}

pub all_files : every right files ≡ true
unfolding every refusal words sums fletcher enter_right kinds row_in value_right record_right after_record after_records count_right head_right after_block
    after_blocks not_blocks right files
all_files = refl
