-- What the code's kinds of records and its stage of reading are among the definitions. Assumes nothing.
use Rattle.std.specs.Prelude.{◌≡◌, ◌≤◌, ℕ, Option, Some, None, Result, Ok, Err, ◌<◌, ◌⊎◌}
use Rattle.refusals.specs.declared.Refusal.{Refusal}
use Rattle.refusals.specs.Refusals.{refusal_number}
use Rattle.blocks.specs.declared.RecordKind.{RecordKind}
use Rattle.blocks.specs.declared.RecordKind.TheVariants.{Size, Edge, Enter, Get, Put, Leave, Add, Value}
use Rattle.blocks.specs.declared.Part.{Part}
use Rattle.blocks.specs.declared.Part.TheVariants.{Nothing, Edges, Values, Steps}
use Rattle.blocks.specs.declared.Stage.{Stage}
use Rattle.blocks.specs.Record.{ReadStage, reached}

-- the number of a kind of records
abbrev pub kind_number : RecordKind → ℕ
kind_number Size = 1
kind_number Edge = 2
kind_number Enter = 3
kind_number Get = 4
kind_number Put = 5
kind_number Leave = 6
kind_number Add = 7
kind_number Value = 8

-- the kind of a number, or none where it is no kind's
abbrev pub Named : Option RecordKind → ℕ → Type 0
Named (Some kind) n = n ≡ kind_number kind
Named None n = (n ≡ 0) ⊎ (8 < n)

-- the number of a part of a file
abbrev pub part_number : Part → ℕ
part_number Nothing = 0
part_number Edges = 1
part_number Values = 2
part_number Steps = 3

-- a stage without a refusal
abbrev pub stage_of : Stage → ReadStage
stage_of t = reached (part_number t.part) t.size t.next

-- what reading answers on the way to a stage: the stage, or the refusal that was found
abbrev pub Reads : Result Stage Refusal → ReadStage → Type 0
Reads (Ok t) s = stage_of t ≡ s
Reads (Err k) s = (refusal_number k ≡ s.wrong) × (1 ≤ s.wrong)
