-- The number of each refusal in the documents' tables, and what a result is in the paper. Assumes nothing.
use Rattle.std.specs.Prelude.{ℕ, Result, Ok, Err}
use Rattle.lists.specs.Answer.{Answer, done, refused}
use Rattle.refusals.specs.declared.Refusal.{Refusal}
use Rattle.refusals.specs.declared.Refusal.TheVariants.{Short, NotBlocks, CheckDiffers, Malformed, SizeWrong, ManyEdges, EdgeWrong, EdgeTwice, Unreached, StateWrong, PartyWrong, NotOut, IsOut, IsWaiting, NamesWrong, NotReached, ReadsOnly, OtherMode, FewSteps, SomeoneIn}

-- a refusal's number
abbrev pub refusal_number : Refusal → ℕ
refusal_number Short = 1
refusal_number NotBlocks = 2
refusal_number CheckDiffers = 3
refusal_number Malformed = 4
refusal_number SizeWrong = 5
refusal_number ManyEdges = 6
refusal_number EdgeWrong = 7
refusal_number EdgeTwice = 8
refusal_number Unreached = 9
refusal_number StateWrong = 10
refusal_number PartyWrong = 11
refusal_number NotOut = 12
refusal_number IsOut = 13
refusal_number IsWaiting = 14
refusal_number NamesWrong = 15
refusal_number NotReached = 16
refusal_number ReadsOnly = 17
refusal_number OtherMode = 18
refusal_number FewSteps = 19
refusal_number SomeoneIn = 20

-- what a result is in the paper: done, with what the call gives, or refused, with the refusal's number
abbrev pub meaning : {A : Type 0} → Result A Refusal → Answer A
meaning (Ok x) = done x
meaning (Err k) = refused (refusal_number k)
