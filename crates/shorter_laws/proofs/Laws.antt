-- THEOREMS: what a cut leaves, of records and of files (02, point 9). Assumes nothing.
use mathlib.Core.Path.{◌≡◌, refl, sym, ap, ap₂, subst, ◌∙◌}
use mathlib.Core.List.{List, [], ◌∷◌, ◌++◌, map, map-append}
use mathlib.Core.Bool.{Bool, false, not, cond}
use mathlib.Core.Option.{Option, none}
use Prim.Native.Nat.{ℕ, ◌+◌, ◌-◌, ◌*◌, ◌/◌, ◌≤◌, ◌<◌}
use native.Mathlib.Omega.{arith}
use borrow.Author.Tests.{ltb-true, ltb-false, lt-ltb, le-ltb, not-false}
use lib.Dec.{ltb}
use lib.ListN.{length, get_or, take, drop, replicate, length-take, length-drop, length-map, length-replicate, take-append-drop}
use lib.Seq.{take_all, take-add, drop_at, drop-drop, length-take-le}
use Rattle.lists.specs.Lists.{over}
use Rattle.lists.specs.Answer.{done, refused, Check, ◌when◌, refusal, room_after}
use Rattle.lists.proofs.Bools.{bool}
use Rattle.lists.proofs.Bounded.{any_none}
use Rattle.lists.proofs.Loops.{keep_few}
use Rattle.lists.proofs.Refusals.{refused_later, later_none}
use Rattle.lists.proofs.Numbers.{onward}
use Rattle.hierarchy.specs.Hierarchy.{hierarchy_checks}
use Rattle.blocks.specs.File.{whole_blocks, file_records, file_checks, read_refusal, FileResult, leaving, read_file, blocks_for, write_file}
use Rattle.block_laws.proofs.Laws.{length_blocks, over_front, read_whole, write_then_read}
use Rattle.locks.specs.Stages.{is_out}
use Rattle.locks.specs.Lent.{Hierarchy}
use Rattle.desk.specs.Desks.{stage_at}
use Rattle.soundness.proofs.Covers.{is_out_law}
use Rattle.runs.specs.Run.{Step, State, start, Ran, run}
use Rattle.onward.specs.Onward.{counted, followed_by, Idle}
use Rattle.onward.proofs.Onward.{run_onward, run_twice}
use Rattle.onward.proofs.Sums.{grants_sum}
use Rattle.replay.proofs.Outcomes.{answers_length}
use Rattle.replay.specs.Replay.{each_record, record_list, size_of, step_records, built_of, step_of, answer_in, answers_of, values_in, start_of, perform_all, file_run, run_unless, run_records, file_unless, run_file}
use Rattle.opening.specs.Opening.{file_rows, built_checks}
use Rattle.opening.proofs.Opens.{done_by}
use Rattle.parties.specs.Parties.{someone_in}
use Rattle.cutting.specs.Cut.{ran_first, after_first, head_records, value_records, cut_records, too_far, someone_after, cut_checks, cut_refusal, bytes_of, blocks_of_all, cut_file}
use Rattle.cutting.proofs.Parts.{of_step}
use Rattle.cutting.proofs.Orders.{Taken}
use Rattle.cutting.proofs.Writing.{cut_sixteen, each_back, accepted, writable, uncut, cut_writes}
use Rattle.shorter_laws.specs.Share.{ran_all, RunsOn, SameDesk, CutWell}
use Rattle.shorter_laws.proofs.Cuts.{cut_head, cut_steps, cut_built, cut_serial}

-- OF RECORDS. Steps as a run has them
abbrev steps_of : List (List ℕ) → List Step
steps_of rs = map step_of rs

-- nobody holds or waits
idle_after : (rs : List (List ℕ)) (k : ℕ) → someone_after rs k ≡ false → Idle (after_first rs k).desk
idle_after rs k e party h =
    let stage = stage_at (after_first rs k).desk in
    is_out_law (stage party) (not-false (is_out (stage party)) (any_none (λ p. not (is_out (stage p))) 32 party e h))

module _ (rs : List (List ℕ)) (k : ℕ) where
  abbrev steps : List (List ℕ)
  steps = step_records rs

  abbrev first : Ran
  first = ran_first rs k

  abbrev short : Ran
  short = ran_all (cut_records rs k)

  -- all steps are the first k and the others
  whole_ran : ran_all rs ≡ run (steps_of (take k steps) ++ steps_of (drop k steps)) (start_of (built_of rs) rs)
  whole_ran = ap (λ (xs : List Step). run xs (start_of (built_of rs) rs)) (ap steps_of (sym (take-append-drop k steps)) ∙ map-append step_of (take k steps) (drop k steps))

  module _ (taken : Taken rs) where
    -- steps of the shorter file run over the same hierarchy, from a fresh desk and the values after the first k steps
    cut_runs : (xs : List (List ℕ)) → perform_all (start_of (built_of (cut_records rs k)) (cut_records rs k)) xs ≡ perform_all (start (built_of rs) first.state.values) xs
    cut_runs xs = ap₂ (λ (H : Hierarchy) (values : List ℕ). perform_all (start H values) xs) (cut_built rs k taken) (cut_serial rs k taken)

    short_ran : short ≡ perform_all (start (built_of rs) first.state.values) (drop k steps)
    short_ran = cut_runs (step_records (cut_records rs k)) ∙ ap (perform_all (start (built_of rs) first.state.values)) (cut_steps rs k)

    module _ (idle : someone_after rs k ≡ false) where
      -- THE THEOREM, of records: where nobody holds or waits after k steps, the whole run is the run of the first k steps and behind it that of the shorter file. It has each party's stage,
      -- the arrival list, the values, the events of all steps, and the counts of grants added up
      pub cut_run_law : ran_all rs ≡ followed_by (ran_first rs k) (ran_all (cut_records rs k))
      cut_run_law =
          whole_ran
          ∙ run_onward (built_of rs) (values_in (size_of rs) rs) (steps_of (take k steps)) (idle_after rs k idle) (steps_of (drop k steps))
          ∙ ap (followed_by first) (sym short_ran)

      -- so the end desks are the same but for the counts
      pub cut_desks : SameDesk (ran_all rs).state.desk (ran_all (cut_records rs k)).state.desk
      cut_desks =
          record {
            entries = sym (ap (λ (x : Ran). x.state.desk.entries) cut_run_law);
            queue = sym (ap (λ (x : Ran). x.state.desk.queue) cut_run_law);
            waiting = sym (ap (λ (x : Ran). x.state.desk.waiting) cut_run_law);
          }

      -- and the runs come to the same
      pub cut_runs_on : too_far rs k ≡ false → length (step_records rs) ≤ 3968
          → RunsOn k (ran_first rs k).state.desk.grants (file_run (ran_all rs)) (file_run (ran_all (cut_records rs k)))
      cut_runs_on near few =
          let long : length (answers_of first) ≡ k =
          answers_length (take k steps) (start_of (built_of rs) rs) ∙ length-take-le k steps (ltb-false (length steps) k near) in
          let sum = grants_sum (built_of rs) (values_in (size_of rs) rs) (steps_of (take k steps)) (idle_after rs k idle) (steps_of (drop k steps))
          (omega (arith, length-map (take k steps) step_of, length-map (drop k steps) step_of, length-take k steps, length-drop k steps)) in
          record {
            answers = sym (ap (λ (x : Ran). drop k (answers_of x)) cut_run_law ∙ ap (drop k) (map-append answer_in first.events short.events) ∙ drop_at (answers_of first) (answers_of short) k long);
            values = sym (ap (λ (x : Ran). x.state.values) cut_run_law);
            holders = sym (ap (λ (x : Ran). (file_run x).holders) cut_run_law);
            waiters = sym (ap (λ (x : Ran). x.state.desk.waiting) cut_run_law);
            grants = λ party h.
                ap (λ (x : Ran). get_or x.state.desk.grants party 0) whole_ran
                ∙ sum party h
                ∙ ap (λ (x : Ran). get_or first.state.desk.grants party 0 + get_or x.state.desk.grants party 0) (sym short_ran);
          }

-- CUT TWICE: after j steps and then after k more, the state is that after j + k, but for the counts
first_twice : (rs : List (List ℕ)) (j k : ℕ) → Taken rs → someone_after rs j ≡ false
    → after_first rs (j + k) ≡ counted (after_first rs (j + k)).desk.grants (after_first (cut_records rs j) k)
first_twice rs j k taken idle =
    let steps : List (List ℕ) = step_records rs in
    let more : List (List ℕ) = take k (drop j steps) in
    let begin : State = start_of (built_of rs) rs in
    let ran : ran_first rs (j + k) ≡ run (steps_of (take j steps) ++ steps_of more) begin =
    ap (λ (xs : List Step). run xs begin) (ap steps_of (take-add j k steps) ∙ map-append step_of (take j steps) more) in
    let same : ran_first (cut_records rs j) k ≡ perform_all (start (built_of rs) (after_first rs j).values) more =
    cut_runs rs j taken (take k (step_records (cut_records rs j))) ∙ ap (λ (l : List (List ℕ)). perform_all (start (built_of rs) (after_first rs j).values) (take k l)) (cut_steps rs j) in
    ap (λ (x : Ran). x.state) ran
    ∙ run_twice (built_of rs) (values_in (size_of rs) rs) (steps_of (take j steps)) (idle_after rs j idle) (steps_of more)
    ∙ sym (ap₂ (λ (x y : Ran). counted x.state.desk.grants y.state) ran same)

-- so the records are those of the cut after j + k
cut_is : (rs : List (List ℕ)) (k : ℕ) → cut_records rs k ≡ head_records rs ++ (value_records 0 (after_first rs k).values ++ drop k (step_records rs))
unfolding cut_records
cut_is rs k = refl

pub cut_twice : (rs : List (List ℕ)) (j k : ℕ) → Taken rs → someone_after rs j ≡ false → cut_records (cut_records rs j) k ≡ cut_records rs (j + k)
cut_twice rs j k taken idle =
    let values : List ℕ = (after_first rs (j + k)).values in
    cut_is (cut_records rs j) k
    ∙ ap (λ (l : List (List ℕ)). l ++ (value_records 0 (after_first (cut_records rs j) k).values ++ drop k (step_records (cut_records rs j)))) (cut_head rs j)
    ∙ ap (λ (v : List ℕ). head_records rs ++ (value_records 0 v ++ drop k (step_records (cut_records rs j)))) (sym (ap (λ (s : State). s.values) (first_twice rs j k taken idle)))
    ∙ ap (λ (l : List (List ℕ)). head_records rs ++ (value_records 0 values ++ l)) (ap (drop k) (cut_steps rs j) ∙ drop-drop k j (step_records rs))
    ∙ sym (cut_is rs (j + k))

-- the same refusals: 19,
twice_far : (rs : List (List ℕ)) (j k : ℕ) → too_far rs j ≡ false → too_far (cut_records rs j) k ≡ too_far rs (j + k)
twice_far rs j k near =
    let n : ℕ = length (step_records rs) in
    let h : j ≤ n = ltb-false n j near in
    let left : length (step_records (cut_records rs j)) ≡ n - j = ap length (cut_steps rs j) ∙ length-drop j (step_records rs) in
    bool (ltb n (j + k))
    (λ e. let l : n < j + k = ltb-true n (j + k) e in lt-ltb (length (step_records (cut_records rs j))) k (omega arith) ∙ sym e)
    (λ e. let l : j + k ≤ n = ltb-false n (j + k) e in le-ltb (length (step_records (cut_records rs j))) k (omega arith) ∙ sym e)

-- 20,
twice_in : (rs : List (List ℕ)) (j k : ℕ) → Taken rs → someone_after rs j ≡ false → someone_after (cut_records rs j) k ≡ someone_after rs (j + k)
twice_in rs j k taken idle = sym (ap (λ (s : State). someone_in s.desk.entries) (first_twice rs j k taken idle))

-- and those of building
cut_checks_law : (rs : List (List ℕ)) (k : ℕ) → Taken rs → built_checks (cut_records rs k) ≡ built_checks rs
cut_checks_law rs k taken = ap (λ (H : Hierarchy). hierarchy_checks H.n H.edges H.edge_count) (cut_built rs k taken)

twice_checks : (rs : List (List ℕ)) (j k : ℕ) → Taken rs → too_far rs j ≡ false → someone_after rs j ≡ false → cut_checks (cut_records rs j) k ≡ cut_checks rs (j + k)
twice_checks rs j k taken near idle =
    ap (λ (cs : List Check). cs ++ (19 when too_far (cut_records rs j) k ∷ 20 when someone_after (cut_records rs j) k ∷ [])) (cut_checks_law rs j taken)
    ∙ ap₂ (λ (b c : Bool). built_checks rs ++ (19 when b ∷ 20 when c ∷ [])) (twice_far rs j k near) (twice_in rs j k taken idle)

-- OF FILES. One that is refused for nothing runs
file_run_law : (file : List ℕ) → refusal (file_checks file) ≡ none → refusal (built_checks (file_rows file)) ≡ none → run_file file ≡ done (file_run (ran_all (file_rows file)))
unfolding run_file run_records
file_run_law file read legal = ap (λ (o : Option ℕ). file_unless o file) read ∙ ap (λ (o : Option ℕ). run_unless o (file_rows file)) legal

-- what was written is accepted, and reading gives it back
reads_back : (bytes : List ℕ) (n : ℕ) (room : List ℕ) (m : ℕ) → length bytes ≡ 16 * n → (write_file bytes n room).answer ≡ done m
    → let f = take (512 * m) (write_file bytes n room).room in (refusal (file_checks f) ≡ none) × (file_records f ≡ bytes)
unfolding read_file
reads_back bytes n room m l e =
    let f : List ℕ = take (512 * m) (write_file bytes n room).room in
    let places : List ℕ = replicate (496 * m) 0 in
    let long = length-replicate {A = ℕ} (496 * m) 0 in
    let back : read_file f places ≡ record { answer = done n; room = over (take (16 * n) bytes) places } =
    write_then_read bytes n room places m e
    ∙ ap (λ (b : Bool). cond b (record { answer = refused 1; room = places }) (record { answer = done n; room = over (take (16 * n) bytes) places })) (le-ltb (length places) (496 * m) (omega (arith, long))) in
    let answer : (read_file f places).answer ≡ done n = ap (λ (x : FileResult). x.answer) back in
    let whole = read_whole f places n answer in
    let none_of = (done_by (read_refusal f places) (length (file_records f) / 16) answer).0 in (
      later_none (1 when ltb (length places) (496 * whole_blocks f) ∷ file_checks f) 1 none_of,
      sym (over_front (file_records f) places (16 * n) whole.0)
          ∙ ap (take (16 * n)) (sym whole.2 ∙ ap (λ (x : FileResult). x.room) back)
          ∙ over_front (take (16 * n) bytes) places (16 * n) (length-take-le (16 * n) bytes (omega arith))
          ∙ take_all (16 * n) bytes (omega arith),
    )

-- a cut that is not refused is refused for nothing, and its answer is the count of blocks
not_refused_law : (file : List ℕ) (k : ℕ) (room : List ℕ) (m : ℕ) → (cut_file file k room).answer ≡ done m → (cut_refusal file k room ≡ none) × (blocks_for (length (cut_records (file_rows file) k)) ≡ m)
unfolding cut_file
not_refused_law file k room m e = done_by (cut_refusal file k room) (blocks_for (length (cut_records (file_rows file) k))) e

-- its m blocks stand in front of the room as it was
pub cut_front : (file : List ℕ) (k : ℕ) (room : List ℕ) (m : ℕ) → (cut_file file k room).answer ≡ done m
    → let short = take (512 * m) (cut_file file k room).room in ((cut_file file k room).room ≡ over short room) × (whole_blocks short ≡ m)
unfolding cut_file
cut_front file k room m e =
    let cs : List (List ℕ) = cut_records (file_rows file) k in
    let why = not_refused_law file k room m e in
    let bytes : List ℕ = blocks_of_all cs in
    let long : length bytes ≡ 512 * m = length_blocks (blocks_for (length cs)) 0 (take (16 * length cs) (bytes_of cs)) ∙ ap (λ (n : ℕ). 512 * n) why.1 in
    let whole : (cut_file file k room).room ≡ over bytes room = ap (λ (o : Option ℕ). room_after o bytes room) why.0 in
    let front : take (512 * m) (cut_file file k room).room ≡ bytes = ap (take (512 * m)) whole ∙ over_front bytes room (512 * m) long in
    (whole ∙ ap (λ (l : List ℕ). over l room) (sym front), omega (arith, ap length front, long))

-- THE THEOREM, of files: what a cut leaves is a shorter file, cut well
pub cut_well : (file : List ℕ) (k : ℕ) (room : List ℕ) (m : ℕ) → (cut_file file k room).answer ≡ done m → CutWell file k (take (512 * m) (cut_file file k room).room)
cut_well file k room m e =
    let rs : List (List ℕ) = file_rows file in
    let cs : List (List ℕ) = cut_records rs k in
    let why = not_refused_law file k room m e in
    let u = uncut file k room why.0 in
    let a = accepted file u.read in
    let w = writable file k a in
    let same = cut_writes file k room why.0 in
    let wrote : (write_file (bytes_of cs) (length cs) room).answer ≡ done m = sym (ap (λ (x : FileResult). x.answer) same) ∙ e in
    let f : List ℕ = take (512 * m) (write_file (bytes_of cs) (length cs) room).room in
    let back = reads_back (bytes_of cs) (length cs) room m w.long wrote in
    let count : length (bytes_of cs) / 16 ≡ length cs = omega (arith, w.long) in
    let rows : file_rows f ≡ cs = ap record_list back.1 ∙ ap (λ (n : ℕ). each_record n (bytes_of cs)) count ∙ each_back cs (cut_sixteen rs k a.each) in
    let b = accepted f back.0 in
    subst (CutWell file k) (sym (ap (λ (x : FileResult). take (512 * m) x.room) same))
    (record {
      accepted = back.0;
      records = rows;
      starts = ap (λ (l : List (List ℕ)). values_in (size_of l) l) rows ∙ cut_serial rs k a.taken;
      blocks = omega (arith, b.whole, length-take (512 * m) (write_file (bytes_of cs) (length cs) room).room, w.blocks, why.1);
      whole_runs = file_run_law file u.read u.legal;
      short_runs = file_run_law f back.0 (ap (λ (l : List (List ℕ)). refusal (built_checks l)) rows ∙ ap refusal (cut_checks_law rs k a.taken) ∙ u.legal);
      on = subst (λ (l : List (List ℕ)). RunsOn k (ran_first rs k).state.desk.grants (file_run (ran_all rs)) (file_run (ran_all l))) (sym rows)
          (cut_runs_on rs k a.taken u.idle u.near (omega (arith, a.few, keep_few of_step rs)));
      desks = subst (λ (l : List (List ℕ)). SameDesk (ran_all rs).state.desk (ran_all l).state.desk) (sym rows) (cut_desks rs k a.taken u.idle);
    })

-- of a file that is not refused, in a room that is long enough, the checks of the cut decide
only_checks : (file : List ℕ) (k : ℕ) (room : List ℕ) → refusal (file_checks file) ≡ none → length file ≤ length room → cut_refusal file k room ≡ refusal (cut_checks (file_rows file) k)
only_checks file k room read long =
    refused_later (1 when ltb (length room) (length file)) (file_checks file ++ cut_checks (file_rows file) k) (le-ltb (length room) (length file) long)
    ∙ onward (file_checks file) (cut_checks (file_rows file) k) read

-- what cutting gives, of its refusal and records
cut_gives : (file : List ℕ) (k : ℕ) (room : List ℕ) {o : Option ℕ} {cs : List (List ℕ)} → cut_refusal file k room ≡ o → cut_records (file_rows file) k ≡ cs
    → cut_file file k room ≡ leaving o (blocks_for (length cs)) (blocks_of_all cs) room
unfolding cut_file
cut_gives file k room e c = ap₂ (λ (o : Option ℕ) (cs : List (List ℕ)). leaving o (blocks_for (length cs)) (blocks_of_all cs) room) e c

-- THE THEOREM: cutting after j steps and then after k, into a room as long as the first input, gives what cutting after j + k does, refusals too
pub cut_file_twice : (file : List ℕ) (j k : ℕ) (room room' : List ℕ) (m : ℕ) → (cut_file file j room).answer ≡ done m → length file ≤ length room'
    → cut_file (take (512 * m) (cut_file file j room).room) k room' ≡ cut_file file (j + k) room'
cut_file_twice file j k room room' m e long =
    let f : List ℕ = take (512 * m) (cut_file file j room).room in
    let rs : List (List ℕ) = file_rows file in
    let w : CutWell file j f = cut_well file j room m e in
    let u = uncut file j room (not_refused_law file j room m e).0 in
    let a = accepted file u.read in
    let b = accepted f w.accepted in
    cut_gives f k room'
    (only_checks f k room' w.accepted (omega (arith, b.whole, a.whole, w.blocks))
    ∙ ap (λ (l : List (List ℕ)). refusal (cut_checks l k)) w.records
    ∙ ap refusal (twice_checks rs j k a.taken u.near u.idle))
    (ap (λ (l : List (List ℕ)). cut_records l k) w.records ∙ cut_twice rs j k a.taken u.idle)
    ∙ sym (cut_gives file (j + k) room' (only_checks file (j + k) room' u.read long) refl)
