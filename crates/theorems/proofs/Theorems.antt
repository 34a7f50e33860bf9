-- THE THEOREMS OF THE DESK, in full, in the order of the customer's demands. Each is proved by citing the one that a crate below proves: with a hypothesis
-- more or a clause less there it would no longer fit. Some of points 4, 5, 6, 8, 9 and 10 no crate below states: they follow here, in a few lines, from laws and definitions below.
-- What the terms mean is in the definitions, crates/*/specs; what each function does is its contract, in crates/*/src, where demand 1 is carried: no public
-- function has a `requires`, and each result is equated with a definition. Assumes nothing.
use mathlib.Core.Path.{◌≡◌, refl, sym, ap, subst, ◌∙◌}
use mathlib.Core.Logic.{◌⊎◌, inl, inr}
use mathlib.Core.List.{List, [], ◌∷◌, ◌++◌, map}
use mathlib.Core.Bool.{Bool, true, false, not, cond, ◌&&◌, and-false}
use mathlib.Core.Option.{Option, none, some}
use Prim.Native.Nat.{ℕ, zero, suc, ◌+◌, ◌*◌, ◌%◌, ◌^◌, ◌≤◌, ◌<◌, min, max}
use native.Mathlib.Omega.{arith}
use lib.Dec.{eqb, leb, ltb}
use borrow.Author.Tests.{lt-ltb, le-leb, eqb-false, eq-eqb, ne_eqb, not-true, not-false}
use lib.ListN.{length, get_or, set, take, drop, replicate}
use Rattle.lists.specs.Lists.{any_below, every, any, keep, count, sum, over, Below}
use Rattle.lists.specs.Answer.{done, refused, ◌when◌, refusal}
use Rattle.hierarchy.specs.Hierarchy.{edges_of, Edge, Reach, reach, hierarchy_checks, Legal}
use Rattle.intervals.specs.Numbering.{numbering}
use Rattle.intervals.specs.Intervals.{low_of, high_of, interval_table}
use Rattle.intervals.specs.Build.{build_step}
use Rattle.covers.specs.declared.Interval.{Interval}
use Rattle.covers.specs.Cover.{low_at, high_at, interval_at, call_interval, contains, width, closest, cover_of}
use Rattle.blocks.specs.Record.{ReadStage, kind_of, faulty}
use Rattle.blocks.specs.Block.{after_record}
use Rattle.block_laws.proofs.ByKind.{one_of_eight, ordered, in_turn, past_record}
use Rattle.block_laws.proofs.ByKind as kinds-spelt
use Rattle.blocks.specs.File.{whole_blocks, file_checks, leaving, read_file, blocks_for, write_file}
use Rattle.locks.specs.declared.Mode.{Mode}
use Rattle.locks.specs.declared.Mode.TheVariants.{Reading, Writing, Adding}
use Rattle.locks.specs.declared.Lock.{Lock}
use Rattle.locks.specs.Locks.{compatible, share, conflict}
use Rattle.locks.specs.declared.Stage.{Stage}
use Rattle.locks.specs.declared.Stage.TheVariants.{Out, Waiting, Holding}
use Rattle.locks.specs.Stages.{is_out, is_holding}
use Rattle.naming.specs.declared.Names.{Names}
use Rattle.naming.specs.Names.{rises, ascending, names_of, names_right, named}
use Rattle.locks.specs.Lent.{Hierarchy, lent, low_in, high_in, cover_in, tables_short, lock_for, inside_lock}
use Rattle.grants.specs.Grants.{no_grants, count_grants}
use Rattle.desk.specs.declared.Desk.{Desk}
use Rattle.desk.specs.Desks.{fresh_desk, stage_at, queue_of}
use Rattle.desk.specs.Sound.{sound_desk}
use Rattle.desk.specs.declared.EnterAnswer.{EnterAnswer}
use Rattle.desk.specs.declared.Step.{Step as DeskStep}
use Rattle.desk.specs.declared.EnterAnswer.TheVariants.{Waits}
use Rattle.desk.specs.Steps.{granted, waits as waiting, enter_refusal, enter_step, step_checks, values_short, get_step, put_step, add_step, leave_step}
use Rattle.runs.specs.Run.{Lending, get as get-call, put as put-call, add as add-call, Step, lent_to, Event, entered as entered-with, left as left-with, State, start, move_call, move, Ran, run}
use Rattle.runs.specs.Over.{start_over, run_over}
use Rattle.history.specs.History.{history, granted_in, bare_event, ops_in, counted_from, serial_finds, serial_leaves}
use Rattle.history.specs.Serial.{Built, SerialSteps}
use Rattle.desk.specs.Answers.{Enters, Gets, Puts, Adds, Leaves}
use Rattle.history.specs.Results.{Result, enter, get, put, add, leave, Made, Meets, desk_from, values_from, AllMeet, told_by_all, last_desk, last_values, steps_for}
use Rattle.soundness.specs.Refused.{refused_with}
use Rattle.soundness.specs.Given.{given_in, Keeps}
use Rattle.fairness.specs.AnySteps.{AnyStep, enter_with, move_any, run_any, HostCall, CallsMeet, told_back, desk_after}
use Rattle.fairness.specs.Ahead.{is_present, ahead, front_of, in_front, others, is_leave, is_enter, has_left, all_left, visit_left}
use Rattle.fairness.specs.Rules.{Rules, paper_rules, newcomers_pass, from_the_back, only_holders, enter_by, run_by}
use Rattle.swaps.specs.Order.{is_access, party_of, event_party, not_refused, scratch_from, Told, tell_all, Swapped, told_of, events_of as of_party, cleared, Rearranged, Merged}
use Rattle.swaps.specs.Rules.{Rules as SwapRules, paper_rules as swap_papers, gets_count, writers_pass, adders_pass, adders_get, step_by, NeighboursMaySwap}
use Rattle.file_laws.specs.Files.{events_of}
use Rattle.replay.specs.Replay.{waits, stored, left, FileRun, granted as admitted, refused as denied, record_list, step_records, size_of, edge_table, edge_count_of, built_of, values_in, start_of, answers_of}
use Rattle.replay.specs.Replay.{holders_at, file_run, perform_all, run_file}
use Rattle.cutting.specs.Cut.{value_records, cut_records, cut_refusal, blocks_of_all, cut_file}
use Rattle.blocks.specs.File.{file_records}
use Rattle.examples.specs.Cases.{intervals, cover, apart, listing, with_grants, passes}
use Rattle.examples.specs.Table.{T, shared, bytes16, file_t, file_shared, starred}
use Rattle.interval_laws.specs.Covers.{running}
use Rattle.trees.specs.Tree.{parent_count}
use Rattle.reach_sets.specs.Sets.{has, set_at, set_table}
use Rattle.reach_sets.specs.Plain.{plain_step}
use Rattle.needless.specs.Waits.{no_waits, is_waits, reaches_meet, waits_of}
use Rattle.needless_laws.specs.Visits.{OneEach}
use Rattle.lists.proofs.Marks.{zero_at}
use Rattle.lists.proofs.Members.{In}
use Rattle.lists.proofs.Bools.{bool, not_both}
use Rattle.lists.proofs.Distinct.{every_in, every_of, in_keep, keep_in, Distinct}
use Rattle.interval_laws.proofs.Laws as laws
use Rattle.interval_laws.proofs.Scratch as building
use Rattle.covers.proofs.Bounds as bounds-laws
use Rattle.covers.proofs.Covers as closest-laws
use Rattle.interval_laws.proofs.Covers as cover-laws
use Rattle.block_laws.proofs.Laws as file-forms
use Rattle.runs.proofs.Runs as ran-laws
use Rattle.history.proofs.Serializable as serial
use Rattle.history.proofs.Results as results
use Rattle.history.proofs.Grants as counted
use Rattle.history.proofs.Modes as modes
use Rattle.grants.proofs.Counts as sum-laws
use Rattle.file_laws.proofs.Laws as files
use Rattle.soundness.proofs.Laws as unchanged
use Rattle.soundness.proofs.Kept as kept
use Rattle.soundness.proofs.NeverTen as never
use Rattle.soundness.proofs.Covers as entered
use Rattle.soundness.proofs.Named as given-names
use Rattle.soundness.proofs.Given as goal
use Rattle.soundness.proofs.Seen as seen
use Rattle.soundness.proofs.Scratch as used
use Rattle.soundness.proofs.Orderly.{Shaped}
use Rattle.fairness.proofs.Queues as Lists-of
use Rattle.fairness.proofs.Visits as visits
use Rattle.fairness.proofs.Fairness as waited
use Rattle.fairness.proofs.Hosts as hosts
use Rattle.fairness.proofs.Shams as shams
use Rattle.swaps.proofs.Accesses as accessed
use Rattle.swaps.proofs.Swaps as swapped
use Rattle.swaps.proofs.Hosts as own-calls
use Rattle.swaps.proofs.Shams as sham-swaps
use Rattle.std.specs.Prelude.{Ok}
use Rattle.opening.specs.declared.Opened.{Opened}
use Rattle.opening.specs.Opening.{open_file}
use Rattle.texts.specs.Lines.{step_lines, end_line, party_line, party_lines, end_lines, listing as listing_of}
use Rattle.lines.specs.Pieces.{written_of, in_pieces, parts_in}
use Rattle.opening.proofs.Opens as opens
use Rattle.lines.proofs.Fits as fits
use Rattle.lines.proofs.Parts as parts
use Rattle.trees.proofs.Trees as tree
use Rattle.reach_sets.proofs.Plains as plain
use Rattle.needless.proofs.Files as reports
use Rattle.needless_laws.proofs.Counts as counts
use Rattle.needless_laws.proofs.Meets as meets
use Rattle.needless_laws.proofs.Needless as none_needless
use Rattle.shorter_laws.proofs.Cuts as shorter-parts
use Rattle.shorter_laws.proofs.Laws as cuts
use Rattle.shorter_laws.proofs.Serials as cut-serials
use Rattle.shorter_laws.proofs.Whole as cut-whole
use Rattle.examples.proofs.Starred as computed

-- DEMAND 1, as far as it is not a contract: a refusal changes nothing (but the scratch of a search: point 6 below). Of enter, the desk
refused_enter : (H : Hierarchy) (d : Desk) (party : ℕ) (mode : Mode) (names : List ℕ) (name_count k : ℕ)
    → (enter_step H d party mode names name_count).answer ≡ refused k → (enter_step H d party mode names name_count).desk ≡ d
refused_enter = unchanged.refused_enter

-- get changes no desk, refused or not; it is lent the values to read only
unchanged_get : (H : Hierarchy) (d : Desk) (party node : ℕ) (values scratch : List ℕ) → (get_step H d party node values scratch).desk ≡ d
unchanged_get = unchanged.unchanged_get

-- nor does put,
unchanged_put : (H : Hierarchy) (d : Desk) (party node value : ℕ) (values scratch : List ℕ) → (put_step H d party node value values scratch).desk ≡ d
unchanged_put = unchanged.unchanged_put

-- and refused it leaves the values
refused_put : (H : Hierarchy) (d : Desk) (party node value k : ℕ) (values scratch : List ℕ) → (put_step H d party node value values scratch).answer ≡ refused k
    → (put_step H d party node value values scratch).values ≡ values
refused_put = unchanged.refused_put

-- nor does add,
unchanged_add : (H : Hierarchy) (d : Desk) (party node number : ℕ) (values scratch : List ℕ) → (add_step H d party node number values scratch).desk ≡ d
unchanged_add = unchanged.unchanged_add

-- and refused it leaves the values
refused_add : (H : Hierarchy) (d : Desk) (party node number k : ℕ) (values scratch : List ℕ) → (add_step H d party node number values scratch).answer ≡ refused k
    → (add_step H d party node number values scratch).values ≡ values
refused_add = unchanged.refused_add

-- of leave, the desk and the lent list
refused_leave : (H : Hierarchy) (d : Desk) (party k : ℕ) (list : List ℕ) → (leave_step H d party list).answer ≡ refused k
    → ((leave_step H d party list).desk ≡ d) × ((leave_step H d party list).list ≡ list)
refused_leave = unchanged.refused_leave

-- DEMAND 2: INTERVALS of every legal hierarchy, of n nodes with these edges
module _ (n : ℕ) (table : List ℕ) (edge_count : ℕ) (legal : Legal n table edge_count) where
  -- the edges that count
  abbrev es : List ℕ
  es = edges_of table edge_count

  -- a node's number, 0 where it has none
  abbrev number : ℕ → ℕ
  number node = get_or (numbering n es) node 0

  -- numbers are 1 to n,
  number_within : (node : ℕ) → number node ≤ n
  number_within = laws.number_within n table edge_count legal

  -- and each is taken once
  number_once : (i j : ℕ) → 1 ≤ number i → number i ≡ number j → i ≡ j
  number_once = laws.number_once n table edge_count legal

  -- the reach that intervals are taken over is the paper's: the node, and all that edges lead to from it
  reach_agrees : (node x : ℕ) → node < n → (Reach es node x → 1 ≤ get_or (reach n es node) x 0) × (1 ≤ get_or (reach n es node) x 0 → Reach es node x)
  reach_agrees = laws.reach_agrees n table edge_count legal

  -- each reach holds a node with a number
  reach_numbered : (node : ℕ) → node < n → (x : ℕ) × Reach es node x × (1 ≤ number x)
  reach_numbered = laws.reach_numbered n table edge_count legal

  -- low is the least number of the nodes reached: at most each of them,
  low_most : (node : ℕ) → node < n → (x : ℕ) → Reach es node x → 1 ≤ number x → low_of n es node ≤ number x
  low_most = laws.low_most n table edge_count legal

  -- and one of them: what holds of all these numbers holds of it
  low_is : (node : ℕ) → node < n → (P : ℕ → Type 0) → ((x : ℕ) → Reach es node x → 1 ≤ number x → P (number x)) → P (low_of n es node)
  low_is = laws.low_is n table edge_count legal

  -- high is the greatest: at least each of them,
  high_least : (node : ℕ) → node < n → (x : ℕ) → Reach es node x → 1 ≤ number x → number x ≤ high_of n es node
  high_least = laws.high_least n table edge_count legal

  -- and one of them
  high_is : (node : ℕ) → node < n → (P : ℕ → Type 0) → ((x : ℕ) → Reach es node x → 1 ≤ number x → P (number x)) → P (high_of n es node)
  high_is = laws.high_is n table edge_count legal

  -- an interval lies in 1 to n, low at most high
  interval_real : (node : ℕ) → node < n → (1 ≤ low_of n es node) × (low_of n es node ≤ high_of n es node) × (high_of n es node ≤ n)
  interval_real node h = let r = laws.interval_real n table edge_count legal node h in (r.from_one, r.ordered, r.to_most)

  -- a parent's interval contains each child's
  child_inside : (parent child : ℕ) → Edge es parent child → (low_of n es parent ≤ low_of n es child) × (high_of n es child ≤ high_of n es parent)
  child_inside parent child e = let i = laws.child_inside n table edge_count legal parent child e in (i.low_end, i.high_end)

  -- the root's contains each
  interval_inside_root : (node : ℕ) → node < n → (low_of n es 0 ≤ low_of n es node) × (high_of n es node ≤ high_of n es 0)
  interval_inside_root node h = let i = laws.interval_inside_root n table edge_count legal node h in (i.low_end, i.high_end)

  -- nodes with a common reach have intervals that share a number
  common_share : (a b x : ℕ) → a < n → b < n → Reach es a x → Reach es b x
      → (k : ℕ) × ((low_of n es a ≤ k) × (k ≤ high_of n es a)) × ((low_of n es b ≤ k) × (k ≤ high_of n es b))
  common_share a b x ha hb v w = let s = laws.common_share n table edge_count legal a b x ha hb v w in (s.number, s.in_first, s.in_second)

-- what building wrote, where it did: the 2n numbers of a legal hierarchy,
built : (n : ℕ) (edges : List ℕ) (edge_count : ℕ) (places scratch : List ℕ) → (build_step n edges edge_count places scratch).answer ≡ done tt
    → Legal n edges edge_count × (2 * edge_count ≤ length edges)
    × (take (2 * n) (build_step n edges edge_count places scratch).places ≡ interval_table n (edges_of edges edge_count))
built n edges edge_count places scratch e = let t = laws.taken n edges edge_count places scratch e in (t.legal, t.edges_long, t.wrote)

-- low and high in turn for each node
built_table : (n : ℕ) (es : List ℕ) → (length (interval_table n es) ≡ 2 * n)
    × ((node : ℕ) → node < n → (low_at (interval_table n es) node ≡ low_of n es node) × (high_at (interval_table n es) node ≡ high_of n es node))
built_table n es = (laws.built_length n es, λ node h. (laws.built_low n es node h, laws.built_high n es node h))

-- DEMAND 2: COVERS. c is the cover of a call's interval: one of the n nodes whose interval contains it, the narrowest of these, and of equally narrow ones the
-- lowest
abbrev Cover : ℕ → List ℕ → Interval → ℕ → Type 0
Cover n table call c =
    (c < n) × (contains (interval_at table c) call ≡ true)
    × ((r : ℕ) → r < n → contains (interval_at table r) call ≡ true → width (interval_at table c) ≤ width (interval_at table r))
    × ((r : ℕ) → r < n → contains (interval_at table r) call ≡ true → width (interval_at table r) ≡ width (interval_at table c) → c ≤ r)

-- over every legal hierarchy each call of nodes has its cover,
built_cover : (n : ℕ) (table : List ℕ) (edge_count : ℕ) → Legal n table edge_count → (name : ℕ) (names : List ℕ) → ((r : ℕ) → In r (name ∷ names) → r < n)
    → let t = interval_table n (edges_of table edge_count) in Cover n t (call_interval t (name ∷ names)) (cover_of n t (name ∷ names))
built_cover n table edge_count legal name names below =
    let c = cover-laws.built_cover n table edge_count legal name names below in (c.below, c.around, c.narrowest, c.lowest)

-- over any table whatever, where the interval of some node contains the call's, the definition gives the cover,
cover_some : (n : ℕ) (table : List ℕ) (call : Interval) (r : ℕ) → r < n → contains (interval_at table r) call ≡ true → Cover n table call (closest n table call)
cover_some n table call r h e = let c = closest-laws.closest_cover table call n r h e in (c.below, c.around, c.narrowest, c.lowest)

-- where none does it gives 0,
cover_none : (n : ℕ) (table : List ℕ) (call : Interval) → ((r : ℕ) → r < n → contains (interval_at table r) call ≡ false) → closest n table call ≡ 0
cover_none = cover-laws.closest_none

-- and no other node is the cover
cover_only : (n : ℕ) (table : List ℕ) (call : Interval) (c : ℕ) → Cover n table call c → c ≡ closest n table call
cover_only n table call c k = cover-laws.closest_only n table call c (record { below = k.0; around = k.1; narrowest = k.2; lowest = k.3 })

-- a call that names one node, however often, has a cover with that node's interval (02, point 1)
one_name : (n : ℕ) (table : List ℕ) (x name : ℕ) (names : List ℕ) → x < n → low_at table x ≤ high_at table x → ((r : ℕ) → In r (name ∷ names) → r ≡ x)
    → interval_at table (cover_of n table (name ∷ names)) ≡ interval_at table x
one_name = cover-laws.one_name_again

-- a name given twice counts once
name_once : (table : List ℕ) (r : ℕ) (names : List ℕ) → In r names → call_interval table (r ∷ names) ≡ call_interval table names
name_once = laws.name_once

-- the cover that enter answers with is the cover, over any tables and desk,
granted_cover : (H : Hierarchy) (d : Desk) (party : ℕ) (mode : Mode) (names : List ℕ) (name_count c : ℕ)
    → (enter_step H d party mode names name_count).answer ≡ done (granted c) → Cover H.n H.intervals (call_interval H.intervals (take name_count names)) c
granted_cover H d party mode names name_count c e =
    let k = entered.granted_cover H d party mode names name_count c e in (k.below, k.around, k.narrowest, k.lowest)

-- and so is the one in the lock of every enter that is not refused, granted or made to wait,
enter_cover : (H : Hierarchy) (d : Desk) (party : ℕ) (mode : Mode) (names : List ℕ) (name_count : ℕ) → enter_refusal H d party names name_count ≡ none
    → Cover H.n H.intervals (call_interval H.intervals (take name_count names)) (cover_in H (take name_count names))
enter_cover H d party mode names name_count fine =
    let k = entered.enter_cover H d party mode names name_count fine in (k.below, k.around, k.narrowest, k.lowest)

-- which has the node's own interval where the call names one node, however often;
enter_one : (H : Hierarchy) (d : Desk) (party : ℕ) (mode : Mode) (names : List ℕ) (name_count : ℕ) → enter_refusal H d party names name_count ≡ none
    → (x : ℕ) → ((r : ℕ) → In r (take name_count names) → r ≡ x)
    → let lock = lock_for H mode (take name_count names) in (lock.low ≡ low_in H x) × (lock.high ≡ high_in H x)
enter_one = entered.enter_one

-- its party then holds or waits for that lock
enter_stage : (H : Hierarchy) (d : Desk) (party : ℕ) (mode : Mode) (names : List ℕ) (name_count : ℕ) → enter_refusal H d party names name_count ≡ none → length d.entries ≡ 32
    → let lock = lock_for H mode (take name_count names) in
    let stage = stage_at (enter_step H d party mode names name_count).desk party in (stage ≡ Holding lock) ⊎ (stage ≡ Waiting lock)
enter_stage = entered.enter_stage

-- DEMAND 2: BLOCK FILES. Where writing accepts n records and answers k blocks, these blocks, read into any room, give the count n and the same record bytes;
-- a room shorter than the 496 k bytes that reading needs is refused with 1, and left as it is
write_then_read : (records : List ℕ) (n : ℕ) (room room' : List ℕ) (k : ℕ) → (write_file records n room).answer ≡ done k
    → read_file (take (512 * k) (write_file records n room).room) room'
    ≡ cond (ltb (length room') (496 * k))
    (record { answer = refused 1; room = room' })
    (record { answer = done n; room = over (take (16 * n) records) room' })
write_then_read = file-forms.write_then_read

-- where reading accepts a file of bytes and answers n records, these, with anything behind them, written into any room, give the same file, all its bytes;
-- a room shorter than the file is refused with 1, and left as it is
read_then_write : (file room : List ℕ) (n : ℕ) (rest room' : List ℕ) → Below 256 file → (read_file file room).answer ≡ done n
    → write_file (take (16 * n) (read_file file room).room ++ rest) n room'
    ≡ cond (ltb (length room') (length file))
    (record { answer = refused 1; room = room' })
    (record { answer = done (whole_blocks file); room = over file room' })
read_then_write = file-forms.read_then_write

-- the same straight from the room that reading left
read_then_write_room : (file room : List ℕ) (n : ℕ) (room' : List ℕ) → Below 256 file → (read_file file room).answer ≡ done n
    → write_file (read_file file room).room n room'
    ≡ cond (ltb (length room') (length file))
    (record { answer = refused 1; room = room' })
    (record { answer = done (whole_blocks file); room = over file room' })
read_then_write_room = file-forms.read_then_write_room

-- DEMAND 2: THE LISTING. It fits the room that listing asks for,
listing_most : (file : List ℕ) → Below 256 file → length (listing_of (run_file file)) ≤ 635680
listing_most = fits.listing_most

-- and the lines of an opened file's records, 100 at a time into 16,000 bytes (the parts that main.rt takes), are one behind the other the listing, to the byte
program_listing : (file records edges places text : List ℕ) (n count total : ℕ) → 63488 ≤ length records → 7936 ≤ length edges → 512 ≤ length places → 16000 ≤ length text
    → let o = open_file file records edges places in o.answer ≡ done (record { n = n; edges = count; records = total }) → Below 256 o.records
    → in_pieces (written_of (lent n (take (2 * n) o.places) (take (2 * count) o.edges) count) (record { desk = fresh_desk; number = 1; at = 0 }) (values_in n (record_list (take (16 * total) o.records))) text)
    (parts_in (take (16 * total) o.records))
    ≡ listing_of (run_file file)
program_listing file records edges places text n count total l₁ l₂ l₃ long e bytes =
    let o = open_file file records edges places in
    let opened : Opened = record { n = n; edge_count = count; total = total } in
    parts.program_listing file n count total o.records o.edges o.places text
    (opens.opened_ready file records edges places (Ok opened) l₁ l₂ l₃ (record { answer = sym e; records_after = refl; edges_after = refl; places_after = refl }) opened refl)
    bytes long

-- DEMAND 3. What it claims of events, from these values at the start to those after: the values after are those after performing the book's row; the value
-- answered by each get is what that same get finds; no get, put or add that was not refused is missing from the row; and the row is in the order of granting
abbrev Claims : List ℕ → List (Event ℕ) → List ℕ → Type 0
Claims values events after =
    let row = history (map bare_event events) in
    (after ≡ serial_leaves values row) × (history events ≡ serial_finds values row) × (ops_in row ≡ counted_from 0 events) × (map (λ v. v.party) row ≡ granted_in events)

-- one from the other
claims : {values : List ℕ} {events : List (Event ℕ)} {after : List ℕ} → SerialSteps values events after → Claims values events after
claims s = (s.leaves, s.answers, s.whole, s.order)

-- a built hierarchy: n, edges and edge count that building took unrefused, lent these places and this scratch, with the intervals it wrote
abbrev BuiltIn : Hierarchy → List ℕ → List ℕ → Type 0
BuiltIn H places scratch =
    let b = build_step H.n H.edges H.edge_count places scratch in (b.answer ≡ done tt) × (H.intervals ≡ take (2 * H.n) b.places)

-- one from the other
abbrev built_in : (H : Hierarchy) (places scratch : List ℕ) → BuiltIn H places scratch → Built H
built_in H places scratch b = record { places = places; scratch = scratch; took = b.0; wrote = b.1 }

-- any list of steps, refused ones included, over a built hierarchy, from a fresh desk and n values of zero,
demand_3 : (H : Hierarchy) (places scratch : List ℕ) → BuiltIn H places scratch → (steps : List Step)
    → let zeros : List ℕ = replicate H.n 0 in let ran = run steps (start H zeros) in Claims zeros ran.events ran.state.values
demand_3 H places scratch b steps = claims (serial.demand_3 H (built_in H places scratch b) steps)

-- and from any n values
serializable : (H : Hierarchy) (places scratch : List ℕ) → BuiltIn H places scratch → (values : List ℕ) → length values ≡ H.n → (steps : List Step)
    → let ran = run steps (start H values) in Claims values ran.events ran.state.values
serializable H places scratch b values sized steps = claims (serial.serializable H (built_in H places scratch b) values sized steps)

-- its first form: with the hierarchy beside the state, in no step's reach
serializable_over : (H : Hierarchy) (places scratch : List ℕ) → BuiltIn H places scratch → (values : List ℕ) → length values ≡ H.n → (steps : List Step)
    → let ran = run_over H steps (start_over values) in Claims values ran.events ran.state.values
serializable_over H places scratch b values sized steps = claims (serial.serializable_over H (built_in H places scratch b) values sized steps)

-- and so from n values of zero
demand_3_over : (H : Hierarchy) (places scratch : List ℕ) → BuiltIn H places scratch → (steps : List Step)
    → let zeros : List ℕ = replicate H.n 0 in let ran = run_over H steps (start_over zeros) in Claims zeros ran.events ran.state.values
demand_3_over H places scratch b steps = claims (serial.demand_3_over H (built_in H places scratch b) steps)

-- no step changes the hierarchy
run_hierarchy : (steps : List Step) (s : State) → (run steps s).state.hierarchy ≡ s.hierarchy
run_hierarchy = ran-laws.run_hierarchy

-- its second form, of a host's own calls. A buffer is lent of a table: the table with anything behind it, or too short, whatever it holds
abbrev Lent : List ℕ → List ℕ → Type 0
Lent table buffer = (length buffer < length table) ⊎ (take (length table) buffer ≡ table)

-- the result of a call meets the contract of its method, on a hierarchy as lent, a desk, and values of which get, put and add are lent
abbrev Contract : Hierarchy → Desk → List ℕ → Result → Type 0
Contract K d values (enter party mode names name_count r) = Enters r (enter_step K d party mode names name_count)
Contract K d values (get party node buffer scratch r used) = Lent values buffer × Gets r used (get_step K d party node buffer scratch)
Contract K d values (put party node value buffer scratch r after used) = Lent values buffer × Puts r after used (put_step K d party node value buffer scratch)
Contract K d values (add party node number buffer scratch r after used) = Lent values buffer × Adds r after used (add_step K d party node number buffer scratch)
Contract K d values (leave party list r after) = Leaves r after (leave_step K d party list)

-- each does, on the desk that the one before handed back and the values as last left, over one hierarchy
Contracts : Hierarchy → Desk → List ℕ → List Made → Type 0
Contracts H d values [] = Unit
Contracts H d values (m ∷ ms) =
    Lent H.intervals m.intervals × Lent (edges_of H.edges H.edge_count) m.edges
    × Contract (lent H.n m.intervals m.edges H.edge_count) d values m.result
    × Contracts H (desk_from m.result) (values_from values m.result) ms

-- one from the other
met : (K : Hierarchy) (d : Desk) (values : List ℕ) (r : Result) → Contract K d values r → Meets K d values r
met K d values (enter party mode names name_count r) c = c
met K d values (get party node buffer scratch r used) c = c
met K d values (put party node value buffer scratch r after used) c = c
met K d values (add party node number buffer scratch r after used) c = c
met K d values (leave party list r after) c = c

all_met : (H : Hierarchy) (d : Desk) (values : List ℕ) (made : List Made) → Contracts H d values made → AllMeet H d values made
unfolding AllMeet Contracts
all_met H d values [] c = tt
all_met H d values (m ∷ ms) c =
    (c.0, c.1, met (lent H.n m.intervals m.edges H.edge_count) d values m.result c.2, all_met H (desk_from m.result) (values_from values m.result) ms c.3)

-- and back
met_back : (K : Hierarchy) (d : Desk) (values : List ℕ) (r : Result) → Meets K d values r → Contract K d values r
met_back K d values (enter party mode names name_count r) c = c
met_back K d values (get party node buffer scratch r used) c = c
met_back K d values (put party node value buffer scratch r after used) c = c
met_back K d values (add party node number buffer scratch r after used) c = c
met_back K d values (leave party list r after) c = c

all_back : (H : Hierarchy) (d : Desk) (values : List ℕ) (made : List Made) → AllMeet H d values made → Contracts H d values made
unfolding AllMeet Contracts
all_back H d values [] c = tt
all_back H d values (m ∷ ms) c = (
  c.0,
  c.1,
  met_back (lent H.n m.intervals m.edges H.edge_count) d values m.result c.2,
  all_back H (desk_from m.result) (values_from values m.result) ms c.3,
)

-- whatever calls were made, from a fresh desk and any n values, where each result meets its contract: the claims hold of these very results,
results_serial : (H : Hierarchy) (places scratch : List ℕ) → BuiltIn H places scratch → (values : List ℕ) → length values ≡ H.n → (made : List Made)
    → Contracts H fresh_desk values made → Claims values (told_by_all made) (last_values values made)
results_serial H places scratch b values sized made c =
    claims (results.results_serial H (built_in H places scratch b) values sized made (all_met H fresh_desk values made c))

-- and from n values of zero
results_demand_3 : (H : Hierarchy) (places scratch : List ℕ) → BuiltIn H places scratch → (made : List Made)
    → let zeros : List ℕ = replicate H.n 0 in Contracts H fresh_desk zeros made → Claims zeros (told_by_all made) (last_values zeros made)
results_demand_3 H places scratch b made c =
    let zeros : List ℕ = replicate H.n 0 in claims (results.results_demand_3 H (built_in H places scratch b) made (all_met H fresh_desk zeros made c))

-- a get, put or add that is lent too little, of the values or of scratch, is refused with 1, and leaves what it was lent as it was, so that the values stay too (`left_in`, history/specs/Results)
lent_few : (K : Hierarchy) (buffer scratch : List ℕ) → (length buffer < K.n) ⊎ (length scratch < 256) → values_short K buffer scratch ≡ true
lent_few K buffer scratch (inl h) = rw (lt-ltb (length buffer) K.n h) refl
lent_few K buffer scratch (inr h) = results.or_second (ltb (length buffer) K.n) (ltb (length scratch) 256) (lt-ltb (length scratch) 256 h)

short_get : (K : Hierarchy) (d : Desk) (party node : ℕ) (buffer scratch : List ℕ) → (length buffer < K.n) ⊎ (length scratch < 256)
    → get_step K d party node buffer scratch ≡ record { desk = d; scratch = scratch; answer = refused 1 }
short_get K d party node buffer scratch h =
    results.short_get K d party node buffer scratch (results.or_second (tables_short K) (values_short K buffer scratch) (lent_few K buffer scratch h))

short_put : (K : Hierarchy) (d : Desk) (party node value : ℕ) (buffer scratch : List ℕ) → (length buffer < K.n) ⊎ (length scratch < 256)
    → put_step K d party node value buffer scratch ≡ record { desk = d; values = buffer; scratch = scratch; answer = refused 1 }
short_put K d party node value buffer scratch h =
    results.short_put K d party node value buffer scratch (results.or_second (tables_short K) (values_short K buffer scratch) (lent_few K buffer scratch h))

short_add : (K : Hierarchy) (d : Desk) (party node number : ℕ) (buffer scratch : List ℕ) → (length buffer < K.n) ⊎ (length scratch < 256)
    → add_step K d party node number buffer scratch ≡ record { desk = d; values = buffer; scratch = scratch; answer = refused 1 }
short_add K d party node number buffer scratch h =
    results.short_add K d party node number buffer scratch (results.or_second (tables_short K) (values_short K buffer scratch) (lent_few K buffer scratch h))

-- there are such lists: each run is what some list of calls gives whose results meet the contracts
run_made : (H : Hierarchy) (values : List ℕ) → length values ≡ H.n → (steps : List Step) → let ran = run steps (start H values) in
    (made : List Made) × Contracts H fresh_desk values made
    × (told_by_all made ≡ ran.events) × (last_desk fresh_desk made ≡ ran.state.desk) × (last_values values made ≡ ran.state.values)
run_made H values sized steps =
    let m = results.run_made H values sized steps in
    (m.0, all_back H fresh_desk values m.0 m.1, sym (ap (λ (x : Ran). x.events) m.2), sym (ap (λ (x : Ran). x.state.desk) m.2), sym (ap (λ (x : Ran). x.state.values) m.2))

-- and of a file: where it is not refused, of its step records and the answers in its listing, from its n values: those of its value records, zero where none is given
file_serial : (file : List ℕ) (ran : FileRun) → run_file file ≡ done ran
    → let records = record_list (file_records file) in Claims (values_in (size_of records) records) (events_of (step_records records) ran.answers) ran.values
file_serial file ran e = claims (files.file_serial file ran e)

-- none of its steps is lost there: the events told from step records and answers are those of the run of these records
events_are : (records : List (List ℕ)) (s : State) → (perform_all s records).events ≡ events_of records (answers_of (perform_all s records))
events_are = files.events_are

-- SOUNDNESS. A fresh desk is sound, whatever the hierarchy,
fresh_sound : (H : Hierarchy) → sound_desk H fresh_desk ≡ true
fresh_sound = unchanged.fresh_sound

-- and a sound desk of 32 entries and 32 places stays sound in each step, with any hierarchy and any arguments: enter,
enter_sound : (H : Hierarchy) (d : Desk) (party : ℕ) (mode : Mode) (names : List ℕ) (name_count : ℕ) → length d.entries ≡ 32 → length d.queue ≡ 32
    → sound_desk H d ≡ true → sound_desk H (enter_step H d party mode names name_count).desk ≡ true
enter_sound H d party mode names name_count e q = kept.enter_sound H d party mode names name_count (record { entries = e; queue = q })

-- get,
get_sound : (H : Hierarchy) (d : Desk) (party node : ℕ) (values scratch : List ℕ) → sound_desk H d ≡ true → sound_desk H (get_step H d party node values scratch).desk ≡ true
get_sound = kept.get_sound

-- put,
put_sound : (H : Hierarchy) (d : Desk) (party node value : ℕ) (values scratch : List ℕ) → sound_desk H d ≡ true
    → sound_desk H (put_step H d party node value values scratch).desk ≡ true
put_sound = kept.put_sound

-- add
add_sound : (H : Hierarchy) (d : Desk) (party node number : ℕ) (values scratch : List ℕ) → sound_desk H d ≡ true
    → sound_desk H (add_step H d party node number values scratch).desk ≡ true
add_sound = kept.add_sound

-- and leave
leave_sound : (H : Hierarchy) (d : Desk) (party : ℕ) (list : List ℕ) → length d.entries ≡ 32 → length d.queue ≡ 32
    → sound_desk H d ≡ true → sound_desk H (leave_step H d party list).desk ≡ true
leave_sound H d party list e q = kept.leave_sound H d party list (record { entries = e; queue = q })

-- so the desk that any list of steps leaves is sound,
run_sound : (H : Hierarchy) (places scratch : List ℕ) → BuiltIn H places scratch → (values : List ℕ) (steps : List Step)
    → sound_desk H (run steps (start H values)).state.desk ≡ true
run_sound H places scratch b = never.run_sound H (built_in H places scratch b)

-- and none of them is refused with 10
never_ten : (H : Hierarchy) (places scratch : List ℕ) → BuiltIn H places scratch → (values : List ℕ) (steps : List Step)
    → any (refused_with 10) (run steps (start H values)).events ≡ false
never_ten H places scratch b = never.never_ten H (built_in H places scratch b)

-- the same of a host's own calls
results_sound : (H : Hierarchy) (places scratch : List ℕ) → BuiltIn H places scratch → (values : List ℕ) → length values ≡ H.n → (made : List Made)
    → Contracts H fresh_desk values made → (sound_desk H (last_desk fresh_desk made) ≡ true) × (any (refused_with 10) (told_by_all made) ≡ false)
results_sound H places scratch b values sized made c =
    let all = all_met H fresh_desk values made c in
    (never.results_sound H (built_in H places scratch b) values sized made all, never.results_never_ten H (built_in H places scratch b) values sized made all)

-- 02, POINT 2. THE PLAIN ENGINE's intervals are the desk's: with enough scratch for each, it answers what building answers and leaves the same in the interval
-- places, on every input
plain_agrees : (n : ℕ) (edges : List ℕ) (edge_count : ℕ) (places scratch words : List ℕ) → 512 ≤ length scratch → 1024 ≤ length words
    → ((plain_step n edges edge_count places words).answer ≡ (build_step n edges edge_count places scratch).answer)
    × ((plain_step n edges edge_count places words).places ≡ (build_step n edges edge_count places scratch).places)
plain_agrees = plain.plain_agrees

-- of a legal hierarchy, the set of a node has just the nodes that it reaches
set_reach : (n : ℕ) (table : List ℕ) (edge_count : ℕ) → Legal n table edge_count → (x y : ℕ) → x < n
    → let es = edges_of table edge_count in (Reach es x y → has (set_at (set_table n es) x) y ≡ true) × (has (set_at (set_table n es) x) y ≡ true → Reach es x y)
set_reach = meets.set_reach

-- THE REPORT. Its first number counts the enters of the file's run that were answered `waits`,
waits_counted : (file : List ℕ) (r : FileRun) → run_file file ≡ done r → (waits_of file).all ≡ count is_waits r.answers
waits_counted = counts.waits_counted

-- a refused file or hierarchy has none,
refused_waits : (file : List ℕ) (k : ℕ) → run_file file ≡ refused k → waits_of file ≡ no_waits
refused_waits = reports.refused_waits

-- and its second number is at most the first
waits_most : (file : List ℕ) → (waits_of file).needless ≤ (waits_of file).all
waits_most = counts.waits_most

-- what it asks of reaches is the paper's: over a legal hierarchy the reach of named nodes meets that of others just where a way leads from one of the names
-- and a way from one of the others to one node
meet_reach : (n : ℕ) (table : List ℕ) (edge_count : ℕ) → Legal n table edge_count → (names others : List ℕ)
    → ((r : ℕ) → In r names → r < n) → ((r : ℕ) → In r others → r < n) → let es = edges_of table edge_count in
    (reaches_meet n es names others ≡ true → (a b z : ℕ) × In a names × In b others × Reach es a z × Reach es b z)
    × ((a b z : ℕ) × In a names × In b others × Reach es a z × Reach es b z → reaches_meet n es names others ≡ true)
meet_reach = meets.meet_reach

-- where each node but the root has exactly one parent, the intervals of two nodes share a number just where their reaches meet,
share_exactly : (n : ℕ) (table : List ℕ) (edge_count : ℕ) → Legal n table edge_count
    → ((node : ℕ) → node < n → (node ≡ 0 → ⊥) → parent_count (edges_of table edge_count) node ≡ 1) → (x y : ℕ) → x < n → y < n → let es = edges_of table edge_count in
    ((low_of n es x ≤ high_of n es y) × (low_of n es y ≤ high_of n es x) → (z : ℕ) × Reach es x z × Reach es y z)
    × ((z : ℕ) × Reach es x z × Reach es y z → (low_of n es x ≤ high_of n es y) × (low_of n es y ≤ high_of n es x))
share_exactly n table edge_count legal each x y hx hy =
    let es = edges_of table edge_count in
    let t = tree.share_exactly n table edge_count (legal, tree.each_one n es each) x y hx hy in
    let rx = (laws.interval_real n table edge_count legal x hx).ordered in
    let ry = (laws.interval_real n table edge_count legal y hy).ordered in (
      λ s. t.0 (record { number = max (low_of n es x) (low_of n es y); in_first = (omega arith, omega (arith, rx, s.1)); in_second = (omega arith, omega (arith, ry, s.0)) }),
      λ m. let s = t.1 m in (omega (arith, s.in_first, s.in_second), omega (arith, s.in_first, s.in_second)),
    )

-- and if each enter that is not refused names one node, however often (`OneEach`), no wait is needless, of any file
file_needless : (file : List ℕ) → let rs = record_list (file_records file) in
    ((node : ℕ) → node < size_of rs → (node ≡ 0 → ⊥) → parent_count (edges_of (edge_table rs) (edge_count_of rs)) node ≡ 1) → OneEach rs → (waits_of file).needless ≡ 0
file_needless file each = let rs = record_list (file_records file) in none_needless.file_needless file (tree.each_one (size_of rs) (edges_of (edge_table rs) (edge_count_of rs)) each)

-- 02, POINT 3. THE BOUNDS OF A CALL are the least low and the greatest high of its names: at most the low and at least the high of each, the low of one of
-- them and the high of one
abbrev Bounds : List ℕ → List ℕ → Interval → Type 0
Bounds table names b =
    ((r : ℕ) → In r names → (b.low ≤ low_at table r) × (high_at table r ≤ b.high))
    × ((r : ℕ) × In r names × (low_at table r ≡ b.low)) × ((r : ℕ) × In r names × (high_at table r ≡ b.high))

-- the first name starts them,
first_name : (table : List ℕ) (name : ℕ) → call_interval table (name ∷ []) ≡ interval_at table name
first_name = bounds-laws.first_name

-- one name more, behind at least one, leaves the less of the lows and the greater of the highs,
one_name_more : (table names : List ℕ) (name : ℕ) → 1 ≤ length names → let so_far = call_interval table names in
    call_interval table (names ++ (name ∷ [])) ≡ record { low = min so_far.low (low_at table name); high = max so_far.high (high_at table name) }
one_name_more = bounds-laws.one_name_more

-- so that the running values, started with the first name's interval, are after each name the bounds of the names so far: after k names behind the first, for
-- each k,
names_so_far : (table : List ℕ) (name : ℕ) (names : List ℕ) (k : ℕ) → Bounds table (name ∷ take k names) (running table (interval_at table name) (take k names))
names_so_far table name names k = let b = laws.names_so_far table name names k in (λ r i. (b.low_each r i, b.high_each r i), b.low_one, b.high_one)

-- which no other two numbers are
bounds_only : (table names : List ℕ) (b : Interval) → Bounds table names b → b ≡ call_interval table names
bounds_only table names b (each, low, high) =
    laws.bounds_only table names names b (λ r i. i) (λ r i. i) (record { low_each = λ r i. (each r i).0; low_one = low; high_each = λ r i. (each r i).1; high_one = high })

-- the search hangs on no name but by them: over one table and n, calls with the same bounds have the same cover
same_bounds : (n : ℕ) (table names others : List ℕ) → call_interval table names ≡ call_interval table others → cover_of n table names ≡ cover_of n table others
same_bounds = cover-laws.same_bounds

-- 02, POINT 4. GRANTS BY PARTY. After any list of steps, refused ones included, from any hierarchy, desk and values, the counts are those before it with one
-- more, up to 4,294,967,295, for each party granted, in the order of granting,
counts_after : (steps : List Step) (s : State) → let ran = run steps s in ran.state.desk.grants ≡ count_grants s.desk.grants (granted_in ran.events)
counts_after = counted.run_counts

-- so that from a fresh desk each of the 32 parties has as many as it was granted visits, up to 4,294,967,295
party_counts : (H : Hierarchy) (values : List ℕ) (steps : List Step) (party : ℕ) → party < 32 → let ran = run steps (start H values) in
    get_or ran.state.desk.grants party 0 ≡ min (count (λ other. eqb other party) (granted_in ran.events)) 4294967295
party_counts H values steps party h =
    let ran = run steps (start H values) in
    let none : get_or no_grants party 0 ≡ 0 = zero_at 32 party in
    let at = counted.grants_at (granted_in ran.events) no_grants party h (omega (arith, none)) in
    omega (arith, ap (λ (g : List ℕ). get_or g party 0) (counts_after steps (start H values)), at, none)

-- 32 counts of 32 bits sum up to a number of 64 bits, and to 137,438,953,440 at most
counts_sum : (grants : List ℕ) → length grants ≡ 32 → Below 4294967296 grants → sum grants ≤ 137438953440
counts_sum grants long b = omega (arith, long, sum-laws.sum_most grants b)

-- a sound desk asks nothing of them
counts_unasked : (H : Hierarchy) (d : Desk) (grants : List ℕ)
    → sound_desk H (record { entries = d.entries; queue = d.queue; waiting = d.waiting; grants = grants }) ≡ sound_desk H d
counts_unasked H d grants = refl

-- in the listing of a file that is not refused, behind the lines of the steps, the third number of `end` is their sum, and the lines of the parties stand behind it
listing_end : (ran : FileRun) → listing_of (done ran) ≡ step_lines 1 ran.answers ++ (end_line ran.holders ran.waiters (sum ran.grants) ++ party_lines 0 ran.grants)
listing_end ran = refl

-- and these are the lines of the parties with grants, lowest party first: `with_grants`, by which the cases below say who has grants, has each such party in turn and
-- behind it its count
unfoldable lines_of : List ℕ → List ℕ
lines_of [] = []
lines_of (party ∷ []) = []
lines_of (party ∷ count ∷ more) = party_line party count ++ lines_of more

party_lines_law : (party : ℕ) (grants : List ℕ) → party_lines party grants ≡ lines_of (with_grants party grants)
unfolding party_lines with_grants lines_of
party_lines_law party [] = refl
party_lines_law party (zero ∷ grants) = party_lines_law (suc party) grants
party_lines_law party (suc count ∷ grants) =
    ap (λ (b : Bool). cond b [] (party_line party (suc count)) ++ party_lines (suc party) grants) (ne_eqb (suc count) 0 (λ e. omega arith))
    ∙ ap (λ (more : List ℕ). party_line party (suc count) ++ more) (party_lines_law (suc party) grants)

-- 02, POINT 5. VISITS THAT ONLY ADD. Two visits whose intervals share a number conflict but where both are reading or both are adding,
together : (a b : Lock) → a.low ≤ b.high → b.low ≤ a.high → conflict a b ≡ false
    → ((a.mode ≡ Reading) × (b.mode ≡ Reading)) ⊎ ((a.mode ≡ Adding) × (b.mode ≡ Adding))
together a b h k c =
    let met : compatible a.mode b.mode ≡ true = not-false _ (rw (le-leb a.low b.high h, le-leb b.low a.high k) at c) in
    modes.together a.mode b.mode met

-- and visits that do never conflict
together_free : (a b : Lock) → ((a.mode ≡ Reading) × (b.mode ≡ Reading)) ⊎ ((a.mode ≡ Adding) × (b.mode ≡ Adding)) → conflict a b ≡ false
together_free a b (inl (p, q)) = rw (p, q) (and-false (share a b))
together_free a b (inr (p, q)) = rw (p, q) (and-false (share a b))

-- the party holds, in a mode that P holds of
abbrev HoldsIn : Desk → ℕ → (Mode → Type 0) → Type 0
HoldsIn d party P = (l : Lock) × (stage_at d party ≡ Holding l) × P l.mode

-- a get that is not refused is in a visit that isn't adding,
get_possible : (H : Hierarchy) (d : Desk) (party node : ℕ) (values scratch : List ℕ) (v : ℕ) → (get_step H d party node values scratch).answer ≡ done v
    → HoldsIn d party (λ m. m ≡ Adding → ⊥)
get_possible = modes.get_possible

-- a put in a writing one,
put_possible : (H : Hierarchy) (d : Desk) (party node : ℕ) (values scratch : List ℕ) (value : ℕ) → (put_step H d party node value values scratch).answer ≡ done tt
    → HoldsIn d party (λ m. m ≡ Writing)
put_possible = modes.put_possible

-- an add in an adding one,
add_possible : (H : Hierarchy) (d : Desk) (party node : ℕ) (values scratch : List ℕ) (number : ℕ) → (add_step H d party node number values scratch).answer ≡ done tt
    → HoldsIn d party (λ m. m ≡ Adding)
add_possible = modes.add_possible

-- and it leaves at its node the value and the number added, modulo 2 to the 64, and every other value
add_sum : (H : Hierarchy) (d : Desk) (party node : ℕ) (values scratch : List ℕ) (number : ℕ) → (add_step H d party node number values scratch).answer ≡ done tt
    → (add_step H d party node number values scratch).values ≡ set values node ((get_or values node 0 + number) % 2 ^ 64)
add_sum = modes.add_sum

-- two adds, neither refused, of any parties at any nodes, one behind the other: in either order both are done, and leave the same desk and values; the second is
-- lent any scratch that is long enough
adds_either : (H : Hierarchy) (d : Desk) (p q r s x y : ℕ) (values c c' : List ℕ)
    → let one = add_step H d p r x values c in let other = add_step H d q s y values c' in one.answer ≡ done tt → other.answer ≡ done tt
    → (e e' : List ℕ) → 256 ≤ length e → 256 ≤ length e'
    → let behind-one = add_step H one.desk q s y one.values e in let behind-other = add_step H other.desk p r x other.values e' in
    (behind-one.answer ≡ done tt) × (behind-other.answer ≡ done tt) × (behind-one.desk ≡ behind-other.desk) × (behind-one.values ≡ behind-other.values)
adds_either = modes.adds_either

-- demand 3 above has adds in its lists: the book notes them, and performing them adds (`noted`, `leaves`, history/specs/History)

-- 02, POINT 6. ONLY WHAT WAS CALLED FOR. After any list of steps, over any hierarchy, a party that is not out keeps the names of its last enter that was not refused, ascending
-- and each once, whether it holds or waits,
names_kept_law : (H : Hierarchy) (values : List ℕ) (steps : List Step) (party : ℕ) (l : Lock)
    → let stage = stage_at (run steps (start H values)).state.desk party in (stage ≡ Holding l) ⊎ (stage ≡ Waiting l)
    → l.names ≡ named (ascending (given_in party steps (start H values) []))
names_kept_law H values steps party l (inl e) = subst (Keeps (given_in party steps (start H values) [])) e (goal.names_kept_law H values steps party)
names_kept_law H values steps party l (inr e) = subst (Keeps (given_in party steps (start H values) [])) e (goal.names_kept_law H values steps party)

-- which are those given, ascending and so each once:
ascending_rises : (names : List ℕ) → rises (ascending names) ≡ true
ascending_rises = given-names.ascending_rises

ascending_any : (p : ℕ → Bool) (names : List ℕ) → any p (ascending names) ≡ any p names
ascending_any = given-names.ascending_any

-- eight at most are kept whole
named_names : (names : List ℕ) → length names ≤ 8 → names_of (named names) ≡ names
named_names = given-names.named_names

-- and the lock of every enter that is not refused, over any tables and desk, has 1 to 8 names, each below n, ascending, with intervals inside the cover's: what two clauses of a
-- sound desk ask (`names_kept`, `names_covered`, parties/specs/Sound)
enter_names : (H : Hierarchy) (d : Desk) (party : ℕ) (mode : Mode) (names : List ℕ) (name_count : ℕ) → enter_refusal H d party names name_count ≡ none
    → let lock = lock_for H mode (take name_count names) in
    (names_right H.n lock.names ≡ true) × ((name : ℕ) → In name (names_of lock.names) → (lock.low ≤ low_in H name) × (high_in H name ≤ lock.high))
enter_names H d party mode names name_count fine =
    let lock = lock_for H mode (take name_count names) in
    let fit = kept.call_fit H d party mode names name_count fine in (
      fit.names,
      λ name i. cover-laws.contains_ends (record { low = lock.low; high = lock.high }) (interval_at H.intervals name) (every_in (λ x. inside_lock H x lock) fit.covered i),
    )

-- names play no part in a conflict
names_unasked : (a b : Lock) (m k : Names)
    → conflict (record { mode = a.mode; cover = a.cover; low = a.low; high = a.high; names = m }) (record { mode = b.mode; cover = b.cover; low = b.low; high = b.high; names = k })
    ≡ conflict a b
names_unasked a b m k = refl

-- the party holds, and P is so of the names of its hold
abbrev HoldsNames : Desk → ℕ → (List ℕ → Type 0) → Type 0
HoldsNames d party P = (l : Lock) × (stage_at d party ≡ Holding l) × P (names_of l.names)

-- a name of these reaches the node, by the lent edges
abbrev Reached : Hierarchy → ℕ → List ℕ → Type 0
Reached H node names = (name : ℕ) × In name names × Reach (edges_of H.edges H.edge_count) name node

-- A GET that is not refused is of a node in the reach of a name; refused with 16, of a node in the reach of none. On any desk, over any tables
get_sees : (H : Hierarchy) (d : Desk) (party node : ℕ) (values scratch : List ℕ)
    → ((value : ℕ) → (get_step H d party node values scratch).answer ≡ done value → HoldsNames d party (Reached H node))
    × ((get_step H d party node values scratch).answer ≡ refused 16 → HoldsNames d party (λ names. Reached H node names → ⊥))
get_sees H d party node values scratch = (
  λ value e. let v = seen.get_sees H d party node values scratch value e in (v.hold, v.holds, (v.name, v.kept, v.reaches)),
  λ e. let v = (seen.get_sixteen H d party node values scratch e).not_seen in (v.hold, v.holds, λ (name, i, w). v.nowhere name i w),
)

-- a put, likewise,
put_sees : (H : Hierarchy) (d : Desk) (party node value : ℕ) (values scratch : List ℕ)
    → ((put_step H d party node value values scratch).answer ≡ done tt → HoldsNames d party (Reached H node))
    × ((put_step H d party node value values scratch).answer ≡ refused 16 → HoldsNames d party (λ names. Reached H node names → ⊥))
put_sees H d party node value values scratch = (
  λ e. let v = seen.put_sees H d party node values scratch value e in (v.hold, v.holds, (v.name, v.kept, v.reaches)),
  λ e. let v = (seen.put_sixteen H d party node values scratch value e).not_seen in (v.hold, v.holds, λ (name, i, w). v.nowhere name i w),
)

-- and an add
add_sees : (H : Hierarchy) (d : Desk) (party node number : ℕ) (values scratch : List ℕ)
    → ((add_step H d party node number values scratch).answer ≡ done tt → HoldsNames d party (Reached H node))
    × ((add_step H d party node number values scratch).answer ≡ refused 16 → HoldsNames d party (λ names. Reached H node names → ⊥))
add_sees H d party node number values scratch = (
  λ e. let v = seen.add_sees H d party node values scratch number e in (v.hold, v.holds, (v.name, v.kept, v.reaches)),
  λ e. let v = (seen.add_sixteen H d party node values scratch number e).not_seen in (v.hold, v.holds, λ (name, i, w). v.nowhere name i w),
)

-- and where nothing that every step looks at refuses it, the node is one and the party holds, with no name that reaches the node: each of the three is refused with 16
sixteen_given : (H : Hierarchy) (d : Desk) (party node : ℕ) (values scratch : List ℕ)
    → refusal (step_checks H d party (values_short H values scratch) []) ≡ none → node < H.n → HoldsNames d party (λ names. Reached H node names → ⊥)
    → ((get_step H d party node values scratch).answer ≡ refused 16)
    × ((value : ℕ) → (put_step H d party node value values scratch).answer ≡ refused 16)
    × ((number : ℕ) → (add_step H d party node number values scratch).answer ≡ refused 16)
sixteen_given H d party node values scratch fine below (l, holds, nowhere) =
    seen.sixteen_given H d party node values scratch fine below (record { hold = l; holds = holds; nowhere = λ name i w. nowhere (name, i, w) })

-- so a get, put or add that is not refused, taken after any list of steps and with any tables, is of a node that a name given in the party's last enter that was not refused reaches,
visit_sees : (H : Hierarchy) (values : List ℕ) (steps : List Step) (K : Hierarchy) (party node : ℕ) (buffer scratch : List ℕ)
    → let d = (run steps (start H values)).state.desk in let names = given_in party steps (start H values) [] in
    ((value : ℕ) → (get_step K d party node buffer scratch).answer ≡ done value → Reached K node names)
    × ((value : ℕ) → (put_step K d party node value buffer scratch).answer ≡ done tt → Reached K node names)
    × ((number : ℕ) → (add_step K d party node number buffer scratch).answer ≡ done tt → Reached K node names)
visit_sees H values steps K party node buffer scratch = (
  goal.visit_gets H values steps K party node buffer scratch,
  goal.visit_puts H values steps K party node buffer scratch,
  goal.visit_adds H values steps K party node buffer scratch,
)

-- and one refused with 16 of a node that none of these names reaches
visit_sixteen : (H : Hierarchy) (values : List ℕ) (steps : List Step) (K : Hierarchy) (party node : ℕ) (buffer scratch : List ℕ)
    → let d = (run steps (start H values)).state.desk in let names = given_in party steps (start H values) [] in
    ((get_step K d party node buffer scratch).answer ≡ refused 16 → Reached K node names → ⊥)
    × ((value : ℕ) → (put_step K d party node value buffer scratch).answer ≡ refused 16 → Reached K node names → ⊥)
    × ((number : ℕ) → (add_step K d party node number buffer scratch).answer ≡ refused 16 → Reached K node names → ⊥)
visit_sixteen H values steps K party node buffer scratch = (
  goal.visit_get_sixteen H values steps K party node buffer scratch,
  goal.visit_put_sixteen H values steps K party node buffer scratch,
  goal.visit_add_sixteen H values steps K party node buffer scratch,
)

-- THE SCRATCH of the search: after refusal 1 it is unchanged, after any other end its first 256 bytes are zero and the rest unchanged. Of get,
get_scratch : (H : Hierarchy) (d : Desk) (party node : ℕ) (values scratch : List ℕ) → let r = get_step H d party node values scratch in
    (r.answer ≡ refused 1 → r.scratch ≡ scratch) × ((r.answer ≡ refused 1 → ⊥) → r.scratch ≡ over (replicate 256 0) scratch)
get_scratch H d party node values scratch = (used.get_scratch_one H d party node values scratch, used.get_scratch_other H d party node values scratch)

-- of put
put_scratch : (H : Hierarchy) (d : Desk) (party node value : ℕ) (values scratch : List ℕ) → let r = put_step H d party node value values scratch in
    (r.answer ≡ refused 1 → r.scratch ≡ scratch) × ((r.answer ≡ refused 1 → ⊥) → r.scratch ≡ over (replicate 256 0) scratch)
put_scratch H d party node value values scratch = (used.put_scratch_one H d party node values scratch value, used.put_scratch_other H d party node values scratch value)

-- and of add
add_scratch : (H : Hierarchy) (d : Desk) (party node number : ℕ) (values scratch : List ℕ) → let r = add_step H d party node number values scratch in
    (r.answer ≡ refused 1 → r.scratch ≡ scratch) × ((r.answer ≡ refused 1 → ⊥) → r.scratch ≡ over (replicate 256 0) scratch)
add_scratch H d party node number values scratch = (used.add_scratch_one H d party node values scratch number, used.add_scratch_other H d party node values scratch number)

-- demand 3 above lends each step of a list scratch of any length and contents (`Call`, runs/specs/Run)

-- 02, POINT 7. BUILDING IN A QUARTER OF THE SCRATCH. Fewer than 512 bytes get 1, with all that is lent as it was,
build_few : (n : ℕ) (edges : List ℕ) (edge_count : ℕ) (places scratch : List ℕ) → length scratch < 512
    → let b = build_step n edges edge_count places scratch in (b.answer ≡ refused 1) × (b.places ≡ places) × (b.scratch ≡ scratch)
build_few = building.build_few

-- 512 are enough: a legal hierarchy, with its edges and 2n places lent in full, is built, with the intervals of the definition,
build_enough : (n : ℕ) (edges : List ℕ) (edge_count : ℕ) (places scratch : List ℕ) → 512 ≤ length scratch → 2 * n ≤ length places → 2 * edge_count ≤ length edges
    → Legal n edges edge_count
    → let b = build_step n edges edge_count places scratch in (b.answer ≡ done tt) × (take (2 * n) b.places ≡ interval_table n (edges_of edges edge_count))
build_enough = building.build_enough

-- and whatever is lent besides, answer and interval places are the same with any scratch of 512 bytes or more, 2,048 among them
scratch_unasked : (n : ℕ) (edges : List ℕ) (edge_count : ℕ) (places scratch scratch' : List ℕ) → 512 ≤ length scratch → 512 ≤ length scratch'
    → ((build_step n edges edge_count places scratch).answer ≡ (build_step n edges edge_count places scratch').answer)
    × ((build_step n edges edge_count places scratch).places ≡ (build_step n edges edge_count places scratch').places)
scratch_unasked = building.scratch_unasked

-- 01's rule for scratch: after refusal 1 it is unchanged, after any other end, refused or not, its first 512 bytes are zero and the rest unchanged
build_scratch : (n : ℕ) (edges : List ℕ) (edge_count : ℕ) (places scratch : List ℕ) → let b = build_step n edges edge_count places scratch in
    (b.answer ≡ refused 1 → b.scratch ≡ scratch) × ((b.answer ≡ refused 1 → ⊥) → b.scratch ≡ over (replicate 512 0) scratch)
build_scratch n edges edge_count places scratch = (building.build_scratch_one n edges edge_count places scratch, building.build_scratch_other n edges edge_count places scratch)

-- 02, POINT 8. NOBODY IS PASSED OVER. A call of party p begins to wait: its enter is answered `waits`, at any desk of 32 entries and 32 places, over any tables
abbrev Begins : Hierarchy → Desk → ℕ → Mode → List ℕ → ℕ → Type 0
Begins K d p mode names name_count = (length d.entries ≡ 32) × (length d.queue ≡ 32) × ((enter_step K d p mode names name_count).answer ≡ done waiting)

-- one from the other
shaped : (d : Desk) → length d.entries ≡ 32 → length d.queue ≡ 32 → Shaped d
shaped d e q = record { entries = e; queue = q }

-- a call begins to wait only at a desk that is sound over the tables that it is lent (at any other it is refused, with 10 at the latest), and only where its party is out,
begins_sound : (K : Hierarchy) (d : Desk) (p : ℕ) (mode : Mode) (names : List ℕ) (name_count : ℕ) → Begins K d p mode names name_count
    → (sound_desk K d ≡ true) × (stage_at d p ≡ Out)
begins_sound K d p mode names name_count (e, q, a) =
    (waited.waits_sound K d (shaped d e q) p mode names name_count a, waited.waits_out K d (shaped d e q) p mode names name_count a)

-- and then comes any list of steps, each lent any tables and any buffers, each having the desk that the one before handed back (`run_any`), the first that of the enter. AS SOON AS, of each
-- party that was holding or waiting when the call began to wait, the visit that it had then has left (`visit_left`), the call holds, unless its own party left
nobody_passed_over : (K : Hierarchy) (d : Desk) (p : ℕ) (mode : Mode) (names : List ℕ) (name_count : ℕ) → Begins K d p mode names name_count
    → (s : State) → s.desk ≡ (enter_step K d p mode names name_count).desk → (steps : List AnyStep) → let ran = run_any steps s in
    ((q : ℕ) → q < 32 → (stage_at d q ≡ Out → ⊥) → visit_left ran.events q ≡ true) → visit_left ran.events p ≡ false
    → stage_at ran.state.desk p ≡ Holding (lock_for K mode (take name_count names))
nobody_passed_over K d p mode names name_count (e, q, a) s same steps all stays =
    waited.no_visit_passed_over K d (shaped d e q) p mode names name_count a s same steps
    (λ r i. let (h, there) = waited.in_ahead d r i in all r h (λ out. not_both (is_present d r) there (ap (λ (x : Stage). not (is_out x)) out))) stays

-- who is ahead, as a list: the parties that hold or wait there, each once,
ahead_are : (d : Desk) (q : ℕ) → (In q (ahead d) → (q < 32) × (is_out (stage_at d q) ≡ false)) × ((q < 32) × (is_out (stage_at d q) ≡ false) → In q (ahead d))
ahead_are d q = (λ i. let (h, e) = waited.in_ahead d q i in (h, not-true (is_out (stage_at d q)) e), λ (h, e). waited.ahead_in d q h (rw e refl))

ahead_once : (d : Desk) → Distinct (ahead d)
ahead_once = waited.ahead_once

-- are 1 to 31,
ahead_most : (K : Hierarchy) (d : Desk) (p : ℕ) (mode : Mode) (names : List ℕ) (name_count : ℕ) → Begins K d p mode names name_count → (1 ≤ length (ahead d)) × (length (ahead d) ≤ 31)
ahead_most K d p mode names name_count (e, q, a) =
    let s : State = record { hierarchy = K; desk = (enter_step K d p mode names name_count).desk; values = [] } in
    (waited.some_ahead K d (shaped d e q) p mode names name_count a s refl, waited.at_most_31 K d (shaped d e q) p mode names name_count a)

-- SO AT MOST 31 LEAVES, those of these visits, stand before the call: while it does not hold, and its party has not left, fewer than 31 of these visits have left, and fewer than they are, whatever else was
-- done among them
leaves_before : (K : Hierarchy) (d : Desk) (p : ℕ) (mode : Mode) (names : List ℕ) (name_count : ℕ) → Begins K d p mode names name_count
    → (s : State) → s.desk ≡ (enter_step K d p mode names name_count).desk → (steps : List AnyStep) → let ran = run_any steps s in
    visit_left ran.events p ≡ false → (stage_at ran.state.desk p ≡ Holding (lock_for K mode (take name_count names)) → ⊥)
    → (count (visit_left ran.events) (ahead d) < 31) × (count (visit_left ran.events) (ahead d) < length (ahead d))
leaves_before K d p mode names name_count (e, q, a) s same steps = waited.visits_before K d (shaped d e q) p mode names name_count a s same steps

-- in the middle of a list, too: any steps from any desk of 32 entries and 32 places, a call that is told to wait, any steps behind it
in_a_list : (s : State) → length s.desk.entries ≡ 32 → length s.desk.queue ≡ 32 → (before after : List AnyStep)
    → (K : Hierarchy) (p : ℕ) (mode : Mode) (names : List ℕ) (name_count : ℕ)
    → let call = enter_with K p mode names name_count in let was = (run_any before s).state in let told = move_any call was in
    told.event ≡ entered-with p (done waiting) → let ran = run_any after told.state in
    ((q : ℕ) → In q (ahead was.desk) → visit_left ran.events q ≡ true) → visit_left ran.events p ≡ false
    → stage_at (run_any (before ++ (call ∷ after)) s).state.desk p ≡ Holding (lock_for K mode (take name_count names))
in_a_list s e q = waited.in_a_list s (shaped s.desk e q)

-- the list that ends with the last of these leaves, of q: behind it the call holds, and where it did not before, that leave's answer lists its party
as_soon_as : (K : Hierarchy) (d : Desk) (p : ℕ) (mode : Mode) (names : List ℕ) (name_count : ℕ) → Begins K d p mode names name_count
    → (s : State) → s.desk ≡ (enter_step K d p mode names name_count).desk → (first : List AnyStep) (last : AnyStep) (q : ℕ) (parties : List ℕ)
    → let before = run_any first s in let then = move_any last before.state in let lock = lock_for K mode (take name_count names) in
    In q (ahead d) → all_left (others q d) before.events ≡ true → has_left before.events p ≡ false → then.event ≡ left-with q (done parties)
    → (stage_at then.state.desk p ≡ Holding lock) × ((stage_at before.state.desk p ≡ Holding lock → ⊥) → In p parties)
as_soon_as K d p mode names name_count (e, r, a) s same first last q parties i all stays goes = (
  waited.as_soon_as K d (shaped d e r) p mode names name_count a s same first last q i all (ap (is_leave q) goes ∙ eq-eqb q q refl) stays,
  waited.listed_then K d (shaped d e r) p mode names name_count a s same first last q i all parties goes stays,
)

-- WHO LEAVES AND COMES BACK COUNTS AS A LATER VISIT. On any desk, over any tables: as long as a party has taken no leave that was not refused, it has the visit that it had, for the same lock,
-- and none of its enters was taken,
visit_lasts : (q : ℕ) (l : Lock) (s : State) (steps : List AnyStep) → let ran = run_any steps s in let stage = stage_at ran.state.desk q in
    (stage_at s.desk q ≡ Holding l) ⊎ (stage_at s.desk q ≡ Waiting l) → has_left ran.events q ≡ false
    → ((stage ≡ Holding l) ⊎ (stage ≡ Waiting l)) × (any (is_enter q) ran.events ≡ false)
visit_lasts = visits.visit_lasts

-- a hold among them staying a hold;
hold_lasts : (q : ℕ) (l : Lock) (s : State) (steps : List AnyStep) → stage_at s.desk q ≡ Holding l → has_left (run_any steps s).events q ≡ false
    → stage_at (run_any steps s).state.desk q ≡ Holding l
hold_lasts = visits.hold_lasts

-- its first leave that is not refused ends it,
leave_ends : (x : AnyStep) (s : State) (q : ℕ) → is_leave q (move_any x s).event ≡ true → stage_at (move_any x s).state.desk q ≡ Out
leave_ends = visits.leave_ends

-- so that the visit that it had has left (a leave of its that was not refused stands before any enter of its that was not refused) just where the party has left at all, if it was
-- there at first: what is said by parties (`has_left`, `all_left`) of those who were, in `as_soon_as` above and in `afterwards` and `waits_already` below, is said by visits,
comes_back : (q : ℕ) (steps : List AnyStep) (s : State) → (stage_at s.desk q ≡ Out → ⊥) → let ran = run_any steps s in visit_left ran.events q ≡ has_left ran.events q
comes_back q steps s there =
    visits.comes_back q steps s (bool (is_out (stage_at s.desk q)) (λ e. absurd (there (entered.is_out_law (stage_at s.desk q) e))) (λ e. rw e refl))

-- a party that was out had no visit: what it begins and leaves later is of no account,
nothing_to_leave : (q : ℕ) (steps : List AnyStep) (s : State) → stage_at s.desk q ≡ Out → visit_left (run_any steps s).events q ≡ false
nothing_to_leave = visits.nothing_to_leave

-- and a visit that has left has left for good, whatever its party, or anybody, does afterwards
left_for_good : (events more : List (Event ℕ)) (q : ℕ) → visit_left events q ≡ true → visit_left (events ++ more) q ≡ true
left_for_good = visits.left_for_good

-- So it is with the call: once those ahead have left, it holds until its own party leaves, whatever is done then
afterwards : (K : Hierarchy) (d : Desk) (p : ℕ) (mode : Mode) (names : List ℕ) (name_count : ℕ) → Begins K d p mode names name_count
    → (s : State) → s.desk ≡ (enter_step K d p mode names name_count).desk → (first more : List AnyStep)
    → all_left (ahead d) (run_any first s).events ≡ true → has_left (run_any (first ++ more) s).events p ≡ false
    → stage_at (run_any (first ++ more) s).state.desk p ≡ Holding (lock_for K mode (take name_count names))
afterwards K d p mode names name_count (e, q, a) = waited.afterwards K d (shaped d e q) p mode names name_count a

-- all of a list of parties have left where each has
all_left_are : (parties : List ℕ) (events : List (Event ℕ))
    → (all_left parties events ≡ true → (q : ℕ) → In q parties → has_left events q ≡ true) × (((q : ℕ) → In q parties → has_left events q ≡ true) → all_left parties events ≡ true)
all_left_are parties events = (λ all q i. every_in (has_left events) all i, every_of (has_left events) parties)

-- all others that hold or wait at a desk, as a list
others_are : (p : ℕ) (d : Desk) (q : ℕ) → (In q (others p d) → In q (ahead d) × (q ≡ p → ⊥)) × (In q (ahead d) × (q ≡ p → ⊥) → In q (others p d))
others_are p d q = (
  λ i. let (j, e) = keep_in (λ party. not (eqb party p)) q (ahead d) i in (j, eqb-false q p (not-true (eqb q p) e)),
  λ (j, ne). in_keep (λ party. not (eqb party p)) j (rw (ne_eqb q p ne)),
)

-- those in front of a party: who holds, and who stands before it in arrival order
in_front_are : (p : ℕ) (d : Desk) (q : ℕ)
    → (In q (in_front p d) → (q < 32) × ((is_holding (stage_at d q) ≡ true) ⊎ In q (front_of p (queue_of d))))
    × ((q < 32) × ((is_holding (stage_at d q) ≡ true) ⊎ In q (front_of p (queue_of d))) → In q (in_front p d))
in_front_are = waited.in_front_are

front_is : (p : ℕ) (xs ys : List ℕ) → (In p xs → ⊥) → front_of p (xs ++ (p ∷ ys)) ≡ xs
front_is = Lists-of.front_is

-- OF A PARTY THAT WAITS ALREADY, at any sound desk: as soon as those who hold there, and those who wait before it (`in_front`), have left, it holds what it waits for, unless it left; so, too, as
-- soon as all others who hold or wait there have. Either are at most 31, and while it does not hold, and has not left, fewer than 31 of them have left
waits_already : (K : Hierarchy) (s : State) → length s.desk.entries ≡ 32 → length s.desk.queue ≡ 32 → sound_desk K s.desk ≡ true
    → (p : ℕ) (l : Lock) → stage_at s.desk p ≡ Waiting l → let d = s.desk in
    (length (others p d) ≤ 31) × (length (in_front p d) ≤ 31) × ((q : ℕ) → In q (in_front p d) → In q (others p d))
    × ((steps : List AnyStep) → let ran = run_any steps s in let left-of = has_left ran.events in left-of p ≡ false
    → (all_left (in_front p d) ran.events ≡ true → stage_at ran.state.desk p ≡ Holding l)
    × (all_left (others p d) ran.events ≡ true → stage_at ran.state.desk p ≡ Holding l)
    × ((stage_at ran.state.desk p ≡ Holding l → ⊥) → (count left-of (others p d) < 31) × (count left-of (in_front p d) < 31)))
waits_already K s e q sound p l w =
    let shape = shaped s.desk e q in
    let (most, most') = waited.others_at_most_31 K s shape sound p l w in (
      most,
      most',
      waited.in_front_others K s shape sound p l w,
      λ steps stays. (
        λ all. waited.waiter_not_passed_over K s shape sound p l w steps all stays,
        λ all. waited.nobody_passed_over_later K s shape sound p l w steps all stays,
        waited.later_before_31 K s shape sound p l w steps stays,
      ),
    )

-- OVER ONE HIERARCHY, whichever, in a list as in demand 3 that starts behind the call, too
run_passes_nobody : (K : Hierarchy) (d : Desk) (p : ℕ) (mode : Mode) (names : List ℕ) (name_count : ℕ) → Begins K d p mode names name_count
    → (s : State) → s.desk ≡ (enter_step K d p mode names name_count).desk → (steps : List Step) → let ran = run steps s in
    ((q : ℕ) → In q (ahead d) → visit_left ran.events q ≡ true) → visit_left ran.events p ≡ false
    → stage_at ran.state.desk p ≡ Holding (lock_for K mode (take name_count names))
run_passes_nobody K d p mode names name_count (e, q, a) = hosts.run_passes_nobody K d (shaped d e q) p mode names name_count a

-- AND OF A HOST'S OWN CALLS: each result meets the contract of its method, on the desk that the call before handed back, over any tables. It is asked with no values given, and so of any buffer
-- that get, put and add are lent for the values
lent_any : (buffer : List ℕ) → Lent [] buffer
lent_any buffer = inr refl

AnyContracts : Desk → List HostCall → Type 0
AnyContracts d [] = Unit
AnyContracts d (c ∷ cs) = Contract c.tables d [] c.result × AnyContracts (desk_from c.result) cs

-- one from the other
all_called : (d : Desk) (calls : List HostCall) → AnyContracts d calls → CallsMeet d calls
unfolding CallsMeet AnyContracts
all_called d [] k = tt
all_called d (c ∷ cs) (m, k) = (met c.tables d [] c.result m, all_called (desk_from c.result) cs k)

-- the enter's own does, and says `Waits`: by the answers of these very calls, where the visits ahead have left the party holds, unless it left; and while it does not hold, and has not left, fewer
-- than 31 of them have
results_pass_nobody : (K : Hierarchy) (d : Desk) (p : ℕ) (mode : Mode) (names : List ℕ) (name_count : ℕ) → length d.entries ≡ 32 → length d.queue ≡ 32
    → (r : DeskStep EnterAnswer) → Enters r (enter_step K d p mode names name_count) → r.answer ≡ Waits → (calls : List HostCall) → AnyContracts r.desk calls
    → visit_left (told_back calls) p ≡ false → let lock = lock_for K mode (take name_count names) in let last = desk_after r.desk calls in
    (((q : ℕ) → In q (ahead d) → visit_left (told_back calls) q ≡ true) → stage_at last p ≡ Holding lock)
    × ((stage_at last p ≡ Holding lock → ⊥) → count (visit_left (told_back calls)) (ahead d) < 31)
results_pass_nobody K d p mode names name_count e q r m a calls k stays =
    let met = all_called r.desk calls k in (
      λ all. hosts.results_pass_nobody K d (shaped d e q) p mode names name_count r m a calls met all stays,
      hosts.results_before_31 K d (shaped d e q) p mode names name_count r m a calls met stays,
    )

-- IT IS THE PAPER'S RULES THAT DO IT. The claim for a desk with these rules, where `first` are those who count as ahead (`enter_by`, `run_by`: as enter and as any list, but for the rules)
abbrev PassesNobody : Rules → (first : Desk → List ℕ) → Type 0
PassesNobody rules first =
    (K : Hierarchy) (d : Desk) → length d.entries ≡ 32 → length d.queue ≡ 32 → (p : ℕ) (mode : Mode) (names : List ℕ) (name_count : ℕ)
    → let l = lock_for K mode (take name_count names) in let began = enter_by rules (enter_refusal K d p names name_count) d p l in began.answer ≡ done waiting
    → (s : State) → s.desk ≡ began.desk → (steps : List AnyStep) → let ran = run_by rules steps s in
    all_left (first d) ran.events ≡ true → has_left ran.events p ≡ false → stage_at ran.state.desk p ≡ Holding l

-- the paper's pass nobody over,
paper_passes_nobody : PassesNobody paper_rules ahead
paper_passes_nobody = shams.paper_passes_nobody

-- and it is false of a desk that lets newcomers pass waiters that they conflict with, of one that takes the waiters from the back, and, by the paper's rules, where only the holders count as ahead
others_pass_over : (PassesNobody newcomers_pass ahead → ⊥) × (PassesNobody from_the_back ahead → ⊥) × (PassesNobody paper_rules only_holders → ⊥)
others_pass_over = (shams.newcomers_pass_over, shams.back_passes_over, shams.only_holders_pass_over)

-- 02, POINT 9. NINETY DAYS, THEN SHORTER FILES. What reading makes of one record more, by its kind: a refusal stays; one that is right (`one_of_eight`: a value record has zeros in bytes 2, 3 and 12 on, and a
-- value that is not zero), in order (`ordered`: the size record, edges, values, steps) and, if it is a value, in turn (`in_turn`: above the value before it, and below n) leads on; any other is 4. These
-- terms are in block_laws/proofs/ByKind
after_by_kind : (t : ReadStage) (r : List ℕ)
    → after_record t r ≡ cond (eqb t.wrong 0) (cond (one_of_eight (kind_of r) r && (ordered t (kind_of r) && in_turn t (kind_of r) r)) (past_record t (kind_of r) r) (faulty 4 t)) t
after_by_kind = kinds-spelt.after_by_kind

-- A file that has no value record starts from zeros, as before,
no_values_zeros : (n : ℕ) (records : List (List ℕ)) → every (λ r. not (eqb (kind_of r) 8)) records ≡ true → values_in n records ≡ replicate n 0
no_values_zeros n records none_of = shorter-parts.values_none records (replicate n 0) none_of

-- cutting is refused with 1 where the room is shorter than the file, with what the file or building is refused for, with 19 where k is above the number of steps, with 20 where a party holds or
-- waits after the first k: the lowest of these,
cut_refusals : (file : List ℕ) (k : ℕ) (room : List ℕ)
    → let records = record_list (file_records file) in let first = perform_all (start_of (built_of records) records) (take k (step_records records)) in
    cut_refusal file k room
    ≡ refusal
    (1 when ltb (length room) (length file)
    ∷ (file_checks file
    ++ (hierarchy_checks (size_of records) (edge_table records) (edge_count_of records)
    ++ (19 when ltb (length (step_records records)) k
    ∷ 20 when any_below 32 (λ party. not (is_out (stage_at first.state.desk party)))
    ∷ []))))
cut_refusals file k room = refl

-- where none applies the shorter file's blocks are counted and put in front of the room,
cut_given : (file : List ℕ) (k : ℕ) (room : List ℕ) → cut_refusal file k room ≡ none → let kept = cut_records (record_list (file_records file)) k in
    cut_file file k room ≡ record { answer = done (blocks_for (length kept)); room = over (blocks_of_all kept) room }
unfolding cut_file
cut_given file k room e =
    ap (λ (o : Option ℕ). leaving o (blocks_for (length (cut_records (record_list (file_records file)) k))) (blocks_of_all (cut_records (record_list (file_records file)) k)) room) e

-- and a refusal leaves the room as it was
cut_unchanged : (file : List ℕ) (k : ℕ) (room : List ℕ) (j : ℕ) → cut_refusal file k room ≡ some j → cut_file file k room ≡ record { answer = refused j; room = room }
unfolding cut_file
cut_unchanged file k room j e =
    ap (λ (o : Option ℕ). leaving o (blocks_for (length (cut_records (record_list (file_records file)) k))) (blocks_of_all (cut_records (record_list (file_records file)) k)) room) e

-- Where it answers m blocks, these are in front of the room as it was, and they are a file that reading accepts, of no more blocks than the input. Its records are those of size and edges, a
-- value record for each nonzero value after the first k steps, by ascending node, and the steps after k
cut_file_law : (file : List ℕ) (k : ℕ) (room : List ℕ) (m : ℕ) → (cut_file file k room).answer ≡ done m
    → let short = take (512 * m) (cut_file file k room).room in let records = record_list (file_records file) in
    let first = perform_all (start_of (built_of records) records) (take k (step_records records)) in
    ((cut_file file k room).room ≡ over short room) × (refusal (file_checks short) ≡ none) × (whole_blocks short ≡ m) × (m ≤ whole_blocks file)
    × (record_list (file_records short) ≡ keep (λ r. leb (kind_of r) 2) records ++ (value_records 0 first.state.values ++ drop k (step_records records)))
unfolding cut_records
cut_file_law file k room m e = let w = cuts.cut_well file k room m e in let f = cuts.cut_front file k room m e in (f.0, w.accepted, f.1, omega (arith, f.1, w.blocks), w.records)

-- Its run has the same answers for the steps kept, so its listing numbers them from 1; the same end values; an end desk with each party's stage and the arrival list of the whole run's; and
-- grants from the cut on: each party's up to the cut and those of the shorter run add up to the whole run's
cut_runs : (file : List ℕ) (k : ℕ) (room : List ℕ) (m : ℕ) → (cut_file file k room).answer ≡ done m
    → let short = take (512 * m) (cut_file file k room).room in let records = record_list (file_records file) in let rest = record_list (file_records short) in
    let first = perform_all (start_of (built_of records) records) (take k (step_records records)) in
    let whole = perform_all (start_of (built_of records) records) (step_records records) in
    let after = perform_all (start_of (built_of rest) rest) (step_records rest) in
    (run_file file ≡ done (file_run whole)) × (run_file short ≡ done (file_run after))
    × (answers_of after ≡ drop k (answers_of whole))
    × (listing_of (run_file short) ≡ step_lines 1 (drop k (answers_of whole)) ++ end_lines (holders_at whole.state.desk) whole.state.desk.waiting after.state.desk.grants)
    × (after.state.values ≡ whole.state.values)
    × (after.state.desk.entries ≡ whole.state.desk.entries) × (after.state.desk.queue ≡ whole.state.desk.queue) × (after.state.desk.waiting ≡ whole.state.desk.waiting)
    × ((party : ℕ) → party < 32 → get_or whole.state.desk.grants party 0 ≡ get_or first.state.desk.grants party 0 + get_or after.state.desk.grants party 0)
cut_runs file k room m e =
    let w = cuts.cut_well file k room m e in let o = w.on in let d = w.desks in (
      w.whole_runs,
      w.short_runs,
      o.answers,
      ap listing_of w.short_runs ∙ rw (o.answers, o.holders, o.waiters) refl,
      o.values,
      d.entries,
      d.queue,
      d.waiting,
      o.grants,
    )

-- Demand 3 of the shorter file, and performing its book, start from the values at the cut
cut_file_serial : (file : List ℕ) (k : ℕ) (room : List ℕ) (m : ℕ) → (cut_file file k room).answer ≡ done m
    → let short = take (512 * m) (cut_file file k room).room in let records = record_list (file_records file) in let rest = record_list (file_records short) in
    let first = perform_all (start_of (built_of records) records) (take k (step_records records)) in
    let after = perform_all (start_of (built_of rest) rest) (step_records rest) in
    (values_in (size_of rest) rest ≡ first.state.values) × Claims first.state.values (events_of (step_records rest) (answers_of after)) after.state.values
cut_file_serial file k room m e =
    let w = cuts.cut_well file k room m e in (w.starts, claims (cut-serials.cut_file_serial file k (take (512 * m) (cut_file file k room).room) w))

-- Cutting after no step gives the very file
cut_nothing : (file room : List ℕ) → Below 256 file → cut_refusal file 0 room ≡ none → cut_file file 0 room ≡ record { answer = done (whole_blocks file); room = over file room }
cut_nothing = cut-whole.cut_nothing

-- Where the cut after j steps is not refused, cutting its file after k, into a room as long as the first input, is cutting after j + k, refusals too
cut_file_twice : (file : List ℕ) (j k : ℕ) (room room' : List ℕ) (m : ℕ) → (cut_file file j room).answer ≡ done m → length file ≤ length room'
    → cut_file (take (512 * m) (cut_file file j room).room) k room' ≡ cut_file file (j + k) room'
cut_file_twice = cuts.cut_file_twice

-- 02, POINT 10. NEIGHBOURS MAY SWAP. Over a built hierarchy, from any desk and values: two steps, each a get, put or add, of different parties. In either order both get the same answers, the desk and values
-- left are the same, and each leaves its own scratch the same. 02 asks this where both parties hold and neither step is refused; refused ones may swap, too, with the same refusals
neighbours_may_swap : (s : State) → Built s.hierarchy → (x y : Step) → is_access x ≡ true → is_access y ≡ true → (party_of x ≡ party_of y → ⊥)
    → let x-first = move x s in let y-second = move y x-first.state in let y-first = move y s in let x-second = move x y-first.state in
    (x-second.event ≡ x-first.event) × (y-second.event ≡ y-first.event)
    × (x-second.state.hierarchy ≡ y-second.state.hierarchy) × (x-second.state.desk ≡ y-second.state.desk) × (x-second.state.values ≡ y-second.state.values)
    × (scratch_from (lent_to x y-first.state.hierarchy) x.call y-first.state ≡ scratch_from (lent_to x s.hierarchy) x.call s)
    × (scratch_from (lent_to y x-first.state.hierarchy) y.call x-first.state ≡ scratch_from (lent_to y s.hierarchy) y.call s)
neighbours_may_swap s b x y ax ay ne =
    let w = swapped.neighbours_may_swap s b x y ax ay ne in (
      ap (λ (t : Told). t.event) w.first,
      ap (λ (t : Told). t.event) w.second,
      ap (λ (t : State). t.hierarchy) w.state,
      ap (λ (t : State). t.desk) w.state,
      ap (λ (t : State). t.values) w.state,
      ap (λ (t : Told). t.scratch) w.first,
      ap (λ (t : Told). t.scratch) w.second,
    )

-- such a step, refused or not, leaves hierarchy and desk as they were,
access_keeps : (s : State) (x : Step) → is_access x ≡ true → ((move x s).state.hierarchy ≡ s.hierarchy) × ((move x s).state.desk ≡ s.desk)
access_keeps = accessed.access_keeps

-- looks at how long its scratch is, and not at what stands in it,
scratch_unread : (H : Hierarchy) (s : State) (party node : ℕ) (l : Lending) (c c' : List ℕ) → length c ≡ length c'
    → (move_call H (get-call party node l c) s ≡ move_call H (get-call party node l c') s)
    × ((value : ℕ) → move_call H (put-call party node value l c) s ≡ move_call H (put-call party node value l c') s)
    × ((number : ℕ) → move_call H (add-call party node number l c) s ≡ move_call H (add-call party node number l c') s)
scratch_unread = accessed.scratch_unread

-- and, where it is not refused, is of a party that holds
done_holds : (s : State) (x : Step) → is_access x ≡ true → not_refused (move x s).event ≡ true → (l : Lock) × (stage_at s.desk (party_of x) ≡ Holding l)
done_holds = accessed.access_holds

-- two adds at one node are in it
adds_may_swap : (s : State) → Built s.hierarchy → (i e l i' e' l' : Lending) (p q node a b : ℕ) (c c' : List ℕ) → (p ≡ q → ⊥)
    → Swapped (record { intervals = i; edges = e; call = add-call p node a l c }) (record { intervals = i'; edges = e'; call = add-call q node b l' c' }) s
adds_may_swap s built i e l i' e' l' p q node a b c c' ne =
    swapped.neighbours_may_swap s built (record { intervals = i; edges = e; call = add-call p node a l c }) (record { intervals = i'; edges = e'; call = add-call q node b l' c' }) refl refl ne

-- ANY REARRANGEMENT of such steps that keeps each party's own order: the same desk and values are left, each party gets the same answers in its order, and what is told of each of its steps (which it
-- is, its answer, the scratch that it left) is the same
any_rearrangement : (s : State) → Built s.hierarchy → (one other : List Step) → every is_access one ≡ true
    → ((party : ℕ) → keep (λ x. eqb (party_of x) party) one ≡ keep (λ x. eqb (party_of x) party) other)
    → ((run other s).state ≡ (run one s).state)
    × ((party : ℕ) → keep (λ e. eqb (event_party e) party) (run other s).events ≡ keep (λ e. eqb (event_party e) party) (run one s).events)
    × ((party : ℕ) → keep (λ t. eqb (party_of t.step) party) (tell_all other s) ≡ keep (λ t. eqb (party_of t.step) party) (tell_all one s))
any_rearrangement s b one other accesses same =
    let w = swapped.any_rearrangement s b one other accesses same in (w.state, swapped.same_events s one other w, w.told)

-- what is told of a list are its steps, with their events
all_told : (steps : List Step) (s : State) → (map (λ t. t.step) (tell_all steps s) ≡ steps) × (map (λ t. t.event) (tell_all steps s) ≡ (run steps s).events)
all_told = swapped.all_told

-- and each is told with what it was answered, and the scratch that it left, at the state that those before it left
told_each : (x : Step) (steps : List Step) (s : State)
    → tell_all (x ∷ steps) s ≡ record { step = x; event = (move x s).event; scratch = scratch_from (lent_to x s.hierarchy) x.call s } ∷ tell_all steps (move x s).state
unfolding tell_all
told_each x steps s = refl

-- whatever stands in the scratches: a list leaves and answers what it does with zeros there (`cleared`), so a rearrangement may have other contents in them, as where one scratch serves all steps
any_scratch : (s : State) → Built s.hierarchy → (one other : List Step) → every is_access one ≡ true → Rearranged (map cleared one) (map cleared other)
    → ((run other s).state ≡ (run one s).state) × ((party : ℕ) → of_party party (run other s).events ≡ of_party party (run one s).events)
any_scratch = swapped.any_scratch

run_cleared : (steps : List Step) (s : State) → run (map cleared steps) s ≡ run steps s
run_cleared = swapped.run_cleared

-- a run of such steps within a longer list, with any steps before and behind it: so all of the list comes to the same
within_a_list : (s : State) → Built s.hierarchy → (before one other behind : List Step) → every is_access one ≡ true → Rearranged one other
    → let first = before ++ (one ++ behind) in let second = before ++ (other ++ behind) in
    ((run second s).state ≡ (run first s).state) × ((party : ℕ) → told_of party (tell_all second s) ≡ told_of party (tell_all first s))
within_a_list s b before one other behind accesses same = let w = swapped.in_a_list s b before one other behind accesses same in (w.state, w.told)

-- TWO LINES, no party on both, each taken in its own order: however their gets, puts and adds are merged, it comes to the same
two_lines : (s : State) → Built s.hierarchy → (line other one two : List Step) → every is_access line ≡ true → every is_access other ≡ true
    → every (λ x. not (any (λ y. eqb (party_of y) (party_of x)) other)) line ≡ true → Merged line other one → Merged line other two
    → ((run two s).state ≡ (run one s).state) × ((party : ℕ) → told_of party (tell_all two s) ≡ told_of party (tell_all one s))
two_lines s b line other one two a c away m k = let w = swapped.two_lines s b line other one two a c away m k in (w.state, w.told)

-- within a longer list, too
two_lines_within : (s : State) → Built s.hierarchy → (before line other one two behind : List Step) → every is_access line ≡ true → every is_access other ≡ true
    → every (λ x. not (any (λ y. eqb (party_of y) (party_of x)) other)) line ≡ true → Merged line other one → Merged line other two
    → let first = before ++ (one ++ behind) in let second = before ++ (two ++ behind) in
    ((run second s).state ≡ (run first s).state) × ((party : ℕ) → told_of party (tell_all second s) ≡ told_of party (tell_all first s))
two_lines_within s b before line other one two behind a c away m k = let w = swapped.two_lines_within s b before line other one two behind a c away m k in (w.state, w.told)

-- OF A HOST'S OWN CALLS, from their results alone: gets, puts and adds made in two orders from one desk and n values, each result as the contract of its method has it, and each party's calls the same in the
-- same order (`steps_for`: buffers as long, with the same contents past the table's own places, and a scratch as long, whatever stood in it): the last desk and values are the same, and each party was answered the same
results_rearranged : (H : Hierarchy) → Built H → (d : Desk) (values : List ℕ) → length values ≡ H.n → (one other : List Made) → Contracts H d values one → Contracts H d values other
    → every is_access (steps_for H values one) ≡ true → Rearranged (map cleared (steps_for H values one)) (map cleared (steps_for H values other))
    → (last_desk d other ≡ last_desk d one) × (last_values values other ≡ last_values values one) × ((party : ℕ) → of_party party (told_by_all other) ≡ of_party party (told_by_all one))
results_rearranged H b d values sized one other c c' = own-calls.results_rearranged H b d values sized one other (all_met H d values one c) (all_met H d values other c')

-- IT IS THE RULES' DOING. Point 10 of a desk with these rules (as which mode a visit is seen where it is asked whether two holds conflict, whose get is turned away with 18, and what a get leaves), where neither is refused, as 02 has it
abbrev SwapsBy : SwapRules → Type 0
SwapsBy rules =
    (s : State) → Built s.hierarchy → (x y : Step) → is_access x ≡ true → is_access y ≡ true → (party_of x ≡ party_of y → ⊥)
    → let x-first = step_by rules x s in let y-second = step_by rules y x-first.state in let y-first = step_by rules y s in let x-second = step_by rules x y-first.state in
    not_refused x-first.event ≡ true → not_refused y-second.event ≡ true
    → (x-second.event ≡ x-first.event) × (y-second.event ≡ y-first.event) × (x-second.state ≡ y-second.state)

-- by the papers' rules a step is the desk's,
paper_steps : (x : Step) (s : State) → step_by swap_papers x s ≡ move x s
paper_steps = sham-swaps.step_same

-- and the claim holds;
papers_swap : SwapsBy swap_papers
papers_swap s b x y ax ay ne nx ny = let w = sham-swaps.papers_swap s b x y ax ay ne nx ny in (w.first, w.second, w.state)

-- it is false of a desk on which a get counts itself, of one that lets readers in beside a writer, of one that lets them in beside an adder, and of one that lets an adding visit get
others_do_not_swap : (SwapsBy gets_count → ⊥) × (SwapsBy writers_pass → ⊥) × (SwapsBy adders_pass → ⊥) × (SwapsBy adders_get → ⊥)
others_do_not_swap =
    (λ c. sham-swaps.counts_no_swap (whole c), λ c. sham-swaps.writers_no_swap (whole c), λ c. sham-swaps.adders_no_swap (whole c), λ c. sham-swaps.gets_no_swap (whole c))
  where
    whole : {rules : SwapRules} → SwapsBy rules → NeighboursMaySwap rules
    whole c s b x y ax ay ne nx ny = let (first, second, state) = c s b x y ax ay ne nx ny in record { first = first; second = second; state = state }

-- THE STARRED CASES, with the papers' figures, those of {8}, of the ninth case and of the listing as document 02's points 1 and 4 have them: each passes, by computation. Table T and
-- the table of the ninth case
tables : (T ≡ 0 ∷ 1 ∷ 0 ∷ 2 ∷ 1 ∷ 3 ∷ 1 ∷ 4 ∷ 2 ∷ 5 ∷ 2 ∷ 6 ∷ 5 ∷ 7 ∷ 6 ∷ 7 ∷ 6 ∷ 8 ∷ 7 ∷ 9 ∷ 9 ∷ 7 ∷ [])
    × (shared ≡ 0 ∷ 1 ∷ 0 ∷ 2 ∷ 0 ∷ 3 ∷ 0 ∷ 4 ∷ 4 ∷ 1 ∷ 4 ∷ 3 ∷ [])
tables = (refl, refl)

-- their files, each record with zeros behind it up to 16 bytes: a size record, the edges, and the steps of the listing; a writer of 4 and a writer of 2
listed_files : (file_t
    ≡ bytes16 (1 ∷ 10 ∷ [])
    ∷ bytes16 (2 ∷ 0 ∷ 1 ∷ []) ∷ bytes16 (2 ∷ 0 ∷ 2 ∷ []) ∷ bytes16 (2 ∷ 1 ∷ 3 ∷ []) ∷ bytes16 (2 ∷ 1 ∷ 4 ∷ []) ∷ bytes16 (2 ∷ 2 ∷ 5 ∷ []) ∷ bytes16 (2 ∷ 2 ∷ 6 ∷ [])
    ∷ bytes16 (2 ∷ 5 ∷ 7 ∷ []) ∷ bytes16 (2 ∷ 6 ∷ 7 ∷ []) ∷ bytes16 (2 ∷ 6 ∷ 8 ∷ []) ∷ bytes16 (2 ∷ 7 ∷ 9 ∷ []) ∷ bytes16 (2 ∷ 9 ∷ 7 ∷ [])
    ∷ bytes16 (3 ∷ 1 ∷ 2 ∷ 1 ∷ 7 ∷ []) ∷ bytes16 (3 ∷ 2 ∷ 1 ∷ 1 ∷ 8 ∷ []) ∷ bytes16 (3 ∷ 3 ∷ 1 ∷ 1 ∷ 3 ∷ []) ∷ bytes16 (3 ∷ 4 ∷ 1 ∷ 2 ∷ 4 ∷ 5 ∷ [])
    ∷ bytes16 (5 ∷ 1 ∷ 9 ∷ 0 ∷ 77 ∷ []) ∷ bytes16 (6 ∷ 1 ∷ []) ∷ bytes16 (4 ∷ 2 ∷ 9 ∷ []) ∷ bytes16 (3 ∷ 5 ∷ 2 ∷ 1 ∷ 4 ∷ []) ∷ bytes16 (5 ∷ 2 ∷ 9 ∷ 0 ∷ 5 ∷ [])
    ∷ bytes16 (6 ∷ 5 ∷ []) ∷ [])
    × (file_shared
    ≡ bytes16 (1 ∷ 5 ∷ [])
    ∷ bytes16 (2 ∷ 0 ∷ 1 ∷ []) ∷ bytes16 (2 ∷ 0 ∷ 2 ∷ []) ∷ bytes16 (2 ∷ 0 ∷ 3 ∷ []) ∷ bytes16 (2 ∷ 0 ∷ 4 ∷ []) ∷ bytes16 (2 ∷ 4 ∷ 1 ∷ []) ∷ bytes16 (2 ∷ 4 ∷ 3 ∷ [])
    ∷ bytes16 (3 ∷ 1 ∷ 2 ∷ 1 ∷ 4 ∷ []) ∷ bytes16 (3 ∷ 2 ∷ 2 ∷ 1 ∷ 2 ∷ []) ∷ [])
unfolding file_t file_shared
listed_files = (refl, refl)

-- and the ten cases
all_starred : every passes
    (intervals 10 T (1 ∷ 4 ∷ 1 ∷ 2 ∷ 3 ∷ 4 ∷ 1 ∷ 1 ∷ 2 ∷ 2 ∷ 3 ∷ 3 ∷ 3 ∷ 4 ∷ 3 ∷ 3 ∷ 4 ∷ 4 ∷ 3 ∷ 3 ∷ [])
    ∷ cover 10 T (3 ∷ 4 ∷ []) 1
    ∷ cover 10 T (7 ∷ 8 ∷ []) 2
    ∷ cover 10 T (9 ∷ []) 5
    ∷ cover 10 T (4 ∷ 5 ∷ []) 0
    ∷ cover 10 T (8 ∷ []) 8
    ∷ intervals 1 [] (1 ∷ 1 ∷ [])
    ∷ intervals 4 (0 ∷ 1 ∷ 1 ∷ 3 ∷ 1 ∷ 2 ∷ 2 ∷ 1 ∷ []) (1 ∷ 2 ∷ 1 ∷ 2 ∷ 1 ∷ 2 ∷ 1 ∷ 1 ∷ [])
    ∷ apart 5 shared 4 2 1 3 2 2 file_shared (admitted 0 ∷ waits ∷ []) 1 1 1 (1 ∷ 1 ∷ [])
    ∷ listing file_t
    (admitted 5 ∷ admitted 8 ∷ admitted 3 ∷ waits ∷ stored ∷ left (4 ∷ []) ∷ denied 16 ∷ waits ∷ denied 16 ∷ left [] ∷ [])
    3 0 4 (1 ∷ 1 ∷ 2 ∷ 1 ∷ 3 ∷ 1 ∷ 4 ∷ 1 ∷ [])
    ∷ []) ≡ true
unfolding starred
all_starred = computed.all_starred
