-- Opening a file: how it is refused, and what an opened file has in its places. Assumes nothing.
use mathlib.Core.Path.{◌≡◌, refl, sym, ap, subst, ◌∙◌}
use mathlib.Core.Bool.{Bool, true, false, not, ◌&&◌}
use mathlib.Core.List.{List, [], ◌∷◌, ◌++◌}
use mathlib.Core.Option.{Option, none, some}
use Prim.Native.Nat.{ℕ, zero, suc, ◌*◌, ◌/◌, ◌≤◌, ◌<◌}
use native.Mathlib.Omega.{arith}
use lib.Dec.{eqb, leb, ltb}
use lib.ListN.{length, take, drop, replicate, length-drop, length-replicate}
use lib.Seq.{length-take-le, take_all, take_at}
use borrow.Author.Tests.{eq-eqb, lt-leb, le-ltb}
use Rattle.std.specs.Prelude.{Result, Ok, Err}
use Rattle.lists.specs.Lists.{every, over}
use Rattle.lists.specs.Answer.{Answer, done, refused, Check, ◌when◌, refusal, answer_of, room_after}
use Rattle.hierarchy.specs.Hierarchy.{edges_of, size_wrong, hierarchy_checks, Legal}
use Rattle.intervals.specs.Intervals.{interval_table}
use Rattle.intervals.specs.Build.{build_short, build_refusal, build_step}
use Rattle.lists.proofs.Bools.{bool}
use Rattle.lists.proofs.Loops.{count_most}
use Rattle.lists.proofs.Refusals.{refused_here, refused_later, refusal_none}
use Rattle.lists.proofs.Numbers.{onward}
use Rattle.hierarchy.proofs.Legals.{right_size}
use Rattle.interval_laws.proofs.Laws.{built_length}
use Rattle.blocks.specs.Record.{ReadStage, kind_of, begun}
use Rattle.blocks.specs.Block.{after_record, after_records}
use Rattle.blocks.specs.File.{whole_blocks, not_blocks, file_checks, file_records, read_refusal, read_file}
use Rattle.blocks.proofs.Answers.{blocks_facts}
use Rattle.locks.specs.Lent.{Hierarchy, lent}
use Rattle.replay.specs.Replay.{FileRun, each_record, record_list, is_record, size_of, edge_table, edge_count_of, step_records, built_of, start_of, file_run}
use Rattle.replay.specs.Replay.{perform_all, run_unless, run_records, file_unless, run_file}
use Rattle.replay.specs.Answers.{edges_refusal, edges_into, EdgesInto}
use Rattle.replay.proofs.Records.{records_length, edge_table_length}
use Rattle.refusals.specs.declared.Refusal.{Refusal}
use Rattle.refusals.specs.declared.Refusal.TheVariants.{Short, NotBlocks, SizeWrong}
use Rattle.refusals.specs.Refusals.{refusal_number, meaning}
use Rattle.opening.specs.declared.Opened.{Opened}
use Rattle.opening.specs.Opening.{file_rows, built_checks, open_short, open_refusal, Opening, opening_of, opening_in, open_file, open_meaning, Opens, opened_run}
use Rattle.opening.specs.Inner.{HierarchyOpened, RecordsOpened, reading_refusal, building_refusal, FileOpened}
use Rattle.block_laws.proofs.Laws.{read_whole, read_stage, record_right_law}

-- an accepted file has whole records, at most 3,968
pub records_whole : (file : List ℕ) → refusal (file_checks file) ≡ none → (length (file_records file) ≡ 16 * (length (file_records file) / 16)) × (length (file_records file) / 16 ≤ 3968)
unfolding read_file
records_whole file e =
    let room : List ℕ = replicate (496 * whole_blocks file) 0 in
    let long = length-replicate {A = ℕ} (496 * whole_blocks file) 0 in
    let read = refused_later (1 when ltb (length room) (496 * whole_blocks file)) (file_checks file) (le-ltb (length room) (496 * whole_blocks file) (omega (arith, long))) ∙ e in
    let whole = read_whole file room (length (file_records file) / 16) (ap (λ (o : Option ℕ). answer_of o (length (file_records file) / 16)) read) in
    (whole.0, whole.1)

-- and each of them is right
rows_right : (k : ℕ) (t : ReadStage) (s : List ℕ) → 16 * k ≤ length s → (after_records t k s).wrong ≡ 0 → every is_record (each_record k s) ≡ true
unfolding each_record every
rows_right zero t s l h = refl
rows_right (suc k) t s l h =
    let first = record_right_law k t s h in
    let long : length (take 16 s) ≡ 16 = length-take-le 16 s (omega arith) in
    rw (eq-eqb (length (take 16 s)) 16 long, first.0, rows_right k (after_record t (take 16 s)) (drop 16 s) (omega (arith, length-drop 16 s)) first.1) refl

records_right : (file : List ℕ) → refusal (file_checks file) ≡ none → every is_record (file_rows file) ≡ true
unfolding read_file
records_right file e =
    let room : List ℕ = replicate (496 * whole_blocks file) 0 in
    let long = length-replicate {A = ℕ} (496 * whole_blocks file) 0 in
    let read = refused_later (1 when ltb (length room) (496 * whole_blocks file)) (file_checks file) (le-ltb (length room) (496 * whole_blocks file) (omega (arith, long))) ∙ e in
    let n : ℕ = length (file_records file) / 16 in
    rows_right n begun (file_records file) (omega arith) (read_stage file room n (ap (λ (o : Option ℕ). answer_of o n) read))

-- ANSWERS: one that is a refusal comes from one
refused_by : {A : Type 0} (o : Option ℕ) (a : A) {k : ℕ} → answer_of o a ≡ refused k → o ≡ some k
refused_by none a e = let z : ◌≡◌ {A = ℕ} 0 1 = cc in absurd (omega arith)
refused_by (some j) a e = cc

-- and one that is none from none
pub done_by : {A : Type 0} (o : Option ℕ) (a : A) {x : A} → answer_of o a ≡ done x → (o ≡ none) × (a ≡ x)
done_by none a e = (refl, cc)
done_by (some j) a e = let z : ◌≡◌ {A = ℕ} 0 1 = cc in absurd (omega arith)

-- TWO LISTS OF CHECKS, one behind the other
pub refusal_front : (cs ds : List Check) {k : ℕ} → refusal cs ≡ some k → refusal (cs ++ ds) ≡ some k
unfolding refusal
refusal_front [] ds e = let z : ◌≡◌ {A = ℕ} 0 1 = cc in absurd (omega arith)
refusal_front (c ∷ cs) ds e =
    bool c.holds
    (λ h. refused_here c (cs ++ ds) h ∙ sym (refused_here c cs h) ∙ e)
    (λ h. refused_later c (cs ++ ds) h ∙ refusal_front cs ds (sym (refused_later c cs h) ∙ e))

-- THE HIERARCHY. Over 256 nodes are refused with 5
module _ (n : ℕ) (edges : List ℕ) (count total : ℕ) (places : List ℕ) where
  pub too_large : 256 < n → HierarchyOpened n edges count total places places (Err SizeWrong)
  too_large h =
      let e = refused_here (5 when size_wrong n) _ (ap (λ (b : Bool). not (leb 1 n && b)) (lt-leb n 256 h) ∙ by (leb 1 n)) in
      (ap (λ (o : Option ℕ). answer_of o (opening_of n count total)) (sym e), ap (λ (o : Option ℕ). room_after o (interval_table n edges) places) (sym e))
    where
      by : (b : Bool) → not (b && false) ≡ true
      by true = refl
      by false = refl

  -- else building decides
  module _ (scratch : List ℕ) (few : n ≤ 256) (all : length edges ≡ 2 * count) (many : 512 ≤ length places) (long : 512 ≤ length scratch) where
    judged : build_refusal n edges count places scratch ≡ refusal (hierarchy_checks n edges count)
    judged =
        let a : ltb (length places) (2 * n) ≡ false = le-ltb (length places) (2 * n) (omega arith) in
        let b : ltb (length edges) (2 * count) ≡ false = le-ltb (length edges) (2 * count) (omega arith) in
        let c : ltb (length scratch) 512 ≡ false = le-ltb (length scratch) 512 long in
        refused_later (1 when build_short n edges count places scratch) _ (rw (a, b, c) refl)

    module _ (a : Result (Unit {0}) Refusal) {places' : List ℕ}
        (e : meaning a ≡ (build_step n edges count places scratch).answer) (w : places' ≡ (build_step n edges count places scratch).places) where
      built : places' ≡ room_after (refusal (hierarchy_checks n edges count)) (interval_table n edges) places
      unfolding build_step
      built =
          w
          ∙ ap (λ (o : Option ℕ). room_after o (interval_table n (edges_of edges count)) places) judged
          ∙ ap (λ (t : List ℕ). room_after (refusal (hierarchy_checks n edges count)) (interval_table n t) places) (take_all (2 * count) edges (omega arith))

      pub build_refused : (k : Refusal) → a ≡ Err k → HierarchyOpened n edges count total places places' (Err k)
      unfolding build_step
      build_refused k t =
          let o = sym judged ∙ refused_by (build_refusal n edges count places scratch) tt (sym e ∙ ap meaning t) in
          (ap (λ (x : Option ℕ). answer_of x (opening_of n count total)) (sym o), built)

      pub build_done : (u : Unit {0}) → a ≡ Ok u → HierarchyOpened n edges count total places places' (Ok (record { n = n; edge_count = count; total = total }))
      unfolding build_step
      build_done u t =
          let o = sym judged ∙ (done_by (build_refusal n edges count places scratch) tt (sym e ∙ ap meaning t)).0 in
          (ap (λ (x : Option ℕ). answer_of x (opening_of n count total)) (sym o), built)

-- THE EDGES of a file's records always have room
module _ (records table : List ℕ) (short : length records ≤ 63488) (many : 7936 ≤ length table) where
  abbrev rs : List (List ℕ)
  rs = record_list records

  accepted : edges_refusal rs table ≡ none
  unfolding refusal
  accepted =
      refused_later (1 when ltb (length table) (2 * edge_count_of rs)) []
      (le-ltb (length table) (2 * edge_count_of rs) (omega (arith, count_most (λ (r : List ℕ). eqb (kind_of r) 2) rs, records_length records)))

  count_is : (edges_into rs table).answer ≡ done (edge_count_of rs)
  unfolding edges_into
  count_is = ap (λ (o : Option ℕ). answer_of o (edge_count_of rs)) accepted

  table_is : (edges_into rs table).table ≡ over (edge_table rs) table
  unfolding edges_into
  table_is = ap (λ (o : Option ℕ). room_after o (edge_table rs) table) accepted

  module _ (a : Result ℕ Refusal) {table' : List ℕ} (e : EdgesInto a table' (edges_into rs table)) where
    pub edges_never : (k : Refusal) → a ≡ Err k → ⊥
    edges_never k t = let q = sym (ap meaning t) ∙ e.0 ∙ count_is in let z : ◌≡◌ {A = ℕ} 0 1 = cc in omega arith

    module _ (k : ℕ) (t : a ≡ Ok k) where
      counted : k ≡ edge_count_of rs
      counted = let q = sym (ap meaning t) ∙ e.0 ∙ count_is in cc

      pub edges_few : 2 * k ≤ 7936
      edges_few = omega (arith, counted, count_most (λ (r : List ℕ). eqb (kind_of r) 2) rs, records_length records)

      front : take (2 * k) table' ≡ edge_table rs
      unfolding over
      front =
          ap (take (2 * k)) (e.1 ∙ table_is)
          ∙ take_at (edge_table rs) (drop (length (edge_table rs)) table) (2 * k) (omega (arith, edge_table_length rs, counted))

      pub edges_all : length (take (2 * k) table') ≡ 2 * k
      edges_all = ap length front ∙ edge_table_length rs ∙ ap (λ (m : ℕ). 2 * m) (sym counted)

      pub records_opened : {n : ℕ} (total : ℕ) (places : List ℕ) {places' : List ℕ} (r : Result Opened Refusal) → n ≡ size_of rs → HierarchyOpened n (take (2 * k) table') k total places places' r
          → RecordsOpened rs total table places table' places' r
      records_opened {n} total places {places'} r size h =
          let one = subst (λ (m : ℕ). HierarchyOpened n (take (2 * k) table') m total places places' r) counted h in
          let two = subst (λ (t : List ℕ). HierarchyOpened n t (edge_count_of rs) total places places' r) front one in
          let all = subst (λ (m : ℕ). HierarchyOpened m (edge_table rs) (edge_count_of rs) total places places' r) size two in
          (all, e.1 ∙ table_is)

-- THE FILE. Over 65,536 bytes are over 128 blocks
pub too_long : (file : List ℕ) → 65536 < length file → refusal (file_checks file) ≡ some 2
too_long file h = refused_here (2 when not_blocks file) _ (bool (not_blocks file) (λ e. e) (λ e. let f = blocks_facts file e in absurd (omega (arith, f.0, f.2, h))))

-- reading it, into places that are long enough
module _ (file room : List ℕ) (few : length file ≤ 65536) (many : 63488 ≤ length room) (a : Result ℕ Refusal) (e : meaning a ≡ (read_file file room).answer) where
  read_judged : read_refusal file room ≡ refusal (file_checks file)
  read_judged = refused_later (1 when ltb (length room) (496 * whole_blocks file)) (file_checks file) (le-ltb (length room) (496 * whole_blocks file) (omega arith))

  pub read_room : {room' : List ℕ} → room' ≡ (read_file file room).room → room' ≡ room_after (refusal (file_checks file)) (file_records file) room
  unfolding read_file
  read_room w = w ∙ ap (λ (o : Option ℕ). room_after o (file_records file) room) read_judged

  pub read_refused : (k : Refusal) → a ≡ Err k → refusal (file_checks file) ≡ some (refusal_number k)
  unfolding read_file
  read_refused k t = sym read_judged ∙ refused_by (read_refusal file room) (length (file_records file) / 16) (sym e ∙ ap meaning t)

  module _ (k : ℕ) (t : a ≡ Ok k) where
    pub read_done : (refusal (file_checks file) ≡ none) × (length (file_records file) / 16 ≡ k)
    unfolding read_file
    read_done = let d = done_by (read_refusal file room) (length (file_records file) / 16) (sym e ∙ ap meaning t) in (sym read_judged ∙ d.0, d.1)

    pub read_few : 16 * k ≤ 63488
    read_few = omega (arith, (records_whole file read_done.0).1, read_done.1)

    pub read_front : {room' : List ℕ} → room' ≡ (read_file file room).room → take (16 * k) room' ≡ file_records file
    unfolding over
    read_front w =
        let whole = (records_whole file read_done.0).0 in
        ap (take (16 * k)) (read_room w ∙ ap (λ (o : Option ℕ). room_after o (file_records file) room) read_done.0)
        ∙ take_at (file_records file) (drop (length (file_records file)) room) (16 * k) (omega (arith, whole, read_done.1))

-- OPENING apart from the lent places: the file is refused
module _ (file records edges places : List ℕ) where
  pub file_refused : {records' : List ℕ} (k : Refusal) → reading_refusal file ≡ some (refusal_number k) → records' ≡ room_after (reading_refusal file) (file_records file) records
      → FileOpened file records edges places (Err k) records' edges places
  file_refused k e w =
      let all = refusal_front (file_checks file) (built_checks (file_rows file)) e in
      record {
        answer = ap (λ (o : Option ℕ). answer_of o (opening_in file)) (sym all);
        records_after = w;
        edges_after = ap (λ (o : Option ℕ). room_after o (edge_table (file_rows file)) edges) (sym e);
        places_after = ap (λ (o : Option ℕ). room_after o (interval_table (size_of (file_rows file)) (edge_table (file_rows file))) places) (sym all);
      }

  -- it is not
  pub file_opened : {records' edges' places' part : List ℕ} {total : ℕ} (r : Result Opened Refusal) → reading_refusal file ≡ none → length (file_records file) / 16 ≡ total
      → records' ≡ room_after (reading_refusal file) (file_records file) records → part ≡ file_records file
      → RecordsOpened (record_list part) total edges places edges' places' r → FileOpened file records edges places r records' edges' places'
  file_opened {records'} {edges'} {places'} {part} {total} r e count w front h =
      let all = onward (file_checks file) (built_checks (file_rows file)) e in
      let g = subst (λ (t : List ℕ). RecordsOpened (record_list t) total edges places edges' places' r) front h in
      record {
        answer = g.0.0
            ∙ ap (λ (k : ℕ). answer_of (refusal (built_checks (file_rows file))) (opening_of (size_of (file_rows file)) (edge_count_of (file_rows file)) k)) (sym count)
            ∙ ap (λ (o : Option ℕ). answer_of o (opening_in file)) (sym all);
        records_after = w;
        edges_after = g.1 ∙ ap (λ (o : Option ℕ). room_after o (edge_table (file_rows file)) edges) (sym e);
        places_after = g.0.1 ∙ ap (λ (o : Option ℕ). room_after o (interval_table (size_of (file_rows file)) (edge_table (file_rows file))) places) (sym all);
      }

-- WHAT AN ANSWER TELLS of the file
module _ (file : List ℕ) (a : Result Opened Refusal) (e : open_meaning a ≡ answer_of (building_refusal file) (opening_in file)) where
  refused_whole : (k : Refusal) → a ≡ Err k → building_refusal file ≡ some (refusal_number k)
  refused_whole k t = refused_by (building_refusal file) (opening_in file) (sym e ∙ ap open_meaning t)

  module _ (o : Opened) (t : a ≡ Ok o) where
    answered : (building_refusal file ≡ none) × ((opening_in file) ≡ opening_of o.n o.edge_count o.total)
    answered = done_by (building_refusal file) (opening_in file) (sym e ∙ ap open_meaning t)

    file_right : reading_refusal file ≡ none
    file_right = by (reading_refusal file) refl
      where
        by : (o : Option ℕ) → reading_refusal file ≡ o → o ≡ none
        by none f = refl
        by (some j) f = let z : some j ≡ none = sym (refusal_front (file_checks file) (built_checks (file_rows file)) f) ∙ answered.0 in let y : ◌≡◌ {A = ℕ} 0 1 = cc in absurd (omega arith)

    built_right : refusal (built_checks (file_rows file)) ≡ none
    built_right = sym (onward (file_checks file) (built_checks (file_rows file)) file_right) ∙ answered.0

    n_is : size_of (file_rows file) ≡ o.n
    n_is = ap (λ (x : Opening). x.n) answered.1

    count_right_law : edge_count_of (file_rows file) ≡ o.edge_count
    count_right_law = ap (λ (x : Opening). x.edges) answered.1

    total_is : length (file_records file) / 16 ≡ o.total
    total_is = ap (λ (x : Opening). x.records) answered.1

    all_records : length (file_records file) ≡ 16 * o.total
    all_records = omega (arith, (records_whole file file_right).0, total_is)

    all_edges : length (edge_table (file_rows file)) ≡ 2 * o.edge_count
    all_edges = omega (arith, edge_table_length (file_rows file), count_right_law)

    pub few_records : 16 * o.total ≤ 63488
    few_records = omega (arith, (records_whole file file_right).1, total_is)

    pub few_edges : 2 * o.edge_count ≤ 7936
    few_edges = omega (arith, count_right_law, count_most (λ (r : List ℕ). eqb (kind_of r) 2) (file_rows file), records_length (file_records file), (records_whole file file_right).1)

-- OPENING INTO THE LENT PLACES. A refusal changes nothing
pub long_enough : (records edges places : List ℕ) → 63488 ≤ length records → 7936 ≤ length edges → 512 ≤ length places → open_short records edges places ≡ false
long_enough records edges places a b c = rw (le-ltb (length records) 63488 a, le-ltb (length edges) 7936 b, le-ltb (length places) 512 c) refl

module _ (file records edges places : List ℕ) where
  opens_refused : (k : Refusal) → open_refusal (open_short records edges places) file ≡ some (refusal_number k) → Opens (Err k) records edges places (open_file file records edges places)
  unfolding open_file
  opens_refused k e =
      record {
        answer = ap (λ (o : Option ℕ). answer_of o (opening_in file)) (sym e);
        records_after = ap (λ (o : Option ℕ). room_after o (file_records file) records) (sym e);
        edges_after = ap (λ (o : Option ℕ). room_after o (edge_table (file_rows file)) edges) (sym e);
        places_after = ap (λ (o : Option ℕ). room_after o (interval_table (size_of (file_rows file)) (edge_table (file_rows file))) places) (sym e);
      }

  -- a buffer is short
  pub opens_short : open_short records edges places ≡ true → Opens (Err Short) records edges places (open_file file records edges places)
  opens_short short = opens_refused Short (refused_here (1 when open_short records edges places) (file_checks file ++ built_checks (file_rows file)) short)

  module _ (long₁ : 63488 ≤ length records) (long₂ : 7936 ≤ length edges) (long₃ : 512 ≤ length places) where
    whole : open_refusal (open_short records edges places) file ≡ building_refusal file
    whole = refused_later (1 when open_short records edges places) (file_checks file ++ built_checks (file_rows file)) (long_enough records edges places long₁ long₂ long₃)

    -- the file is too long
    pub opens_long : 65536 < length file → Opens (Err NotBlocks) records edges places (open_file file records edges places)
    opens_long h = opens_refused NotBlocks (whole ∙ refusal_front (file_checks file) (built_checks (file_rows file)) (too_long file h))

    -- what was opened apart: refused
    module _ {read table read' table' places' : List ℕ} (a : Result Opened Refusal) (h : FileOpened file read table places a read' table' places') where
      pub apart_refused : (k : Refusal) → a ≡ Err k → Opens (Err k) records edges places' (open_file file records edges places)
      apart_refused k t =
          let r = refused_whole file a h.answer k t in
          let same : places' ≡ places = h.places_after ∙ ap (λ (x : Option ℕ). room_after x (interval_table (size_of (file_rows file)) (edge_table (file_rows file))) places) r in
          subst (λ (p : List ℕ). Opens (Err k) records edges p (open_file file records edges places)) (sym same) (opens_refused k (whole ∙ r))

      -- or handed over
      module _ (o : Opened) (t : a ≡ Ok o) where
        read_is : take (16 * o.total) read' ≡ file_records file
        unfolding over
        read_is =
            ap (take (16 * o.total)) (h.records_after ∙ ap (λ (x : Option ℕ). room_after x (file_records file) read) (file_right file a h.answer o t))
            ∙ take_at (file_records file) (drop (length (file_records file)) read) (16 * o.total) (all_records file a h.answer o t)

        table_read : take (2 * o.edge_count) table' ≡ edge_table (file_rows file)
        unfolding over
        table_read =
            ap (take (2 * o.edge_count)) (h.edges_after ∙ ap (λ (x : Option ℕ). room_after x (edge_table (file_rows file)) table) (file_right file a h.answer o t))
            ∙ take_at (edge_table (file_rows file)) (drop (length (edge_table (file_rows file))) table) (2 * o.edge_count) (all_edges file a h.answer o t)

        pub apart_done : {records' edges' : List ℕ} → records' ≡ over (take (16 * o.total) read') records → edges' ≡ over (take (2 * o.edge_count) table') edges
            → Opens (Ok o) records' edges' places' (open_file file records edges places)
        unfolding open_file
        apart_done p q =
            let none_of = whole ∙ (answered file a h.answer o t).0 in
            record {
              answer = sym (ap open_meaning t) ∙ h.answer ∙ ap (λ (x : Option ℕ). answer_of x (opening_in file)) (sym whole);
              records_after = p ∙ ap (λ (l : List ℕ). over l records) read_is ∙ ap (λ (x : Option ℕ). room_after x (file_records file) records) (sym none_of);
              edges_after = q ∙ ap (λ (l : List ℕ). over l edges) table_read ∙ ap (λ (x : Option ℕ). room_after x (edge_table (file_rows file)) edges) (sym none_of);
              places_after = h.places_after ∙ ap (λ (x : Option ℕ). room_after x (interval_table (size_of (file_rows file)) (edge_table (file_rows file))) places) (sym whole);
            }

-- WHAT AN OPENED FILE IS: its run is the run over what stands in the places, each part is within them, and its records are right
pub record Ready (file : List ℕ) (n count total : ℕ) (records edges places : List ℕ) : Type 0 where
  pub ran : run_file file ≡ done (file_run (opened_run n places edges count records total))
  pub n_most : n ≤ 256
  pub edges_most : 2 * count ≤ 7936
  pub records_most : 16 * total ≤ 63488
  pub right : every is_record (record_list (take (16 * total) records)) ≡ true
  -- what stands in the places is the file's own, and neither the file nor its hierarchy is refused
  pub read : take (16 * total) records ≡ file_records file
  pub size : n ≡ size_of (file_rows file)
  pub built : lent n (take (2 * n) places) (take (2 * count) edges) count ≡ built_of (file_rows file)
  pub file_fine : refusal (file_checks file) ≡ none
  pub built_fine : refusal (built_checks (file_rows file)) ≡ none
  pub legal : Legal n (take (2 * count) edges) count

module _ (file records edges places : List ℕ) (a : Result Opened Refusal) {records' edges' places' : List ℕ} (long₁ : 63488 ≤ length records) (long₂ : 7936 ≤ length edges) (long₃ : 512 ≤ length places)
    (e : Opens a records' edges' places' (open_file file records edges places)) where
  right : open_refusal (open_short records edges places) file ≡ building_refusal file
  right = whole file records edges places long₁ long₂ long₃

  judge : open_meaning a ≡ answer_of (building_refusal file) (opening_in file)
  unfolding open_file
  judge = e.answer ∙ ap (λ (o : Option ℕ). answer_of o (opening_in file)) right

  -- refused, as a file or as a hierarchy
  pub opened_turned : (k : Refusal) → a ≡ Err k → refusal (file_checks file ++ built_checks (file_rows file)) ≡ some (refusal_number k)
  opened_turned k t = refused_whole file a judge k t

  -- and so is the run
  pub opened_refused : (k : Refusal) → a ≡ Err k → run_file file ≡ refused (refusal_number k)
  unfolding run_file run_records
  opened_refused k t = by (reading_refusal file) refl
    where
      all : building_refusal file ≡ some (refusal_number k)
      all = refused_whole file a judge k t

      by : (o : Option ℕ) → reading_refusal file ≡ o → file_unless o file ≡ refused (refusal_number k)
      by (some j) f = let z = sym (refusal_front (file_checks file) (built_checks (file_rows file)) f) ∙ all in cc
      by none f = ap (λ (o : Option ℕ). run_unless o (file_rows file)) (sym (onward (file_checks file) (built_checks (file_rows file)) f) ∙ all)

  module _ (o : Opened) (t : a ≡ Ok o) where
    accepted_all : open_refusal (open_short records edges places) file ≡ none
    accepted_all = right ∙ (answered file a judge o t).0

    size_is : size_of (file_rows file) ≡ o.n
    size_is = n_is file a judge o t

    edges_are : edge_count_of (file_rows file) ≡ o.edge_count
    edges_are = count_right_law file a judge o t

    records_front : take (16 * o.total) records' ≡ file_records file
    unfolding open_file over
    records_front =
        ap (take (16 * o.total)) (e.records_after ∙ ap (λ (x : Option ℕ). room_after x (file_records file) records) accepted_all)
        ∙ take_at (file_records file) (drop (length (file_records file)) records) (16 * o.total) (all_records file a judge o t)

    edges_front : take (2 * o.edge_count) edges' ≡ edge_table (file_rows file)
    unfolding open_file over
    edges_front =
        ap (take (2 * o.edge_count)) (e.edges_after ∙ ap (λ (x : Option ℕ). room_after x (edge_table (file_rows file)) edges) accepted_all)
        ∙ take_at (edge_table (file_rows file)) (drop (length (edge_table (file_rows file))) edges) (2 * o.edge_count) (all_edges file a judge o t)

    places_front : take (2 * o.n) places' ≡ interval_table (size_of (file_rows file)) (edge_table (file_rows file))
    unfolding open_file over
    places_front =
        let table : List ℕ = interval_table (size_of (file_rows file)) (edge_table (file_rows file)) in
        ap (take (2 * o.n)) (e.places_after ∙ ap (λ (x : Option ℕ). room_after x table places) accepted_all)
        ∙ take_at table (drop (length table) places) (2 * o.n) (omega (arith, built_length (size_of (file_rows file)) (edge_table (file_rows file)), size_is))

    same : lent o.n (take (2 * o.n) places') (take (2 * o.edge_count) edges') o.edge_count ≡ built_of (file_rows file)
    same =
        ap (λ (i : List ℕ). lent o.n i (take (2 * o.edge_count) edges') o.edge_count) places_front
        ∙ ap (λ (g : List ℕ). lent o.n (interval_table (size_of (file_rows file)) (edge_table (file_rows file))) g o.edge_count) edges_front
        ∙ ap (λ (m : ℕ). lent m (interval_table (size_of (file_rows file)) (edge_table (file_rows file))) (edge_table (file_rows file)) o.edge_count) (sym size_is)
        ∙ ap (lent (size_of (file_rows file)) (interval_table (size_of (file_rows file)) (edge_table (file_rows file))) (edge_table (file_rows file))) (sym edges_are)

    abbrev run_over : Hierarchy → List ℕ → Answer FileRun
    run_over H bytes = done (file_run (perform_all (start_of H (record_list bytes)) (step_records (record_list bytes))))

    runs : run_file file ≡ run_over (built_of (file_rows file)) (file_records file)
    unfolding run_file run_records
    runs =
        ap (λ (x : Option ℕ). file_unless x file) (file_right file a judge o t)
        ∙ ap (λ (x : Option ℕ). run_unless x (file_rows file)) (built_right file a judge o t)

    pub opened_ready : Ready file o.n o.edge_count o.total records' edges' places'
    opened_ready =
        let size = right_size (size_of (file_rows file)) (refusal_none _ (built_right file a judge o t)).0 in
        record {
          ran = runs
              ∙ ap (λ (H : Hierarchy). run_over H (file_records file)) (sym same)
              ∙ ap (run_over (lent o.n (take (2 * o.n) places') (take (2 * o.edge_count) edges') o.edge_count)) (sym records_front);
          n_most = omega (arith, size.1, size_is);
          edges_most = few_edges file a judge o t;
          records_most = few_records file a judge o t;
          right = ap (λ (l : List ℕ). every is_record (record_list l)) records_front ∙ records_right file (file_right file a judge o t);
          read = records_front;
          size = sym size_is;
          built = same;
          file_fine = file_right file a judge o t;
          built_fine = built_right file a judge o t;
          legal =
              ap (λ (m : ℕ). refusal (hierarchy_checks m (take (2 * o.edge_count) edges') o.edge_count)) (sym size_is)
              ∙ ap (λ (g : List ℕ). refusal (hierarchy_checks (size_of (file_rows file)) g o.edge_count)) edges_front
              ∙ ap (λ (k : ℕ). refusal (hierarchy_checks (size_of (file_rows file)) (edge_table (file_rows file)) k)) (sym edges_are)
              ∙ built_right file a judge o t;
        }
