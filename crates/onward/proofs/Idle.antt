-- THEOREM: where nobody holds or waits after any list of steps from a fresh desk, the desk is a fresh one but for its counts of grants. Assumes nothing.
use mathlib.Core.Path.{◌≡◌, refl, sym, ap, ◌∙◌, subst}
use mathlib.Core.List.{List, [], ◌∷◌, ◌++◌}
use mathlib.Core.Bool.{Bool, true, false}
use mathlib.Core.Option.{Option, none, some}
use Prim.Native.Nat.{ℕ, zero, suc, ◌<◌}
use native.Mathlib.Omega.{arith}
use lib.Dec.{ltb}
use lib.ListN.{length, get_or, take, replicate, length-append, get_or-replicate}
use lib.Seq.{ext_get_or}
use Rattle.lists.proofs.Bools.{not_both}
use Rattle.lists.proofs.Distinct.{place_in}
use Rattle.locks.specs.declared.Mode.{Mode}
use Rattle.locks.specs.declared.Lock.{Lock}
use Rattle.locks.specs.declared.Stage.TheVariants.{Out}
use Rattle.locks.specs.Stages.{is_waiting}
use Rattle.locks.specs.Lent.{Hierarchy, lock_for}
use Rattle.arrivals.specs.Arrivals.{queue_places}
use Rattle.parties.specs.declared.Entry.{Entry}
use Rattle.parties.specs.Parties.{entry_of}
use Rattle.desk.specs.declared.Desk.{Desk}
use Rattle.desk.specs.Desks.{queue_of, fresh_desk}
use Rattle.desk.specs.Sound.{sound_desk}
use Rattle.desk.specs.Steps.{enter_own, free, enter_refusal, enter_if, enter_unless, enter_step, leave_own, after_leaving, leave_refusal, leave_unless, leave_step}
use Rattle.desk.proofs.Facts.{step_facts}
use Rattle.runs.specs.Run.{lend, Call, enter, get, put, add, leave, Step, lent_to, State, start, after_enter, after_get, after_put, after_add, after_leave, move_call, move, also_ran, run}
use Rattle.soundness.proofs.Laws.{unchanged_get, unchanged_put, unchanged_add, fresh_sound}
use Rattle.soundness.proofs.Orderly.{Shaped, sound_reads, sound_orderly}
use Rattle.soundness.proofs.Kept.{fresh_shaped, enter_shaped, leave_shaped, enter_sound, leave_sound}
use Rattle.onward.specs.Onward.{counting, Idle}

-- WHAT EVERY LIST OF STEPS KEEPS. The desk is sound over some hierarchy: the one that the last enter or leave not refused was lent
pub record Fine (d : Desk) : Type 0 where
  pub shaped : Shaped d
  pub tables : Hierarchy
  pub sound : sound_desk tables d ≡ true
  -- behind the arrival list stand zeros: the 32 places are those of a list as long as the count of the waiting
  pub list : List ℕ
  pub places : d.queue ≡ queue_places list
  pub many : d.waiting ≡ length list

pub fresh_fine : Hierarchy → Fine fresh_desk
fresh_fine H = record { shaped = fresh_shaped; tables = H; sound = fresh_sound H; list = []; places = refl; many = refl }

-- an enter keeps it: one that is refused leaves the desk, and another was lent tables over which the desk is sound
enter_fine : (K : Hierarchy) (d : Desk) (party : ℕ) (mode : Mode) (names : List ℕ) (name_count : ℕ) → Fine d → Fine (enter_step K d party mode names name_count).desk
unfolding enter_step
enter_fine K d party mode names name_count f = by (enter_refusal K d party names name_count) refl
  where
    l : Lock
    l = lock_for K mode (take name_count names)

    many : d.waiting ≡ length (queue_of d)
    many = (sound_reads f.tables d f.shaped f.sound).count

    test : (b : Bool) → Shaped (enter_if b d party l).desk → sound_desk K (enter_if b d party l).desk ≡ true → Fine (enter_if b d party l).desk
    test true shaped sound = record { shaped = shaped; tables = K; sound = sound; list = queue_of d; places = refl; many = many }
    test false shaped sound = record {
      shaped = shaped;
      tables = K;
      sound = sound;
      list = queue_of d ++ (party ∷ []);
      places = refl;
      many = omega (arith, many, length-append (queue_of d) (party ∷ []));
    }

    by : (o : Option ℕ) → enter_refusal K d party names name_count ≡ o → Fine (enter_unless o d party l).desk
    by (some k) e = f
    by none e =
        let facts = step_facts K d party (ltb (length names) name_count) (enter_own K d party names name_count) e in
        test (free d l)
        (subst (λ (o : Option ℕ). Shaped (enter_unless o d party l).desk) e (enter_shaped K d party mode names name_count f.shaped))
        (subst (λ (o : Option ℕ). sound_desk K (enter_unless o d party l).desk ≡ true) e (enter_sound K d party mode names name_count f.shaped facts.sound))

-- so does a leave
leave_fine : (K : Hierarchy) (d : Desk) (party : ℕ) (list : List ℕ) → Fine d → Fine (leave_step K d party list).desk
unfolding leave_step
leave_fine K d party list f = by (leave_refusal K d party list) refl
  where
    by : (o : Option ℕ) → leave_refusal K d party list ≡ o → Fine (leave_unless o d party list).desk
    by (some k) e = f
    by none e =
        let facts = step_facts K d party (ltb (length list) 32) (leave_own d party) e in
        record {
          shaped = subst (λ (o : Option ℕ). Shaped (leave_unless o d party list).desk) e (leave_shaped K d party list f.shaped);
          tables = K;
          sound = subst (λ (o : Option ℕ). sound_desk K (leave_unless o d party list).desk ≡ true) e (leave_sound K d party list f.shaped facts.sound);
          list = (after_leaving d party).stay;
          places = refl;
          many = refl;
        }

-- and the others change no desk
call_fine : (K : Hierarchy) (c : Call) (s : State) → Fine s.desk → Fine (move_call K c s).state.desk
unfolding move_call after_enter after_get after_put after_add after_leave
call_fine K (enter party mode names name_count) s f = enter_fine K s.desk party mode names name_count f
call_fine K (get party node l c) s f = rw (unchanged_get K s.desk party node (lend s.values l) c) f
call_fine K (put party node value l c) s f = rw (unchanged_put K s.desk party node value (lend s.values l) c) f
call_fine K (add party node number l c) s f = rw (unchanged_add K s.desk party node number (lend s.values l) c) f
call_fine K (leave party list) s f = leave_fine K s.desk party list f

pub move_fine : (x : Step) (s : State) → Fine s.desk → Fine (move x s).state.desk
unfolding move
move_fine x s f = call_fine (lent_to x s.hierarchy) x.call s f

pub run_fine : (xs : List Step) (s : State) → Fine s.desk → Fine (run xs s).state.desk
unfolding run also_ran
run_fine [] s f = f
run_fine (x ∷ xs) s f = run_fine xs (move x s).state (move_fine x s f)

-- NOBODY HOLDS OR WAITS
module _ (d : Desk) (f : Fine d) (idle : Idle d) where
  entries_out : d.entries ≡ replicate 32 (entry_of Out)
  entries_out =
      ext_get_or (entry_of Out) d.entries (replicate 32 (entry_of Out)) f.shaped.entries
      (λ i h. let b : i < 32 = omega (arith, f.shaped.entries) in ap entry_of (idle i b) ∙ sym (get_or-replicate 32 i (entry_of Out) (entry_of Out) b))

  -- whoever is listed waits
  none_waits : d.waiting ≡ 0
  none_waits = by d.waiting refl
    where
      by : (w : ℕ) → d.waiting ≡ w → d.waiting ≡ 0
      by zero e = e
      by (suc w) e =
          let reads = sound_reads f.tables d f.shaped f.sound in
          let o = sound_orderly f.tables d (queue_of d) reads f.shaped.entries f.sound in
          let p : ℕ = get_or (queue_of d) 0 0 in
          let m = place_in (queue_of d) 0 (omega (arith, reads.count)) in
          not_both true refl (sym (o.waits p m) ∙ ap is_waiting (idle p (o.parties p m)))

  places_empty : d.queue ≡ queue_places []
  places_empty = by f.list f.places (sym none_waits ∙ f.many)
    where
      by : (list : List ℕ) → d.queue ≡ queue_places list → 0 ≡ length list → d.queue ≡ queue_places []
      by [] e m = e
      by (p ∷ list) e m = absurd (omega arith)

  fine_fresh : d ≡ counting d.grants fresh_desk
  fine_fresh =
      ap (λ (es : List Entry). record { entries = es; queue = d.queue; waiting = d.waiting; grants = d.grants }) entries_out
      ∙ ap (λ (q : List ℕ). record { entries = replicate 32 (entry_of Out); queue = q; waiting = d.waiting; grants = d.grants }) places_empty
      ∙ ap (λ (w : ℕ). record { entries = replicate 32 (entry_of Out); queue = queue_places []; waiting = w; grants = d.grants }) none_waits

-- THE THEOREM: the desk that any list leaves, where nobody holds or waits, is a fresh one with the counts that it has
pub idle_fresh : (H : Hierarchy) (values : List ℕ) (xs : List Step) → let d = (run xs (start H values)).state.desk in Idle d → d ≡ counting d.grants fresh_desk
idle_fresh H values xs idle = fine_fresh (run xs (start H values)).state.desk (run_fine xs (start H values) (fresh_fine H)) idle
