-- What stands behind its edges in the edge table makes no difference to a step. Assumes nothing.
use mathlib.Core.Path.{◌≡◌, refl, sym, ap, ap₂, ◌∙◌}
use mathlib.Core.List.{List}
use mathlib.Core.Bool.{Bool}
use Prim.Native.Nat.{ℕ, ◌*◌}
use native.Mathlib.Nat.{le_refl}
use native.Mathlib.Omega.{arith}
use lib.Dec.{ltb}
use lib.ListN.{length, get_or, take, length-take}
use lib.Seq.{take-take}
use borrow.Author.Tests.{ltb-true, ltb-false, lt-ltb, le-ltb}
use Rattle.lists.specs.Answer.{Check, refusal}
use Rattle.hierarchy.specs.Hierarchy.{edges_of, in_reach}
use Rattle.naming.specs.Names.{names_of}
use Rattle.lists.proofs.Bools.{bool}
use Rattle.locks.specs.declared.Stage.{Stage}
use Rattle.desk.specs.declared.Desk.{Desk}
use Rattle.locks.specs.Stages.{held_names}
use Rattle.locks.specs.Lent.{Hierarchy, in_named, lock_for}
use Rattle.desk.specs.Desks.{stage_at}
use Rattle.parties.specs.Sound.{sound_parties}
use Rattle.desk.specs.Steps.{get_own, put_own, add_own, leave_own, enter_own, step_checks, value_checks, enter_unless, enter_step}
use Rattle.desk.specs.Steps.{values_short, scratch_left, node_checks, get_unless, get_step, put_unless, put_step, sum64, add_step, leave_unless, leave_step}
use Rattle.runs.specs.Run.{lend, Call, enter, get, put, add, leave, State, after_enter, after_get, after_put, after_add, after_leave, move_call}

-- the hierarchy with just its edges in the table
abbrev pub exact : Hierarchy → Hierarchy
exact H = record { n = H.n; intervals = H.intervals; edges = edges_of H.edges H.edge_count; edge_count = H.edge_count }

-- a table is shorter than needed where its first places are
front_short : (k : ℕ) (t : List ℕ) → ltb (length (take k t)) k ≡ ltb (length t) k
front_short k t =
    bool (ltb (length t) k)
    (λ e. let h = ltb-true (length t) k e in lt-ltb (length (take k t)) k (omega (arith, length-take k t)) ∙ sym e)
    (λ e. let h = ltb-false (length t) k e in le-ltb (length (take k t)) k (omega (arith, length-take k t)) ∙ sym e)

-- every step looks at the same
checks_exact : (H : Hierarchy) (d : Desk) (party : ℕ) (short : Bool) (own : List Check) → step_checks (exact H) d party short own ≡ step_checks H d party short own
unfolding sound_parties
checks_exact H d party short own =
    rw (front_short (2 * H.edge_count) H.edges, take-take (2 * H.edge_count) (2 * H.edge_count) H.edges (le_refl (2 * H.edge_count))) refl

-- the reach of the names is the same
reach_exact : (H : Hierarchy) (node : ℕ) (x : Stage) → in_named (exact H) node x ≡ in_named H node x
reach_exact H node x =
    ap (λ (es : List ℕ). in_reach H.n es (names_of (held_names x)) node) (take-take (2 * H.edge_count) (2 * H.edge_count) H.edges (le_refl (2 * H.edge_count)))

-- and so get, put and add look at the same,
values_exact : (H : Hierarchy) (d : Desk) (party node : ℕ) (values scratch : List ℕ) (own : List Check)
    → value_checks (exact H) d party node values scratch own ≡ value_checks H d party node values scratch own
values_exact H d party node values scratch own =
    checks_exact H d party (values_short H values scratch) (node_checks (exact H) d party node own)
    ∙ rw (reach_exact H node (stage_at d party)) refl

-- and leave the same scratch
scratch_exact : (H : Hierarchy) (values scratch : List ℕ) → scratch_left (exact H) values scratch ≡ scratch_left H values scratch
scratch_exact H values scratch = rw (front_short (2 * H.edge_count) H.edges) refl

-- so each does the same
pub call_exact : (H : Hierarchy) (c : Call) (s : State) → move_call (exact H) c s ≡ move_call H c s
unfolding move_call enter_step get_step put_step add_step leave_step
call_exact H (enter party mode names name_count) s =
    ap (λ (cs : List Check). after_enter party s (enter_unless (refusal cs) s.desk party (lock_for H mode (take name_count names))))
    (checks_exact H s.desk party (ltb (length names) name_count) (enter_own H s.desk party names name_count))
call_exact H (get party node l scratch) s =
    let values : List ℕ = lend s.values l in
    ap₂ (λ (cs : List Check) (left : List ℕ). after_get party node s (get_unless (refusal cs) s.desk (get_or values node 0) left))
    (values_exact H s.desk party node values scratch (get_own s.desk party)) (scratch_exact H values scratch)
call_exact H (put party node value l scratch) s =
    let values : List ℕ = lend s.values l in
    ap₂ (λ (cs : List Check) (left : List ℕ). after_put party node value s (put_unless (refusal cs) s.desk node value values left))
    (values_exact H s.desk party node values scratch (put_own s.desk party)) (scratch_exact H values scratch)
call_exact H (add party node number l scratch) s =
    let values : List ℕ = lend s.values l in
    ap₂ (λ (cs : List Check) (left : List ℕ). after_add party node number s (put_unless (refusal cs) s.desk node (sum64 (get_or values node 0) number) values left))
    (values_exact H s.desk party node values scratch (add_own s.desk party)) (scratch_exact H values scratch)
call_exact H (leave party list) s =
    ap (λ (cs : List Check). after_leave party s (leave_unless (refusal cs) s.desk party list))
    (checks_exact H s.desk party (ltb (length list) 32) (leave_own s.desk party))
