-- THE STEP LINK (02, point 11): a new edge while the desk is open. Assumes nothing.
use Rattle.std.specs.Prelude.{ℕ, ◌+◌, ◌*◌, Bool, false, not, ◌&&◌, ◌||◌, ltb, List, [], ◌∷◌, length, nat_lt}
use Rattle.std.proofs.Math.Option.{Option, none, some}
use Rattle.lists.specs.Lists.{any_below}
use Rattle.lists.specs.Answer.{Answer, done, refused, Check, ◌when◌, refusal}
use Rattle.hierarchy.specs.Hierarchy.{some_edge, size_wrong, edges_too_many, edge_wrong, same_edge}
use Rattle.locks.specs.declared.Stage.{Stage}
use Rattle.locks.specs.declared.Stage.TheVariants.{Out, Waiting, Holding}
use Rattle.locks.specs.Stages.{is_out, is_waiting, reads_only, adds_only}
use Rattle.locks.specs.Lent.{Hierarchy, tables_short, interval_wrong, inside_lock}
use Rattle.waiters.specs.Recovered.{edges_in, link_tables, link_entries}
use Rattle.desk.specs.declared.Desk.{Desk}
use Rattle.desk.specs.Desks.{stage_at}
use Rattle.desk.specs.Sound.{sound_desk}
use Rattle.desk.specs.Steps.{search_after}

-- 1: an edge table with no place for one more edge, or point 6's scratch shorter than 256 bytes
abbrev pub link_short : Hierarchy → (scratch : List ℕ) → Bool
link_short H scratch = nat_lt (length H.edges) (2 * (H.edge_count + 1)) || nat_lt (length scratch) 256

-- the node's interval lies inside what a party holds; one that does not hold has nothing
abbrev pub inside_hold : Hierarchy → ℕ → Stage → Bool
inside_hold H node Out = false
inside_hold H node (Waiting l) = false
inside_hold H node (Holding l) = inside_lock H node l

-- what link looks at: 1 as every step, and above; 5; 6, 7 and 8 of the new edge, 6 and 7 of the table, too; 10 and 11 as every step; 13 and 14 as put; 16, an end's
-- interval isn't inside the hold's; 17 for a reading visit, 18 for an adding one
abbrev pub link_checks : Hierarchy → Desk → (party parent child : ℕ) → (scratch : List ℕ) → List Check
link_checks H d party parent child scratch =
    1 when (tables_short H || link_short H scratch)
    ∷ 5 when size_wrong H.n
    ∷ 6 when edges_too_many (H.edge_count + 1)
    ∷ 7 when (some_edge (edge_wrong H.n) (edges_in H) || edge_wrong H.n parent child)
    ∷ 8 when some_edge (same_edge parent child) (edges_in H)
    ∷ 10 when (any_below H.n (interval_wrong H) || not (sound_desk H d))
    ∷ 11 when ltb 31 party
    ∷ 13 when is_out (stage_at d party)
    ∷ 14 when is_waiting (stage_at d party)
    ∷ 16 when not (inside_hold H parent (stage_at d party) && inside_hold H child (stage_at d party))
    ∷ 17 when reads_only (stage_at d party)
    ∷ 18 when adds_only (stage_at d party)
    ∷ []

-- the number of the refusal
abbrev pub link_refusal : Hierarchy → Desk → (party parent child : ℕ) → (scratch : List ℕ) → Option ℕ
link_refusal H d party parent child scratch = refusal (link_checks H d party parent child scratch)

-- the desk after a link: waiters may have another cover, and keep their turn; arrival order and counts stay. Over tables that no build and no links have made, where a
-- parent's interval need not contain its child's, it may be one that is not sound: that it is sound over built and linked hierarchies is still to be proved
abbrev pub link_desk : Hierarchy → (parent child : ℕ) → Desk → Desk
link_desk H parent child d = record { entries = link_entries H parent child d.entries; queue = d.queue; waiting = d.waiting; grants = d.grants }

-- what link leaves: the next desk, the tables in what it was lent, with the edge count from then on, the scratch, and its answer
pub record LinkResult : Type 0 where
  pub desk : Desk
  pub tables : Hierarchy
  pub scratch : List ℕ
  pub answer : Answer (Unit {0})

-- a refusal changes nothing but the scratch
abbrev pub link_unless : Option ℕ → Hierarchy → Desk → (parent child : ℕ) → (scratch : List ℕ) → LinkResult
link_unless (some k) H d parent child scratch = record { desk = d; tables = H; scratch = scratch; answer = refused k }
link_unless none H d parent child scratch = record { desk = link_desk H parent child d; tables = link_tables H parent child; scratch = scratch; answer = done tt }

-- a party that holds for writing adds an edge between two nodes whose intervals lie inside its hold's. The scratch is left as after a get (point 6)
unfoldable pub link_step : Hierarchy → Desk → (party parent child : ℕ) → (scratch : List ℕ) → LinkResult
link_step H d party parent child scratch =
    link_unless (link_refusal H d party parent child scratch) H d parent child (search_after (tables_short H || link_short H scratch) scratch)
