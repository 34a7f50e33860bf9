-- Who stands in a newcomer's way, by the sets of the calls, as by the reaches of the names. Assumes nothing.
use mathlib.Core.Path.{◌≡◌, refl, sym, ap, ap₂, ◌∙◌}
use mathlib.Core.List.{List, [], ◌∷◌}
use mathlib.Core.Bool.{false, not, ◌&&◌}
use Prim.Native.Nat.{ℕ, zero, suc, ◌+◌, ◌-◌, ◌*◌, ◌/◌, ◌≤◌, ◌<◌}
use native.Mathlib.Omega.{arith}
use lib.Dec.{eqb, ltb}
use lib.ListN.{length, get_or, set, replicate, length-set, get_or-eq_default}
use lib.Seq.{get_or-set_same, get_or-set_other, set_out}
use borrow.Author.Tests.{eqb-true, eqb-false, ltb-true, ltb-false, le-ltb}
use Rattle.lists.specs.Lists.{any, any_below}
use Rattle.lists.proofs.Bools.{bool, or_neither}
use Rattle.lists.proofs.Bounded.{same_any, any_further}
use Rattle.lists.proofs.Marks.{zero_at}
use Rattle.hierarchy.specs.Hierarchy.{flagged, reach, in_reach}
use Rattle.hierarchy.proofs.Reaches.{reach_long}
use Rattle.locks.specs.declared.Mode.{Mode}
use Rattle.locks.specs.declared.Stage.{Stage}
use Rattle.locks.specs.declared.Stage.TheVariants.{Out, Waiting, Holding}
use Rattle.locks.specs.Locks.{compatible}
use Rattle.parties.specs.declared.Entry.{Entry}
use Rattle.parties.specs.Parties.{stage_in}
use Rattle.reach_sets.specs.declared.NodeSet.{NodeSet}
use Rattle.reach_sets.specs.Sets.{meets, set_to, joined_with, call_set}
use Rattle.reach_sets.proofs.Stores.{put_same, put_other, put_long}
use Rattle.reach_sets.proofs.Calls.{call_has, call_long}
use Rattle.needless.specs.Waits.{nothing_named, names_of, reaches_meet, in_way}
use Rattle.needless.specs.Inner.{set_in_way, some_in_way, Sets, Called}

-- ---- the reaches

-- a node from n on is in no reach
past : (n : ℕ) (es names : List ℕ) (y : ℕ) → n ≤ y → in_reach n es names y ≡ false
unfolding any
past n es [] y h = refl
past n es (name ∷ names) y h =
    or_neither (flagged (reach n es name) y) (in_reach n es names y)
    (ap (λ (f : ℕ). not (eqb f 0)) (get_or-eq_default (reach n es name) 0 {n = y} (omega (arith, reach_long n es name))))
    (past n es names y h)

module _ (n : ℕ) (es sets : List ℕ) (k : Sets n es sets) where
  -- the sets of two calls meet where the reaches of their names do
  pub meets_names : (names others : List ℕ) → meets (call_set sets names) (call_set sets others) ≡ reaches_meet n es names others
  meets_names names others =
      let e : (256 - n) + n ≡ 256 = omega (arith, k.few) in
      ap (λ (t : List ℕ). meets (call_set t names) (call_set t others)) k.are
      ∙ same_any _ (λ node. in_reach n es names node && in_reach n es others node) 256 (λ y h. ap₂ ◌&&◌ (call_has n es names y h) (call_has n es others y h))
      ∙ ap (λ (m : ℕ). any_below m (λ node. in_reach n es names node && in_reach n es others node)) (sym e)
      ∙ any_further (λ node. in_reach n es names node && in_reach n es others node) n (256 - n) (λ y h. ap (◌&& in_reach n es others y) (past n es names y h))

  -- so a party stands in the way by the sets where it does by the reaches
  stage_way : (mode : Mode) (names : List ℕ) (s : Stage) (theirs : List ℕ) → set_in_way s (call_set sets theirs) mode (call_set sets names) ≡ in_way n es mode names s theirs
  stage_way mode names Out theirs = refl
  stage_way mode names (Waiting l) theirs = ap (not (compatible l.mode mode) &&◌) (meets_names theirs names)
  stage_way mode names (Holding l) theirs = ap (not (compatible l.mode mode) &&◌) (meets_names theirs names)

  pub some_way : (entries : List Entry) (named : List (List ℕ)) (called : List ℕ) → Called sets named called → (mode : Mode) (names : List ℕ)
      → some_in_way entries called mode (call_set sets names) ≡ any_below 32 (λ party. in_way n es mode names (stage_in entries party) (names_of named party))
  some_way entries named called c mode names =
      same_any _ _ 32
      (λ party h. ap (λ (s : NodeSet). set_in_way (stage_in entries party) s mode (call_set sets names)) (c.each party h) ∙ stage_way mode names (stage_in entries party) (names_of named party))

-- ---- the sets of the parties' calls

-- at first nobody has called
pub called_start : (sets : List ℕ) → Called sets nothing_named (replicate 128 0)
unfolding joined_with
called_start sets =
    record {
      parties = refl;
      long = refl;
      each = λ party h.
          rw (zero_at 128 (4 * party), zero_at 128 (4 * party + 1), zero_at 128 (4 * party + 2), zero_at 128 (4 * party + 3))
          (ap (λ (names : List ℕ). call_set sets names) (sym (nobody 32 party)));
    }
  where
    nobody : (m i : ℕ) → ◌≡◌ {A = List ℕ} (get_or (replicate m []) i []) []
    nobody zero i = refl
    nobody (suc m) zero = refl
    nobody (suc m) (suc i) = nobody m i

-- one party has; a number that is no party's changes nothing
pub called_more : (sets : List ℕ) (named : List (List ℕ)) (called : List ℕ) → Called sets named called → (party : ℕ) (names : List ℕ)
    → Called sets (set named party names) (set_to called party (call_set sets names))
called_more sets named called c party names =
    bool (ltb party 32)
    (λ t.
    let h : party < length called / 4 = omega (arith, ltb-true party 32 t, c.long) in
    record {
      parties = length-set named party names ∙ c.parties;
      long = put_long called party (call_set sets names) h ∙ c.long;
      each = λ other g.
          bool (eqb other party)
          (λ e.
          let q = eqb-true other party e in
          rw q
          (put_same called party (call_set sets names) h (call_long sets names)
          ∙ ap (λ (ns : List ℕ). call_set sets ns) (sym (get_or-set_same named party names [] (omega (arith, ltb-true party 32 t, c.parties))))))
          (λ e.
          let d = eqb-false other party e in
          put_other called party (call_set sets names) h other d ∙ c.each other g
          ∙ ap (λ (ns : List ℕ). call_set sets ns) (sym (get_or-set_other named party other names [] d)));
    })
    (λ t.
    let l = ltb-false party 32 t in
    rw (set_out named party names (omega (arith, l, c.parties)), le-ltb party (length called / 4) (omega (arith, l, c.long))) c)
