-- THEOREMS: the bounds of a call, over any table; then what holds of every legal hierarchy. Least and greatest number are over the reach as a relation of
-- paths. Assumes nothing.
use mathlib.Core.Path.{◌≡◌, refl, sym, ap, ◌∙◌, subst}
use mathlib.Core.List.{List, [], ◌∷◌, ◌++◌, map, append-nil}
use mathlib.Core.Bool.{true, ◌||◌}
use mathlib.Core.Option.{Option, none, some}
use Prim.Native.Nat.{ℕ, zero, suc, ◌+◌, ◌*◌, ◌≤◌, ◌<◌}
use native.Mathlib.Omega.{arith}
use lib.Dec.{ltb}
use lib.ListN.{length, get_or, take, drop, length-append}
use lib.Seq.{take-append_seam, append_snoc}
use borrow.Author.Tests.{ltb-false}
use Rattle.lists.specs.Lists.{over}
use Rattle.lists.specs.Answer.{Answer, done, ◌when◌, answer_of, room_after}
use Rattle.hierarchy.specs.Hierarchy.{edges_of, Edge, Reach, reach, hierarchy_checks, Legal}
use Rattle.hierarchy.specs.Hierarchy.Reach.{self, step}
use Rattle.intervals.specs.Numbering.{numbering}
use Rattle.intervals.specs.Intervals.{low_of, high_of, intervals_from, interval_table}
use Rattle.covers.specs.Cover.{low_at, high_at, interval_at, call_interval}
use Rattle.intervals.specs.Build.{build_short, build_refusal, build_step}
use Rattle.covers.specs.declared.Interval.{Interval}
use Rattle.lists.proofs.Bools.{or_left, or_right, not_both}
use Rattle.lists.proofs.Refusals.{refused_later, refusal_none}
use Rattle.lists.proofs.Members.{In, head, tail, in_nil, in_cons, least_most, least_is, greatest_least, greatest_is}
use Rattle.hierarchy.proofs.Reaches.{onto, reach_all_law, reach_only, reach_within}
use Rattle.hierarchy.proofs.Legals.{Promise, promised}
use Rattle.intervals.proofs.Extremes.{reach_numbered as numbered-in, low_most as least-low, low_is as least-is-low, high_least as greatest-high, high_is as greatest-is-high}
use Rattle.interval_laws.specs.Covers.{running}
use Rattle.covers.proofs.Bounds.{first_name, one_name_more}
use Rattle.interval_laws.proofs.Numbers.{numbering_most, numbering_once}

-- an interval of numbers from 1 to n
pub record Real (n low high : ℕ) : Type 0 where
  pub from_one : 1 ≤ low
  pub ordered : low ≤ high
  pub to_most : high ≤ n

-- the second interval lies inside the first
pub record Inside (low high low' high' : ℕ) : Type 0 where
  pub low_end : low ≤ low'
  pub high_end : high' ≤ high

-- the two intervals share a number
pub record Shared (low high low' high' : ℕ) : Type 0 where
  pub number : ℕ
  pub in_first : (low ≤ number) × (number ≤ high)
  pub in_second : (low' ≤ number) × (number ≤ high')

-- the table has low and high in turn
table_at : (n : ℕ) (es : List ℕ) (k node i : ℕ) → i < k
    → (get_or (intervals_from n es k node) (2 * i) 0 ≡ low_of n es (node + i)) × (get_or (intervals_from n es k node) (2 * i + 1) 0 ≡ high_of n es (node + i))
unfolding intervals_from
table_at n es zero node i h = absurd (omega arith)
table_at n es (suc k) node zero h = let e : node ≡ node + 0 = omega arith in (ap (low_of n es) e, ap (high_of n es) e)
table_at n es (suc k) node (suc i) h =
    let two : 2 * suc i ≡ suc (suc (2 * i)) = omega arith in
    let three : suc (suc (2 * i)) + 1 ≡ suc (suc (2 * i + 1)) = omega arith in
    let e : suc node + i ≡ node + suc i = omega arith in
    let r = table_at n es k (suc node) i (omega arith) in
    rw (two, three) (r.0 ∙ ap (low_of n es) e, r.1 ∙ ap (high_of n es) e)

table_length : (n : ℕ) (es : List ℕ) (k node : ℕ) → length (intervals_from n es k node) ≡ 2 * k
unfolding intervals_from
table_length n es zero node = refl
table_length n es (suc k) node = let r = table_length n es k (suc node) in omega arith

-- the built table has 2n numbers, low and high in turn for each node
pub built_length : (n : ℕ) (es : List ℕ) → length (interval_table n es) ≡ 2 * n
unfolding interval_table
built_length n es = table_length n es n 0

pub built_low : (n : ℕ) (es : List ℕ) (node : ℕ) → node < n → low_at (interval_table n es) node ≡ low_of n es node
unfolding interval_table
built_low n es node h = let e : 0 + node ≡ node = omega arith in (table_at n es n 0 node h).0 ∙ ap (low_of n es) e

pub built_high : (n : ℕ) (es : List ℕ) (node : ℕ) → node < n → high_at (interval_table n es) node ≡ high_of n es node
unfolding interval_table
built_high n es node h = let e : 0 + node ≡ node = omega arith in (table_at n es n 0 node h).1 ∙ ap (high_of n es) e

-- what holds of the image of each holds of all that is mapped to
map_is : (f : ℕ → ℕ) (P : ℕ → Type 0) (names : List ℕ) → ((r : ℕ) → In r names → P (f r)) → (y : ℕ) → In y (map f names) → P y
map_is f P [] g y i = in_nil i
map_is f P (r ∷ rs) g y i = in_cons i (λ e. subst P e (g r head)) (map_is f P rs (λ q j. g q (tail j)) y)

in_map : (f : ℕ → ℕ) (r : ℕ) (names : List ℕ) → In r names → In (f r) (map f names)
in_map f r [] i = in_nil i
in_map f r (q ∷ names) i = in_cons i (λ e. subst (λ (k : ℕ). In (f r) (k ∷ map f names)) (ap f (sym e)) head) (λ j. tail (in_map f r names j))

-- THE BOUNDS OF A CALL (02, point 3): the least low and the greatest high of its names, at most the low of each and the low of one of them, at least the
-- high of each and the high of one
pub record Bounds (table names : List ℕ) (call : Interval) : Type 0 where
  pub low_each : (r : ℕ) → In r names → call.low ≤ low_at table r
  pub low_one : (r : ℕ) × In r names × (low_at table r ≡ call.low)
  pub high_each : (r : ℕ) → In r names → high_at table r ≤ call.high
  pub high_one : (r : ℕ) × In r names × (high_at table r ≡ call.high)

module _ (table : List ℕ) where
  -- the call's interval has them,
  pub call_bounds : (names : List ℕ) → 1 ≤ length names → Bounds table names (call_interval table names)
  call_bounds [] h = absurd (omega arith)
  call_bounds (x ∷ xs) h =
      let names : List ℕ = x ∷ xs in
      let lows = map (low_at table) names in
      let highs = map (high_at table) names in
      let low-of : ℕ → Type 0 = λ k. (r : ℕ) × In r names × (low_at table r ≡ k) in
      let high-of : ℕ → Type 0 = λ k. (r : ℕ) × In r names × (high_at table r ≡ k) in
      record {
        low_each = λ r i. least_most (low_at table r) lows (in_map (low_at table) r names i);
        low_one = least_is low-of (low_at table x) lows head (map_is (low_at table) low-of names (λ r i. (r, i, refl)));
        high_each = λ r i. greatest_least (high_at table r) highs (in_map (high_at table) r names i);
        high_one = greatest_is high-of (high_at table x) highs head (map_is (high_at table) high-of names (λ r i. (r, i, refl)));
      }

  -- and no other interval does, of these names or of others with the same members
  pub bounds_only : (names others : List ℕ) (call : Interval) → ((r : ℕ) → In r names → In r others) → ((r : ℕ) → In r others → In r names) → Bounds table names call
      → call ≡ call_interval table others
  bounds_only names [] call f g b = in_nil (f b.low_one.0 b.low_one.1)
  bounds_only names (x ∷ xs) call f g b =
      let others : List ℕ = x ∷ xs in
      let c = call_bounds others (omega arith) in
      let low : call.low ≡ (call_interval table others).low
      = omega (arith, b.low_each c.low_one.0 (g c.low_one.0 c.low_one.1), c.low_one.2, c.low_each b.low_one.0 (f b.low_one.0 b.low_one.1), b.low_one.2) in
      let high : call.high ≡ (call_interval table others).high
      = omega (arith, b.high_each c.high_one.0 (g c.high_one.0 c.high_one.1), c.high_one.2, c.high_each b.high_one.0 (f b.high_one.0 b.high_one.1), b.high_one.2) in
      rw (low, high)

  -- so neither the order of the names counts nor how often each is given
  pub same_members : (names others : List ℕ) → ((r : ℕ) → In r names → In r others) → ((r : ℕ) → In r others → In r names) → call_interval table names ≡ call_interval table others
  same_members [] [] f g = refl
  same_members [] (x ∷ xs) f g = in_nil (g x head)
  same_members (x ∷ xs) others f g = bounds_only (x ∷ xs) others (call_interval table (x ∷ xs)) f g (call_bounds (x ∷ xs) (omega arith))

  -- THE RUNNING VALUES: the bounds of some names, taken on from name to name, are those of these names and all behind them,
  running_is : (before names : List ℕ) → 1 ≤ length before → running table (call_interval table before) names ≡ call_interval table (before ++ names)
  unfolding running
  running_is before [] h = ap (call_interval table) (sym (append-nil before))
  running_is before (x ∷ xs) h =
      ap (λ (b : Interval). running table b xs) (sym (one_name_more table before x h))
      ∙ running_is (before ++ (x ∷ [])) xs (omega (arith, length-append before (x ∷ [])))
      ∙ ap (call_interval table) (append_snoc before x xs)

  -- so that, started with the first name's interval, they are after each name the bounds of the names so far: after k names behind the first, for each k
  pub names_so_far : (name : ℕ) (names : List ℕ) (k : ℕ) → Bounds table (name ∷ take k names) (running table (interval_at table name) (take k names))
  names_so_far name names k =
      subst (Bounds table (name ∷ take k names))
      (sym (ap (λ (b : Interval). running table b (take k names)) (sym (first_name table name)) ∙ running_is (name ∷ []) (take k names) (omega arith)))
      (call_bounds (name ∷ take k names) (omega arith))

  -- a name given twice counts once
  pub name_once : (r : ℕ) (names : List ℕ) → In r names → call_interval table (r ∷ names) ≡ call_interval table names
  name_once r names i = same_members (r ∷ names) names (λ q j. in_cons j (λ e. subst (λ (k : ℕ). In k names) e i) (λ k. k)) (λ q j. tail j)

module _ (n : ℕ) (table : List ℕ) (edge_count : ℕ) (legal : Legal n table edge_count) where
  abbrev es : List ℕ
  es = edges_of table edge_count

  promise : Promise n es
  promise = promised n table edge_count legal

  ends : (p c : ℕ) → Edge es p c → c < n
  ends p c e = (promise.edge p c e).child_below

  -- a node's number, 0 where it has none
  abbrev number : ℕ → ℕ
  number node = get_or (numbering n es) node 0

  -- every number is between 1 and n (a node without one has 0 here)
  pub number_within : (node : ℕ) → number node ≤ n
  number_within node = numbering_most n es promise.some node

  -- and taken once
  pub number_once : (i j : ℕ) → 1 ≤ number i → number i ≡ number j → i ≡ j
  number_once i j = numbering_once n es promise.some i j

  -- the reach as a set is the reach as a relation
  pub reach_agrees : (node x : ℕ) → node < n → (Reach es node x → 1 ≤ get_or (reach n es node) x 0) × (1 ≤ get_or (reach n es node) x 0 → Reach es node x)
  reach_agrees node x h = (reach_all_law es n ends node x h, reach_only es n ends node x)

  -- each reach holds a numbered node
  pub reach_numbered : (node : ℕ) → node < n → (x : ℕ) × Reach es node x × (1 ≤ number x)
  reach_numbered = numbered-in n es promise

  module _ (node : ℕ) (h : node < n) where
    -- low is the least number among the nodes reached: at most each, and one of them
    pub low_most : (x : ℕ) → Reach es node x → 1 ≤ number x → low_of n es node ≤ number x
    low_most = least-low n es promise node h

    pub low_is : (P : ℕ → Type 0) → ((x : ℕ) → Reach es node x → 1 ≤ number x → P (number x)) → P (low_of n es node)
    low_is = least-is-low n es promise node h

    -- high is the greatest
    pub high_least : (x : ℕ) → Reach es node x → 1 ≤ number x → number x ≤ high_of n es node
    high_least = greatest-high n es promise node h

    pub high_is : (P : ℕ → Type 0) → ((x : ℕ) → Reach es node x → 1 ≤ number x → P (number x)) → P (high_of n es node)
    high_is = greatest-is-high n es promise node h

    -- each interval is real, within 1 to n
    pub interval_real : Real n (low_of n es node) (high_of n es node)
    interval_real =
        let f = reach_numbered node h in
        record {
          from_one = low_is (λ k. 1 ≤ k) (λ x w k. k);
          ordered = omega (arith, low_most f.0 f.1 f.2, high_least f.0 f.1 f.2);
          to_most = high_is (λ k. k ≤ n) (λ x w k. number_within x);
        }

  -- the interval of a node contains that of each node that it reaches
  pub reached_inside : (a b : ℕ) → a < n → b < n → Reach es a b → Inside (low_of n es a) (high_of n es a) (low_of n es b) (high_of n es b)
  reached_inside a b ha hb w =
      record {
        low_end = low_is b hb (λ k. low_of n es a ≤ k) (λ x v k. low_most a ha x (onto w v) k);
        high_end = high_is b hb (λ k. k ≤ high_of n es a) (λ x v k. high_least a ha x (onto w v) k);
      }

  -- each interval lies inside node 0's
  pub interval_inside_root : (node : ℕ) → node < n → Inside (low_of n es 0) (high_of n es 0) (low_of n es node) (high_of n es node)
  interval_inside_root node h = reached_inside 0 node promise.some h (promise.reached node h)

  -- a parent's interval contains each child's
  pub child_inside : (parent child : ℕ) → Edge es parent child → Inside (low_of n es parent) (high_of n es parent) (low_of n es child) (high_of n es child)
  child_inside parent child e = reached_inside parent child (promise.edge parent child e).parent_below (promise.edge parent child e).child_below (step e self)

  -- nodes with a common reach have intervals that share a number
  pub common_share : (a b x : ℕ) → a < n → b < n → Reach es a x → Reach es b x → Shared (low_of n es a) (high_of n es a) (low_of n es b) (high_of n es b)
  common_share a b x ha hb v w =
      let f = reach_numbered x (reach_within n ends v ha) in
      record {
        number = number f.0;
        in_first = (low_most a ha f.0 (onto v f.1) f.2, high_least a ha f.0 (onto v f.1) f.2);
        in_second = (low_most b hb f.0 (onto w f.1) f.2, high_least b hb f.0 (onto w f.1) f.2);
      }

-- WHAT BUILDING TAKES AND WRITES. Where it answers unrefused, the hierarchy is legal, nothing was short, and the places begin with the intervals
pub record Taken (n : ℕ) (edges : List ℕ) (edge_count : ℕ) (places scratch : List ℕ) : Type 0 where
  pub legal : Legal n edges edge_count
  pub edges_long : 2 * edge_count ≤ length edges
  pub wrote : take (2 * n) (build_step n edges edge_count places scratch).places ≡ interval_table n (edges_of edges edge_count)

unrefused : (o : Option ℕ) → ◌≡◌ {A = Answer (Unit {0})} (answer_of o tt) (done tt) → o ≡ none
unrefused none e = refl
unrefused (some k) e = not_both true refl cc

pub taken : (n : ℕ) (edges : List ℕ) (edge_count : ℕ) (places scratch : List ℕ) → (build_step n edges edge_count places scratch).answer ≡ done tt
    → Taken n edges edge_count places scratch
unfolding build_step over
taken n edges edge_count places scratch e =
    let o : build_refusal n edges edge_count places scratch ≡ none = unrefused (build_refusal n edges edge_count places scratch) e in
    let short = (refusal_none (1 when build_short n edges edge_count places scratch ∷ hierarchy_checks n edges edge_count) o).0 in
    let table : List ℕ = interval_table n (edges_of edges edge_count) in
    record {
      legal = sym (refused_later (1 when build_short n edges edge_count places scratch) (hierarchy_checks n edges edge_count) short) ∙ o;
      edges_long =
          ltb-false (length edges) (2 * edge_count)
          (or_right (ltb (length places) (2 * n)) (ltb (length edges) (2 * edge_count))
          (or_left (ltb (length places) (2 * n) || ltb (length edges) (2 * edge_count)) (ltb (length scratch) 512) short));
      wrote =
          ap (λ (r : Option ℕ). take (2 * n) (room_after r table places)) o
          ∙ ap (λ (k : ℕ). take k (table ++ drop (length table) places)) (sym (built_length n (edges_of edges edge_count)))
          ∙ take-append_seam table (drop (length table) places);
    }
