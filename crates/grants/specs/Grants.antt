-- 02, POINT 4, GRANTS BY PARTY: the desk's counts of grants, one for each of the 32 parties. Assumes nothing.
use Rattle.std.specs.Prelude.{List, [], ◌∷◌, ℕ, suc, min, get_or, set, replicate}

-- no party has a grant
abbrev pub no_grants : List ℕ
no_grants = replicate 32 0

-- a count with one grant more; each count stops at 4,294,967,295
abbrev pub one_grant_more : ℕ → ℕ
one_grant_more count = min (suc count) 4294967295

-- a grant counts for the party that is granted
abbrev pub count_grant : List ℕ → ℕ → List ℕ
count_grant grants party = set grants party (one_grant_more (get_or grants party 0))

-- the grants of several parties, in their order
unfoldable pub count_grants : List ℕ → List ℕ → List ℕ
count_grants grants [] = grants
count_grants grants (party ∷ parties) = count_grants (count_grant grants party) parties
