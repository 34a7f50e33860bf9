-- Terms of contracts: no definition of the paper is here. Assumes nothing.
use Rattle.std.specs.Prelude.{Bool, not, ◌&&◌, ◌||◌, ℕ, ltb}
use Rattle.locks.specs.declared.Lock.{Lock}
use Rattle.locks.specs.Locks.{real_interval}
use Rattle.locks.specs.Lent.{Hierarchy, cover_right, keeps_names, covers_names}

-- an interval is not real, or not inside another
abbrev pub outside : (low high least most : ℕ) → Bool
outside low high least most = not (real_interval low high) || ltb low least || ltb most high

-- what is asked of one hold, or waiting call, whoever else is at the desk: three clauses of a sound desk
abbrev pub lock_fits : Hierarchy → Lock → Bool
lock_fits H l = cover_right H l && keeps_names H l && covers_names H l
