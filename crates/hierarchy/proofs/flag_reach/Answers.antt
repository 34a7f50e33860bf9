-- `flag_reach` meets its contract: the names are flagged, and the flags spread. Assumes nothing.
use lib.ListN.{length}
use Rattle.hierarchy.proofs.Unions.{search_bits, search_all}
use Rattle.hierarchy.proofs.flag_reach.Goals as goal

pub spread_all-requires : goal.spread_all-requires
spread_all-requires c = search_bits (length c.args.flags.now) _ _ _ (c.fill.ensures.after (λ y h. h))
    c.flag_names.ensures

pub returns : goal.returns
returns c = search_all _ _ _ _ (c.fill.ensures.after (λ y h. h)) c.flag_names.ensures _ _ c.spread_all.ensures
