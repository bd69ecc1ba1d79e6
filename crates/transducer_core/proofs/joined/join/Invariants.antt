use Rattle.std.proofs.Common.{[], ◌∷◌, ◌++◌, map, take}
use Rattle.theory_addresses.specs.Tables.{KindTables}
use Rattle.transducer_core.specs.Merging.{AreBlocksKept}
use Rattle.transducer_core.proofs.joined.join.Given as goal

abbrev pub invariant-loop-sub : goal.invariant-loop-sub
invariant-loop-sub l = AreBlocksKept ((l.tables.mates ∷ []) ++ take l.sub-index l.tables.subs) l.joined.items.items l.joined.ends.items

abbrev pub invariant-loop-row : goal.invariant-loop-row
invariant-loop-row l = AreBlocksKept ((l.tables.mates ∷ l.tables.subs)
    ++ take l.row-index (map (λ (k : KindTables). k.types) l.tables.kinds)) l.joined.items.items
    l.joined.ends.items

abbrev pub invariant-loop-row-2 : goal.invariant-loop-row-2
invariant-loop-row-2 l = AreBlocksKept (((l.tables.mates ∷ l.tables.subs)
    ++ map (λ (k : KindTables). k.types) l.tables.kinds)
    ++ take l.row-index (map (λ (k : KindTables). k.children) l.tables.kinds)) l.joined.items.items
    l.joined.ends.items
