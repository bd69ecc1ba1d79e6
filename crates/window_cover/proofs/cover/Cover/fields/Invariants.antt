use Rattle.std.proofs.Common.{take}
use Rattle.window_cover.specs.Reach.{HoldEach}
use Rattle.window_cover.specs.Words.{AreFields}
use Rattle.window_cover.proofs.cover.Cover.fields.Given as goal

-- the fields hold the tiles before
abbrev pub invariant-loop-number : goal.invariant-loop-number
invariant-loop-number l = record {
  fields : AreFields l.fields;
  held : HoldEach l.fields (take l.number l.fn.self.found);
}
