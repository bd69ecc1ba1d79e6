use Rattle.std.proofs.Common.{◌≡◌, ◌+◌, length, sym, ◌∙◌, subst, arith}
use Rattle.std.proofs.lemmas.Grind.{common_steps}
use Rattle.half_glue.specs.Found.{IsNumberOfGiven}
use Rattle.half_glue.proofs.AmongTiles.{kind-is, brings-none, brings-both, brings-crossed}
use Rattle.half_glue.proofs.pairs.put_covered.Goals as goal

pub returns-else-is_less : goal.returns-else-is_less
returns-else-is_less c =
    let tiles = c.args.tiles.now in
    let m = c.in-Given.other in
    let own = kind-is tiles c.args.number c.requires.below c.kind-kind.result c.kind-kind.ensures in
    let its = kind-is tiles m (subst (IsNumberOfGiven tiles) c.in-Given.is c.requires.numbered) c.kind-other_kind.result c.kind-other_kind.ensures in
    record {
      pairs = brings-none tiles c.args.number (length c.args.made.now.crossed.items) c.args.made.now.pairs.items
          c.args.made.now.pairs.items c.args.found c.kind-kind.result own m c.in-Given.is
          c.kind-other_kind.result its (sym c.is_less.ensures ∙ c.if-is_less.false);
      crossed = grind (arith, common_steps, c.in-Given.is);
    }

pub returns-in_ok-push-in-Crossed-2 : goal.returns-in_ok-push-in-Crossed-2
returns-in_ok-push-in-Crossed-2 c =
    let tiles = c.args.tiles.now in
    let own = kind-is tiles c.args.number c.requires.below c.kind-kind.result c.kind-kind.ensures in
    let held = c.args.made.now.crossed.ok in
    let far : c.len-count.result + c.len-crossed.result ≡ length tiles + length c.args.made.now.crossed.items
    = omega (arith, c.len-count.ensures, c.len-crossed.ensures, held) in
    record {
      pairs = brings-crossed tiles c.args.number (length c.args.made.now.crossed.items) c.args.made.now.pairs.items
          c.push-in-Crossed.new.self.items c.args.found c.kind-kind.result own c.in-Crossed.other
          c.in-Crossed.is
          c.pair_of-both.result (c.len-count.result + c.len-crossed.result) far c.pair_of-both.ensures c.in_ok-push-in-Crossed.ensures.items;
      crossed = grind (arith, common_steps, c.in-Crossed.is);
    }

pub returns-in_ok-push-in-Given : goal.returns-in_ok-push-in-Given
returns-in_ok-push-in-Given c =
    let m = c.in-Given.other in
    let its = kind-is c.args.tiles.now m (subst (IsNumberOfGiven c.args.tiles.now) c.in-Given.is c.requires.numbered)
    c.kind-other_kind.result c.kind-other_kind.ensures in
    record {
      pairs = brings-both c.args.tiles.now c.args.number (length c.args.made.now.crossed.items) c.args.made.now.pairs.items
          c.push-then-is_less.new.self.items c.args.found c.kind-kind.result
          (kind-is c.args.tiles.now c.args.number c.requires.below c.kind-kind.result c.kind-kind.ensures) m c.in-Given.is
          c.kind-other_kind.result its (sym c.is_less.ensures ∙ c.if-is_less.true) c.in_ok-push-in-Given.ensures.items;
      crossed = grind (arith, common_steps, c.in-Given.is);
    }
