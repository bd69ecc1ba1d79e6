use Rattle.std.proofs.Common.{◌≡◌, [], ◌∷◌, ◌++◌, length, refl, ap, ◌∙◌, arith}
use Rattle.tile_place.specs.Keys.{FitsKey}
use Rattle.tile_place.proofs.EachOrder.{order-fits}
use Rattle.window_cover.specs.declared.found_tile.FoundTile.{FoundTile}
use Rattle.window_cover.specs.Descending.{found_part}
use Rattle.window_cover.specs.Found.{CoverValue}
use Rattle.window_cover.proofs.Keeping.{kept-one_more, found-one_more}
use Rattle.window_cover.proofs.cover.Cover.put.Goals as goal

pub invariant_of-self-2 : goal.invariant_of-self-2
invariant_of-self-2 c =
    let held = c.self.inside.found.ok in
    let count : c.len.result ≡ length c.self.inside.found.items = omega (arith, held, c.len.ensures) in
    let digits = c.self.inside.digits.ok in
    let first : c.len-first.result ≡ length c.self.inside.digits.items = omega (arith, digits, c.len-first.ensures) in
    let own = c.args.digits.now in
    let depth : length own ≡ length own = refl in
    let tile : FoundTile = record { motion = c.args.part.now.motion; first = c.len-first.result; kind = c.args.part.now.kind; depth = length own } in
    let turn = c.requires.part.turn_below in
    let kinds = c.checked-usable.ensures.usable.numbered.at_most_16_kinds in
    let turns = order-fits c.args.machine.now.order in
    let key : FitsKey c.args.part.now.motion c.args.part.now.kind = record {
      within = c.requires.part.within;
      turn_fits = omega
          (arith, turn, turns);
      kind_fits = omega (arith, kinds, c.requires.part.kind_exists);
    } in
    kept-one_more c.self.inside.digits.items c.extend_from_slice.new.self.items own
    c.in_ok-extend_from_slice.ensures.items tile first depth c.requires.at_most_64
    c.self.inside.found.items c.push.new.self.items c.in_ok-push.ensures.items
    key c.self.inside.border c.self.inside.border c.self.invariant (omega (arith, count, c.if-len-ge-MOST_TILES.false)) (omega arith)

pub returns : goal.returns
returns c = record {
  put = λ _.
      let held = c.self.inside.found.ok in
      let digits = c.self.inside.digits.ok in
      let first : c.len-first.result ≡ length c.self.inside.digits.items = omega (arith, digits, c.len-first.ensures) in
      let own = c.args.digits.now in
      let depth : length own ≡ length own = refl in
      let tile : FoundTile = record {
        motion = c.args.part.now.motion;
        first = c.len-first.result;
        kind = c.args.part.now.kind;
        depth = length own;
      } in
      record {
        same_window = ap (λ (v : CoverValue). v.window) c.self.view_is;
        same_border = ap (λ (v : CoverValue). v.border) c.self.view_is;
        found = found-one_more c.self.inside.digits.items c.extend_from_slice.new.self.items own
            c.in_ok-extend_from_slice.ensures.items tile first depth c.requires.at_most_64
            c.self.inside.found.items c.push.new.self.items c.in_ok-push.ensures.items c.self.invariant.spans
            ∙ ap (λ (v : CoverValue). v.found ++ found_part c.args.part.now own ∷ []) c.self.view_is;
      };
}
