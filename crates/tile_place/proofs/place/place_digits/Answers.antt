use Rattle.tile_place.proofs.Beside.{places}
use Rattle.tile_place.proofs.place.place_digits.Goals as goal

pub returns-in-Four : goal.returns-in-Four
returns-in-Four g c =
    let p = places (g.P.Placing.tiling c.args.rule.now) _ c.order-order.result c.order-order.ensures c.placement_law.ensures c.requires.fits
    c.horner.result c.horner.ensures.placed c.horner.ensures.moves c.horner.ensures.visits in
    record {
      beside = p.beside;
      within = p.within;
      turn_below = p.turn_below;
      shift_within = p.shift_within;
      in_order = p.in_order;
      limit = p.limit;
      limit_in_order = p.limit_in_order;
    }

pub returns-in-Six : goal.returns-in-Six
returns-in-Six g c =
    let p = places (g.P.Placing.tiling c.args.rule.now) _ c.order-order.result c.order-order.ensures c.placement_law.ensures c.requires.fits
    c.horner-in-Six.result c.horner-in-Six.ensures.placed c.horner-in-Six.ensures.moves c.horner-in-Six.ensures.visits in
    record {
      beside = p.beside;
      within = p.within;
      turn_below = p.turn_below;
      shift_within = p.shift_within;
      in_order = p.in_order;
      limit = p.limit;
      limit_in_order = p.limit_in_order;
    }

pub returns-in-Eight : goal.returns-in-Eight
returns-in-Eight g c =
    let p = places (g.P.Placing.tiling c.args.rule.now) _ c.order-order.result c.order-order.ensures c.placement_law.ensures c.requires.fits
    c.horner-in-Eight.result c.horner-in-Eight.ensures.placed c.horner-in-Eight.ensures.moves c.horner-in-Eight.ensures.visits in
    record {
      beside = p.beside;
      within = p.within;
      turn_below = p.turn_below;
      shift_within = p.shift_within;
      in_order = p.in_order;
      limit = p.limit;
      limit_in_order = p.limit_in_order;
    }

pub returns-in-Ten : goal.returns-in-Ten
returns-in-Ten g c =
    let p = places (g.P.Placing.tiling c.args.rule.now) _ c.order-order.result c.order-order.ensures c.placement_law.ensures c.requires.fits
    c.horner-in-Ten.result c.horner-in-Ten.ensures.placed c.horner-in-Ten.ensures.moves c.horner-in-Ten.ensures.visits in
    record {
      beside = p.beside;
      within = p.within;
      turn_below = p.turn_below;
      shift_within = p.shift_within;
      in_order = p.in_order;
      limit = p.limit;
      limit_in_order = p.limit_in_order;
    }
