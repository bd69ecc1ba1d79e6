use Rattle.std.proofs.Common.{◌<◌, ℕ, inl, inr, length, refl, subst}
use Rattle.rule_model.specs.Tiling.{tiling_of}
use Rattle.tiling_c.specs.Arrays.{plain_address_at, plain_tile_at}
use Rattle.tiling_c.specs.Placing.{ShowsPlaceInArray}
use Rattle.tiling_c.proofs.place_arrays.tiling_place_all.Goals as goal

pub returns-then-addrs-tiles-clause-shown : goal.returns-then-addrs-tiles-clause-shown
returns-then-addrs-tiles-clause-shown c = record {
  each = λ e. absurd (cc e);
  not_asked = (λ _. c.if-addrs-tiles.true, λ _. refl);
  statuses = inr refl;
}

pub returns-clause-shown : goal.returns-clause-shown
returns-clause-shown c = record {
  each = λ _. subst (λ r. (i : ℕ) → i < length c.args.addrs.now → ShowsPlaceInArray (tiling_of r)
      (plain_address_at c.args.addrs.now i) (plain_tile_at c.put_places.new.tiles i)) c.get.ensures c.put_places.ensures;
  not_asked = (λ e. absurd (cc e), λ other. absurd (other c.if-addrs-tiles.false));
  statuses = inl refl;
}
