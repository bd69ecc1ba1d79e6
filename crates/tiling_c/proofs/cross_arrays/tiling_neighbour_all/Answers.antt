use Rattle.std.proofs.Common.{◌<◌, ℕ, inl, inr, length, get_or, refl, subst}
use Rattle.rule_model.specs.Tiling.{tiling_of}
use Rattle.tiling_c.specs.Arrays.{crossing_at, plain_address_at}
use Rattle.tiling_c.specs.Crossing.{ShowsCrossingInArray}
use Rattle.tiling_c.proofs.cross_arrays.tiling_neighbour_all.Goals as goal

pub returns-then-addrs-edges-clause-shown : goal.returns-then-addrs-edges-clause-shown
returns-then-addrs-edges-clause-shown c = record {
  each = λ e. absurd (cc e);
  not_asked = (λ _ both. c.if-addrs-edges.true both.0, λ _. refl);
  statuses = inr refl;
}

pub returns-then-crossings-edges-clause-shown : goal.returns-then-crossings-edges-clause-shown
returns-then-crossings-edges-clause-shown c = record {
  each = λ e. absurd (cc e);
  not_asked = (λ _ both. c.if-crossings-edges.true both.1, λ _. refl);
  statuses = inr refl;
}

pub returns-clause-shown : goal.returns-clause-shown
returns-clause-shown c = record {
  each = λ _. subst (λ r. (i : ℕ) → i < length c.args.edges.now → ShowsCrossingInArray (tiling_of r) (plain_address_at c.args.addrs.now i)
      (get_or c.args.edges.now i 0) (plain_address_at c.cross_all.new.addrs i) (crossing_at c.cross_all.new.crossings i))
      c.get.ensures c.cross_all.ensures;
  not_asked = (λ e. absurd (cc e), λ other. absurd (other (c.if-addrs-edges.false, c.if-crossings-edges.false)));
  statuses = inl refl;
}
