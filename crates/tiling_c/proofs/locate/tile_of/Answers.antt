use Rattle.std.proofs.Common.{◌≡◌, ◌<◌, Err, inl, inr, refl, sym, ap, ◌∙◌, subst}
use Rattle.cyclo_points.specs.Motion.{motion_in}
use Rattle.cyclo_points.specs.Point.{point_in}
use Rattle.rule_model.specs.Tiling.{tiling_of}
use Rattle.c_values.specs.Statuses.{outside}
use Rattle.c_values.specs.Tiles.{GivesMotion}
use Rattle.c_values.specs.Windows.{point_given}
use Rattle.tiling_c.specs.Locate.{IsLocated, IsLocatedBy}
use Rattle.tiling_c.proofs.Moved.{given_moved}
use Rattle.tiling_c.proofs.locate.tile_of.Goals as goal

pub returns-in_default-clause-refused : goal.returns-in_default-clause-refused
returns-in_default-clause-refused c =
    let order = c.order.ensures.order ∙ ap (λ r. r.order) c.checked.ensures.rule in
    inl (
      refl,
      λ asks. absurd (cc (c.in_default.ensures.given.1
          (subst (λ o. GivesMotion o c.args.top.now) (sym order) asks.tile.motion_given))),
    )

pub returns-in_default-point-clause-refused : goal.returns-in_default-point-clause-refused
returns-in_default-point-clause-refused c = inl (refl, λ asks. absurd (cc (c.in_default-point.ensures.near.1 asks.near)))

pub returns-in-Ok-clause-given : goal.returns-in-Ok-clause-given
returns-in-Ok-clause-given c =
    let t = tiling_of c.args.machine.now in
    let order = c.order.ensures.order ∙ ap (λ r. r.order) c.checked.ensures.rule in
    let order-2 = c.order-2.ensures.order ∙ ap (λ r. r.order) c.checked-2.ensures.rule in
    let point = c.in-Some-point.ensures.point ∙ ap (λ o. point_given o c.args.point.now.c) order-2 in
    let inside = c.in-Ok.ensures.found_exactly.0 refl in record {
      asks = record {
        tile = record {
          kind_exists = subst (λ n. c.args.top.now.kind < n) c.kinds_of.ensures c.if-top-kinds_of.false;
          motion_given = subst (λ o. GivesMotion o c.args.top.now) order (c.in-Some.ensures.given.0 refl);
        };
        no_deeper = c.if-depth-gt64.false;
        near = c.in-Some-point.ensures.near.0 refl;
      };
      located = given_moved (λ m p. IsLocated t c.args.top.now.kind c.args.depth (motion_in t.order m) (point_in t.order p) c.in-Ok.found)
          _ _ _ _ c.in-Some.ensures.motion point (record {
            only = c.in-Ok.ensures.only_tile;
            of_supertile = c.in-Ok.ensures.of_supertile;
            by = record {
              found = (λ _. inside, λ _. refl);
              not_inside = (λ e. absurd (cc e), λ w. absurd (w.1 inside.1));
            };
          });
    }

pub returns-in-Err-NotInside-clause-refused : goal.returns-in-Err-NotInside-clause-refused
returns-in-Err-NotInside-clause-refused c =
    let t = tiling_of c.args.machine.now in
    let order = c.order.ensures.order ∙ ap (λ r. r.order) c.checked.ensures.rule in
    let order-2 = c.order-2.ensures.order ∙ ap (λ r. r.order) c.checked-2.ensures.rule in
    let point = c.in-Some-point.ensures.point ∙ ap (λ o. point_given o c.args.point.now.c) order-2 in
    let is = subst (λ f. c.locate.result ≡ Err f) c.in-Err-NotInside.field-0-is c.in-Err-NotInside.is in
    let found = c.in-Err-NotInside.ensures in inr (record {
      asks = record {
        tile = record {
          kind_exists = subst (λ n. c.args.top.now.kind < n) c.kinds_of.ensures c.if-top-kinds_of.false;
          motion_given = subst (λ o. GivesMotion o c.args.top.now) order (c.in-Some.ensures.given.0 refl);
        };
        no_deeper = c.if-depth-gt64.false;
        near = c.in-Some-point.ensures.near.0 refl;
      };
      by = given_moved (λ m p. IsLocatedBy t c.args.top.now.kind c.args.depth (motion_in t.order m) (point_in t.order p) outside)
          _ _ _ _ c.in-Some.ensures.motion point (record {
            found = (λ e. absurd (cc e), λ w. absurd (cc (found.found_exactly.1 w)));
            not_inside = (λ _. c.locate.ensures.not_inside.0 is, λ _. refl);
          });
      statuses = inr refl;
    })
