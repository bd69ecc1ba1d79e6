-- The glue edges of the kinds of a rule, and their other sides.
use Rattle.std.specs.Prelude.{◌≡◌, ℕ, ◌<◌, ◌^◌, Bool, List, length, get_or, nat_eq, Option, None, Some, IfSome}
use Rattle.theory_substitution.specs.Rule.{Rule}
use Rattle.theory_substitution.specs.RuleParts.{mate, edge_type}
use Rattle.cyclo_points.specs.Motion.{motion_in}
use Rattle.cyclo_points.specs.Point.{IsWithin}
use Rattle.rule_model.specs.Glue.{IsGlueEdge, IsOnlyGlueEdge}
use Rattle.rule_model.specs.Tiling.{Tiling}
use Rattle.tile_place.specs.Glued.{Glues}
use Rattle.half_glue.specs.declared.glue_side.GlueSide.{GlueSide}
use Rattle.half_glue.specs.declared.glue_side.OtherSide.{OtherSide}
use Rattle.half_glue.specs.WholeTiles.{HasNoGlueEdge}

-- true if the type of edge f of kind l is the mate of the type of edge e of kind k
abbrev pub are_mates : {A : Type 0} → Rule A → ℕ → ℕ → ℕ → ℕ → Bool
are_mates r k e l f = nat_eq (edge_type r l f) (mate r (edge_type r k e))

-- the tiling has a kind k, of which e is a glue edge
pub record HasGlue (t : Tiling) (k e : ℕ) : Type 0 where
  pub exists : k < length t.rule.kinds
  pub glue_edge : IsGlueEdge t.rule k e

-- the motion brings the glue edge of this other kind onto the reverse of edge e of kind k
pub record IsOtherSide (t : Tiling) (k e : ℕ) (o : OtherSide) : Type 0 where
  pub back_edge : ℕ
  pub glue_edge : IsGlueEdge t.rule o.kind back_edge
  pub other_kind : ¬ o.kind ≡ k
  pub glues : Glues t k e o.kind back_edge (motion_in t.order o.glue)
  pub within : IsWithin (2 ^ 8) o.glue.shift

-- it is the only glue edge of kind k, and the other side is right
pub record IsSide (t : Tiling) (k : ℕ) (s : GlueSide) : Type 0 where
  pub only : IsOnlyGlueEdge t.rule k s.edge
  pub other : IfSome s.other (IsOtherSide t k s.edge)

-- kind k has this glue edge, or none
abbrev pub IsSideOf : Tiling → ℕ → Option GlueSide → Type 0
IsSideOf t k None = HasNoGlueEdge t k
IsSideOf t k (Some s) = IsSide t k s

-- this holds for each kind
pub record AreSides (t : Tiling) (sides : List (Option GlueSide)) : Type 0 where
  pub each_kind : length sides ≡ length t.rule.kinds
  pub each : (k : ℕ) → k < length sides → IsSideOf t k (get_or sides k None)
