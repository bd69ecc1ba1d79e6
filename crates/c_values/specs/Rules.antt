-- What the plain numbers of a rule stand for. Each of its lists is at the front of an array; all numbers
-- behind it are 0.
use Rattle.std.specs.Prelude.{◌≤◌, ℕ, ◌-◌, List, [], ◌++◌, map, length, replicate, pos}
use Rattle.theory_substitution.specs.Rule as theory
use Rattle.cyclo_points.specs.declared.point.Point.{Point}
use Rattle.cyclo_points.specs.Order.{points_of}
use Rattle.rule_model.specs.declared.edition.Edition.{Edition}
use Rattle.rule_model.specs.declared.edition.Edition.TheVariants.{One, Two}
use Rattle.rule_model.specs.declared.kind_row.KindRow.{KindRow}
use Rattle.rule_model.specs.Tiling.{ListedRule}
use Rattle.c_values.specs.declared.plain_edge_type.PlainEdgeType.{PlainEdgeType}
use Rattle.c_values.specs.declared.plain_kind.PlainKind.{PlainKind}
use Rattle.c_values.specs.declared.plain_outline.PlainOutline.{PlainOutline}
use Rattle.c_values.specs.declared.plain_point.PlainPoint.{PlainPoint}
use Rattle.c_values.specs.declared.plain_rule_numbers.PlainRuleNumbers.{PlainRuleNumbers}
use Rattle.c_values.specs.declared.plain_tile.PlainTile.{PlainTile}
use Rattle.c_values.specs.Tiles.{tile_as, refused_as}

-- a list at the front of an array with room for so many, and blanks behind it
unfoldable pub padded : {A : Type 0} → ℕ → A → List A → List A
padded room blank xs = xs ++ replicate (room - length xs) blank

-- a point by its coefficients, and the point 0
abbrev pub point_as : Point → PlainPoint
point_as p = record { c = p.c }

abbrev pub zero_point : PlainPoint
zero_point = record { c = replicate 4 (pos 0) }

-- corners
abbrev pub outline_as : List Point → PlainOutline
outline_as points = record { corners = padded 12 zero_point (map point_as points); count = length points }

-- an edge type, and one without parts
abbrev pub type_as : theory.EdgeType → PlainEdgeType
type_as t = record { mate = t.mate; count = length t.parts; parts = padded 8 0 t.parts }

abbrev pub no_type : PlainEdgeType
no_type = type_as (record { mate = 0; parts = [] })

-- a child: a tile of its kind, at its place in the inflated prototile
abbrev pub child_as : theory.Child Point → PlainTile
child_as c = tile_as c.kind (record { turn = c.motion.turn; shift = c.motion.shift }) 0

-- a kind, and one without vertices, edges and children
abbrev pub kind_as : theory.Kind Point → PlainKind
kind_as k = record {
  prototile = outline_as k.vertices;
  children = padded 16 (refused_as 0) (map child_as k.children);
  edges = padded 12 0 k.edges;
  child_count = length k.children;
}

abbrev pub no_kind : PlainKind
no_kind = kind_as (record { vertices = []; edges = []; children = [] })

-- the `format` of the rule files of an edition
abbrev pub file_format : Edition → ℕ
file_format One = 1
file_format Two = 2

-- a rule: its order and its edition, and all of its lists with their lengths
abbrev pub rule_as : ListedRule → PlainRuleNumbers
rule_as x = record {
  factor = point_as x.rule.factor;
  kinds = padded 16 no_kind (map kind_as x.rule.kinds);
  types = padded 32 no_type (map type_as x.rule.types);
  glue = padded 16 0 x.rule.glue;
  format = file_format x.edition;
  order = (points_of x.order).order;
  kind_count = length x.rule.kinds;
  type_count = length x.rule.types;
  glue_count = length x.rule.glue;
}

-- a kind whose lists have room in the arrays
pub record HasRoom (k : KindRow) : Type 0 where
  pub vertices : length k.vertices.items ≤ 12
  pub edges : length k.edges.items ≤ 12
  pub children : length k.children.items ≤ 16
