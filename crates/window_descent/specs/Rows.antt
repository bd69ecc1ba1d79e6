-- The children of supertiles, and bounds for their vertices, each made only once.
use Rattle.std.specs.Prelude.{◌≡◌, ℕ, ◌+◌, ◌*◌, ◌<◌, ◌≤◌, ◌^◌, All, List, [], map, length, get_or, None}
use Rattle.std.specs.Option.{IfSome}
use Rattle.theory_substitution.specs.Rule.{children_of}
use Rattle.cyclo_points.specs.declared.order.Order.{Order}
use Rattle.cyclo_points.specs.declared.point.Point.{Point}
use Rattle.cyclo_points.specs.Order.{points_of}
use Rattle.cyclo_points.specs.Point.{point_in, IsOf, IsWithin}
use Rattle.theory_frames.specs.Looked.{powers_from}
use Rattle.rule_model.specs.declared.rule.Rule.{Rule}
use Rattle.rule_model.specs.Views.{rule_of}
use Rattle.window_descent.specs.declared.part.Part.{Part}
use Rattle.window_descent.specs.declared.row_key.RowKey.{RowKey}
use Rattle.window_descent.specs.declared.rows.Rows.{Rows}
use Rattle.window_descent.specs.declared.bounds.Bounds.{Bounds}
use Rattle.window_descent.specs.Bounds.{AreBounds}
pub use Rattle.window_descent.specs.Parts.{only_turned}
use Rattle.window_descent.specs.Parts.{IsPartAt}

-- the place of the row and the bounds of a level, a kind and a turn
abbrev pub row_place : ℕ → ℕ → ℕ → ℕ
row_place level kind turn = (level * 16 + kind) * 16 + turn

-- the rule has such supertiles
pub record IsRowOf (m : Rule) (row : RowKey) : Type 0 where
  pub kind_exists : row.kind < length (rule_of m).kinds
  pub turn_below : row.turn < (points_of m.order).order

-- a value for a place without a part
abbrev pub no_part : Part
no_part = record { kind = 0; motion = only_turned 0 }

-- from this place on, the list has the children of the kind, as parts of a supertile that is turned and not
-- shifted
pub record IsChildRow (m : Rule) (scale : Point) (kind turn : ℕ) (parts : List Part)
    (first : ℕ) : Type 0 where
  pub fits : first + length (children_of (rule_of m) kind) ≤ length parts
  pub each : (i : ℕ) → i < length (children_of (rule_of m) kind)
      → IsPartAt m kind i scale (only_turned turn) (get_or parts (first + i) no_part)

-- the number of levels that have rows, and the power of the inflation factor at one of them
abbrev pub levels_of : Rows → ℕ
levels_of rows = length rows.powers.items

abbrev pub scale_of : Rows → ℕ → Point
scale_of rows level = get_or rows.powers.items level (record { c = [] })

-- the powers are those of the inflation factor, and all rows and bounds that are made are right
pub record AreRows (m : Rule) (rows : Rows) : Type 0 where
  pub powers : map (point_in m.order) rows.powers.items
      ≡ powers_from (points_of m.order) (rule_of m).factor 0 (levels_of rows)
  pub powers_within : All (IsWithin (2 ^ 24)) rows.powers.items
  pub room : length rows.firsts.items ≡ levels_of rows * 256
  pub made : (level kind turn : ℕ) → level < levels_of rows → kind < length (rule_of m).kinds
      → turn < (points_of m.order).order
      → IfSome (get_or rows.firsts.items (row_place level kind turn) None)
      (IsChildRow m (scale_of rows level) kind turn rows.children.items)
  pub bounds_room : length rows.bounds.items ≡ levels_of rows * 256
  pub bounded : (level kind turn : ℕ) → level < levels_of rows → kind < length (rule_of m).kinds
      → turn < (points_of m.order).order
      → IfSome (get_or rows.bounds.items (row_place level kind turn) None)
      (AreBounds m (scale_of rows level) kind turn)

-- the rule has such supertiles, and the rows their level
pub record HasRow (m : Rule) (rows : Rows) (row : RowKey) : Type 0 where
  pub level_exists : row.level < levels_of rows
  pub turned : IsRowOf m row

-- the list has the children of a row from this place on
abbrev pub HasChildren : Rule → Rows → RowKey → List Part → ℕ → Type 0
HasChildren m rows row = IsChildRow m (scale_of rows row.level) row.kind row.turn

-- the bounds are those of the supertiles of a row
abbrev pub HasBounds : Rule → Rows → RowKey → Bounds → Type 0
HasBounds m rows row = AreBounds m (scale_of rows row.level) row.kind row.turn

-- the second list begins with the parts of the first
pub record IsLonger (xs ys : List Part) : Type 0 where
  pub longer : length xs ≤ length ys
  pub same : (i : ℕ) → i < length xs → get_or ys i no_part ≡ get_or xs i no_part

-- the part is the other one, shifted further
pub record IsShifted (other : Part) (shift : Point) (p : Part) : Type 0 where
  pub same_kind : p.kind ≡ other.kind
  pub same_turn : p.motion.turn ≡ other.motion.turn
  pub sum : (o : Order) → point_in o p.motion.shift
      ≡ (points_of o).ring.add (point_in o other.motion.shift) (point_in o shift)
  pub within : IsWithin (2 ^ 24) p.motion.shift
  pub in_order : (o : Order) → IsOf o other.motion.shift → IsOf o shift → IsOf o p.motion.shift
