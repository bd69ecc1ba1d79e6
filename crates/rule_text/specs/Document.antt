-- The rule that a document stands for, or its first fault.
use Rattle.std.specs.Prelude.{ℕ, List, [], ◌∷◌, Some, Result, codes}
use Rattle.theory_substitution.specs.Rule.{EdgeType, Kind}
use Rattle.cyclo_points.specs.declared.order.Order.{Order}
use Rattle.cyclo_points.specs.declared.point.Point.{Point}
use Rattle.rule_model.specs.Tiling.{ListedRule}
use Rattle.toml.specs.Data.{Members, as_integer}
use Rattle.rule_text.specs.declared.key.Key.TheVariants as key
use Rattle.rule_text.specs.declared.place.Place.TheVariants.{Top, InType, InKind}
use Rattle.rule_text.specs.declared.text_fault.TextFault.{TextFault}
use Rattle.rule_text.specs.Forms.{each, integer_list, row, rows, tables}
use Rattle.rule_text.specs.Ranges.{number_below, format_of, order_of, file_point, child_in_row}
use Rattle.rule_text.specs.Steps.{◌>>=◌, value_at, unless_further, in_order}

-- the keys of a type, of a kind, and of the document
abbrev pub type_keys : List (List ℕ)
type_keys = codes "mate" ∷ codes "parts" ∷ []

abbrev pub kind_keys : List (List ℕ)
kind_keys = codes "vertices" ∷ codes "edges" ∷ codes "children" ∷ []

abbrev pub top_keys : List (List ℕ)
top_keys = codes "format" ∷ codes "order" ∷ codes "lambda" ∷ codes "glue" ∷ codes "type" ∷ codes "kind" ∷ []

-- the edge type of entry number ty
unfoldable pub type_in : ℕ → Members → Result EdgeType TextFault
type_in ty members = do
  mate ← value_at (key.Mate ty) (codes "mate") as_integer (number_below 32) members
  parts ← value_at (key.Parts ty) (codes "parts") integer_list (each (number_below 32)) members
  unless_further type_keys (InType ty) members (record { mate = mate; parts = parts })

-- the kind of entry number k
unfoldable pub kind_in : Order → ℕ → Members → Result (Kind Point) TextFault
kind_in order k members = do
  vertices ← value_at (key.Vertices k) (codes "vertices") (rows 4) (each (file_point order)) members
  edges ← value_at (key.Edges k) (codes "edges") integer_list (each (number_below 32)) members
  children ← value_at (key.Children k) (codes "children") (rows 6) (each (child_in_row order)) members
  unless_further kind_keys (InKind k) members
      (record { vertices = vertices; edges = edges; children = children })

-- the edge types: first the key itself, then each entry
unfoldable pub types_in : Members → Result (List EdgeType) TextFault
types_in members = value_at key.TypeList (codes "type") tables Some members >>= in_order type_in 0

-- the kinds: first the key itself, then each entry
unfoldable pub kinds_in : Order → Members → Result (List (Kind Point)) TextFault
kinds_in order members =
    value_at key.KindList (codes "kind") tables Some members >>= in_order (kind_in order) 0

-- the rule of the document
unfoldable pub rule_of_members : Members → Result ListedRule TextFault
rule_of_members members = do
  edition ← value_at key.Format (codes "format") as_integer format_of members
  order ← value_at key.Order (codes "order") as_integer (order_of edition) members
  factor ← value_at key.Lambda (codes "lambda") (row 4) (file_point order) members
  glue ← value_at key.Glue (codes "glue") integer_list (each (number_below 32)) members
  types ← types_in members
  kinds ← kinds_in order members
  unless_further top_keys Top members
      (record {
        edition = edition;
        order = order;
        rule = record { factor = factor; glue = glue; types = types; kinds = kinds };
      })
