-- The document by which a rule is written.
use Rattle.std.specs.Prelude.{◌≡◌, ℕ, pos, List, ◌∷◌, All, length, map, codes}
use Rattle.std.specs.Ordering.{match_ordering, nat_cmp}
use Rattle.std.specs.Cmp.Lexicographic.{slice_cmp}
use Rattle.theory_substitution.specs.Rule.{Child, EdgeType, Kind}
use Rattle.cyclo_points.specs.declared.point.Point.{Point}
use Rattle.cyclo_points.specs.Order.{points_of}
use Rattle.toml.specs.Data.{Data, integer, array, table, Members, no_members, member}
use Rattle.toml.specs.View.{items_of}
use Rattle.rule_model.specs.declared.edition.Edition.{Edition}
use Rattle.rule_model.specs.declared.edition.Edition.TheVariants.{One, Two}
use Rattle.rule_model.specs.Tiling.{ListedRule}

-- the members, with a value put at a key, in the order of the keys
abbrev pub put_member : List ℕ → Data → Members → Members
put_member k d no_members = member k d no_members
put_member k d (member l e ms) =
    match_ordering (slice_cmp nat_cmp k l) (member k d (member l e ms)) (member l d ms)
    (member l e (put_member k d ms))

abbrev pub number_data : ℕ → Data
number_data n = integer (pos n)

-- an array
abbrev pub list_data : {A : Type 0} → (A → Data) → List A → Data
list_data f xs = array (items_of (map f xs))

-- four coefficients
abbrev pub point_data : Point → Data
point_data p = list_data integer p.c

-- a kind, a turn and four coefficients
abbrev pub child_data : Child Point → Data
child_data c = list_data integer (pos c.kind ∷ pos c.motion.turn ∷ c.motion.shift.c)

-- a type, and a kind, with its keys in alphabetical order
abbrev pub type_members : EdgeType → Members
type_members t = member (codes "mate") (number_data t.mate)
    (member (codes "parts") (list_data number_data t.parts) no_members)

abbrev pub type_data : EdgeType → Data
type_data t = table (type_members t)

abbrev pub kind_members : Kind Point → Members
kind_members k =
    member (codes "children") (list_data child_data k.children)
    (member (codes "edges") (list_data number_data k.edges)
    (member (codes "vertices") (list_data point_data k.vertices) no_members))

abbrev pub kind_data : Kind Point → Data
kind_data k = table (kind_members k)

-- the format of an edition
abbrev pub format_number : Edition → ℕ
format_number One = 1
format_number Two = 2

-- the document of a rule, with its keys in alphabetical order
abbrev pub rule_members : ListedRule → Members
rule_members x =
    member (codes "format") (number_data (format_number x.edition))
    (member (codes "glue") (list_data number_data x.rule.glue)
    (member (codes "kind") (list_data kind_data x.rule.kinds)
    (member (codes "lambda") (point_data x.rule.factor)
    (member (codes "order") (number_data (points_of x.order).order)
    (member (codes "type") (list_data type_data x.rule.types) no_members)))))

-- each point has four coefficients, as its type in the program says
abbrev pub IsFour : Point → Type 0
IsFour p = length p.c ≡ 4

abbrev pub HasFours : Kind Point → Type 0
HasFours k = All IsFour k.vertices × All (λ c. IsFour c.motion.shift) k.children
