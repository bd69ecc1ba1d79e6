-- The document that a rule is written as stands for the rule.
use Rattle.std.proofs.Common.{◌≡◌, ℕ, suc, ◌<◌, ℤ, pos, true, List, [], ◌∷◌, All, map, codes, Option, Some, Result, Ok, refl, ap, arith}
use Rattle.toml.specs.Data.{Data, Members, as_integer, get_member}
use Rattle.theory_substitution.specs.Rule.{Child, EdgeType, Kind}
use Rattle.cyclo_points.specs.declared.order.Order.{Order}
use Rattle.cyclo_points.specs.declared.order.Order.TheVariants.{Six}
use Rattle.cyclo_points.specs.declared.point.Point.{Point}
use Rattle.cyclo_points.specs.Order.{points_of}
use Rattle.rule_model.specs.declared.edition.Edition.TheVariants.{One}
use Rattle.rule_model.specs.Small.{is_small}
use Rattle.rule_text.specs.declared.key.Key.{Key}
use Rattle.rule_text.specs.declared.key.Key.TheVariants as key
use Rattle.rule_text.specs.declared.text_fault.TextFault.{TextFault}
use Rattle.rule_text.specs.Forms.{each, integer_list, row, rows, tables}
use Rattle.rule_text.specs.Ranges.{number_below, format_of, order_of, file_point, child_in_row}
use Rattle.rule_text.specs.Steps.{value_at, in_order}
use Rattle.rule_text.specs.Document.{type_in, kind_in, types_in, kinds_in, rule_of_members}
use Rattle.rule_model.specs.Tiling.{ListedRule}
use Rattle.rule_text.specs.Written.{IsFour, number_data, list_data, point_data, child_data, type_members, type_data, kind_members, kind_data, format_number, rule_members}
use Rattle.rule_text.proofs.KeyLaws.{value_at-formed}
use Rattle.rule_text.proofs.ReadForms.{each-same, numbers-read, row-read, rows-read, tables-read}
use Rattle.rule_text.proofs.ReadRanges.{below-read, numbers-below, format-read, order-read, point-read, child-read}

-- the parts of a rule whose numbers are in range
pub record IsFitType (t : EdgeType) : Type 0 where
  pub mate : t.mate < 32
  pub parts : All (λ ty. ty < 32) t.parts

pub record IsFitPoint (o : Order) (p : Point) : Type 0 where
  pub four : IsFour p
  pub small : is_small o p ≡ true

pub record IsFitChild (o : Order) (c : Child Point) : Type 0 where
  pub kind : c.kind < 16
  pub turn : c.motion.turn < (points_of o).order
  pub shift : IsFitPoint o c.motion.shift

pub record IsFitKind (o : Order) (k : Kind Point) : Type 0 where
  pub vertices : All (IsFitPoint o) k.vertices
  pub edges : All (λ ty. ty < 32) k.edges
  pub children : All (IsFitChild o) k.children

pub record IsFit (x : ListedRule) : Type 0 where
  pub factor : IsFitPoint x.order x.rule.factor
  pub glue : All (λ ty. ty < 32) x.rule.glue
  pub types : All IsFitType x.rule.types
  pub kinds : All (IsFitKind x.order) x.rule.kinds

-- a key whose value is there, has its form, and is in range
value-read : {A B : Type 0} (k : Key) (name : List ℕ) (form : Data → Option A) (range : A → Option B) (ms : Members) (d : Data) (x : A) (y : B)
    → get_member name ms ≡ Some d → form d ≡ Some x → range x ≡ Some y → value_at k name form range ms ≡ Ok y
value-read k name form range ms d x y e1 e2 e3 = value_at-formed k name form range ms d x (Some y) e1 e2 e3

numbers-at : (k : Key) (name ns : List ℕ) (ms : Members)
    → get_member name ms ≡ Some (list_data number_data ns) → All (λ ty. ty < 32) ns
    → value_at k name integer_list (each (number_below 32)) ms ≡ Ok ns
numbers-at k name ns ms e all =
    value-read k name integer_list (each (number_below 32)) ms (list_data number_data ns) (map pos ns) ns e
    (numbers-read ns) (numbers-below 32 ns all)

vertices-at : (o : Order) (k : Key) (ps : List Point) (ms : Members)
    → get_member (codes "vertices") ms ≡ Some (list_data point_data ps) → All (IsFitPoint o) ps
    → value_at k (codes "vertices") (rows 4) (each (file_point o)) ms ≡ Ok ps
vertices-at o k ps ms e all =
    value-read k (codes "vertices") (rows 4) (each (file_point o)) ms (list_data point_data ps) (map (λ p. p.c) ps) ps e
    (rows-read 4 point_data (λ p. p.c) ps (λ i d lt. row-read 4 _ (all i d lt).four))
    (each-same (file_point o) (λ p. p.c) ps (λ i d lt. point-read o _ (all i d lt).small))

-- the six numbers of a child
abbrev six : Child Point → List ℤ
six c = pos c.kind ∷ pos c.motion.turn ∷ c.motion.shift.c

children-at : (o : Order) (k : Key) (cs : List (Child Point)) (ms : Members)
    → get_member (codes "children") ms ≡ Some (list_data child_data cs) → All (IsFitChild o) cs
    → value_at k (codes "children") (rows 6) (each (child_in_row o)) ms ≡ Ok cs
children-at o k cs ms e all =
    value-read k (codes "children") (rows 6) (each (child_in_row o)) ms (list_data child_data cs) (map six cs) cs e
    (rows-read 6 child_data six cs (λ i d lt. row-read 6 _ (ap (λ n. suc (suc n)) (all i d lt).shift.four)))
    (each-same (child_in_row o) six cs (λ i d lt. child-read o _ (all i d lt).kind (all i d lt).turn (all i d lt).shift.small))

type-read : (ty : ℕ) (t : EdgeType) → IsFitType t → type_in ty (type_members t) ≡ Ok t
unfolding type_in
type-read ty t h =
    rw (
      value-read (key.Mate ty) (codes "mate") as_integer (number_below 32) (type_members t)
          (number_data t.mate) (pos t.mate) t.mate refl refl (below-read 32 t.mate h.mate),
      numbers-at (key.Parts ty) (codes "parts") t.parts (type_members t) refl h.parts,
    ) refl

kind-read : (o : Order) (n : ℕ) (k : Kind Point) → IsFitKind o k → kind_in o n (kind_members k) ≡ Ok k
unfolding kind_in
kind-read o n k h =
    rw (
      vertices-at o (key.Vertices n) k.vertices (kind_members k) refl h.vertices,
      numbers-at (key.Edges n) (codes "edges") k.edges (kind_members k) refl h.edges,
      children-at o (key.Children n) k.children (kind_members k) refl h.children,
    ) refl

in_order-read : {A B : Type 0} (f : ℕ → A → Result B TextFault) (g : B → A) (n : ℕ) (xs : List B)
    → All (λ x. (i : ℕ) → f i (g x) ≡ Ok x) xs → in_order f n (map g xs) ≡ Ok xs
in_order-read f g n [] all = refl
in_order-read f g n (x ∷ xs) all = rw (all 0 x (omega arith) n, in_order-read f g (suc n) xs (λ k d lt. all (suc k) d (omega (arith, lt)))) refl

types-read : (x : ListedRule) → All IsFitType x.rule.types → types_in (rule_members x) ≡ Ok x.rule.types
unfolding types_in
types-read x all =
    let ts = x.rule.types in
    rw (value-read key.TypeList (codes "type") tables Some (rule_members x) (list_data type_data ts)
    (map type_members ts) (map type_members ts) refl (tables-read type_members ts) refl)
    (in_order-read type_in type_members 0 ts (λ k d lt. λ i. type-read i _ (all k d lt)))

kinds-read : (x : ListedRule) → All (IsFitKind x.order) x.rule.kinds → kinds_in x.order (rule_members x) ≡ Ok x.rule.kinds
unfolding kinds_in
kinds-read x all =
    let ks = x.rule.kinds in
    rw (value-read key.KindList (codes "kind") tables Some (rule_members x) (list_data kind_data ks)
    (map kind_members ks) (map kind_members ks) refl (tables-read kind_members ks) refl)
    (in_order-read (kind_in x.order) kind_members 0 ks (λ k d lt. λ i. kind-read x.order i _ (all k d lt)))

-- the whole document
pub rule-read : (x : ListedRule) → IsFit x → (x.edition ≡ One → x.order ≡ Six → ⊥) → rule_of_members (rule_members x) ≡ Ok x
unfolding rule_of_members
rule-read x h not_six =
    let ms = rule_members x in
    let r = x.rule in
    let n = (points_of x.order).order in
    let f = format_number x.edition in
    rw (
      value-read key.Format (codes "format") as_integer format_of ms (number_data f) (pos f) x.edition refl refl (format-read x.edition),
      value-read key.Order (codes "order") as_integer (order_of x.edition) ms (number_data n) (pos n) x.order
          refl refl (order-read x.edition x.order not_six),
      value-read key.Lambda (codes "lambda") (row 4) (file_point x.order) ms (point_data r.factor) r.factor.c
          r.factor refl (row-read 4 r.factor.c h.factor.four) (point-read x.order r.factor h.factor.small),
      numbers-at key.Glue (codes "glue") r.glue ms refl h.glue,
      types-read x h.types,
      kinds-read x h.kinds,
    ) refl
