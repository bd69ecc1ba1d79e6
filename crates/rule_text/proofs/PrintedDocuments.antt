-- How long the document of a rule within its limits is printed: far shorter than a rule file may be.
use Rattle.std.proofs.Common.{◌≡◌, ℕ, ◌+◌, ◌*◌, ◌<◌, ◌≤◌, true, false, ◌&&◌, List, [], ◌∷◌, ◌++◌, All, length, map, codes, nat_le, nat_lt, nat_eq, refl, sym, subst, arith}
use Rattle.std.specs.List.{list_all}
use Rattle.std.proofs.lemmas.Bool.{and_parts, leb-true, eqb-true}
use Rattle.toml_parser.specs.Lexical.{is_bare}
use Rattle.toml_parser.specs.Strings.{Key}
use Rattle.toml_writer.specs.Text.{key_text}
use Rattle.toml.specs.Data.{Data, integer, table, Items, item, Members, member, no_members}
use Rattle.toml.specs.Text.{IsLinesText, IsDocumentText, is_section, are_tables, pairs, sections, section, elements}
use Rattle.toml.specs.View.{items_of}
use Rattle.theory_substitution.specs.Rule.{EdgeType, Kind, kind_of, children_of}
use Rattle.theory_substitution.specs.RuleParts.{edge_type_of, parts, vertices_of, edge_types, edge_count}
use Rattle.theory_edge_to_edge.specs.Limits.{is_from_to, is_type, is_child}
use Rattle.cyclo_points.specs.declared.point.Point.{Point}
use Rattle.cyclo_points.specs.Order.{points_of}
use Rattle.rule_model.specs.Small.{is_small}
use Rattle.rule_model.specs.Tiling.{ListedRule}
use Rattle.rule_text.specs.Written.{IsFour, HasFours, number_data, list_data, point_data, child_data, type_members, type_data, kind_members, kind_data, format_number, rule_members}
use Rattle.rule_text.proofs.Limits.{AreLimits, All-at, high, few_types, few_kinds}
use Rattle.rule_text.proofs.PrintedValues.{integer-short, numbers-short, point-short, points-short, children-short}
use Rattle.rule_text.proofs.PrintedLines.{AreShort, none-short, both-short, section-apart, member-short, elements-short}

-- a key of letters is printed as it is
bare-short : (k : List ℕ) → (nat_lt 0 (length k) && list_all is_bare k) ≡ true → length k ≤ 10 → length (key_text k) ≤ 10
unfolding key_text
bare-short k e le = rw e le

-- an array whose items are no tables has no lines of its own
plain : {A : Type 0} (f : A → Data) → ((x : A) (ds : Items) → are_tables (item (f x) ds) ≡ false)
    → (key : Key) (xs : List A) → section key (list_data f xs) ≡ []
plain f other key [] = refl
plain f other key (x ∷ xs) = rw (other x (items_of (map f xs))) refl

all_tables : {A : Type 0} (members : A → Members) (xs : List A) → are_tables (items_of (map (λ x. table (members x)) xs)) ≡ true
all_tables members [] = refl
all_tables members (x ∷ xs) = all_tables members xs

tables-section : {A : Type 0} (members : A → Members) (xs : List A) → 1 ≤ length xs → is_section (list_data (λ x. table (members x)) xs) ≡ true
tables-section members [] some = absurd (omega (arith, some))
tables-section members (x ∷ xs) some = all_tables members xs

low : (least most n : ℕ) → is_from_to least most n ≡ true → least ≤ n
low least most n e = leb-true least n (and_parts (nat_le least n) (nat_le n most) e).0

-- the counts of a kind
record IsFewKind (k : Kind Point) : Type 0 where
  vertices : length k.vertices ≤ 16
  edges : length k.edges ≤ 16
  children : length k.children ≤ 16

type-short : (t : EdgeType) → length t.parts ≤ 16 → AreShort 402 (pairs (type_members t)) × (sections (codes "type" ∷ []) (type_members t) ≡ [])
type-short t few =
    let numbers = list_data number_data t.parts in
    let last = member-short 354 0 (codes "parts") numbers no_members
    (bare-short (codes "parts") refl (omega arith)) (numbers-short t.parts few) none-short in (
      member-short 20 368 (codes "mate") (number_data t.mate) (member (codes "parts") numbers no_members)
          (bare-short (codes "mate") refl (omega arith)) (integer-short _) last,
      rw (plain number_data (λ x ds. refl) (codes "type" ∷ [], codes "parts") t.parts) refl,
    )

kind-short : (k : Kind Point) → IsFewKind k → HasFours k → AreShort 4048 (pairs (kind_members k))
    × (sections (codes "kind" ∷ []) (kind_members k) ≡ [])
kind-short k few fours =
    let path = codes "kind" ∷ [] in
    let numbers = list_data number_data k.edges in
    let points = list_data point_data k.vertices in
    let last = member-short 1474 0 (codes "vertices") points no_members
    (bare-short (codes "vertices") refl (omega arith)) (points-short k.vertices few.vertices fours.0)
    none-short in
    let behind = member-short 354 1488 (codes "edges") numbers (member (codes "vertices") points no_members)
    (bare-short (codes "edges") refl (omega arith)) (numbers-short k.edges few.edges) last in (
      member-short 2178 1856 (codes "children") (list_data child_data k.children)
          (member (codes "edges") numbers (member (codes "vertices") points no_members))
          (bare-short (codes "children") refl (omega arith)) (children-short k.children few.children fours.1)
          behind,
      rw (
        plain child_data (λ x ds. refl) (path, codes "children") k.children,
        plain number_data
            (λ x ds. refl) (path, codes "edges") k.edges,
        plain point_data (λ x ds. refl)
            (path, codes "vertices") k.vertices,
      ) refl,
    )

few_parts : (x : ListedRule) → AreLimits x → (ty : ℕ) → ty < length x.rule.types → length (edge_type_of x.rule ty).parts ≤ 16
few_parts x h ty lt =
    let ps = parts x.rule ty in
    omega (arith, high 1 8 (length ps) (and_parts (is_from_to 1 8 (length ps)) (list_all (is_type x.rule) ps) (h.parts ty lt)).0)

few_in_kind : (x : ListedRule) → AreLimits x → (k : ℕ) → k < length x.rule.kinds → IsFewKind (kind_of x.rule k)
few_in_kind x h k lt =
    let r = x.rule in
    let edges = edge_count r k in
    let vertices = length (vertices_of r k) in
    let children = children_of r k in
    let counts = (and_parts (is_from_to 3 12 edges && nat_eq vertices edges) (list_all (is_type r) (edge_types r k)) (h.edges k lt)).0 in
    let (in_range, same) = and_parts (is_from_to 3 12 edges) (nat_eq vertices edges) counts in
    let each = list_all (is_child (points_of x.order).order (is_small x.order) r) children in
    record {
      vertices = omega (arith, high 3 12 edges in_range, eqb-true vertices edges same);
      edges = omega (arith, high 3 12 edges in_range);
      children = high 1 16 (length children) (and_parts (is_from_to 1 16 (length children)) each (h.children k lt)).0;
    }

-- the pairs of a document, whose kinds and types stand under headers
pairs-short : (x : ListedRule) → AreLimits x → IsFour x.rule.factor → AreShort 540 (pairs (rule_members x))
pairs-short x h four =
    let r = x.rule in
    let glue = list_data number_data r.glue in
    let kinds = list_data kind_data r.kinds in
    let factor = point_data r.factor in
    let order = number_data (points_of x.order).order in
    let on_types = member (codes "type") (list_data type_data r.types) no_members in
    let on_order = member (codes "order") order on_types in
    let on_lambda = member (codes "lambda") factor on_order in
    let on_kinds = member (codes "kind") kinds on_lambda in
    let on_glue = member (codes "glue") glue on_kinds in
    let few : length r.glue ≤ 16 = leb-true (length r.glue) 16 (and_parts (nat_le (length r.glue) 16) (list_all (is_type r) r.glue) h.glue).0 in
    let type_apart = section-apart (codes "type") (list_data type_data r.types) no_members
    (tables-section type_members r.types (low 1 32 (length r.types) h.types)) in
    let kind_apart = section-apart (codes "kind") kinds on_lambda (tables-section kind_members r.kinds (low 1 16 (length r.kinds) h.kinds)) in
    let types-lines : AreShort 0 (pairs on_types) = subst (AreShort 0) (sym type_apart) none-short in
    let order-lines = member-short 20 0 (codes "order") order on_types
    (bare-short (codes "order") refl (omega arith)) (integer-short _) types-lines in
    let lambda-lines = member-short 90 34 (codes "lambda") factor on_order
    (bare-short (codes "lambda") refl (omega arith)) (point-short r.factor four) order-lines in
    let kinds-lines : AreShort 138 (pairs on_kinds) = subst (AreShort 138) (sym kind_apart) lambda-lines in
    let glue-lines = member-short 354 138 (codes "glue") glue on_kinds
    (bare-short (codes "glue") refl (omega arith)) (numbers-short r.glue few) kinds-lines in
    member-short 20 506 (codes "format") (number_data (format_number x.edition)) on_glue
    (bare-short (codes "format") refl (omega arith)) (integer-short _) glue-lines

-- the lines under headers are those of the kinds and those of the types
sections-split : (x : ListedRule) → sections [] (rule_members x) ≡ elements ([], codes "kind")
    (items_of (map kind_data x.rule.kinds)) ++ (elements ([], codes "type")
    (items_of (map type_data x.rule.types)) ++ [])
sections-split x =
    rw (
      plain number_data (λ n ds. refl) ([], codes "glue") x.rule.glue,
      plain integer (λ z ds. refl) ([], codes "lambda") x.rule.factor.c,
      all_tables kind_members x.rule.kinds,
      all_tables type_members x.rule.types,
    ) refl

sections-short : (x : ListedRule) → AreLimits x → All HasFours x.rule.kinds → AreShort 80000 (sections [] (rule_members x))
sections-short x h fours started text lines =
    let r = x.rule in
    let few : All IsFewKind r.kinds = All-at IsFewKind r.kinds (record { vertices = []; edges = []; children = [] }) (few_in_kind x h) in
    let parts : All (λ t. length t.parts ≤ 16) r.types = All-at (λ (t : EdgeType). length t.parts ≤ 16)
    r.types (record { mate = 0; parts = [] }) (few_parts x h) in
    let kinds = elements ([], codes "kind") (items_of (map kind_data r.kinds)) in
    let types = elements ([], codes "type") (items_of (map type_data r.types)) in
    let kinds-lines : AreShort (length r.kinds * 4065) kinds = elements-short 4048 (codes "kind") kind_members
    r.kinds (bare-short (codes "kind") refl (omega arith))
    (λ k d lt. kind-short _ (few k d lt) (fours k d lt)) in
    let types-lines : AreShort (length r.types * 419) types = elements-short 402 (codes "type") type_members
    r.types (bare-short (codes "type") refl (omega arith)) (λ k d lt. type-short _ (parts k d lt)) in
    let behind = both-short (length r.types * 419) 0 types [] types-lines none-short in
    let all = both-short (length r.kinds * 4065) (length r.types * 419 + 0) kinds (types ++ []) kinds-lines behind in
    let same = subst (λ es. IsLinesText false started es text) (sections-split x) lines in
    omega (arith, all started text same, few_types x h, few_kinds x h)

pub document-short : (x : ListedRule) → AreLimits x → IsFour x.rule.factor → All HasFours x.rule.kinds → (text : List ℕ)
    → IsDocumentText false (rule_members x) text → length text ≤ 1048576
document-short x h four fours text printed =
    let ms = rule_members x in
    omega (arith, both-short 540 80000 (pairs ms) (sections [] ms) (pairs-short x h four) (sections-short x h fours) false text printed)
