-- Arrays in the table at the top: a line adds one table to one of them, or a value.
use Rattle.std.proofs.Common.{ℕ, suc, ◌≤◌, Bool, true, false, cond, List, [], ◌∷◌, ◌++◌, Option, Some, None, option_map, Ordering, Less, Equal, Greater, arith}
use Rattle.std.specs.Ordering.{match_ordering, nat_cmp}
use Rattle.std.specs.Cmp.Lexicographic.{slice_cmp}
use Rattle.toml_parser.specs.Strings.{Key}
use Rattle.toml.specs.Data.{table, Items, same_key}
use Rattle.toml.specs.Tables.{Node, value, open_table, open_array, Nodes, no_nodes, node, Origin, implicit, dotted, header, Edit, Definition, key_value, std_table, array_table, Expression, Document, get_node, insert, replace, close, header_node, dot_node, by_header, by_dot, along_header, along_dots, new_node, redefine, at_found, at_key, put, define_as, define}
use Rattle.rule_text.specs.Narrow.{item_count, IsNarrow}
use Rattle.rule_text.proofs.NarrowValues.{count-push}
use Rattle.rule_text.proofs.NarrowLines.{DefinesNarrow}

abbrev pub IsSlim : ℕ → ℕ → Node → Type 0
IsSlim n j (value d) = IsNarrow n d
IsSlim n j (open_table origin inner) = Unit {0}
IsSlim n j (open_array done last) = item_count done ≤ j

abbrev pub AreSlim : ℕ → ℕ → Nodes → Type 0
AreSlim n j no_nodes = Unit {0}
AreSlim n j (node k x ns) = IsSlim n j x × AreSlim n j ns

abbrev MaySlim : ℕ → ℕ → Option Nodes → Type 0
MaySlim n j None = Unit {0}
MaySlim n j (Some ns) = AreSlim n j ns

abbrev MayNode : ℕ → ℕ → Option Node → Type 0
MayNode n j None = Unit {0}
MayNode n j (Some x) = IsSlim n j x

node-grows : (n j : ℕ) (x : Node) → IsSlim n j x → IsSlim n (suc j) x
node-grows n j (value d) h = h
node-grows n j (open_table origin inner) h = tt
node-grows n j (open_array done last) h = omega (arith, h)

slim-grows : (n j : ℕ) (ns : Nodes) → AreSlim n j ns → AreSlim n (suc j) ns
slim-grows n j no_nodes h = tt
slim-grows n j (node k x ns) h = (node-grows n j x h.0, slim-grows n j ns h.1)

insert-at : (n j : ℕ) (o : Ordering) (k l : List ℕ) (x y : Node) (ns more : Nodes) → IsSlim n j x → IsSlim n j y → AreSlim n j ns → AreSlim n j more
    → AreSlim n j (match_ordering o (node k x (node l y ns)) (node l x ns) (node l y more))
insert-at n j Less k l x y ns more hx hy hns hmore = (hx, (hy, hns))
insert-at n j Equal k l x y ns more hx hy hns hmore = (hx, hns)
insert-at n j Greater k l x y ns more hx hy hns hmore = (hy, hmore)

insert-slim : (n j : ℕ) (k : List ℕ) (x : Node) (ns : Nodes) → IsSlim n j x → AreSlim n j ns → AreSlim n j (insert k x ns)
insert-slim n j k x no_nodes hx h = (hx, tt)
insert-slim n j k x (node l y ns) hx h = insert-at n j (slice_cmp nat_cmp k l) k l x y ns (insert k x ns) hx h.0 h.1 (insert-slim n j k x ns hx h.1)

replace-at : (n j : ℕ) (b : Bool) (l : List ℕ) (x y : Node) (ns more : Nodes) → IsSlim n j x → IsSlim n j y
    → AreSlim n j ns → AreSlim n j more → AreSlim n j (cond b (node l x ns) (node l y more))
replace-at n j true l x y ns more hx hy hns hmore = (hx, hns)
replace-at n j false l x y ns more hx hy hns hmore = (hy, hmore)

replace-slim : (n j : ℕ) (k : List ℕ) (x : Node) (ns : Nodes) → IsSlim n j x → AreSlim n j ns → AreSlim n j (replace k x ns)
replace-slim n j k x no_nodes hx h = tt
replace-slim n j k x (node l y ns) hx h = replace-at n j (same_key k l) l x y ns (replace k x ns) hx h.0 h.1 (replace-slim n j k x ns hx h.1)

get-at : (n j : ℕ) (b : Bool) (x : Node) (o : Option Node) → IsSlim n j x → MayNode n j o → MayNode n j (cond b (Some x) o)
get-at n j true x o h k = h
get-at n j false x o h k = k

get-slim : (n j : ℕ) (k : List ℕ) (ns : Nodes) → AreSlim n j ns → MayNode n j (get_node k ns)
get-slim n j k no_nodes h = tt
get-slim n j k (node l x ns) h = get-at n j (same_key k l) x (get_node k ns) h.0 (get-slim n j k ns h.1)

replace-made : (n j : ℕ) (k : List ℕ) (ns : Nodes) (o : Option Node) → AreSlim n j ns → MayNode n j o
    → MaySlim n j (option_map (λ new. replace k new ns) o)
replace-made n j k ns None h hx = tt
replace-made n j k ns (Some x) h hx = replace-slim n j k x ns hx h

insert-made : (n j : ℕ) (origin : Origin) (k : List ℕ) (ns : Nodes) (o : Option Nodes) → AreSlim n j ns
    → MaySlim n j (option_map (λ new. insert k (open_table origin new) ns) o)
insert-made n j origin k ns None h = tt
insert-made n j origin k ns (Some new) h = insert-slim n j k (open_table origin new) ns tt h

table-made : (n j : ℕ) (origin : Origin) (o : Option Nodes) → MayNode n j (option_map (open_table origin) o)
table-made n j origin None = tt
table-made n j origin (Some new) = tt

array-made : (n j : ℕ) (done : Items) (o : Option Nodes) → item_count done ≤ j → MayNode n j (option_map (open_array done) o)
array-made n j done None h = tt
array-made n j done (Some new) h = h

header_node-slim : (n j : ℕ) (edit : Edit) (x : Node) → IsSlim n j x → MayNode n j (header_node edit x)
header_node-slim n j edit (value d) h = tt
header_node-slim n j edit (open_table origin inner) h = table-made n j origin (edit inner)
header_node-slim n j edit (open_array done last) h = array-made n j done (edit last) h

dot_node-slim : (n j : ℕ) (edit : Edit) (x : Node) → MayNode n j (dot_node edit x)
dot_node-slim n j edit (value d) = tt
dot_node-slim n j edit (open_table implicit inner) = table-made n j dotted (edit inner)
dot_node-slim n j edit (open_table dotted inner) = table-made n j dotted (edit inner)
dot_node-slim n j edit (open_table header inner) = tt
dot_node-slim n j edit (open_array done last) = tt

by_header-slim : (n j : ℕ) (k : List ℕ) (edit : Edit) (ns : Nodes) (o : Option Node) → AreSlim n j ns
    → MayNode n j o → MaySlim n j (by_header k edit ns o)
by_header-slim n j k edit ns None h hx = insert-made n j implicit k ns (edit no_nodes) h
by_header-slim n j k edit ns (Some x) h hx = replace-made n j k ns (header_node edit x) h (header_node-slim n j edit x hx)

by_dot-slim : (n j : ℕ) (k : List ℕ) (edit : Edit) (ns : Nodes) (o : Option Node) → AreSlim n j ns → MaySlim n j (by_dot k edit ns o)
by_dot-slim n j k edit ns None h = insert-made n j dotted k ns (edit no_nodes) h
by_dot-slim n j k edit ns (Some x) h = replace-made n j k ns (dot_node edit x) h (dot_node-slim n j edit x)

-- an edit of the table at the top
abbrev EditsSlim : ℕ → ℕ → Edit → Type 0
EditsSlim n j edit = (ns : Nodes) → AreSlim n j ns → MaySlim n (suc j) (edit ns)

along_header-slim : (n j : ℕ) (path : List (List ℕ)) (edit : Edit) → EditsSlim n j edit → EditsSlim n j (along_header path edit)
unfolding along_header
along_header-slim n j [] edit all ns h = all ns h
along_header-slim n j (k ∷ path) edit all ns h =
    let more = slim-grows n j ns h in
    by_header-slim n (suc j) k (along_header path edit) ns (get_node k ns) more (get-slim n (suc j) k ns more)

along_dots-slim : (n j : ℕ) (path : List (List ℕ)) (edit : Edit) → EditsSlim n j edit → EditsSlim n j (along_dots path edit)
unfolding along_dots
along_dots-slim n j [] edit all ns h = all ns h
along_dots-slim n j (k ∷ path) edit all ns h = by_dot-slim n (suc j) k (along_dots path edit) ns (get_node k ns) (slim-grows n j ns h)

new-slim : (n j : ℕ) (what : Definition) → DefinesNarrow n what → IsSlim n j (new_node what)
new-slim n j (key_value d) h = h
new-slim n j std_table h = tt
new-slim n j array_table h = omega arith

redefine-slim : (n j : ℕ) (what : Definition) (x : Node) → IsSlim n j x → MayNode n (suc j) (redefine what x)
redefine-slim n j std_table (open_table implicit inner) h = tt
redefine-slim n j std_table (open_table dotted inner) h = tt
redefine-slim n j std_table (open_table header inner) h = tt
redefine-slim n j std_table (open_array done last) h = tt
redefine-slim n j std_table (value d) h = tt
redefine-slim n j array_table (open_array done last) h = omega (arith, h, count-push done (table (close last)))
redefine-slim n j array_table (open_table origin inner) h = tt
redefine-slim n j array_table (value d) h = tt
redefine-slim n j (key_value d) x h = tt

at_found-slim : (n j : ℕ) (k : List ℕ) (what : Definition) (ns : Nodes) (o : Option Node)
    → DefinesNarrow n what → AreSlim n j ns → MayNode n j o → MaySlim n (suc j) (at_found k what ns o)
at_found-slim n j k what ns None hw h hx = insert-slim n (suc j) k (new_node what) ns (new-slim n (suc j) what hw) (slim-grows n j ns h)
at_found-slim n j k what ns (Some x) hw h hx = replace-made n (suc j) k ns (redefine what x) (slim-grows n j ns h) (redefine-slim n j what x hx)

at_key-slim : (n j : ℕ) (k : List ℕ) (what : Definition) → DefinesNarrow n what → EditsSlim n j (at_key k what)
unfolding at_key
at_key-slim n j k what hw ns h = at_found-slim n j k what ns (get_node k ns) hw h (get-slim n j k ns h)

abbrev pub MayDocument : ℕ → ℕ → Option Document → Type 0
MayDocument n j None = Unit {0}
MayDocument n j (Some doc) = AreSlim n j doc.0

document-made : (n j : ℕ) (path : List (List ℕ)) (o : Option Nodes) → MaySlim n j o → MayDocument n j (option_map (λ root. (root, path)) o)
document-made n j path None h = tt
document-made n j path (Some root) h = h

define_as-slim : (n j : ℕ) (doc : Document) (k : Key) (what : Definition) → DefinesNarrow n what
    → AreSlim n j doc.0 → MayDocument n (suc j) (define_as doc k what)
define_as-slim n j doc k (key_value d) hw h =
    document-made n (suc j) doc.1 _ (along_header-slim n j doc.1 (put k d)
    (along_dots-slim n j k.0 (at_key k.1 (key_value d)) (at_key-slim n j k.1 (key_value d) hw)) doc.0 h)
define_as-slim n j doc k std_table hw h =
    document-made n (suc j) (k.0 ++ k.1 ∷ []) _ (along_header-slim n j k.0 (at_key k.1 std_table) (at_key-slim n j k.1 std_table tt) doc.0 h)
define_as-slim n j doc k array_table hw h =
    document-made n (suc j) (k.0 ++ k.1 ∷ []) _ (along_header-slim n j k.0 (at_key k.1 array_table) (at_key-slim n j k.1 array_table tt) doc.0 h)

pub define-slim : (n j : ℕ) (doc : Document) (e : Expression) → DefinesNarrow n e.1 → AreSlim n j doc.0 → MayDocument n (suc j) (define doc e)
unfolding define
define-slim n j doc e hw h = define_as-slim n j doc e.0 e.1 hw h
