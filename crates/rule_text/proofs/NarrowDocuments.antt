-- An array at the top of a document has no more items than the document has bytes, but for two.
use Rattle.std.proofs.Common.{◌≡◌, ℕ, zero, suc, ◌+◌, ◌≤◌, Bool, true, false, cond, ◌==◌, List, [], length, drop, Option, Some, None, option_map, Ordering, Less, Equal, Greater, subst, arith}
use Rattle.std.specs.Prelude.{option_and_then, slice_index, ◌&&◌}
use Rattle.std.specs.Ordering.{match_ordering, nat_cmp}
use Rattle.std.specs.Cmp.Lexicographic.{slice_cmp}
use Rattle.toml_parser.specs.Lexical.{Read, first, skip_blank}
use Rattle.toml.specs.Data.{Data, string, integer, float, boolean, datetime, array, table, Members, get_member}
use Rattle.toml.specs.Tables.{Node, value, open_table, open_array, Nodes, no_nodes, node, Expression, Document, close_node, close, define}
use Rattle.toml.specs.Parse.{line, lines, skip_bom, parse_document}
use Rattle.rule_text.specs.Narrow.{IsNarrow, MayNarrow, AreNarrow}
use Rattle.rule_text.proofs.Shortening.{drop-short, skip_blank-short}
use Rattle.rule_text.proofs.NarrowValues.{count-push}
use Rattle.rule_text.proofs.NarrowLines.{DefinesNarrow, ReadsLine, line-narrow}
use Rattle.rule_text.proofs.NarrowTables.{IsSlim, AreSlim, MayDocument, define-slim}

node-le : (n j k : ℕ) (x : Node) → j ≤ k → IsSlim n j x → IsSlim n k x
node-le n j k (value d) le h = h
node-le n j k (open_table origin inner) le h = tt
node-le n j k (open_array done last) le h = omega (arith, h, le)

slim-le : (n j k : ℕ) (ns : Nodes) → j ≤ k → AreSlim n j ns → AreSlim n k ns
slim-le n j k no_nodes le h = tt
slim-le n j k (node l x ns) le h = (node-le n j k x le h.0, slim-le n j k ns le h.1)

document-if : (n j : ℕ) (b : Bool) (x y : Option Document) → MayDocument n j x → MayDocument n j y → MayDocument n j (cond b x y)
document-if n j true x y h k = h
document-if n j false x y h k = k

document-then : (n j k : ℕ) (o : Option Document) (f : Document → Option Document) → MayDocument n j o
    → ((doc : Document) → AreSlim n j doc.0 → MayDocument n k (f doc)) → MayDocument n k (option_and_then f o)
document-then n j k None f h more = tt
document-then n j k (Some doc) f h more = more doc h

line-then : (n k : ℕ) (r : Read Expression) (f : Expression × List ℕ → Option Document) → ReadsLine n r
    → ((e : Expression × List ℕ) → length e.1 ≤ n → DefinesNarrow n e.0.1 → MayDocument n k (f e))
    → MayDocument n k (option_and_then f r)
line-then n k None f h more = tt
line-then n k (Some e) f h more = more e h.0 h.1

lines-slim : (n m j k : ℕ) (doc : Document) (t : List ℕ) → j + m ≤ k → length t ≤ n → AreSlim n j doc.0 → MayDocument n k (lines m doc t)
unfolding lines
lines-slim n zero j k doc t le h slim = tt
lines-slim n (suc m) j k doc t le h slim =
    let start = skip_blank t in
    let short : length start ≤ n = skip_blank-short n t h in
    document-if n k (length start == 0) (Some doc)
    (option_and_then (λ e. option_and_then (λ next. lines m next e.1) (define doc e.0)) (line start))
    (slim-le n j k doc.0 (omega (arith, le)) slim)
    (line-then n k (line start) (λ e. option_and_then (λ next. lines m next e.1) (define doc e.0)) (line-narrow n start short)
    (λ e l hw. document-then n (suc j) k (define doc e.0) (λ next. lines m next e.1) (define-slim n j doc e.0 hw slim)
    (λ next more. lines-slim n m (suc j) k next e.1 (omega (arith, le)) l more)))

narrow-le : (n k : ℕ) (d : Data) → n ≤ k → IsNarrow n d → IsNarrow k d
narrow-le n k (array ds) le h = omega (arith, h, le)
narrow-le n k (string s) le h = tt
narrow-le n k (integer z) le h = tt
narrow-le n k (float x) le h = tt
narrow-le n k (boolean b) le h = tt
narrow-le n k (datetime dt) le h = tt
narrow-le n k (table ms) le h = tt

close-narrow : (n j k : ℕ) (x : Node) → n ≤ k → suc j ≤ k → IsSlim n j x → IsNarrow k (close_node x)
close-narrow n j k (value d) le more h = narrow-le n k d le h
close-narrow n j k (open_table origin inner) le more h = tt
close-narrow n j k (open_array done last) le more h = omega (arith, h, more, count-push done (table (close last)))

member-at : (k : ℕ) (o : Ordering) (d : Data) (rest : Option Data) → IsNarrow k d → MayNarrow k rest
    → MayNarrow k (match_ordering o rest (Some d) rest)
member-at k Less d rest h more = more
member-at k Equal d rest h more = h
member-at k Greater d rest h more = more

members-narrow : (n j k : ℕ) (name : List ℕ) (ns : Nodes) → n ≤ k → suc j ≤ k → AreSlim n j ns → MayNarrow k (get_member name (close ns))
members-narrow n j k name no_nodes le more h = tt
members-narrow n j k name (node l x ns) le more h =
    member-at k (slice_cmp nat_cmp name l) (close_node x) (get_member name (close ns))
    (close-narrow n j k x le more h.0) (members-narrow n j k name ns le more h.1)

abbrev MayMembers : ℕ → Option Members → Type 0
MayMembers k None = Unit {0}
MayMembers k (Some ms) = AreNarrow k ms

closed : (n j k : ℕ) (o : Option Document) → n ≤ k → suc j ≤ k → MayDocument n j o → MayMembers k (option_map (λ doc. close doc.0) o)
closed n j k None le more h = tt
closed n j k (Some doc) le more h = λ name. members-narrow n j k name doc.0 le more h

bom-if : (n : ℕ) (b : Bool) (t : List ℕ) → length t ≤ n → length (cond b (drop 3 t) t) ≤ n
bom-if n true t h = drop-short n 3 t h
bom-if n false t h = h

skip_bom-short : (t : List ℕ) → length (skip_bom t) ≤ length t
unfolding skip_bom
skip_bom-short t = bom-if (length t) ((first t == 0xEF && slice_index t 1 == 0xBB) && slice_index t 2 == 0xBF) t (omega arith)

document-narrow : (t : List ℕ) → MayMembers (length t + 2) (parse_document t)
unfolding parse_document
document-narrow t =
    let n = length t in
    closed n (suc n) (n + 2) _ (omega arith) (omega arith)
    (lines-slim n (suc n) 0 (suc n) (no_nodes, []) (skip_bom t) (omega arith) (skip_bom-short t) tt)

parsed-narrow : (t : List ℕ) (ms : Members) → parse_document t ≡ Some ms → AreNarrow (length t + 2) ms
parsed-narrow t ms e = subst (MayMembers (length t + 2)) e (document-narrow t)

may-le : (n k : ℕ) (o : Option Data) → n ≤ k → MayNarrow n o → MayNarrow k o
may-le n k None le h = tt
may-le n k (Some d) le h = narrow-le n k d le h

-- each array at the top of a document of at most n bytes
pub document-few : (n : ℕ) (t : List ℕ) (ms : Members) → length t ≤ n → parse_document t ≡ Some ms → AreNarrow (n + 2) ms
document-few n t ms le e = λ name. may-le (length t + 2) (n + 2) (get_member name ms) (omega (arith, le)) (parsed-narrow t ms e name)
