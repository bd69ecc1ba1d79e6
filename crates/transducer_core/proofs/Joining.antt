-- The lists of tables, one behind the other, and the tables from them.
use Rattle.std.proofs.Common.{◌≡◌, ℕ, suc, ◌+◌, ◌-◌, ◌/◌, ◌<◌, List, [], ◌∷◌, ◌++◌, length, map, take, drop, Some, refl, sym, ap, ◌∙◌, arith, append_assoc, length-append}
use Rattle.std.specs.List.{slice_get, concat}
use Rattle.std.proofs.lemmas.List.{length-map}
use Rattle.std.proofs.Math.Seq.{drop-append_seam, take-append_seam}
use Rattle.theory_addresses.specs.Coherent.{IsCoherent}
use Rattle.theory_addresses.specs.Tables.{Tables, KindTables, kind_tables, type_of, subs_of}
use Rattle.theory_addresses.proofs.Ranges.{slice_get-append_left, slice_get-image}
use Rattle.theory_addresses.proofs.TableBounds.{some_within}
use Rattle.transducer_core.specs.Flat.{lists_of, subs_in, sides_in, flat_types, children_in, pieces}
use Rattle.transducer_core.specs.Merged.{BlockStands}
use Rattle.transducer_core.specs.Merging.{block_ends, AreBlocksKept}
use Rattle.transducer_core.proofs.FlatEntries.{kind_at}
use Rattle.transducer_core.proofs.Keeping.{ends_at}
use Rattle.transducer_core.proofs.Standing.{concat-append, append-none, take_at, stands_at, block_read}
use Rattle.transducer_core.proofs.Strides.{slice_get-append_right}

-- ---- the lists are read back
pieces_back : (front : List ℕ) (lists : List (List ℕ)) → pieces (front ++ concat lists) (length front) (block_ends (length front) lists) ≡ lists
pieces_back front [] = refl
pieces_back front (x ∷ xs) =
    let more : length (front ++ x) ≡ length front + length x = length-append front x in
    let same : (front ++ x) ++ concat xs ≡ front ++ (x ++ concat xs) = append_assoc front x (concat xs) in
    let tail : pieces (front ++ (x ++ concat xs)) (length front + length x)
    (block_ends (length front + length x) xs) ≡ xs = rw (more, same) at (pieces_back (front ++ x) xs) in
    let head = block_read (front ++ (x ++ concat xs)) (length front) (length front + length x - length front)
    x (record { front = front; rest = concat xs; words_are = refl; start_is = refl }) (omega arith) in
    λ i. head i ∷ tail i

pub pieces_are : (lists : List (List ℕ)) (items ends : List ℕ) → AreBlocksKept lists items ends → pieces items 0 ends ≡ lists
pieces_are lists items ends h = ap (λ (l : List ℕ). pieces l 0 ends) h.words_are ∙ ap (pieces (concat lists) 0) h.ends_are ∙ pieces_back [] lists

abbrev pub sides_of : Tables → List (List ℕ)
sides_of t = map (λ (k : KindTables). k.types) t.kinds ++ map (λ (k : KindTables). k.children) t.kinds

pub subs_back : (t : Tables) → IsCoherent t → subs_in (lists_of t) ≡ t.subs
subs_back t coherent = ap (λ (n : ℕ). take n (t.subs ++ sides_of t)) (sym coherent.sub_each) ∙ take-append_seam t.subs (sides_of t)

sides_back : (t : Tables) → IsCoherent t → sides_in (lists_of t) ≡ sides_of t
sides_back t coherent = ap (λ (n : ℕ). drop n (t.subs ++ sides_of t)) (sym coherent.sub_each) ∙ drop-append_seam t.subs (sides_of t)

half : (t : Tables) → length (sides_of t) / 2 ≡ length (map (λ (k : KindTables). k.types) t.kinds)
half t =
    let types = length-map t.kinds (λ (k : KindTables). k.types) in
    let children = length-map t.kinds (λ (k : KindTables). k.children) in
    let both = length-append (map (λ (k : KindTables). k.types) t.kinds) (map (λ (k : KindTables). k.children) t.kinds) in
    omega (arith, types, children, both)

pub types_back : (t : Tables) → IsCoherent t → flat_types (lists_of t) ≡ map (λ (k : KindTables). k.types) t.kinds
types_back t coherent =
    ap (λ (l : List (List ℕ)). take (length l / 2) l) (sides_back t coherent) ∙ ap (λ (n : ℕ). take n (sides_of t)) (half t)
    ∙ take-append_seam (map (λ (k : KindTables). k.types) t.kinds) (map (λ (k : KindTables). k.children) t.kinds)

pub children_back : (t : Tables) → IsCoherent t → children_in (lists_of t) ≡ map (λ (k : KindTables). k.children) t.kinds
children_back t coherent =
    ap (λ (l : List (List ℕ)). drop (length l / 2) l) (sides_back t coherent) ∙ ap (λ (n : ℕ). drop n (sides_of t)) (half t)
    ∙ drop-append_seam (map (λ (k : KindTables). k.types) t.kinds) (map (λ (k : KindTables). k.children) t.kinds)

-- ---- one list more
pub joined_more : (front lists : List (List ℕ)) (i : ℕ) (list items ends : List ℕ)
    → slice_get lists i ≡ Some list → AreBlocksKept ((front ++ take i lists) ++ list ∷ []) items ends
    → AreBlocksKept (front ++ take (i + 1) lists) items ends
joined_more front lists i list items ends at h =
    let same : (front ++ take i lists) ++ list ∷ [] ≡ front
    ++ take (i + 1) lists = append_assoc front (take i lists) (list ∷ [])
    ∙ ap (λ (l : List (List ℕ)). front ++ l) (sym (take_at lists i list at)) in
    rw same at h

-- ---- where a list begins, and its entries
pub begins : (lists : List (List ℕ)) (items ends : List ℕ) (i e : ℕ) → AreBlocksKept lists items ends
    → slice_get ends i ≡ Some e → e ≡ length (concat (take (i + 1) lists))
begins lists items ends i e h at =
    let r = ends_at 0 lists i e (ap (λ (l : List ℕ). slice_get l i) (sym h.ends_are) ∙ at) in
    let joined : concat (take (i + 1) lists) ≡ concat (take i lists)
    ++ r.block = ap concat (take_at lists i r.block r.at) ∙ concat-append (take i lists) (r.block ∷ [])
    ∙ ap (λ (w : List ℕ). concat (take i lists) ++ w) (append-none r.block) in
    omega (arith, ap (λ (w : List ℕ). length w) joined, length-append (concat (take i lists)) r.block, r.is)

pub ends_next : (lists : List (List ℕ)) (items ends : List ℕ) (i e : ℕ) (list : List ℕ) → AreBlocksKept lists items ends
    → slice_get ends i ≡ Some e → slice_get lists i ≡ Some list
    → e ≡ length (concat (take i lists)) + length list
ends_next lists items ends i e list h at is =
    let r = ends_at 0 lists i e (ap (λ (l : List ℕ). slice_get l i) (sym h.ends_are) ∙ at) in
    let two : Some r.block ≡ Some list = sym r.at ∙ is in
    let same : r.block ≡ list = cc in
    omega (arith, r.is, ap (λ (w : List ℕ). length w) same)

pub lists_there : (lists : List (List ℕ)) (items ends : List ℕ) (i : ℕ) (list : List ℕ) → AreBlocksKept lists items ends
    → slice_get lists i ≡ Some list → BlockStands items (length (concat (take i lists))) list
lists_there lists items ends i list h is = rw h.words_are (stands_at lists i list is)

-- ---- where the lists of tables stand
pub sub_at : (t : Tables) (ty : ℕ) → ty < length t.subs → slice_get (lists_of t) (ty + 1) ≡ Some (subs_of t ty)
unfolding subs_of
sub_at t ty inside =
    let e : ty + 1 ≡ suc ty = omega arith in
    let x = some_within t.subs ty inside in
    ap (slice_get (lists_of t)) e ∙ slice_get-append_left t.subs (sides_of t) ty inside ∙ x.1 ∙ rw x.1 refl

pub types_at : (t : Tables) (k : ℕ) → IsCoherent t → k < length t.kinds → slice_get (lists_of t) (length t.mates + k + 1)
    ≡ Some (kind_tables t k).types
types_at t k coherent inside =
    let e : length t.mates + k + 1 ≡ suc (length t.subs + k) = omega (arith, coherent.sub_each) in
    let types = length-map t.kinds (λ (r : KindTables). r.types) in
    ap (slice_get (lists_of t)) e ∙ slice_get-append_right t.subs (sides_of t) k
    ∙ slice_get-append_left (map (λ (r : KindTables). r.types) t.kinds)
    (map (λ (r : KindTables). r.children) t.kinds) k (omega (arith, inside, types))
    ∙ slice_get-image (λ (r : KindTables). r.types) (kind_tables t k) t.kinds k (kind_at t k inside)

pub type_found : (t : Tables) (k e ty : ℕ) → type_of t k e ≡ Some ty → slice_get (kind_tables t k).types e ≡ Some ty
unfolding type_of
type_found t k e ty is = is
