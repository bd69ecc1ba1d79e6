-- A value that is read from a text has no array of more items than the text has bytes.
use Rattle.std.proofs.Common.{◌≡◌, ℕ, zero, suc, ◌+◌, ◌≤◌, Bool, true, false, cond, ◌==◌, List, length, drop, Option, Some, None, option_map, refl, arith}
use Rattle.std.specs.Prelude.{option_and_then}
use Rattle.toml_parser.specs.Lexical.{Read, comma, equals, left_bracket, right_bracket, left_brace, right_brace, first, skip_ws, skip_blank}
use Rattle.toml_parser.specs.Strings.{Key, key, quoted, starts_string}
use Rattle.toml_parser.specs.Numbers.{unquoted}
use Rattle.toml_parser.specs.declared.scalar.Scalar.{Scalar}
use Rattle.toml_parser.specs.declared.scalar.Scalar.TheVariants.{Boolean, Integer, Float, Datetime}
use Rattle.toml.specs.Data.{Data, string, array, table, Items, no_items, item, Members, push_item}
use Rattle.toml.specs.Tables.{Nodes, no_nodes, close, put}
use Rattle.toml.specs.Parse.{read_map, after_byte, after_element, key_equals, keyval, items, members, scalar_data, atom, val}
use Rattle.rule_text.specs.Narrow.{item_count, IsNarrow}
use Rattle.rule_text.proofs.Shortening.{Leaves, LeavesText, leaves-map, leaves-then, leaves-text-then, leaves-if, drop-short, skip_ws-short, skip_blank-short, quoted-leaves, key-leaves, unquoted-leaves}

pub count-push : (ds : Items) (d : Data) → item_count (push_item ds d) ≡ suc (item_count ds)
count-push no_items d = refl
count-push (item e ds) d = omega (arith, count-push ds d)

-- a value that was read, of a text of at most n bytes
abbrev pub ReadsNarrow : ℕ → Read Data → Type 0
ReadsNarrow n None = Unit {0}
ReadsNarrow n (Some p) = (length p.1 ≤ n) × IsNarrow n p.0

narrow-leaves : (n : ℕ) (r : Read Data) → ReadsNarrow n r → Leaves n r
narrow-leaves n None h = tt
narrow-leaves n (Some p) h = h.0

narrow-if : (n : ℕ) (b : Bool) (x y : Read Data) → ReadsNarrow n x → ReadsNarrow n y → ReadsNarrow n (cond b x y)
narrow-if n true x y h k = h
narrow-if n false x y h k = k

narrow-map : {A : Type 0} (n : ℕ) (f : A → Data) (r : Read A) → ((x : A) → IsNarrow n (f x)) → Leaves n r
    → ReadsNarrow n (option_map (λ p. (f p.0, p.1)) r)
narrow-map n f None all h = tt
narrow-map n f (Some p) all h = (h, all p.0)

-- ---- marks

text-if : (n : ℕ) (b : Bool) (x y : Option (List ℕ)) → LeavesText n x → LeavesText n y → LeavesText n (cond b x y)
text-if n true x y h k = h
text-if n false x y h k = k

pub text-map : (n : ℕ) (A : Type 0) (f : List ℕ → A × List ℕ) (o : Option (List ℕ))
    → ((t : List ℕ) → length t ≤ n → length (f t).1 ≤ n) → LeavesText n o → Leaves n (option_map f o)
text-map n A f None all h = tt
text-map n A f (Some t) all h = all t h

pub after_byte-leaves : (n byte : ℕ) (t : List ℕ) → length t ≤ n → LeavesText n (after_byte byte t)
after_byte-leaves n byte t h = text-if n (first t == byte) (Some (drop 1 t)) None (drop-short n 1 t h) tt

after_element-leaves : (n closing : ℕ) (t : List ℕ) → length t ≤ n → LeavesText n (after_element closing t)
unfolding after_element
after_element-leaves n closing t h =
    text-if n (first (skip_blank t) == comma) (Some (drop 1 (skip_blank t)))
    (cond (first (skip_blank t) == closing) (Some (skip_blank t)) None)
    (drop-short n 1 (skip_blank t) (skip_blank-short n t h))
    (text-if n (first (skip_blank t) == closing) (Some (skip_blank t)) None (skip_blank-short n t h) tt)

pub key_equals-leaves : (n : ℕ) (t : List ℕ) → length t ≤ n → Leaves n (key_equals t)
unfolding key_equals
key_equals-leaves n t h =
    leaves-then n (key t) (λ k. option_map (λ rest. (k.0, skip_ws rest)) (after_byte equals k.1))
    (key-leaves n t h) (λ k l. text-map n Key (λ rest. (k.0, skip_ws rest)) (after_byte equals k.1)
    (λ s m. skip_ws-short n s m) (after_byte-leaves n equals k.1 l))

-- ---- values

-- items that were read, at most so many
abbrev ReadsItems : ℕ → ℕ → Read Items → Type 0
ReadsItems n most None = Unit {0}
ReadsItems n most (Some p) = (length p.1 ≤ n) × (item_count p.0 ≤ most)

items-if : (n most : ℕ) (b : Bool) (x y : Read Items) → ReadsItems n most x → ReadsItems n most y → ReadsItems n most (cond b x y)
items-if n most true x y h k = h
items-if n most false x y h k = k

items-then : (n most : ℕ) (r : Read Data) (f : Data × List ℕ → Read Items) → Leaves n r
    → ((p : Data × List ℕ) → length p.1 ≤ n → ReadsItems n most (f p))
    → ReadsItems n most (option_and_then f r)
items-then n most None f h more = tt
items-then n most (Some p) f h more = more p h

items-text-then : (n most : ℕ) (o : Option (List ℕ)) (f : List ℕ → Read Items) → LeavesText n o
    → ((t : List ℕ) → length t ≤ n → ReadsItems n most (f t)) → ReadsItems n most (option_and_then f o)
items-text-then n most None f h more = tt
items-text-then n most (Some t) f h more = more t h

items-few : (n : ℕ) (read : List ℕ → Read Data) → ((t : List ℕ) → length t ≤ n → Leaves n (read t))
    → (m most : ℕ) (found : Items) (t : List ℕ) → item_count found + m ≤ most → length t ≤ n
    → ReadsItems n most (items read m found t)
unfolding items
items-few n read all zero most found t few h = tt
items-few n read all (suc m) most found t few h =
    let start = skip_blank t in
    let short : length start ≤ n = skip_blank-short n t h in
    items-if n most (first start == right_bracket) (Some (found, drop 1 start))
    (option_and_then (λ v. option_and_then (items read m (push_item found v.0))
    (after_element right_bracket v.1)) (read start)) (drop-short n 1 start short, omega (arith, few))
    (items-then n most (read start) (λ v. option_and_then (items read m (push_item found v.0)) (after_element right_bracket v.1)) (all start short)
    (λ v k. items-text-then n most (after_element right_bracket v.1) (items read m (push_item found v.0)) (after_element-leaves n right_bracket v.1 k)
    (λ s l. items-few n read all m most (push_item found v.0) s (omega (arith, few, count-push found v.0)) l)))

nodes-then : (n : ℕ) (o : Option Nodes) (f : Nodes → Read Members) → ((x : Nodes) → Leaves n (f x)) → Leaves n (option_and_then f o)
nodes-then n None f more = tt
nodes-then n (Some x) f more = more x

keyval-leaves : (n : ℕ) (read : List ℕ → Read Data) → ((t : List ℕ) → length t ≤ n → Leaves n (read t))
    → (t : List ℕ) → length t ≤ n → Leaves n (keyval read t)
keyval-leaves n read all t h = leaves-then n (key_equals t) (λ k. read_map (λ d. (k.0, d)) (read k.1))
    (key_equals-leaves n t h) (λ k l. leaves-map n (λ d. (k.0, d)) (read k.1) (all k.1 l))

members-leaves : (n : ℕ) (read : List ℕ → Read Data) → ((t : List ℕ) → length t ≤ n → Leaves n (read t))
    → (m : ℕ) (found : Nodes) (t : List ℕ) → length t ≤ n → Leaves n (members read m found t)
unfolding members
members-leaves n read all zero found t h = tt
members-leaves n read all (suc m) found t h =
    let start = skip_blank t in
    let short : length start ≤ n = skip_blank-short n t h in
    leaves-if n (first start == right_brace) (Some (close found, drop 1 start))
    (option_and_then (λ e. option_and_then (λ more. option_and_then (members read m more)
    (after_element right_brace e.1)) (put e.0.0 e.0.1 found)) (keyval read start))
    (drop-short n 1 start short)
    (leaves-then n (keyval read start) (λ e. option_and_then
    (λ more. option_and_then (members read m more) (after_element right_brace e.1))
    (put e.0.0 e.0.1 found)) (keyval-leaves n read all start short)
    (λ e k. nodes-then n (put e.0.0 e.0.1 found)
    (λ more. option_and_then (members read m more) (after_element right_brace e.1))
    (λ more. leaves-text-then n (after_element right_brace e.1) (members read m more)
    (after_element-leaves n right_brace e.1 k) (λ s l. members-leaves n read all m more s l))))

scalar-narrow : (n : ℕ) (s : Scalar) → IsNarrow n (scalar_data s)
scalar-narrow n (Boolean b) = tt
scalar-narrow n (Integer z) = tt
scalar-narrow n (Float x) = tt
scalar-narrow n (Datetime dt) = tt

atom-narrow : (n : ℕ) (t : List ℕ) → length t ≤ n → ReadsNarrow n (atom t)
unfolding atom
atom-narrow n t h =
    narrow-if n (starts_string t) (read_map string (quoted t)) (read_map scalar_data (unquoted t))
    (narrow-map n string (quoted t) (λ s. tt) (quoted-leaves n t h)) (narrow-map n scalar_data (unquoted t) (scalar-narrow n) (unquoted-leaves n t h))

array-narrow : (n : ℕ) (r : Read Items) → ReadsItems n n r → ReadsNarrow n (option_map (λ p. (array p.0, p.1)) r)
array-narrow n None h = tt
array-narrow n (Some p) h = h

pub val-narrow : (n depth : ℕ) (t : List ℕ) → length t ≤ n → ReadsNarrow n (val depth t)
unfolding val
val-narrow n zero t h = atom-narrow n t h
val-narrow n (suc depth) t h =
    let read : (s : List ℕ) → length s ≤ n → Leaves n (val depth s) = λ s k. narrow-leaves n (val depth s) (val-narrow n depth s k) in
    let listed : Read Data = read_map array (items (val depth) (length t) no_items (drop 1 t)) in
    let tabled : Read Data = read_map table (members (val depth) (length t) no_nodes (drop 1 t)) in
    narrow-if n (first t == left_bracket) listed (cond (first t == left_brace) tabled (atom t))
    (array-narrow n (items (val depth) (length t) no_items (drop 1 t))
    (items-few n (val depth) read (length t) n no_items (drop 1 t) (omega (arith, h))
    (drop-short n 1 t h)))
    (narrow-if n (first t == left_brace) tabled (atom t)
    (narrow-map n table (members (val depth) (length t) no_nodes (drop 1 t)) (λ ms. tt)
    (members-leaves n (val depth) read (length t) no_nodes (drop 1 t) (drop-short n 1 t h)))
    (atom-narrow n t h))
