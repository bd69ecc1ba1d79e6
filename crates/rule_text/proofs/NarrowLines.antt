-- The same of the value that stands on a line.
use Rattle.std.proofs.Common.{ℕ, ◌≤◌, Bool, true, false, cond, ◌==◌, List, length, drop, Option, Some, None, option_map}
use Rattle.std.specs.Prelude.{option_and_then, slice_index, ◌&&◌}
use Rattle.toml_parser.specs.Lexical.{Read, left_bracket, right_bracket, first, skip_ws}
use Rattle.toml_parser.specs.Strings.{Key, key}
use Rattle.toml.specs.Data.{Data}
use Rattle.toml.specs.Tables.{Definition, key_value, std_table, array_table, Expression}
use Rattle.toml.specs.Parse.{read_map, after_byte, key_equals, keyval, val, header_key, expression, ends_line, line}
use Rattle.rule_text.specs.Narrow.{IsNarrow}
use Rattle.rule_text.proofs.Shortening.{Leaves, LeavesText, leaves-then, drop-short, skip_ws-short, key-leaves}
use Rattle.rule_text.proofs.NarrowValues.{ReadsNarrow, text-map, after_byte-leaves, key_equals-leaves, val-narrow}

abbrev pub DefinesNarrow : ℕ → Definition → Type 0
DefinesNarrow n (key_value d) = IsNarrow n d
DefinesNarrow n std_table = Unit {0}
DefinesNarrow n array_table = Unit {0}

abbrev pub ReadsLine : ℕ → Read Expression → Type 0
ReadsLine n None = Unit {0}
ReadsLine n (Some p) = (length p.1 ≤ n) × DefinesNarrow n p.0.1

line-if : (n : ℕ) (b : Bool) (x y : Read Expression) → ReadsLine n x → ReadsLine n y → ReadsLine n (cond b x y)
line-if n true x y h k = h
line-if n false x y h k = k

header_key-leaves : (n : ℕ) (t : List ℕ) → length t ≤ n → Leaves n (header_key t)
unfolding header_key
header_key-leaves n t h =
    leaves-then n (key (skip_ws t)) (λ k. option_map (λ rest. (k.0, rest)) (after_byte right_bracket k.1))
    (key-leaves n (skip_ws t) (skip_ws-short n t h))
    (λ k l. text-map n Key (λ rest. (k.0, rest)) (after_byte right_bracket k.1) (λ s m. m) (after_byte-leaves n right_bracket k.1 l))

array_line : (n : ℕ) (k : Key) (o : Option (List ℕ)) → LeavesText n o → ReadsLine n (option_map (λ rest. ((k, array_table), rest)) o)
array_line n k None h = tt
array_line n k (Some t) h = (h, tt)

array_header : (n : ℕ) (r : Read Key) → Leaves n r
    → ReadsLine n (option_and_then (λ k. option_map (λ rest. ((k.0, array_table), rest))
    (after_byte right_bracket k.1)) r)
array_header n None h = tt
array_header n (Some k) h = array_line n k.0 (after_byte right_bracket k.1) (after_byte-leaves n right_bracket k.1 h)

table_header : (n : ℕ) (r : Read Key) → Leaves n r → ReadsLine n (option_map (λ p. ((p.0, std_table), p.1)) r)
table_header n None h = tt
table_header n (Some k) h = (h, tt)

abbrev as_pair : Key × Data → Expression
as_pair p = (p.0, key_value p.1)

pair_then : (n : ℕ) (k : Key) (r : Read Data) → ReadsNarrow n r → ReadsLine n (read_map as_pair (read_map (λ d. (k, d)) r))
pair_then n k None h = tt
pair_then n k (Some p) h = h

pair_line : (n : ℕ) (read : List ℕ → Read Data) → ((t : List ℕ) → length t ≤ n → ReadsNarrow n (read t)) → (r : Read Key) → Leaves n r
    → ReadsLine n (read_map as_pair (option_and_then (λ (k : Key × List ℕ). read_map (λ (d : Data). (k.0, d)) (read k.1)) r))
pair_line n read all None h = tt
pair_line n read all (Some k) h = pair_then n k.0 (read k.1) (all k.1 h)

expression-narrow : (n : ℕ) (t : List ℕ) → length t ≤ n → ReadsLine n (expression t)
unfolding expression
expression-narrow n t h =
    let in_array : Read Expression = option_and_then
    (λ k. option_map (λ rest. ((k.0, array_table), rest)) (after_byte right_bracket k.1))
    (header_key (drop 2 t)) in
    let in_table : Read Expression = read_map (λ k. (k, std_table)) (header_key (drop 1 t)) in
    let pair : Read Expression = read_map (λ p. (p.0, key_value p.1)) (keyval (val 80) t) in
    line-if n (first t == left_bracket && slice_index t 1 == left_bracket) in_array (cond (first t == left_bracket) in_table pair)
    (array_header n (header_key (drop 2 t)) (header_key-leaves n (drop 2 t) (drop-short n 2 t h)))
    (line-if n (first t == left_bracket) in_table pair (table_header n (header_key (drop 1 t)) (header_key-leaves n (drop 1 t) (drop-short n 1 t h)))
    (pair_line n (val 80) (λ s k. val-narrow n 80 s k) (key_equals t) (key_equals-leaves n t h)))

ended : (n : ℕ) (r : Read Expression) → ReadsLine n r → ReadsLine n (option_and_then (λ e. cond (ends_line (skip_ws e.1)) (Some e) None) r)
ended n None h = tt
ended n (Some e) h = line-if n (ends_line (skip_ws e.1)) (Some e) None h tt

pub line-narrow : (n : ℕ) (t : List ℕ) → length t ≤ n → ReadsLine n (line t)
unfolding line
line-narrow n t h = ended n (expression t) (expression-narrow n t h)
