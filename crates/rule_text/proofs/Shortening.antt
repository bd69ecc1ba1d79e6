-- Reading of TOML never leaves more text than it was given.
use Rattle.std.proofs.Common.{ℕ, zero, suc, ◌≤◌, Bool, true, false, cond, ◌&&◌, ◌==◌, List, [], ◌∷◌, ◌++◌, length, take, drop, Option, Some, None, option_map, length-drop, arith}
use Rattle.std.specs.Prelude.{option_and_then, is_some, unwrap_or, encode_utf8, nat_lt, nat_le, slice_index}
use Rattle.std.specs.Char.{is_digit}
use Rattle.std.specs.Str.Parse.{digits_value}
use Rattle.std.specs.List.{prefix_len, list_all}
use Rattle.toml_parser.specs.Lexical.{Read, skip_ws, skip_from, skip_turn, skip_blank, skip_lines, split_while, first, line_feed, dot, backslash, starts_newline, is_bare}
use Rattle.toml_parser.specs.Strings.{Key, starts_string, is_scalar, is_plain, hex_len, simple_escape, hex_escape, escape_char, escape, at_delims, special, prepend, after_piece, body, trim_newline, one_line, quoted, simple_key, key_after, key}
use Rattle.toml_parser.specs.Numbers.{word_len, word_value, unquoted}

-- what was read leaves at most n bytes
abbrev pub Leaves : {A : Type 0} → ℕ → Read A → Type 0
Leaves n None = Unit {0}
Leaves n (Some p) = length p.1 ≤ n

abbrev pub LeavesText : ℕ → Option (List ℕ) → Type 0
LeavesText n None = Unit {0}
LeavesText n (Some t) = length t ≤ n

pub leaves-map : {A B : Type 0} (n : ℕ) (f : A → B) (r : Read A) → Leaves n r → Leaves n (option_map (λ p. (f p.0, p.1)) r)
leaves-map n f None h = tt
leaves-map n f (Some p) h = h

pub leaves-then : {A B : Type 0} (n : ℕ) (r : Read A) (f : A × List ℕ → Read B) → Leaves n r
    → ((p : A × List ℕ) → length p.1 ≤ n → Leaves n (f p)) → Leaves n (option_and_then f r)
leaves-then n None f h more = tt
leaves-then n (Some p) f h more = more p h

pub leaves-text-then : {B : Type 0} (n : ℕ) (o : Option (List ℕ)) (f : List ℕ → Read B) → LeavesText n o
    → ((t : List ℕ) → length t ≤ n → Leaves n (f t)) → Leaves n (option_and_then f o)
leaves-text-then n None f h more = tt
leaves-text-then n (Some t) f h more = more t h

pub leaves-if : {A : Type 0} (n : ℕ) (b : Bool) (x y : Read A) → Leaves n x → Leaves n y → Leaves n (cond b x y)
leaves-if n true x y h k = h
leaves-if n false x y h k = k

pub leaves-made : {A : Type 0} (n : ℕ) (o : Option A) (t : List ℕ) → length t ≤ n → Leaves n (option_map (λ d. (d, t)) o)
leaves-made n None t h = tt
leaves-made n (Some d) t h = h

pub drop-short : (n k : ℕ) (t : List ℕ) → length t ≤ n → length (drop k t) ≤ n
drop-short n k t h = omega (arith, h, length-drop k t)

pub skip_ws-short : (n : ℕ) (t : List ℕ) → length t ≤ n → length (skip_ws t) ≤ n
unfolding skip_ws
skip_ws-short n t h = drop-short n _ t h

skip-turn : (b : Bool) (x : List ℕ) (c : ℕ) (cs : List ℕ) → length x ≤ length cs → length (cond b x (c ∷ cs)) ≤ suc (length cs)
skip-turn true x c cs h = omega (arith, h)
skip-turn false x c cs h = omega arith

skip_from-short : (comments : Bool) (t : List ℕ) (inside : Bool) → length (skip_from comments inside t) ≤ length t
unfolding skip_from
skip_from-short comments [] inside = omega arith
skip_from-short comments (c ∷ cs) inside =
    skip-turn (is_some (skip_turn comments inside c (first cs)))
    (skip_from comments (unwrap_or (skip_turn comments inside c (first cs)) false) cs) c cs
    (skip_from-short comments cs (unwrap_or (skip_turn comments inside c (first cs)) false))

pub skip_blank-short : (n : ℕ) (t : List ℕ) → length t ≤ n → length (skip_blank t) ≤ n
skip_blank-short n t h = omega (arith, h, skip_from-short true t false)

-- ---- strings

hex_escape-leaves : (n k : ℕ) (t : List ℕ) → length t ≤ n → Leaves n (hex_escape k t)
unfolding hex_escape
hex_escape-leaves n k t h =
    leaves-if n ((nat_le k (length t) && list_all (λ c. is_digit c 16) (take k t))
    && is_scalar (digits_value 16 (take k t))) (Some (digits_value 16 (take k t), drop k t)) None
    (drop-short n k t h) tt

escape_char-leaves : (n : ℕ) (t : List ℕ) → length t ≤ n → Leaves n (escape_char t)
unfolding escape_char
escape_char-leaves n t h =
    leaves-if n (nat_lt 0 (hex_len (first t))) (hex_escape (hex_len (first t)) (drop 1 t)) (option_map (λ c. (c, drop 1 t)) (simple_escape (first t)))
    (hex_escape-leaves n (hex_len (first t)) (drop 1 t) (drop-short n 1 t h))
    (leaves-made n (simple_escape (first t)) (drop 1 t) (drop-short n 1 t h))

escape-leaves : (n : ℕ) (multi : Bool) (t : List ℕ) → length t ≤ n → Leaves n (escape multi t)
unfolding escape
escape-leaves n multi t h =
    leaves-if n (multi && starts_newline (skip_ws t)) (Some ([], skip_lines t)) (option_map (λ p. (encode_utf8 p.0, p.1)) (escape_char t))
    (omega (arith, h, skip_from-short false t false)) (leaves-map n encode_utf8 (escape_char t) (escape_char-leaves n t h))

at_delims-leaves : (n delim : ℕ) (t : List ℕ) → length t ≤ n → Leaves n (at_delims delim t)
at_delims-leaves n delim t h =
    let many = prefix_len (λ c. c == delim) t in
    let three : Read (Option (List ℕ)) = Some (None, drop 3 t) in
    let one : Read (Option (List ℕ)) = Some (Some (delim ∷ []), drop 1 t) in
    leaves-if n (many == 3) three (cond (nat_lt many 6) one None) (drop-short n 3 t h) (leaves-if n (nat_lt many 6) one None (drop-short n 1 t h) tt)

special-leaves : (n delim : ℕ) (multi : Bool) (t : List ℕ) → length t ≤ n → Leaves n (special delim multi t)
unfolding special
special-leaves n delim multi t h =
    let ended : Read (Option (List ℕ)) = Some (None, drop 1 t) in
    let newline : Read (Option (List ℕ)) = Some (Some (first t ∷ []), drop 1 t) in
    let escaped : Read (Option (List ℕ)) = option_map (λ p. (Some p.0, p.1)) (escape multi (drop 1 t)) in
    leaves-if n (first t == delim) (cond multi (at_delims delim t) ended)
    (cond (first t == backslash) escaped (cond (multi && starts_newline t) newline None))
    (leaves-if n multi (at_delims delim t) ended (at_delims-leaves n delim t h) (drop-short n 1 t h))
    (leaves-if n (first t == backslash) escaped (cond (multi && starts_newline t) newline None)
    (leaves-map n (λ (bytes : List ℕ). Some bytes) (escape multi (drop 1 t)) (escape-leaves n multi (drop 1 t) (drop-short n 1 t h)))
    (leaves-if n (multi && starts_newline t) newline None (drop-short n 1 t h) tt))

piece-leaves : (n : ℕ) (more : List ℕ → Read (List ℕ)) (o : Option (List ℕ)) (t : List ℕ) → length t ≤ n
    → ((s : List ℕ) → length s ≤ n → Leaves n (more s)) → Leaves n (after_piece more o t)
piece-leaves n more None t h ih = h
piece-leaves n more (Some bytes) t h ih = leaves-map n (λ s. bytes ++ s) (more t) (ih t h)

body-leaves : (n delim : ℕ) (multi : Bool) (m : ℕ) (t : List ℕ) → length t ≤ n → Leaves n (body delim multi m t)
unfolding body
body-leaves n delim multi zero t h = tt
body-leaves n delim multi (suc m) t h =
    leaves-if n (is_plain delim multi (first t)) (prepend (first t ∷ []) (body delim multi m (drop 1 t)))
    (option_and_then (λ p. after_piece (body delim multi m) p.0 p.1) (special delim multi t))
    (leaves-map n (λ s. (first t ∷ []) ++ s) (body delim multi m (drop 1 t)) (body-leaves n delim multi m (drop 1 t) (drop-short n 1 t h)))
    (leaves-then n (special delim multi t) (λ p. after_piece (body delim multi m) p.0 p.1) (special-leaves n delim multi t h)
    (λ p k. piece-leaves n (body delim multi m) p.0 p.1 k (λ s l. body-leaves n delim multi m s l)))

if-short : (n : ℕ) (b : Bool) (x y : List ℕ) → length x ≤ n → length y ≤ n → length (cond b x y) ≤ n
if-short n true x y h k = h
if-short n false x y h k = k

trim-short : (n : ℕ) (t : List ℕ) → length t ≤ n → length (trim_newline t) ≤ n
trim-short n t h =
    if-short n (first t == line_feed) (drop 1 t) (cond (starts_newline t) (drop 2 t) t) (drop-short n 1 t h)
    (if-short n (starts_newline t) (drop 2 t) t (drop-short n 2 t h) h)

one_line-leaves : (n : ℕ) (t : List ℕ) → length t ≤ n → Leaves n (one_line t)
unfolding one_line
one_line-leaves n t h = body-leaves n (first t) false (length t) (drop 1 t) (drop-short n 1 t h)

pub quoted-leaves : (n : ℕ) (t : List ℕ) → length t ≤ n → Leaves n (quoted t)
unfolding quoted
quoted-leaves n t h =
    leaves-if n (slice_index t 1 == first t && slice_index t 2 == first t) (body (first t) true (length t) (trim_newline (drop 3 t))) (one_line t)
    (body-leaves n (first t) true (length t) (trim_newline (drop 3 t)) (trim-short n (drop 3 t) (drop-short n 3 t h))) (one_line-leaves n t h)

-- ---- keys and scalars

simple_key-leaves : (n : ℕ) (t : List ℕ) → length t ≤ n → Leaves n (simple_key t)
unfolding simple_key
simple_key-leaves n t h =
    leaves-if n (starts_string t) (one_line t) (cond (is_bare (first t)) (Some (split_while is_bare t)) None) (one_line-leaves n t h)
    (leaves-if n (is_bare (first t)) (Some (split_while is_bare t)) None (drop-short n (prefix_len is_bare t) t h) tt)

key_after-leaves : (n m : ℕ) (path : List (List ℕ)) (t : List ℕ) → length t ≤ n → Leaves n (key_after m path t)
unfolding key_after
key_after-leaves n zero path t h = tt
key_after-leaves n (suc m) path t h =
    let more : List ℕ × List ℕ → Read Key = λ p. cond (first (skip_ws p.1) == dot)
    (key_after m (path ++ p.0 ∷ []) (skip_ws (drop 1 (skip_ws p.1)))) (Some ((path, p.0), skip_ws p.1)) in
    leaves-then n (simple_key t) more (simple_key-leaves n t h)
    (λ p k. leaves-if n (first (skip_ws p.1) == dot)
    (key_after m (path ++ p.0 ∷ []) (skip_ws (drop 1 (skip_ws p.1)))) (Some ((path, p.0), skip_ws p.1))
    (key_after-leaves n m (path ++ p.0 ∷ []) (skip_ws (drop 1 (skip_ws p.1)))
    (skip_ws-short n (drop 1 (skip_ws p.1)) (drop-short n 1 (skip_ws p.1) (skip_ws-short n p.1 k))))
    (skip_ws-short n p.1 k))

pub key-leaves : (n : ℕ) (t : List ℕ) → length t ≤ n → Leaves n (key t)
key-leaves n t h = key_after-leaves n 80 [] t h

pub unquoted-leaves : (n : ℕ) (t : List ℕ) → length t ≤ n → Leaves n (unquoted t)
unfolding unquoted
unquoted-leaves n t h =
    leaves-if n (word_len t == 0) None (option_map (λ d. (d, drop (word_len t) t)) (word_value (take (word_len t) t))) tt
    (leaves-made n (word_value (take (word_len t) t)) (drop (word_len t) t) (drop-short n (word_len t) t h))
