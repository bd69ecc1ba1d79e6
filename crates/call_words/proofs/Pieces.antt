-- A path read piece by piece.
use Rattle.std.proofs.Common.{◌≡◌, ℕ, zero, suc, ◌+◌, ◌-◌, ◌<◌, ◌≤◌, Bool, true, false, List, [], ◌∷◌, ◌++◌, length, get_or, take, drop, Option, Some, None, nat_le, ◌==◌, cond, refl, sym, ap, ap₂, ◌∙◌, arith, append_assoc, append-nil, length-append}
use Rattle.std.proofs.lemmas.Bool.{leb-true, le-leb, ne_eqb}
use Rattle.std.proofs.lemmas.List.{take_more, get_or-drop, length-drop}
use Rattle.std.specs.List.{onto_first}
use Rattle.std.specs.Option.{option_map, option_and_then}
use Rattle.tile_shape.specs.Decimal.{number_up_to}
use Rattle.tile_shape.specs.Text.{comma}
use Rattle.tile_shape.specs.Words.{texts_between}
use Rattle.call_words.specs.PathWords.{numbers, put, longest_path, unless_long}
use Rattle.call_words.proofs.Commas.{first_piece}

-- the texts between commas, of which the first has begun with some bytes
abbrev pub pieces : List ℕ → List ℕ → List (List ℕ)
pieces begun [] = begun ∷ []
pieces begun (byte ∷ bytes) = cond (byte == comma) (begun ∷ pieces [] bytes) (pieces (begun ++ byte ∷ []) bytes)

-- bytes in front of the first of some texts
abbrev in_front : List ℕ → List (List ℕ) → List (List ℕ)
in_front begun [] = begun ∷ []
in_front begun (text ∷ texts) = (begun ++ text) ∷ texts

in_front-none : (bytes : List ℕ) → in_front [] (texts_between comma bytes) ≡ texts_between comma bytes
in_front-none bytes = let f = first_piece bytes in ap (in_front []) f.2 ∙ sym f.2

pieces-in_front : (begun bytes : List ℕ) → pieces begun bytes ≡ in_front begun (texts_between comma bytes)
pieces-in_front begun [] = ap (λ b. b ∷ []) (sym (append-nil begun))
pieces-in_front begun (x ∷ xs) = at_test (x == comma) (pieces-in_front [] xs) (pieces-in_front (begun ++ x ∷ []) xs)
  where
    moved : (texts : List (List ℕ)) → in_front (begun ++ x ∷ []) texts ≡ in_front begun (onto_first x texts)
    moved [] = refl
    moved (text ∷ texts) = ap (λ b. b ∷ texts) (append_assoc begun (x ∷ []) text)

    at_test : (b : Bool) → pieces [] xs ≡ in_front [] (texts_between comma xs)
        → pieces (begun ++ x ∷ []) xs ≡ in_front (begun ++ x ∷ []) (texts_between comma xs)
        → cond b (begun ∷ pieces [] xs) (pieces (begun ++ x ∷ []) xs) ≡ in_front begun
        (cond b ([] ∷ texts_between comma xs) (onto_first x (texts_between comma xs)))
    at_test true e f = ap₂ (λ b texts. b ∷ texts) (sym (append-nil begun)) (e ∙ in_front-none xs)
    at_test false e f = f ∙ moved (texts_between comma xs)

pieces-are : (bytes : List ℕ) → pieces [] bytes ≡ texts_between comma bytes
pieces-are bytes = pieces-in_front [] bytes ∙ in_front-none bytes

pub put-none : (found : Option (List ℕ)) → put [] found ≡ found
put-none None = refl
put-none (Some ns) = refl

put-put : (front : List ℕ) (n : ℕ) (found : Option (List ℕ)) → put front (option_map (λ ns. n ∷ ns) found) ≡ put (front ++ n ∷ []) found
put-put front n None = refl
put-put front n (Some ns) = ap (λ x. Some x) (sym (append_assoc front (n ∷ []) ns))

le_of : (m n : ℕ) → nat_le m n ≡ true → m ≤ n
le_of m n e = leb-true m n e

le_true : (m n : ℕ) → m ≤ n → nat_le m n ≡ true
le_true m n h = le-leb m n h

-- a piece that is a number
pub read_on : (front piece : List ℕ) (rest : List (List ℕ)) (n : ℕ) → number_up_to 255 piece ≡ Some n
    → put front (numbers (piece ∷ rest)) ≡ put (front ++ n ∷ []) (numbers rest)
read_on front piece rest n e = ap (λ o. put front
    (option_and_then (λ n. option_map (λ ns. n ∷ ns) (numbers rest)) o)) e ∙ put-put front n (numbers rest)

-- a piece that is none
pub read_none : (front piece : List ℕ) (rest : List (List ℕ)) → number_up_to 255 piece ≡ None → put front (numbers (piece ∷ rest)) ≡ None
read_none front piece rest e = ap (λ o. put front (option_and_then (λ n. option_map (λ ns. n ∷ ns) (numbers rest)) o)) e

-- too many numbers, whatever comes
pub too_many : (front : List ℕ) (found : Option (List ℕ)) → longest_path < length front → unless_long (put front found) ≡ None
too_many front None h = refl
too_many front (Some ns) h = ap (λ b. cond b (Some (front ++ ns)) None) (at_test (nat_le (length (front ++ ns)) longest_path) refl)
  where
    at_test : (b : Bool) → nat_le (length (front ++ ns)) longest_path ≡ b → nat_le (length (front ++ ns)) longest_path ≡ false
    at_test false e = e
    at_test true e = absurd (let l = le_of (length (front ++ ns)) longest_path e in omega (arith, length-append front ns, h, l))

pub few : (path : List ℕ) → length path ≤ longest_path → unless_long (Some path) ≡ Some path
few path h = ap (λ b. cond b (Some path) None) (le_true (length path) longest_path h)

-- the text from a place on begins with the byte there
pub at_place : (bytes : List ℕ) (i : ℕ) → i < length bytes → drop i bytes ≡ get_or bytes i 0 ∷ drop (i + 1) bytes
at_place [] i h = absurd (omega arith)
at_place (b ∷ bs) zero h = refl
at_place (b ∷ bs) (suc i) h = let e : suc i + 1 ≡ suc (i + 1) = omega arith in rw e (at_place bs i (omega arith))

pub at_comma : (begun bytes : List ℕ) (i : ℕ) → i < length bytes → get_or bytes i 0 ≡ comma
    → pieces begun (drop i bytes) ≡ begun ∷ pieces [] (drop (i + 1) bytes)
at_comma begun bytes i h e = ap (pieces begun) (at_place bytes i h)
    ∙ ap (λ b. cond b (begun ∷ pieces [] (drop (i + 1) bytes))
    (pieces (begun ++ get_or bytes i 0 ∷ []) (drop (i + 1) bytes))) (is (get_or bytes i 0) e)
  where
    is : (b : ℕ) → b ≡ comma → (b == comma) ≡ true
    is b e = rw e refl

pub at_other : (begun bytes : List ℕ) (i : ℕ) → i < length bytes → (get_or bytes i 0 == comma) ≡ false
    → pieces begun (drop i bytes) ≡ pieces (begun ++ get_or bytes i 0 ∷ []) (drop (i + 1) bytes)
at_other begun bytes i h e = ap (pieces begun) (at_place bytes i h)
    ∙ ap (λ b. cond b (begun ∷ pieces [] (drop (i + 1) bytes))
    (pieces (begun ++ get_or bytes i 0 ∷ []) (drop (i + 1) bytes))) e

take-none : (n : ℕ) (xs : List ℕ) → take (n - n) xs ≡ []
take-none n xs = let e : n - n ≡ 0 = omega arith in rw e (none xs)
  where
    none : (xs : List ℕ) → take 0 xs ≡ []
    none [] = refl
    none (x ∷ xs) = refl

-- ---- a byte further: behind a comma a piece begins, and any other byte is of the piece that has begun
pub after_comma : (bytes path new : List ℕ) (begin place : ℕ) → place < length bytes → get_or bytes place 0 ≡ comma
    → ((rest : List (List ℕ)) → put new (numbers rest) ≡ put path (numbers (take (place - begin) (drop begin bytes) ∷ rest)))
    → put path (numbers (pieces (take (place - begin) (drop begin bytes)) (drop place bytes))) ≡ numbers (pieces [] bytes)
    → put new (numbers (pieces (take ((place + 1) - (place + 1)) (drop (place + 1) bytes)) (drop (place + 1) bytes))) ≡ numbers (pieces [] bytes)
after_comma bytes path new begin place h e read same =
    ap (λ p. put new (numbers (pieces p (drop (place + 1) bytes))))
    (take-none (place + 1) (drop (place + 1) bytes)) ∙ read (pieces [] (drop (place + 1) bytes))
    ∙ ap (λ ps. put path (numbers ps)) (sym (at_comma (take (place - begin) (drop begin bytes)) bytes place h e)) ∙ same

pub after_other : (bytes path : List ℕ) (begin place : ℕ) → begin ≤ place → place < length bytes → (get_or bytes place 0 ≡ comma → ⊥)
    → put path (numbers (pieces (take (place - begin) (drop begin bytes)) (drop place bytes))) ≡ numbers (pieces [] bytes)
    → put path (numbers (pieces (take ((place + 1) - begin) (drop begin bytes)) (drop (place + 1) bytes))) ≡ numbers (pieces [] bytes)
after_other bytes path begin place b h e same =
    ap (λ p. put path (numbers (pieces p (drop (place + 1) bytes)))) one_more
    ∙ ap (λ ps. put path (numbers ps)) (sym (at_other (take (place - begin) (drop begin bytes)) bytes
    place h (ne_eqb (get_or bytes place 0) comma e))) ∙ same
  where
    count : (place + 1) - begin ≡ (place - begin) + 1
    count = omega (arith, b)

    at : begin + (place - begin) ≡ place
    at = omega (arith, b)

    one_more : take ((place + 1) - begin) (drop begin bytes) ≡ take (place - begin) (drop begin bytes) ++ get_or bytes place 0 ∷ []
    one_more =
        ap (λ n. take n (drop begin bytes)) count ∙ take_more (drop begin bytes) (place - begin) 0 (omega (arith, length-drop begin bytes, h, b))
        ∙ ap (λ x. take (place - begin) (drop begin bytes) ++ x ∷ []) (get_or-drop begin bytes (place - begin) 0 ∙ ap (λ i. get_or bytes i 0) at)

-- at the end of the text the piece that has begun is the last
pub at_end : (bytes path : List ℕ) (begin place : ℕ) → length bytes ≤ place → begin ≤ place → place ≤ length bytes
    → put path (numbers (pieces (take (place - begin) (drop begin bytes)) (drop place bytes))) ≡ numbers (pieces [] bytes)
    → put path (numbers (take (length bytes - begin) (drop begin bytes) ∷ [])) ≡ numbers (pieces [] bytes)
at_end bytes path begin place past b e same =
    ap₂ (λ p rest. put path (numbers (pieces p rest)))
    (ap (λ n. take (n - begin) (drop begin bytes))
    (let e : length bytes ≡ place = omega (arith, past, e) in e)) (sym (nothing bytes place past)) ∙ same
  where
    nothing : (xs : List ℕ) (n : ℕ) → length xs ≤ n → drop n xs ≡ []
    nothing [] zero h = refl
    nothing [] (suc n) h = refl
    nothing (x ∷ xs) zero h = absurd (omega arith)
    nothing (x ∷ xs) (suc n) h = nothing xs n (omega arith)

pub refused_at_comma : (bytes path : List ℕ) (begin place : ℕ) → place < length bytes → get_or bytes place 0 ≡ comma
    → put path (numbers (pieces (take (place - begin) (drop begin bytes)) (drop place bytes))) ≡ numbers (pieces [] bytes)
    → ((rest : List (List ℕ)) → unless_long (put path
    (numbers (take (place - begin) (drop begin bytes) ∷ rest))) ≡ None)
    → None ≡ unless_long (numbers (texts_between comma bytes))
refused_at_comma bytes path begin place h e same none =
    sym (none (pieces [] (drop (place + 1) bytes)))
    ∙ ap (λ ps. unless_long (put path (numbers ps)))
    (sym (at_comma (take (place - begin) (drop begin bytes)) bytes place h e)) ∙ ap unless_long same
    ∙ ap (λ ps. unless_long (numbers ps)) (pieces-are bytes)

pub path_refused : (bytes path : List ℕ) (begin : ℕ)
    → put path (numbers (take (length bytes - begin) (drop begin bytes) ∷ [])) ≡ numbers (pieces [] bytes)
    → unless_long (put path (numbers (take (length bytes - begin) (drop begin bytes) ∷ []))) ≡ None
    → None ≡ unless_long (numbers (texts_between comma bytes))
path_refused bytes path begin same none = sym none ∙ ap unless_long same ∙ ap (λ ps. unless_long (numbers ps)) (pieces-are bytes)

pub path_read : (bytes path new : List ℕ) (begin : ℕ) → length new ≤ longest_path
    → put path (numbers (take (length bytes - begin) (drop begin bytes) ∷ [])) ≡ numbers (pieces [] bytes)
    → ((rest : List (List ℕ)) → put new (numbers rest) ≡ put path
    (numbers (take (length bytes - begin) (drop begin bytes) ∷ rest)))
    → Some new ≡ unless_long (numbers (texts_between comma bytes))
path_read bytes path new begin h same read =
    sym (few new h) ∙ ap (λ xs. unless_long (Some xs)) (sym (append-nil new))
    ∙ ap unless_long (read [] ∙ same) ∙ ap (λ ps. unless_long (numbers ps)) (pieces-are bytes)
