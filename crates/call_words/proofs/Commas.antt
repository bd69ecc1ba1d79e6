-- Texts with commas: the texts between them, and that none with one is a number.
use Rattle.std.proofs.Common.{◌≡◌, ◌⊎◌, inl, inr, ℕ, zero, suc, ◌<◌, rules, Bor, MatchOption, Bool, true, false, List, [], ◌∷◌, ◌++◌, length, get_or, Option, Some, None, cond, ◌==◌, refl, sym, ap, ◌∙◌, subst, arith}
use Rattle.std.proofs.lemmas.Bool.{ne_eqb}
use Rattle.std.proofs.lemmas.Str.Pattern.{IsSplitOnceResult, split_parts}
use Rattle.std.specs.List.{onto_first}
use Rattle.tile_shape.specs.Text.{comma}
use Rattle.tile_shape.specs.Words.{texts_between}

-- the text has no comma
abbrev pub NoComma : List ℕ → Type 0
NoComma xs = (i : ℕ) → i < length xs → get_or xs i 0 ≡ comma → ⊥

tail-none : (x : ℕ) (xs : List ℕ) → NoComma (x ∷ xs) → NoComma xs
tail-none x xs none i l = none (suc i) (omega (arith, l))

-- ---- what is found of the first comma
pub found_none : (text : List ℕ) (r : Option (Bor (List ℕ) × Bor (List ℕ))) → IsSplitOnceResult comma text r → r ≡ None → NoComma text
found_none text r h e = at_none _ _ r e (split_parts comma text r h (omega arith))
  where
    at_none : (P : Type 0) (Q : Bor (List ℕ) × Bor (List ℕ) → Type 0) (r : Option (Bor (List ℕ) × Bor (List ℕ))) → r ≡ None → MatchOption r P Q → P
    at_none P Q None e p = p
    at_none P Q (Some x) e p = absurd (cc e)

pub found_some : (text : List ℕ) (r : Option (Bor (List ℕ) × Bor (List ℕ))) (x : Bor (List ℕ) × Bor (List ℕ))
    → IsSplitOnceResult comma text r → r ≡ Some x → (text ≡ x.0.now ++ comma ∷ x.1.now) × NoComma x.0.now
found_some text r x h e = at_some _ _ r e (split_parts comma text r h (omega arith))
  where
    some_is : (y : Bor (List ℕ) × Bor (List ℕ)) → Some y ≡ Some x → y ≡ x
    some_is y e = cc

    at_some : (P : Type 0) (Q : Bor (List ℕ) × Bor (List ℕ) → Type 0)
        (r : Option (Bor (List ℕ) × Bor (List ℕ))) → r ≡ Some x → MatchOption r P Q → Q x
    at_some P Q None e p = absurd (cc e)
    at_some P Q (Some y) e p = subst Q (some_is y e) p

-- ---- the texts between commas, where the first comma is told
pub pieces_at : (xs ys : List ℕ) → NoComma xs → texts_between comma (xs ++ comma ∷ ys) ≡ xs ∷ texts_between comma ys
pieces_at [] ys none = refl
pieces_at (x ∷ xs) ys none =
    ap (λ b. cond b ([] ∷ texts_between comma (xs ++ comma ∷ ys))
    (onto_first x (texts_between comma (xs ++ comma ∷ ys)))) (ne_eqb x comma (none 0 (omega arith)))
    ∙ ap (onto_first x) (pieces_at xs ys (tail-none x xs none))

pub pieces_last : (xs : List ℕ) → NoComma xs → texts_between comma xs ≡ xs ∷ []
pieces_last [] none = refl
pieces_last (x ∷ xs) none =
    ap (λ b. cond b ([] ∷ texts_between comma xs) (onto_first x (texts_between comma xs))) (ne_eqb x comma (none 0 (omega arith)))
    ∙ ap (onto_first x) (pieces_last xs (tail-none x xs none))

-- the text has one, behind others that are none
pub record HasComma (text : List ℕ) : Type 0 where
  pub before : List ℕ
  pub behind : List ℕ
  pub split : text ≡ before ++ comma ∷ behind
  pub none : NoComma before

pub comma_or_none : (text : List ℕ) → HasComma text ⊎ NoComma text
comma_or_none [] = inr (λ i l. absurd (omega (arith, l)))
comma_or_none (x ∷ xs) = at_test (x == comma) refl (comma_or_none xs)
  where
    first : (x == comma) ≡ false → get_or (x ∷ xs) 0 0 ≡ comma → ⊥
    first e f = absurd (cc (sym e ∙ ap (λ y. y == comma) f))

    cons-none : (x : ℕ) (ys : List ℕ) → (x ≡ comma → ⊥) → NoComma ys → NoComma (x ∷ ys)
    cons-none x ys f none zero l = f
    cons-none x ys f none (suc i) l = none i (omega (arith, l))

    is_comma : (x : ℕ) → (x == comma) ≡ true → x ≡ comma
    is_comma x e = search (rules, e)

    at_test : (b : Bool) → (x == comma) ≡ b → HasComma xs ⊎ NoComma xs → HasComma (x ∷ xs) ⊎ NoComma (x ∷ xs)
    at_test true e rest = inl (record { before = []; behind = xs; split = ap (λ y. y ∷ xs) (is_comma x e); none = λ i l. absurd (omega (arith, l)) })
    at_test false e (inl h) = inl (record {
      before = x ∷ h.before;
      behind = h.behind;
      split = ap (λ ys. x ∷ ys) h.split;
      none = cons-none x h.before (first e) h.none;
    })
    at_test false e (inr none) = inr (cons-none x xs (first e) none)

-- there is a first one
pub first_piece : (text : List ℕ) → (piece : List ℕ) × (rest : List (List ℕ)) × (texts_between comma text ≡ piece ∷ rest)
first_piece [] = ([], [], refl)
first_piece (x ∷ xs) = at_test (x == comma) refl (first_piece xs)
  where
    at_test : (b : Bool) → (x == comma) ≡ b → ((piece : List ℕ) × (rest : List (List ℕ)) × (texts_between comma xs ≡ piece ∷ rest))
        → (piece : List ℕ) × (rest : List (List ℕ)) × (texts_between comma (x ∷ xs) ≡ piece ∷ rest)
    at_test true e f = ([], texts_between comma xs, ap (λ b. cond b ([] ∷ texts_between comma xs) (onto_first x (texts_between comma xs))) e)
    at_test false e f = (
      x ∷ f.0,
      f.1,
      ap (λ b. cond b ([] ∷ texts_between comma xs)
          (onto_first x (texts_between comma xs))) e ∙ ap (onto_first x) f.2,
    )
