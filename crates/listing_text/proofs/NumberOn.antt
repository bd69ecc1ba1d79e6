-- The number before a mark, read on byte by byte.
use Rattle.std.proofs.Common.{◌≡◌, ℕ, ◌+◌, ◌<◌, Bool, true, false, cond, not, ◌&&◌, List, [], ◌∷◌, Option, Some, None, nat_le, nat_eq, nat_lt, option_map, refl, ap, sym, ◌∙◌, arith}
use Rattle.std.proofs.lemmas.Bool.Decides.{nat_tests}
use Rattle.std.specs.List.{onto_first}
use Rattle.tile_shape.specs.Decimal.{is_figure, number_up_to}
use Rattle.tile_shape.specs.Words.{first_by, texts_between}
use Rattle.listing_text.proofs.Figures.{further, figured, further-figure, first-figure}

-- there is a first text
pub some_first : (mark : ℕ) (text : List ℕ) → (w : List ℕ) × (ws : List (List ℕ)) × (texts_between mark text ≡ w ∷ ws)
some_first mark [] = ([], [], refl)
some_first mark (b ∷ bs) = at_test (nat_eq b mark)
  where
    at_front : (ps : List (List ℕ)) → (w : List ℕ) × (ws : List (List ℕ)) × (onto_first b ps ≡ w ∷ ws)
    at_front [] = (b ∷ [], [], refl)
    at_front (p ∷ ps) = (b ∷ p, ps, refl)

    at_test : (t : Bool) → (w : List ℕ) × (ws : List (List ℕ)) × (cond t ([] ∷ texts_between mark bs) (onto_first b (texts_between mark bs)) ≡ w ∷ ws)
    at_test true = ([], texts_between mark bs, refl)
    at_test false = at_front (texts_between mark bs)

-- what is read where no byte is left of the number: something must have been read
abbrev pub ended : ℕ → ℕ → List (List ℕ) → Option (ℕ × List (List ℕ))
ended place n rest = cond (nat_eq place 0) None (Some (n, rest))

-- the number, which is n so far, from a place on
abbrev pub number_on : ℕ → ℕ → ℕ → ℕ → List ℕ → Option (ℕ × List (List ℕ))
number_on mark most place n [] = ended place n []
number_on mark most place n (b ∷ bs) =
    cond (nat_eq b mark) (ended place n (texts_between mark bs))
    (cond (is_figure b && not (nat_eq n 0 && nat_lt 0 place))
    (cond (nat_le (figured n b) most) (number_on mark most (place + 1) (figured n b) bs) None) None)

module _ (mark most : ℕ) where
  -- a byte before the first text
  first_by-cond : (f l : Bool) (form : List ℕ → Option ℕ) (w : List ℕ) (ws : List (List ℕ)) (whole : Option ℕ) (on : Option (ℕ × List (List ℕ)))
      → whole ≡ cond f (cond l (form w) None) None → on ≡ first_by form (w ∷ ws) → cond f (cond l on None) None ≡ option_map (λ x. (x, ws)) whole
  first_by-cond true true form w ws whole on e h = h ∙ ap (option_map (λ x. (x, ws))) (sym e)
  first_by-cond true false form w ws whole on e h = ap (option_map (λ x. (x, ws))) (sym e)
  first_by-cond false l form w ws whole on e h = ap (option_map (λ x. (x, ws))) (sym e)

  not_first : (place : ℕ) → 0 < place → nat_eq place 0 ≡ false
  not_first place h = grind (arith, nat_tests)

  below : (place : ℕ) → 0 < place → nat_lt 0 place ≡ true
  below place h = grind (arith, nat_tests)

  next_place : (place : ℕ) → 0 < place + 1
  next_place place = omega arith

  and_true : (z : Bool) (b : Bool) → b ≡ true → (z && b) ≡ z
  and_true true b e = e
  and_true false b e = refl

  -- behind the first figure
  far_on : (text : List ℕ) (place n : ℕ) → 0 < place → number_on mark most place n text ≡ first_by (further most n) (texts_between mark text)
  far_on [] place n h = ap (λ t. cond t None (Some (n, []))) (not_first place h)
  far_on (b ∷ bs) place n h = at_test (nat_eq b mark) (far_on bs (place + 1) (figured n b) (next_place place)) (some_first mark bs)
    where
      at_test : (t : Bool) → number_on mark most (place + 1) (figured n b) bs ≡ first_by
          (further most (figured n b)) (texts_between mark bs)
          → ((w : List ℕ) × (ws : List (List ℕ)) × (texts_between mark bs ≡ w ∷ ws))
          → cond t (ended place n (texts_between mark bs))
          (cond (is_figure b && not (nat_eq n 0 && nat_lt 0 place))
          (cond (nat_le (figured n b) most) (number_on mark most (place + 1) (figured n b) bs) None) None)
          ≡ first_by (further most n) (cond t ([] ∷ texts_between mark bs) (onto_first b (texts_between mark bs)))
      at_test true on s = ap (λ t. cond t None (Some (n, texts_between mark bs))) (not_first place h)
      at_test false on (w, ws, e) =
          ap (λ z. cond (is_figure b && not z) (cond (nat_le (figured n b) most)
          (number_on mark most (place + 1) (figured n b) bs) None) None)
          (and_true (nat_eq n 0) (nat_lt 0 place) (below place h))
          ∙ first_by-cond (is_figure b && not (nat_eq n 0)) (nat_le (figured n b) most)
          (further most (figured n b)) w ws (further most n (b ∷ w))
          (number_on mark most (place + 1) (figured n b) bs)
          (further-figure most n b w) (on ∙ ap (first_by (further most (figured n b))) e)
          ∙ sym (ap (λ ps. first_by (further most n) (onto_first b ps)) e)

  -- from the first byte on it is the number of the first text
  pub number_on-first : (text : List ℕ) → number_on mark most 0 0 text ≡ first_by (number_up_to most) (texts_between mark text)
  number_on-first [] = refl
  number_on-first (b ∷ bs) = at_test (nat_eq b mark) (some_first mark bs)
    where
      and_false : (f : Bool) → (f && true) ≡ f
      and_false true = refl
      and_false false = refl

      at_test : (t : Bool) → ((w : List ℕ) × (ws : List (List ℕ)) × (texts_between mark bs ≡ w ∷ ws))
          → cond t (ended 0 0 (texts_between mark bs))
          (cond (is_figure b && true) (cond (nat_le (figured 0 b) most)
          (number_on mark most 1 (figured 0 b) bs) None) None)
          ≡ first_by (number_up_to most) (cond t ([] ∷ texts_between mark bs) (onto_first b (texts_between mark bs)))
      at_test true s = refl
      at_test false (w, ws, e) =
          ap (λ f. cond f (cond (nat_le (figured 0 b) most) (number_on mark most 1 (figured 0 b) bs) None) None) (and_false (is_figure b))
          ∙ first_by-cond (is_figure b) (nat_le (figured 0 b) most) (further most (figured 0 b)) w ws
          (number_up_to most (b ∷ w)) (number_on mark most 1 (figured 0 b) bs)
          (first-figure most b w) (far_on bs 1 (figured 0 b) (next_place 0) ∙ ap (first_by (further most (figured 0 b))) e)
          ∙ sym (ap (λ ps. first_by (number_up_to most) (onto_first b ps)) e)
