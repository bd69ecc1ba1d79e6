-- How many lines are left of a text, by whether one is begun.
use Rattle.std.proofs.Common.{◌≡◌, ℕ, suc, ◌+◌, ◌<◌, Bool, true, false, cond, List, [], ◌∷◌, length, drop, get_or, nat_eq, refl, sym, ap, ap₂, ◌∙◌, eq-eqb, arith}
use Rattle.std.proofs.lemmas.Bool.{ne_eqb}
use Rattle.std.proofs.lemmas.List.{drop_more}
use Rattle.std.specs.List.{onto_first}
use Rattle.cyclo_points.specs.Text.{newline}
use Rattle.listing_text.specs.Lines.{lines_in}

-- the lines of what is left, with the one that is begun
abbrev pub lines_left : Bool → List ℕ → ℕ
lines_left true bytes = length (onto_first 0 (lines_in bytes))
lines_left false bytes = length (lines_in bytes)

same_first : (a b : ℕ) (ls : List (List ℕ)) → length (onto_first a ls) ≡ length (onto_first b ls)
same_first a b [] = refl
same_first a b (l ∷ ls) = refl

twice_first : (a b : ℕ) (ls : List (List ℕ)) → length (onto_first a (onto_first b ls)) ≡ length (onto_first a ls)
twice_first a b [] = refl
twice_first a b (l ∷ ls) = refl

at_newline : (begun : Bool) (b : ℕ) (bs : List ℕ) → nat_eq b newline ≡ true → lines_left begun (b ∷ bs) ≡ suc (lines_left false bs)
at_newline true b bs e = ap (λ t. length (onto_first 0 (cond t ([] ∷ lines_in bs) (onto_first b (lines_in bs))))) e
at_newline false b bs e = ap (λ t. length (cond t ([] ∷ lines_in bs) (onto_first b (lines_in bs)))) e

at_other : (begun : Bool) (b : ℕ) (bs : List ℕ) → nat_eq b newline ≡ false → lines_left begun (b ∷ bs) ≡ lines_left true bs
at_other true b bs e = ap (λ t. length (onto_first 0 (cond t ([] ∷ lines_in bs) (onto_first b (lines_in bs))))) e ∙ twice_first 0 b (lines_in bs)
at_other false b bs e = ap (λ t. length (cond t ([] ∷ lines_in bs) (onto_first b (lines_in bs)))) e ∙ same_first b 0 (lines_in bs)

module _ (text : List ℕ) (i ended : ℕ) (begun : Bool) (h : i < length text)
    (so_far : ended + lines_left begun (drop i text) ≡ length (lines_in text)) where
  -- one byte more, a newline or another
  pub newline_passed : (more : ℕ) (now : Bool) → get_or text i 0 ≡ newline → more ≡ ended + 1 → now ≡ false
      → more + lines_left now (drop (i + 1) text) ≡ length (lines_in text)
  newline_passed more now is e f =
      let one : lines_left begun (drop i text) ≡ suc (lines_left false (drop (i + 1) text)) =
      ap (lines_left begun) (drop_more text i 0 h) ∙ at_newline begun (get_or text i 0) (drop (i + 1) text) (eq-eqb (get_or text i 0) newline is) in
      ap₂ (λ k b. k + lines_left b (drop (i + 1) text)) e f ∙ plus one so_far
    where
      plus : {a b c : ℕ} → a ≡ suc b → ended + a ≡ c → (ended + 1) + b ≡ c
      plus p q = omega arith

  pub other_passed : (more : ℕ) (now : Bool) → (get_or text i 0 ≡ newline → ⊥) → more ≡ ended → now ≡ true
      → more + lines_left now (drop (i + 1) text) ≡ length (lines_in text)
  other_passed more now other e f =
      ap₂ (λ k b. k + lines_left b (drop (i + 1) text)) e f
      ∙ ap (λ k. ended + k) (sym (ap (lines_left begun) (drop_more text i 0 h)
      ∙ at_other begun (get_or text i 0) (drop (i + 1) text) (ne_eqb (get_or text i 0) newline other)))
      ∙ so_far
