-- However growth is divided, the digits are the same.
use Rattle.std.proofs.Common.{◌≡◌, ℕ, zero, suc, ◌+◌, List, [], ◌∷◌, ◌++◌, length, refl, sym, ap, ap₂, ◌∙◌, arith, add-zero, zero-add}
use Rattle.theory_addresses.specs.Address.{Step, top_from}
use Rattle.theory_frames.specs.Growth.{chosen, grown_from}

module _ (uses : ℕ → List Step) (word : ℕ → ℕ) where
  pub grown-length : (j top n : ℕ) → length (grown_from uses word j top n) ≡ n
  grown-length j top zero = refl
  grown-length j top (suc n) = ap suc (grown-length (j + 1) (chosen (uses top) (word j)).parent n)

  -- one digit more
  pub grown-next : (j top n : ℕ) → grown_from uses word j top (suc n)
      ≡ grown_from uses word j top n ++ chosen (uses (top_from top (grown_from uses word j top n))) (word (j + n)) ∷ []
  grown-next j top zero = ap (λ i. chosen (uses top) (word i) ∷ []) (sym (add-zero j))
  grown-next j top (suc n) =
      ap (λ ds. chosen (uses top) (word j) ∷ ds) (grown-next (j + 1) (chosen (uses top) (word j)).parent n
      ∙ ap (λ i. grown_from uses word (j + 1) (chosen (uses top) (word j)).parent n
      ++ chosen (uses (top_from (chosen (uses top) (word j)).parent
      (grown_from uses word (j + 1) (chosen (uses top) (word j)).parent n))) (word i) ∷ []) shift)
    where
      shift : (j + 1) + n ≡ j + suc n
      shift = omega arith

  -- the first digits are those of a shorter growth, and those behind them go on from there
  pub grown-split : (j top m n : ℕ) → grown_from uses word j top (m + n)
      ≡ grown_from uses word j top m ++ grown_from uses word (j + m) (top_from top (grown_from uses word j top m)) n
  grown-split j top zero n = ap₂ (λ i k. grown_from uses word i top k) (sym (add-zero j)) (zero-add n)
  grown-split j top (suc m) n =
      ap (grown_from uses word j top) one ∙ ap (λ ds. chosen (uses top) (word j) ∷ ds) (grown-split (j + 1) (chosen (uses top) (word j)).parent m n
      ∙ ap (λ i. grown_from uses word (j + 1) (chosen (uses top) (word j)).parent m
      ++ grown_from uses word i (top_from (chosen (uses top) (word j)).parent
      (grown_from uses word (j + 1) (chosen (uses top) (word j)).parent m)) n) shift)
    where
      one : suc m + n ≡ suc (m + n)
      one = omega arith

      shift : (j + 1) + m ≡ j + suc m
      shift = omega arith
