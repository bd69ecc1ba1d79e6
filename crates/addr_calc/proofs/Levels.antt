-- Levels from which on two addresses agree: with each also those above it.
use Rattle.std.proofs.Common.{◌≡◌, ℕ, zero, suc, ◌+◌, ◌-◌, ◌<◌, ◌≤◌, List, [], ◌∷◌, map, drop, get_or, slice_get, option_map, refl, sym, ap, ap₂, ◌∙◌, subst, arith}
use Rattle.std.proofs.lemmas.List.{drop_more}
use Rattle.theory_addresses.specs.Address.{Step, Address, depth, kind_at}
use Rattle.addr_calc.specs.Level.{AgreeFrom}

-- the first of what is left is what stood there
first_left : {A : Type 0} (xs : List A) (i : ℕ) → slice_get xs i ≡ slice_get (drop i xs) 0
first_left [] zero = refl
first_left [] (suc i) = refl
first_left (x ∷ xs) zero = refl
first_left (x ∷ xs) (suc i) = first_left xs i

map_get : {A B : Type 0} (f : A → B) (xs : List A) (i : ℕ) → slice_get (map f xs) i ≡ option_map f (slice_get xs i)
map_get f [] i = refl
map_get f (x ∷ xs) zero = refl
map_get f (x ∷ xs) (suc i) = map_get f xs i

-- the kind at a level above the tile's own is that of the parent of the digit below
parent_at : (a : Address) (i : ℕ) → kind_at a (suc i) ≡ option_map (λ (d : Step). d.parent) (slice_get (drop i a.digits) 0)
parent_at a i = map_get (λ d. d.parent) a.digits i ∙ ap (option_map (λ d. d.parent)) (first_left a.digits i)

drop_one : {A : Type 0} (xs : List A) (i : ℕ) → drop (suc i) xs ≡ drop 1 (drop i xs)
drop_one [] zero = refl
drop_one [] (suc i) = refl
drop_one (x ∷ xs) zero = refl
drop_one (x ∷ xs) (suc i) = drop_one xs i

module _ (a b : Address) where
  -- they agree from the level above, too
  agree_above : (i : ℕ) → AgreeFrom a b i → suc i ≤ depth a → AgreeFrom a b (suc i)
  agree_above i h l = record {
    exists = l;
    kinds = parent_at a i ∙ ap (λ (ds : List Step). option_map (λ d. d.parent) (slice_get ds 0)) h.digits ∙ sym (parent_at b i);
    digits = drop_one a.digits i ∙ ap (drop 1) h.digits ∙ sym (drop_one b.digits i);
  }

  agree_up : (more i : ℕ) → AgreeFrom a b i → i + more ≤ depth a → AgreeFrom a b (i + more)
  agree_up zero i h l = subst (AgreeFrom a b) (omega arith) h
  agree_up (suc more) i h l =
      subst (AgreeFrom a b) (omega arith) (agree_above (i + more) (agree_up more i h (omega (arith, l))) (omega (arith, l)))

  pub agree_from : (i j : ℕ) → AgreeFrom a b i → i ≤ j → j ≤ depth a → AgreeFrom a b j
  agree_from i j h l m = subst (AgreeFrom a b) (omega (arith, l)) (agree_up (j - i) i h (omega (arith, l, m)))

  -- from a level below they agree exactly where the digits and the kinds there are equal
  pub agree_also : (i : ℕ) (d : Step) → depth a ≡ depth b → i < depth a → AgreeFrom a b (i + 1)
      → get_or a.digits i d ≡ get_or b.digits i d → kind_at a i ≡ kind_at b i → AgreeFrom a b i
  agree_also i d same l h e k = record {
    exists = omega (arith, l);
    kinds = k;
    digits = drop_more a.digits i d l ∙ ap₂ (λ x xs. x ∷ xs) e h.digits ∙ sym (drop_more b.digits i d (omega (arith, same, l)));
  }

  pub digit_of_agreed : (i : ℕ) (d : Step) → depth a ≡ depth b → i < depth a → AgreeFrom a b i → get_or a.digits i d ≡ get_or b.digits i d
  digit_of_agreed i d same l h =
      let e = sym (drop_more a.digits i d l) ∙ h.digits ∙ drop_more b.digits i d (omega (arith, same, l)) in
      cc (e)
