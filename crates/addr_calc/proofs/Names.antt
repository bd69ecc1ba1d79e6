-- Names bound to addresses of tiles of a tiling.
use Rattle.std.proofs.Common.{◌≡◌, ◌⊎◌, inl, inr, ℕ, zero, suc, List, [], ◌∷◌, get_or, set, Some, None, refl, sym, ◌∙◌, subst}
use Rattle.std.specs.declared.option.Option.{Option}
use Rattle.theory_addresses.specs.Address.{Address, Fits}
use Rattle.rule_model.specs.Tiling.{Tiling, children}
use Rattle.addr_calc.specs.Bindings.{Bindings, IsBound, none_bound, bind}
use Rattle.addr_calc.specs.Calculation.{AllFit}

some_is : {A : Type 0} (x y : A) → Some x ≡ Some y → x ≡ y
some_is x y e = cc

-- a name is bound to what it was just bound to, or to what it was bound to before
found : (names : Bindings) (name other : ℕ) (x : Option Address) → (get_or (set names name x) other None ≡ x)
    ⊎ (get_or (set names name x) other None ≡ get_or names other None)
found [] name other x = inr refl
found (y ∷ names) zero zero x = inl refl
found (y ∷ names) zero (suc other) x = inr refl
found (y ∷ names) (suc name) zero x = inr refl
found (y ∷ names) (suc name) (suc other) x = found names name other x

module _ (t : Tiling) where
  pub bind_fits : (names : Bindings) (name : ℕ) (a : Address) → Fits (children t) a → AllFit t names → AllFit t (bind names name a)
  bind_fits names name a h all other b bound =
      elim (found names name other (Some a)) [
        | inl e ↦ subst (Fits (children t)) (some_is a b (sym e ∙ bound)) h
        | inr e ↦ all other b (sym e ∙ bound)
      ]

  none_found : (names : Bindings) (n name : ℕ) (a : Address) → IsBound (Rattle.std.proofs.Common.replicate n None) name a → ⊥
  none_found names zero name a e = absurd (cc e)
  none_found names (suc n) zero a e = absurd (cc e)
  none_found names (suc n) (suc name) a e = none_found names n name a e

  pub none_fit : AllFit t none_bound
  none_fit name a e = absurd (none_found [] 26 name a e)
