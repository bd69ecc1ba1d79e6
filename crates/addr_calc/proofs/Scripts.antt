-- What comes of the lines that are left of a script.
use Rattle.std.proofs.Common.{◌≡◌, inl, inr, ℕ, ◌+◌, ◌<◌, List, [], ◌∷◌, ◌++◌, length, Option, Some, None, Ok, Err, IfSome, option_map, Bor, refl, sym, ap, ◌∙◌, subst, append_assoc, append-nil, arith}
use Rattle.rule_model.specs.Tiling.{Tiling}
use Rattle.addr_calc.specs.Bindings.{none_bound}
use Rattle.addr_calc.specs.Calculation.{WasRun}
use Rattle.addr_calc.specs.declared.calculation.Calculation.{Calculation}
use Rattle.addr_calc.specs.declared.calc_fault.CalcFault.{CalcFault}
use Rattle.addr_calc.specs.declared.calc_fault.CalcFault.TheVariants.{NoMemory}
use Rattle.addr_calc.specs.Refuses.{HasFault}
use Rattle.addr_calc.specs.Script.{Outcome, put_before, ComesOf, LineOrNoMemory}

-- how many bytes and lines are left
abbrev pub size_left : Option (List ℕ) → ℕ
size_left None = 0
size_left (Some text) = length text + 1

-- less is left behind a line
pub less_left : (text : List ℕ) (rest : Option (Bor (List ℕ))) → IfSome rest (λ r. length r.now < length text)
    → size_left (option_map (λ r. r.now) rest) < length text + 1
less_left text None h = omega arith
less_left text (Some r) h = omega (arith, h)

before_nothing : (o : Outcome) → put_before [] o ≡ o
before_nothing (Ok rest) = refl
before_nothing (Err fault) = refl

before_twice : (front text : List ℕ) (o : Outcome) → put_before front (put_before text o) ≡ put_before (front ++ text) o
before_twice front text (Ok rest) = ap (λ bytes. Ok bytes) (sym (append_assoc front text rest))
before_twice front text (Err fault) = refl

-- what comes of the lines left, with the text printed so far before it, comes of all lines
abbrev pub Comes : Tiling → List (List ℕ) → Calculation → List (List ℕ) → Type 0
Comes t all state left = (o : Outcome) → ComesOf t state.names (state.number + 1) left o → ComesOf t none_bound 1 all (put_before state.text.items o)

module _ (t : Tiling) (all : List (List ℕ)) (before after : Calculation) (line : List ℕ) (rest : List (List ℕ)) where
  -- after a line was run it holds of those behind it
  pub comes_on : Comes t all before (line ∷ rest) → WasRun t line before after → Comes t all after rest
  comes_on comes ran o h =
      subst (λ x. ComesOf t none_bound 1 all x)
      (before_twice before.text.items ran.printed o ∙ ap (λ bytes. put_before bytes o) (sym ran.text))
      (comes (put_before ran.printed o) (inr (
        after.names,
        ran.printed,
        o,
        ran.runs,
        subst
            (λ n. ComesOf t after.names (n + 1) rest o) ran.number h,
        refl,
      )))

  -- and its fault is that of all lines
  pub comes_fault : Comes t all before (line ∷ rest) → (fault : CalcFault) → LineOrNoMemory (HasFault t before.names (before.number + 1) line) fault
      → LineOrNoMemory (λ f. ComesOf t none_bound 1 all (Err f)) fault
  comes_fault comes NoMemory h = tt
  comes_fault comes fault h = comes (Err fault) (inl (fault, h, refl))

-- at first all lines are left
pub comes_first : (t : Tiling) (all : List (List ℕ)) (state : Calculation) → state.names ≡ none_bound
    → state.text.items ≡ [] → state.number ≡ 0 → Comes t all state all
comes_first t all state names text number o h =
    subst (ComesOf t none_bound 1 all) (sym (ap (λ bytes. put_before bytes o) text ∙ before_nothing o))
    (subst (λ n. ComesOf t none_bound n all o) (ap (λ n. n + 1) number) (subst (λ b. ComesOf t b (state.number + 1) all o) names h))

-- where none are left, the text printed comes of them
pub comes_last : (t : Tiling) (all : List (List ℕ)) (state : Calculation) → Comes t all state [] → ComesOf t none_bound 1 all (Ok state.text.items)
comes_last t all state comes = subst (λ bytes. ComesOf t none_bound 1 all (Ok bytes)) (append-nil state.text.items) (comes (Ok []) refl)
