-- Where a child edge lies, by how many edges run back along it and how many wholes it lies along.
use Rattle.std.specs.Prelude.{nat_eq}
use Rattle.std.proofs.Common.{◌≡◌, ℕ, suc, ◌+◌, ◌<◌, Bool, true, false, cond, List, [], ◌∷◌, ◌++◌, map, length, take, get_or, refl, sym, ap, ap₂, ◌∙◌, arith}
use Rattle.std.specs.List.{filter}
use Rattle.std.proofs.lemmas.List.{map_more, length-map, length-take, append_assoc}
use Rattle.theory_substitution.specs.Points.{Points}
use Rattle.theory_substitution.specs.Rule.{Rule}
use Rattle.theory_substitution.specs.RuleParts.{mate}
use Rattle.theory_edge_to_edge.specs.Edges.{Edge, PlacedEdge, lies_along}
use Rattle.theory_edge_to_edge.specs.Lying.{Lie, boundary, loose, numbers_along, met_by, lie_by}
use Rattle.dissect_check.specs.declared.few.Few.{Few}
use Rattle.dissect_check.specs.declared.few.Few.TheVariants.{None, One, Many}
use Rattle.dissect_check.specs.Few.{few_of, one_more}

pub few_of-push : {A : Type 0} (xs : List A) (y : A) → few_of (xs ++ y ∷ []) ≡ one_more (few_of xs) y
few_of-push [] y = refl
few_of-push (x ∷ []) y = refl
few_of-push (x ∷ (z ∷ zs)) y = refl

plus_zero : (n : ℕ) → n ≡ n + 0
plus_zero n = omega arith

plus_suc : (n k : ℕ) → suc n + k ≡ n + suc k
plus_suc n k = omega arith

-- ---- one whole more
module _ (P : Points) (e : Edge P.ring.carrier) where
  numbers_along-push : (n : ℕ) (ws : List (Edge P.ring.carrier)) (w : Edge P.ring.carrier) → lies_along P w e ≡ true
      → numbers_along P n (ws ++ w ∷ []) e ≡ numbers_along P n ws e ++ (n + length ws) ∷ []
  numbers_along-push n [] w h = ap (λ b. cond b (n ∷ []) [] ++ []) h ∙ ap (λ k. k ∷ []) (plus_zero n)
  numbers_along-push n (v ∷ ws) w h =
      let here : List ℕ = cond (lies_along P v e) (n ∷ []) [] in
      ap (λ ks. here ++ ks) (numbers_along-push (suc n) ws w h ∙ ap (λ k. numbers_along P (suc n) ws e ++ k ∷ []) (plus_suc n (length ws)))
      ∙ sym (append_assoc here (numbers_along P (suc n) ws e) ((n + suc (length ws)) ∷ []))

  numbers_along-same : (n : ℕ) (ws : List (Edge P.ring.carrier)) (w : Edge P.ring.carrier) → lies_along P w e ≡ false
      → numbers_along P n (ws ++ w ∷ []) e ≡ numbers_along P n ws e
  numbers_along-same n [] w h = ap (λ b. cond b (n ∷ []) [] ++ []) h
  numbers_along-same n (v ∷ ws) w h = ap (λ ks. cond (lies_along P v e) (n ∷ []) [] ++ ks) (numbers_along-same (suc n) ws w h)

  module _ {B : Type 0} (view : B → Edge P.ring.carrier) (ws : List B) (i : ℕ) (d : B) (l : i < length ws) where
    front_length : 0 + length (map view (take i ws)) ≡ i
    front_length = omega (arith, length-map (take i ws) view, length-take i ws)

    -- the whole of number i is one of those along which e lies, or isn't
    pub along_one_more : lies_along P (view (get_or ws i d)) e ≡ true
        → one_more (few_of (numbers_along P 0 (map view (take i ws)) e)) i ≡ few_of (numbers_along P 0 (map view (take (i + 1) ws)) e)
    along_one_more h =
        sym (few_of-push (numbers_along P 0 (map view (take i ws)) e) i)
        ∙ ap (λ k. few_of (numbers_along P 0 (map view (take i ws)) e ++ k ∷ [])) (sym front_length)
        ∙ ap few_of (sym (numbers_along-push 0 (map view (take i ws)) (view (get_or ws i d)) h))
        ∙ ap (λ vs. few_of (numbers_along P 0 vs e)) (sym (map_more view ws i d l))

    pub along_no_more : lies_along P (view (get_or ws i d)) e ≡ false
        → few_of (numbers_along P 0 (map view (take i ws)) e) ≡ few_of (numbers_along P 0 (map view (take (i + 1) ws)) e)
    along_no_more h =
        ap few_of (sym (numbers_along-same 0 (map view (take i ws)) (view (get_or ws i d)) h))
        ∙ ap (λ vs. few_of (numbers_along P 0 vs e)) (sym (map_more view ws i d l))

-- ---- by the edges that run back, and the wholes
pub filter_of_map : {A B : Type 0} (view : B → A) (test : A → Bool) (ts : List B)
    → filter test (map view ts) ≡ map view (filter (λ t. test (view t)) ts)
filter_of_map view test [] = refl
filter_of_map view test (t ∷ ts) = by_test (test (view t)) (filter_of_map view test ts)
  where
    by_test : (b : Bool) → filter test (map view ts) ≡ map view (filter (λ t. test (view t)) ts)
        → cond b (view t ∷ filter test (map view ts)) (filter test (map view ts)) ≡ map view
        (cond b (t ∷ filter (λ t. test (view t)) ts) (filter (λ t. test (view t)) ts))
    by_test true h = ap (λ xs. view t ∷ xs) h
    by_test false h = h

-- where a child edge lies when no edge runs back along it, by the wholes
abbrev pub lie_alone : Few ℕ → Lie
lie_alone (One e) = boundary e
lie_alone None = loose
lie_alone Many = loose

pub not_alone : (f : Few ℕ) → ((e : ℕ) → f ≡ One e → ⊥) → loose ≡ lie_alone f
not_alone (One e) h = absurd (h e refl)
not_alone None h = refl
not_alone Many h = refl

module _ {A B : Type 0} (r : Rule A) (s : PlacedEdge A) (view : B → PlacedEdge A) where
  -- by the edges that run back and the wholes
  abbrev pub lie_few : Few B → Few ℕ → Lie
  lie_few (One t) numbers = met_by (nat_eq (mate r s.type) (view t).type) (view t)
  lie_few None numbers = lie_alone numbers
  lie_few Many numbers = loose

  lie_by-few : (ts : List B) (numbers : List ℕ) → lie_by r s (map view ts) numbers ≡ lie_few (few_of ts) (few_of numbers)
  lie_by-few [] [] = refl
  lie_by-few [] (e ∷ []) = refl
  lie_by-few [] (e ∷ (f ∷ es)) = refl
  lie_by-few (t ∷ []) numbers = refl
  lie_by-few (t ∷ (u ∷ ts)) numbers = refl

  lie_by-filter : (test : PlacedEdge A → Bool) (ts : List B) (numbers : List ℕ)
      → lie_few (few_of (filter (λ t. test (view t)) ts)) (few_of numbers) ≡ lie_by r s (filter test (map view ts)) numbers
  lie_by-filter test ts numbers =
      sym (lie_by-few (filter (λ t. test (view t)) ts) numbers) ∙ ap (λ us. lie_by r s us numbers) (sym (filter_of_map view test ts))

  pub lies_by : (test : PlacedEdge A → Bool) (ts : List B) (numbers : List ℕ) (f : Few B) (g : Few ℕ)
      → f ≡ few_of (filter (λ t. test (view t)) ts) → g ≡ few_of numbers
      → lie_few f g ≡ lie_by r s (filter test (map view ts)) numbers
  lies_by test ts numbers f g h k = ap₂ lie_few h k ∙ lie_by-filter test ts numbers
