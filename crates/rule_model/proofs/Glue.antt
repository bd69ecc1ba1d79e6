-- A kind of a rule whose glue types each glue two halves has at most one edge along which it is glued.
use Rattle.std.proofs.Common.{◌≡◌, ◌⊎◌, inl, inr, ℕ, zero, suc, ◌<◌, ◌≤◌, Bool, true, false, not, ◌&&◌, ◌||◌, List, [], ◌∷◌, length, get_or, cond, Option, Some, None, IfSome, refl, sym, ap, ◌∙◌, subst, arith}
use Rattle.std.specs.Prelude.{nat_eq}
use Rattle.std.specs.List.{list_any, flat_map}
use Rattle.std.proofs.lemmas.Bool.{cases_lt, and_parts, eqb-true, not-true, false≢true}
use Rattle.std.proofs.lemmas.Bool.Decides.{Decides-eqb}
use Rattle.std.proofs.lemmas.List.{length-append}
use Rattle.theory_substitution.specs.Rule.{Rule}
use Rattle.theory_substitution.specs.RuleParts.{mate, edge_types, edge_count, edge_type}
use Rattle.theory_addresses.specs.Search.{below, IsAmong}
use Rattle.theory_edge_to_edge.specs.Glue.{glue_type, once_each, holders, is_glued_before, are_halves}
use Rattle.theory_edge_to_edge.specs.EdgeToEdge.{HasRightGlue}
use Rattle.theory_addresses.proofs.Lists.{IsAmong-flat_map}
use Rattle.rule_model.specs.Glue.{IsGlueEdge, IsOnlyGlueEdge}
use Rattle.theory_addresses.proofs.BoolLoops.{or_true, some_below-found}
use Rattle.theory_addresses.proofs.Ranges.{IsAmong-below}
use Rattle.rule_model.proofs.Searches.{found, list_any-found}

same_number : (a b : ℕ) → a ≡ b → nat_eq a b ≡ true
same_number a b h = (Decides-eqb a b).1 h

-- the test of either number passes at both
pub either : (a b ty : ℕ) → (ty ≡ a) ⊎ (ty ≡ b) → nat_eq ty a || nat_eq ty b ≡ true
either a b ty (inl e) = ap (λ c. c || nat_eq ty b) (same_number ty a e)
either a b ty (inr e) = ap (λ c. nat_eq ty a || c) (same_number ty b e) ∙ or_true (nat_eq ty a)

-- a kind stands once in the list for each of its edges of a type
once-longer : (k ty t : ℕ) (ts : List ℕ) → length (once_each k ty ts) ≤ length (once_each k ty (t ∷ ts))
once-longer k ty t ts = by_case (nat_eq t ty)
  where
    by_case : (b : Bool) → length (once_each k ty ts) ≤ length (cond b (k ∷ once_each k ty ts) (once_each k ty ts))
    by_case true = omega arith
    by_case false = omega arith

once-here : (k ty t : ℕ) (ts : List ℕ) → t ≡ ty → once_each k ty (t ∷ ts) ≡ k ∷ once_each k ty ts
once-here k ty t ts h = ap (λ b. cond b (k ∷ once_each k ty ts) (once_each k ty ts)) (same_number t ty h)

once-one : (k ty : ℕ) (ts : List ℕ) (e : ℕ) → e < length ts → get_or ts e 0 ≡ ty → 1 ≤ length (once_each k ty ts)
once-one k ty [] e l h = absurd (omega arith)
once-one k ty (t ∷ ts) zero l h = omega (arith, ap (λ (xs : List ℕ). length xs) (once-here k ty t ts h))
once-one k ty (t ∷ ts) (suc e) l h = omega (arith, once-longer k ty t ts, once-one k ty ts e (omega arith) h)

once-two : (k ty : ℕ) (ts : List ℕ) (e f : ℕ) → e < f → f < length ts → get_or ts e 0 ≡ ty → get_or ts f 0 ≡ ty → 2 ≤ length (once_each k ty ts)
once-two k ty [] e f m l h g = absurd (omega arith)
once-two k ty (t ∷ ts) e zero m l h g = absurd (omega arith)
once-two k ty (t ∷ ts) zero (suc f) m l h g = omega
    (arith, ap (λ (xs : List ℕ). length xs) (once-here k ty t ts h), once-one k ty ts f (omega arith) g)
once-two k ty (t ∷ ts) (suc e) (suc f) m l h g = omega (arith, once-longer k ty t ts, once-two k ty ts e f (omega arith) (omega arith) h g)

once-among : (k ty : ℕ) (ts : List ℕ) (e : ℕ) → e < length ts → get_or ts e 0 ≡ ty → IsAmong k (once_each k ty ts)
once-among k ty [] e l h = absurd (omega arith)
once-among k ty (t ∷ ts) zero l h = subst (IsAmong k) (sym (once-here k ty t ts h)) (inl refl)
once-among k ty (t ∷ ts) (suc e) l h = by_case (nat_eq t ty) (once-among k ty ts e (omega arith) h)
  where
    by_case : (b : Bool) → IsAmong k (once_each k ty ts) → IsAmong k (cond b (k ∷ once_each k ty ts) (once_each k ty ts))
    by_case true later = inr later
    by_case false later = later

flat_map-longer : (f : ℕ → List ℕ) (k : ℕ) (xs : List ℕ) → IsAmong k xs → length (f k) ≤ length (flat_map f xs)
flat_map-longer f k [] i = elim i [ ]
flat_map-longer f k (x ∷ xs) (inl e) = omega (arith, ap (λ (j : ℕ). length (f j)) e, length-append (f x) (flat_map f xs))
flat_map-longer f k (x ∷ xs) (inr i) = omega (arith, flat_map-longer f k xs i, length-append (f x) (flat_map f xs))

-- what two halves are: their kinds, and the lists of these kinds
record Halves {A : Type 0} (r : Rule A) (n : ℕ) (ks ls : List ℕ) : Type 0 where
  a : ℕ
  b : ℕ
  firsts : ks ≡ a ∷ []
  seconds : ls ≡ b ∷ []
  two : nat_eq a b ≡ false
  first_new : is_glued_before r n a ≡ false
  second_new : is_glued_before r n b ≡ false

halves : {A : Type 0} (r : Rule A) (n : ℕ) (ks ls : List ℕ) → are_halves r n ks ls ≡ true → Halves r n ks ls
halves r n [] ls h = absurd (cc)
halves r n (a ∷ []) [] h = absurd (cc)
halves r n (a ∷ []) (b ∷ []) h =
    let all = and_parts (not (nat_eq a b) && not (is_glued_before r n a)) (not (is_glued_before r n b)) h in
    let both = and_parts (not (nat_eq a b)) (not (is_glued_before r n a)) all.0 in
    record { a = a; b = b; firsts = refl; seconds = refl; two = not-true _ both.0; first_new = not-true _ both.1; second_new = not-true _ all.1 }
halves r n (a ∷ []) (b ∷ (c ∷ ls)) h = absurd (cc)
halves r n (a ∷ (c ∷ ks)) ls h = absurd (cc)

-- a number that passes one of two tests is one of the two numbers
pub one_of : (a b ty : ℕ) → nat_eq ty a || nat_eq ty b ≡ true → (ty ≡ a) ⊎ (ty ≡ b)
one_of a b ty h = by_case (nat_eq ty a) refl h
  where
    by_case : (c : Bool) → nat_eq ty a ≡ c → c || nat_eq ty b ≡ true → (ty ≡ a) ⊎ (ty ≡ b)
    by_case true e q = inl (eqb-true ty a e)
    by_case false e q = inr (eqb-true ty b q)

module _ {A : Type 0} (r : Rule A) (right : HasRightGlue r) (k : ℕ) (exists : k < length r.kinds) where
  -- edge e of kind k has glue type number i, or its mate
  record Has (e i : ℕ) : Type 0 where
    edge_in : e < edge_count r k
    glue_in : i < length r.glue
    type : (edge_type r k e ≡ glue_type r i) ⊎ (edge_type r k e ≡ mate r (glue_type r i))

  has : (e : ℕ) → IsGlueEdge r k e → (i : ℕ) × Has e i
  has e g =
      let f = found (λ i. nat_eq (edge_type r k e) (glue_type r i) || nat_eq (edge_type r k e) (mate r (glue_type r i))) (length r.glue) g.glued in (
        f.at,
        record {
          edge_in = g.exists;
          glue_in = f.below;
          type = one_of (glue_type r f.at) (mate r (glue_type r f.at)) (edge_type r k e) f.passes;
        },
      )

  halves_of : (i : ℕ) → i < length r.glue → Halves r i (holders r (glue_type r i)) (holders r (mate r (glue_type r i)))
  halves_of i l = halves r i (holders r (glue_type r i)) (holders r (mate r (glue_type r i))) (and_parts _ _ (right i l)).1

  -- kind k is among the holders of the types of its edges
  holds : (e ty : ℕ) → e < edge_count r k → edge_type r k e ≡ ty → IsAmong k (holders r ty)
  holds e ty l h = IsAmong-flat_map (λ j. once_each j ty (edge_types r j)) k k
      (below (λ i. i) (length r.kinds)) (IsAmong-below (λ i. i) (length r.kinds) k exists)
      (once-among k ty (edge_types r k) e l h)

  only : (a ty : ℕ) → holders r ty ≡ a ∷ [] → IsAmong k (holders r ty) → k ≡ a
  only a ty h i = one (subst (IsAmong k) h i)
    where
      one : IsAmong k (a ∷ []) → k ≡ a
      one (inl e) = e
      one (inr i) = elim i [ ]

  -- two edges of one type are one, where one edge of all kinds has the type
  same_edge : (a ty e f : ℕ) → holders r ty ≡ a ∷ [] → e < edge_count r k → f < edge_count r k → edge_type r k e ≡ ty → edge_type r k f ≡ ty → f ≡ e
  same_edge a ty e f h le lf te tf = elim (cases_lt e f) [
    | inl lt ↦ absurd (twice e f lt lf te tf)
    | inr ge ↦ elim (cases_lt f e) [ inl lt ↦ absurd (twice f e lt le tf te) | inr ge' ↦ omega arith ]
  ]
    where
      twice : (e f : ℕ) → e < f → f < edge_count r k → edge_type r k e ≡ ty → edge_type r k f ≡ ty → ⊥
      twice e f m l te tf =
          let two = once-two k ty (edge_types r k) e f m l te tf in
          let more = flat_map-longer (λ j. once_each j ty (edge_types r j)) k
          (below (λ i. i) (length r.kinds)) (IsAmong-below (λ i. i) (length r.kinds) k exists) in
          let one = ap (λ (xs : List ℕ). length xs) h in
          omega (arith, two, more, one)

  -- no edge has an earlier glue type
  none_before : (e f i j : ℕ) → i < j → Has e i → Has f j → ⊥
  none_before e f i j m p q =
      let glue_i : ℕ → Bool = λ ty. nat_eq ty (glue_type r i) || nat_eq ty (mate r (glue_type r i)) in
      let earlier : is_glued_before r j k ≡ true = some_below-found
      (λ i. list_any (λ ty. nat_eq ty (glue_type r i) || nat_eq ty (mate r (glue_type r i)))
      (edge_types r k)) i j
      (list_any-found glue_i (edge_types r k) e p.edge_in (either (glue_type r i) (mate r (glue_type r i)) (edge_type r k e) p.type)) m in
      let h = halves_of j q.glue_in in
      elim q.type [
        | inl t ↦ false≢true (sym h.first_new ∙ ap (is_glued_before r j)
            (sym (only h.a (glue_type r j) h.firsts (holds f (glue_type r j) q.edge_in t))) ∙ earlier)
        | inr t ↦ false≢true (sym h.second_new ∙ ap (is_glued_before r j)
            (sym (only h.b (mate r (glue_type r j)) h.seconds (holds f (mate r (glue_type r j)) q.edge_in t)))
            ∙ earlier)
      ]

  -- one edge has the glue type alone or its mate alone
  not_both : (e f i : ℕ) → i < length r.glue → e < edge_count r k → f < edge_count r k
      → edge_type r k e ≡ glue_type r i → edge_type r k f ≡ mate r (glue_type r i) → ⊥
  not_both e f i l le lf te tf =
      let h = halves_of i l in
      let first = only h.a (glue_type r i) h.firsts (holds e (glue_type r i) le te) in
      let second = only h.b (mate r (glue_type r i)) h.seconds (holds f (mate r (glue_type r i)) lf tf) in
      false≢true (sym h.two ∙ same_number h.a h.b (sym first ∙ second))

  glued_alike : (e f i : ℕ) → Has e i → Has f i → f ≡ e
  glued_alike e f i p q =
      let h = halves_of i p.glue_in in
      elim p.type [
        | inl t ↦ elim q.type [
          | inl u ↦ same_edge h.a (glue_type r i) e f h.firsts p.edge_in q.edge_in t u
          | inr u ↦ absurd (not_both e f i p.glue_in p.edge_in q.edge_in t u)
        ]
        | inr t ↦ elim q.type [
          | inl u ↦ absurd (not_both f e i p.glue_in q.edge_in p.edge_in u t)
          | inr u ↦ same_edge h.b (mate r (glue_type r i)) e f h.seconds p.edge_in q.edge_in t u
        ]
      ]

  -- two edges along which a kind is glued are one
  pub one_glue_edge : (e f : ℕ) → IsGlueEdge r k e → IsGlueEdge r k f → f ≡ e
  one_glue_edge e f p q =
      let a = has e p in
      let b = has f q in
      elim (cases_lt a.0 b.0) [
        | inl lt ↦ absurd (none_before e f a.0 b.0 lt a.1 b.1)
        | inr ge ↦ elim (cases_lt b.0 a.0) [
          | inl lt ↦ absurd (none_before f e b.0 a.0 lt b.1 a.1)
          | inr ge' ↦
              let same : b.0 ≡ a.0 = omega arith in glued_alike e f a.0 a.1 (subst (Has f) same b.1)
        ]
      ]

  -- an edge along which a kind is glued is the only one
  pub only_glue_edge : (o : Option ℕ) → IfSome o (λ e. IsGlueEdge r k e) → IfSome o (λ e. IsOnlyGlueEdge r k e)
  only_glue_edge None h = h
  only_glue_edge (Some e) h = record { glue_edge = h; only = λ f g. one_glue_edge e f h g }
