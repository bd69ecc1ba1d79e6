-- The open edges of tiles, and what one more tile changes.
use Rattle.std.proofs.Common.{◌≡◌, ◌⊎◌, inl, inr, ℕ, suc, ◌+◌, List, [], ◌∷◌, ◌++◌, map, flat_map, length, refl, sym, ap, ap₂, ◌∙◌, subst, Bool, true, false, cond, not, ◌&&◌, ◌||◌, arith}
use Rattle.std.specs.List.{enumerate_from, filter, list_any}
use Rattle.std.proofs.lemmas.List.{append-nil, append_assoc}
use Rattle.std.proofs.lemmas.List.Elements.{filter-append}
use Rattle.std.proofs.lemmas.List.Folds.{list_any-append}
use Rattle.std.proofs.lemmas.Grind.{flat_map-append}
use Rattle.theory_ring.specs.Sign.{Signed}
use Rattle.theory_plane.specs.Box.{OpenBox}
use Rattle.theory_plane.specs.BoxTest.{box_test}
use Rattle.theory_addresses.specs.Search.{IsAmong}
use Rattle.theory_windows.specs.Outlines.{PlaneEdge, Polygon, edges, is_reverse}
use Rattle.theory_windows.specs.OpenEdges.{NumberedEdge, edges_of_tile, numbered_from}
use Rattle.theory_windows.specs.OpenTest.{is_met, is_open, open_edges_of}
use Rattle.theory_addresses.proofs.Ranges.{among-append}
use Rattle.theory_addresses.proofs.Lists.{IsAmong-append_left, IsAmong-append_right}
use Rattle.theory_addresses.proofs.Filters.{IsAmong-kept}

-- ---- filtered lists
-- in a list of which nothing passes, each fails
pub none-pass : {A : Type 0} (p : A → Bool) (x : A) (xs : List A) → filter p xs ≡ [] → IsAmong x xs → p x ≡ false
none-pass p x xs e i = at_test (p x) refl
  where
    at_test : (b : Bool) → p x ≡ b → p x ≡ false
    at_test true f = elim (subst (IsAmong x) e (IsAmong-kept p x xs i f)) [ ]
    at_test false f = f

filter-both : {A : Type 0} (p q : A → Bool) (xs : List A) → filter (λ x. p x && q x) xs ≡ filter q (filter p xs)
filter-both p q [] = refl
filter-both p q (x ∷ xs) = at_tests (p x) (q x) refl (filter-both p q xs)
  where
    at_tests : (b c : Bool) → q x ≡ c → filter (λ x. p x && q x) xs ≡ filter q (filter p xs)
        → cond (b && c) (x ∷ filter (λ x. p x && q x) xs) (filter (λ x. p x && q x) xs) ≡ filter q (cond b (x ∷ filter p xs) (filter p xs))
    at_tests true true e f = ap (λ ys. x ∷ ys) f ∙ ap (λ d. cond d (x ∷ filter q (filter p xs)) (filter q (filter p xs))) (sym e)
    at_tests true false e f = f ∙ ap (λ d. cond d (x ∷ filter q (filter p xs)) (filter q (filter p xs))) (sym e)
    at_tests false true e f = f
    at_tests false false e f = f

pub filter-same : {A : Type 0} (p q : A → Bool) (xs : List A) → ((x : A) → IsAmong x xs → p x ≡ q x) → filter p xs ≡ filter q xs
filter-same p q [] h = refl
filter-same p q (x ∷ xs) h =
    ap (λ b. cond b (x ∷ filter p xs) (filter p xs)) (h x (inl refl)) ∙ ap (λ ys. cond (q x) (x ∷ ys) ys) (filter-same p q xs (λ y i. h y (inr i)))

pub any-among : {A : Type 0} (p : A → Bool) (x : A) (xs : List A) → IsAmong x xs → p x ≡ true → list_any p xs ≡ true
any-among p x [] i e = elim i [ ]
any-among p x (y ∷ ys) (inl f) e = ap (λ b. b || list_any p ys) (ap p (sym f) ∙ e)
any-among p x (y ∷ ys) (inr i) e = ap (λ b. p y || b) (any-among p x ys i e) ∙ last (p y)
  where
    last : (b : Bool) → b || true ≡ true
    last true = refl
    last false = refl

pub any-none : {A : Type 0} (p : A → Bool) (xs : List A) → ((x : A) → IsAmong x xs → p x ≡ false) → list_any p xs ≡ false
any-none p [] h = refl
any-none p (x ∷ xs) h = ap₂ (λ b c. b || c) (h x (inl refl)) (any-none p xs (λ y i. h y (inr i)))

pub some-any : {A : Type 0} (p : A → Bool) (xs : List A) → list_any p xs ≡ true → (x : A) × IsAmong x xs × (p x ≡ true)
some-any p [] e = absurd (cc e)
some-any {A} p (x ∷ xs) e = at_test (p x) refl e (some-any p xs)
  where
    at_test : (b : Bool) → p x ≡ b → b || list_any p xs ≡ true
        → (list_any p xs ≡ true → (y : A) × IsAmong y xs × (p y ≡ true)) → (y : A) × IsAmong y (x ∷ xs)
        × (p y ≡ true)
    at_test true f g more = (x, inl refl, f)
    at_test false f g more = let m = more g in (m.0, inr m.1, m.2)

-- ---- numbered edges and their lines
module _ (S : Signed) where
  abbrev numbered : ℕ → ℕ × PlaneEdge S → NumberedEdge S
  numbered i e = record { tile = i; edge = e.0; line = e.1 }

  pub line-of : (i k : ℕ) (es : List (PlaneEdge S)) (n : NumberedEdge S) → IsAmong n (map (numbered i) (enumerate_from k es)) → IsAmong n.line es
  line-of i k [] n j = elim j [ ]
  line-of i k (e ∷ es) n (inl f) = inl (ap (λ (m : NumberedEdge S). m.line) f)
  line-of i k (e ∷ es) n (inr j) = inr (line-of i (k + 1) es n j)

  has-number : (i k : ℕ) (es : List (PlaneEdge S)) (e : PlaneEdge S) → IsAmong e es → (n : NumberedEdge S)
      × IsAmong n (map (numbered i) (enumerate_from k es)) × (n.line ≡ e)
  has-number i k [] e j = elim j [ ]
  has-number i k (f ∷ fs) e (inl g) = (numbered i (k, f), inl refl, sym g)
  has-number i k (f ∷ fs) e (inr j) = let m = has-number i (k + 1) fs e j in (m.0, inr m.1, m.2)

  -- the polygon of a numbered edge, and a number for each edge of a polygon
  pub of-polygon : (i : ℕ) (ps : List (Polygon S)) (n : NumberedEdge S) → IsAmong n (numbered_from S i ps)
      → (p : Polygon S) × IsAmong p ps × IsAmong n.line (edges p)
  of-polygon i [] n j = elim j [ ]
  of-polygon i (p ∷ ps) n j = at_case (among-append n (edges_of_tile S i p) (numbered_from S (suc i) ps) j) (of-polygon (suc i) ps n)
    where
      at_case : IsAmong n (edges_of_tile S i p) ⊎ IsAmong n (numbered_from S (suc i) ps)
          → (IsAmong n (numbered_from S (suc i) ps) → (q : Polygon S) × IsAmong q ps
          × IsAmong n.line (edges q))
          → (q : Polygon S) × IsAmong q (p ∷ ps) × IsAmong n.line (edges q)
      at_case (inl k) more = (p, inl refl, line-of i 0 (edges p) n k)
      at_case (inr k) more = let m = more k in (m.0, inr m.1, m.2)

  pub number-of-edge : (i : ℕ) (ps : List (Polygon S)) (p : Polygon S) (e : PlaneEdge S) → IsAmong p ps
      → IsAmong e (edges p) → (n : NumberedEdge S) × IsAmong n (numbered_from S i ps) × (n.line ≡ e)
  number-of-edge i [] p e j k = elim j [ ]
  number-of-edge i (q ∷ qs) p e (inl f) k =
      let m = has-number i 0 (edges q) e (subst (λ r. IsAmong e (edges r)) f k) in
      (m.0, IsAmong-append_left m.0 (edges_of_tile S i q) (numbered_from S (suc i) qs) m.1, m.2)
  number-of-edge i (q ∷ qs) p e (inr j) k =
      let m = number-of-edge (suc i) qs p e j k in
      (m.0, IsAmong-append_right m.0 (edges_of_tile S i q) (numbered_from S (suc i) qs) m.1, m.2)

  numbered-more : (i : ℕ) (ps : List (Polygon S)) (q : Polygon S)
      → numbered_from S i (ps ++ q ∷ []) ≡ numbered_from S i ps ++ edges_of_tile S (i + length ps) q
  numbered-more i [] q = append-nil _ ∙ ap (λ j. edges_of_tile S j q) (same i)
    where
      same : (i : ℕ) → i ≡ i + 0
      same i = omega arith
  numbered-more i (p ∷ ps) q =
      ap (λ l. edges_of_tile S i p ++ l) (numbered-more (suc i) ps q
      ∙ ap (λ j. numbered_from S (suc i) ps ++ edges_of_tile S j q) (shift i (length ps)))
      ∙ sym (append_assoc (edges_of_tile S i p) (numbered_from S (suc i) ps) (edges_of_tile S (i + suc (length ps)) q))
    where
      shift : (i n : ℕ) → suc i + n ≡ i + suc n
      shift i n = omega arith

  lines-more : (ps : List (Polygon S)) (q : Polygon S) → flat_map edges (ps ++ q ∷ []) ≡ flat_map edges ps ++ edges q
  lines-more ps q = flat_map-append edges ps (q ∷ []) ∙ ap (λ l. flat_map edges ps ++ l) (append-nil (edges q))

  module _ (box : OpenBox S.ops.carrier) where
    not_either : (b c d : Bool) → b && not (c || d) ≡ (b && not c) && not d
    not_either true true d = refl
    not_either true false d = refl
    not_either false c d = refl

    open-more : (lines own : List (PlaneEdge S)) (e : PlaneEdge S) → is_open S box (lines ++ own) e ≡ is_open S box lines e && not (is_met S own e)
    open-more lines own e =
        ap (λ b. box_test S e.from e.to box && not b) (list_any-append (is_reverse S e) lines own)
        ∙ not_either (box_test S e.from e.to box) (is_met S lines e) (is_met S own e)

    kept : (b c : Bool) → c ≡ false → b && not c ≡ b
    kept true true e = absurd (cc e)
    kept true false e = refl
    kept false c e = refl

    -- one polygon more, no edge of which runs back along another of its own
    pub open_edges-more : (ps : List (Polygon S)) (q : Polygon S)
        → ((e f : PlaneEdge S) → IsAmong e (edges q) → IsAmong f (edges q) → is_reverse S e f ≡ false)
        → open_edges_of S box (ps ++ q ∷ [])
        ≡ filter (λ n. not (is_met S (edges q) n.line)) (open_edges_of S box ps)
        ++ filter (λ n. is_open S box (flat_map edges ps) n.line) (edges_of_tile S (length ps) q)
    open_edges-more ps q no_return =
        ap₂ (λ lines ns. filter (λ (n : NumberedEdge S). is_open S box lines n.line) ns) (lines-more ps q)
        (numbered-more 0 ps q ∙ ap (λ j. numbered_from S 0 ps ++ edges_of_tile S j q)
        (from_zero (length ps)))
        ∙ filter-append (λ (n : NumberedEdge S). is_open S box (flat_map edges ps ++ edges q) n.line)
        (numbered_from S 0 ps) (edges_of_tile S (length ps) q)
        ∙ ap₂ (λ l m. l ++ m)
        (filter-same _ _ (numbered_from S 0 ps) (λ n i. open-more (flat_map edges ps) (edges q) n.line)
        ∙ filter-both (λ (n : NumberedEdge S). is_open S box (flat_map edges ps) n.line)
        (λ n. not (is_met S (edges q) n.line)) (numbered_from S 0 ps))
        (filter-same _ _ (edges_of_tile S (length ps) q) (λ n i. open-more (flat_map edges ps) (edges q) n.line
        ∙ kept (is_open S box (flat_map edges ps) n.line) (is_met S (edges q) n.line)
        (any-none (is_reverse S n.line) (edges q) (λ f j. no_return n.line f (line-of (length ps) 0 (edges q) n i) j))))
      where
        from_zero : (n : ℕ) → 0 + n ≡ n
        from_zero n = omega arith
