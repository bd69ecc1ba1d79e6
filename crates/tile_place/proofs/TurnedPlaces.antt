-- Where a turned vertex, and the turn of an edge, stand in their lists.
use Rattle.std.proofs.Common.{◌≡◌, inl, inr, ℕ, zero, suc, ◌+◌, ◌*◌, ◌/◌, ◌%◌, ◌<◌, ◌≤◌, ◌^◌, List, [], ◌∷◌, ◌++◌, length, get_or, map, pos, IsSome, cond, nat_lt, refl, sym, ap, ap₂, ◌∙◌, subst, arith}
use Rattle.std.proofs.lemmas.Bool.{cases_lt, le-ltb, lt-ltb}
use Rattle.std.proofs.lemmas.Nat.{div-mul-add, mod-mul-add}
use Rattle.std.proofs.Math.ListN.{get_or-append}
use Rattle.std.proofs.Math.Seq.{get_or-append_seam}
use Rattle.theory_ring.specs.Ring.{difference, power}
use Rattle.theory_ring.proofs.Normaliser.{var, ring, ◌⊖◌, ◌⊗◌}
use Rattle.theory_addresses.specs.Tables.{type_of}
use Rattle.theory_substitution.specs.RuleParts.{edge_count, next, vertices_of, vertex}
use Rattle.theory_edge_to_edge.specs.EdgeTypes.{edge_vector}
use Rattle.theory_edge_to_edge.proofs.TablesOf.{type_of-at}
use Rattle.cyclo_points.specs.declared.order.Order.{Order}
use Rattle.cyclo_points.specs.declared.motion.Motion.{Motion}
use Rattle.cyclo_points.specs.declared.point.Point.{Point}
use Rattle.cyclo_points.specs.Order.{PointsLaw, points_of}
use Rattle.cyclo_points.specs.Point.{point_in, IsOf, IsWithin}
use Rattle.rule_model.specs.declared.rule.Rule.{Rule}
use Rattle.rule_model.specs.Tiling.{Tiling, tiling_of, contacts}
use Rattle.rule_model.specs.Usable.{origin}
use Rattle.rule_model.specs.Views.{rule_of}
use Rattle.tile_place.specs.Corners.{IsCorner}
use Rattle.tile_place.specs.EdgeTurns.{EdgeTable, IsGreatest, AreGreatest}
use Rattle.tile_place.specs.TurnedVertices.{TurnedTable, turned_by, place_of, IsTurned, AreTurned}
use Rattle.tile_place.proofs.Rows.{in-row, same-row, same-column, get_or-map}

-- a vertex of a kind, turned
pub turned-is : (m : Rule) (vs : List Point) (kind steps i : ℕ) (p : Point) → map (point_in m.order) vs ≡ vertices_of (rule_of m) kind → i < length vs
    → point_in m.order p ≡ turned_by m.order steps (point_in m.order (get_or vs i origin))
    → point_in m.order p ≡ turned_by m.order steps (vertex (points_of m.order) (rule_of m) kind i)
turned-is m vs kind steps i p numbers h place =
    place ∙ ap (turned_by m.order steps)
    (sym (get_or-map (point_in m.order) vs i origin ((points_of m.order).ring.int (pos 0)) h)
    ∙ ap (λ zs. get_or zs i ((points_of m.order).ring.int (pos 0))) numbers)

pub row-vertex : (m : Rule) (o : Order) (vs : List Point) (row turns a b number : ℕ) (p : Point) → o ≡ m.order → a ≡ turns → b ≡ turns
    → map (point_in m.order) vs ≡ vertices_of (rule_of m) (row / a) → length vs ≡ edge_count (rule_of m) (row / a)
    → (number < length vs → point_in o p ≡ turned_by o (row % b) (point_in o (get_or vs number origin)))
    → (number < length vs → IsWithin (2 ^ 7) p) → (number < length vs → IsOf o p)
    → number < edge_count (rule_of m) (row / turns) → IsTurned (tiling_of m) (row / turns) (row % turns) number p
row-vertex m o vs row turns a b number p eo ea eb numbers count turned within of h =
    let there : number < length vs = subst (λ i. number < i) (sym (count ∙ ap (λ i. edge_count (rule_of m) (row / i)) ea)) h in
    record {
      place = turned-is m vs (row / turns) (row % turns) number p (numbers ∙ ap (λ i. vertices_of (rule_of m) (row / i)) ea) there
          (subst (λ q. point_in q p ≡ turned_by q (row % turns) (point_in q (get_or vs number origin))) eo
          (turned there ∙ ap (λ i. turned_by o (row % i) (point_in o (get_or vs number origin))) eb));
      within = within there;
      in_order = subst (λ q. IsOf q p) eo (of there);
    }

-- a number of places that is enough for the edges of the tables is enough for those of the kinds
pub enough : (t : Tiling) (sides : ℕ) → ((k e : ℕ) → IsSome (type_of (contacts t) k e) → e < sides) → (k : ℕ) → edge_count t.rule k ≤ sides
enough t sides each k = by (edge_count t.rule k) refl
  where
    by : (n : ℕ) → edge_count t.rule k ≡ n → edge_count t.rule k ≤ sides
    by zero is = omega (arith, is)
    by (suc e) is =
        let below : e < edge_count t.rule k = omega (arith, is) in
        let last = each k e (subst IsSome (sym (type_of-at (points_of t.order) t.rule k e below)) refl) in
        omega (arith, is, last)

-- ---- the vertices
-- those whose places are below m stand there
abbrev pub AreTurnedBelow : Tiling → TurnedTable → ℕ → Type 0
AreTurnedBelow t x m =
    (k s e : ℕ) → k < length t.rule.kinds → s < x.turns → e < edge_count t.rule k → place_of x k s e < m
    → IsTurned t k s e (get_or x.points (place_of x k s e) origin)

abbrev with_points : TurnedTable → List Point → TurnedTable
with_points x ps = record { sides = x.sides; turns = x.turns; points = ps }

pub one_more-vertex : (t : Tiling) (x : TurnedTable) (hold : (k : ℕ) → edge_count t.rule k ≤ x.sides)
    (ps : List Point) (p : Point) (row number : ℕ) → number < x.sides
    → length x.points ≡ row * x.sides + number → ps ≡ x.points ++ p ∷ []
    → (number < edge_count t.rule (row / x.turns) → IsTurned t (row / x.turns) (row % x.turns) number p)
    → AreTurnedBelow t x (row * x.sides + number) → AreTurnedBelow t (with_points x ps) (row * x.sides + number + 1)
one_more-vertex t x hold ps p row number column count is last before k s e hk hs he below = elim
    (cases_lt (place_of x k s e) (row * x.sides + number)) [
      | inl h ↦ subst (IsTurned t k s e) (sym (ap (λ (qs : List Point). get_or qs (place_of x k s e) origin) is
          ∙ get_or-append x.points (p ∷ []) origin (place_of x k s e) (omega (arith, h, count))))
          (before k s e hk hs he h)
      | inr h ↦
          let some = hold k in
          let small : e < x.sides = omega (arith, he, some) in
          let here : place_of x k s e ≡ row * x.sides + number = omega (arith, h, below) in
          let its_row = same-row x.sides (k * x.turns + s) e row number small column here in
          let its_number = same-column x.sides (k * x.turns + s) e row number small column here in
          let its_kind : row / x.turns ≡ k = ap (λ i. i / x.turns) (sym its_row) ∙ div-mul-add k x.turns s hs in
          let its_steps : row % x.turns ≡ s = ap (λ i. i % x.turns) (sym its_row) ∙ mod-mul-add k x.turns s hs in
          let turned = last (subst (λ i. i < edge_count t.rule (row / x.turns)) its_number
          (subst (λ i. e < edge_count t.rule i) (sym its_kind) he)) in
          subst (IsTurned t k s e)
          (sym (ap (λ (qs : List Point). get_or qs (place_of x k s e) origin) is
          ∙ ap (λ i. get_or (x.points ++ p ∷ []) i origin) (here ∙ sym count)
          ∙ get_or-append_seam x.points p [] origin))
          (subst (λ i. IsTurned t i s e p) its_kind
          (subst (λ i. IsTurned t (row / x.turns) i e p) its_steps
          (subst (λ i. IsTurned t (row / x.turns) (row % x.turns) i p) (sym its_number) turned)))
    ]

pub vertex-below : (t : Tiling) (x : TurnedTable) (k s e : ℕ) → k < length t.rule.kinds → s < x.turns
    → e < x.sides → place_of x k s e < length t.rule.kinds * x.turns * x.sides
vertex-below t x k s e hk hs he = in-row x.sides (k * x.turns + s) e (length t.rule.kinds * x.turns)
    (in-row x.turns k s (length t.rule.kinds) hk hs) he

pub vertex-there : (t : Tiling) (x : TurnedTable) → AreTurned t x → (k s e : ℕ) → k < length t.rule.kinds
    → s < (points_of t.order).order → e < edge_count t.rule k
    → (place_of x k s e < length x.points) × IsTurned t k s e (get_or x.points (place_of x k s e) origin)
vertex-there t x are k s e hk hs he =
    let some = are.hold k hk in
    let turns : s < x.turns = subst (λ n. s < n) (sym are.turns) hs in
    (subst (λ n. place_of x k s e < n) (sym are.count) (vertex-below t x k s e hk turns (omega (arith, he, some))), are.each k s e hk turns he)

-- ---- the turns of edges
abbrev pub IsEdgeTurn : Tiling → ℕ → ℕ → ℕ → Type 0
IsEdgeTurn t k e turn = IsGreatest t.order (edge_vector (points_of t.order) t.rule k e) turn

abbrev pub AreGreatestBelow : Tiling → EdgeTable → ℕ → Type 0
AreGreatestBelow t x m = (k e : ℕ) → k < length t.rule.kinds → e < edge_count t.rule k → k * x.sides + e < m
    → IsEdgeTurn t k e (get_or x.turns (k * x.sides + e) 0)

abbrev with_turns : EdgeTable → List ℕ → EdgeTable
with_turns x ts = record { sides = x.sides; turns = ts }

pub one_more-edge : (t : Tiling) (x : EdgeTable)
    (hold : (k : ℕ) → k < length t.rule.kinds → edge_count t.rule k ≤ x.sides) (ts : List ℕ) (turn place : ℕ)
    → length x.turns ≡ place → ts ≡ x.turns ++ turn ∷ []
    → (place % x.sides < edge_count t.rule (place / x.sides) → IsEdgeTurn t (place / x.sides) (place % x.sides) turn)
    → AreGreatestBelow t x place → AreGreatestBelow t (with_turns x ts) (place + 1)
one_more-edge t x hold ts turn place count is last before k e hk he below = elim (cases_lt (k * x.sides + e) place) [
  | inl h ↦ subst (IsEdgeTurn t k e) (sym (ap (λ (us : List ℕ). get_or us (k * x.sides + e) 0) is
      ∙ get_or-append x.turns (turn ∷ []) 0 (k * x.sides + e) (omega (arith, h, count))))
      (before k e hk he h)
  | inr h ↦
      let some = hold k hk in
      let small : e < x.sides = omega (arith, he, some) in
      let here : k * x.sides + e ≡ place = omega (arith, h, below) in
      let its_kind : place / x.sides ≡ k = ap (λ i. i / x.sides) (sym here) ∙ div-mul-add k x.sides e small in
      let its_edge : place % x.sides ≡ e = ap (λ i. i % x.sides) (sym here) ∙ mod-mul-add k x.sides e small in
      let greatest = last (subst (λ i. i < edge_count t.rule (place / x.sides)) (sym its_edge)
      (subst (λ i. e < edge_count t.rule i) (sym its_kind) he)) in
      subst (IsEdgeTurn t k e)
      (sym (ap (λ (us : List ℕ). get_or us (k * x.sides + e) 0) is
      ∙ ap (λ i. get_or (x.turns ++ turn ∷ []) i 0) (here ∙ sym count)
      ∙ get_or-append_seam x.turns turn [] 0))
      (subst (λ i. IsEdgeTurn t i e turn) its_kind (subst (λ i. IsEdgeTurn t (place / x.sides) i turn) its_edge greatest))
]

pub edge-there : (t : Tiling) (x : EdgeTable) → AreGreatest t x → (k e : ℕ) → k < length t.rule.kinds → e < edge_count t.rule k
    → (k * x.sides + e < length x.turns) × IsEdgeTurn t k e (get_or x.turns (k * x.sides + e) 0)
edge-there t x are k e hk he =
    let some = are.hold k hk in
    (subst (λ n. k * x.sides + e < n) (sym are.count) (in-row x.sides k e (length t.rule.kinds) hk (omega (arith, he, some))), are.each k e hk he)

-- the vertex at which an edge ends is one of the kind
pub end-below : (n e : ℕ) → e < n → cond (nat_lt (suc e) n) (suc e) 0 < n
end-below n e h = elim (cases_lt (suc e) n) [
  | inl lt ↦ subst (λ b. cond b (suc e) 0 < n) (sym (lt-ltb (suc e) n lt)) lt
  | inr ge ↦ subst (λ b. cond b (suc e) 0 < n) (sym (le-ltb (suc e) n ge)) (omega (arith, h))
]

-- the vector of an edge, turned, by the vertices at its ends
pub vector-turned : (m : Rule) → PointsLaw m.order → (k s e : ℕ) (p q d : Point)
    → IsTurned (tiling_of m) k s (next (rule_of m) k e) p → IsTurned (tiling_of m) k s e q
    → point_in m.order d ≡ difference (points_of m.order).ring (point_in m.order p) (point_in m.order q)
    → point_in m.order d ≡ turned_by m.order s (edge_vector (points_of m.order) (rule_of m) k e)
vector-turned m W k s e p q d end start is =
    is ∙ ap₂ (difference (points_of m.order).ring) end.place start.place
    ∙ ring (points_of m.order).ring W.of_ring
    (power (points_of m.order).ring (points_of m.order).zeta s
    ∷ (vertex (points_of m.order) (rule_of m) k (next (rule_of m) k e)
    ∷ (vertex (points_of m.order) (rule_of m) k e ∷ [])))
    (var 0 ⊗ var 1 ⊖ var 0 ⊗ var 2) (var 0 ⊗ (var 1 ⊖ var 2)) refl

-- a corner of a tile is a turned vertex, shifted
pub corner-of : (t : Tiling) (kind : ℕ) (motion : Motion) (e : ℕ) (v p : Point) → IsTurned t kind motion.turn e v
    → point_in t.order p ≡ (points_of t.order).ring.add (point_in t.order v) (point_in t.order motion.shift)
    → IsWithin (2 ^ 25) p → IsOf t.order p → IsCorner t kind motion e p
corner-of t kind motion e v p turned sum within in_order =
    record {
      place = sum ∙ ap (λ z. (points_of t.order).ring.add z (point_in t.order motion.shift))
          turned.place;
      within = within;
      in_order = in_order;
    }

-- one more
pub one-more : {A : Type 0} (d : A) (Q : ℕ → A → Type 0) (ps qs : List A) (p : A) (i : ℕ) → length ps ≡ i → qs ≡ ps ++ p ∷ []
    → ((e : ℕ) → e < i → Q e (get_or ps e d)) → Q i p → (e : ℕ) → e < i + 1 → Q e (get_or qs e d)
one-more {A} d Q ps qs p i count is before last e below = elim (cases_lt e i) [
  | inl h ↦ subst (Q e) (sym (ap (λ (xs : List A). get_or xs e d) is ∙ get_or-append ps (p ∷ []) d e (omega (arith, h, count)))) (before e h)
  | inr h ↦ let same : e ≡ i = omega (arith, h, below) in
      subst (λ n. Q n (get_or qs n d)) (sym same)
      (subst (Q i) (sym (ap (λ (xs : List A). get_or xs i d) is
      ∙ ap (λ n. get_or (ps ++ p ∷ []) n d) (sym count) ∙ get_or-append_seam ps p [] d)) last)
]
