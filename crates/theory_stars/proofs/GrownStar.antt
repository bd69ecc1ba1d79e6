-- The turn in a frame that grows: never beyond an enough depth, and the least one where it comes back.
use Rattle.std.specs.List.{AllByRecursion}
use Rattle.std.proofs.Common.{◌≡◌, ◌⊎◌, inl, inr, ℕ, zero, suc, ◌+◌, ◌≤◌, max, List, [], ◌∷◌, ◌++◌, length, slice_get, Some, refl, sym, ap, ap₂, ◌∙◌, subst, Bool, true, false, ◌&&◌, is_eq, arith}
use Rattle.std.proofs.lemmas.Bool.{and_from}
use Rattle.std.proofs.lemmas.List.{length-map}
use Rattle.theory_ring.specs.Ring.{Laws}
use Rattle.theory_ring.specs.Sign.{Signed, OrderLaws}
use Rattle.theory_ring.specs.Divisor.{DividesWhole}
use Rattle.theory_plane.specs.Plane.{PlanePoint}
use Rattle.theory_plane.specs.Segment.{on_segment, same_place}
use Rattle.theory_addresses.specs.Search.{IsAmong}
use Rattle.theory_addresses.proofs.Lists.{AllByRecursion-from, AllByRecursion-among, IsAmong-map}
use Rattle.theory_addresses.proofs.Ranges.{among-append, place-among, among-place}
use Rattle.theory_windows.specs.Distinct.{AreDistinct}
use Rattle.theory_windows.specs.Outlines.{PlaneEdge, edges}
use Rattle.theory_windows.specs.GrowingPatch.{GrowingPatch, IsInner}
use Rattle.theory_windows.specs.Patch.{HasAcross}
use Rattle.theory_windows.proofs.Members.{among-map, no-more}
use Rattle.theory_windows.proofs.Reverses.{reverse-is}
use Rattle.theory_stars.specs.Corners.{Corner, IsCornerAt, edge_into, IsNext, Turns, last_corner, IsTurn, corner_tiles}
use Rattle.theory_stars.specs.Round.{IsRound, IsSimplyDissected}
use Rattle.theory_stars.specs.EnoughAt.{IsEnoughAt}
use Rattle.theory_stars.specs.GrownStar.{IsCornerOfDepth, deepest, IsStar, StarAnswers, StarGoesOn, DepthCause, CountCause, HasAtMost, StarEnds, StarIsWhole}
use Rattle.theory_stars.proofs.CornerNumbers.{some-same, out-edge, out-start, into-edge}
use Rattle.theory_stars.proofs.Turning.{out-is, next-at, one-corner, turn-at, distinct-turn, distinct-tiles}
use Rattle.theory_stars.proofs.SmallBox.{end-on}
use Rattle.theory_stars.proofs.WholeTurn.{across-of-edge, round}

at_least_left : (m n k : ℕ) → m ≤ k → n ≤ k → max m n ≤ k
at_least_left m n k h l = omega arith

module _ (S : Signed) (L : Laws S.ops) (O : OrderLaws S) {T : Type 0} (F : GrowingPatch S T) where
  -- ---- the deepest level
  pub not-below : (m : ℕ) (cs : List (Corner T)) → m ≤ deepest S T F m cs
  not-below m [] = omega arith
  not-below m (c ∷ cs) = let h = not-below (max m (F.level c.tile)) cs in omega arith

  pub each-level : (m : ℕ) (cs : List (Corner T)) (c : Corner T) → IsAmong c cs → F.level c.tile ≤ deepest S T F m cs
  each-level m [] c i = elim i [ ]
  each-level m (d ∷ ds) c (inl e) =
      let h = not-below (max m (F.level d.tile)) ds in
      subst (λ (b : Corner T). F.level b.tile ≤ deepest S T F (max m (F.level d.tile)) ds) (sym e) (omega arith)
  each-level m (d ∷ ds) c (inr i) = each-level (max m (F.level d.tile)) ds c i

  into-on : (v : PlanePoint S.ops.carrier) (c : Corner T) → IsCornerAt S T F.patch v c → (e : PlaneEdge S)
      → slice_get (edges (F.patch.outline c.tile)) (edge_into (length (F.patch.outline c.tile)) c.vertex) ≡ Some e → on_segment S e.from e.to v ≡ true
  into-on v c h e k =
      let m = into-edge (F.patch.outline c.tile) c.vertex v h.1 in
      ap (on_segment S e.from e.to) (sym (ap (λ (d : PlaneEdge S). d.to) (some-same e m.0 (sym k ∙ m.1)) ∙ m.2)) ∙ end-on S L O e.from e.to

  depth-cause : (v : PlanePoint S.ops.carrier) (n : ℕ) (c : Corner T) → IsCornerOfDepth S T F v n c → (e : PlaneEdge S)
      → slice_get (edges (F.patch.outline c.tile))
      (edge_into (length (F.patch.outline c.tile)) c.vertex) ≡ Some e → (IsInner S T F n e → ⊥)
      → IsEnoughAt S T F v n → ⊥
  depth-cause v n c h e k not_inner enough = not_inner
      (enough c.tile (h.0.0, h.1) e (place-among e (edges (F.patch.outline c.tile)) _ k)
      (into-on v c h.0 e k))

  module _ (D : IsSimplyDissected S T F.patch) (v : PlanePoint S.ops.carrier) where
    -- ---- at an enough depth
    module _ (k : ℕ) (enough : IsEnoughAt S T F v k) where
      next-level : (c d : Corner T) → IsCornerOfDepth S T F v k c → IsNext S T F.patch c d → F.level d.tile ≤ k
      next-level c d h n = at_inner (enough c.tile (h.0.0, h.1) n.into
          (place-among n.into (edges (F.patch.outline c.tile)) _ n.ends) (into-on v c h.0 n.into n.ends))
        where
          at_inner : IsInner S T F k n.into → F.level d.tile ≤ k
          at_inner m =
              let same : m.1 ≡ n.out = reverse-is S L O n.into m.1 m.4 ∙ sym (out-is S L O F.patch D v c d n) in
              subst (λ t. F.level t ≤ k)
              (D.dissected.one_owner m.0 d.tile m.2.0 n.of_patch n.out
              (subst (λ f. IsAmong f (edges (F.patch.outline m.0))) same m.3)
              (place-among n.out (edges (F.patch.outline d.tile)) d.vertex n.starts)) m.2.1

      levels : (m : ℕ) (c : Corner T) (ds : List (Corner T)) → m ≤ k → IsCornerOfDepth S T F v k c → Turns S T F.patch c ds → deepest S T F m ds ≤ k
      levels m c [] l h t = l
      levels m c (d ∷ ds) l h t =
          let g : F.level d.tile ≤ k = next-level c d h t.0 in
          levels (max m (F.level d.tile)) d ds (at_least_left m (F.level d.tile) k l g) (next-at S L O F.patch D v c d h.0 t.0, g) t.1

      last-of : (c : Corner T) (ds : List (Corner T)) → IsCornerOfDepth S T F v k c → Turns S T F.patch c ds
          → IsCornerOfDepth S T F v k (last_corner c ds)
      last-of c [] h t = h
      last-of c (d ∷ ds) h t = last-of d ds (next-at S L O F.patch D v c d h.0 t.0, next-level c d h t.0) t.1

      next-exists : (c : Corner T) → IsCornerOfDepth S T F v k c → (d : Corner T) × IsNext S T F.patch c d × (F.level d.tile ≤ k)
      next-exists c h = at_edge (into-edge (F.patch.outline c.tile) c.vertex v h.0.1)
        where
          at_edge : (e : PlaneEdge S) × (slice_get (edges (F.patch.outline c.tile))
              (edge_into (length (F.patch.outline c.tile)) c.vertex) ≡ Some e) × (e.to ≡ v)
              → (d : Corner T) × IsNext S T F.patch c d × (F.level d.tile ≤ k)
          at_edge e =
              let m : IsInner S T F k e.0 = enough c.tile (h.0.0, h.1) e.0
              (place-among e.0 (edges (F.patch.outline c.tile)) _ e.1) (into-on v c h.0 e.0 e.1) in
              let i = among-place m.1 (edges (F.patch.outline m.0)) m.3 in (
                record { tile = m.0; vertex = i.0 },
                record { into = e.0; out = m.1; of_patch = m.2.0; ends = e.1; starts = i.1; back = m.4 },
                m.2.1,
              )

    -- ---- a turn that comes back
    module _ (whole : DividesWhole S) (m : ℕ) (base : Corner T) (at_base : IsCornerOfDepth S T F v m base)
        (others : List (Corner T)) (turn : IsTurn S T F.patch base others) where
      n : ℕ
      n = deepest S T F m others

      corner-level : (c : Corner T) → IsAmong c (base ∷ others) → F.level c.tile ≤ deepest S T F m others
      corner-level c (inl e) = subst (λ (b : Corner T). F.level b.tile ≤ deepest S T F m others) (sym e)
          (let h = not-below m others in let l = at_base.1 in omega arith)
      corner-level c (inr i) = each-level m others c i

      the_round : IsRound S T F.patch v (base ∷ others)
      the_round = round S L O whole F.patch D v base at_base.0 others turn

      -- no depth from there on has an edge with v on its boundary
      stays : (k : ℕ) → deepest S T F m others ≤ k → IsEnoughAt S T F v k
      stays k deep t h e i on =
          let a : HasAcross S T F.patch (corner_tiles (base ∷ others)) e = across-of-edge S L O whole F.patch D v
          base at_base.0 others turn t h.0 e i on in
          let c = among-map (λ (c : Corner T). c.tile) a.0 (base ∷ others) a.2 in (
            a.0,
            a.1,
            (
              subst (λ t. IsAmong t F.patch.tiles) (sym c.2) (the_round.at_vertex c.0 c.1).0,
              subst
                  (λ t. F.level t ≤ k) (sym c.2) (let l = corner-level c.0 c.1 in omega (arith, l)),
            ),
            a.3,
            a.4,
          )

      all-inner : IsEnoughAt S T F v (deepest S T F m others)
      all-inner = stays (deepest S T F m others) (omega arith)

      at_most : HasAtMost S T F v (length (base ∷ others))
      at_most cs distinct at =
          let h = no-more (corner_tiles cs) (corner_tiles (base ∷ others)) distinct found in
          omega (arith, h, length-map cs (λ (c : Corner T). c.tile), length-map (base ∷ others) (λ (c : Corner T). c.tile))
        where
          found : (t : T) → IsAmong t (corner_tiles cs) → IsAmong t (corner_tiles (base ∷ others))
          found t i =
              let c = among-map (λ (c : Corner T). c.tile) t cs i in
              subst (λ u. IsAmong u (corner_tiles (base ∷ others))) (sym c.2)
              (IsAmong-map (λ (c : Corner T). c.tile) c.0 (base ∷ others)
              (the_round.all c.0 (AllByRecursion-among (IsCornerAt S T F.patch v) c.0 cs c.1 at)))

      pub star : IsStar S T F v m (deepest S T F m others) (base ∷ others)
      star = record {
        each_once = the_round.each_once;
        exactly = λ c. (λ h. the_round.all c h.0, λ i. (the_round.at_vertex c i, corner-level c i));
        least = record {
          not_below = not-below m others;
          enough = all-inner;
          least = λ k l enough. levels k enough m base others l (at_base.0, (let h = at_base.1 in omega arith)) turn.in_order;
        };
      }

    -- ---- one corner more
    pub turns-more : (c : Corner T) (ds : List (Corner T)) (d : Corner T) → Turns S T F.patch c ds
        → IsNext S T F.patch (last_corner c ds) d → Turns S T F.patch c (ds ++ d ∷ [])
    turns-more c [] d t n = (n, tt)
    turns-more c (b ∷ bs) d t n = (t.0, turns-more b bs d t.1 n)

    pub last-more : (c : Corner T) (ds : List (Corner T)) (d : Corner T) → last_corner c (ds ++ d ∷ []) ≡ d
    last-more c [] d = refl
    last-more c (b ∷ bs) d = last-more b bs d

    not-more : (base : Corner T) (ds : List (Corner T)) (d : Corner T) → (IsAmong base ds → ⊥) → (d ≡ base → ⊥) → IsAmong base (ds ++ d ∷ []) → ⊥
    not-more base ds d h k i = at_case (among-append base ds (d ∷ []) i)
      where
        at_case : IsAmong base ds ⊎ IsAmong base (d ∷ []) → ⊥
        at_case (inl j) = h j
        at_case (inr (inl e)) = k (sym e)
        at_case (inr (inr j)) = elim j [ ]

    pub distinct-at : (base : Corner T) → IsCornerAt S T F.patch v base → (others : List (Corner T))
        → Turns S T F.patch base others → (IsAmong base others → ⊥)
        → AreDistinct (corner_tiles (base ∷ others)) × AllByRecursion (IsCornerAt S T F.patch v) (base ∷ others)
    distinct-at base h others t first = (
      distinct-tiles S L O F.patch D v (base ∷ others) (turn-at S L O F.patch D v base others h t)
          (distinct-turn S L O F.patch D v base others h t first),
      AllByRecursion-from (IsCornerAt S T F.patch v) (base ∷ others) (turn-at S L O F.patch D v base others h t),
    )

    -- ---- whether a corner is the base
    place-self : (z : PlanePoint S.ops.carrier) → same_place S z z ≡ true
    place-self z = ap₂ (λ s t. is_eq s && is_eq t) (ap S.sign (L.add_neg z.x) ∙ O.zero_equal) (ap S.sign (L.add_neg z.y) ∙ O.zero_equal)

    same-place : (a b : PlanePoint S.ops.carrier) → same_place S a b ≡ true → a ≡ b
    same-place a b h = ap (λ (e : PlaneEdge S). e.from)
        (reverse-is S L O (record { from = a; to = b }) (record { from = a; to = a })
        (and_from _ _ h (place-self a)))

    is-base : (base c d : Corner T) → IsCornerAt S T F.patch v base → IsCornerAt S T F.patch v c
        → IsNext S T F.patch c d → (d ≡ base) ⊎ (d ≡ base → ⊥)
    is-base base c d h k n = at_edge (out-edge (F.patch.outline base.tile) base.vertex v h.1)
      where
        at_d : IsCornerAt S T F.patch v d
        at_d = next-at S L O F.patch D v c d k n

        from_v : n.out.from ≡ v
        from_v = some-same n.out.from v (sym (out-start (F.patch.outline d.tile) d.vertex n.out n.starts) ∙ at_d.1)

        at_edge : (e : PlaneEdge S) × (slice_get (edges (F.patch.outline base.tile)) base.vertex ≡ Some e)
            × (e.from ≡ v) → (d ≡ base) ⊎ (d ≡ base → ⊥)
        at_edge e = at_test (same_place S n.out.to e.0.to) refl
          where
            at_test : (b : Bool) → same_place S n.out.to e.0.to ≡ b → (d ≡ base) ⊎ (d ≡ base → ⊥)
            at_test true g =
                let same : n.out ≡ e.0 = λ i. record { from = (from_v ∙ sym e.2) i; to = same-place n.out.to e.0.to g i } in
                inl (one-corner S L O F.patch D v d base at_d h (D.dissected.one_owner d.tile base.tile at_d.0 h.0 e.0
                (subst (λ f. IsAmong f (edges (F.patch.outline d.tile))) same (place-among n.out (edges (F.patch.outline d.tile)) d.vertex n.starts))
                (place-among e.0 (edges (F.patch.outline base.tile)) base.vertex e.1)))
            at_test false g = inr (λ f.
                let same : n.out ≡ e.0 = some-same n.out e.0
                (sym n.starts ∙ ap (λ (b : Corner T). slice_get (edges (F.patch.outline b.tile)) b.vertex)
                f ∙ e.1) in
                absurd (cc (sym (place-self e.0.to) ∙ ap (λ (p : PlaneEdge S). same_place S p.to e.0.to) (sym same) ∙ g)))

    -- ---- to the end
    length-more : (ds : List (Corner T)) (d : Corner T) → length (ds ++ d ∷ []) ≡ suc (length ds)
    length-more [] d = refl
    length-more (b ∷ bs) d = ap suc (length-more bs d)

    module _ (k most : ℕ) (enough : IsEnoughAt S T F v k) (few : HasAtMost S T F v most) (base : Corner T)
        (at_base : IsCornerOfDepth S T F v k base) where
      abbrev Ends : Type 0
      Ends = (others : List (Corner T)) × IsTurn S T F.patch base others × (length (base ∷ others) ≤ most)

      short : (others : List (Corner T)) → Turns S T F.patch base others → (IsAmong base others → ⊥) → length (base ∷ others) ≤ most
      short others t first = let h = distinct-at base at_base.0 others t first in few (base ∷ others) h.0 h.1

      ends-within : (fuel : ℕ) (others : List (Corner T)) → Turns S T F.patch base others
          → (IsAmong base others → ⊥) → most ≤ length others + fuel → Ends
      ends-within zero others t first room = absurd (let h = short others t first in omega arith)
      ends-within (suc fuel) others t first room = at_next
          (next-exists k enough (last_corner base others) (last-of k enough base others at_base t))
          (ends-within fuel)
        where
          at_next : (d : Corner T) × IsNext S T F.patch (last_corner base others) d × (F.level d.tile ≤ k)
              → ((ds : List (Corner T)) → Turns S T F.patch base ds → (IsAmong base ds → ⊥) → most ≤ length ds + fuel → Ends) → Ends
          at_next d more = at_case (is-base base (last_corner base others) d.0 at_base.0 (last-of k enough base others at_base t).0 d.1)
            where
              at_case : (d.0 ≡ base) ⊎ (d.0 ≡ base → ⊥) → Ends
              at_case (inl e) = (
                others,
                record { in_order = t; back = subst (IsNext S T F.patch (last_corner base others)) e d.1; first_time = λ i. absurd (first i) },
                short others t first,
              )
              at_case (inr g) = more (others ++ d.0 ∷ []) (turns-more base others d.0 t d.1)
                  (not-more base others d.0 first g) (let h = length-more others d.0 in omega arith)

pub star_answers : (S : Signed) (L : Laws S.ops) (O : OrderLaws S) → DividesWhole S → {T : Type 0} → StarAnswers S T
star_answers S L O whole F D v m base at_base others turn = star S L O F D v whole m base at_base others turn

pub star_is_whole : (S : Signed) (L : Laws S.ops) (O : OrderLaws S) → DividesWhole S → {T : Type 0} → StarIsWhole S T
star_is_whole S L O whole F D v m base at_base others turn
    = (
      stays S L O F D v whole m base at_base others turn,
      at_most S L O F D v whole m base at_base others
          turn,
    )

pub star_goes_on : (S : Signed) (L : Laws S.ops) (O : OrderLaws S) → {T : Type 0} → StarGoesOn S T
star_goes_on S L O F D v m k l enough base at_base others t =
    let h : F.level base.tile ≤ k = (let g = at_base.1 in omega arith) in (
      levels S L O F D v k enough m base others l (at_base.0, h) t,
      next-exists S L O F D v k enough (last_corner base others) (last-of S L O F D v k enough base others (at_base.0, h) t),
    )

pub depth_cause : (S : Signed) (L : Laws S.ops) (O : OrderLaws S) → {T : Type 0} → DepthCause S T
depth_cause S L O F v n c h e k not_inner enough = absurd (depth-cause S L O F v n c h e k (λ i. absurd (not_inner i)) enough)

pub count_cause : (S : Signed) (L : Laws S.ops) (O : OrderLaws S) → {T : Type 0} → CountCause S T
count_cause S L O F D v base h others t first d n other =
    distinct-at S L O F D v base h (others ++ d ∷ []) (turns-more S L O F D v base others d t n)
    (not-more S L O F D v base others d (λ i. absurd (first i)) (λ e. absurd (other e)))

pub star_ends : (S : Signed) (L : Laws S.ops) (O : OrderLaws S) → {T : Type 0} → StarEnds S T
star_ends S L O F D v m k most l enough few base at_base =
    ends-within S L O F D v k most enough few base (at_base.0, (let g = at_base.1 in omega arith)) most [] tt (λ i. elim i [ ]) (omega arith)
