-- A line along an inflated edge has a piece in common with one of the edge's parts.
use Rattle.std.proofs.Common.{◌≡◌, inl, inr, ℕ, suc, List, [], ◌∷◌, slice_get, Some, refl, ap, ◌∙◌}
use Rattle.std.specs.Ordering.{is_lt, ordering_reverse}
use Rattle.std.specs.declared.cmp.Ordering.{Ordering}
use Rattle.std.specs.declared.cmp.Ordering.TheVariants.{Less, Equal, Greater}
use Rattle.theory_ring.specs.Ring.{difference}
use Rattle.theory_ring.specs.Sign.{Signed, IsPositive, IsNonNegative}
use Rattle.theory_plane.specs.Plane.{PlanePoint}
use Rattle.theory_ring.proofs.Signs.{pos_nonneg, zero_nonneg, less_neg}
use Rattle.theory_substitution.specs.Points.{Points, PointLaws}
use Rattle.theory_substitution.specs.Plane.{plane_point}
use Rattle.theory_addresses.specs.Search.{IsAmong}
use Rattle.theory_edge_to_edge.specs.Edges.{Edge, PlacedEdge}
use Rattle.theory_edge_to_edge.proofs.CutParts.{AreParts, begins}
use Rattle.theory_dissection.proofs.Ahead.{Ahead}
use Rattle.theory_dissection.proofs.Positions.{At, ahead-self, start_at, end_at, gap, along-piece, start_before_end, same_position, turned_gap, not_behind}

module _ (P : Points) (W : PointLaws P) (g : P.ring.carrier → P.ring.carrier) (whole : Edge P.ring.carrier)
    (u v : PlanePoint P.real.ops.carrier) where
  abbrev A : Type 0
  A = P.ring.carrier

  abbrev S : Signed
  S = P.real

  abbrev put : A → PlanePoint S.ops.carrier
  put z = plane_point P (g z)

  abbrev c : PlanePoint S.ops.carrier
  c = put whole.from

  abbrev d : PlanePoint S.ops.carrier
  d = put whole.to

  -- u→v and x→y have the piece from→to in common
  pub record Piece (x y : PlanePoint S.ops.carrier) : Type 0 where
    pub from : PlanePoint S.ops.carrier
    pub to : PlanePoint S.ops.carrier
    pub in_line : Ahead S u v from to
    pub in_part : Ahead S x y from to

  -- part number j
  pub record OnPart (ss : List (PlacedEdge A)) : Type 0 where
    pub number : ℕ
    pub part : PlacedEdge A
    pub at : slice_get ss number ≡ Some part
    pub piece : Piece (put part.line.from) (put part.line.to)

  module _ (line : Ahead S c d u v) (apart : (d.x ≡ c.x) → (d.y ≡ c.y) → ⊥) where
    abbrev au : At S c d u
    au = start_at S W.of_real W.of_order c d u v line

    av : At S c d v
    av = end_at S W.of_real W.of_order c d u v line

    abbrev gap_of : {x y : PlanePoint S.ops.carrier} → At S c d x → At S c d y → S.ops.carrier
    gap_of a b = gap S W.of_real W.of_order c d a b

    -- the part from x to y, where u isn't before x, and y is behind u
    piece_of : (x y : PlanePoint S.ops.carrier) (ax : At S c d x) (ay : At S c d y)
        → IsNonNegative S (gap_of ax au) → IsPositive S (gap_of au ay) → Piece x y
    unfolding av
    piece_of x y ax ay before behind = at_sign (S.sign (gap_of av ay)) refl
      where
        up_to_v : IsNonNegative S (gap_of av ay) → Piece x y
        up_to_v nn = record {
          from = u;
          to = v;
          in_line = ahead-self S W.of_real W.of_order u v;
          in_part = along-piece S W.of_real W.of_order c d x y u v ax ay au av before (start_before_end S W.of_real W.of_order c d u v line) nn;
        }

        at_sign : (o : Ordering) → S.sign (gap_of av ay) ≡ o → Piece x y
        at_sign Greater e = up_to_v (ap is_lt e)
        at_sign Equal e = up_to_v (ap is_lt e)
        at_sign Less e = record {
          from = u;
          to = y;
          in_line = along-piece S W.of_real W.of_order c d u v u y au av au ay (same_position S W.of_real W.of_order c d au) behind
              (pos_nonneg S W.of_real W.of_order _ (ap S.sign (turned_gap S W.of_real W.of_order c d av ay) ∙ less_neg S W.of_real W.of_order _ e));
          in_part = along-piece S W.of_real W.of_order c d x y u y ax ay au ay before behind (same_position S W.of_real W.of_order c d ay);
        }

    -- from the point p on, where u isn't before p
    pub search : (on : List (PlacedEdge A)) (types : List ℕ) (p : A) (ss : List (PlacedEdge A)) → AreParts P on whole.to types p ss
        → ((s : PlacedEdge A) → IsAmong s ss → Ahead S c d (put s.line.from) (put s.line.to))
        → (ap : At S c d (put p)) → IsNonNegative S (gap_of ap au) → OnPart ss
    search on [] p [] parts along at before = absurd (not_behind S W.of_real W.of_order c d (put p) u v at line (ap put parts) apart before)
    search on [] p (s ∷ ss) parts along at before = absurd parts
    search on (ty ∷ types) p [] parts along at before = absurd parts
    search on (ty ∷ types) p (s ∷ ss) parts along at before =
        at_sign (S.sign (gap_of au ay)) refl (λ before'. search on types s.line.to ss parts.2 (λ w i. along w (inr i)) ay before')
      where
        ay : At S c d (put s.line.to)
        ay = end_at S W.of_real W.of_order c d (put s.line.from) (put s.line.to) (along s (inl refl))

        here : s.line.from ≡ p
        here = begins P W on p s parts.0

        ax : At S c d (put s.line.from)
        ax = record {
          num = at.num;
          den = at.den;
          den_pos = at.den_pos;
          at_x = ap (λ z. S.ops.mul at.den (difference S.ops (P.x (g z)) c.x)) here ∙ at.at_x;
          at_y = ap (λ z. S.ops.mul at.den (difference S.ops (P.y (g z)) c.y)) here ∙ at.at_y;
        }

        later : (rest : OnPart ss) → OnPart (s ∷ ss)
        later rest = record { number = suc rest.number; part = rest.part; at = rest.at; piece = rest.piece }

        at_sign : (o : Ordering) → S.sign (gap_of au ay) ≡ o → (IsNonNegative S (gap_of ay au) → OnPart ss) → OnPart (s ∷ ss)
        at_sign Greater e next = record { number = 0; part = s; at = refl; piece = piece_of (put s.line.from) (put s.line.to) ax ay before e }
        at_sign Equal e next = later (next (zero_nonneg S W.of_real W.of_order _
            (ap S.sign (turned_gap S W.of_real W.of_order c d au ay) ∙ W.of_order.sign-neg _
            ∙ ap ordering_reverse e)))
        at_sign Less e next = later (next (pos_nonneg S W.of_real W.of_order _
            (ap S.sign (turned_gap S W.of_real W.of_order c d au ay) ∙ less_neg S W.of_real W.of_order _ e)))
