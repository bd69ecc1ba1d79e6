-- What a search for the tiles of a window hands on, from step to step and at its end.
use Rattle.std.proofs.Common.{◌≡◌, inl, inr, ℕ, List, [], ◌∷◌, None, find, refl, sym, ap, ◌∙◌, subst}
use Rattle.theory_addresses.specs.Address.{Address}
use Rattle.cyclo_points.specs.Order.{points_of, is_refused}
use Rattle.cyclo_points.specs.Point.{point_in}
use Rattle.theory_frames.specs.Contain.{values_outward}
use Rattle.plane_geom.specs.declared.window.Window.{Window}
use Rattle.theory_addresses.specs.Tables.{child_kinds}
use Rattle.rule_model.specs.declared.rule.Rule.{Rule}
use Rattle.rule_model.specs.Accepted.{IsAccepted}
use Rattle.rule_model.specs.Tiling.{Tiling, tiling_of, contacts, children}
use Rattle.rule_model.specs.Usable.{IsUsable}
use Rattle.tile_shape.specs.Usable.{AreUsable}
use Rattle.window_cover.specs.Checked.{IsCheckedRule}
use Rattle.theory_walks.specs.Frames.{FrameValue, GrowsTo}
use Rattle.theory_walks.proofs.Ancestors.{full-later}
use Rattle.theory_windows.specs.EnoughDepth.{IsNotBeyond}
use Rattle.theory_windows.specs.FramePatch.{growing_frame}
use Rattle.window_cover.specs.declared.cover_fault.CoverFault.{CoverFault}
use Rattle.window_cover.specs.declared.cover_fault.CoverFault.TheVariants.{DepthLimit, CoordLimit, TooManyTiles, NoMemory}
use Rattle.window_cover.specs.Beyond.{IsNotBeyondEnough}
use Rattle.window_cover.specs.Found.{BorderEdge, first_of}
use Rattle.window_cover.specs.Causes.{HasCoverCause}
use Rattle.window_cover.specs.Windows.{TileOf, box_of}

pub none-open : (border : List BorderEdge) → first_of border ≡ None → border ≡ []
none-open [] e = refl
none-open (o ∷ os) e = absurd (cc e)

-- ---- what a machine says of its rule
pub checked_of : (m inside : Rule) (kinds : List (List ℕ)) → inside ≡ m → IsAccepted m → IsUsable m
    → child_kinds (contacts (tiling_of m)) ≡ children (tiling_of m)
    → kinds ≡ children (tiling_of inside) → AreUsable kinds → IsCheckedRule m
checked_of m inside kinds e accepted usable same k h = record {
  accepted = accepted;
  usable = usable;
  uses_usable = subst AreUsable (k ∙ ap (λ (r : Rule). children (tiling_of r)) e) h;
  same_child_kinds = same;
}

-- ---- a frame that grew from another
module _ (t : Tiling) (f g : FrameValue) (grows : GrowsTo t f g) where
  pub beyond-before : (w : Window) (m n : ℕ) → IsNotBeyondEnough t g w m n → IsNotBeyondEnough t f w m n
  beyond-before w m n h =
      subst (λ (a : Address). IsNotBeyond (points_of t.order).real (TileOf t)
      (growing_frame (points_of t.order) (is_refused t.order) t.rule a) (box_of t w) m n)
      (full-later t f g grows) h

  pub beyond-later : (w : Window) (m n : ℕ) → IsNotBeyondEnough t f w m n → IsNotBeyondEnough t g w m n
  beyond-later w m n h =
      subst (λ (a : Address). IsNotBeyond (points_of t.order).real (TileOf t)
      (growing_frame (points_of t.order) (is_refused t.order) t.rule a) (box_of t w) m n)
      (sym (full-later t f g grows)) h

  pub cause-before : (now : FrameValue) (w : Window) (fault : CoverFault) → HasCoverCause t g now w fault → HasCoverCause t f now w fault
  cause-before now w (DepthLimit addr edge) h = h
  cause-before now w (CoordLimit value) (inl h) = inl (record {
    is_first = ap (λ (a : Address). find (is_refused t.order)
        (values_outward (points_of t.order) t.rule a (point_in t.order w.centre) 0 65))
        (sym (full-later t f g grows)) ∙ h.is_first;
    value_in_order = h.value_in_order;
  })
  cause-before now w (CoordLimit value) (inr e) = inr e
  cause-before now w TooManyTiles h = h
  cause-before now w NoMemory h = tt
