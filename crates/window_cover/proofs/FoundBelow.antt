-- What a descent from an ancestor of the base finds, where nothing was found before.
use Rattle.std.proofs.Common.{◌≡◌, ℕ, ◌≤◌, false, List, [], ◌++◌, map, length, sym, ap, ap₂, ◌∙◌, subst}
use Rattle.std.specs.List.{AllByRecursion}
use Rattle.theory_addresses.specs.Address.{top_kind}
use Rattle.theory_substitution.specs.Motion.{Motion}
use Rattle.cyclo_points.specs.Order.{NumberOf, points_of}
use Rattle.cyclo_points.specs.Motion.{motion_in}
use Rattle.theory_frames.specs.Contain.{ancestor_motion}
use Rattle.theory_frames.specs.Descent.{of_whole}
use Rattle.theory_frames.specs.Frame.{at_level}
use Rattle.plane_geom.specs.declared.window.Window.{Window}
use Rattle.rule_model.specs.Tiling.{Tiling}
use Rattle.tile_place.proofs.Ahead.{drop-end}
use Rattle.tile_shape.specs.declared.step.Step.{Step}
use Rattle.tile_shape.specs.Views.{step_of}
use Rattle.theory_walks.specs.Ancestors.{full}
use Rattle.theory_walks.specs.Frames.{FrameValue}
use Rattle.theory_descents.specs.Parts.{drawn_below}
use Rattle.window_descent.specs.declared.part.Part.{Part}
use Rattle.window_cover.specs.Answered.{IsFoundBelow}
use Rattle.window_cover.specs.Descending.{tiles_in, digits_above, found_of, IsDescended, IsKeptTile}
use Rattle.window_cover.specs.Found.{CoverValue}
use Rattle.window_cover.specs.Windows.{box_of}
use Rattle.window_cover.proofs.PartLists.{behind-nothing}
use Rattle.theory_windows.specs.Limits.{most_tiles}

pub whole-found : (t : Tiling) (f : FrameValue) (w : Window) (c d : CoverValue) (path after : List Step) (level : ℕ) (p : Part) → c.window ≡ w
    → c.found ≡ [] → c.border ≡ [] → length path ≤ level
    → IsDescended t c d path after false level p → p.kind ≡ top_kind (at_level (full t f) level) → motion_in t.order p.motion
    ≡ ancestor_motion (points_of t.order) t.rule (full t f) level → level ≡ length f.digits
    → length d.found ≤ most_tiles → IsFoundBelow t f w d
whole-found t f w c d path after level p window none border short h kind motion own few = record {
  same_window = h.same_window ∙ window;
  none_open = h.same_border ∙ border;
  found = h.found ∙ ap (λ xs. tiles_in t.order xs ++ map (of_whole (digits_above level path)) (found_of t c.window false level p)) none
      ∙ ap (λ ds. map (of_whole (map step_of ds)) (found_of t c.window false level p)) (drop-end path level short)
      ∙ behind-nothing (found_of t c.window false level p)
      ∙ ap (λ v. found_of t v false level p) window
      ∙ ap₂ (λ (k : ℕ) (g : Motion (NumberOf t.order)). drawn_below (points_of t.order) t.rule (box_of t w) k level g) kind motion
      ∙ ap (λ n. drawn_below (points_of t.order) t.rule (box_of t w) (top_kind (at_level (full t f) n)) n
      (ancestor_motion (points_of t.order) t.rule (full t f) n)) own;
  kept = h.kept (subst (AllByRecursion (IsKeptTile t)) (sym none) tt);
  few = few;
}
