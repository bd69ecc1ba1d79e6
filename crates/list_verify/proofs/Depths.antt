-- How deep a frame becomes by lines, and what is enough for them.
use Rattle.std.proofs.Common.{◌≡◌, ℕ, ◌≤◌, List, length, Ok, Result, sym, ◌∙◌, subst, arith}
use Rattle.theory_addresses.specs.Address.{Address}
use Rattle.cyclo_points.specs.Order.{points_of}
use Rattle.theory_walks.specs.Ancestors.{full}
use Rattle.theory_walks.specs.Frames.{FrameValue, GrowsTo}
use Rattle.theory_walks.proofs.Ancestors.{full-later}
use Rattle.listing_text.specs.Listing.{Entry}
use Rattle.theory_listings.proofs.FrameLines.{deepest-first}
use Rattle.plane_geom.specs.declared.window.Window.{Window}
use Rattle.rule_model.specs.Tiling.{Tiling}
use Rattle.theory_windows.specs.FrameWindow.{IsLeastDepth}
use Rattle.window_cover.specs.Windows.{box_of, IsLeastForWindow}
use Rattle.list_verify.specs.Depth.{IsEnoughRead}
use Rattle.list_verify.specs.Lifted.{deepest_entry}
use Rattle.list_verify.specs.Listing.{tiles_listed, Reading}

ok-same : {T E : Type 0} (x y : T) → ◌≡◌ {A = Result T E} (Ok x) (Ok y) → x ≡ y
ok-same x y e = cc

module _ (t : Tiling) (f : FrameValue) (w : Window) (reading : Reading) (n : ℕ) (enough : IsEnoughRead t f w reading n) where
  -- the frame itself isn't deeper
  pub frame-not_beyond : length f.digits ≤ n
  frame-not_beyond = let l = deepest-first (length f.digits) (tiles_listed t enough.entries) in let k = enough.least.not_below in omega (arith, l, k)

  module _ (entries : List Entry) (read : reading ≡ Ok entries) where
    same : enough.entries ≡ entries
    same = ok-same enough.entries entries (sym enough.read ∙ read)

    -- nor is it once it has grown to the lines
    pub lines-not_beyond : deepest_entry t (length f.digits) entries ≤ n
    lines-not_beyond = subst (λ es. deepest_entry t (length f.digits) es ≤ n) same enough.least.not_below

    -- and n is the least enough depth from there
    pub enough-grown : (g : FrameValue) → GrowsTo t f g → length g.digits ≡ deepest_entry t (length f.digits) entries → IsLeastForWindow t g w n
    enough-grown g grows deep =
        subst (λ k. IsLeastDepth (points_of t.order) t.rule (full t g) (box_of t w) k n) (sym deep)
        (subst (λ (a : Address). IsLeastDepth (points_of t.order) t.rule a (box_of t w)
        (deepest_entry t (length f.digits) entries) n) (sym (full-later t f g grows))
        (subst (λ es. IsLeastDepth (points_of t.order) t.rule (full t f) (box_of t w) (deepest_entry t (length f.digits) es) n) same enough.least))
