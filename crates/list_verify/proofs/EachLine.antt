-- On a walk the lines found are gone through, from the one at the centre of the window.
use Rattle.std.proofs.Common.{◌≡◌, ℕ, ◌+◌, ◌-◌, ◌<◌, ◌≤◌, length, get_or, None, sym, subst, arith}
use Rattle.theory_addresses.specs.Search.{IsAmong}
use Rattle.theory_addresses.proofs.Lists.{get_or-among}
use Rattle.theory_walks.specs.Frames.{FrameValue}
use Rattle.theory_walks.proofs.Brought.{Brings}
use Rattle.rule_model.specs.declared.rule.Rule.{Rule}
use Rattle.rule_model.specs.Tiling.{Tiling, tiling_of}
use Rattle.list_verify.specs.declared.found_lines.FoundLines.{FoundLines}
use Rattle.list_verify.specs.declared.walk.Walk.{Walk}
use Rattle.list_verify.specs.FoundLines.{AreCrossedOver, AreCrossedBefore, edges_of_line}
use Rattle.list_verify.specs.ListLaws.{HasListLaws, HasWalkLaws}
use Rattle.list_verify.specs.Walk.{tiling_in, WalkGoesOn, HasEnded}
use Rattle.list_verify.specs.Walked.{first_refused_at}
use Rattle.list_verify.proofs.Chains.{slice_get-at}
use Rattle.list_verify.proofs.Edges.{next-before, more-length}
use Rattle.list_verify.proofs.WalkedLines.{not-more}
use Rattle.list_verify.proofs.Ended.{tells}
use Rattle.list_verify.proofs.Onward.{further}
use Rattle.list_verify.proofs.WalkLaws.{brings}

-- so far the edges of the first n lines found have tiles found across them
abbrev pub HasCrossedLines : Walk → FrameValue → FrameValue → FoundLines → FoundLines → ℕ → Type 0
HasCrossedLines walk f g a b n =
    WalkGoesOn walk f g a b × AreCrossedBefore (tiling_in walk) f walk.window.now walk.lines.now b.lines.items n × (n ≤ length b.lines.items)

-- at first none
pub none-crossed : (walk : Walk) (f g : FrameValue) (a b : FoundLines) → WalkGoesOn walk f g a b → HasCrossedLines walk f g a b 0
none-crossed walk f g a b on = (on, (λ j i l at. absurd (none_below j l)), none_above (length b.lines.items))
  where
    none_below : (j : ℕ) → j < 0 → ⊥
    none_below j h = omega arith

    none_above : (n : ℕ) → 0 ≤ n
    none_above n = omega arith

module _ (walk : Walk) (W : HasWalkLaws walk.machine.now) (f g : FrameValue) (a b : FoundLines) (n : ℕ)
    (so : HasCrossedLines walk f g a b n) where
  abbrev m : Rule
  m = walk.machine.now

  abbrev t : Tiling
  t = tiling_of m

  abbrev B : Brings HasListLaws m
  B = brings m W

  -- ---- the next line
  module _ (below : n < length b.lines.items) (line : ℕ) (d : ℕ) (is : line ≡ get_or b.lines.items n d) where
    pub is-found : IsAmong line b.lines.items
    is-found = subst (λ k. IsAmong k b.lines.items) (sym is) (get_or-among b.lines.items n d below)

    pub one-more : (h : FrameValue) (c : FoundLines) → WalkGoesOn walk g h b c
        → AreCrossedOver t g walk.window.now walk.lines.now c.lines.items line (edges_of_line t walk.lines.now line)
        → HasCrossedLines walk f h a c (n + 1)
    one-more h c next over = (
      further walk f g a b so.0 h c next,
      next-before t f walk.window.now walk.lines.now b.lines.items c.lines.items n line next.more below
          (slice_get-at b.lines.items n line d below is) so.1
          (subst (λ (k : FrameValue). AreCrossedOver t k walk.window.now walk.lines.now c.lines.items line (edges_of_line t walk.lines.now line))
          so.0.stays over),
      more-length b.lines.items c.lines.items n next.more below,
    )

  -- there are no more of them than lines
  pub fewer-left : n < length b.lines.items → length walk.lines.now - (n + 1) < length walk.lines.now - n
  fewer-left below = less
      (not-more m B.settled B.fits B.laws f walk.window.now so.0.under_way.on_frame.window_fits walk.lines.now
      so.0.under_way.on_frame.lines b.lines.items b.marks.items so.0.under_way.lines_found) below
    where
      less : {k n l : ℕ} → k ≤ l → n < k → l - (n + 1) < l - n
      less h j = omega arith

  -- ---- the end
  pub ended : length b.lines.items ≤ n → first_refused_at t f walk.window.now ≡ None → HasEnded walk f g b
  ended over none = record {
    stays = so.0.stays;
    centre_found = none;
    count = so.0.under_way.lines_found.are_marked.count;
    tells = tells m B.settled B.fits B.laws f walk.window.now so.0.under_way.on_frame.window_fits walk.lines.now
        so.0.under_way.on_frame.lines b.lines.items b.marks.items so.0.under_way.lines_found
        (subst (AreCrossedBefore t f walk.window.now walk.lines.now b.lines.items) (same so.2 over) so.1);
  }
    where
      same : {i j : ℕ} → i ≤ j → j ≤ i → i ≡ j
      same h k = omega arith
