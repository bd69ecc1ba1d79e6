-- One more edge at the end of the list.
use Rattle.std.proofs.Common.{◌≡◌, Bool, true, false, cond, None, Some, List, [], ◌∷◌, ◌++◌, length, refl, sym, ap, ◌∙◌}
use Rattle.std.specs.List.{position}
use Rattle.window_cover.specs.declared.ends.Ends.{Ends}
use Rattle.window_cover.specs.declared.open_edge.OpenEdge.{OpenEdge}
use Rattle.window_cover.specs.declared.border.Listed.{Listed}
use Rattle.window_cover.specs.Border.{have_same_ends, waits_at}
use Rattle.window_cover.proofs.SameEnds.{have_same_ends-symm, have_same_ends-exact}
use Rattle.window_cover.proofs.Positions.{position-push_failing, position-push_passing}
use Rattle.window_cover.proofs.Open.{listed}

-- one that is closed
pub position-closed_push : (q n : Ends) (g : OpenEdge) (ls : List Listed)
    → position (waits_at q) (ls ++ listed n g false ∷ []) ≡ position (waits_at q) ls
position-closed_push q n g ls = position-push_failing (waits_at q) (listed n g false) ls refl

-- one that is open, whose ends no open edge has
pub position-open_push : (n : Ends) (g : OpenEdge) (ls : List Listed) → position (waits_at n) ls ≡ None
    → (q : Ends) → position (waits_at q) (ls ++ listed n g true ∷ []) ≡ cond (have_same_ends n q) (Some (length ls)) (position (waits_at q) ls)
position-open_push n g ls h q = at_test (have_same_ends n q) refl
  where
    at_test : (b : Bool) → have_same_ends n q ≡ b
        → position (waits_at q) (ls ++ listed n g true ∷ []) ≡ cond b (Some (length ls))
        (position (waits_at q) ls)
    at_test true e =
        position-push_passing (waits_at q) (listed n g true) ls
        (sym (ap (λ (k : Ends). position (waits_at k) ls) (have_same_ends-exact n q e)) ∙ h)
        (have_same_ends-symm q n ∙ e)
    at_test false e = position-push_failing (waits_at q) (listed n g true) ls (have_same_ends-symm q n ∙ e)
