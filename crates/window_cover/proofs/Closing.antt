-- The first edge that is open and has given ends, closed.
use Rattle.std.proofs.Common.{◌≡◌, ℕ, zero, suc, Bool, true, false, not, cond, ◌||◌, Some, List, [], ◌∷◌, length, take, get_or, set, refl, sym, ap, ◌∙◌, arith}
use Rattle.std.specs.List.{position, filter, AllByRecursion, IsDistinct}
use Rattle.window_cover.specs.declared.ends.Ends.{Ends}
use Rattle.window_cover.specs.declared.border.Listed.{Listed}
use Rattle.window_cover.specs.Border.{Waiting, have_same_ends, open_of, waits_at, has_ends, HasDistinctEnds}
use Rattle.window_cover.proofs.SameEnds.{have_same_ends-exact}
use Rattle.window_cover.proofs.Positions.{position-first, position-rest}
use Rattle.window_cover.proofs.Open.{listed, waiting}

-- the edge, closed
abbrev pub closing : Listed → Listed
closing l = listed l.ends l.edge false

-- the list, once the edge that is open with these ends is closed
abbrev pub closed : Ends → List Listed → List Listed
closed k [] = []
closed k (l ∷ ls) = cond (waits_at k l) (closing l ∷ ls) (l ∷ closed k ls)

-- the other edges that wait
abbrev pub others : Ends → List Waiting → List Waiting
others k ws = filter (λ o. not (have_same_ends k o.ends)) ws

pub closed-here : (k : Ends) (l : Listed) (ls : List Listed) → waits_at k l ≡ true → closed k (l ∷ ls) ≡ closing l ∷ ls
closed-here k l ls e = ap (λ (b : Bool). cond b (closing l ∷ ls) (l ∷ closed k ls)) e

pub closed-later : (k : Ends) (l : Listed) (ls : List Listed) → waits_at k l ≡ false → closed k (l ∷ ls) ≡ l ∷ closed k ls
closed-later k l ls e = ap (λ (b : Bool). cond b (closing l ∷ ls) (l ∷ closed k ls)) e

pub set-closed : (k : Ends) (ls : List Listed) (i : ℕ) (r : Listed) → position (waits_at k) ls ≡ Some i
    → r ≡ get_or ls i r → set ls i (closing r) ≡ closed k ls
set-closed k [] i r h e = refl
set-closed k (l ∷ ls) zero r h e = ap (λ (m : Listed). closing m ∷ ls) e ∙ sym (closed-here k l ls (position-first (waits_at k) l ls h))
set-closed k (l ∷ ls) (suc i) r h e =
    let p = position-rest (waits_at k) l ls i h in
    ap (λ (ms : List Listed). l ∷ ms) (set-closed k ls i r p.1 e) ∙ sym (closed-later k l ls p.0)

-- none of these has the ends
absent : (k : Ends) (ws : List Waiting) → AllByRecursion (λ (p : Waiting). have_same_ends k p.ends ≡ false) ws → has_ends k ws ≡ false
absent k [] h = refl
absent k (o ∷ ws) h = ap (λ (b : Bool). b || has_ends k ws) h.0 ∙ absent k ws h.1

others-present : (k : Ends) (o : Waiting) (ws : List Waiting) → have_same_ends k o.ends ≡ true → others k (o ∷ ws) ≡ others k ws
others-present k o ws e = ap (λ (b : Bool). cond (not b) (o ∷ others k ws) (others k ws)) e

others-kept : (k : Ends) (o : Waiting) (ws : List Waiting) → have_same_ends k o.ends ≡ false → others k (o ∷ ws) ≡ o ∷ others k ws
others-kept k o ws e = ap (λ (b : Bool). cond (not b) (o ∷ others k ws) (others k ws)) e

-- where none has the ends, all are others
pub others-all : (k : Ends) (ws : List Waiting) → has_ends k ws ≡ false → others k ws ≡ ws
others-all k [] h = refl
others-all k (o ∷ ws) h = step (have_same_ends k o.ends) refl h (λ e. others-all k ws e)
  where
    step : (b : Bool) → have_same_ends k o.ends ≡ b → b || has_ends k ws ≡ false
        → (has_ends k ws ≡ false → others k ws ≡ ws) → others k (o ∷ ws) ≡ o ∷ ws
    step true e h r = grind (arith, h)
    step false e h r = others-kept k o ws e ∙ ap (λ (vs : List Waiting). o ∷ vs) (r h)

-- after one with the ends, of those that are distinct, none has them
pub absent-after : (k : Ends) (o : Waiting) (ws : List Waiting) → have_same_ends k o.ends ≡ true → HasDistinctEnds (o ∷ ws) → has_ends k ws ≡ false
unfolding IsDistinct
absent-after k o ws e d = ap (λ (n : Ends). has_ends n ws) (have_same_ends-exact k o.ends e) ∙ absent o.ends ws d.0

pub open_of-closed : (k : Ends) (ls : List Listed) → HasDistinctEnds (open_of ls) → open_of (closed k ls) ≡ others k (open_of ls)
unfolding IsDistinct
open_of-closed k [] d = refl
open_of-closed k (l ∷ ls) d = step l.is_open (have_same_ends k l.ends) refl d (λ e. open_of-closed k ls e)
  where
    step : (b c : Bool) → have_same_ends k l.ends ≡ c → HasDistinctEnds (open_of (listed l.ends l.edge b ∷ ls))
        → (HasDistinctEnds (open_of ls) → open_of (closed k ls) ≡ others k (open_of ls))
        → open_of (closed k (listed l.ends l.edge b ∷ ls)) ≡ others k (open_of (listed l.ends l.edge b ∷ ls))
    step true true f d r =
        ap open_of (closed-here k (listed l.ends l.edge true) ls f)
        ∙ sym (others-present k (waiting l.ends l.edge) (open_of ls) f
        ∙ others-all k (open_of ls) (absent-after k (waiting l.ends l.edge) (open_of ls) f d))
    step true false f d r =
        ap open_of (closed-later k (listed l.ends l.edge true) ls f)
        ∙ ap (λ (ws : List Waiting). waiting l.ends l.edge ∷ ws) (r d.1) ∙ sym (others-kept k (waiting l.ends l.edge) (open_of ls) f)
    step false c f d r = r d

-- what is closed in front stays so
pub none_before-closed : (k : Ends) (ls : List Listed) (i : ℕ) → open_of (take i ls) ≡ [] → open_of (take i (closed k ls)) ≡ []
none_before-closed k [] i h = h
none_before-closed k (l ∷ ls) zero h = refl
none_before-closed k (l ∷ ls) (suc i) h = step l.is_open h (λ e. none_before-closed k ls i e)
  where
    step : (b : Bool) → open_of (listed l.ends l.edge b ∷ take i ls) ≡ [] → (open_of (take i ls) ≡ [] → open_of (take i (closed k ls)) ≡ [])
        → open_of (take (suc i) (closed k (listed l.ends l.edge b ∷ ls))) ≡ []
    step true h r = grind (arith, h)
    step false h r = r h

-- the others are distinct too
others-apart : (k n : Ends) (ws : List Waiting) → AllByRecursion (λ (p : Waiting). have_same_ends n p.ends ≡ false) ws
    → AllByRecursion (λ (p : Waiting). have_same_ends n p.ends ≡ false) (others k ws)
others-apart k n [] h = h
others-apart k n (o ∷ ws) h = step (not (have_same_ends k o.ends)) h (others-apart k n ws h.1)
  where
    step : (b : Bool) → AllByRecursion (λ (p : Waiting). have_same_ends n p.ends ≡ false) (o ∷ ws)
        → AllByRecursion (λ (p : Waiting). have_same_ends n p.ends ≡ false) (others k ws)
        → AllByRecursion (λ (p : Waiting). have_same_ends n p.ends ≡ false) (cond b (o ∷ others k ws) (others k ws))
    step true h r = (h.0, r)
    step false h r = r

pub others-distinct : (k : Ends) (ws : List Waiting) → HasDistinctEnds ws → HasDistinctEnds (others k ws)
unfolding IsDistinct
others-distinct k [] d = d
others-distinct k (o ∷ ws) d = step (not (have_same_ends k o.ends)) (others-apart k o.ends ws d.0) (others-distinct k ws d.1)
  where
    step : (b : Bool) → AllByRecursion (λ (p : Waiting). have_same_ends o.ends p.ends ≡ false) (others k ws)
        → HasDistinctEnds (others k ws) → HasDistinctEnds (cond b (o ∷ others k ws) (others k ws))
    step true a r = (a, r)
    step false a r = r

-- and one fewer
pub length-others : (k : Ends) (ws : List Waiting) → HasDistinctEnds ws → has_ends k ws ≡ true → suc (length (others k ws)) ≡ length ws
unfolding IsDistinct
length-others k [] d h = grind (arith, h)
length-others k (o ∷ ws) d h = step (have_same_ends k o.ends) refl h (λ e. length-others k ws d.1 e)
  where
    step : (b : Bool) → have_same_ends k o.ends ≡ b → b || has_ends k ws ≡ true
        → (has_ends k ws ≡ true → suc (length (others k ws)) ≡ length ws)
        → suc (length (others k (o ∷ ws))) ≡ suc (length ws)
    step true e h r = ap (λ (vs : List Waiting). suc (length vs)) (others-present k o ws e ∙ others-all k ws (absent-after k o ws e d))
    step false e h r = ap (λ (vs : List Waiting). suc (length vs)) (others-kept k o ws e) ∙ ap suc (r h)
