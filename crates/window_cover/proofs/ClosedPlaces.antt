-- Where the edges stand, once one is closed.
use Rattle.std.proofs.Common.{◌≡◌, ℕ, suc, Bool, true, false, cond, Option, None, List, [], ◌∷◌, refl, sym, ap, ◌∙◌}
use Rattle.std.specs.List.{position, IsDistinct}
use Rattle.std.specs.Option.{option_map}
use Rattle.std.proofs.lemmas.Bool.{and_right}
use Rattle.window_cover.specs.declared.ends.Ends.{Ends}
use Rattle.window_cover.specs.declared.border.Listed.{Listed}
use Rattle.window_cover.specs.Border.{have_same_ends, open_of, waits_at, HasDistinctEnds}
use Rattle.window_cover.proofs.SameEnds.{have_same_ends-symm, have_same_ends-exact}
use Rattle.window_cover.proofs.Positions.{position-here, position-later}
use Rattle.window_cover.proofs.Open.{listed, waiting, position-none}
use Rattle.window_cover.proofs.Closing.{closed, closing, closed-here, closed-later, absent-after}

later_cond : (b : Bool) (x : Option ℕ) → option_map suc (cond b None x) ≡ cond b None (option_map suc x)
later_cond true x = refl
later_cond false x = refl

-- one that is passed stays in front
passed : (k q : Ends) (l : Listed) (ls : List Listed) → waits_at q l ≡ false
    → position (waits_at q) (closed k ls) ≡ cond (have_same_ends k q) None (position (waits_at q) ls)
    → position (waits_at q) (l ∷ closed k ls) ≡ cond (have_same_ends k q) None (position (waits_at q) (l ∷ ls))
passed k q l ls e r =
    position-later (waits_at q) l (closed k ls) e ∙ ap (option_map suc) r
    ∙ later_cond (have_same_ends k q) (position (waits_at q) ls)
    ∙ sym (ap (λ (x : Option ℕ). cond (have_same_ends k q) None x) (position-later (waits_at q) l ls e))

-- the one that is closed has no place
gone : (k q : Ends) (l : Listed) (ls : List Listed) → l.is_open ≡ true → have_same_ends k l.ends ≡ true
    → HasDistinctEnds (waiting l.ends l.edge ∷ open_of ls)
    → position (waits_at q) (closing l ∷ ls) ≡ cond (have_same_ends k q) None (position (waits_at q) (l ∷ ls))
gone k q l ls o f d = position-later (waits_at q) (closing l) ls refl ∙ at_test (have_same_ends k q) refl
  where
    at_test : (b : Bool) → have_same_ends k q ≡ b → option_map suc (position (waits_at q) ls) ≡ cond b None (position (waits_at q) (l ∷ ls))
    at_test true e =
        let same : have_same_ends q l.ends ≡ true = sym (ap (λ (n : Ends). have_same_ends n l.ends) (have_same_ends-exact k q e)) ∙ f in
        ap (option_map suc) (position-none q ls (absent-after q (waiting l.ends l.edge) (open_of ls) same d))
    at_test false e =
        let other : have_same_ends q l.ends ≡ false = have_same_ends-symm q l.ends
        ∙ sym (ap (λ (n : Ends). have_same_ends n q) (have_same_ends-exact k l.ends f)) ∙ e in
        sym (position-later (waits_at q) l ls (and_right l.is_open (have_same_ends q l.ends) other))

-- the others keep their places
pub position-closed : (k q : Ends) (ls : List Listed) → HasDistinctEnds (open_of ls)
    → position (waits_at q) (closed k ls) ≡ cond (have_same_ends k q) None (position (waits_at q) ls)
unfolding IsDistinct
position-closed k q [] d = nothing (have_same_ends k q)
  where
    nothing : (b : Bool) → None ≡ cond {A = Option ℕ} b None None
    nothing true = refl
    nothing false = refl
position-closed k q (l ∷ ls) d = step l.is_open (have_same_ends k l.ends) (have_same_ends q l.ends) refl refl d (λ e. position-closed k q ls e)
  where
    step : (b c e : Bool) → have_same_ends k l.ends ≡ c → have_same_ends q l.ends ≡ e → HasDistinctEnds (open_of (listed l.ends l.edge b ∷ ls))
        → (HasDistinctEnds (open_of ls) → position (waits_at q) (closed k ls) ≡ cond (have_same_ends k q) None (position (waits_at q) ls))
        → position (waits_at q) (closed k (listed l.ends l.edge b ∷ ls)) ≡ cond (have_same_ends k q) None
        (position (waits_at q) (listed l.ends l.edge b ∷ ls))
    step false c e f g d r = passed k q (listed l.ends l.edge false) ls refl (r d)
    step true true e f g d r =
        ap (position (waits_at q)) (closed-here k (listed l.ends l.edge true) ls f) ∙ gone k q (listed l.ends l.edge true) ls refl f d
    step true false false f g d r =
        ap (position (waits_at q)) (closed-later k (listed l.ends l.edge true) ls f) ∙ passed k q (listed l.ends l.edge true) ls g (r d.1)
    step true false true f g d r =
        let other : have_same_ends k q ≡ false = ap (have_same_ends k) (have_same_ends-exact q l.ends g) ∙ f in
        ap (position (waits_at q)) (closed-later k (listed l.ends l.edge true) ls f)
        ∙ position-here (waits_at q) (listed l.ends l.edge true) (closed k ls) g
        ∙ sym (ap (λ (b : Bool). cond b None (position (waits_at q) (listed l.ends l.edge true ∷ ls))) other
        ∙ position-here (waits_at q) (listed l.ends l.edge true) ls g)
