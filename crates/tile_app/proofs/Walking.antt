-- The lines of a path, one after the other.
use Rattle.std.proofs.Common.{◌≡◌, ℕ, ◌+◌, ◌<◌, List, [], ◌∷◌, ◌++◌, length, Some, refl, sym, ap, ap₂, ◌∙◌, subst, append_assoc, append-nil, get_or, drop, Result, Ok, Err, IfOk, IfErr, IsOk}
use Rattle.theory_addresses.specs.Address.{Address}
use Rattle.rule_model.specs.Tiling.{Tiling}
use Rattle.tile_place.specs.Crossed.{IsOnlyAcross, LiesOnBoundary}
use Rattle.tile_place.proofs.Plane.{part_along}
use Rattle.theory_walks.specs.Paths.{Crosses, Leads}
use Rattle.transducer_core.specs.declared.outside.Outside.{Outside}
use Rattle.cyclo_points.specs.Text.{blank, newline}
use Rattle.call_words.proofs.Pieces.{at_place}
use Rattle.tile_app.specs.Walk.{IsWalkLine, AreLines}

-- one line more
pub one_line : (t : Tiling) (f a b x : Address) (path : List ℕ) (text line : List ℕ) (e back : ℕ)
    → AreLines t f a path b text → IsOnlyAcross t b e x back → IsWalkLine t f x (Some back) line
    → AreLines t f a (path ++ e ∷ []) x (text ++ line)
one_line t f a b x [] text line e back h across is =
    (x, back, line, [], subst (λ c. IsOnlyAcross t c e x back) h.0 across, is, ap (λ s. s ++ line) h.1 ∙ sym (append-nil line), (refl, refl))
one_line t f a b x (d ∷ path) text line e back h across is = (
  h.0,
  h.1,
  h.2,
  h.3 ++ line,
  h.4,
  h.5,
  ap (λ s. s ++ line) h.6
      ∙ append_assoc h.2 h.3 line,
  one_line t f h.0 b x path h.3 line e back h.7 across is,
)

-- the pieces of a line, joined from the right, are the line
pub pieces_of_walk : (kind own turn shift number address back : List ℕ) → shift ≡ number → kind ≡ own
    → kind ++ (blank ∷ (turn ++ blank ∷ shift ++ (blank ∷ (address ++ (blank ∷ (back ++ newline ∷ []))))))
    ≡ own ++ blank ∷ turn ++ blank ∷ number ++ blank ∷ address ++ blank ∷ back ++ newline ∷ []
pieces_of_walk kind own turn shift number address back e k =
    ap (λ s. kind ++ (blank ∷ s)) (append_assoc turn (blank ∷ shift) (blank ∷ (address ++ (blank ∷ (back ++ newline ∷ [])))))
    ∙ ap₂ (λ i s. i ++ (blank ∷ (turn ++ (blank ∷ (s ++ (blank ∷ (address ++ (blank ∷ (back ++ newline ∷ []))))))))) k e
    ∙ joined own (blank ∷ turn) (blank ∷ number) (blank ∷ address) (blank ∷ back) (newline ∷ [])
  where
    joined : (a b c d x f : List ℕ) → a ++ (b ++ (c ++ (d ++ (x ++ f)))) ≡ a ++ b ++ c ++ d ++ x ++ f
    joined a b c d x f = sym (append_assoc a b _) ∙ sym (append_assoc (a ++ b) c _)
        ∙ sym (append_assoc (a ++ b ++ c) d _) ∙ sym (append_assoc (a ++ b ++ c ++ d) x f)

-- the same, put into an empty line from the end on
pub line_put : (l0 l1 l2 l3 l4 l5 l6 l7 : List ℕ) {new : List ℕ} (kind motion address back : List ℕ)
    → l0 ≡ [] → l1 ≡ newline ∷ l0 → l2 ≡ back ++ l1 → l3 ≡ blank ∷ l2 → l4 ≡ address ++ l3 → l5 ≡ blank ∷ l4
    → l6 ≡ motion ++ l5 → l7 ≡ blank ∷ l6 → new ≡ kind ++ l7
    → new ≡ kind ++ (blank ∷ (motion ++ (blank ∷ (address ++ (blank ∷ (back ++ newline ∷ []))))))
line_put l0 l1 l2 l3 l4 l5 l6 l7 kind motion address back e0 e1 e2 e3 e4 e5 e6 e7 e8 = cc

-- an edge that is crossed is inside, so a step across it is answered
pub ok_inside : (t : Tiling) (a x : Address) (e f : ℕ) (r : Result ℕ Outside)
    → IfErr r (λ o. LiesOnBoundary t a e o.edge o.part) → Crosses t a e x f → IsOk r
ok_inside t a x e f (Ok back) on h = refl
ok_inside t a x e f (Err o) on h = absurd (h.inside (record { own = o.edge; along = part_along t a e o.edge o.part on }))

pub of_ok : (r : Result ℕ Outside) (back : ℕ) (Q : ℕ → Type 0) → r ≡ Ok back → IfOk r Q → Q back
of_ok r back Q e h = subst (λ s. IfOk s Q) e h

-- a path that can be walked on from a tile begins with the edge at its place
pub ahead_at : (t : Tiling) (a b : Address) (path : List ℕ) (i : ℕ) → i < length path
    → Leads t a (drop i path) b → (x : Address) × (f : ℕ) × Crosses t a (get_or path i 0) x f
    × Leads t x (drop (i + 1) path) b
ahead_at t a b path i h leads = subst (λ p. Leads t a p b) (at_place path i h) leads
