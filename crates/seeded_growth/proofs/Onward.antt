-- Grown digits climb, and go on.
use Rattle.std.proofs.Common.{◌≡◌, ℕ, zero, suc, ◌+◌, ◌%◌, ◌<◌, List, [], ◌∷◌, ◌++◌, length, get_or, slice_get, Some, refl, sym, ap, ap₂, ◌∙◌, arith, append_assoc, add-one, zero-add, mod-lt}
use Rattle.theory_addresses.specs.Address.{Step, Address, child_kind, top_kind, Climbs, Fits}
use Rattle.theory_frames.specs.Growth.{no_step, chosen, grown_from, grown_by}
use Rattle.theory_frames.proofs.Frames.{top_from-join, Climbs-join, Climbs-top}
use Rattle.theory_frames.proofs.Grown.{grown-next}
use Rattle.tile_shape.specs.UsesInOrder.{uses_in_order}
use Rattle.tile_shape.proofs.Parents.{parent_exists}

-- the use that a word chooses is in the list
there : {A : Type 0} (xs : List A) (i : ℕ) (d : A) → i < length xs → slice_get xs i ≡ Some (get_or xs i d)
there [] i d h = absurd (omega arith)
there (x ∷ xs) zero d h = refl
there (x ∷ xs) (suc i) d h = there xs i d (omega arith)

module _ (children : List (List ℕ)) (word : ℕ → ℕ)
    (some : (kind : ℕ) → kind < length children → 0 < length (uses_in_order children kind))
    (child : (kind i : ℕ) (s : Step) → slice_get (uses_in_order children kind) i ≡ Some s → child_kind children s.parent s.child ≡ Some kind) where
  chosen_climbs : (kind w : ℕ) → kind < length children
      → let d = chosen (uses_in_order children kind) w in child_kind children d.parent d.child ≡ Some kind
  chosen_climbs kind w h = child kind (w % length (uses_in_order children kind)) _
      (there (uses_in_order children kind) (w % length (uses_in_order children kind)) no_step
      (mod-lt w (some kind h)))

  grown_climbs : (j top n : ℕ) → top < length children → Climbs children top (grown_from (uses_in_order children) word j top n)
  grown_climbs j top zero h = tt
  grown_climbs j top (suc n) h =
      let climbs = chosen_climbs top (word j) h in
      (climbs, grown_climbs (j + 1) (chosen (uses_in_order children top) (word j)).parent n (parent_exists children _ _ top climbs))

  pub grown_fits : (base : Address) (n : ℕ) → Fits children base → Fits children (grown_by (uses_in_order children) word n base)
  grown_fits base n h = record {
    kind_exists = h.kind_exists;
    climbs = Climbs-join children base.kind base.digits (grown_from (uses_in_order children) word 0 (top_kind base) n) h.climbs
        (grown_climbs 0 (top_kind base) n (Climbs-top children base.kind base.digits h.kind_exists h.climbs));
  }

pub goes_on : (uses : ℕ → List Step) (word : ℕ → ℕ) (base : Address) (n : ℕ)
    → (grown_by uses word (n + 1) base).digits ≡ (grown_by uses word n base).digits
    ++ chosen (uses (top_kind (grown_by uses word n base))) (word n) ∷ []
goes_on uses word base n =
    ap (λ m. base.digits ++ grown_from uses word 0 (top_kind base) m) (add-one n)
    ∙ ap (λ ds. base.digits ++ ds) (grown-next uses word 0 (top_kind base) n)
    ∙ sym (append_assoc base.digits (grown_from uses word 0 (top_kind base) n) _)
    ∙ ap₂ (λ k i. (base.digits ++ grown_from uses word 0 (top_kind base) n) ++ chosen (uses k) (word i) ∷ [])
    (sym (top_from-join base.kind base.digits (grown_from uses word 0 (top_kind base) n))) (zero-add n)
