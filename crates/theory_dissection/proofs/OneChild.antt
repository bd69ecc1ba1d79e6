-- A point of a supertile is in the supertile of exactly one child: the step of a descent from the top.
use Rattle.std.proofs.Common.{◌≡◌, inl, inr, ℕ, suc, ◌<◌, ℤ, pos, int_eq, cond, [], ◌∷◌, length, refl, sym, ap, ◌∙◌, subst, arith}
use Rattle.std.proofs.lemmas.Int.{ints}
use Rattle.std.proofs.lemmas.Option.{slice_get_within, get_or_from_slice_get}
use Rattle.theory_ring.specs.Ring.{Ops, power}
use Rattle.theory_ring.specs.Sign.{IsPositive}
use Rattle.theory_plane.specs.Plane.{TestPoint}
use Rattle.theory_ring.proofs.Normaliser.{var, ring, ◌⊗◌}
use Rattle.theory_plane.proofs.Triangle.{Good}
use Rattle.theory_substitution.specs.Plane.{Keeps}
use Rattle.theory_substitution.specs.Motion.{moved, still}
use Rattle.theory_substitution.specs.Rule.{Child, children_of}
use Rattle.theory_addresses.specs.Search.{IsAmong}
use Rattle.theory_substitution.specs.Supertile.{inflated}
use Rattle.theory_substitution.proofs.Keeping.{motion-keeps, keeps-then}
use Rattle.theory_addresses.proofs.Ranges.{among-place}
use Rattle.theory_dissection.specs.Sums.{sum_over, number_of}
use Rattle.theory_dissection.proofs.Setting.{Setting, inflating-keeps}
use Rattle.theory_dissection.proofs.Sums.{sum-ext}
use Rattle.theory_dissection.proofs.ZeroOrOne.{sum-number}
use Rattle.theory_dissection.proofs.SupertileCount.{kind_count, whole_count, count-ext, inflated-moves, one_level}
use Rattle.theory_dissection.proofs.OnlyOne.{whole-good}

module _ (T : Setting)
    (f : T.points.ring.carrier → T.points.ring.carrier) (keeps : Keeps T.points f)
    (p : TestPoint T.points.real.ops.carrier) (d_pos : IsPositive T.points.real p.d) where
  open T use {points as P, laws as W, accepted.{rule as r, numbered as N, edge_to_edge as D}}

  abbrev A : Type 0
  A = P.ring.carrier

  abbrev K : Ops
  K = P.ring

  abbrev in_whole : (A → A) → ℕ → ℕ → ℤ
  in_whole = whole_count T p

  -- the supertile of depth n of a child, in a supertile of depth n + 1 that f moves
  abbrev pub in_child : ℕ → Child A → ℤ
  in_child n c = in_whole (λ z. f (moved P (inflated P r n c.motion) z)) c.kind n

  pub children-sum : (k n : ℕ) → k < length r.kinds → sum_over (in_child n) (children_of r k) ≡ in_whole f k (suc n)
  children-sum k n hk =
      sum-ext (in_child n) (λ c. kind_count T p (λ z. f (K.mul (power K r.factor n) (moved P c.motion z))) c.kind) (children_of r k)
      (λ c. count-ext T p _ _ c.kind (λ z. ap f (inflated-moves T p n c.motion z)))
      ∙ one_level T p (λ z. f (K.mul (power K r.factor n) z)) (keeps-then P W f (K.mul (power K r.factor n)) keeps (inflating-keeps T n)) k hk
      ∙ count-ext T p _ _ k
      (λ z. ap f (ring K W.of_ring (power K r.factor n ∷ (r.factor ∷ (z ∷ []))) (var 0 ⊗ (var 1 ⊗ var 2)) ((var 1 ⊗ var 0) ⊗ var 2) refl))

  child_exists : (k : ℕ) → k < length r.kinds → (c : Child A) → IsAmong c (children_of r k) → c.kind < length r.kinds
  child_exists k hk c i =
      let place = among-place c (children_of r k) i in
      subst (λ (x : Child A). x.kind < length r.kinds)
      (get_or_from_slice_get (children_of r k) place.0 c (record { kind = 0; motion = still P }) place.1)
      (N.child_exists k place.0 hk (slice_get_within (children_of r k) place.0 c place.1))

  child-good : (k n : ℕ) → k < length r.kinds → (c : Child A) → IsAmong c (children_of r k) → Good (in_child n c)
  child-good k n hk c i =
      whole-good T (λ z. f (moved P (inflated P r n c.motion) z))
      (keeps-then P W f (moved P (inflated P r n c.motion)) keeps
      (motion-keeps P W (inflated P r n c.motion)))
      p d_pos c.kind n (child_exists k hk c i)

  pos_is : (m n : ℕ) → pos m ≡ pos n → m ≡ n
  pos_is m n e = omega (arith, ints)

  pub exactly_one_child : (k n : ℕ) → k < length r.kinds
      → number_of (λ c. int_eq (in_child n c) (pos 1)) (children_of r k) ≡ cond
      (int_eq (in_whole f k (suc n)) (pos 1)) 1 0
  exactly_one_child k n hk =
      at_case (whole-good T f keeps p d_pos k (suc n) hk) (sym (sum-number (in_child n) (children_of r k) (child-good k n hk)) ∙ children-sum k n hk)
    where
      at_case : Good (in_whole f k (suc n)) → pos (number_of (λ c. int_eq (in_child n c) (pos 1)) (children_of r k)) ≡ in_whole f k (suc n)
          → number_of (λ c. int_eq (in_child n c) (pos 1)) (children_of r k) ≡ cond (int_eq (in_whole f k (suc n)) (pos 1)) 1 0
      at_case (inl e) g = pos_is _ 0 (g ∙ e) ∙ ap (λ z. cond (int_eq z (pos 1)) 1 0) (sym e)
      at_case (inr e) g = pos_is _ 1 (g ∙ e) ∙ ap (λ z. cond (int_eq z (pos 1)) 1 0) (sym e)
