-- From coarse digits to fine: the motion so far, and no value so far refused.
use Rattle.std.proofs.Common.{◌≡◌, ℕ, zero, suc, ◌+◌, ◌<◌, ◌≤◌, true, false, cond, List, [], ◌∷◌, map, drop, length, get_or, Some, None, sym, ap, ◌∙◌, subst, arith}
use Rattle.std.proofs.Math.ListN.{get_or-map}
use Rattle.std.proofs.lemmas.List.{length-map, drop_more, drop_all}
use Rattle.theory_substitution.specs.Motion.{Motion, still}
use Rattle.theory_addresses.specs.Address.{Step}
use Rattle.theory_substitution.specs.Placement.{finer, placement, horner_values}
use Rattle.theory_substitution.specs.RuleParts.{child_of}
use Rattle.cyclo_points.specs.Order.{NumberOf, points_of, is_refused}
use Rattle.tile_shape.specs.declared.step.Step as program
use Rattle.tile_shape.specs.Views.{step_of}
use Rattle.theory_substitution.specs.Rule.{Rule}
use Rattle.cyclo_points.specs.declared.order.Order.{Order}
use Rattle.rule_model.specs.Tiling.{Tiling}
use Rattle.tile_place.specs.Placing.{first_refused}
use Rattle.tile_place.proofs.Values.{find-append_none, find-append_found}

-- the tiling of an order and a rule over its points
abbrev pub tiling : (o : Order) → Rule (NumberOf o) → Tiling
tiling o r = record { order = o; rule = r }

module _ (o : Order) (r : Rule (NumberOf o)) where
  -- the motion after the digits from this level up, none of whose values is refused
  pub record Descends (digits : List Step) (level : ℕ) (m : Motion (NumberOf o)) : Type 0 where
    pub motion : m ≡ placement (points_of o) r (drop level digits)
    pub none : first_refused (tiling o r) (drop level digits) ≡ None

  -- at the coarse end
  pub start : (digits : List Step) (level : ℕ) (m : Motion (NumberOf o)) → length digits ≤ level → m ≡ still (points_of o) → Descends digits level m
  start digits level m l e = record {
    motion = e ∙ ap (placement (points_of o) r) (sym (drop_all level digits l));
    none = ap (first_refused (tiling o r)) (drop_all level digits l);
  }

  -- one digit finer: the value found decides
  value_decides : (digits : List Step) (level : ℕ) (d : Step) (m n : Motion (NumberOf o)) → level < length digits → Descends digits (level + 1) m
      → n ≡ finer (points_of o) r m (child_of (points_of o) r (get_or digits level d).parent (get_or digits level d).child).motion
      → (n ≡ placement (points_of o) r (drop level digits))
      × (first_refused (tiling o r) (drop level digits) ≡ cond (is_refused o n.shift) (Some n.shift) None)
  value_decides digits level d m n l h e = (
    whole ∙ ap (placement (points_of o) r) (sym split),
    ap (first_refused (tiling o r)) split ∙ find-append_none (is_refused o) (horner_values (points_of o) r (drop (level + 1) digits)) _ h.none
        ∙ ap (λ (g : Motion (NumberOf o)). cond (is_refused o g.shift) (Some g.shift) None) (sym whole),
  )
    where
      split : drop level digits ≡ get_or digits level d ∷ drop (level + 1) digits
      split = drop_more digits level d l

      whole : n ≡ placement (points_of o) r (get_or digits level d ∷ drop (level + 1) digits)
      whole = e ∙ ap (λ (g : Motion (NumberOf o)). finer (points_of o) r g
          (child_of (points_of o) r (get_or digits level d).parent (get_or digits level d).child).motion)
          h.motion

  pub Descends-finer : (digits : List Step) (level : ℕ) (d : Step) (m n : Motion (NumberOf o)) → level < length digits → Descends digits (level + 1) m
      → n ≡ finer (points_of o) r m (child_of (points_of o) r (get_or digits level d).parent
      (get_or digits level d).child).motion → is_refused o n.shift ≡ false → Descends digits level n
  Descends-finer digits level d m n l h e f =
      let v : (n ≡ placement (points_of o) r (drop level digits))
      × (first_refused (tiling o r) (drop level digits) ≡ cond (is_refused o n.shift) (Some n.shift) None)
      = value_decides digits level d m n l h e in
      record { motion = v.0; none = v.1 ∙ ap (λ b. cond b (Some n.shift) None) f }

  -- what is found among the coarse digits' values is found among all
  first_refused-drop : (digits : List Step) (level : ℕ) (v : NumberOf o)
      → first_refused (tiling o r) (drop level digits) ≡ Some v → first_refused (tiling o r) digits ≡ Some v
  first_refused-drop [] zero v e = e
  first_refused-drop [] (suc level) v e = e
  first_refused-drop (d ∷ ds) zero v e = e
  first_refused-drop (d ∷ ds) (suc level) v e = find-append_found (is_refused o)
      (horner_values (points_of o) r ds) _ v (first_refused-drop ds level v e)

  pub first_refused-finer : (digits : List Step) (level : ℕ) (d : Step) (m n : Motion (NumberOf o))
      → level < length digits → Descends digits (level + 1) m
      → n ≡ finer (points_of o) r m (child_of (points_of o) r (get_or digits level d).parent
      (get_or digits level d).child).motion → is_refused o n.shift ≡ true
      → first_refused (tiling o r) digits ≡ Some n.shift
  first_refused-finer digits level d m n l h e f =
      let v : (n ≡ placement (points_of o) r (drop level digits))
      × (first_refused (tiling o r) (drop level digits) ≡ cond (is_refused o n.shift) (Some n.shift) None)
      = value_decides digits level d m n l h e in
      first_refused-drop digits level n.shift (v.1 ∙ ap (λ b. cond b (Some n.shift) None) f)

  -- the digit at a level of the program's address, from the level above it to that level
  pub record Goes (digits : List program.Step) (level : ℕ) (n : Motion (NumberOf o)) : Type 0 where
    pub on : is_refused o n.shift ≡ false → Descends (map step_of digits) level n
    pub out : is_refused o n.shift ≡ true → first_refused (tiling o r) (map step_of digits) ≡ Some n.shift

  pub Goes-finer : (digits : List program.Step) (above level : ℕ) (d : program.Step)
      (m n : Motion (NumberOf o)) → above ≡ level + 1 → above ≤ length digits
      → Descends (map step_of digits) above m → n ≡ finer (points_of o) r m
      (child_of (points_of o) r (step_of (get_or digits level d)).parent
      (step_of (get_or digits level d)).child).motion → Goes digits level n
  Goes-finer digits above level d m n e l h f =
      let g : level < length (map step_of digits) = omega (arith, length-map digits step_of) in
      let k : Descends (map step_of digits) (level + 1) m = subst (λ i. Descends (map step_of digits) i m) e h in
      let w : n ≡ finer (points_of o) r m (child_of (points_of o) r
      (get_or (map step_of digits) level (step_of d)).parent
      (get_or (map step_of digits) level (step_of d)).child).motion =
      f ∙ ap (λ s. finer (points_of o) r m (child_of (points_of o) r s.parent s.child).motion) (sym (get_or-map step_of digits level d)) in
      record {
        on = Descends-finer (map step_of digits) level (step_of d) m n g k w;
        out = first_refused-finer (map step_of digits) level (step_of d) m n g k w;
      }
