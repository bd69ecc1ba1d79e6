-- What the rule of a machine and the laws of a call over its points bring to the steps of the call.
use Rattle.std.proofs.Common.{◌≡◌, ℕ, List, ap, ◌∙◌, subst}
use Rattle.theory_addresses.specs.Address.{Address, Fits}
use Rattle.theory_addresses.specs.Tables.{child_kinds}
use Rattle.cyclo_points.specs.declared.order.Order.{Order}
use Rattle.cyclo_points.specs.Order.{points_of}
use Rattle.theory_frames.specs.Growth.{grown_by}
use Rattle.theory_walks.proofs.Walks.{StillFits}
use Rattle.rule_model.specs.declared.rule.Rule.{Rule}
use Rattle.rule_model.specs.Accepted.{IsAccepted}
use Rattle.rule_model.specs.Tiling.{tiling_of, contacts, children}
use Rattle.rule_model.specs.Usable.{IsUsable}
use Rattle.seeded_growth.specs.Words.{word}
use Rattle.theory_substitution.specs.Points.{Points}
use Rattle.tile_place.proofs.Plane.{IsSettled}
use Rattle.tile_shape.specs.Usable.{AreUsable}
use Rattle.tile_shape.specs.UsesInOrder.{uses_in_order}

-- the laws are `Laws`, of the points of the rule's order
pub record Brings (Laws : Points → Type 0) (m : Rule) : Type 0 where
  pub settled : IsSettled m
  pub fits : StillFits (children (tiling_of m))
  pub laws : Laws (points_of m.order)

pub brought : (Laws : Points → Type 0) (m inside : Rule) (o : Order) (kinds : List (List ℕ)) → inside ≡ m → IsAccepted m → IsUsable m
    → child_kinds (contacts (tiling_of m)) ≡ children (tiling_of m) → kinds ≡ children (tiling_of inside)
    → AreUsable kinds → o ≡ inside.order → Laws (points_of o)
    → ((kinds : List (List ℕ)) (base : Address) (start n : ℕ) → AreUsable kinds → Fits kinds base
    → Fits kinds (grown_by (uses_in_order kinds) (word start) n base)) → Brings Laws m
brought Laws m inside o kinds e accepted usable same k h of laws grown = record {
  settled = record { accepted = accepted; usable = usable; same_child_kinds = same };
  fits = λ base start n fit. grown (children (tiling_of m)) base start n (subst AreUsable (k ∙ ap (λ (r : Rule). children (tiling_of r)) e) h) fit;
  laws = subst (λ q. Laws (points_of q)) (of ∙ ap (λ (r : Rule). r.order) e) laws;
}
