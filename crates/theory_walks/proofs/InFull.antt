-- Tiles of a frame by the names that they have at depth 64, which growth doesn't change.
use Rattle.std.proofs.Common.{◌≡◌, ℕ, List, length, sym, ap, ◌∙◌, subst, arith, take_all}
use Rattle.theory_addresses.specs.Address.{Address, depth, Fits}
use Rattle.theory_addresses.specs.Tables.{child_kinds}
use Rattle.cyclo_points.specs.Order.{points_of}
use Rattle.theory_dissection.specs.Accepted.{AcceptedRule, NamesTile}
use Rattle.theory_edge_to_edge.specs.Contacts.{tables_of}
use Rattle.theory_frames.specs.Frame.{at_level, IsTileOf}
use Rattle.rule_model.specs.declared.rule.Rule.{Rule}
use Rattle.rule_model.specs.Tiling.{Tiling, tiling_of, children}
use Rattle.theory_substitution.specs.Points.{Points}
use Rattle.tile_place.proofs.Plane.{IsSettled, its_rule}
use Rattle.theory_walks.specs.Ancestors.{full}
use Rattle.theory_walks.specs.Frames.{FrameValue, whole, at_depth, IsFrameOf, GrowsTo}
use Rattle.theory_walks.proofs.Ancestors.{full-later, level-at}
use Rattle.theory_walks.proofs.Lifting.{IsTileOf-later}
use Rattle.theory_walks.proofs.Walks.{StillFits, at_depth-depth, later, whole-fits, GrowsTo-is}

module _ (m : Rule) (settled : IsSettled m) (fits : StillFits (children (tiling_of m))) (f : FrameValue) (is : IsFrameOf (tiling_of m) f) where
  abbrev t : Tiling
  t = tiling_of m

  abbrev P : Points
  P = points_of m.order

  abbrev T : AcceptedRule P
  T = its_rule m settled

  abbrev F : Address
  F = full t f

  abbrev kinds : List (List ℕ)
  kinds = child_kinds (tables_of P T.rule)

  to_full : GrowsTo t f (at_depth t 64 f)
  to_full = later t f 64 is is.at_most_64 (omega arith)

  pub names : NamesTile P T.rule F
  names = subst (λ k. Fits k F) (sym settled.same_child_kinds) (whole-fits t fits (at_depth t 64 f) to_full.is_frame)

  pub deep : depth F ≡ 64
  deep = at_depth-depth t f 64 (omega (arith, is.holds_base, is.at_most_64))

  pub by_tables : (g a : Address) → IsTileOf (children t) g a → IsTileOf kinds g a
  by_tables g a of = subst (λ k. IsTileOf k g a) (sym settled.same_child_kinds) of

  pub tile-full : (a : Address) → IsTileOf (children t) (whole f) a → IsTileOf kinds F a
  tile-full a of = by_tables F a (IsTileOf-later t f (at_depth t 64 f) a to_full is of)

  pub whole-level : at_level F (depth F) ≡ F
  whole-level = λ i. record { kind = F.kind; digits = take_all (depth F) F.digits (omega arith) i }

  pub level-own : at_level F (length f.digits) ≡ whole f
  level-own = level-at t f is (length f.digits) (omega arith) is.at_most_64 ∙ ap whole (sym is.its_digits)

  module _ (g : FrameValue) (h : GrowsTo t f g) where
    pub level-grown : at_level F (length g.digits) ≡ whole g
    level-grown = level-at t f is (length g.digits) h.no_shallower h.is_frame.at_most_64 ∙ ap whole (sym (GrowsTo-is t f g h))

    -- a tile of the frame is one of the frame of its depth
    pub by_level : (a : Address) → IsTileOf (children t) (whole g) a → IsTileOf kinds (at_level F (length g.digits)) a
    by_level a of = subst (λ y. IsTileOf kinds y a) (sym level-grown) (by_tables (whole g) a of)

    pub same-full : full t g ≡ F
    same-full = full-later t f g h
