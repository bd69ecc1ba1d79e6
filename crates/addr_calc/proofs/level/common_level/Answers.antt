use Rattle.std.proofs.Common.{◌≡◌, ℕ, ◌-◌, Some, sym, ◌∙◌, subst, arith}
use Rattle.theory_addresses.specs.Address.{Address, depth, kind_at}
use Rattle.tile_shape.specs.Views.{address_of}
use Rattle.addr_calc.specs.Level.{AgreeFrom}
use Rattle.addr_calc.proofs.Levels.{agree_from}
use Rattle.addr_calc.proofs.level.common_level.Goals as goal
use Rattle.addr_calc.proofs.level.common_level.Goals.{then-depth-level-via-then-depth-level, then-depth-level-via-else-depth-level+then-kind_at}

-- where the topmost kinds differ, two addresses agree from no level
none : (a b : Address) (top k l : ℕ) → top ≡ depth a → Some k ≡ kind_at a top → Some l ≡ kind_at b top
    → (k ≡ l → ⊥) → (level : ℕ) → AgreeFrom a b level → ⊥
none a b top k l is e f differ level h =
    let at = subst (AgreeFrom a b) (sym is) (agree_from a b level (depth a) h h.exists (omega arith)) in
    let same = e ∙ at.kinds ∙ sym f in
    differ (cc (same))

pub returns-then-depth-level : goal.returns-then-depth-level
returns-then-depth-level c = elim c.then-depth-level.branch [
  | then-depth-level-via-then-depth-level w ↦ λ same. absurd
      (w.if-depth-level.true (c.depth.ensures.seen ∙ sym same ∙ sym c.depth-level.ensures.seen))
  | then-depth-level-via-else-depth-level+then-kind_at w ↦ λ same.
      none (address_of c.args.one.now) (address_of c.args.other.now) c.depth-level.result w.kind_at.result
      w.kind_at-else-depth-level.result c.depth-level.ensures.seen w.kind_at.ensures
      w.kind_at-else-depth-level.ensures w.if-kind_at.true
]

pub returns-else-agree_below : goal.returns-else-agree_below
returns-else-agree_below c = record {
  one_depth = sym c.depth-level.ensures.seen ∙ sym c.if-depth-level.false ∙ c.depth.ensures.seen;
  agree = c.loop-level.invariant.agree;
  least = λ lower l h.
      let below = agree_from (address_of c.args.one.now) (address_of c.args.other.now) lower
      (c.loop-level.level - 1) h (omega (arith, l))
      (let e = c.loop-level.invariant.agree.exists in omega (arith, e)) in
      absurd (cc (c.if-agree_below.ensures.1 below));
}
