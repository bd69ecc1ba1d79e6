use Rattle.std.proofs.Common.{◌≡◌, ◌≢◌, ℕ, ◌+◌, ◌<◌, true, false, length, get_or, take, sym, ap, ◌∙◌, arith}
use Rattle.std.specs.Prelude.{nat_eq}
use Rattle.std.specs.List.{list_any}
use Rattle.std.proofs.lemmas.Bool.Decides.{nat_tests}
use Rattle.std.proofs.lemmas.List.Folds.{list_any_at}
use Rattle.theory_substitution.specs.Motion.{still}
use Rattle.theory_substitution.specs.Rule.{Rule, Child, children_of}
use Rattle.theory_edge_to_edge.specs.Uses.{is_used}
use Rattle.cyclo_points.specs.Order.{NumberOf, points_of}
use Rattle.rule_model.specs.Views.{rule_of}
use Rattle.theory_addresses.proofs.BoolLoops.{some_below-found, some_below-more, list_any-step, list_any-end}
use Rattle.dissect_check.proofs.uses.is_used.Goals as goal

equal : (a b : ℕ) → a ≡ b → nat_eq a b ≡ true
equal a b e = grind (arith, nat_tests)

unequal : (a b : ℕ) → a ≢ b → nat_eq a b ≡ false
unequal a b e = grind (arith, nat_tests)

-- n is the kind of child number i of kind p
module _ {A : Type 0} (r : Rule A) (kind p i n : ℕ) (none : Child A)
    (n_is : n ≡ (get_or (children_of r p) i none).kind) (i_in : i < length (children_of r p)) where
  found : p < length r.kinds → n ≡ kind → true ≡ is_used r kind
  found l e =
      sym (some_below-found (λ q. list_any (λ (c : Child A). nat_eq c.kind kind) (children_of r q)) p (length r.kinds)
      (list_any_at (λ (c : Child A). nat_eq c.kind kind) (children_of r p) i none i_in (equal _ kind (sym n_is ∙ e))) l)

  passed : list_any (λ (c : Child A). nat_eq c.kind kind) (take i (children_of r p)) ≡ false → n ≢ kind
      → list_any (λ (c : Child A). nat_eq c.kind kind) (take (i + 1) (children_of r p)) ≡ false
  passed h d = list_any-step (λ (c : Child A). nat_eq c.kind kind) (children_of r p) i none i_in h (unequal _ kind (λ e. d (n_is ∙ e)))

pub returns-then-from-kind : goal.returns-then-from-kind
returns-then-from-kind c =
    let o = c.args.rule.now.order in
    let r = rule_of c.args.rule.now in
    let p = c.loop-parent.parent in
    let i = c.loop-child.child in
    found r c.args.kind p i c.from.result (record { kind = 0; motion = still (points_of o) })
    (c.from.ensures ∙ ap (λ (x : Child (NumberOf o)). x.kind) (c.child.ensures.numbers o))
    (omega (arith, c.child_count-child-end.ensures.numbers o)) (omega (arith, c.kind_count-parent-end.ensures.numbers o)) c.if-from-kind.true

pub loop-child-preserved : goal.loop-child-preserved
loop-child-preserved c =
    let o = c.args.rule.now.order in
    let r = rule_of c.args.rule.now in
    let p = c.loop-parent.parent in
    let i = c.loop-child.child in
    passed r c.args.kind p i c.from.result (record { kind = 0; motion = still (points_of o) })
    (c.from.ensures ∙ ap (λ (x : Child (NumberOf o)). x.kind) (c.child.ensures.numbers o))
    (omega (arith, c.child_count-child-end.ensures.numbers o)) c.loop-child.invariant c.if-from-kind.false

pub loop-parent-preserved : goal.loop-parent-preserved
loop-parent-preserved c =
    let o = c.args.rule.now.order in
    let r = rule_of c.args.rule.now in
    let p = c.loop-parent.parent in
    let of_kind = λ (d : Child (NumberOf o)). nat_eq d.kind c.args.kind in
    some_below-more (λ q. list_any of_kind (children_of r q)) p c.loop-parent.invariant
    (list_any-end of_kind (children_of r p) c.loop-child.child (omega (arith, c.child_count-child-end.ensures.numbers o)) c.loop-child.invariant)
