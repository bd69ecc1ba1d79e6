use Rattle.std.proofs.Common.{◌≡◌, inl, inr, ℕ, false, sym, ap, ◌∙◌, subst, arith, refl}
use Rattle.std.proofs.lemmas.Bool.{cases_lt, false≢true}
use Rattle.theory_substitution.specs.RuleParts.{edge_type}
use Rattle.rule_model.specs.Glue.{is_glued}
use Rattle.rule_model.specs.Views.{rule_of}
use Rattle.rule_model.proofs.rule.Rule.first_glue_edge.Goals as goal

pub loop-edge-preserved : goal.loop-edge-preserved
loop-edge-preserved c e l =
    let r = rule_of c.args.self.now in
    let here : is_glued r (edge_type r c.args.kind c.loop-edge.edge) ≡ false =
    ap (is_glued r) (sym (c.edge_type.ensures.numbers c.args.self.now.order)) ∙ sym c.is_glued.ensures ∙ c.if-is_glued.false in
    elim (cases_lt e c.loop-edge.edge) [
      | inl lt ↦ c.loop-edge.invariant e lt
      | inr ge ↦ let same : c.loop-edge.edge ≡ e = omega arith in subst (λ (e : ℕ). is_glued r (edge_type r c.args.kind e) ≡ false) same here
    ]

pub returns-clause-none : goal.returns-clause-none
returns-clause-none c = (
  λ _ e g. false≢true (sym (c.loop-edge.invariant e
      (omega (
        arith,
        g.exists,
        c.edge_count-edge-end.ensures.numbers c.args.self.now.order,
        c.loop-edge-test.false,
      ))) ∙ g.glued),
  λ _. refl,
)

pub returns-then-is_glued-clause-first : goal.returns-then-is_glued-clause-first
returns-then-is_glued-clause-first c = λ e before g. false≢true (sym (c.loop-edge.invariant e before) ∙ g.glued)
