use Rattle.std.proofs.Common.{sym, ◌∙◌, arith}
use Rattle.tiling_c.proofs.pairing.relation_of.Goals as goal

pub returns-then-not-have_common : goal.returns-then-not-have_common
returns-then-not-have_common c = record {
  strangers = λ _ h. absurd (cc (sym c.if-not-have_common.true ∙ c.have_common.ensures.1 h));
  same = λ e. absurd (cc e);
  apart = λ e. absurd (cc e);
  beside = λ e. absurd (cc e);
  at_most_3 = omega arith;
}

pub returns-then-are_same : goal.returns-then-are_same
returns-then-are_same c = record {
  strangers = λ e. absurd (cc e);
  same = λ _. (c.have_common.ensures.0 c.if-not-have_common.false, c.are_same.ensures.0 c.if-are_same.true);
  apart = λ e. absurd (cc e);
  beside = λ e. absurd (cc e);
  at_most_3 = omega arith;
}

pub returns-then-is_beside : goal.returns-then-is_beside
returns-then-is_beside c = record {
  strangers = λ e. absurd (cc e);
  same = λ e. absurd (cc e);
  apart = λ e. absurd (cc e);
  beside = λ _. (
    c.have_common.ensures.0 c.if-not-have_common.false,
    λ e. absurd
        (cc (sym c.if-are_same.false ∙ c.are_same.ensures.1 e)),
    c.is_beside.ensures.0 c.if-is_beside.true,
  );
  at_most_3 = omega arith;
}

pub returns-else-is_beside : goal.returns-else-is_beside
returns-else-is_beside c = record {
  strangers = λ e. absurd (cc e);
  same = λ e. absurd (cc e);
  apart = λ _. (
    c.have_common.ensures.0 c.if-not-have_common.false,
    λ e. absurd (cc (sym c.if-are_same.false ∙ c.are_same.ensures.1 e)),
    λ b. absurd (cc (sym c.if-is_beside.false ∙ c.is_beside.ensures.1 b)),
  );
  beside = λ e. absurd (cc e);
  at_most_3 = omega arith;
}
