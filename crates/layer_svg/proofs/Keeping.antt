-- A vertex found among those kept.
use Rattle.std.proofs.Common.{◌≡◌, ℕ, ◌+◌, ◌-◌, ◌++◌, length, take, length-append, arith, Bool, true, false, not, List, refl, ap, ◌∙◌, int_eq}
use Rattle.std.proofs.lemmas.List.{take_at}
use Rattle.std.proofs.lemmas.Bool.Decides.{Decides-int_eq}
use Rattle.std.specs.Cmp.Lexicographic.{pointwise}
use lib.Pointwise.{pointwise_decides}
use Rattle.cyclo_points.specs.declared.point.Point.{Point}

not_other : (b : Bool) → false ≡ not b → b ≡ true
not_other true e = refl
not_other false e = e

pub same_vertex : (p q : Point) → false ≡ not (pointwise int_eq p.c q.c) → p ≡ q
same_vertex p q e = ap (λ cs. record { c = cs }) ((pointwise_decides {E = int_eq} Decides-int_eq p.c q.c).0 (not_other (pointwise int_eq p.c q.c) e))

-- what was put before a text
pub text_before : (after before text : List ℕ) (n : ℕ) → after ≡ text ++ before → n ≡ length after - length before → take n after ≡ text
text_before after before text n e size =
    let long : length after ≡ length text + length before = ap length e ∙ length-append text before in
    ap (λ t. take n t) e ∙ take_at text before n (omega arith)
