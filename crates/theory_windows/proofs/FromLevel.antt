-- The one tile across an edge; and from which depth on an edge is inner, and a point held.
use Rattle.std.proofs.Common.{◌≡◌, ◌≤◌, sym, ◌∙◌, subst}
use Rattle.theory_ring.specs.Ring.{Laws}
use Rattle.theory_ring.specs.Sign.{Signed, OrderLaws}
use Rattle.theory_addresses.specs.Search.{IsAmong}
use Rattle.theory_windows.specs.Outlines.{PlaneEdge, edges}
use Rattle.theory_windows.specs.FromLevel.{OneAcross, InnerFromLevel, HeldFromLevel}
use Rattle.theory_windows.proofs.Reverses.{reverse-is}

-- the reverse of an edge is of one tile alone
pub one_across : (S : Signed) (L : Laws S.ops) (O : OrderLaws S) → {T : Type 0} → OneAcross S T
one_across S L O F D e u v x y =
    let same : x.edge ≡ y.edge = reverse-is S L O e x.edge x.back ∙ sym (reverse-is S L O e y.edge y.back) in
    D.one_owner u v x.of_patch y.of_patch y.edge (subst (λ (g : PlaneEdge S). IsAmong g (edges (F.patch.outline u))) same x.among) y.among

pub inner_from_level : (S : Signed) (L : Laws S.ops) (O : OrderLaws S) → {T : Type 0} → InnerFromLevel S T
inner_from_level S L O F D e u across n = (
  λ x. subst (λ v. F.level v ≤ n) (one_across S L O F D e x.0 u (record { of_patch = x.2.0; edge = x.1; among = x.3; back = x.4 }) across) x.2.1,
  λ h. (u, across.edge, (across.of_patch, h), across.among, across.back),
)

-- and a test point belongs to one tile alone
pub held_from_level : {S : Signed} {T : Type 0} → HeldFromLevel S T
held_from_level F D t i p test h n = (
  λ x. subst (λ v. F.level v ≤ n) (D.one_holder x.0 t x.1.0 i p test x.2 h) x.1.1,
  λ l. (t, (i, l), h),
)
