-- A walk that goes on.
use Rattle.std.proofs.Common.{[], refl, sym, ◌∙◌, subst, append-nil}
use Rattle.theory_walks.specs.Frames.{FrameValue}
use Rattle.list_verify.specs.declared.found_lines.FoundLines.{FoundLines}
use Rattle.list_verify.specs.declared.list_fault.ListFault.{ListFault}
use Rattle.list_verify.specs.declared.walk.Walk.{Walk}
use Rattle.list_verify.specs.Walk.{IsUnderWay, WalkGoesOn, Stops}
use Rattle.list_verify.proofs.Edges.{more-more}

-- on its way it has gone on from where it is
pub stands : (walk : Walk) (f : FrameValue) (a : FoundLines) → IsUnderWay walk f a → WalkGoesOn walk f f a a
stands walk f a way = record { stays = refl; more = ([], sym (append-nil a.lines.items)); under_way = way }

module _ (walk : Walk) (f g : FrameValue) (a b : FoundLines) (on : WalkGoesOn walk f g a b) where
  pub now : IsUnderWay walk g b
  now = subst (λ k. IsUnderWay walk k b) (sym on.stays) on.under_way

  -- it goes on further, or stops
  pub further : (h : FrameValue) (c : FoundLines) → WalkGoesOn walk g h b c → WalkGoesOn walk f h a c
  further h c next = record {
    stays = next.stays ∙ on.stays;
    more = more-more a.lines.items b.lines.items c.lines.items on.more next.more;
    under_way = subst (λ k. IsUnderWay walk k c) on.stays next.under_way;
  }

  pub stopped : (h : FrameValue) (fault : ListFault) → Stops walk g h fault → Stops walk f h fault
  stopped h fault s = subst (λ k. Stops walk k h fault) on.stays s
