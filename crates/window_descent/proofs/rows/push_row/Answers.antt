use Rattle.std.proofs.Common.{◌≡◌, ◌+◌, List, [], ◌∷◌, ◌++◌, length, get_or, sym, ap, ◌∙◌, subst}
use Rattle.window_descent.specs.declared.part.Part.{Part}
use Rattle.window_descent.specs.Parts.{IsPartAt}
use Rattle.window_descent.specs.Rows.{IsLonger, only_turned, no_part}
use Rattle.window_descent.proofs.RowsMade.{longer-more, each-more, count-more}
use Rattle.window_descent.proofs.rows.push_row.Goals as goal

pub loop-number-preserved : goal.loop-number-preserved
loop-number-preserved c =
    let inv = c.loop-number.invariant in
    let m = c.args.machine.now in
    let before : List Part = c.args.children.now.items in
    let now : List Part = c.loop-number.children.items in
    let p = c.in-Some.child in
    let i = c.loop-number.number in
    let pushed : c.push.new.self.items ≡ now ++ p ∷ [] = c.in_ok-push-in-Some.ensures.items in
    record {
      longer = subst (IsLonger before) (sym pushed) (longer-more before now p inv.longer);
      count_is = inv.count_is;
      so_far = ap length pushed
          ∙ count-more m c.args.row.kind c.args.row.turn c.args.scale.now before now i inv.so_far p c.in-Some.ensures.part inv.each;
      each = λ k h. subst (λ (ps : List Part). IsPartAt m c.args.row.kind k c.args.scale.now (only_turned c.args.row.turn)
          (get_or ps (length before + k) no_part)) (sym pushed)
          (each-more m c.args.row.kind c.args.row.turn c.args.scale.now before now i inv.so_far p c.in-Some.ensures.part inv.each k h);
    }
