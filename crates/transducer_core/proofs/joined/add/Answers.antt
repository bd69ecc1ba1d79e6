use Rattle.std.proofs.Common.{◌++◌, List, ℕ, ap, ◌∙◌}
use Rattle.transducer_core.proofs.Keeping.{kept_more}
use Rattle.transducer_core.proofs.joined.add.Goals as goal

pub returns : goal.returns
returns c = λ lists h.
    kept_more lists c.args.list.now.items c.args.joined.now.items.items c.args.joined.now.ends.items
    c.extend_from_slice.new.self.items c.push.new.self.items c.len.result h
    (c.in_ok-extend_from_slice.ensures.items ∙ ap (λ (l : List ℕ). c.args.joined.now.items.items ++ l)
    c.deref.ensures.value) (c.len.ensures ∙ c.extend_from_slice.new.self.ok.0) c.in_ok-push.ensures.items
