use Rattle.std.proofs.Common.{◌∷◌, [], ◌++◌, ap, ◌∙◌, ℕ}
use Rattle.transducer_core.proofs.Keeping.{kept_known, kept_fresh}
use Rattle.transducer_core.proofs.merging.keep.Goals as goal

pub returns-in-Some : goal.returns-in-Some
returns-in-Some c = λ blocks block h.
    let h' = rw (← c.as_slice.ensures.value, ← c.as_slice-2.ensures.value) at h in
    let there = c.in-Some.ensures.stands blocks block h' in
    kept_known blocks block c.args.kept.now.words.items c.args.kept.now.ends.items c.truncate.new.self.items
    c.args.last c.in-Some.start h c.truncate.ensures.items there.0 there.1

pub returns-in_ok-push-in-None : goal.returns-in_ok-push-in-None
returns-in_ok-push-in-None c = λ blocks block h.
    let h' = rw (← c.as_slice.ensures.value, ← c.as_slice-2.ensures.value) at h in
    kept_fresh blocks block c.args.kept.now.words.items c.args.kept.now.ends.items c.push.new.self.items
    c.args.last h (c.in_ok-push-in-None.ensures.items
    ∙ ap (λ (n : ℕ). c.args.kept.now.ends.items ++ n ∷ []) (c.len.ensures ∙ c.args.kept.now.words.ok.0))
    (c.in-None.ensures.none blocks block h')
