use Rattle.std.proofs.Common.{◌≡◌, sym, ap, ◌∙◌}
use Rattle.std.proofs.lemmas.Bool.{lt-ltb}
use Rattle.tile_place.specs.Keys.{are_level}
use Rattle.half_glue.proofs.Searching.{found-there, place_of}
use Rattle.half_glue.proofs.look_up.number_of.Goals.{in-Ok, in-Err}
use Rattle.half_glue.proofs.look_up.number_of.Goals as goal

pub returns-in_err-key-clause-none : goal.returns-in_err-key-clause-none
returns-in_err-key-clause-none c = λ e number there.
    let place : c.match-binary_search.place ≡ place_of c.binary_search.result = elim
    c.match-binary_search.branch [
      | in-Ok w ↦ w.place-is
          ∙ sym (ap place_of w.in-Ok.is)
      | in-Err w ↦ w.place-is ∙ sym (ap place_of w.in-Err.is)
    ] in
    let h = found-there c.args.motion.now c.args.kind c.of-sought.result c.of-sought.ensures c.args.keys.now
    c.requires.sorted number there c.binary_search.result c.binary_search.ensures.bound
    c.binary_search.ensures.ok c.binary_search.ensures.position
    c.match-binary_search.place place in
    absurd (cc (c.in_err-key.ensures.lookup.0 ∙ lt-ltb _ _ h.0))

pub returns-else-is_level-clause-none : goal.returns-else-is_level-clause-none
returns-else-is_level-clause-none c = λ e number there.
    let place : c.match-binary_search.place ≡ place_of c.binary_search.result = elim
    c.match-binary_search.branch [
      | in-Ok w ↦ w.place-is
          ∙ sym (ap place_of w.in-Ok.is)
      | in-Err w ↦ w.place-is ∙ sym (ap place_of w.in-Err.is)
    ] in
    let h = found-there c.args.motion.now c.args.kind c.of-sought.result c.of-sought.ensures c.args.keys.now
    c.requires.sorted number there c.binary_search.result c.binary_search.ensures.bound
    c.binary_search.ensures.ok c.binary_search.ensures.position
    c.match-binary_search.place place in
    absurd (cc (sym c.if-is_level.false ∙ c.is_level.ensures
    ∙ ap (λ k. are_level k c.of-sought.result) c.in_ok-key.ensures.lookup.1 ∙ h.1 c.in_ok-key.key.now))
