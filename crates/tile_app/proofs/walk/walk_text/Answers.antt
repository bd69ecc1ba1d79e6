use Rattle.std.proofs.Common.{◌≡◌, ◌≤◌, max, length, sym, ap, ◌∙◌, subst}
use Rattle.std.proofs.lemmas.Result.{err_from_is_err_and}
use Rattle.theory_addresses.specs.Address.{Address, depth}
use Rattle.lazy_walk.specs.Faults.{IsPathFault}
use Rattle.theory_walks.specs.Paths.{CanBeWalked, IsStopped}
use Rattle.rule_model.specs.Tiling.{tiling_of}
use Rattle.tile_app.specs.Walk.{IsWalkText}
use Rattle.tile_app.proofs.Frames.{frame-is, last-is, walking_ends}
use Rattle.tile_app.proofs.Tiles.{begun_depth}
use Rattle.tile_app.proofs.walk.walk_text.Goals as goal

-- the fault of the path, in the frame of the base at depth 64
pub returns-in_err-grow_along-clause-refused : goal.returns-in_err-grow_along-clause-refused
returns-in_err-grow_along-clause-refused g c =
    let t = tiling_of c.args.machine.now in
    let f = c.args.frame.now in
    let path = c.args.path.now in
    let p = err_from_is_err_and c.from_residual.result c.from_residual.ensures.1 in
    let fault = c.in_err-grow_along.field-0.0 in
    let h = subst (λ (b : Address). IsPathFault t b path fault)
    (frame-is t f c.grow_to.new.self c.grow_to.ensures.frame 64)
    c.in_err-grow_along.ensures.fault_at_64 in
    rw (p.1, p.2) (walking_ends t f path fault h)

pub returns-clause-printed : goal.returns-clause-printed
returns-clause-printed g c =
    let t = tiling_of c.args.machine.now in
    let f = c.args.frame.now in
    let h = c.grow_to.new.self in
    let last = c.grow_along.new.self in
    let path = c.args.path.now in
    let deep : length h.digits ≡ max (depth f.base) c.args.grow = c.grow_to.ensures.depth ∙ ap (λ n. max n c.args.grow)
    (begun_depth f c.requires.begun) in
    record {
      walked = subst (λ (b : Address). CanBeWalked t b path) (frame-is t f h c.grow_to.ensures.frame 64) c.in_ok-grow_along.ensures.walked_at_64;
      level = length last.digits;
      at_most_64 = c.in_ok-grow_along.ensures.frame.is_frame.at_most_64;
      no_shallower = subst (λ n. n ≤ length last.digits) deep c.in_ok-grow_along.ensures.frame.no_shallower;
      least = λ n l k. subst (λ (b : Address). IsStopped t b path) (frame-is t f h c.grow_to.ensures.frame n)
          (c.in_ok-grow_along.ensures.least n (subst (λ m. m ≤ n) (sym deep) l) k);
      is_text = subst (λ (b : Address). IsWalkText t b path (c.in_ok-lines.field-0.items))
          (last-is t f h c.grow_to.ensures.frame last c.in_ok-grow_along.ensures.frame) c.in_ok-lines.ensures;
    }
