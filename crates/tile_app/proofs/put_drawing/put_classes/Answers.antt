use Rattle.std.specs.Prelude.{slice_index}
use Rattle.std.proofs.Common.{◌≡◌, ◌++◌, [], length, replicate, refl, ap, ◌∙◌, subst, arith}
use Rattle.layer_api.specs.declared.drawn.Drawn.{Drawn}
use Rattle.rule_model.specs.Tiling.{tiling_of}
use Rattle.rule_model.specs.Views.{rule_in}
use Rattle.rule_model.specs.declared.rule.Rule.{Rule}
use Rattle.tile_app.proofs.ClassCounts.{ArePutBelow, none-put, class-put, all-put}
use Rattle.tile_app.proofs.put_drawing.put_classes.Goals as goal

-- no class yet
pub loop-class-init : goal.loop-class-init
loop-class-init g c = record {
  begun = c.requires.takes.begun;
  going = c.requires.takes.going;
  seen = refl;
  form = refl;
  drawable = c.stand_in-drawn.ensures c.args.machine.now.order;
  few = omega arith;
  put = record { tiles = []; are = none-put c.counts-counts.result; are_drawn = c.requires.takes.none };
}

-- one class more
pub loop-class-preserved : goal.loop-class-preserved
loop-class-preserved g c =
    let before = c.loop-class.invariant in
    let put = c.in_ok-put_many.ensures in
    let i = c.loop-class.class in
    let d : Drawn = record c.loop-class.drawn { class = i } in
    let n = slice_index c.counts-counts.result c.from.result in
    record {
      begun = put.begun;
      going = put.open;
      seen = put.seen ∙ before.seen;
      form = put.form ∙ before.form;
      drawable = record { three = before.drawable.three; near = before.drawable.near };
      few = omega (arith, c.loop-class-test.true);
      put = record {
        tiles = before.put.tiles ++ replicate n d;
        are = class-put c.counts-counts.result i before.put.tiles d n refl (ap (λ k. slice_index c.counts-counts.result k) c.from.ensures)
            before.put.are;
        are_drawn = put.ok before.put.tiles before.put.are_drawn;
      };
    }

-- all classes
pub returns-clause-put : goal.returns-clause-put
returns-clause-put g c =
    let t = tiling_of c.args.machine.now in
    let before = c.loop-class.invariant in
    let kinds = c.kind_count-kinds.ensures.numbers c.args.machine.now.order
    ∙ ap (λ (r : Rule). length (rule_in c.args.machine.now.order r).kinds) (c.rule.ensures.rule ∙ c.checked.ensures.rule) in
    let all : c.loop-class.class ≡ length t.rule.kinds = omega (arith, kinds, before.few, c.loop-class-test.false) in
    record {
      tiles = before.put.tiles;
      same = all-put t c.args.tiles.now c.counts-counts.result before.put.tiles c.requires.can c.counts-counts.ensures
          (subst (λ k. ArePutBelow c.counts-counts.result k before.put.tiles) all before.put.are);
      are_drawn = before.put.are_drawn;
    }

-- ---- and the layer is as it was before, but for them
pub returns-in_err-put_many-clause-taken : goal.returns-in_err-put_many-clause-taken
returns-in_err-put_many-clause-taken g c =
    let before = c.loop-class.invariant in
    let put = c.in_err-put_many.ensures in
    record { form = put.form ∙ before.form; seen = put.seen ∙ before.seen; begun = put.begun; going = put.open }

pub returns-clause-taken : goal.returns-clause-taken
returns-clause-taken g c =
    let before = c.loop-class.invariant in
    record { form = before.form; seen = before.seen; begun = before.begun; going = before.going }
