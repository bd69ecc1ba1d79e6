use Rattle.std.proofs.Common.{◌<◌, ◌++◌, ◌∷◌, [], List, length, take, get_or, IfSome, refl, sym, ◌∙◌, subst, ◌≤◌, take_all, arith}
use Rattle.std.specs.List.{AllZip}
use Rattle.std.proofs.lemmas.List.{take_more}
use Rattle.std.proofs.lemmas.Option.{slice_get-get_or}
use Rattle.layer_api.specs.declared.drawn.Drawn.{Drawn}
use Rattle.rule_model.specs.Tiling.{tiling_of}
use Rattle.tile_app.specs.Looks.{AreSameTo}
use Rattle.tile_app.specs.Pictured.{picture_of}
use Rattle.tile_app.proofs.SameTexts.{zip-more, lists-same}
use Rattle.tile_app.proofs.put_drawing.put_tiles.Goals as goal

-- no tiles yet
pub loop-place-init : goal.loop-place-init
loop-place-init g c = record {
  begun = c.requires.takes.begun;
  going = c.requires.takes.going;
  seen = refl;
  form = refl;
  drawable = c.stand_in-drawn.ensures c.args.machine.now.order;
  put = record { tiles = []; same = tt; are_drawn = c.requires.takes.none };
}

-- one tile more
pub loop-place-preserved : goal.loop-place-preserved
loop-place-preserved g c =
    let before = c.loop-place.invariant in
    let put = c.in_ok-put_copy.ensures in
    let i = c.loop-place.place in
    let looks = c.args.looks in
    let tiles : List Drawn = picture_of (tiling_of c.args.machine.now) c.args.picture.now in
    let d : Drawn = c.put.new.drawn in
    let below : i < length tiles = subst (λ n. i < n) (c.len-place-end.ensures (tiling_of c.args.machine.now)) c.loop-place-test.true in
    let same : AreSameTo looks d (get_or tiles i d) =
    subst (λ o. IfSome o (AreSameTo looks d)) (slice_get-get_or tiles i d below) c.put.ensures.same in
    record {
      begun = put.begun;
      going = put.open;
      seen = put.seen ∙ before.seen;
      form = put.form ∙ before.form;
      drawable = c.put.ensures.drawable;
      put = record {
        tiles = before.put.tiles ++ d ∷ [];
        same = subst (AllZip (AreSameTo looks) (before.put.tiles ++ d ∷ [])) (sym (take_more tiles i d below))
            (zip-more (AreSameTo looks) before.put.tiles (take i tiles) d (get_or tiles i d) before.put.same same);
        are_drawn = put.ok before.put.tiles before.put.are_drawn;
      };
    }

-- all tiles
pub returns-clause-put : goal.returns-clause-put
returns-clause-put g c =
    let tiles : List Drawn = picture_of (tiling_of c.args.machine.now) c.args.picture.now in
    let put = c.loop-place.invariant.put in
    let all : length tiles ≤ c.loop-place.place =
    subst (λ n. n ≤ c.loop-place.place) (c.len-place-end.ensures (tiling_of c.args.machine.now)) (omega (arith, c.loop-place-test.false)) in
    record {
      tiles = put.tiles;
      same = lists-same c.args.looks put.tiles tiles
          (subst (AllZip (AreSameTo c.args.looks) put.tiles) (take_all c.loop-place.place tiles all) put.same);
      are_drawn = put.are_drawn;
    }

-- ---- and the layer is as it was before, but for them
pub returns-in_err-put_copy-clause-taken : goal.returns-in_err-put_copy-clause-taken
returns-in_err-put_copy-clause-taken g c =
    let before = c.loop-place.invariant in
    let put = c.in_err-put_copy.ensures in
    record { form = put.form ∙ before.form; seen = put.seen ∙ before.seen; begun = put.begun; going = put.open }

pub returns-clause-taken : goal.returns-clause-taken
returns-clause-taken g c =
    let before = c.loop-place.invariant in
    record { form = before.form; seen = before.seen; begun = before.begun; going = before.going }
