use Rattle.std.proofs.Common.{◌+◌, ◌-◌, ◌≤◌, take, drop, length, ap, ◌∙◌, arith, length-drop}
use Rattle.std.proofs.lemmas.List.{length-map, take_rest}
use Rattle.tile_shape.specs.Views.{step_of, address_of}
use Rattle.theory_frames.specs.Frame.{lifted_in}
use Rattle.theory_walks.specs.Frames.{FrameValue, whole}
use Rattle.theory_walks.proofs.Walks.{on_ok, raised}
use Rattle.lazy_walk.proofs.frame.Frame.raise.Goals as goal

pub returns : goal.returns
returns c =
    let digits = raised c.args.tile.now.digits.items c.self.inside.digits.items c.deref.result.now
    c.try_extend_from_slice.new.self.items c.len.result c.len.ensures.value c.deref.ensures.0
    (on_ok c.try_extend_from_slice.result _ (c.try_extend_from_slice.ensures.variant.1 fits) c.try_extend_from_slice.ensures.ok) in
    (λ i. record { kind = c.args.tile.now.kind; digits = digits i })
    ∙ ap (λ (f : FrameValue). lifted_in (whole f) (address_of c.args.tile.now)) c.self.view_is
  where
    fits : length c.args.tile.now.digits.items + length (take (length c.deref.result.now - c.len.result) (drop c.len.result c.deref.result.now)) ≤ 64
    fits =
        omega (
          arith,
          ap length (take_rest c.deref.result.now c.len.result),
          length-drop c.len.result c.deref.result.now,
          c.len.ensures.value,
          ap length c.deref.ensures.0,
          c.deref.ensures.1,
          c.requires.no_deeper,
          length-map c.args.tile.now.digits.items step_of,
          length-map c.self.inside.digits.items step_of,
          ap (λ (f : FrameValue). length f.digits) c.self.view_is,
        )
