use Rattle.std.proofs.Common.{◌≡◌, ◌++◌, false, length, ap, ◌∙◌, arith, rules}
use Rattle.std.proofs.lemmas.Grind.{common_steps}
use Rattle.std.proofs.lemmas.List.{with_items_is}
use Rattle.std.proofs.lemmas.List.Elements.{All-same}
use Rattle.layer_api.specs.SvgText.{head_text}
use Rattle.layer_svg.specs.Kept.{IsTextKept}
use Rattle.layer_svg.proofs.Writing.{first_put, next_put}
use Rattle.layer_svg.proofs.svg_layer.SvgLayerLayer.put_copy.Goals.{then-is_empty, else-is_empty}
use Rattle.layer_svg.proofs.svg_layer.SvgLayerLayer.put_copy.Goals as goal

pub invariant_of-self : goal.invariant_of-self
invariant_of-self c =
    let size : length c.put_path.new.kept ≡ c.self.inside.kept.len = omega (arith, c.put_path.auto.kept, c.as_mut_slice.ensures.len) in
    let all = All-same (IsTextKept c.self.inside.view) _ _ (with_items_is c.self.inside.kept c.put_path.new.kept size) c.put_path.ensures.kept in
    elim c.if-is_empty.branch [
      | then-is_empty w ↦ rw w.self-inside-is (c.self.invariant.0, all)
      | else-is_empty w ↦ rw w.self-inside-is (c.self.invariant.0, all)
    ]

pub invariant_of-self-2 : goal.invariant_of-self-2
invariant_of-self-2 c =
    let size : length c.put_path.new.kept ≡ c.self.inside.kept.len = omega (arith, c.put_path.auto.kept, c.as_mut_slice.ensures.len) in
    let all = All-same (IsTextKept c.self.inside.view) _ _ (with_items_is c.self.inside.kept c.put_path.new.kept size) c.put_path.ensures.kept in
    elim c.if-is_empty.branch [
      | then-is_empty w ↦ rw w.self-inside-is (c.self.invariant.0, all)
      | else-is_empty w ↦ rw w.self-inside-is (c.self.invariant.0, all)
    ]

pub put_path-requires-clause-kept : goal.put_path-requires-clause-kept
put_path-requires-clause-kept c = All-same (IsTextKept c.self.inside.view) _ _ c.as_mut_slice.ensures.value c.self.invariant.1

pub returns-clause-ok : goal.returns-clause-ok
returns-clause-ok c =
    let s = c.self.inside in
    let line = c.as_bytes.result.now in
    let going : s.ended ≡ false = ap (λ p. p.ended) (c.self.view_is ∙ c.make_places.ensures) ∙ c.requires.open in
    elim c.if-is_empty.branch [
      | then-is_empty w ↦
          rw (w.self-inside-is, ← c.make_places.ensures, ← c.self.view_is)
          (first_put s.view s.ended s.text.items line c.extend_from_slice.new.self.items c.args.tile.now going (search rules)
          (c.as_bytes.ensures ∙ ap (λ t. t.line) w.self-inside-is ∙ w.put_head.ensures ∙ ap (λ t. head_text s.view ++ t) c.put_path.ensures.path)
          (c.in_ok-extend_from_slice.ensures.items ∙ ap (λ t. t.text.items ++ line) w.self-inside-is))
      | else-is_empty w ↦
          rw (w.self-inside-is, ← c.make_places.ensures, ← c.self.view_is)
          (next_put s.view s.ended s.text.items line c.extend_from_slice.new.self.items c.args.tile.now going (λ e. absurd (search rules))
          (c.as_bytes.ensures ∙ ap (λ t. t.line) w.self-inside-is ∙ c.put_path.ensures.path)
          (c.in_ok-extend_from_slice.ensures.items ∙ ap (λ t. t.text.items ++ line) w.self-inside-is))
    ]

pub returns-clause-err : goal.returns-clause-err
returns-clause-err c = grind (arith, common_steps)

pub returns-clause-seen : goal.returns-clause-seen
returns-clause-seen c = grind (arith, common_steps)

pub returns-clause-begun : goal.returns-clause-begun
returns-clause-begun c = grind (arith, common_steps)

pub returns-clause-open : goal.returns-clause-open
returns-clause-open c = grind (arith, common_steps)

pub returns-clause-form : goal.returns-clause-form
returns-clause-form c = grind (arith, common_steps)
