use Rattle.std.proofs.Common.{◌≡◌, ◌*◌, ◌+◌, ◌-◌, ◌∙◌, ◌++◌, ap, refl, drop, map, length, arith}
use Rattle.tile_shape.specs.Text.{digits_text}
use Rattle.tile_shape.specs.Views.{step_of}
use Rattle.layer_api.proofs.Words.{put_back, follows_as_before}
use Rattle.layer_api.proofs.backwards.write_steps.Goals.{then-end-buf+else-is_right, else-end-buf}
use Rattle.layer_api.proofs.backwards.write_steps.Goals as goal

pub returns-then-is_right-clause-written : goal.returns-then-is_right-clause-written
returns-then-is_right-clause-written c =
    put_back (c.args.end + 1 - 4 * length c.args.steps.now) c.args.end c.args.buf.now
    c.write_words-is_right.new.out (digits_text (map step_of c.args.steps.now))
    (c.if-is_right.ensures.written refl) (omega arith) c.if-end-buf.true

pub returns-clause-written : goal.returns-clause-written
returns-clause-written c =
    let follows : drop c.args.end c.if-end-buf.buf ≡ drop c.args.end c.args.buf.now =
    elim c.if-end-buf.branch [
      | then-end-buf+else-is_right w ↦
          ap (λ b. drop c.args.end b) w.buf-is
          ∙ follows_as_before (c.args.end + 1 - 4 * length c.args.steps.now) c.args.end c.args.buf.now
          w.write_words-is_right.new.out (omega arith) w.if-end-buf.true
      | else-end-buf w ↦ ap (λ b. drop c.args.end b) w.buf-is
    ] in
    c.write_each_step.ensures.written ∙ ap (λ t. digits_text (map step_of c.args.steps.now) ++ t) follows
