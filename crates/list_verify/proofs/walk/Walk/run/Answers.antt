use Rattle.std.proofs.Common.{inl, inr, refl, arith}
use Rattle.theory_walks.proofs.Walks.{GrowsTo-self}
use Rattle.list_verify.specs.Walk.{tiling_in}
use Rattle.list_verify.proofs.walk.Walk.run.Goals as goal

pub go-requires-clause-begins : goal.go-requires-clause-begins
go-requires-clause-begins c = record { on_frame = c.requires.on_frame; none = c.in-Ok.ensures }

pub first_unmarked-requires : goal.first_unmarked-requires
first_unmarked-requires c =
    let few = c.requires.on_frame.few in
    let count = c.in-Ok-go.ensures.ended.count in
    record { few = omega (arith, few, count) }

pub returns-in-Err-clause-fault : goal.returns-in-Err-clause-fault
returns-in-Err-clause-fault c = inl (record {
  grows = GrowsTo-self (tiling_in c.args.self.now) c.args.frame.now c.requires.on_frame.lines.frame;
  not_beyond = λ n enough. enough.not_below;
  cause = inl refl;
})

pub returns-in-Err-go-clause-fault : goal.returns-in-Err-go-clause-fault
returns-in-Err-go-clause-fault c = inl c.in-Err-go.ensures.fault

pub returns-clause-fault : goal.returns-clause-fault
returns-clause-fault c = inr (record {
  stays = c.in-Ok-go.ensures.ended.stays;
  stray = record {
    number = c.in-Some.line;
    is = refl;
    centre_found = c.in-Ok-go.ensures.ended.centre_found;
    stray = c.in-Ok-go.ensures.ended.tells.stray c.in-Some.line c.in-Some.ensures.first;
  };
})

pub returns-in-None-clause-right : goal.returns-in-None-clause-right
returns-in-None-clause-right c =
    let h = c.in-Ok-go.ensures.ended.tells.right c.in-None.ensures.none in
    record {
      stays = c.in-Ok-go.ensures.ended.stays;
      right = record { right = h.0; unrefused = h.1; of_order = h.2; centre_found = c.in-Ok-go.ensures.ended.centre_found };
    }
