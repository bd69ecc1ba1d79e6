use Rattle.std.proofs.Common.{◌≡◌, IsFalse, IsTrue}
use Rattle.trial_layers.proofs.kept.put_all.Given as goal

abbrev pub invariant-loop : goal.invariant-loop
invariant-loop l = record {
  begun : IsTrue l.layer.begun;
  going : IsFalse l.layer.ended;
  seen : l.layer.view ≡ l.fn.layer.view;
}
