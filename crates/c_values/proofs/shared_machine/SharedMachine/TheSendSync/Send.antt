-- A handle may go to another thread: what it has is what any thread has.
use mathlib.Core.List.{[]}
use base.Shift.{Keyless}
use denote.RawPtr.{Ptr, block_ptr, null_ptr}
use denote.Param.Send.{IsSend}
use denote.Param.SendFields.{owner_send}
use Rattle.tile_place.proofs.machine.Machine.TheSendSync.{the_sync}
use Rattle.tile_place.specs.contracts.machine.Machine.{the_row as R}
use Rattle.c_values.specs.Shared.{shared_at}
use Rattle.c_values.specs.contracts.shared_machine.SharedMachine.{the_row, the_type}

keyless : (p : Ptr) (x : R.Denot) → Keyless (shared_at R p x)
keyless (block_ptr b o) x = the_sync.shared x b o []
keyless null_ptr x = tt

pub send : IsSend the_row
send = owner_send the_type (record { owned = λ p vs. tt; leaving = λ k x w. tt }, tt) (λ h. keyless h.at h.rule) (λ k x w. tt)
