use Rattle.std.proofs.Common.{◌≡◌, ◌<◌, ℕ, Some}
use Rattle.theory_addresses.specs.Contact.{inner}
use Rattle.theory_addresses.specs.Tables.{contact_of}
use Rattle.pair_machine.proofs.itself.meets_itself.Given as goal

abbrev pub invariant-loop-edge : goal.invariant-loop-edge
invariant-loop-edge l = (e f : ℕ) → e < l.edge → contact_of l.tables l.kind l.child e ≡ Some (inner l.child f) → ⊥
