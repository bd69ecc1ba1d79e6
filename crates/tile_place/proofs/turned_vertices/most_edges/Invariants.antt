use Rattle.std.proofs.Common.{ℕ, ◌<◌, IsSome}
use Rattle.theory_addresses.specs.Tables.{type_of}
use Rattle.tile_place.proofs.turned_vertices.most_edges.Given as goal

abbrev pub invariant-loop-kind : goal.invariant-loop-kind
invariant-loop-kind l = record {
  each : (k e : ℕ) → k < l.kind → IsSome (type_of l.tables k e) → e < l.most;
}
