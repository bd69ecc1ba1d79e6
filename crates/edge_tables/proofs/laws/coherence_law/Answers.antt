use Rattle.theory_addresses.proofs.CoherenceTests.{IsCoherent-test}
use Rattle.edge_tables.proofs.laws.coherence_law.Goals as goal

pub returns : goal.returns
returns c = IsCoherent-test
