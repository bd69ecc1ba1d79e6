-- What a verdict means.
use Rattle.std.specs.Prelude.{◌≡◌, ◌≢◌, List, [], map}
use Rattle.theory_addresses.specs.Address.{Address}
use Rattle.theory_addresses.specs.Tables.{Tables}
use Rattle.pair_machine.specs.Between.{Pair, HaveCommon, IsBetween}
use Rattle.pair_machine.specs.Views.{as_pair}
use Rattle.pair_machine.specs.declared.verdict.Verdict.{Verdict}
use Rattle.pair_machine.specs.declared.verdict.Verdict.TheVariants.{Strangers, Same, Apart, Beside}

-- Strangers: no common supertile. Otherwise Same: one address. Otherwise Apart or Beside: the list of all
-- pairs that touch, empty or not.
abbrev pub IsPairVerdict : Tables → Address → Address → Verdict → Type 0
IsPairVerdict t a b Strangers = HaveCommon a b → ⊥
IsPairVerdict t a b Same = HaveCommon a b × (a ≡ b)
IsPairVerdict t a b Apart = HaveCommon a b × (a ≢ b) × IsBetween t a b []
IsPairVerdict t a b (Beside pairs) = HaveCommon a b × (a ≢ b) × IsBetween t a b (map as_pair pairs.items)
    × (pairs.items ≢ [])

-- the pairs that a verdict names
abbrev pub pairs_of : Verdict → List Pair
pairs_of Strangers = []
pairs_of Same = []
pairs_of Apart = []
pairs_of (Beside pairs) = map as_pair pairs.items
