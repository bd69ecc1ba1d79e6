-- Where an edge of a tile lies on the edge of a supertile.
use Rattle.std.specs.Prelude.{◌≡◌, ℕ, List, [], ◌∷◌, ◌++◌, Some}
use Rattle.theory_addresses.specs.Address.{Step, Address}
use Rattle.theory_addresses.specs.Contact.{outer}
use Rattle.theory_addresses.specs.Tables.{Tables, contact_of, part_count}

-- a place on an edge that is cut: the number of the part, and how many parts there are
pub record Cut : Type 0 where
  pub part : ℕ
  pub parts : ℕ

-- Edge e of the tile with these digits has the trace (top, cuts), the coarsest cut first. Without digits it
-- has the trace (e, no cuts). Let it have the trace (E, cuts), and let the contact of child c, edge E in kind
-- K be outer {F, p}. Then with the further digit (c, K) it has the trace (F, p followed by the cuts).
-- Otherwise there is none.
pub data IsTrace (t : Tables) (e : ℕ) : List Step → ℕ → List Cut → Type 0 where
  bare : IsTrace t e [] e []
  further : {fine digits : List Step} {own f p : ℕ} {cuts : List Cut} (d : Step)
      → IsTrace t e fine own cuts
      → digits ≡ fine ++ d ∷ []
      → contact_of t d.parent d.child own ≡ Some (outer f p)
      → IsTrace t e digits f (record { part = p; parts = part_count t d.parent f } ∷ cuts)

-- the address with edge e has that trace
abbrev pub HasTrace : Tables → Address → ℕ → ℕ → List Cut → Type 0
HasTrace t a e top cuts = IsTrace t e a.digits top cuts

-- the part of the supertile's own edge; 0 if the tile is the supertile
abbrev pub first_part : List Cut → ℕ
first_part [] = 0
first_part (c ∷ cuts) = c.part
