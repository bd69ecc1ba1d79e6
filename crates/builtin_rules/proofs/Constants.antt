-- The constants of the code are the rules as they are written down, with the contact tables of their geometry, by evaluation.
use Rattle.std.proofs.Common.{◌≡◌, ◌≤◌, true, ℕ, List, length, nat_le, nat_lt, IsTrue, refl, subst, ap, sym, ◌∙◌, lit≤}
use Rattle.std.specs.List.{list_all, range_with_len}
use Rattle.theory_addresses.specs.CoherenceTest.{coherence_test}
use Rattle.theory_addresses.specs.Tables as tables
use Rattle.theory_addresses.specs.Tables.{Tables}
use Rattle.tile_shape.specs.Usable.{AreUsable, is_child_kind}
use Rattle.rule_model.specs.Tiling.{tiling_listed, children}
use Rattle.builtin_rules.specs.declared.name.Name.{Name}
use Rattle.builtin_rules.specs.declared.name.Name.TheVariants.{Chair, P2, P3, AmmannBeenker, HalfHex}
use Rattle.builtin_rules.specs.declared.chair.TheConstants as chair
use Rattle.builtin_rules.specs.declared.p2.TheConstants as p2
use Rattle.builtin_rules.specs.declared.p3.TheConstants as p3
use Rattle.builtin_rules.specs.declared.ammann_beenker.TheConstants as ammann_beenker
use Rattle.builtin_rules.specs.declared.half_hex.TheConstants as half_hex
use Rattle.builtin_rules.specs.Named.{named, contacts_named}
use Rattle.builtin_rules.specs.Numbers.{RuleBy, Fixed}
use Rattle.builtin_rules.specs.Written.{written}
use Rattle.builtin_rules.specs.WrittenTables.{written_tables}

-- the constant of a name
abbrev pub constant : Name → RuleBy Fixed
constant Chair = chair.NUMBERS
constant P2 = p2.NUMBERS
constant P3 = p3.NUMBERS
constant AmmannBeenker = ammann_beenker.NUMBERS
constant HalfHex = half_hex.NUMBERS

-- it has the numbers of the rule
pub its_numbers : (name : Name) → written (constant name) ≡ named name
its_numbers Chair = refl
its_numbers P2 = refl
its_numbers P3 = refl
its_numbers AmmannBeenker = refl
its_numbers HalfHex = refl

-- the contact tables beside them are those of the geometry
pub its_contacts : (name : Name) → written_tables (constant name) ≡ contacts_named name
unfolding contacts_named
its_contacts Chair = refl
its_contacts P2 = refl
its_contacts P3 = refl
its_contacts AmmannBeenker = refl
its_contacts HalfHex = refl

passes : (name : Name) → coherence_test (written_tables (constant name)) ≡ true
unfolding tables.kind_tables tables.type_of tables.child_kind_of tables.contacts_of tables.parts_of
    tables.contact_of tables.part_of tables.mate_of tables.subs_of tables.child_type_of
passes Chair = refl
passes P2 = refl
passes P3 = refl
passes AmmannBeenker = refl
passes HalfHex = refl

pub coherent : (name : Name) → coherence_test (contacts_named name) ≡ true
coherent name = subst (λ (t : Tables). coherence_test t ≡ true) (its_contacts name) (passes name)

-- the child kinds of the tables are those of the rule
same_kinds : (name : Name) → tables.child_kinds (written_tables (constant name)) ≡ children (tiling_listed (named name))
same_kinds Chair = refl
same_kinds P2 = refl
same_kinds P3 = refl
same_kinds AmmannBeenker = refl
same_kinds HalfHex = refl

pub its_kinds : (name : Name) → tables.child_kinds (contacts_named name) ≡ children (tiling_listed (named name))
its_kinds name = sym (ap tables.child_kinds (its_contacts name)) ∙ same_kinds name

seen : (children : List (List ℕ)) → 1 ≤ length children → length children ≤ 16 → IsTrue (list_all (λ row. nat_le 1 (length row)) children)
    → IsTrue (list_all (λ row. nat_le (length row) 16) children)
    → IsTrue (list_all (λ row. list_all (λ kind. nat_lt kind (length children)) row) children)
    → IsTrue (list_all (λ kind. is_child_kind children kind) (range_with_len 0 (length children))) → AreUsable children
seen children a b c d e f = record { some_kind = a; at_most_16_kinds = b; some_child = c; at_most_16_children = d; each_exists = e; each_used = f }

-- the child kinds of each rule are usable, as is seen of its numbers
pub rows_usable : (name : Name) → AreUsable (children (tiling_listed (named name)))
rows_usable Chair = seen _ (lit≤ tt) (lit≤ tt) refl refl refl refl
rows_usable P2 = seen _ (lit≤ tt) (lit≤ tt) refl refl refl refl
rows_usable P3 = seen _ (lit≤ tt) (lit≤ tt) refl refl refl refl
rows_usable AmmannBeenker = seen _ (lit≤ tt) (lit≤ tt) refl refl refl refl
rows_usable HalfHex = seen _ (lit≤ tt) (lit≤ tt) refl refl refl refl

pub usable : (name : Name) → AreUsable (tables.child_kinds (contacts_named name))
usable name = subst AreUsable (sym (its_kinds name)) (rows_usable name)
