use Rattle.std.proofs.Common.{List, length, map, subst, sym, ap, ◌∙◌, arith}
use Rattle.std.proofs.lemmas.List.{length-map}
use Rattle.theory_addresses.specs.Tables.{Tables, KindTables}
use Rattle.edge_tables.specs.Views.{as_kind_tables}
use Rattle.transducer_core.specs.FlatTables.{kind_rows, IsFlat}
use Rattle.transducer_core.specs.Merged.{IsMerged, AreSpread, AreFilled, last_cell}
use Rattle.transducer_core.specs.Merging.{AreSmall}
use Rattle.transducer_core.specs.Words.{contact_words, part_words}
use Rattle.transducer_core.proofs.FlatCounts.{written_contacts, written_parts, written_kinds, scaled, short_children, small_contacts, small_parts}
use Rattle.transducer_core.proofs.FlatMade.{made}
use Rattle.transducer_core.proofs.flat_table.FlatTable.build.Goals as goal

pub kind_cells-requires-clause-few : goal.kind_cells-requires-clause-few
kind_cells-requires-clause-few c = omega (
  arith,
  c.rows-rows.ensures.coherent.at_most_16_kinds,
  ap
      (λ (l : List KindTables). length l) c.rows-rows.ensures.lists,
  length-map c.rows-rows.result.now.items
      as_kind_tables,
)

pub kind_cells-requires-clause-short : goal.kind_cells-requires-clause-short
kind_cells-requires-clause-short c = short_children c.args.tables.now c.rows-rows.result.now.items
    c.rows-rows.ensures.coherent c.rows-rows.ensures.lists

pub merge-requires : goal.merge-requires
merge-requires c =
    let are = written_contacts c.rows-rows.result.now.items ∙ ap (map (λ (k : KindTables). map contact_words k.contacts)) c.rows-rows.ensures.lists in
    record { small = subst AreSmall (sym are) (small_contacts c.args.tables.now c.rows-rows.ensures.coherent) }

pub merge-requires-2 : goal.merge-requires-2
merge-requires-2 c =
    let are = written_parts c.rows-rows.result.now.items ∙ ap (map (λ (k : KindTables). map part_words k.parts)) c.rows-rows.ensures.lists in
    record { small = subst AreSmall (sym are) (small_parts c.args.tables.now c.rows-rows.ensures.coherent) }

pub invariant_of-result : goal.invariant_of-result
invariant_of-result c =
    let t = c.args.tables.now in
    let coherent = c.rows-rows.ensures.coherent in
    let contacts_are = written_contacts c.rows-rows.result.now.items
    ∙ ap (map (λ (k : KindTables). map contact_words k.contacts)) c.rows-rows.ensures.lists in
    let parts_are = written_parts c.rows-rows.result.now.items ∙ ap (map (λ (k : KindTables). map part_words k.parts)) c.rows-rows.ensures.lists in
    let contacts = subst (λ rows. IsMerged rows c.in_ok-contacts.contacts.starts.items
    c.in_ok-contacts.contacts.words.items c.in_ok-contacts.contacts.count) contacts_are
    c.in_ok-contacts.ensures in
    let parts = subst (λ rows. IsMerged rows c.in_ok-parts.parts.starts.items c.in_ok-parts.parts.words.items
    c.in_ok-parts.parts.count) parts_are c.in_ok-parts.ensures in
    let kinds : AreSpread (kind_rows t) c.in_ok-child_kinds.child_kinds.items =
    subst (λ rows. AreSpread rows c.in_ok-child_kinds.child_kinds.items)
    (written_kinds c.rows-rows.result.now.items
    ∙ ap (λ (ks : List KindTables). map (λ (k : KindTables). map last_cell k.children) ks)
    c.rows-rows.ensures.lists ∙ sym (scaled t.kinds)) c.in_ok-child_kinds.ensures.spread in
    let filled : AreFilled (kind_rows t) c.in_ok-child_kinds.child_kinds.items =
    subst (λ rows. AreFilled rows c.in_ok-child_kinds.child_kinds.items)
    (written_kinds c.rows-rows.result.now.items
    ∙ ap (λ (ks : List KindTables). map (λ (k : KindTables). map last_cell k.children) ks)
    c.rows-rows.ensures.lists ∙ sym (scaled t.kinds)) c.in_ok-child_kinds.ensures.filled in
    let view = made t c.in_ok-lists.lists c.in_ok-contacts.contacts c.in_ok-parts.parts coherent c.in_ok-lists.ensures contacts parts in
    subst (λ (u : Tables). IsFlat u c.in_ok-lists.lists c.in_ok-child_kinds.child_kinds c.in_ok-contacts.contacts c.in_ok-parts.parts) (sym view)
    (record {
      coherent = coherent;
      lists_at = c.in_ok-lists.ensures;
      kinds_at = kinds;
      kinds_filled = filled;
      contacts_at = contacts;
      parts_at = parts;
    })

pub returns-clause-tables : goal.returns-clause-tables
returns-clause-tables c =
    let contacts_are = written_contacts c.rows-rows.result.now.items
    ∙ ap (map (λ (k : KindTables). map contact_words k.contacts)) c.rows-rows.ensures.lists in
    let parts_are = written_parts c.rows-rows.result.now.items ∙ ap (map (λ (k : KindTables). map part_words k.parts)) c.rows-rows.ensures.lists in
    made c.args.tables.now c.in_ok-lists.lists c.in_ok-contacts.contacts c.in_ok-parts.parts c.rows-rows.ensures.coherent c.in_ok-lists.ensures
    (subst (λ rows. IsMerged rows c.in_ok-contacts.contacts.starts.items c.in_ok-contacts.contacts.words.items
    c.in_ok-contacts.contacts.count) contacts_are c.in_ok-contacts.ensures)
    (subst (λ rows. IsMerged rows c.in_ok-parts.parts.starts.items c.in_ok-parts.parts.words.items
    c.in_ok-parts.parts.count) parts_are c.in_ok-parts.ensures)
