use Rattle.std.proofs.Common.{◌≡◌, ◌∙◌, ◌<◌, ℕ, List, [], ◌∷◌, ◌++◌, length, map, Some, None, ap, arith}
use Rattle.std.proofs.lemmas.List.{length-map, map-append}
use Rattle.pair_machine.specs.Alike.{row_key}
use Rattle.pair_machine.specs.Nodes.{RowPair, row_of}
use Rattle.pair_machine.specs.Numbers.{width_of}
use Rattle.pair_machine.specs.Views.{as_node, as_row_pair}
use Rattle.pair_machine.proofs.Finding.{node_small}
use Rattle.pair_machine.proofs.KeptOnce.{place_old, place_new, indexed_new}
use Rattle.pair_machine.proofs.Places.{read_at}
use Rattle.pair_machine.proofs.KeyRows.{key_within}
use Rattle.pair_machine.proofs.rows.Rows.number_of.Goals as goal

pub key-key-requires-clause-mine : goal.key-key-requires-clause-mine
key-key-requires-clause-mine c = omega (
  arith,
  (node_small c.args.tables.now (as_node c.args.node) c.requires.coherent c.requires.node).mine,
  c.requires.indexed.firsts_are.size,
)

pub key-key-requires-clause-theirs : goal.key-key-requires-clause-theirs
key-key-requires-clause-theirs c = omega (
  arith,
  (node_small c.args.tables.now (as_node c.args.node) c.requires.coherent c.requires.node).theirs,
  c.requires.indexed.firsts_are.size,
)

pub index-requires : goal.index-requires
index-requires c =
    let key : c.key-key.result ≡ row_key (width_of c.args.tables.now) c.args.self.now.firsts.items (as_node c.args.node) =
    c.key-key.ensures ∙ ap (λ (w : ℕ). row_key w c.args.self.now.firsts.items (as_node c.args.node)) c.width.ensures.width in
    let within = key_within c.args.tables.now c.args.self.now.firsts.items (as_node c.args.node)
    c.requires.coherent c.requires.indexed.firsts_are c.requires.node in
    omega (arith, key, within, c.requires.indexed.size)

pub index_mut-requires : goal.index_mut-requires
index_mut-requires c =
    let key : c.key-key.result ≡ row_key (width_of c.args.tables.now) c.args.self.now.firsts.items (as_node c.args.node) =
    c.key-key.ensures ∙ ap (λ (w : ℕ). row_key w c.args.self.now.firsts.items (as_node c.args.node)) c.width.ensures.width in
    let within = key_within c.args.tables.now c.args.self.now.firsts.items (as_node c.args.node)
    c.requires.coherent c.requires.indexed.firsts_are c.requires.node in
    omega (arith, key, within, c.requires.indexed.size)

pub returns-in-Some-clause-kept : goal.returns-in-Some-clause-kept
returns-in-Some-clause-kept c =
    let key : c.key-key.result ≡ row_key (width_of c.args.tables.now) c.args.self.now.firsts.items (as_node c.args.node) =
    c.key-key.ensures ∙ ap (λ (w : ℕ). row_key w c.args.self.now.firsts.items (as_node c.args.node)) c.width.ensures.width in
    let within = key_within c.args.tables.now c.args.self.now.firsts.items (as_node c.args.node)
    c.requires.coherent c.requires.indexed.firsts_are c.requires.node in
    let inside : row_key (width_of c.args.tables.now) c.args.self.now.firsts.items (as_node c.args.node) <
    length c.args.self.now.places.items = omega (arith, within, c.requires.indexed.size) in
    let at = read_at c.args.self.now.places.items
    (row_key (width_of c.args.tables.now) c.args.self.now.firsts.items (as_node c.args.node))
    c.key-key.result c.index.result.now (Some c.in-Some.place) inside key c.index.ensures c.in-Some.is in
    place_old c.args.tables.now c.args.self.now.firsts.items c.args.self.now.places.items
    (map (λ r. map as_row_pair r.items) c.args.self.now.list.items) (as_node c.args.node) c.in-Some.place
    c.requires.coherent c.requires.indexed c.requires.node at

pub returns-clause-indexed : goal.returns-clause-indexed
returns-clause-indexed c =
    let key : c.key-key.result ≡ row_key (width_of c.args.tables.now) c.args.self.now.firsts.items (as_node c.args.node) =
    c.key-key.ensures ∙ ap (λ (w : ℕ). row_key w c.args.self.now.firsts.items (as_node c.args.node)) c.width.ensures.width in
    let within = key_within c.args.tables.now c.args.self.now.firsts.items (as_node c.args.node)
    c.requires.coherent c.requires.indexed.firsts_are c.requires.node in
    let inside : row_key (width_of c.args.tables.now) c.args.self.now.firsts.items (as_node c.args.node) <
    length c.args.self.now.places.items = omega (arith, within, c.requires.indexed.size) in
    let at = read_at c.args.self.now.places.items
    (row_key (width_of c.args.tables.now) c.args.self.now.firsts.items (as_node c.args.node))
    c.key-key.result c.index.result.now None inside key c.index.ensures c.in_default.is in
    let more : map (λ r. map as_row_pair r.items) c.push.new.self.items ≡ map (λ r. map as_row_pair r.items)
    c.args.self.now.list.items ++ row_of c.args.tables.now (as_node c.args.node) ∷ [] =
    ap (map (λ r. map as_row_pair r.items)) c.in_ok-push.ensures.items
    ∙ map-append (λ r. map as_row_pair r.items) c.args.self.now.list.items (c.in_ok-row_of.field-0 ∷ [])
    ∙ ap (λ (row : List RowPair). map (λ r. map as_row_pair r.items) c.args.self.now.list.items ++ row ∷ []) c.in_ok-row_of.ensures in
    let end : c.len-place.result ≡ length (map (λ r. map as_row_pair r.items) c.args.self.now.list.items)
    = omega (
      arith,
      length-map c.args.self.now.list.items (λ r. map as_row_pair r.items),
      c.len-place.ensures,
    ) in
    rw (more, key)
    (indexed_new c.args.tables.now c.args.self.now.firsts.items c.args.self.now.places.items
    (map (λ r. map as_row_pair r.items) c.args.self.now.list.items) (as_node c.args.node)
    c.len-place.result
    c.requires.coherent c.requires.indexed c.requires.node at end)

pub returns-clause-kept : goal.returns-clause-kept
returns-clause-kept c =
    let key : c.key-key.result ≡ row_key (width_of c.args.tables.now) c.args.self.now.firsts.items (as_node c.args.node) =
    c.key-key.ensures ∙ ap (λ (w : ℕ). row_key w c.args.self.now.firsts.items (as_node c.args.node)) c.width.ensures.width in
    let within = key_within c.args.tables.now c.args.self.now.firsts.items (as_node c.args.node)
    c.requires.coherent c.requires.indexed.firsts_are c.requires.node in
    let inside : row_key (width_of c.args.tables.now) c.args.self.now.firsts.items (as_node c.args.node) <
    length c.args.self.now.places.items = omega (arith, within, c.requires.indexed.size) in
    let at = read_at c.args.self.now.places.items
    (row_key (width_of c.args.tables.now) c.args.self.now.firsts.items (as_node c.args.node))
    c.key-key.result c.index.result.now None inside key c.index.ensures c.in_default.is in
    let more : map (λ r. map as_row_pair r.items) c.push.new.self.items ≡ map (λ r. map as_row_pair r.items)
    c.args.self.now.list.items ++ row_of c.args.tables.now (as_node c.args.node) ∷ [] =
    ap (map (λ r. map as_row_pair r.items)) c.in_ok-push.ensures.items
    ∙ map-append (λ r. map as_row_pair r.items) c.args.self.now.list.items (c.in_ok-row_of.field-0 ∷ [])
    ∙ ap (λ (row : List RowPair). map (λ r. map as_row_pair r.items) c.args.self.now.list.items ++ row ∷ []) c.in_ok-row_of.ensures in
    let end : c.len-place.result ≡ length (map (λ r. map as_row_pair r.items) c.args.self.now.list.items)
    = omega (
      arith,
      length-map c.args.self.now.list.items (λ r. map as_row_pair r.items),
      c.len-place.ensures,
    ) in
    rw more
    (place_new c.args.tables.now c.args.self.now.firsts.items c.args.self.now.places.items
    (map (λ r. map as_row_pair r.items) c.args.self.now.list.items) (as_node c.args.node)
    c.len-place.result
    c.requires.coherent c.requires.indexed c.requires.node at end)
