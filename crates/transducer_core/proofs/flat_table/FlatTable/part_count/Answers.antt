use Rattle.std.proofs.Common.{◌+◌, List, ℕ, Some, get_or, subst, sym, ap, ◌∙◌, arith}
use Rattle.theory_addresses.specs.Tables.{Tables}
use Rattle.transducer_core.specs.Flat.{lists_of}
use Rattle.transducer_core.specs.FlatTables.{IsFlat}
use Rattle.transducer_core.specs.Merging.{AreBlocksKept}
use Rattle.transducer_core.proofs.CountsRead.{count_read}
use Rattle.transducer_core.proofs.Standing.{read_at}
use Rattle.transducer_core.proofs.flat_table.FlatTable.part_count.Goals as goal

pub bounds-ends-types : goal.bounds-ends-types
bounds-ends-types c =
    let flat = subst (λ (t : Tables). IsFlat t c.self.inside.lists c.self.inside.child_kinds
    c.self.inside.contacts c.self.inside.parts) c.self.view_is c.self.invariant in
    let lists : AreBlocksKept (lists_of c.args.self.now) c.self.inside.lists.items.items c.as_slice-ends.result.now =
    subst (λ (l : List ℕ). AreBlocksKept (lists_of c.args.self.now) c.self.inside.lists.items.items l) (sym c.as_slice-ends.ensures.value)
    flat.lists_at in
    let r = count_read c.args.self.now c.self.inside.lists.items.items c.as_slice-ends.result.now c.args.kind
    c.args.edge flat.coherent lists c.requires.exists in
    omega (arith, r.number, c.from.ensures)

pub overflow_add-begin-2 : goal.overflow_add-begin-2
overflow_add-begin-2 c =
    let flat = subst (λ (t : Tables). IsFlat t c.self.inside.lists c.self.inside.child_kinds
    c.self.inside.contacts c.self.inside.parts) c.self.view_is c.self.invariant in
    let lists : AreBlocksKept (lists_of c.args.self.now) c.self.inside.lists.items.items c.as_slice-ends.result.now =
    subst (λ (l : List ℕ). AreBlocksKept (lists_of c.args.self.now) c.self.inside.lists.items.items l) (sym c.as_slice-ends.ensures.value)
    flat.lists_at in
    let r = count_read c.args.self.now c.self.inside.lists.items.items c.as_slice-ends.result.now c.args.kind
    c.args.edge flat.coherent lists c.requires.exists in
    rw (c.from.ensures, c.from-2.ensures) (omega (arith, r.place, c.self.inside.lists.items.ok, c.self.inside.lists.items.small))

pub index-requires : goal.index-requires
index-requires c =
    let flat = subst (λ (t : Tables). IsFlat t c.self.inside.lists c.self.inside.child_kinds
    c.self.inside.contacts c.self.inside.parts) c.self.view_is c.self.invariant in
    let lists : AreBlocksKept (lists_of c.args.self.now) c.self.inside.lists.items.items c.as_slice-ends.result.now =
    subst (λ (l : List ℕ). AreBlocksKept (lists_of c.args.self.now) c.self.inside.lists.items.items l) (sym c.as_slice-ends.ensures.value)
    flat.lists_at in
    let r = count_read c.args.self.now c.self.inside.lists.items.items c.as_slice-ends.result.now c.args.kind
    c.args.edge flat.coherent lists c.requires.exists in
    rw (c.from.ensures, c.from-2.ensures) (omega (arith, r.place, c.self.inside.lists.items.ok))

pub bounds-ends-ty : goal.bounds-ends-ty
bounds-ends-ty c =
    let flat = subst (λ (t : Tables). IsFlat t c.self.inside.lists c.self.inside.child_kinds
    c.self.inside.contacts c.self.inside.parts) c.self.view_is c.self.invariant in
    let lists : AreBlocksKept (lists_of c.args.self.now) c.self.inside.lists.items.items c.as_slice-ends.result.now =
    subst (λ (l : List ℕ). AreBlocksKept (lists_of c.args.self.now) c.self.inside.lists.items.items l) (sym c.as_slice-ends.ensures.value)
    flat.lists_at in
    let r = count_read c.args.self.now c.self.inside.lists.items.items c.as_slice-ends.result.now c.args.kind
    c.args.edge flat.coherent lists c.requires.exists in
    let read = read_at c.self.inside.lists.items.items
    (get_or c.as_slice-ends.result.now (get_or c.as_slice-ends.result.now 0 0 + c.args.kind) 0 +
    c.args.edge) c.index.result.now r.place (rw (c.from.ensures, c.from-2.ensures) at c.index.ensures)
    ∙ ap Some (sym c.from-ty.ensures) in
    omega (arith, r.type_in c.from-ty.result read)

pub bounds-ends-ty-2 : goal.bounds-ends-ty-2
bounds-ends-ty-2 c =
    let flat = subst (λ (t : Tables). IsFlat t c.self.inside.lists c.self.inside.child_kinds
    c.self.inside.contacts c.self.inside.parts) c.self.view_is c.self.invariant in
    let lists : AreBlocksKept (lists_of c.args.self.now) c.self.inside.lists.items.items c.as_slice-ends.result.now =
    subst (λ (l : List ℕ). AreBlocksKept (lists_of c.args.self.now) c.self.inside.lists.items.items l) (sym c.as_slice-ends.ensures.value)
    flat.lists_at in
    let r = count_read c.args.self.now c.self.inside.lists.items.items c.as_slice-ends.result.now c.args.kind
    c.args.edge flat.coherent lists c.requires.exists in
    let read = read_at c.self.inside.lists.items.items
    (get_or c.as_slice-ends.result.now (get_or c.as_slice-ends.result.now 0 0 + c.args.kind) 0 +
    c.args.edge) c.index.result.now r.place (rw (c.from.ensures, c.from-2.ensures) at c.index.ensures)
    ∙ ap Some (sym c.from-ty.ensures) in
    r.type_in c.from-ty.result read

pub overflow_sub-result : goal.overflow_sub-result
overflow_sub-result c =
    let flat = subst (λ (t : Tables). IsFlat t c.self.inside.lists c.self.inside.child_kinds
    c.self.inside.contacts c.self.inside.parts) c.self.view_is c.self.invariant in
    let lists : AreBlocksKept (lists_of c.args.self.now) c.self.inside.lists.items.items c.as_slice-ends.result.now =
    subst (λ (l : List ℕ). AreBlocksKept (lists_of c.args.self.now) c.self.inside.lists.items.items l) (sym c.as_slice-ends.ensures.value)
    flat.lists_at in
    let r = count_read c.args.self.now c.self.inside.lists.items.items c.as_slice-ends.result.now c.args.kind
    c.args.edge flat.coherent lists c.requires.exists in
    let read = read_at c.self.inside.lists.items.items
    (get_or c.as_slice-ends.result.now (get_or c.as_slice-ends.result.now 0 0 + c.args.kind) 0 +
    c.args.edge) c.index.result.now r.place (rw (c.from.ensures, c.from-2.ensures) at c.index.ensures)
    ∙ ap Some (sym c.from-ty.ensures) in
    omega (arith, r.count c.from-ty.result read)

pub overflow_cast-result : goal.overflow_cast-result
overflow_cast-result c =
    let flat = subst (λ (t : Tables). IsFlat t c.self.inside.lists c.self.inside.child_kinds
    c.self.inside.contacts c.self.inside.parts) c.self.view_is c.self.invariant in
    let lists : AreBlocksKept (lists_of c.args.self.now) c.self.inside.lists.items.items c.as_slice-ends.result.now =
    subst (λ (l : List ℕ). AreBlocksKept (lists_of c.args.self.now) c.self.inside.lists.items.items l) (sym c.as_slice-ends.ensures.value)
    flat.lists_at in
    let r = count_read c.args.self.now c.self.inside.lists.items.items c.as_slice-ends.result.now c.args.kind
    c.args.edge flat.coherent lists c.requires.exists in
    let read = read_at c.self.inside.lists.items.items
    (get_or c.as_slice-ends.result.now (get_or c.as_slice-ends.result.now 0 0 + c.args.kind) 0 +
    c.args.edge) c.index.result.now r.place (rw (c.from.ensures, c.from-2.ensures) at c.index.ensures)
    ∙ ap Some (sym c.from-ty.ensures) in
    omega (arith, r.count c.from-ty.result read, r.few)

pub returns : goal.returns
returns c =
    let flat = subst (λ (t : Tables). IsFlat t c.self.inside.lists c.self.inside.child_kinds
    c.self.inside.contacts c.self.inside.parts) c.self.view_is c.self.invariant in
    let lists : AreBlocksKept (lists_of c.args.self.now) c.self.inside.lists.items.items c.as_slice-ends.result.now =
    subst (λ (l : List ℕ). AreBlocksKept (lists_of c.args.self.now) c.self.inside.lists.items.items l) (sym c.as_slice-ends.ensures.value)
    flat.lists_at in
    let r = count_read c.args.self.now c.self.inside.lists.items.items c.as_slice-ends.result.now c.args.kind
    c.args.edge flat.coherent lists c.requires.exists in
    let read = read_at c.self.inside.lists.items.items
    (get_or c.as_slice-ends.result.now (get_or c.as_slice-ends.result.now 0 0 + c.args.kind) 0 +
    c.args.edge) c.index.result.now r.place (rw (c.from.ensures, c.from-2.ensures) at c.index.ensures)
    ∙ ap Some (sym c.from-ty.ensures) in
    omega (arith, r.count c.from-ty.result read)
