use Rattle.std.proofs.Common.{◌≡◌, ℕ, ◌<◌, ◌≤◌, length, Option, Some, sym, ap, ◌∙◌, subst, arith}
use Rattle.listing_text.specs.declared.entry.Entry.{Entry}
use Rattle.tile_shape.specs.Views.{address_of}
use Rattle.list_verify.specs.LineIndex.{bucket_of, buckets_of, last_in}
use Rattle.list_verify.proofs.Chains.{last-some, none-left, onward, next-link, links, shorter, slice_get-at, get_or-at}
use Rattle.list_verify.proofs.line_index.LineIndex.find_from.Goals as goal

below : (at first : Option ℕ) (places : _) (place n k line : ℕ) → at ≡ last_in places place n → at ≡ Some line → n ≤ k → line < k
below at first places place n k line is some within = let l = (last-some places place n line (sym is ∙ some)).below in omega arith

pub bounds-lines-line : goal.bounds-lines-line
bounds-lines-line c = let l = below c.loop-at.at c.args.first _ _ c.loop-at.invariant.0
    (length c.args.self.now.before.items) c.in-Some.line c.loop-at.invariant.2 c.in-Some.is
    c.loop-at.invariant.1 in let m = c.requires.index.within in omega arith

pub index-at-requires : goal.index-at-requires
index-at-requires c = let l = below c.loop-at.at c.args.first _ _ c.loop-at.invariant.0
    (length c.args.self.now.before.items) c.in-Some.line c.loop-at.invariant.2 c.in-Some.is
    c.loop-at.invariant.1 in let v = c.args.self.now.before.ok.0 in omega arith

pub returns-then-is_same_address-clause-found : goal.returns-then-is_same_address-clause-found
returns-then-is_same_address-clause-found c =
    let l = below c.loop-at.at c.args.first _ _ c.loop-at.invariant.0 (length c.args.self.now.before.items)
    c.in-Some.line c.loop-at.invariant.2 c.in-Some.is c.loop-at.invariant.1 in
    let m = c.requires.index.within in (
      l,
      (
        c.index-lines-line.result,
        slice_get-at c.args.lines.now c.in-Some.line c.index-lines-line.result _ (omega arith) c.index-lines-line.is,
        ap (λ (e : Entry). address_of e.address) c.index-lines-line.is ∙ c.is_same_address.ensures.0 c.if-is_same_address.true,
      ),
    )

pub loop-at-smaller : goal.loop-at-smaller
loop-at-smaller c =
    let l = below c.loop-at.at c.args.first _ _ c.loop-at.invariant.0 (length c.args.self.now.before.items)
    c.in-Some.line c.loop-at.invariant.2 c.in-Some.is c.loop-at.invariant.1 in
    let next = shorter _ _ c.in-Some.line c.index-at.result.now
    (c.index-at.ensures ∙ get_or-at c.args.self.now.before.items c.in-Some.line _ _ (c.requires.index.before_is c.in-Some.line l)) in
    subst (λ o. links c.index-at.result.now < links o) (sym c.in-Some.is) (omega (arith, next))

pub loop-at-preserved : goal.loop-at-preserved
loop-at-preserved c =
    let n = c.loop-at.invariant.0 in
    let buckets = c.args.self.now.buckets in
    let lines = c.args.lines.now in
    let a = address_of c.args.address.now in
    let l = below c.loop-at.at c.args.first _ _ n (length c.args.self.now.before.items) c.in-Some.line
    c.loop-at.invariant.2 c.in-Some.is c.loop-at.invariant.1 in
    let low = c.loop-at.invariant.1 in
    let m = c.requires.index.within in
    let linked : last_in (buckets_of buckets lines) (bucket_of buckets a) n ≡ Some c.in-Some.line = sym c.loop-at.invariant.2 ∙ c.in-Some.is in (
      c.in-Some.line,
      (omega (arith, l)),
      c.index-at.ensures ∙ get_or-at c.args.self.now.before.items c.in-Some.line _ _ (c.requires.index.before_is c.in-Some.line l)
          ∙ ap (λ place. last_in (buckets_of buckets lines) place c.in-Some.line) (next-link buckets lines a n c.in-Some.line (omega arith) linked),
      λ i from below_k. onward buckets lines a n (length c.args.self.now.before.items) c.in-Some.line m low linked
          (λ has. absurd (cc (sym c.if-is_same_address.false
          ∙ c.is_same_address.ensures.1 (sym (ap (λ (e : Entry). address_of e.address)
          c.index-lines-line.is) ∙ ap (λ (e : Entry). address_of e.address)
          (c.index-lines-line.is ∙ get_or-at lines c.in-Some.line has.0 _ has.1) ∙ has.2))))
          (λ j h k. c.loop-at.invariant.3 j h k) i from below_k,
    )

pub returns-clause-none : goal.returns-clause-none
returns-clause-none c i h has = absurd (none-left c.args.self.now.buckets c.args.lines.now
    (address_of c.args.address.now) c.loop-at.invariant.0 (length c.args.self.now.before.items)
    (sym c.loop-at.invariant.2 ∙ c.in_default.is) (λ j g k. c.loop-at.invariant.3 j g k) i h has)
