use Rattle.std.proofs.Common.{◌≡◌, ℕ, ◌+◌, ◌<◌, max, List, drop, length, get_or, sym, ap, ◌∙◌, arith}
use Rattle.theory_addresses.specs.Address.{depth}
use Rattle.listing_text.specs.declared.entry.Entry as program
use Rattle.listing_text.specs.Listing.{Entry}
use Rattle.rule_model.specs.Tiling.{Tiling}
use Rattle.tile_shape.specs.Views.{address_of}
use Rattle.list_verify.specs.FoundLines.{entries_of}
use Rattle.list_verify.specs.Lifted.{deepest_entry}
use Rattle.list_verify.proofs.FirstLifted.{deepest-max, drop-next}
use Rattle.list_verify.proofs.lifted_lines.deepest.Goals as goal

next-deepest : (t : Tiling) (lines : List program.Entry) (line : program.Entry) (n before deep now all : ℕ)
    → n < length lines → line ≡ get_or lines n line → deep ≡ depth (address_of line.address)
    → now ≡ max before deep → deepest_entry t before (entries_of (drop n lines)) ≡ all → deepest_entry t now (entries_of (drop (n + 1) lines)) ≡ all
next-deepest t lines line n before deep now all below is at e h =
    ap (λ m. deepest_entry t m rest) (e ∙ ap (max before) at) ∙ deepest-max t before (depth (address_of line.address)) rest
    ∙ ap (λ (x : program.Entry). max (depth (address_of x.address)) (deepest_entry t before rest)) is
    ∙ ap (λ (xs : List program.Entry). deepest_entry t before (entries_of xs)) (sym (drop-next lines n line below)) ∙ h
  where
    rest : List Entry
    rest = entries_of (drop (n + 1) lines)

pub loop-line-preserved : goal.loop-line-preserved
loop-line-preserved c = (
  λ t. next-deepest t c.args.lines.now c.line-item.result c.loop-line.line-index c.loop-line.depth
      c.depth.result c.max-depth.result _ c.loop-line-test.true c.line-item.is c.depth.ensures.seen
      c.max-depth.ensures (c.loop-line.invariant.0 t),
  let h = c.loop-line.invariant.1 in let d = c.depth.ensures.at_most_64 in let e = c.max-depth.ensures in omega arith,
)
