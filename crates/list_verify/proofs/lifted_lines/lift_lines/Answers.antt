use Rattle.std.proofs.Common.{◌≡◌, ℕ, ◌≤◌, max, length, get_or, refl, sym, ap, ◌∙◌, subst, arith}
use Rattle.theory_addresses.specs.Address.{depth}
use Rattle.theory_addresses.proofs.Lists.{IsAmong-map}
use Rattle.theory_addresses.proofs.Ranges.{place-among}
use Rattle.listing_text.specs.declared.entry.Entry as program
use Rattle.listing_text.specs.Views.{entry_of}
use Rattle.theory_listings.proofs.FrameLines.{deepest-first, deepest-among}
use Rattle.rule_model.specs.Tiling.{tiling_of}
use Rattle.tile_shape.specs.Views.{address_of}
use Rattle.list_verify.specs.FoundLines.{entries_of}
use Rattle.list_verify.specs.Lifted.{deepest_entry}
use Rattle.list_verify.specs.Listing.{tile_listed, tiles_listed}
use Rattle.list_verify.proofs.Chains.{slice_get-at}
use Rattle.list_verify.proofs.lifted_lines.lift_lines.Goals.{After-grow_to}
use Rattle.list_verify.proofs.lifted_lines.lift_lines.Goals as goal

-- the frame has the depth of the deepest line
deep-is : (c : After-grow_to) → length c.grow_to.new.self.digits ≡ deepest_entry
    (tiling_of c.args.machine.now) (length c.args.frame.now.digits) (entries_of c.args.lines.now)
deep-is c =
    let t = tiling_of c.args.machine.now in
    let listing = tiles_listed t (entries_of c.args.lines.now) in
    let same = c.deepest-depth.ensures.deepest t ∙ ap (λ m. deepest_entry t m (entries_of c.args.lines.now)) c.depth.ensures.digits in
    greater c.grow_to.ensures.depth same (deepest-first (length c.args.frame.now.digits) listing)
  where
    greater : {n own deep all : ℕ} → n ≡ max own deep → deep ≡ all → own ≤ all → n ≡ all
    greater e f h = omega arith

pub lift_each-requires-clause-no_deeper : goal.lift_each-requires-clause-no_deeper
lift_each-requires-clause-no_deeper c k d l =
    let p = (goal.at.lift_each-requires-clause-no_deeper c).After-grow_to in
    let t = tiling_of c.args.machine.now in
    let e : program.Entry = get_or c.args.lines.now k d in
    let among = place-among e c.args.lines.now k (slice_get-at c.args.lines.now k e d l refl) in
    subst (λ n. depth (address_of e.address) ≤ n) (sym (deep-is p))
    (deepest-among (length c.args.frame.now.digits) (tiles_listed t (entries_of c.args.lines.now)) (tile_listed t (entry_of e))
    (IsAmong-map (tile_listed t) (entry_of e) (entries_of c.args.lines.now) (IsAmong-map entry_of e c.args.lines.now among)))

pub returns-clause-grown : goal.returns-clause-grown
returns-clause-grown c = record {
  grows = c.grow_to.ensures.frame;
  depth = deep-is ((goal.at.returns-clause-grown c).After-grow_to);
}
