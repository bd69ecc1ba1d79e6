use Rattle.std.proofs.Common.{◌≡◌, ◌<◌, All, length, inl, refl, sym, ap, ◌∙◌, subst, arith}
use Rattle.theory_addresses.specs.Address.{Fits}
use Rattle.rule_model.specs.Tiling.{tiling_of, children}
use Rattle.tile_shape.specs.Views.{address_of}
use Rattle.listing_text.specs.Listing.{Entry}
use Rattle.listing_text.specs.Views.{entry_of}
use Rattle.list_verify.specs.FoundLines.{entries_of}
use Rattle.tiling_c.specs.Arrays.{plain_tile_at, plain_address_at}
use Rattle.tiling_c.specs.Verify.{entry_given, IsEntry, IsFirstNoEntry, RefusesEntries}
use Rattle.tiling_c.proofs.Verified.{entries_pushed, entries_none, entries_whole, all_push, none_fit, one_more, there, here}
use Rattle.tiling_c.proofs.verify.entries.Goals as goal

pub loop-index-init : goal.loop-index-init
loop-index-init c = record {
  given = ap entries_of c.in-Ok.ensures.items ∙ entries_none c.args.tiles.now c.args.addrs.now;
  are_entries = λ i below. absurd (omega (arith, below));
  fit = subst (All (λ e. Fits (children (tiling_of c.args.machine.now)) (address_of e.address)))
      (sym c.in-Ok.ensures.items) (none_fit _);
}

pub returns-in_default-clause-refused : goal.returns-in_default-clause-refused
returns-in_default-clause-refused c =
    let in_tiles : c.loop-index.index < length c.args.tiles.now = c.loop-index-test.true in
    let first : IsFirstNoEntry (tiling_of c.args.machine.now) c.args.tiles.now c.args.addrs.now c.loop-index.index = record {
      below = in_tiles;
      no_entry = λ e. absurd (cc (c.in_default.ensures.given.1 (here (IsEntry (tiling_of c.args.machine.now)) c.args.tiles.now c.args.addrs.now
          c.loop-index.index _ _ in_tiles (omega (arith, in_tiles, c.requires.same)) e)));
      first = c.loop-index.invariant.are_entries;
    } in
    subst (RefusesEntries (tiling_of c.args.machine.now) c.args.tiles.now c.args.addrs.now) (sym c.no_tile.ensures)
    (inl (record { is_status = refl; is_fault = refl; first = first }))

pub loop-index-preserved : goal.loop-index-preserved
loop-index-preserved c =
    let t = tiling_of c.args.machine.now in
    let tiles = c.args.tiles.now in
    let addrs = c.args.addrs.now in
    let i = c.loop-index.index in
    let in_tiles : i < length tiles = c.loop-index-test.true in
    let in_addrs : i < length addrs = omega (arith, in_tiles, c.requires.same) in
    let is_entry = there (IsEntry t) tiles addrs i _ _ in_tiles in_addrs (c.in-Some.ensures.given.0 refl) in
    let seen = there (λ x y. entry_of c.in-Some.entry ≡ entry_given x y) tiles addrs i _ _ in_tiles in_addrs c.in-Some.ensures.seen in
    record {
      given = ap entries_of c.in-Ok-push.ensures.items ∙ entries_pushed i tiles addrs c.loop-index.entries.items c.in-Some.entry in_tiles in_addrs
          c.loop-index.invariant.given seen;
      are_entries = one_more (λ j. IsEntry t (plain_tile_at tiles j) (plain_address_at addrs j)) i c.loop-index.invariant.are_entries is_entry;
      fit = subst (All (λ e. Fits (children t) (address_of e.address))) (sym c.in-Ok-push.ensures.items)
          (all_push (λ e. Fits (children t) (address_of e.address)) c.loop-index.entries.items c.in-Some.entry c.loop-index.invariant.fit
          (subst (λ (e : Entry). Fits (children t) e.address) (sym seen) is_entry.named.fits));
    }

pub returns-clause-given : goal.returns-clause-given
returns-clause-given c = c.loop-index.invariant.given
    ∙ entries_whole c.loop-index.index c.args.tiles.now c.args.addrs.now c.requires.same c.loop-index-test.false
