use Rattle.std.proofs.Common.{◌≡◌, ◌<◌, ℕ, List, [], ◌∷◌, All, length, ap, ◌∙◌, subst, sym, refl, ◌^◌, arith}
use Rattle.std.proofs.lemmas.List.Elements.{All-head, All-tail}
use Rattle.std.specs.List.{AllByRecursion}
use Rattle.theory_walks.proofs.Brought.{Brings, brought}
use Rattle.lazy_walk.specs.Standing.{Stands}
use Rattle.rule_model.specs.declared.rule.Rule.{Rule}
use Rattle.rule_model.specs.Tiling.{tiling_of, children}
use Rattle.theory_walks.specs.Frames.{FrameValue, IsFrameOf}
use Rattle.tile_shape.specs.Usable.{AreUsable}
use Rattle.list_verify.specs.Written.{IsListedAs}
use Rattle.list_verify.proofs.WrittenTiles.{IsListOf}
use Rattle.list_verify.proofs.AsWritten.{listed_as, fits_count}
use Rattle.list_verify.proofs.verifier.Verifier.as_written.Goals.{Else-not-is_text_of}
use Rattle.list_verify.proofs.verifier.Verifier.as_written.Goals as goal

each : {A : Type 0} (Q : A → Type 0) (xs : List A) → All Q xs → AllByRecursion Q xs
each Q [] h = tt
each Q (x ∷ xs) h = (All-head Q x xs h, each Q xs (All-tail Q x xs h))

some_lines : (n m : ℕ) → n ≡ m → ¬ (n ≡ 0) → 0 < m
some_lines n m e h = omega arith

brings : (c : Else-not-is_text_of) → Brings (λ _. Unit {0}) c.args.self.now.machine.now
brings c = brought (λ _. Unit {0}) c.args.self.now.machine.now _ _ _ c.checked-checked.ensures.rule
    c.checked-checked.ensures.accepted c.checked-checked.ensures.usable
    c.checked-checked.ensures.same_child_kinds c.uses.ensures c.kinds-usable.ensures.limits refl tt c.grown_fits_law.ensures

list : (c : Else-not-is_text_of) → IsListOf (tiling_of c.args.self.now.machine.now) c.in-Ok.own
    c.covered_tiles.new.frame c.args.self.now.window.now c.in-Ok-covered_tiles.tiles c.args.listing.now
list c = record {
  grows = c.in-Ok-covered_tiles.ensures.frame;
  drawn = c.in-Ok-covered_tiles.ensures.drawn;
  stand = each (Stands (tiling_of c.args.self.now.machine.now) c.covered_tiles.new.frame)
      c.in-Ok-covered_tiles.tiles c.in-Ok-covered_tiles.ensures.stand;
  least = c.in-Ok-covered_tiles.ensures.least;
  within = c.in-Ok-covered_tiles.ensures.within;
  written = c.if-not-is_text_of.ensures.written refl;
  some = some_lines c.len-count.result (length c.in-Ok-covered_tiles.tiles) c.len-count.ensures c.if-count-eq0.false;
}

module _ (c : Else-not-is_text_of) where
  usable : AreUsable (children (tiling_of c.args.self.now.machine.now))
  usable = subst AreUsable (c.uses.ensures ∙ ap (λ (r : Rule). children (tiling_of r)) c.checked-checked.ensures.rule) c.kinds-usable.ensures.limits

  own_frame : IsFrameOf (tiling_of c.args.self.now.machine.now) c.in-Ok.own
  own_frame = subst (IsFrameOf (tiling_of c.args.self.now.machine.now)) (sym c.in-Ok.ensures) c.requires.ready.frame

  whole : IsListedAs (tiling_of c.args.self.now.machine.now) c.args.frame.now c.covered_tiles.new.frame
      c.args.self.now.window.now c.args.listing.now c.len-count.result
  whole = subst (λ (f : FrameValue). IsListedAs (tiling_of c.args.self.now.machine.now) f c.covered_tiles.new.frame c.args.self.now.window.now
      c.args.listing.now c.len-count.result) c.in-Ok.ensures
      (listed_as c.args.self.now.machine.now (brings c).settled usable (brings c).fits
      (λ entries. c.written_law.ensures (children (tiling_of c.args.self.now.machine.now)) entries usable)
      c.in-Ok.own c.covered_tiles.new.frame own_frame c.args.self.now.window.now c.in-Ok-covered_tiles.tiles
      c.args.listing.now (list c) c.len-count.result c.len-count.ensures)

  few : length c.in-Ok-covered_tiles.tiles < 2 ^ 32
  few = fits_count c.args.self.now.machine.now (brings c).settled usable (brings c).fits
      (λ entries. c.written_law.ensures (children (tiling_of c.args.self.now.machine.now)) entries usable)
      c.in-Ok.own c.covered_tiles.new.frame own_frame c.args.self.now.window.now c.in-Ok-covered_tiles.tiles c.args.listing.now (list c)

pub covered_tiles-requires-clause-frame : goal.covered_tiles-requires-clause-frame
covered_tiles-requires-clause-frame c = subst (IsFrameOf (tiling_of c.args.self.now.machine.now)) (sym c.in-Ok.ensures) c.requires.ready.frame

pub returns-clause-listed : goal.returns-clause-listed
returns-clause-listed c = whole ((goal.at.returns-clause-listed c).Else-not-is_text_of)

pub overflow_cast-result : goal.overflow_cast-result
overflow_cast-result c = let l = few c in let e = c.len-count.ensures in omega (arith, l, e)
