use Rattle.std.proofs.Common.{◌≡◌, ◌/◌, ◌∙◌, arith, refl, sym, length, map, take}
use Rattle.std.proofs.Math.Seq.{take-length}
use Rattle.std.proofs.lemmas.List.{length-map}
use Rattle.tile_shape.specs.Views.{step_of}
use Rattle.theory_addresses.specs.Address.{Address, depth}
use Rattle.theory_addresses.specs.Coherent.{IsCoherent}
use Rattle.theory_addresses.specs.Trace.{HasTrace, first_part}
use Rattle.theory_addresses.proofs.TableBounds.{type_bounds}
use Rattle.theory_addresses.proofs.Traces.{IsTrace-unique}
use Rattle.theory_addresses.proofs.Touching.{trace_excludes_touch}
use Rattle.transducer_core.specs.Descending.{StartsDown}
use Rattle.transducer_core.proofs.Carried.{is_across}
use Rattle.transducer_core.proofs.Rising.{last_part}
use Rattle.transducer_core.proofs.transducer.Transducer.step_across_digits.Goals as goal

-- a tile across
pub returns-in-Err-clause-crossing : goal.returns-in-Err-clause-crossing
returns-in-Err-clause-crossing g c =
    let a : Address = record { kind = c.args.kind.now; digits = map step_of c.args.digits.now } in
    let side = c.write_down-side.result in
    let b : Address = record { kind = side.row / 256; digits = map step_of c.write_down-side.new.digits } in
    let starts : StartsDown c.self.inside.flat a c.args.edge c.in-Err.meeting (take c.in-Err.meeting.level c.climb.new.parts) =
    record { fits = rw c.self.view_is c.requires.fits; edge_exists = rw c.self.view_is c.requires.edge_exists; meets = c.in-Err.ensures.ends } in
    let touches = c.write_down-side.ensures.touches a.kind c.args.edge starts in
    record {
      across = rw (← c.self.view_is) (is_across a b c.args.edge
          side.edge c.self.invariant starts.fits starts.edge_exists touches c.write_down-side.ensures.fits
          c.write_down-side.ensures.edge_exists);
      on_boundary = tt;
      across_when = λ b f fits touched. refl;
      boundary_when = λ own part lies.
          let trace : HasTrace c.self.inside.flat a c.args.edge own lies.cuts = rw c.self.view_is lies.trace in
          absurd (trace_excludes_touch a b c.self.invariant
          starts.fits c.write_down-side.ensures.fits starts.edge_exists trace touches);
    }

-- the boundary
pub returns-in-Ok-clause-crossing : goal.returns-in-Ok-clause-crossing
returns-in-Ok-clause-crossing g c =
    let a : Address = record { kind = c.args.kind.now; digits = map step_of c.args.digits.now } in
    let ends = c.in-Ok.ensures.ends in
    let trace : HasTrace c.args.self.now a c.args.edge c.in-Ok.edge ends.cuts = rw (← c.self.view_is) (rw (take-length a.digits) at ends.trace) in
    let whole : length c.args.digits.now ≡ depth a = sym (length-map c.args.digits.now step_of) in
    let part : c.top_part-part.result ≡ first_part ends.cuts = c.top_part-part.ensures ∙ rw (whole, ends.parts_are) (last_part ends.cuts) in
    let coherent : IsCoherent c.args.self.now = rw (← c.self.view_is) c.self.invariant in
    record {
      across = tt;
      on_boundary = record { cuts = ends.cuts; trace = trace; is_part = part };
      across_when = λ b f fits touches.
          absurd (trace_excludes_touch a b coherent c.requires.fits fits c.requires.edge_exists trace touches);
      boundary_when = λ own other lies.
          let same = IsTrace-unique trace lies.trace in
          rw (part, lies.is_part, same.0, same.1) refl;
    }

pub overflow_cast-result : goal.overflow_cast-result
overflow_cast-result g c =
    let side = c.write_down-side.result in
    let b = type_bounds c.self.inside.flat (side.row / 256) side.edge c.write_down-side.ensures.edge_exists in
    omega (arith, b.1, c.self.invariant.at_most_12_edges (side.row / 256) b.0)
