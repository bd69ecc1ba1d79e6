use Rattle.std.proofs.Common.{map, take, length, get_or, arith, refl, ◌≡◌, ◌+◌}
use Rattle.std.proofs.lemmas.List.{length-map}
use Rattle.std.proofs.lemmas.Result.{err_from_is_err_and}
use Rattle.tile_shape.specs.Views.{step_of}
use Rattle.theory_addresses.proofs.Chains.{chain_of}
use Rattle.transducer_core.proofs.Climbs
use Rattle.transducer_core.proofs.Rising
use Rattle.transducer_core.proofs.climb.climb.Goals.{then-depth-eq1+in_ok-own, else-depth-eq1}
use Rattle.transducer_core.proofs.climb.climb.Goals as goal

pub rise-requires-clause-exists : goal.rise-requires-clause-exists
rise-requires-clause-exists g c =
    Climbs.there c.args.tables.now c.args.kind (map step_of c.args.digits.now) c.args.edge
    c.contacts-contacts.result.starts.now c.contacts-contacts.result.words.now c.requires.coherent
    c.contacts-contacts.ensures (chain_of c.args.tables.now (record { kind = c.args.kind; digits = map step_of c.args.digits.now }) c.requires.fits)
    0 c.from-own.result (take 0 c.args.parts.now)
    (step_of (get_or c.args.digits.now 0 (record { child = 0; parent = 0 })))
    (Climbs.start c.args.tables.now c.args.kind (map step_of c.args.digits.now)
    c.args.edge c.from-own.result c.args.parts.now c.from-own.ensures c.requires.edge_exists)
    (Rising.digit_read c.args.digits.now c.args.digits.now 0 (record { child = 0; parent = 0 }) refl (omega arith))

pub returns-in_err-own-clause-ends : goal.returns-in_err-own-clause-ends
returns-in_err-own-clause-ends g c =
    let p = err_from_is_err_and c.from_residual.result c.from_residual.ensures.1 in
    let i = c.in_err-own.ensures.inner in
    rw (p.1, p.2, c.in_err-own.ensures.unchanged)
    (Climbs.meets c.args.tables.now c.args.kind (map step_of c.args.digits.now)
    c.args.edge c.contacts-contacts.result.starts.now c.contacts-contacts.result.words.now
    c.requires.coherent c.contacts-contacts.ensures
    (chain_of c.args.tables.now (record { kind = c.args.kind; digits = map step_of c.args.digits.now }) c.requires.fits)
    0 c.from-own.result c.args.parts.now (step_of
    (get_or c.args.digits.now 0 (record { child = 0; parent = 0 }))) c.in_err-own.field-0.0
    (Climbs.start c.args.tables.now c.args.kind (map step_of c.args.digits.now)
    c.args.edge c.from-own.result c.args.parts.now c.from-own.ensures c.requires.edge_exists)
    (Rising.digit_read c.args.digits.now c.args.digits.now 0
    (record { child = 0; parent = 0 }) refl (omega arith)) i.2 i.3 i.0 i.1)

pub loop-level-init : goal.loop-level-init
loop-level-init g c = elim c.if-depth-eq1.branch [
  | then-depth-eq1+in_ok-own w ↦
      let first = w.in_ok-own.ensures.outer in
      rw (w.parts-is, w.steps-is, w.own-is, w.level-is) (record {
        even = omega (arith, w.if-depth-eq1.true);
        inside = omega (arith, w.if-depth-eq1.true);
        long = omega (arith, w.rise.array_long);
        cost = omega (arith, w.in_ok-own.ensures.one_step);
        rising = Climbs.up c.args.tables.now c.args.kind (map step_of c.args.digits.now)
            c.args.edge c.contacts-contacts.result.starts.now c.contacts-contacts.result.words.now
            c.requires.coherent c.contacts-contacts.ensures
            (chain_of c.args.tables.now (record { kind = c.args.kind; digits = map step_of c.args.digits.now }) c.requires.fits)
            0 c.from-own.result first.0 w.in_ok-own.own c.args.parts.now w.rise.new.parts
            (step_of (get_or c.args.digits.now 0 (record { child = 0; parent = 0 })))
            (omega arith) (Climbs.start c.args.tables.now c.args.kind
            (map step_of c.args.digits.now) c.args.edge c.from-own.result c.args.parts.now
            c.from-own.ensures c.requires.edge_exists) (Rising.digit_read c.args.digits.now c.args.digits.now 0
            (record { child = 0; parent = 0 }) refl (omega arith)) first.1 first.2;
      })
  | else-depth-eq1 w ↦
      rw (w.parts-is, w.steps-is, w.own-is, w.level-is) (record {
        even = omega (arith, w.if-depth-eq1.false);
        inside = omega arith;
        long = omega arith;
        cost = omega arith;
        rising = Climbs.start c.args.tables.now c.args.kind
            (map step_of c.args.digits.now) c.args.edge c.from-own.result c.args.parts.now
            c.from-own.ensures c.requires.edge_exists;
      })
]

pub rise-requires-in-loop-level-clause-exists : goal.rise-requires-in-loop-level-clause-exists
rise-requires-in-loop-level-clause-exists g c =
    Climbs.there c.args.tables.now c.args.kind (map step_of c.args.digits.now) c.args.edge
    c.contacts-contacts.result.starts.now c.contacts-contacts.result.words.now c.requires.coherent
    c.contacts-contacts.ensures (chain_of c.args.tables.now (record { kind = c.args.kind; digits = map step_of c.args.digits.now }) c.requires.fits)
    c.loop-level.level c.loop-level.own (take c.loop-level.level c.loop-level.parts)
    (step_of (get_or c.args.digits.now c.loop-level.level (record { child = 0; parent = 0 })))
    c.loop-level.invariant.rising (Rising.digit_read c.args.digits.now
    c.args.digits.now c.loop-level.level (record { child = 0; parent = 0 }) refl (omega arith))

pub returns-in_err-own-2-clause-ends : goal.returns-in_err-own-2-clause-ends
returns-in_err-own-2-clause-ends g c =
    let p = err_from_is_err_and c.from_residual-in_err-own-2.result c.from_residual-in_err-own-2.ensures.1 in
    let i = c.in_err-own-2.ensures.inner in
    rw (p.1, p.2, c.in_err-own-2.ensures.unchanged)
    (Climbs.meets c.args.tables.now c.args.kind (map step_of c.args.digits.now)
    c.args.edge c.contacts-contacts.result.starts.now c.contacts-contacts.result.words.now
    c.requires.coherent c.contacts-contacts.ensures
    (chain_of c.args.tables.now (record { kind = c.args.kind; digits = map step_of c.args.digits.now }) c.requires.fits)
    c.loop-level.level c.loop-level.own c.loop-level.parts
    (step_of (get_or c.args.digits.now c.loop-level.level (record { child = 0; parent = 0 })))
    c.in_err-own-2.field-0.0 c.loop-level.invariant.rising
    (Rising.digit_read c.args.digits.now c.args.digits.now c.loop-level.level
    (record { child = 0; parent = 0 }) refl (omega arith)) i.2 i.3 i.0 i.1)

pub rise-requires-in-loop-level-2-clause-exists : goal.rise-requires-in-loop-level-2-clause-exists
rise-requires-in-loop-level-2-clause-exists g c =
    let first = c.in_ok-own-2.ensures.outer in
    let risen : Rising.Rising c.args.tables.now c.args.kind
    (map step_of c.args.digits.now) c.args.edge (c.loop-level.level + 1) c.in_ok-own-2.own
    (take (c.loop-level.level + 1) c.rise-in-loop-level.new.parts) =
    Climbs.up c.args.tables.now c.args.kind (map step_of c.args.digits.now) c.args.edge
    c.contacts-contacts.result.starts.now c.contacts-contacts.result.words.now c.requires.coherent
    c.contacts-contacts.ensures (chain_of c.args.tables.now (record { kind = c.args.kind; digits = map step_of c.args.digits.now }) c.requires.fits)
    c.loop-level.level c.loop-level.own first.0 c.in_ok-own-2.own c.loop-level.parts
    c.rise-in-loop-level.new.parts (step_of (get_or c.args.digits.now c.loop-level.level
    (record { child = 0; parent = 0 }))) (omega (arith, c.loop-level.invariant.long))
    c.loop-level.invariant.rising (Rising.digit_read c.args.digits.now
    c.args.digits.now c.loop-level.level (record { child = 0; parent = 0 }) refl (omega arith)) first.1 first.2 in
    Climbs.there c.args.tables.now c.args.kind (map step_of c.args.digits.now) c.args.edge
    c.contacts-contacts.result.starts.now c.contacts-contacts.result.words.now c.requires.coherent
    c.contacts-contacts.ensures (chain_of c.args.tables.now (record { kind = c.args.kind; digits = map step_of c.args.digits.now }) c.requires.fits)
    (c.loop-level.level + 1) c.in_ok-own-2.own (take (c.loop-level.level + 1) c.rise-in-loop-level.new.parts)
    (step_of (get_or c.args.digits.now (c.loop-level.level + 1) (record { child = 0; parent = 0 }))) risen
    (Rising.digit_read c.args.digits.now c.args.digits.now (c.loop-level.level + 1)
    (record { child = 0; parent = 0 }) refl (omega arith))

pub returns-in_err-own-3-clause-ends : goal.returns-in_err-own-3-clause-ends
returns-in_err-own-3-clause-ends g c =
    let first = c.in_ok-own-2.ensures.outer in
    let risen : Rising.Rising c.args.tables.now c.args.kind
    (map step_of c.args.digits.now) c.args.edge (c.loop-level.level + 1) c.in_ok-own-2.own
    (take (c.loop-level.level + 1) c.rise-in-loop-level.new.parts) =
    Climbs.up c.args.tables.now c.args.kind (map step_of c.args.digits.now) c.args.edge
    c.contacts-contacts.result.starts.now c.contacts-contacts.result.words.now c.requires.coherent
    c.contacts-contacts.ensures (chain_of c.args.tables.now (record { kind = c.args.kind; digits = map step_of c.args.digits.now }) c.requires.fits)
    c.loop-level.level c.loop-level.own first.0 c.in_ok-own-2.own c.loop-level.parts
    c.rise-in-loop-level.new.parts (step_of (get_or c.args.digits.now c.loop-level.level
    (record { child = 0; parent = 0 }))) (omega (arith, c.loop-level.invariant.long))
    c.loop-level.invariant.rising (Rising.digit_read c.args.digits.now
    c.args.digits.now c.loop-level.level (record { child = 0; parent = 0 }) refl (omega arith)) first.1 first.2 in
    let p = err_from_is_err_and c.from_residual-in_err-own-3.result c.from_residual-in_err-own-3.ensures.1 in
    let i = c.in_err-own-3.ensures.inner in
    rw (p.1, p.2, c.in_err-own-3.ensures.unchanged)
    (Climbs.meets c.args.tables.now c.args.kind (map step_of c.args.digits.now)
    c.args.edge c.contacts-contacts.result.starts.now c.contacts-contacts.result.words.now
    c.requires.coherent c.contacts-contacts.ensures
    (chain_of c.args.tables.now (record { kind = c.args.kind; digits = map step_of c.args.digits.now }) c.requires.fits)
    (c.loop-level.level + 1) c.in_ok-own-2.own c.rise-in-loop-level.new.parts
    (step_of (get_or c.args.digits.now (c.loop-level.level + 1)
    (record { child = 0; parent = 0 }))) c.in_err-own-3.field-0.0 risen
    (Rising.digit_read c.args.digits.now c.args.digits.now (c.loop-level.level + 1)
    (record { child = 0; parent = 0 }) refl (omega arith)) i.2 i.3 i.0 i.1)

pub loop-level-preserved : goal.loop-level-preserved
loop-level-preserved g c =
    let first = c.in_ok-own-2.ensures.outer in
    let risen : Rising.Rising c.args.tables.now c.args.kind
    (map step_of c.args.digits.now) c.args.edge (c.loop-level.level + 1) c.in_ok-own-2.own
    (take (c.loop-level.level + 1) c.rise-in-loop-level.new.parts) =
    Climbs.up c.args.tables.now c.args.kind (map step_of c.args.digits.now) c.args.edge
    c.contacts-contacts.result.starts.now c.contacts-contacts.result.words.now c.requires.coherent
    c.contacts-contacts.ensures (chain_of c.args.tables.now (record { kind = c.args.kind; digits = map step_of c.args.digits.now }) c.requires.fits)
    c.loop-level.level c.loop-level.own first.0 c.in_ok-own-2.own c.loop-level.parts
    c.rise-in-loop-level.new.parts (step_of (get_or c.args.digits.now c.loop-level.level
    (record { child = 0; parent = 0 }))) (omega (arith, c.loop-level.invariant.long))
    c.loop-level.invariant.rising (Rising.digit_read c.args.digits.now
    c.args.digits.now c.loop-level.level (record { child = 0; parent = 0 }) refl (omega arith)) first.1 first.2 in
    let second = c.in_ok-own-3.ensures.outer in
    let two : c.loop-level.level + 1 + 1 ≡ c.loop-level.level + 2 = omega arith in
    let higher = Climbs.up c.args.tables.now c.args.kind (map step_of c.args.digits.now)
    c.args.edge c.contacts-contacts.result.starts.now c.contacts-contacts.result.words.now
    c.requires.coherent c.contacts-contacts.ensures
    (chain_of c.args.tables.now (record { kind = c.args.kind; digits = map step_of c.args.digits.now }) c.requires.fits)
    (c.loop-level.level + 1) c.in_ok-own-2.own second.0 c.in_ok-own-3.own c.rise-in-loop-level.new.parts
    c.rise-in-loop-level-2.new.parts (step_of
    (get_or c.args.digits.now (c.loop-level.level + 1) (record { child = 0; parent = 0 })))
    (omega (arith, c.rise-in-loop-level.array_long)) risen
    (Rising.digit_read c.args.digits.now c.args.digits.now (c.loop-level.level + 1)
    (record { child = 0; parent = 0 }) refl (omega arith)) second.1 second.2 in
    record {
      even = omega (arith, c.loop-level.invariant.even);
      inside = omega (arith, c.loop-level.invariant.even);
      long = omega (arith, c.rise-in-loop-level-2.array_long);
      cost = omega (arith, c.in_ok-own-2.ensures.one_step, c.in_ok-own-3.ensures.one_step, c.loop-level.invariant.cost);
      rising = rw two at higher;
    }

pub overflow_cast-result : goal.overflow_cast-result
overflow_cast-result g c = omega (
  arith,
  Climbs.small c.args.tables.now c.args.kind
      (map step_of c.args.digits.now) c.args.edge c.loop-level.level c.loop-level.own
      (take c.loop-level.level c.loop-level.parts) c.requires.coherent c.loop-level.invariant.rising,
)

pub returns-clause-ends : goal.returns-clause-ends
returns-clause-ends g c =
    let end : c.loop-level.level ≡ length (map step_of c.args.digits.now) = omega (
      arith,
      length-map c.args.digits.now step_of,
      c.loop-level.invariant.inside,
    ) in
    let rising = rw end at c.loop-level.invariant.rising in
    Rising.rise_ends c.args.tables.now c.args.kind (map step_of c.args.digits.now)
    c.args.edge (length (map step_of c.args.digits.now)) c.loop-level.own
    (take (length (map step_of c.args.digits.now)) c.loop-level.parts) rising refl
