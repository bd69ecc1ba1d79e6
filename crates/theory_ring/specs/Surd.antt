-- The numbers a + bθ of a quadratic ring, as pairs over any ring: θ is √2, or the golden ratio φ.
use Rattle.std.specs.Prelude.{pos}
use Rattle.theory_ring.specs.Ring.{Ops}

-- a + bθ
pub record Pair (A : Type 0) : Type 0 where
  pub a : A
  pub b : A

-- R with a root of two: θ² = 2
abbrev pub root_two : Ops → Ops
root_two R = record {
  carrier = Pair R.carrier;
  add = λ (r : Pair R.carrier) (s : Pair R.carrier). record { a = R.add r.a s.a; b = R.add r.b s.b };
  mul = λ (r : Pair R.carrier) (s : Pair R.carrier). record {
    a = R.add (R.mul r.a s.a) (R.mul (R.int (pos 2)) (R.mul r.b s.b));
    b = R.add (R.mul r.a s.b) (R.mul r.b s.a);
  };
  neg = λ (r : Pair R.carrier). record { a = R.neg r.a; b = R.neg r.b };
  int = λ n. record { a = R.int n; b = R.int (pos 0) };
}

-- R with the golden ratio: θ² = θ + 1
abbrev pub golden : Ops → Ops
golden R = record {
  carrier = Pair R.carrier;
  add = λ (r : Pair R.carrier) (s : Pair R.carrier). record { a = R.add r.a s.a; b = R.add r.b s.b };
  mul = λ (r : Pair R.carrier) (s : Pair R.carrier). record {
    a = R.add (R.mul r.a s.a) (R.mul r.b s.b);
    b = R.add (R.add (R.mul r.a s.b) (R.mul r.b s.a)) (R.mul r.b s.b);
  };
  neg = λ (r : Pair R.carrier). record { a = R.neg r.a; b = R.neg r.b };
  int = λ n. record { a = R.int n; b = R.int (pos 0) };
}
