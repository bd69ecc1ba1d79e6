-- A fault of a call that glues tiles is handed on.
use Rattle.std.proofs.Common.{◌≡◌, inl, inr, List, Result, Ok, Err, refl, ap}
use Rattle.std.specs.Prelude.{IsErrAnd}
use Rattle.rule_model.specs.Tiling.{Tiling}
use Rattle.tile_place.specs.declared.placed_tile.PlacedTile.{PlacedTile}
use Rattle.theory_walks.specs.Frames.{FrameValue}
use Rattle.theory_walks.proofs.Outcomes.{if_err-is}
use Rattle.half_glue.specs.declared.glue_fault.GlueFault.{GlueFault}
use Rattle.half_glue.specs.declared.glue_fault.GlueFault.TheVariants.{NoMemory}
use Rattle.half_glue.specs.Causes.{HasGlueCause}
use Rattle.half_glue.specs.Ends.{GluesTo}

pub handed-on : {A B : Type 0} (t : Tiling) (f g : FrameValue) (tiles : List PlacedTile) (fault : GlueFault)
    (r : Result B GlueFault) → IsErrAnd r (λ e. e ≡ fault) → GluesTo {A = A} t f g tiles (Err fault) → GluesTo t f g tiles r
handed-on {A} {B} t f g tiles fault (Ok x) is h = absurd is
handed-on {A} {B} t f g tiles fault (Err e) is h = record {
  frame = h.frame;
  not_beyond = h.not_beyond;
  least = tt;
  within = tt;
  answered = λ can. elim (h.answered can) [
    | inl none ↦ inl (cc)
    | inr ok ↦ absurd (cc (ok))
  ];
  cause = if_err-is {T = B} (HasGlueCause t f g tiles) (Err e) fault is h.cause;
}

-- a call that ends well after another that glues the same tiles
pub well-ended : {A B : Type 0} (t : Tiling) (f g : FrameValue) (tiles : List PlacedTile) (x : A) (y : B)
    → GluesTo t f g tiles (Ok x) → GluesTo t f g tiles (Ok y)
well-ended t f g tiles x y h = record {
  frame = h.frame;
  not_beyond = h.not_beyond;
  least = h.least;
  within = h.within;
  answered = λ can. inr refl;
  cause = tt;
}

-- or for want of memory
pub full-ended : {A B : Type 0} (t : Tiling) (f g : FrameValue) (tiles : List PlacedTile) (x : A)
    (r : Result B GlueFault) → IsErrAnd r (λ e. e ≡ NoMemory) → GluesTo t f g tiles (Ok x) → GluesTo t f g tiles r
full-ended {A} {B} t f g tiles x (Ok y) is h = absurd is
full-ended {A} {B} t f g tiles x (Err e) is h = record {
  frame = h.frame;
  not_beyond = h.not_beyond;
  least = tt;
  within = tt;
  answered = λ can. inl (ap (λ (d : GlueFault). Err d) is);
  cause = if_err-is {T = B} (HasGlueCause t f g tiles) (Err e) NoMemory is tt;
}
