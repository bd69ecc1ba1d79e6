-- A fault at one place, with none before it, is the fault of the whole range.
use Rattle.std.proofs.Common.{◌≡◌, ℕ, ◌<◌, Option, None, Err}
use Rattle.theory_addresses.specs.Search.{first_below}
use Rattle.dissect_check.specs.declared.check_fault.CheckFault.{CheckFault}
use Rattle.dissect_check.specs.declared.check_fault.CheckFault.TheVariants.{TooMany, NotStar, WrongFactor, BadMate, BadLength, BadSubdivision, ChildEdgeLoose, BoundaryWrong, Unused, GlueWrong, NoMemory}
use Rattle.dissect_check.specs.Agrees.{Agrees}
use Rattle.theory_addresses.proofs.Searches.{first_below-found}

pub agrees_below : (A : Type 0) (e : CheckFault) (f : ℕ → Option CheckFault) (i n : ℕ) → first_below f i ≡ None → i < n
    → Agrees {A = A} (Err e) (f i) → Agrees {A = A} (Err e) (first_below f n)
agrees_below A NoMemory f i n h l a = tt
agrees_below A (TooMany what) f i n h l a = first_below-found f i n (TooMany what) h a l
agrees_below A (NotStar kind) f i n h l a = first_below-found f i n (NotStar kind) h a l
agrees_below A WrongFactor f i n h l a = first_below-found f i n WrongFactor h a l
agrees_below A (BadMate ty) f i n h l a = first_below-found f i n (BadMate ty) h a l
agrees_below A (BadLength kind edge) f i n h l a = first_below-found f i n (BadLength kind edge) h a l
agrees_below A (BadSubdivision ty) f i n h l a = first_below-found f i n (BadSubdivision ty) h a l
agrees_below A (ChildEdgeLoose kind child edge) f i n h l a = first_below-found f i n (ChildEdgeLoose kind child edge) h a l
agrees_below A (BoundaryWrong kind edge part) f i n h l a = first_below-found f i n (BoundaryWrong kind edge part) h a l
agrees_below A (Unused kind) f i n h l a = first_below-found f i n (Unused kind) h a l
agrees_below A (GlueWrong ty) f i n h l a = first_below-found f i n (GlueWrong ty) h a l
