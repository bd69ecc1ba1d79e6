-- Clauses one after another: the first fault of a list is that of its front, or of its rest where the front has none.
use Rattle.std.proofs.Common.{◌≡◌, List, [], ◌∷◌, ◌++◌, Option, Some, None, Result, Ok, Err, refl, sym, subst}
use Rattle.theory_addresses.specs.Search.{first_some}
use Rattle.dissect_check.specs.declared.check_fault.CheckFault.{CheckFault}
use Rattle.dissect_check.specs.declared.check_fault.CheckFault.TheVariants.{TooMany, NotStar, WrongFactor, BadMate, BadLength, BadSubdivision, ChildEdgeLoose, BoundaryWrong, Unused, GlueWrong, NoMemory}
use Rattle.dissect_check.specs.Agrees.{Agrees, IsOkOrMemory}

-- the front has a fault
first_of_front : (fs gs : List (Option CheckFault)) (e : CheckFault) → first_some fs ≡ Some e → first_some (fs ++ gs) ≡ Some e
first_of_front [] gs e h = absurd (cc)
first_of_front (Some d ∷ fs) gs e h = h
first_of_front (None ∷ fs) gs e h = first_of_front fs gs e h

-- the front has none
pub first_of_rest : (fs gs : List (Option CheckFault)) → first_some fs ≡ None → first_some (fs ++ gs) ≡ first_some gs
first_of_rest [] gs h = refl
first_of_rest (Some d ∷ fs) gs h = absurd (cc)
first_of_rest (None ∷ fs) gs h = first_of_rest fs gs h

-- an answer with the fault of the front has that of all
pub agrees_front : (A : Type 0) (e : CheckFault) (fs gs : List (Option CheckFault)) → Some e ≡ first_some fs
    → Agrees {A = A} (Err e) (first_some (fs ++ gs))
agrees_front A NoMemory fs gs h = tt
agrees_front A (TooMany what) fs gs h = first_of_front fs gs (TooMany what) (sym h)
agrees_front A (NotStar kind) fs gs h = first_of_front fs gs (NotStar kind) (sym h)
agrees_front A WrongFactor fs gs h = first_of_front fs gs WrongFactor (sym h)
agrees_front A (BadMate ty) fs gs h = first_of_front fs gs (BadMate ty) (sym h)
agrees_front A (BadLength kind edge) fs gs h = first_of_front fs gs (BadLength kind edge) (sym h)
agrees_front A (BadSubdivision ty) fs gs h = first_of_front fs gs (BadSubdivision ty) (sym h)
agrees_front A (ChildEdgeLoose kind child edge) fs gs h = first_of_front fs gs (ChildEdgeLoose kind child edge) (sym h)
agrees_front A (BoundaryWrong kind edge part) fs gs h = first_of_front fs gs (BoundaryWrong kind edge part) (sym h)
agrees_front A (Unused kind) fs gs h = first_of_front fs gs (Unused kind) (sym h)
agrees_front A (GlueWrong ty) fs gs h = first_of_front fs gs (GlueWrong ty) (sym h)

-- an answer that is a fault has it as an answer of another type
pub agrees_as : (A B : Type 0) (e : CheckFault) (f : Option CheckFault) → Agrees {A = A} (Err e) f → Agrees {A = B} (Err e) f
agrees_as A B NoMemory f h = tt
agrees_as A B (TooMany what) f h = h
agrees_as A B (NotStar kind) f h = h
agrees_as A B WrongFactor f h = h
agrees_as A B (BadMate ty) f h = h
agrees_as A B (BadLength kind edge) f h = h
agrees_as A B (BadSubdivision ty) f h = h
agrees_as A B (ChildEdgeLoose kind child edge) f h = h
agrees_as A B (BoundaryWrong kind edge part) f h = h
agrees_as A B (Unused kind) f h = h
agrees_as A B (GlueWrong ty) f h = h

alone : (f : Option CheckFault) (e : CheckFault) → f ≡ Some e → first_some (f ∷ []) ≡ Some e
alone None e h = absurd (cc)
alone (Some d) e h = h

-- a fault of the first clause, and one of those behind it
pub agrees_first : (A B : Type 0) (e : CheckFault) (f : Option CheckFault) (fs : List (Option CheckFault))
    → Agrees {A = A} (Err e) f → Agrees {A = B} (Err e) (first_some (f ∷ fs))
agrees_first A B NoMemory f fs h = tt
agrees_first A B (TooMany what) f fs h = first_of_front (f ∷ []) fs (TooMany what) (alone f (TooMany what) h)
agrees_first A B (NotStar kind) f fs h = first_of_front (f ∷ []) fs (NotStar kind) (alone f (NotStar kind) h)
agrees_first A B WrongFactor f fs h = first_of_front (f ∷ []) fs WrongFactor (alone f WrongFactor h)
agrees_first A B (BadMate ty) f fs h = first_of_front (f ∷ []) fs (BadMate ty) (alone f (BadMate ty) h)
agrees_first A B (BadLength kind edge) f fs h = first_of_front (f ∷ []) fs (BadLength kind edge) (alone f (BadLength kind edge) h)
agrees_first A B (BadSubdivision ty) f fs h = first_of_front (f ∷ []) fs (BadSubdivision ty) (alone f (BadSubdivision ty) h)
agrees_first A B (ChildEdgeLoose kind child edge) f fs h = first_of_front (f ∷ []) fs
    (ChildEdgeLoose kind child edge) (alone f (ChildEdgeLoose kind child edge) h)
agrees_first A B (BoundaryWrong kind edge part) f fs h = first_of_front (f ∷ []) fs
    (BoundaryWrong kind edge part) (alone f (BoundaryWrong kind edge part) h)
agrees_first A B (Unused kind) f fs h = first_of_front (f ∷ []) fs (Unused kind) (alone f (Unused kind) h)
agrees_first A B (GlueWrong ty) f fs h = first_of_front (f ∷ []) fs (GlueWrong ty) (alone f (GlueWrong ty) h)

pub agrees_behind : (A B : Type 0) (e : CheckFault) (fs gs : List (Option CheckFault)) → first_some fs ≡ None
    → Agrees {A = A} (Err e) (first_some gs) → Agrees {A = B} (Err e) (first_some (fs ++ gs))
agrees_behind A B e fs gs h a = agrees_as A B e (first_some (fs ++ gs)) (subst (λ f. Agrees {A = A} (Err e) f) (sym (first_of_rest fs gs h)) a)

-- without a fault the answer is Ok, or want of memory
pub ok_or_memory : {A : Type 0} (x : Result A CheckFault) (f : Option CheckFault) → Agrees x f → f ≡ None → IsOkOrMemory x
ok_or_memory (Ok x) f a h = tt
ok_or_memory (Err NoMemory) f a h = tt
ok_or_memory (Err (TooMany what)) f a h = absurd (cc)
ok_or_memory (Err (NotStar kind)) f a h = absurd (cc)
ok_or_memory (Err WrongFactor) f a h = absurd (cc)
ok_or_memory (Err (BadMate ty)) f a h = absurd (cc)
ok_or_memory (Err (BadLength kind edge)) f a h = absurd (cc)
ok_or_memory (Err (BadSubdivision ty)) f a h = absurd (cc)
ok_or_memory (Err (ChildEdgeLoose kind child edge)) f a h = absurd (cc)
ok_or_memory (Err (BoundaryWrong kind edge part)) f a h = absurd (cc)
ok_or_memory (Err (Unused kind)) f a h = absurd (cc)
ok_or_memory (Err (GlueWrong ty)) f a h = absurd (cc)
