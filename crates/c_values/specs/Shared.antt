-- What a handle owns: what a `&'static` to its value owns, at the place that it points to.
use base.Fml.{Fml, ffalse, ftrue}
use denote.RattleType.{RattleType}
use denote.Memory.{hidden_shr}
use denote.RawPtr.{Ptr, block_ptr, null_ptr}
use mathlib.Core.List.{[]}
use Rattle.std.specs.Prelude.{None, Some}
use Rattle.std.specs.declared.option.Option.{Option}

-- the value x of type R is at this place, and is lent forever; no value is at null
abbrev pub shared_at : (R : RattleType) → Ptr → R.Denot → Fml
shared_at R (block_ptr b o) x = hidden_shr R [] x b o
shared_at R null_ptr x = ffalse

-- if there is a value, it is at this place; otherwise the place is arbitrary
abbrev pub slot_at : (R : RattleType) → Ptr → Option R.Denot → Fml
slot_at R p None = ftrue
slot_at R p (Some x) = shared_at R p x
