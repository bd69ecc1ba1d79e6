-- What an exit code says of a status.
use Rattle.std.proofs.Common.{◌≡◌, refl}
use Rattle.call_notes.specs.declared.status.Status.{Status}
use Rattle.call_notes.specs.declared.status.Status.TheVariants.{Done, BadWords, NoLayer, ReadFault, RuleTooLong, RuleRefused, BadAddress, NoEdge, NoVertex, Outside, DepthLimit, CoordLimit, TooManyTiles, StarTooBig, BadScript, BadListing, WriteFault, NoMemory}
use Rattle.call_notes.specs.Status.{code_of, IsCutShort}
use Rattle.c_values.specs.Statuses.{ok, not_text, no_memory}

-- only Done has that of success
pub not_done : (s : Status) → code_of s ≡ ok → s ≡ Done
not_done Done e = refl
not_done (BadWords _) e = absurd (cc e)
not_done (NoLayer _) e = absurd (cc e)
not_done ReadFault e = absurd (cc e)
not_done RuleTooLong e = absurd (cc e)
not_done (RuleRefused _) e = absurd (cc e)
not_done (BadAddress _) e = absurd (cc e)
not_done (NoEdge _ _) e = absurd (cc e)
not_done (NoVertex _ _) e = absurd (cc e)
not_done (Outside _ _) e = absurd (cc e)
not_done (DepthLimit _ _) e = absurd (cc e)
not_done (CoordLimit _) e = absurd (cc e)
not_done TooManyTiles e = absurd (cc e)
not_done StarTooBig e = absurd (cc e)
not_done (BadScript _) e = absurd (cc e)
not_done (BadListing _) e = absurd (cc e)
not_done WriteFault e = absurd (cc e)
not_done NoMemory e = absurd (cc e)

-- none has that of a text that is no text
pub is_text : (s : Status) → ¬ code_of s ≡ not_text
is_text Done e = absurd (cc e)
is_text (BadWords _) e = absurd (cc e)
is_text (NoLayer _) e = absurd (cc e)
is_text ReadFault e = absurd (cc e)
is_text RuleTooLong e = absurd (cc e)
is_text (RuleRefused _) e = absurd (cc e)
is_text (BadAddress _) e = absurd (cc e)
is_text (NoEdge _ _) e = absurd (cc e)
is_text (NoVertex _ _) e = absurd (cc e)
is_text (Outside _ _) e = absurd (cc e)
is_text (DepthLimit _ _) e = absurd (cc e)
is_text (CoordLimit _) e = absurd (cc e)
is_text TooManyTiles e = absurd (cc e)
is_text StarTooBig e = absurd (cc e)
is_text (BadScript _) e = absurd (cc e)
is_text (BadListing _) e = absurd (cc e)
is_text WriteFault e = absurd (cc e)
is_text NoMemory e = absurd (cc e)

-- want of memory has its own
pub has_memory : (s : Status) → ¬ IsCutShort s → ¬ code_of s ≡ no_memory
has_memory Done whole e = absurd (cc e)
has_memory (BadWords _) whole e = absurd (cc e)
has_memory (NoLayer _) whole e = absurd (cc e)
has_memory ReadFault whole e = whole tt
has_memory RuleTooLong whole e = absurd (cc e)
has_memory (RuleRefused _) whole e = absurd (cc e)
has_memory (BadAddress _) whole e = absurd (cc e)
has_memory (NoEdge _ _) whole e = absurd (cc e)
has_memory (NoVertex _ _) whole e = absurd (cc e)
has_memory (Outside _ _) whole e = absurd (cc e)
has_memory (DepthLimit _ _) whole e = absurd (cc e)
has_memory (CoordLimit _) whole e = absurd (cc e)
has_memory TooManyTiles whole e = absurd (cc e)
has_memory StarTooBig whole e = absurd (cc e)
has_memory (BadScript _) whole e = absurd (cc e)
has_memory (BadListing _) whole e = absurd (cc e)
has_memory WriteFault whole e = absurd (cc e)
has_memory NoMemory whole e = whole tt
