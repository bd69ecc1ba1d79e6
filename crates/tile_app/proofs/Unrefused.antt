-- What no request is refused for: what is tested before it is looked at.
use Rattle.std.proofs.Common.{ℕ, List}
use Rattle.call_words.specs.Request.{Request}
use Rattle.call_words.specs.Request.Request.{Check, Calc, Drill}
use Rattle.layer_api.specs.declared.format.Format.{Format}
use Rattle.rule_model.specs.Tiling.{Tiling}
use Rattle.call_notes.specs.declared.rule_fault.RuleFault.{RuleFault}
use Rattle.call_notes.specs.declared.script_fault.ScriptFault.TheVariants as script
use Rattle.call_notes.specs.declared.status.Status.TheVariants.{BadWords, NoLayer, ReadFault, RuleTooLong, RuleRefused, BadScript}
use Rattle.tile_app.specs.Answer.{Refuses}

-- its words
pub no_words : (file : List ℕ) (t : Tiling) (place : ℕ) (p : Request) → Refuses p file t (BadWords place) → ⊥
no_words file t place (Check rule) k = k
no_words file t place (Calc name) k = k
no_words file t place (Drill rule count seed) k = k
no_words file t place q k = k.holds

-- a format without a layer
pub no_layer : (file : List ℕ) (t : Tiling) (format : Format) (p : Request) → Refuses p file t (NoLayer format) → ⊥
no_layer file t format (Check rule) k = k
no_layer file t format (Calc name) k = k
no_layer file t format (Drill rule count seed) k = k
no_layer file t format q k = k.holds

-- a fault of the source
pub no_read_fault : (file : List ℕ) (t : Tiling) (p : Request) → Refuses p file t ReadFault → ⊥
no_read_fault file t (Check rule) k = k
no_read_fault file t (Calc name) k = k
no_read_fault file t (Drill rule count seed) k = k
no_read_fault file t q k = k.holds

-- a rule file that is too long
pub no_long_rule : (file : List ℕ) (t : Tiling) (p : Request) → Refuses p file t RuleTooLong → ⊥
no_long_rule file t (Check rule) k = k
no_long_rule file t (Calc name) k = k
no_long_rule file t (Drill rule count seed) k = k
no_long_rule file t q k = k.holds

-- a faulty rule file
pub no_rule : (file : List ℕ) (t : Tiling) (fault : RuleFault) (p : Request) → Refuses p file t (RuleRefused fault) → ⊥
no_rule file t fault (Check rule) k = k
no_rule file t fault (Calc name) k = k
no_rule file t fault (Drill rule count seed) k = k
no_rule file t fault q k = k.holds

-- a script that is too long
pub no_long_script : (file : List ℕ) (t : Tiling) (p : Request) → Refuses p file t (BadScript script.TooLong) → ⊥
no_long_script file t (Check rule) k = k
no_long_script file t (Calc name) k = k
no_long_script file t (Drill rule count seed) k = k
no_long_script file t q k = k.holds
