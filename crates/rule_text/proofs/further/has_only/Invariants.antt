use Rattle.std.proofs.Common.{◌≡◌, map, string_bytes}
use Rattle.std.specs.List.{list_all}
use Rattle.std.specs.Map.{keys_of}
use Rattle.rule_text.specs.Steps.{is_key_among}
use Rattle.rule_text.proofs.further.has_only.Given as goal

abbrev pub invariant-loop-key : goal.invariant-loop-key
invariant-loop-key l =
    list_all (λ k. is_key_among (map (λ name. name.now) l.names) (string_bytes k)) l.key-iterator
    ≡ list_all (λ k. is_key_among (map (λ name. name.now) l.names) (string_bytes k)) (keys_of l.table.entries)
