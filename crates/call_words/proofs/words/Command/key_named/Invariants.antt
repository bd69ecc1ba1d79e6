use Rattle.std.proofs.Common.{◌≡◌, drop}
use Rattle.std.specs.List.{find}
use Rattle.std.specs.Str.{bytes_eq}
use Rattle.call_words.specs.Commands.{key_text, keys_of}
use Rattle.call_words.proofs.words.Command.key_named.Given as goal

-- no key before has this name
abbrev pub invariant-loop-key : goal.invariant-loop-key
invariant-loop-key l =
    find (λ key. bytes_eq l.name (key_text key)) (drop l.key-index l.key-items)
    ≡ find (λ key. bytes_eq l.name (key_text key)) (keys_of l.fn.self)
