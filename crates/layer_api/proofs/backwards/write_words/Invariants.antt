use Rattle.std.proofs.Common.{◌≡◌, ◌*◌, ◌<◌, ◌%◌, take, length}
use Rattle.layer_api.proofs.Words.{in_words}
use Rattle.layer_api.proofs.backwards.write_words.Given as goal

abbrev pub invariant-loop-i : goal.invariant-loop-i
invariant-loop-i l = record {
  room : length l.out ≡ 4 * length l.steps;
  written : l.joined < 8388608 → l.joined % 65536 < 128 → take (4 * l.i) l.out ≡ in_words (take l.i l.steps);
}
