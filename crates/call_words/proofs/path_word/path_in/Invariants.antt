use Rattle.std.proofs.Common.{◌≡◌, ◌-◌, ◌≤◌, [], length, take, drop}
use Rattle.call_words.specs.PathWords.{put, numbers, longest_path}
use Rattle.call_words.proofs.Pieces.{pieces}
use Rattle.call_words.proofs.path_word.path_in.Given as goal

-- the numbers read, and behind them those of the piece that has begun and of the rest, are those of the text
abbrev pub invariant-loop-place : goal.invariant-loop-place
invariant-loop-place l = record {
  begun : l.begin ≤ l.place;
  within : length l.path.items ≤ longest_path;
  same : put l.path.items (numbers (pieces (take (l.place - l.begin) (drop l.begin l.bytes)) (drop l.place l.bytes))) ≡ numbers (pieces [] l.bytes);
}
