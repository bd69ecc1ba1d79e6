use Rattle.std.proofs.Common.{◌≡◌, ◌≤◌, ◌<◌, ◌+◌, ◌*◌, ◌++◌, map, drop, length, codes, All}
use Rattle.std.specs.List.{join_with_byte}
use Rattle.layer_api.specs.SvgText.{vertex_text}
use Rattle.layer_svg.specs.Kept.{IsTextKept}
use Rattle.layer_svg.proofs.path.put_path.Given as goal

abbrev pub invariant-loop-number : goal.invariant-loop-number
invariant-loop-number l = record {
  written : l.line ≡ join_with_byte 76 (map (vertex_text l.view) (drop l.number l.outline)) ++ codes "Z\"/>\n";
  inside : l.number < length l.outline;
  kept : All (IsTextKept l.view) l.kept;
  room : length l.line + 44 * l.number ≤ 4 + 44 * length l.outline;
}

abbrev pub decreases-loop-number : goal.decreases-loop-number
decreases-loop-number l = l.number
