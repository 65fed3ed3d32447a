use Rattle.std.proofs.Common.{◌≡◌, ◌-◌, ◌≤◌, [], map}
use Rattle.std.specs.List.{range_with_len}
use Rattle.recorder.specs.Contents.{contents}
use Rattle.recorder.specs.Map.{map_at}
use Rattle.recorder.proofs.chip.Chip.page.Given as goal

-- this place lies at the address or behind it, and the bytes so far are those from the address up to it
abbrev pub invariant-loop-place : goal.invariant-loop-place
invariant-loop-place l = (l.address ≤ l.place) × (l.page.items ≡ map (map_at (contents l.self l.log [])) (range_with_len l.address (l.place - l.address)))
