use Rattle.std.proofs.Common.{◌+◌, ◌-◌, ◌%◌, ◌≤◌, length, ap, arith, rules}
use Rattle.std.proofs.lemmas.List.FromFn.{length-map-range_with_len}
use Rattle.recorder.proofs.Maps.{page_more}
use Rattle.recorder.proofs.chip.Chip.page.Goals as goal

pub push-requires : goal.push-requires
push-requires c =
    (omega arith, omega (arith, ap length c.loop-place.invariant.1, length-map-range_with_len, c.loop-place-test.true, c.loop-place.invariant.0))

pub loop-place-preserved : goal.loop-place-preserved
loop-place-preserved c =
    let here = c.loop-place.invariant.0 in
    (omega (arith, here), page_more _ c.push.ensures.items c.loop-place.invariant.1 c.read.ensures here (omega (arith, here)))

pub returns-2 : goal.returns-2
returns-2 c =
    let end : c.args.address - c.args.address % 32 + 31 ≤ c.loop-place.place = search rules in
    let here = c.loop-place.invariant.0 in
    page_more _ c.push.ensures.items c.loop-place.invariant.1 c.read.ensures here (omega (arith, end, c.loop-place-test.true, here))
