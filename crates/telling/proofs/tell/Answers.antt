-- The parts of the line one after another, each with room for it.
use mathlib.Core.Path.{ap, ◌∙◌}
use Prim.Native.Nat.{◌≤◌}
use native.Mathlib.Omega.{arith}
use lib.ListN.{length}
use Rattle.text.proofs.Fill.{added_as, added_on, added-written}
use Rattle.telling.specs.Telling.{placed, told_of}
use Rattle.telling.proofs.Telling.{numbers-length, name_length, place-length, expected_length, told-length}
use Rattle.telling.proofs.tell.Goals as goal

pub put-spot-requires : goal.put-spot-requires
put-spot-requires c =
    omega (
      arith,
      c.requires.0,
      c.requires.1,
      ap length c.numbers-two.ensures ∙ numbers-length c.args.reason c.args.place,
      c.put-start.ensures.ends,
      c.put-start.auto.text,
      ap length c.words.ensures.name,
      name_length c.args.reason,
    )

pub put_place-colon-requires : goal.put_place-colon-requires
put_place-colon-requires c =
    omega (
      arith,
      c.requires.0,
      c.requires.1,
      ap length c.numbers-two.ensures ∙ numbers-length c.args.reason c.args.place,
      c.put-start.ensures.ends,
      c.put-start.auto.text,
      ap length c.words.ensures.name,
      name_length c.args.reason,
      c.put-spot.ensures.ends,
      c.put-spot.auto.text,
    )

pub put-what-requires : goal.put-what-requires
put-what-requires c =
    omega (
      arith,
      c.requires.0,
      c.requires.1,
      ap length c.numbers-two.ensures ∙ numbers-length c.args.reason c.args.place,
      c.put-start.ensures.ends,
      c.put-start.auto.text,
      ap length c.words.ensures.name,
      name_length c.args.reason,
      c.put-spot.ensures.ends,
      c.put-spot.auto.text,
      c.put_place-colon.ensures.ends,
      c.put_place-colon.auto.text,
      place-length (placed c.args.reason) c.args.counted.now c.args.place,
    )

pub put-end-requires : goal.put-end-requires
put-end-requires c =
    omega (
      arith,
      c.requires.0,
      c.requires.1,
      ap length c.numbers-two.ensures ∙ numbers-length c.args.reason c.args.place,
      c.put-start.ensures.ends,
      c.put-start.auto.text,
      ap length c.words.ensures.name,
      name_length c.args.reason,
      c.put-spot.ensures.ends,
      c.put-spot.auto.text,
      c.put_place-colon.ensures.ends,
      c.put_place-colon.auto.text,
      place-length (placed c.args.reason) c.args.counted.now c.args.place,
      c.put-what.ensures.ends,
      c.put-what.auto.text,
      ap length c.words.ensures.expected,
      expected_length c.args.reason,
    )

pub put-requires : goal.put-requires
put-requires c =
    omega (
      arith,
      c.requires.0,
      c.requires.1,
      ap length c.numbers-two.ensures ∙ numbers-length c.args.reason c.args.place,
      c.put-start.ensures.ends,
      c.put-start.auto.text,
      ap length c.words.ensures.name,
      name_length c.args.reason,
      c.put-spot.ensures.ends,
      c.put-spot.auto.text,
      c.put_place-colon.ensures.ends,
      c.put_place-colon.auto.text,
      place-length (placed c.args.reason) c.args.counted.now c.args.place,
      c.put-what.ensures.ends,
      c.put-what.auto.text,
      ap length c.words.ensures.expected,
      expected_length c.args.reason,
      c.put-end.ensures.ends,
      c.put-end.auto.text,
    )

pub returns : goal.returns
unfolding told_of
returns c =
    let h : 0 ≤ length c.args.text.now = omega arith in
    added-written (omega (arith, told-length c.args.reason c.args.place c.args.counted.now c.requires.1, c.requires.0))
    (added_on h (added_on h (added_on h (added_on h (added_on h (added_as c.numbers-two.ensures c.put-start.ensures) (added_as c.words.ensures.name c.put-spot.ensures))
    c.put_place-colon.ensures) c.put-what.ensures) (added_as c.words.ensures.expected c.put-end.ensures)) c.put.ensures)
