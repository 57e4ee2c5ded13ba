-- A case a turn, each right or missed, and no more missed than counted.
use Rattle.std.proofs.Common.{refl, arith}
use Rattle.std.proofs.iter.Next.{says_at}
use Rattle.lines.proofs.Cases.{tallied_more}
use Rattle.lines.proofs.tallied.Goals as goal

pub loop-preserved : goal.loop-preserved
loop-preserved g c =
    let after = c.counted-tally.ensures in
    record {
      missed_le_cases = after.missed_le_cases.0;
      a_case_a_turn = omega (arith, c.loop.invariant.a_case_a_turn, after.missed_le_cases.1);
      tallied = tallied_more c.read.new.line c.right.result c.loop.invariant.tallied (says_at g.F.Fn c.right.ensures refl) after.value;
    }
