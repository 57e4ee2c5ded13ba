-- Ranges of a word's fields: what it says that none is too large.
use Rattle.std.proofs.Common.{◌≡◌, false, arith}
use Rattle.std.proofs.lemmas.Bool.Decides.{nat_tests}
use Rattle.machine.specs.Inputs.{Sound}
use Rattle.machine.proofs.Round.{loaded_good}
use Rattle.chip.specs.declared.SingleWord.{SingleWord}
use Rattle.chip.specs.Single.{out_of_range, single_inputs}

-- a single word whose fields are in range stands soundly at the chip
pub in_range : (s : SingleWord) → out_of_range s.code s.position s.width s.select s.carry s.link s.borrow ≡ false → Sound (single_inputs s)
unfolding out_of_range
in_range s e = record {
  code = grind (arith, nat_tests);
  position = grind (arith, nat_tests);
  width = grind (arith, nat_tests);
  select = grind (arith, nat_tests);
  carry = grind (arith, nat_tests);
  link = grind (arith, nat_tests);
  borrow = grind (arith, nat_tests);
  status = loaded_good s.status;
}
