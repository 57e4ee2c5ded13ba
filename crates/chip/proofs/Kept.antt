-- Every word leaves Y, Q and the status register in range.
use mathlib.Core.Path.{sym, subst}
use Prim.Native.Nat.{ℕ, ◌^◌, ◌<◌}
use lib.Dec.{lit<}
use lib.ListN.{get_or}
use Rattle.machine.specs.declared.Inputs.{Inputs}
use Rattle.machine.specs.Inputs.{Sound, Kept}
use Rattle.machine.proofs.Kept.{result-kept, EachKept, kept_at}
use Rattle.movement.proofs.Kept.{zero_extend-kept, sign_extend-kept, pass_status-kept, pass_q-kept, load-q-kept, load-status-kept, sign_kept, prioritize-kept}
use Rattle.shifts.proofs.Kept.{shifts-kept}
use Rattle.arithmetic.proofs.Kept.{sum_kept, difference-kept, decimals-kept}
use Rattle.multiply.proofs.Kept.{multiplies-kept}
use Rattle.divide.proofs.Kept.{divides-kept}
use Rattle.fields.proofs.Kept.{fields-kept}
use Rattle.reasons.specs.declared.Reason.{Reason}
use Rattle.chip.specs.declared.Operation.{Operation}
use Rattle.chip.specs.declared.Operation.TheVariants.{Basic, Shift, Decimal, Divide, Multiply, Field}
use Rattle.std.proofs.Common.{Result, Ok, Err}
use Rattle.chip.specs.Glossary.{Page, following, perform_of}
use Rattle.arithmetic.specs.Arithmetic.{SUBRC}
use Rattle.chip.specs.Operations.{decoded_of, basics, meaning_of}
use Rattle.chip.proofs.Pages.{page_for, page_decoded}

-- one entry of a list, and those after it
infixr 5 ◌and◌
abbrev ◌and◌ : {P Q : Type 0} → P → Q → P × Q
◌and◌ p q = (p, q)

module _ (x : Inputs) (h : Sound x) (ha : x.a < 2 ^ 32) (hb : x.b < 2 ^ 32) (hq : x.q < 2 ^ 32) where
  basics-kept : (k : ℕ) → Kept (get_or basics k SUBRC x)
  basics-kept = kept_at x basics SUBRC each (difference-kept x h hq _ _ _ x.b hb)
    where
      each : EachKept x basics
      each =
          zero_extend-kept x h hb hq x.a and zero_extend-kept x h hb hq x.b
          and sign_extend-kept x h hb hq x.a and sign_extend-kept x h hb hq x.b
          and pass_status-kept x h hb hq and pass_q-kept x h hb hq
          and load-q-kept x h hb hq x.a and load-q-kept x h hb hq x.b
          and result-kept x _ x.a h hq ha and result-kept x _ x.b h hq hb
          and difference-kept x h hq 0 x.a 1 x.a ha and difference-kept x h hq 0 x.b 1 x.b hb
          and prioritize-kept x h hb hq x.a and prioritize-kept x h hb hq x.b
          and result-kept x _ x.b h hq hb and result-kept x _ x.a h hq ha
          and difference-kept x h hq x.a 1 1 x.a ha and difference-kept x h hq x.b 1 1 x.b hb
          and sum_kept x h hq x.a 1 0 x.borrow x.a ha and sum_kept x h hq x.b 1 0 x.borrow x.b hb
          and difference-kept x h hq x.a 2 1 x.a ha and difference-kept x h hq x.b 2 1 x.b hb
          and sum_kept x h hq x.a 2 0 x.borrow x.a ha and sum_kept x h hq x.b 2 0 x.borrow x.b hb
          and difference-kept x h hq x.a 4 1 x.a ha and difference-kept x h hq x.b 4 1 x.b hb
          and sum_kept x h hq x.a 4 0 x.borrow x.a ha and sum_kept x h hq x.b 4 0 x.borrow x.b hb
          and load-status-kept x h hb hq x.a and load-status-kept x h hb hq x.b
          and result-kept x _ x.b h hq hb and sign_kept x h hb hq
          and result-kept x _ x.b h hq hb and result-kept x _ x.b h hq hb
          and result-kept x _ x.b h hq hb and result-kept x _ x.b h hq hb
          and sum_kept x h hq _ _ _ _ x.b hb and sum_kept x h hq _ _ _ _ x.b hb
          and difference-kept x h hq _ _ _ x.b hb and difference-kept x h hq _ _ _ x.b hb
          and difference-kept x h hq _ _ _ x.b hb and difference-kept x h hq _ _ _ x.b hb
          and tt

  pub meaning_kept : (o : Operation) → Kept (meaning_of o x)
  meaning_kept (Basic k) = basics-kept k
  meaning_kept (Shift k) = shifts-kept x h hq ha hb k
  meaning_kept (Decimal k) = decimals-kept x h hq ha hb k
  meaning_kept (Divide k) = divides-kept x h hb hq k
  meaning_kept (Multiply k) = multiplies-kept x h hb hq k
  meaning_kept (Field k) = fields-kept x h ha hb hq k

  pub perform_kept : (n : ℕ) → Kept (perform_of n x)
  unfolding perform_of
  perform_kept n = subst (λ (p : Page). Kept (following p x)) (sym (page_decoded n)) (decoded (decoded_of n))
    where
      decoded : (d : Result Operation Reason) → Kept (following (page_for d) x)
      decoded (Ok o) = meaning_kept o
      decoded (Err r) = record { y = lit< tt; q = hq; status = h.status }
