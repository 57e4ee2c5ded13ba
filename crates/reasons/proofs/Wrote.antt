-- Calls that write into a lent buffer: what their definition answers, and that nothing else meets it.
use mathlib.Core.Path.{◌≡◌, refl, sym, ap, ◌∙◌}
use mathlib.Core.List.{List}
use Prim.Native.Nat.{ℕ}
use Rattle.std.proofs.Common.{Result, Ok, Err}
use Rattle.reasons.specs.declared.Refusal.{Refusal}
use Rattle.reasons.specs.Reasons.{Check, check_by, check_numbers}
use Rattle.reasons.specs.Output.{Wrote, wrote, wrote_by}

-- the check that it was made by
pub wrote-check : (c : Check) (out d : List ℕ) → check_by (wrote_by c out d).answer ≡ c
wrote-check (Ok done) out d = refl
wrote-check (Err refusal) out d = refl

-- its numbers too
pub numbers_by : {A : Type 0} (r : Result A Refusal) → check_numbers r ≡ check_numbers (check_by r)
numbers_by (Ok v) = refl
numbers_by (Err refusal) = refl

pub wrote-numbers : (c : Check) (out d : List ℕ) {a : Result ℕ Refusal} {b : List ℕ} → wrote a b ≡ wrote_by c out d
    → (wrote a b ≡ wrote_by c out d) × (check_numbers a ≡ check_numbers c)
wrote-numbers c out d {a} e = (e, numbers_by a ∙ ap check_numbers (ap (λ (x : Wrote). check_by x.answer) e ∙ wrote-check c out d))

-- no second answer and buffer
pub one-wrote : (w : Wrote) (a b : Result ℕ Refusal) (l m : List ℕ) → wrote a l ≡ w → wrote b m ≡ w → (a ≡ b) × (l ≡ m)
one-wrote w a b l m e f = (ap (λ (x : Wrote). x.answer) (e ∙ sym f), ap (λ (x : Wrote). x.buffer) (e ∙ sym f))
