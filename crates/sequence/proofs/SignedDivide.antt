-- The signed division comes out exact: its words, of a double-length dividend and of a single-length one.
use mathlib.Core.Path.{◌≡◌, sym, ap, ◌∙◌, subst}
use mathlib.Core.Logic.{◌≢◌}
use mathlib.Core.List.{List, [], ◌∷◌, ◌++◌}
use Prim.Native.Nat.{ℕ, ◌≤◌, ◌<◌}
use native.Mathlib.Nat.{pos_of_ne-zero}
use native.Mathlib.Omega.{arith}
use lib.ListN.{length}
use lib.Signed.{quot_z}
use Rattle.machine.specs.Status.{Good}
use Rattle.chip.specs.declared.Word.{Word}
use Rattle.chip.specs.Lists.{State, execs}
use Rattle.chip.proofs.Words.{execs-append, execs-size}
use Rattle.sheet.specs.Sheet.{WordReady}
use Rattle.sheet.proofs.Positions.{All}
use Rattle.sheet.proofs.Positions.All.{none, more}
use Rattle.run.specs.Run.{Sane}
use Rattle.run.proofs.Laws.{execs_sane}
use Rattle.sequence.specs.Signed.{Fits}
use Rattle.sequence.specs.Sequences.{Ignored, Registers, Different, Unread, bits_in, code_of, words_of, correction_words, signed_divide_opcodes, signed_divide_words}
use Rattle.sequence.specs.Results.{register, signed_in, long_dividend, SignedDivided}
use Rattle.sequence.proofs.Lists.{bits_of_bytes}
use Rattle.sequence.proofs.SignedSteps.{signed_steps}
use Rattle.sequence.proofs.SignedResult.{Tailed, tail, tail-is, tailed, result}

-- ---- the words of it
-- what holds of two lists together holds of each
pub front : {P : Word → Type 0} (xs ys : List Word) → All P (xs ++ ys) → All P xs
front [] ys a = none
front (x ∷ xs) ys (more p a) = more p (front xs ys a)

pub rear : {P : Word → Type 0} (xs ys : List Word) → All P (xs ++ ys) → All P ys
rear [] ys a = a
rear (x ∷ xs) ys (more p a) = rear xs ys a

-- the registers that are written are in the file
remainder_in : (w : ℕ) (r : Registers) (ignored : ℕ → Ignored) (k : ℕ) → All (WordReady k) (words_of (code_of w) r.D r.R (signed_divide_opcodes w) ignored) → r.R < k
unfolding words_of
remainder_in w r ignored k (more p a) = p.y

quotient_in : (w : ℕ) (r : Registers) (free : ℕ → Unread) (k : ℕ) → All (WordReady k) (correction_words w r free) → r.K < k
quotient_in w r free k (more _ (more _ (more _ (more _ (more _ (more p a)))))) = p.y

-- SIGNED DIVIDE. On one to four bytes, with the divisor in register D, not zero, the dividend's high half in register R and its low half in Q, and a
-- zero in the selected bytes of register O: after one SDIVFIRST, n - 1 SDIVSTEP, one SDIVLAST1 and the eight words of the corrections, whatever the
-- status register held before, if the quotient fits n bits then register K holds it, cut towards zero, and register R the remainder: quotient times
-- divisor plus remainder is the dividend, the remainder is smaller in size than the divisor, and is zero or has the dividend's sign. Every other
-- register and all unselected bytes are as before; Q and the status register are as `uncorrected` and `signed_divided_status` have them.
pub signed-divide-exact :
    (w : ℕ) (r : Registers) (ignored : ℕ → Ignored) (free : ℕ → Unread) (t : State) → 1 ≤ w → w ≤ 4 → Different r →
    All (WordReady (length t.file)) (signed_divide_words w r ignored free) → Sane t → register (bits_in w) r.D t ≢ 0 → register (bits_in w) r.O t ≡ 0 →
    Fits (bits_in w) (quot_z (long_dividend (bits_in w) r t) (signed_in (bits_in w) r.D t)) →
    SignedDivided (bits_in w) (long_dividend (bits_in w) r t) r t (execs (signed_divide_words w r ignored free) t)
signed-divide-exact w r ignored free t h1 h4 different ready sane h_d hO fit =
    subst (SignedDivided n (long_dividend n r t) r t) (sym (execs-append steps (correction_words w r free) t))
    (result n r t (omega arith) (omega arith) (omega arith) different (sane.file r.D) (sane.file r.O) hO (pos_of_ne-zero h_d) fit u z
    (λ E δ s d hδ hs o. signed_steps w r.D r.R ignored t E δ s h1 h4 different.divisor_remainder file-r (sane.file r.D) d hδ hs o) good whole)
  where
    n : ℕ
    n = bits_in w

    steps : List Word
    steps = words_of (code_of w) r.D r.R (signed_divide_opcodes w) ignored

    u : State
    u = execs steps t

    z : State
    z = execs (correction_words w r free) u

    file-r : r.R < length t.file
    file-r = remainder_in w r ignored (length t.file) (front steps (correction_words w r free) ready)

    file-k : r.K < length t.file
    file-k = quotient_in w r free (length t.file) (rear steps (correction_words w r free) ready)

    good : Good u.core.status
    good = (execs_sane (length t.file) steps t (front steps (correction_words w r free) ready) sane).status

    in_u : (k : ℕ) → k < length t.file → k < length u.file
    in_u k h = subst (λ (l : ℕ). k < l) (sym (execs-size steps t)) h

    whole : Tailed n r u z
    whole =
        subst (Tailed n r u) (sym (tail-is w r free u good (in_u r.K file-k) different.divisor_quotient different.remainder-quotient ∙ ap (λ (k : ℕ). tail k r u) (bits_of_bytes w h1 h4)))
        (tailed n r u (in_u r.K file-k) (in_u r.R file-r) different.remainder-quotient)
