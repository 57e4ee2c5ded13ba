-- The sequences come out exact as they stand in a sheet: running the sheet gives the product, the quotient and remainder, the decimal result, the
-- comparison.
use mathlib.Core.Path.{◌≡◌, sym, ap, ◌∙◌, subst}
use mathlib.Core.Logic.{◌≢◌}
use mathlib.Core.List.{List, [], ◌∷◌, ◌++◌}
use Prim.Native.Nat.{ℕ, ◌≤◌, ◌<◌}
use lib.ListN.{length, drop}
use lib.Signed.{quot_z}
use Rattle.bits.specs.Bits.{selected}
use Rattle.machine.specs.declared.Machine.{Machine}
use Rattle.machine.specs.Status.{carry_mode, as_read}
use Rattle.machine.specs.Inputs.{Sound}
use Rattle.machine.proofs.Handed.{taken_good}
use Rattle.std.proofs.Common.{Some, Ok}
use Rattle.chip.specs.declared.Word.{Word}
use Rattle.chip.specs.Lists.{State, execs}
use Rattle.chip.proofs.Words.{execs-append}
use Rattle.sheet.specs.Sheet.{executions_of, WordReady}
use Rattle.sheet.proofs.Positions.{All, all_take, all_drop}
use Rattle.sheet.proofs.Positions.All.{more}
use Rattle.sheet.proofs.Table.{ready}
use Rattle.run.specs.Run.{Sane, Ended, entering, ran}
use Rattle.run.proofs.Laws.{each_ready, word_sound, execs_sane}
use Rattle.run.proofs.Parts.{run_is, entering_sane, back}
use Rattle.sequence.specs.Signed.{Fits}
use Rattle.sequence.specs.Sequences.{Ignored, Registers, Different, Unread, bits_in, words_of as listed, multiply_words, divide_words, signed_multiply_words, signed_divide_words, single_divide_words}
use Rattle.sequence.specs.Results.{register, signed_in, long_dividend, TooLarge, Multiplied, Divided, SignedMultiplied, SignedDivided}
use Rattle.sequence.specs.Decimal.{DecimalOperation, additions, subtractions, Side, Side.at_A, Side.at_B, Layout, calculation, correction_at, decimal_words, sum_words, difference_words, facing, Summed, TakenAway, SumExact, DifferenceExact, Each}
use Rattle.sequence.specs.Compare.{unsigned_at_most, Compared, Compares, Picks}
use Rattle.sequence.specs.OnSheets.{Stands, Accepted, handed, run_on, SumOnSheet, DifferenceOnSheet}
use Rattle.sequence.proofs.Multiply.{multiply-exact, signed-multiply-exact}
use Rattle.sequence.proofs.Divide.{divide-exact}
use Rattle.sequence.proofs.SignedDivide.{front, rear, signed-divide-exact}
use Rattle.sequence.proofs.SingleDivide.{single-divide-exact}
use Rattle.sequence.proofs.Compare.{word_compares, word_links}
use Rattle.sequence.proofs.Decimal.{each, decimal_sums_exact, decimal_differences_exact}

module _ (s file : List ℕ) (m : Machine) (start : ℕ) (call : Accepted s file m start) where
  sane : Sane (entering file m)
  sane = entering_sane file m call.registers call.q

  module _ (ws : List Word) (stands : Stands s start ws) where
    -- the call runs the words, and them alone
    runs : run_on s file m start ws ≡ ran ws (entering file m)
    runs = run_is s file m start (length ws) call.passed ∙ ap (λ (l : List Word). ran l (entering file m)) stands

    -- each can be run on the file
    fit : All (WordReady (length file)) ws
    fit =
        subst (All (WordReady (length file))) stands
        (all_take _ (length ws) (drop start (executions_of s)) (all_drop _ start (executions_of s) (each_ready s (length file) (ready s (length file) (Some start) call.passed))))

    -- A run of words that stand in an accepted sheet is done, counts them, and hands back what they leave one after another.
    pub run-leaves : handed (run_on s file m start ws) ≡ execs ws (entering file m)
    run-leaves = ap handed runs ∙ back (execs ws (entering file m)) (execs_sane (length file) ws (entering file m) fit sane)

    pub run_counts : (run_on s file m start ws).answer.outcome ≡ Ok (length ws)
    run_counts = ap (λ (e : Ended). e.answer.outcome) runs

  -- the first of them: its registers are in the file
  first_ready : (w : Word) (ws : List Word) → Stands s start (w ∷ ws) → WordReady (length file) w
  first_ready w ws stands = go (fit (w ∷ ws) stands)
    where
      go : All (WordReady (length file)) (w ∷ ws) → WordReady (length file) w
      go (more r a) = r

  -- MULTIPLY ON A SHEET. Where the multiply list of registers a and b stands in an accepted sheet, running it leaves the high half of the exact
  -- product in register b and the low half in Q, on one to four bytes, and all else as it was, but for Z and M as `multiplied_status` has them.
  pub sheet_multiplies : (w a b : ℕ) (ignored : ℕ → Ignored) → 1 ≤ w → w ≤ 4 → a ≢ b → Stands s start (multiply_words w a b ignored)
      → Multiplied (bits_in w) a b (entering file m) (handed (run_on s file m start (multiply_words w a b ignored)))
  unfolding listed
  sheet_multiplies w a b ignored h1 h4 ab stands =
      subst (λ (t : State). Multiplied (bits_in w) a b (entering file m) t) (sym (run-leaves (multiply_words w a b ignored) stands))
      (multiply-exact w a b ignored (entering file m) h1 h4 ab (first_ready _ _ stands).b)

  -- SIGNED MULTIPLY ON A SHEET. Where the signed multiply list stands in an accepted sheet, running it leaves the two halves of the exact product in
  -- register b and Q, all in two's complement, and all else as it was, but for M, which is the sign bit of the multiplier.
  pub sheet_multiplies-signed : (w a b : ℕ) (ignored : ℕ → Ignored) → 1 ≤ w → w ≤ 4 → a ≢ b → Stands s start (signed_multiply_words w a b ignored)
      → SignedMultiplied (bits_in w) a b (entering file m) (handed (run_on s file m start (signed_multiply_words w a b ignored)))
  unfolding listed
  sheet_multiplies-signed w a b ignored h1 h4 ab stands =
      subst (λ (t : State). SignedMultiplied (bits_in w) a b (entering file m) t) (sym (run-leaves (signed_multiply_words w a b ignored) stands))
      (signed-multiply-exact w a b ignored (entering file m) h1 h4 ab (first_ready _ _ stands).b)

  -- DIVIDE ON A SHEET. With the selected bytes of register b zero and those of register a not, Q gets the exact quotient and register b the
  -- remainder, below the divisor; the status register is as `divided_status` has it.
  pub sheet_divides : (w a b : ℕ) (ignored : ℕ → Ignored) → 1 ≤ w → w ≤ 4 → a ≢ b → Stands s start (divide_words w a b ignored)
      → register (bits_in w) a (entering file m) ≢ 0 → register (bits_in w) b (entering file m) ≡ 0
      → Divided (bits_in w) a b (entering file m) (handed (run_on s file m start (divide_words w a b ignored)))
  unfolding listed
  sheet_divides w a b ignored h1 h4 ab stands hd hb =
      subst (λ (t : State). Divided (bits_in w) a b (entering file m) t) (sym (run-leaves (divide_words w a b ignored) stands))
      (divide-exact w a b ignored (entering file m) h1 h4 ab (first_ready _ _ stands).b (call.registers a) hd hb)

  -- SIGNED DIVIDE ON A SHEET. With a divisor that is not zero in register D, zero in the selected bytes of register O, and a dividend of two halves in
  -- register R and Q whose quotient fits: register K gets the quotient, cut towards zero, and register R the remainder, all in two's complement.
  pub sheet_divides-signed : (w : ℕ) (r : Registers) (ignored : ℕ → Ignored) (free : ℕ → Unread) → 1 ≤ w → w ≤ 4 → Different r → Stands s start (signed_divide_words w r ignored free)
      → register (bits_in w) r.D (entering file m) ≢ 0 → register (bits_in w) r.O (entering file m) ≡ 0
      → Fits (bits_in w) (quot_z (long_dividend (bits_in w) r (entering file m)) (signed_in (bits_in w) r.D (entering file m)))
      → SignedDivided (bits_in w) (long_dividend (bits_in w) r (entering file m)) r (entering file m) (handed (run_on s file m start (signed_divide_words w r ignored free)))
  sheet_divides-signed w r ignored free h1 h4 different stands hd ho fits =
      subst (SignedDivided (bits_in w) (long_dividend (bits_in w) r (entering file m)) r (entering file m)) (sym (run-leaves (signed_divide_words w r ignored free) stands))
      (signed-divide-exact w r ignored free (entering file m) h1 h4 different (fit (signed_divide_words w r ignored free) stands) sane hd ho fits)

  -- SIGNED DIVIDE, SINGLE LENGTH, ON A SHEET. A dividend in register x likewise, but for the most negative over -1.
  pub sheet_divides-single : (w x : ℕ) (r : Registers) (load sign : Unread) (ignored : ℕ → Ignored) (free : ℕ → Unread) → 1 ≤ w → w ≤ 4 → Different r
      → Stands s start (single_divide_words w x r load sign ignored free)
      → register (bits_in w) r.D (entering file m) ≢ 0 → register (bits_in w) r.O (entering file m) ≡ 0 → (TooLarge (bits_in w) x r (entering file m) → ⊥)
      → SignedDivided (bits_in w) (signed_in (bits_in w) x (entering file m)) r (entering file m) (handed (run_on s file m start (single_divide_words w x r load sign ignored free)))
  sheet_divides-single w x r load sign ignored free h1 h4 different stands hd ho large =
      subst (SignedDivided (bits_in w) (signed_in (bits_in w) x (entering file m)) r (entering file m)) (sym (run-leaves (single_divide_words w x r load sign ignored free) stands))
      (single-divide-exact w x r load sign ignored free (entering file m) h1 h4 different (fit (single_divide_words w x r load sign ignored free) stands) sane hd ho large)

  -- words, and then others: those before can be run, and those after on what they leave
  module _ (ws vs : List Word) (stands : Stands s start (ws ++ vs)) where
    abbrev t : State
    t = execs ws (entering file m)

    sane_there : Sane t
    sane_there = execs_sane (length file) ws (entering file m) (front ws vs (fit (ws ++ vs) stands)) sane

    fit_there : All (WordReady (length file)) vs
    fit_there = rear ws vs (fit (ws ++ vs) stands)

    leaves-then : handed (run_on s file m start (ws ++ vs)) ≡ execs vs t
    leaves-then = run-leaves (ws ++ vs) stands ∙ execs-append ws vs (entering file m)

    status-then : (run_on s file m start (ws ++ vs)).answer.machine.status ≡ as_read carry_mode (execs vs t).core.status
    status-then = ap (λ (e : Ended). e.answer.machine.status) (runs (ws ++ vs) stands) ∙ ap (λ (u : State). as_read carry_mode u.core.status) (execs-append ws vs (entering file m))

  -- COMPARE ON A SHEET. A run in an accepted sheet that ends with a SUB or SUBR in carry mode hands back a status whose bits 13, 14 and 15 compare the
  -- operands, whatever words ran before.
  pub sheet_compares : (ws : List Word) (w : Word) (a b : ℕ) → Stands s start (ws ++ (w ∷ [])) → w.borrow ≡ carry_mode → Compares w (execs ws (entering file m)) a b
      → Compared (selected w.code) a b (run_on s file m start (ws ++ (w ∷ []))).answer.machine.status
  unfolding execs
  sheet_compares ws w a b stands mode c = go (fit_there ws (w ∷ []) stands)
    where
      go : All (WordReady (length file)) (w ∷ []) → Compared (selected w.code) a b (run_on s file m start (ws ++ (w ∷ []))).answer.machine.status
      go (more r rest) = rw (status-then ws (w ∷ []) stands, ← mode) (word_compares w _ r (sane_there ws (w ∷ []) stands) c)

  -- BRANCH ON A SHEET. A run that ends with such a word in either mode, and EXTBIT-STAT of bit 13 in the same, leaves in L whether the first operand is less
  -- than or equal to the second as unsigned numbers.
  pub sheet_picks : (ws : List Word) (w v : Word) (a b : ℕ) → Stands s start (ws ++ (w ∷ v ∷ [])) → Compares w (execs ws (entering file m)) a b → Picks w.borrow v
      → (handed (run_on s file m start (ws ++ (w ∷ v ∷ [])))).core.status.l ≡ unsigned_at_most (selected w.code) a b
  unfolding execs
  sheet_picks ws w v a b stands c p = go (fit_there ws (w ∷ v ∷ []) stands)
    where
      go : All (WordReady (length file)) (w ∷ v ∷ []) → (handed (run_on s file m start (ws ++ (w ∷ v ∷ [])))).core.status.l ≡ unsigned_at_most (selected w.code) a b
      go (more r rest) = ap (λ (u : State). u.core.status.l) (leaves-then ws (w ∷ v ∷ []) stands) ∙ word_links w _ r (sane_there ws (w ∷ v ∷ []) stands) v c p

  -- the two words of a decimal operation stand soundly at the chip, on registers of the file
  module _ (o : DecimalOperation) (correction : ℕ) (d : Layout) (stands : Stands s start (decimal_words o.opcode correction d)) where
    calculates : WordReady (length file) (calculation o.opcode d)
    calculates = first_ready (calculation o.opcode d) (correction_at d.side correction d ∷ []) stands

    sound : Sound (facing o d (entering file m))
    sound = word_sound (length file) (calculation o.opcode d) (entering file m) calculates (taken_good m)

    in_file-z : d.z < length file
    in_file-z = go d.side (fit (decimal_words o.opcode correction d) stands)
      where
        go : (side : Side) → All (WordReady (length file)) (calculation o.opcode d ∷ correction_at side correction d ∷ []) → d.z < length file
        go at_A (more r (more q a)) = q.y
        go at_B (more r (more q a)) = q.y

  -- DECIMAL SUMS ON A SHEET. Where an addition of the table and its correction stand in an accepted sheet, and the selected nibbles of the operands
  -- are digits, running the two leaves the decimal sum, with its carry in C and the status that goes with it, and all else as it was.
  pub sheet_sums : Each (SumOnSheet s file m start) additions
  sheet_sums =
      each {P = SumExact} {Q = SumOnSheet s file m start}
      (λ o exact d stands v. subst (Summed o d (entering file m)) (sym (run-leaves (sum_words o d) stands))
      (exact d (entering file m) (calculates o 0x48 d stands).y (in_file-z o 0x48 d stands) (sound o 0x48 d stands) v))
      additions decimal_sums_exact

  -- DECIMAL DIFFERENCES ON A SHEET. A subtraction and its correction likewise leave the decimal difference.
  pub sheet_differences : Each (DifferenceOnSheet s file m start) subtractions
  sheet_differences =
      each {P = DifferenceExact} {Q = DifferenceOnSheet s file m start}
      (λ o exact d stands v. subst (TakenAway o d (entering file m)) (sym (run-leaves (difference_words o d) stands))
      (exact d (entering file m) (calculates o 0x4a d stands).y (in_file-z o 0x4a d stands) (sound o 0x4a d stands) (call.registers d.a) (call.registers d.b) v))
      subtractions decimal_differences_exact
