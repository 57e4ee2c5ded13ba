-- What reading a header answers, and that it has one outcome.
use mathlib.Core.Path.{◌≡◌, refl, ap, ◌∙◌, sym}
use mathlib.Core.List.{List}
use Prim.Native.Nat.{ℕ}
use borrow.Author.Tests.{eqb-true, not-false}
use Rattle.reasons.specs.Reasons.{Check, good, first_of, check_by}
use Rattle.std.proofs.Common.{Option, Result, Ok, Err}
use Rattle.reasons.specs.declared.Refusal.{Refusal}
use Rattle.reasons.proofs.Rows.{None, good_none, none_good}
use Rattle.reasons.proofs.Rows.None.{none, more}
use Rattle.sheet.specs.declared.Heading.{Heading}
use Rattle.sheet.specs.Sheet.{number4, version_of, words_of, declared_of, rows_beside, check_beside}
use Rattle.sheet.specs.Heading.{heading_rows, headed_by, heading_of}

module _ (s : List ℕ) where
  -- the answer is what the table says
  pub heading_check : check_by (heading_of s) ≡ first_of (heading_rows s)
  unfolding heading_of
  heading_check = go (first_of (heading_rows s))
    where
      go : (c : Check) → check_by (headed_by c (number4 s)) ≡ c
      go (Ok done) = refl
      go (Err refusal) = refl

  -- A sheet that passes a check has its header read: version 1, and the counts by which it runs.
  pub heading_checked : (beside : ℕ) (file start : Option ℕ) → check_beside beside s file start ≡ good
      → heading_of s ≡ Ok (record { version = 1; words = words_of s; registers = declared_of s })
  unfolding heading_of check_beside rows_beside words_of declared_of
  heading_checked beside file start e = go (good_none (rows_beside beside s file start) e)
    where
      go : None (rows_beside beside s file start) → heading_of s ≡ Ok (record { version = 1; words = words_of s; registers = declared_of s })
      go (more h₁ (more h₂ (more h₃ t))) =
          ap (λ (c : Check). headed_by c (number4 s)) (none_good (heading_rows s) (more h₁ (more h₂ (more h₃ none))))
          ∙ ap (λ (v : ℕ). Ok (record { version = v; words = words_of s; registers = declared_of s }))
          (eqb-true (version_of (number4 s)) 1 (not-false _ h₂))

  -- no second answer meets the promise of `read_header`
  pub heading_only : (r r' : Result Heading Refusal) → r ≡ heading_of s → r' ≡ heading_of s → r ≡ r'
  heading_only r r' e e' = e ∙ sym e'
