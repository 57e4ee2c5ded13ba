-- The single word's table of reasons, row by row; that its pins are bits of its status; and that no second answer meets its promise.
use mathlib.Core.Path.{◌≡◌, refl, sym, ap, ap₂, subst, ◌∙◌}
use mathlib.Core.List.{[], ◌∷◌}
use mathlib.Core.Bool.{Bool, true, false}
use Prim.Native.Nat.{◌^◌, ◌<◌}
use Rattle.machine.specs.Pins.{pins_in}
use Rattle.machine.proofs.Pins.{pins-loaded, pins-read}
use Rattle.reasons.specs.declared.Reason.{Reason}
use Rattle.reasons.specs.declared.Reason.TheVariants.{Opcode as NoOpcode, Inputs as BadInputs}
use Rattle.reasons.specs.Reasons.{◌gives◌at◌, first_of, check_numbers}
use Rattle.chip.specs.declared.SingleWord.{SingleWord}
use Rattle.chip.specs.declared.SingleAnswer.{SingleAnswer}
use Rattle.chip.specs.declared.Operation.{Operation}
use Rattle.std.proofs.Common.{Ok, Err}
use Rattle.chip.specs.Glossary.{Page, page_of}
use Rattle.chip.specs.Glossary.Page.{page, no_page}
use Rattle.chip.specs.Operations.{decoded_of}
use Rattle.chip.specs.Single.{is_no_page, lacks_page, out_of_range, single_inputs, single_shown, performed, refused_as, unless, single_of, single_outcome}
use Rattle.chip.proofs.Pages.{page_for, page_decoded, performs}
use Rattle.chip.proofs.Range.{in_range}
use Rattle.chip.proofs.Kept.{meaning_kept, perform_kept}

module _ (s : SingleWord) where
  -- the answer, from the page of the opcode and the test of the inputs
  by_rows : Page → Bool → SingleAnswer
  by_rows p t = unless (first_of ((is_no_page p gives NoOpcode at 0) ∷ (t gives BadInputs at 0) ∷ [])) s

  tested : Bool
  tested = out_of_range s.code s.position s.width s.select s.carry s.link s.borrow

  from_rows : by_rows (page_of s.opcode) tested ≡ single_of s
  unfolding by_rows tested lacks_page single_of
  from_rows = refl

  pub refused-opcode : (r : Reason) → decoded_of s.opcode ≡ Err r → refused_as NoOpcode s ≡ single_of s
  unfolding by_rows
  refused-opcode r e = sym (ap (λ (p : Page). by_rows p tested) (page_decoded s.opcode ∙ ap page_for e)) ∙ from_rows

  pub refused-inputs : (o : Operation) → decoded_of s.opcode ≡ Ok o
      → out_of_range s.code s.position s.width s.select s.carry s.link s.borrow ≡ true → refused_as BadInputs s ≡ single_of s
  unfolding by_rows tested
  refused-inputs o e t = sym (ap₂ by_rows (page_decoded s.opcode ∙ ap page_for e) t) ∙ from_rows

  pub answered : (o : Operation) → decoded_of s.opcode ≡ Ok o
      → out_of_range s.code s.position s.width s.select s.carry s.link s.borrow ≡ false
      → performed (single_shown s) ≡ single_of s
  unfolding by_rows tested
  answered o e t = sym (ap₂ by_rows (page_decoded s.opcode ∙ ap page_for e) t) ∙ from_rows

  -- two answers that meet the promise are one
  pub one_answer : (r q : SingleAnswer) → r ≡ single_of s → q ≡ single_of s → r ≡ q
  one_answer r q e f = e ∙ sym f

  -- the answer's reason and place are the numbers of the table's first row that holds
  numbers_by : (p : Page) (t : Bool) → check_numbers (by_rows p t).check ≡ check_numbers (first_of ((is_no_page p gives NoOpcode at 0) ∷ (t gives BadInputs at 0) ∷ []))
  unfolding by_rows
  numbers_by (page f) true = refl
  numbers_by (page f) false = refl
  numbers_by no_page t = refl

  pub single-numbers : check_numbers (single_of s).check ≡ single_outcome s
  unfolding tested lacks_page
  single-numbers = ap (λ (a : SingleAnswer). check_numbers a.check) (sym from_rows) ∙ numbers_by (page_of s.opcode) tested

  -- the pins are those five bits of the status answered, of every word and of every refusal; A, B and Q have 32 bits
  module _ (a : s.a < 2 ^ 32) (b : s.b < 2 ^ 32) (q : s.q < 2 ^ 32) where
    pins_by : (p : Page) (t : Bool) → tested ≡ t → (by_rows p t).pins ≡ pins_in (by_rows p t).status
    unfolding by_rows tested
    pins_by (page f) true e = pins-loaded s.status
    pins_by (page f) false e = pins-read s.borrow (single_shown s).core.status (perform_kept (single_inputs s) (in_range s e) a b q s.opcode).status
    pins_by no_page t e = pins-loaded s.status

    pub single-pins : (single_of s).pins ≡ pins_in (single_of s).status
    single-pins = subst (λ (r : SingleAnswer). r.pins ≡ pins_in r.status) from_rows (pins_by (page_of s.opcode) tested refl)

-- ---- what the code of the single word asks for
pub ruleset answering = (performs, meaning_kept)

pub ruleset admitting = (refused-inputs, answered, in_range)

pub ruleset single = (refused-opcode, single-numbers, single-pins)
