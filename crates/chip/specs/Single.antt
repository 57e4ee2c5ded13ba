-- The single word: any values handed in, refused in the order 1 Opcode, 2 Inputs, or performed.
use Rattle.std.specs.Prelude.{List, [], ◌∷◌, Bool, true, false, ◌||◌, ℕ, ltb, Ok, Err}
use Rattle.bits.specs.Bits.{parity_of}
use Rattle.machine.specs.declared.Inputs.{Inputs}
use Rattle.machine.specs.declared.Core.{Core}
use Rattle.machine.specs.declared.Shown.{Shown}
use Rattle.machine.specs.Core.{taken, shown_by, shown_status}
use Rattle.machine.specs.Status.{loaded}
use Rattle.machine.specs.Pins.{pins_of}
use Rattle.reasons.specs.declared.Reason.{Reason}
use Rattle.reasons.specs.declared.Reason.TheVariants.{Opcode, Inputs as InputsReason}
use Rattle.reasons.specs.declared.Outcome.{Outcome}
use Rattle.reasons.specs.Reasons.{Row, ◌gives◌at◌, Check, good, refused, first_of, check_numbers}
use Rattle.chip.specs.declared.SingleWord.{SingleWord}
use Rattle.chip.specs.declared.SingleAnswer.{SingleAnswer}
use Rattle.chip.specs.Glossary.{Page, page_of, perform_of}
use Rattle.chip.specs.Glossary.Page.{page, no_page}

-- no page in chapter 2
abbrev pub is_no_page : Page → Bool
is_no_page (page f) = false
is_no_page no_page = true

-- above 127, or no page in chapter 2
unfoldable pub lacks_page : ℕ → Bool
lacks_page n = is_no_page (page_of n)

-- byte code above 3, position above 63, width above 31, a switch above 1
unfoldable pub out_of_range : ℕ → ℕ → ℕ → ℕ → ℕ → ℕ → ℕ → Bool
out_of_range code position width select carry link borrow =
    ltb 3 code || ltb 63 position || ltb 31 width || ltb 1 select || ltb 1 carry || ltb 1 link || ltb 1 borrow

abbrev pub single_rows : SingleWord → List Row
single_rows s =
    (lacks_page s.opcode gives Opcode at 0)
    ∷ (out_of_range s.code s.position s.width s.select s.carry s.link s.borrow gives InputsReason at 0)
    ∷ []

-- bits 13, 14, 15 and 23 of the status handed in are ignored
abbrev pub single_inputs : SingleWord → Inputs
single_inputs s =
    let core : Core = taken (record { q = s.q; status = s.status }) in
    record {
      code = s.code;
      position = s.position;
      width = s.width;
      select = s.select;
      carry = s.carry;
      link = s.link;
      borrow = s.borrow;
      a = s.a;
      b = s.b;
      q = core.q;
      status = core.status;
    }

-- what the word shows
abbrev pub single_shown : SingleWord → Shown
single_shown s = shown_by s.borrow (perform_of s.opcode (single_inputs s))

-- Y, its parity, Q, the status as the word itself reads it, and the pins
abbrev pub performed : Shown → SingleAnswer
performed x =
    record { check = good; y = x.y; parity = parity_of x.y; q = x.core.q; status = shown_status x; pins = pins_of x.core.status }

-- a refusal repeats the Q and status handed in, bit for bit, with Y and parity 0; the pins show that status
abbrev pub refused_as : Reason → SingleWord → SingleAnswer
refused_as r s =
    record { check = refused r 0; y = 0; parity = 0; q = s.q; status = s.status; pins = pins_of (loaded s.status) }

abbrev pub unless : Check → SingleWord → SingleAnswer
unless (Ok done) s = performed (single_shown s)
unless (Err refusal) s = refused_as refusal.reason s

unfoldable pub single_of : SingleWord → SingleAnswer
single_of s = unless (first_of (single_rows s)) s

-- its reason and place in numbers: those of the table's first row that holds, or 0 and 0
abbrev pub single_outcome : SingleWord → Outcome
single_outcome s = check_numbers (first_of (single_rows s))
