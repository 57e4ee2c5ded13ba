-- A word that is read has a page: a number without one has no mnemonic.
use mathlib.Core.Path.{◌≡◌, refl, sym, ap, ◌∙◌, subst}
use mathlib.Core.List.{List, [], ◌∷◌}
use mathlib.Core.Bool.{Bool, true, false}
use Prim.Native.Nat.{ℕ}
use Prim.Native.String.{String}
use Rattle.text.specs.Ascii.{ascii, same}
use Rattle.text.proofs.Same.{same_true}
use Rattle.chip.specs.declared.Word.{Word}
use Rattle.chip.specs.Single.{lacks_page}
use Rattle.mnemonics.specs.Mnemonics.{mnemonics, mnemonic_of}
use Rattle.mnemonics.proofs.Mnemonics.{no_bytes, named_exactly}
use Rattle.std.specs.Prelude.{Option, Some, None, option_and_then, IfSome}
use Rattle.std.proofs.lemmas.List.Quantifiers.{position-Some}
use Rattle.grammar.specs.Grammar.{choose, parts_of, opcode_of, taking, offered, closing, line_of, word_in}

-- ---- the table
-- a part with a number is the mnemonic at it, and so the number has a page
opcode-page : (part : List ℕ) (n : ℕ) → opcode_of part ≡ Some n → lacks_page n ≡ false
unfolding opcode_of
opcode-page [] n h = absurd (cc)
opcode-page (c ∷ part) n h =
    let t = position-Some (λ (m : String). same (c ∷ part) (ascii m)) mnemonics n "" h in
    named_exactly n ∙ sym (ap no_bytes (same_true (c ∷ part) (mnemonic_of n) t.1))

-- the word that a line says, if it says one, has a page
abbrev Paged : Option Word → Type 0
Paged line = IfSome line (λ w. lacks_page w.opcode ≡ false)

-- that holds of a line if it holds of what the line goes on to say, part by part
taking_paged : (f : List ℕ → Option ℕ) (ps : List (List ℕ)) (go : ℕ → List (List ℕ) → Option Word)
    → ((n : ℕ) (p : List ℕ) (qs : List (List ℕ)) → f p ≡ Some n → Paged (go n qs)) → Paged (taking f ps go)
taking_paged f [] go h = tt
taking_paged f (p ∷ ps) go h = at (f p) refl
  where
    at : (x : Option ℕ) → f p ≡ x → Paged (option_and_then (λ n. go n ps) x)
    at (Some n) e = h n p ps e
    at None e = tt

offered_paged : (name : List ℕ) (ps : List (List ℕ)) (go : ℕ → List (List ℕ) → Option Word)
    → ((n : ℕ) (qs : List (List ℕ)) → Paged (go n qs)) → Paged (offered name ps go)
offered_paged name [] go h = h 0 []
offered_paged name (p ∷ ps) go h = at (same p name)
  where
    at : (b : Bool) → Paged (choose b (go 1 ps) (go 0 (p ∷ ps)))
    at true = h 1 ps
    at false = h 0 (p ∷ ps)

closing_paged : (ps : List (List ℕ)) (w : Word) → lacks_page w.opcode ≡ false → Paged (closing ps w)
closing_paged [] w h = h
closing_paged (p ∷ ps) w h = tt

-- the first part is a mnemonic, and the others do not touch the opcode
line_paged : (ps : List (List ℕ)) → Paged (line_of ps)
unfolding line_of
line_paged ps =
    taking_paged opcode_of ps _ λ n m ps₁ e.
    taking_paged _ ps₁ _ λ _ _ ps₂ _.
    taking_paged _ ps₂ _ λ _ _ ps₃ _.
    taking_paged _ ps₃ _ λ _ _ ps₄ _.
    taking_paged _ ps₄ _ λ _ _ ps₅ _.
    taking_paged _ ps₅ _ λ _ _ ps₆ _.
    taking_paged _ ps₆ _ λ _ _ ps₇ _.
    offered_paged _ ps₇ _ λ _ ps₈.
    offered_paged _ ps₈ _ λ _ ps₉.
    offered_paged _ ps₉ _ λ _ ps₁₀.
    offered_paged _ ps₁₀ _ λ _ ps₁₁.
    offered_paged _ ps₁₁ _ λ _ ps₁₂.
    closing_paged ps₁₂ _ (opcode-page m n e)

-- A word that was read has a page.
pub word-page : (l : List ℕ) (w : Word) → word_in l ≡ Some w → lacks_page w.opcode ≡ false
word-page l w e = subst Paged e (line_paged (parts_of l))
