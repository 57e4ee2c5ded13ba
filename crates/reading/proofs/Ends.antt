-- The ways in which reading a text ends, by what the parts of the code saw.
use mathlib.Core.Path.{◌≡◌, refl, ap, ap₂, sym, ◌∙◌}
use mathlib.Core.List.{List, [], ◌∷◌, ◌++◌}
use Prim.Native.Nat.{ℕ, ◌+◌, ◌*◌, ◌≤◌, ◌<◌}
use native.Mathlib.Omega.{arith}
use lib.ListN.{length, get_or, drop}
use denote.Ref.{Bor}
use Rattle.std.specs.Prelude.{MatchOption}
use Rattle.std.specs.Option.{unwrap_or, ok_or}
use Rattle.text.specs.Fill.{Added}
use Rattle.reasons.specs.Reasons.{first_of, Check, good, check_by, check_numbers}
use Rattle.reasons.specs.Output.{wrote, wrote_by}
use Rattle.reasons.proofs.Wrote.{wrote-check, wrote-numbers}
use Rattle.reasons.specs.declared.Refusal.{Refusal}
use Rattle.reasons.specs.declared.Reason.TheVariants.{Room, Count}
use Rattle.grammar.specs.declared.Head.{Head}
use Rattle.std.proofs.Common.{Option, Some, None, Result, Ok, Err}
use Rattle.grammar.specs.Grammar.{lines_of, head_in}
use Rattle.reading.specs.Reader.{first_in, word_lines_in, head_rows, lines_rows, size_rows, read_rows, header4, split4, packed_lines, sheet_in, read_of, AllFit}
use Rattle.reading.proofs.Table.{past_lines, size-count, size_room, size_good}
use Rattle.reading.proofs.Words.{all_fit}

-- ---- what the code saw
-- the next line, and the lines that are left after it
abbrev pub Took : List (List ℕ) → List (List ℕ) → Option (Bor (List ℕ)) → Type 0
Took ls rest x = MatchOption x ((ls ≡ []) × (rest ≡ [])) (λ (y : Bor (List ℕ)). ls ≡ y.now ∷ rest)

-- so the first line, and those after it; an empty text has an empty one
taken : (ls rest : List (List ℕ)) (x : Option (Bor (List ℕ))) (d : Bor (List ℕ)) → Took ls rest x → d.now ≡ []
    → (get_or ls 0 [] ≡ (unwrap_or x d).now) × (drop 1 ls ≡ rest)
taken ls rest None d h e = (ap (λ (l : List (List ℕ)). get_or l 0 []) h.0 ∙ sym e, ap (drop 1) h.0 ∙ sym h.1)
taken ls rest (Some x) d h e = (ap (λ (l : List (List ℕ)). get_or l 0 []) h, ap (drop 1) h)

pub first_read : (t rest : List ℕ) (x : Option (Bor (List ℕ))) (d : Bor (List ℕ)) {line : Bor (List ℕ)} {f : Option Head} → Took (lines_of t) (lines_of rest) x → d.now ≡ []
    → line ≡ unwrap_or x d → f ≡ head_in line.now → (first_in t ≡ f) × (word_lines_in t ≡ lines_of rest)
first_read t rest x d h n e f =
    let k = taken (lines_of t) (lines_of rest) x d h n in
    (ap head_in (k.0 ∙ ap (λ (y : Bor (List ℕ)). y.now) (sym e)) ∙ sym f, k.1)

-- a first line that was checked, and the text of the others
pub record Begun (t : List ℕ) (h : Head) (rest : List ℕ) : Type 0 where
  pub head : first_in t ≡ Some h
  pub sound : first_of (head_rows (Some h)) ≡ good
  pub lines : word_lines_in t ≡ lines_of rest

-- a line outside the grammar is refused as the code says
abbrev err_or : {A : Type 0} → Refusal → Result A Refusal → Refusal
err_or d (Ok v) = d
err_or d (Err x) = x

pub outside : {A : Type 0} (o : Option A) {r : Result A Refusal} (e x : Refusal) → r ≡ ok_or o e → r ≡ Err x → (o ≡ None) × (x ≡ e)
outside None e x f g = (refl, ap (err_or e) (sym g ∙ f))
outside (Some v) {r} e x f g = let q : ◌≡◌ {A = Result _ Refusal} (Err x) (Ok v) = sym g ∙ f in absurd (let z : ◌≡◌ {A = ℕ} 0 1 = cc in omega arith)

pub begun : {t rest : List ℕ} {h : Head} {c : Check} → first_in t ≡ Some h → word_lines_in t ≡ lines_of rest → c ≡ first_of (head_rows (Some h)) → c ≡ good → Begun t h rest
begun e l f g = record { head = e; sound = sym f ∙ g; lines = l }

-- the others, checked and counted
pub record Counted (t : List ℕ) (h : Head) (rest : List ℕ) (words : ℕ) : Type 0 where
  pub begun : Begun t h rest
  pub sound : first_of (lines_rows h.registers 1 (lines_of rest)) ≡ good
  pub count : words ≡ length (lines_of rest)

pub counted : {t rest : List ℕ} {h : Head} {words : ℕ} {c : Check} → Begun t h rest → c ≡ first_of (lines_rows h.registers 1 (lines_of rest)) → c ≡ good
    → words ≡ length (lines_of rest) → Counted t h rest words
counted b e g f = record { begun = b; sound = sym e ∙ g; count = f }

-- so the words fit, their fields and their bytes
pub put_ready : {t : List ℕ} {h : Head} {rest : List ℕ} {words room : ℕ} → Counted t h rest words → 4 + 6 * words ≤ room
    → AllFit (lines_of rest) × (4 + 6 * length (lines_of rest) ≤ room)
put_ready {t} {h} {rest} s r = (all_fit h.registers 1 (lines_of rest) s.sound, omega (arith, s.count))

-- ---- the promise
-- what is added at the start is written
all-wrote : {out d after : List ℕ} {stop : ℕ} → Added out 0 d stop after → wrote (Ok stop) after ≡ wrote_by good out d
all-wrote {out} {d} {after} {stop} a =
    let z : 0 + length out ≡ length out = omega arith in
    ap₂ (λ (n : ℕ) (b : List ℕ). wrote (Ok n) b) (a.ends ∙ z) (a.put.bytes ∙ ap (λ (n : ℕ). out ++ drop n d) z)

module _ (t d : List ℕ) where
  -- an answer and a buffer that meet it
  abbrev pub Meets : Result ℕ Refusal → List ℕ → Type 0
  Meets o b = (wrote o b ≡ read_of t d) × (check_numbers o ≡ check_numbers (first_of (read_rows t (length d))))

  -- the answer is what the table says
  pub read-check : check_by (read_of t d).answer ≡ first_of (read_rows t (length d))
  unfolding read_of
  read-check = wrote-check (first_of (read_rows t (length d))) (sheet_in t) d

  -- and so are its numbers
  read-numbers : (o : Result ℕ Refusal) (b : List ℕ) → wrote o b ≡ read_of t d → Meets o b
  unfolding read_of
  read-numbers o b e = wrote-numbers (first_of (read_rows t (length d))) (sheet_in t) d e

  -- a refusal changes no byte
  pub read-refused : (o : Result ℕ Refusal) {x : Refusal} → o ≡ Err x → first_of (read_rows t (length d)) ≡ Err x → Meets o d
  unfolding read_of
  read-refused o {x} e f = read-numbers o d (ap (λ (y : Result ℕ Refusal). wrote y d) e ∙ ap (λ (c : Check). wrote_by c (sheet_in t) d) (sym f))

  module _ {h : Head} {rest : List ℕ} {words : ℕ} (s : Counted t h rest words) where
    -- what is left of the table
    size : first_of (read_rows t (length d)) ≡ first_of (size_rows words (length d))
    size = past_lines t (length d) s.begun.head s.begun.sound s.begun.lines s.sound ∙ ap (λ (k : ℕ). first_of (size_rows k (length d))) (sym s.count)

    -- too many words
    pub read_count : (o : Result ℕ Refusal) → o ≡ Err (record { reason = Count; place = 0 }) → 4095 < words → Meets o d
    read_count o e m = read-refused o e (size ∙ size-count words (length d) m)

    -- no room
    pub read-room : (o : Result ℕ Refusal) → o ≡ Err (record { reason = Room; place = 0 }) → words ≤ 4095 → length d < 4 + 6 * words → Meets o d
    read-room o e m r = read-refused o e (size ∙ size_room words (length d) m r)

    -- nothing is refused: the sheet is the header and the words that were put
    sheet_is : sheet_in t ≡ split4 (header4 h.version words h.registers) ++ packed_lines (lines_of rest)
    unfolding sheet_in
    sheet_is = rw (s.begun.head, s.begun.lines, s.count) refl

    pub read_done : {stop : ℕ} {after : List ℕ} → words ≤ 4095 → 4 + 6 * words ≤ length d
        → Added (split4 (header4 h.version words h.registers) ++ packed_lines (lines_of rest)) 0 d stop after → Meets (Ok stop) after
    unfolding read_of
    read_done {stop} {after} m r a =
        read-numbers (Ok stop) after
        (all-wrote a ∙ ap₂ (λ (c : Check) (out : List ℕ). wrote_by c out d) (sym (size ∙ size_good words (length d) m r)) (sym sheet_is))
