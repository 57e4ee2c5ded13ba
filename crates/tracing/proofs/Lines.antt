-- The text of the lines, one after another in a lent text.
use mathlib.Core.Path.{◌≡◌, refl, ap, sym, subst, ◌∙◌}
use mathlib.Core.List.{List, [], ◌∷◌, ◌++◌, append_assoc, append-nil}
use Prim.Native.Nat.{ℕ, ◌+◌, ◌*◌, ◌≤◌, ◌<◌}
use native.Mathlib.Omega.{arith}
use lib.ListN.{length, take, drop, length-append, drop_of_length-le}
use Rattle.machine.specs.declared.Shown.{Shown}
use Rattle.machine.specs.declared.Machine.{Machine}
use Rattle.machine.specs.Status.{Good}
use Rattle.machine.specs.declared.Core.{Core}
use Rattle.machine.specs.Core.{fresh_of, taken, shown_status}
use Rattle.machine.specs.Pins.{pins_of, pins_in}
use Rattle.machine.proofs.Handed.{taken_good}
use Rattle.machine.proofs.Pins.{pins-read}
use Rattle.reasons.specs.declared.Reason.{Reason}
use Rattle.reasons.specs.declared.Reason.TheVariants.{Done}
use Rattle.std.proofs.Common.{Err}
use Rattle.reasons.specs.declared.Refusal.{Refusal}
use Rattle.reasons.specs.Reasons.{Check, good}
use Rattle.text.specs.Text.{hex_of, binary_of}
use Rattle.text.specs.Ascii.{ascii}
use Rattle.text.specs.Fill.{Put, Written}
use Rattle.text.proofs.Fill.{put_on, put_as, written_on, written-alone, written_as}
use Rattle.chip.specs.declared.Word.{Word}
use Rattle.chip.specs.Lists.{State, state, shown_of, step_of}
use Rattle.sheet.specs.Sheet.{words_of, word_at, executions_of, input_of}
use Rattle.sheet.proofs.Positions.{executions-length, executions-next}
use Rattle.run.specs.Run.{entering, Stepped}
use Rattle.tracing.specs.Input.{file_in}
use Rattle.tracing.specs.Lines.{line_of, line_length, lines_of, last_of, last_length, traced_of, text_by, text_of}
use Rattle.tracing.specs.Fill.{Traced, Filled}

-- ---- one line
-- a line put over a text at a place
abbrev over : ℕ → List ℕ → List ℕ → List ℕ
over at line l = take at l ++ line ++ drop (at + length line) l

-- what a line starts from
abbrev zeros : List ℕ
zeros = ascii "0000 00000000 00000000 00000000 00000\n"

-- and five numbers put over that
pub line_is : {i y q s p a b c d e : List ℕ} (index : ℕ) (x : Shown) {status pins : ℕ} → status ≡ shown_status x → pins ≡ pins_of x.core.status
    → i ≡ hex_of 4 index → y ≡ hex_of 8 x.y → q ≡ hex_of 8 x.core.q → s ≡ hex_of 8 status → p ≡ binary_of 5 pins
    → Put i 0 zeros a → Put y 5 a b → Put q 14 b c → Put s 23 c d → Put p 32 d e → e ≡ line_of index x
unfolding line_of
line_is {i} {y} {q} {s} {p} index x f g e₁ e₂ e₃ e₄ e₅ p₁ p₂ p₃ p₄ p₅ =
    p₅.bytes
    ∙ ap (over 32 p) (p₄.bytes ∙ ap (over 23 s) (p₃.bytes ∙ ap (over 14 q) (p₂.bytes ∙ ap (over 5 y) p₁.bytes)))
    ∙ rw (e₁, e₂, e₃, e₄, e₅, f, g) refl

-- the digits of its pins are those of five bits of the status that stands on it
pub line-pins : (x : Shown) → Good x.core.status → binary_of 5 (pins_of x.core.status) ≡ binary_of 5 (pins_in (shown_status x))
line-pins x g = ap (binary_of 5) (pins-read x.borrow x.core.status g)

pub line_length_is : (index : ℕ) (x : Shown) → length (line_of index x) ≡ line_length
unfolding line_of
line_length_is index x = refl

pub last_length_is : (reason : Reason) (place : ℕ) → length (last_of reason place) ≡ last_length
unfolding last_of
last_length_is reason place = refl

-- an execution that was run, and its line put in its place
pub traced_is : {w : Word} {index : ℕ} {t : State} {l : List ℕ} {x : Shown} {line before after : List ℕ} → Stepped w t l x → line ≡ line_of index x
    → Put line (line_length * index) before after → Traced w index t before (state l x.core) after
traced_is {w} {index} {t} {l} {x} {line} {before} {after} s e p = record {
  state = s.state;
  status = s.status;
  line = put_as (e ∙ ap (line_of index) s.shown) p;
}

-- ---- what holds at each turn: the lines so far stand at the start, and with those left they are all
pub record Filling (s l₀ before : List ℕ) (t : State) (after : List ℕ) (i : ℕ) : Type 0 where
  pub front : List ℕ
  pub long : length front ≡ line_length * i
  pub bytes : after ≡ front ++ drop (line_length * i) before
  pub lines : lines_of 0 (executions_of s) (entering l₀ fresh_of) ≡ front ++ lines_of i (drop i (executions_of s)) t
  pub status : Good t.core.status

pub filling_start : (s l before : List ℕ) (c : Core) {m : Machine} → c ≡ taken m → m ≡ fresh_of → Filling s l before (state l c) before 0
filling_start s l before c {m} e f = record {
  front = [];
  long = refl;
  bytes = refl;
  lines = ap (λ (x : Core). lines_of 0 (executions_of s) (state l x)) (sym (e ∙ ap taken f));
  status = subst (λ (x : Core). Good x.status) (sym e) (taken_good m);
}

module _ {s l₀ before : List ℕ} {t : State} {after : List ℕ} {i : ℕ} (f : Filling s l₀ before t after i) where
  pub filling_more : (u : State) (next : List ℕ) → i < length (executions_of s) → Traced (word_at s i) i t after u next
      → Filling s l₀ before u next (i + 1)
  unfolding lines_of
  filling_more u next h r =
      let x : Shown = shown_of (word_at s i) t in
      let k : length (line_of i x) ≡ line_length = line_length_is i x in
      let e : line_length * i + length (line_of i x) ≡ line_length * (i + 1) = omega arith in
      record {
        front = f.front ++ line_of i x;
        long = length-append f.front (line_of i x) ∙ omega (arith, f.long);
        bytes =
            put_on f.front (line_of i x) before after next (line_length * i) f.long f.bytes r.line
            ∙ ap (λ (j : ℕ). (f.front ++ line_of i x) ++ drop j before) e;
        lines =
            f.lines
            ∙ ap (λ (ws : List Word). f.front ++ lines_of i ws t) (executions-next s i h)
            ∙ ap (λ (v : State). f.front ++ (line_of i x ++ lines_of (i + 1) (drop (i + 1) (executions_of s)) v)) (sym r.state)
            ∙ sym (append_assoc f.front (line_of i x) (lines_of (i + 1) (drop (i + 1) (executions_of s)) u));
        status = r.status;
      }

  pub filling_done : (n : ℕ) → n ≡ i → length (executions_of s) ≤ n → line_length * n ≤ length before → Filled s l₀ before (line_length * n) after
  unfolding lines_of
  filling_done n q h r =
      let e : lines_of 0 (executions_of s) (entering l₀ fresh_of) ≡ f.front
      = f.lines ∙ ap (λ (ws : List Word). f.front ++ lines_of i ws t) (drop_of_length-le (executions_of s) (omega (arith, q, h))) ∙ append-nil f.front in
      let w : line_length * i ≡ line_length * n = ap (λ (k : ℕ). line_length * k) (sym q) in
      record {
        size = sym (ap length e ∙ f.long ∙ w);
        fits = r;
        bytes = f.bytes ∙ ap (λ (k : ℕ). f.front ++ drop k before) w ∙ ap (λ (l : List ℕ). l ++ drop (line_length * n) before) (sym e);
      }

-- how many bytes the lines of a sheet take
lines-length : (i : ℕ) (ws : List Word) (t : State) → length (lines_of i ws t) ≡ line_length * length ws
unfolding lines_of
lines-length i [] t = refl
lines-length i (w ∷ ws) t =
    length-append (line_of i (shown_of w t)) (lines_of (i + 1) ws (step_of w t)) ∙ omega (arith, line_length_is i (shown_of w t), lines-length (i + 1) ws (step_of w t))

pub filled_length : (s file : List ℕ) {before after : List ℕ} {n : ℕ} → Filled s file before n after → n ≡ line_length * words_of s
filled_length s file w = w.size ∙ lines-length 0 (executions_of s) (entering file fresh_of) ∙ ap (λ (k : ℕ). line_length * k) (executions-length s)

-- ---- the whole
pub text_refused : (x : List ℕ) {before after : List ℕ} {refusal : Refusal} {r : ℕ} → input_of x ≡ Err refusal → last_length ≤ length before
    → Put (last_of refusal.reason refusal.place) 0 before after → r ≡ 0 + length (last_of refusal.reason refusal.place) → Written (text_of x) before r after
unfolding text_of
text_refused x {refusal = refusal} e h p f =
    written_as (sym (ap (λ (c : Check). text_by c x) e)) f (written-alone (omega (arith, last_length_is refusal.reason refusal.place)) p)

pub text_done : (x file : List ℕ) {before middle after : List ℕ} {place n r : ℕ} → input_of x ≡ good → file ≡ file_in x → place ≡ length (executions_of x) → Filled x file before n middle
    → n + last_length ≤ length before → Put (last_of Done place) n middle after → r ≡ n + length (last_of Done place) → Written (text_of x) before r after
unfolding text_of traced_of
text_done x file {place = place} e g k w h p f = written_as (lines ∙ sym (ap (λ (c : Check). text_by c x) e)) f (written_on w (omega (arith, last_length_is Done place)) p)
  where
    lines : lines_of 0 (executions_of x) (entering file fresh_of) ++ last_of Done place ≡ text_by good x
    lines = rw (g, k) refl
