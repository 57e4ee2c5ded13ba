-- Which registers words name, what two states have in common, the handler's form as a record, and a line of executions: the words of a main
-- list with a handler let in between them.
use mathlib.Core.Path.{◌≡◌}
use mathlib.Core.List.{List, [], ◌∷◌, ◌++◌}
use mathlib.Core.Bool.{true}
use Prim.Native.Nat.{ℕ, zero, suc}
use lib.ListN.{length}
use Rattle.chip.specs.declared.Word.{Word}
use Rattle.chip.specs.Lists.{State, read_at}
use Rattle.packing.specs.Registers.{is_in, names_of}
use Rattle.sheet.specs.Sheet.{WordReady}
use Rattle.sheet.proofs.Positions.{All}

-- a word names only registers of P; and it can be run, as no sheet has more than 64 registers
pub record Names (P : ℕ → Type 0) (w : Word) : Type 0 where
  pub only : (r : ℕ) → is_in (names_of w) r ≡ true → P r
  pub ready : WordReady 64 w

-- two states with the same registers in P
pub record Agree (P : ℕ → Type 0) (t u : State) : Type 0 where
  pub size : length t.file ≡ length u.file
  pub same : (r : ℕ) → P r → read_at t.file r ≡ read_at u.file r

-- and with the same Q and status
pub record Same (P : ℕ → Type 0) (t u : State) : Type 0 where
  pub agree : Agree P t u
  pub core : t.core ≡ u.core

-- a word of this opcode and write, with all four bytes
pub record Fixed (number stores : ℕ) (w : Word) : Type 0 where
  pub opcode : w.opcode ≡ number
  pub code : w.code ≡ 0
  pub write : w.write ≡ stores
  pub ready : WordReady 64 w

-- a handler that saves the status in s and Q in q; its other registers are in own
pub record Handler (own : ℕ → Type 0) (s q : ℕ) (h : List Word) : Type 0 where
  pub w0 : Word
  pub w1 : Word
  pub w2 : Word
  pub w3 : Word
  pub body : List Word
  pub v1 : Word
  pub v2 : Word
  pub shape : h ≡ w0 ∷ w1 ∷ w2 ∷ w3 ∷ (body ++ (v1 ∷ v2 ∷ []))
  pub apart : s ≡ q → ⊥
  pub s-out : own s → ⊥
  pub q-out : own q → ⊥
  pub saves-status : Fixed 0x04 1 w0
  pub to_s : w0.y ≡ s
  pub saves-q : Fixed 0x05 1 w1
  pub to_q : w1.y ≡ q
  pub loads_q : Fixed 0x06 0 w2
  pub loads_status : Fixed 0x1c 0 w3
  pub w2_own : own w2.a
  pub w3_own : own w3.a
  pub body_own : All (Names own) body
  pub gives-q : Fixed 0x06 0 v1
  pub from-q : v1.a ≡ q
  pub gives-status : Fixed 0x1c 0 v2
  pub from-s : v2.a ≡ s

-- ws is a line of executions of the main words ms with the whole handler h let in n times, at any boundary
pub data Line (h : List Word) : List Word → ℕ → List Word → Type 0 where
  done : Line h [] 0 []
  next : {w : Word} {ms : List Word} {n : ℕ} {ws : List Word} → Line h ms n ws → Line h (w ∷ ms) n (w ∷ ws)
  let_in : {ms : List Word} {n : ℕ} {ws : List Word} → Line h ms n ws → Line h ms (suc n) (h ++ ws)

-- a list n times over
unfoldable pub times : ℕ → List Word → List Word
times zero ws = []
times (suc n) ws = ws ++ times n ws
