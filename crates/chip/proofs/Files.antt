-- How registers are read and stored: nothing else opens `read_at` and `store_at`.
use mathlib.Core.Path.{◌≡◌, refl, sym, ◌∙◌}
use mathlib.Core.List.{List}
use Prim.Native.Nat.{ℕ, ◌^◌, ◌<◌, ◌≤◌}
use native.Mathlib.Decide.{ℕ_discrete, dec_lt}
use native.Mathlib.Omega.{arith}
use lib.ListN.{length, get_or, set, length-set}
use lib.Seq.{get_or-set_same, get_or-set_other, set_out}
use Rattle.machine.specs.declared.Core.{Core}
use Rattle.machine.specs.declared.Inputs.{Inputs}
use Rattle.chip.specs.declared.Word.{Word}
use Rattle.chip.specs.Lists.{state, read_at, store_at, inputs_of}

-- what the code stores in a lent slice
pub store_is : (file : List ℕ) (r y : ℕ) → set file r y ≡ store_at file r y
unfolding store_at
store_is file r y = refl

-- what stands at the chip, from registers that were read in a lent slice
pub inputs_read : (w : Word) (file : List ℕ) (core : Core)
    → ◌≡◌ {A = Inputs}
    (record {
      code = w.code;
      position = w.position;
      width = w.width;
      select = w.select;
      carry = w.carry;
      link = w.link;
      borrow = w.borrow;
      a = get_or file w.a 0;
      b = get_or file w.b 0;
      q = core.q;
      status = core.status;
    })
    (inputs_of w (state file core))
unfolding read_at
inputs_read w file core = refl

-- a file of 32-bit words is in range
pub read_small : (file : List ℕ) → ((r : ℕ) → get_or file r 0 < 2 ^ 32) → (r : ℕ) → read_at file r < 2 ^ 32
unfolding read_at
read_small file h r = h r

pub store_length : (file : List ℕ) (r y : ℕ) → length (store_at file r y) ≡ length file
unfolding store_at
store_length file r y = length-set file r y

pub read_same : (file : List ℕ) (r y : ℕ) → r < length file → read_at (store_at file r y) r ≡ y
unfolding read_at store_at
read_same file r y h = get_or-set_same file r y 0 h

pub read-other : (file : List ℕ) (r y k : ℕ) → (k ≡ r → ⊥) → read_at (store_at file r y) k ≡ read_at file k
unfolding read_at store_at
read-other file r y k h = get_or-set_other file r k y 0 h

-- a register that no file holds
pub store_out : (file : List ℕ) (r y : ℕ) → length file ≤ r → store_at file r y ≡ file
unfolding store_at
store_out file r y h = set_out file r y h

-- the same store to two files that agree on a register
pub store_agree : (f g : List ℕ) (r y k : ℕ) → length f ≡ length g → read_at f k ≡ read_at g k → read_at (store_at f r y) k ≡ read_at (store_at g r y) k
store_agree f g r y k n e = go (ℕ_discrete k r) (dec_lt r (length f))
  where
    go : Dec (k ≡ r) → Dec (r < length f) → read_at (store_at f r y) k ≡ read_at (store_at g r y) k
    go (yes h) (yes i) = rw h (read_same f r y i ∙ sym (read_same g r y (omega arith)))
    go (yes h) (no i) = rw (store_out f r y (omega arith), store_out g r y (omega arith)) e
    go (no h) i = read-other f r y k h ∙ e ∙ sym (read-other g r y k h)

-- registers stay in range
pub store_small : (file : List ℕ) (r y k : ℕ) → ((i : ℕ) → read_at file i < 2 ^ 32) → y < 2 ^ 32 → read_at (store_at file r y) k < 2 ^ 32
store_small file r y k f h = go (ℕ_discrete k r) (dec_lt r (length file))
  where
    go : Dec (k ≡ r) → Dec (r < length file) → read_at (store_at file r y) k < 2 ^ 32
    go (yes e) (yes i) = rw (e, read_same file r y i) h
    go (yes e) (no i) = rw (store_out file r y (omega arith)) (f k)
    go (no e) i = rw (read-other file r y k e) (f k)
