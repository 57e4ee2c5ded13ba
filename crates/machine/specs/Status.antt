-- The status register ('Status Register', figure 3): its fields, the word that a program reads, and the word that it loads. Inside the chip it
-- is held without bits 13, 14, 15 and 23.
use Rattle.std.specs.Prelude.{◌≡◌, ℕ, zero, suc, ◌+◌, ◌-◌, ◌*◌, ◌/◌, ◌%◌, ◌^◌, ◌<◌, max}
use Rattle.bits.specs.Bits.{choose, xor}
use Rattle.machine.specs.declared.Status.{Status}

-- ---- the relational bits, read only, under figure 3's names
-- 13: C or Z in borrow mode, (not C) or Z in carry mode (M27): the one bit that goes by the borrow switch of whatever reads it
abbrev pub UNSIGNED-LE : ℕ → Status → ℕ
UNSIGNED-LE borrow s = choose borrow (max (1 - s.c) s.z) (max s.c s.z)

-- 14: N xor V
abbrev pub SIGNED-LT : Status → ℕ
SIGNED-LT s = xor s.n s.v

-- 15: (N xor V) or Z
abbrev pub SIGNED-LE : Status → ℕ
SIGNED-LE s = max (SIGNED-LT s) s.z

-- the three as one number
abbrev pub worked_out : ℕ → Status → ℕ
worked_out borrow s = UNSIGNED-LE borrow s + SIGNED-LT s * 2 + SIGNED-LE s * 4

-- the nibble bits, bits 31 to 24, are held as they arise, the bit of nibble i at 4 i: the bits of k nibbles side by side, as they are read
unfoldable pub gathered : ℕ → ℕ → ℕ
gathered zero x = 0
gathered (suc k) x = x % 2 + 2 * gathered k (x / 16)

-- and spread out again, as they are loaded
unfoldable pub spread_out : ℕ → ℕ → ℕ
spread_out zero x = 0
spread_out (suc k) x = x % 2 + 16 * spread_out k (x / 2)

-- the borrow switch of carry mode; that of borrow mode is 1
abbrev pub carry_mode : ℕ
carry_mode = 0

-- the register as it is read under a borrow switch: bits 13 to 15 worked out, bit 23 zero
unfoldable pub as_read : ℕ → Status → ℕ
as_read borrow s =
    s.position
    + s.width * 2 ^ 8
    + worked_out borrow s * 2 ^ 13
    + s.c * 2 ^ 16
    + s.n * 2 ^ 17
    + s.v * 2 ^ 18
    + s.z * 2 ^ 19
    + s.l * 2 ^ 20
    + s.m * 2 ^ 21
    + s.s * 2 ^ 22
    + gathered 8 s.nibbles * 2 ^ 24

-- a word loaded into the register: its bits 13, 14, 15 and 23 are ignored. V is from bit 18, Z from bit 19 (M30)
unfoldable pub loaded : ℕ → Status
loaded x =
    record {
      position = x % 2 ^ 8;
      width = x / 2 ^ 8 % 2 ^ 5;
      c = x / 2 ^ 16 % 2;
      n = x / 2 ^ 17 % 2;
      v = x / 2 ^ 18 % 2;
      z = x / 2 ^ 19 % 2;
      l = x / 2 ^ 20 % 2;
      m = x / 2 ^ 21 % 2;
      s = x / 2 ^ 22 % 2;
      nibbles = spread_out 8 (x / 2 ^ 24);
    }

-- each field within its bits: the nibble bits are at 0, 4, .. 28 and nowhere else, so that gathered and spread out they are the same
pub record Good (t : Status) : Type 0 where
  pub position : t.position < 256
  pub width : t.width < 32
  pub c : t.c < 2
  pub n : t.n < 2
  pub v : t.v < 2
  pub z : t.z < 2
  pub l : t.l < 2
  pub m : t.m < 2
  pub s : t.s < 2
  pub nibbles : spread_out 8 (gathered 8 t.nibbles) ≡ t.nibbles

-- ---- the register with one part changed, each other part as it was
abbrev pub with_position : ℕ → Status → Status
with_position p s = record { position = p; width = s.width; c = s.c; n = s.n; v = s.v; z = s.z; l = s.l; m = s.m; s = s.s; nibbles = s.nibbles }

abbrev pub with_c : ℕ → Status → Status
with_c f s = record { position = s.position; width = s.width; c = f; n = s.n; v = s.v; z = s.z; l = s.l; m = s.m; s = s.s; nibbles = s.nibbles }

abbrev pub with_n : ℕ → Status → Status
with_n f s = record { position = s.position; width = s.width; c = s.c; n = f; v = s.v; z = s.z; l = s.l; m = s.m; s = s.s; nibbles = s.nibbles }

abbrev pub with_v : ℕ → Status → Status
with_v f s = record { position = s.position; width = s.width; c = s.c; n = s.n; v = f; z = s.z; l = s.l; m = s.m; s = s.s; nibbles = s.nibbles }

abbrev pub with_z : ℕ → Status → Status
with_z f s = record { position = s.position; width = s.width; c = s.c; n = s.n; v = s.v; z = f; l = s.l; m = s.m; s = s.s; nibbles = s.nibbles }

abbrev pub with_l : ℕ → Status → Status
with_l f s = record { position = s.position; width = s.width; c = s.c; n = s.n; v = s.v; z = s.z; l = f; m = s.m; s = s.s; nibbles = s.nibbles }

abbrev pub with_m : ℕ → Status → Status
with_m f s = record { position = s.position; width = s.width; c = s.c; n = s.n; v = s.v; z = s.z; l = s.l; m = f; s = s.s; nibbles = s.nibbles }

abbrev pub with_s : ℕ → Status → Status
with_s f s = record { position = s.position; width = s.width; c = s.c; n = s.n; v = s.v; z = s.z; l = s.l; m = s.m; s = f; nibbles = s.nibbles }

abbrev pub with_nibbles : ℕ → Status → Status
with_nibbles k s = record { position = s.position; width = s.width; c = s.c; n = s.n; v = s.v; z = s.z; l = s.l; m = s.m; s = s.s; nibbles = k }
