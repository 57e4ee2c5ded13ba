-- What stands at the chip when a word starts, what its switches choose among, and what a word leaves.
use Rattle.std.specs.Prelude.{ℕ, zero, suc, ◌%◌, ◌/◌, ◌^◌, ◌<◌}
use Rattle.bits.specs.Bits.{selected, choose, zero_of, sign_of, merged}
use Rattle.machine.specs.declared.Status.{Status}
use Rattle.machine.specs.declared.Inputs.{Inputs}
use Rattle.machine.specs.declared.Outputs.{Outputs}
use Rattle.machine.specs.Status.{Good, as_read, with_n, with_z}

-- the number of selected bits
abbrev pub bits_of : Inputs → ℕ
bits_of x = selected x.code

-- Table 6: I8 low takes the position from the word, high from status bits 5 to 0, in every operation from 60 on (M42)
abbrev pub position_of : Inputs → ℕ
position_of x = choose (x.code / 2) x.position (x.status.position % 64)

-- I7 low takes the width from the word, high from status bits 12 to 8 (M42)
abbrev pub given_width : Inputs → ℕ
given_width x = choose (x.code % 2) x.width x.status.width

-- Table 2: width 0 stands for 32 (M38)
abbrev pub full_width : ℕ → ℕ
full_width zero = 32
full_width (suc w) = suc w

abbrev pub width_of : Inputs → ℕ
width_of x = full_width (given_width x)

-- macro select 1 takes the macro carry in place of the C flag: ADDC, SUBC, SUBRC (M22)
abbrev pub carry_in : Inputs → ℕ
carry_in x = choose x.select x.status.c x.carry

-- and the macro link in place of the L flag: DN1-LF (M22)
abbrev pub link_in : Inputs → ℕ
link_in x = choose x.select x.status.l x.link

-- the status register as a word that stands at the chip reads it, by its own borrow switch (M27)
abbrev pub read_by : Inputs → Status → ℕ
read_by x s = as_read x.borrow s

-- ---- what a word leaves
-- y on the Y bus and s in the status register; Q as it was
abbrev pub leaving : Inputs → ℕ → Status → Outputs
leaving x y s = record { y = y; q = x.q; status = s }

-- Z and N of the selected bits of r
abbrev pub zero_sign : ℕ → ℕ → Status → Status
zero_sign n r s = with_z (zero_of n r) (with_n (sign_of n r) s)

-- r in the selected bytes and u in the unselected ones; Z and N of the selected bytes; Q as it was
abbrev pub result_of : Inputs → ℕ → ℕ → Outputs
result_of x r u = leaving x (merged (bits_of x) r u) (zero_sign (bits_of x) r x.status)

-- ---- in range: what every entry point sees to, and every word keeps
pub record Sound (x : Inputs) : Type 0 where
  pub code : x.code < 4
  pub position : x.position < 64
  pub width : x.width < 32
  pub select : x.select < 2
  pub carry : x.carry < 2
  pub link : x.link < 2
  pub borrow : x.borrow < 2
  pub status : Good x.status

pub record Kept (o : Outputs) : Type 0 where
  pub y : o.y < 2 ^ 32
  pub q : o.q < 2 ^ 32
  pub status : Good o.status
