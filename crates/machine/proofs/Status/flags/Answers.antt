-- Four flags and the switch, each 0 or 1: thirty-two cases, computed. A switch above 1 counts as 1.
use mathlib.Core.Path.{◌≡◌, refl}
use Prim.Native.Nat.{ℕ, zero, suc, ◌+◌, ◌-◌, ◌*◌, ◌^◌, ◌<◌, max}
use lib.Bits.{bit_or, bit_xor}
use lib.Dec.{lit<}
use Rattle.bits.specs.Bits.{choose, xor}
use Rattle.bits.proofs.BitByBit.{by_flag, by_flags}
use Rattle.machine.proofs.Status.flags.Goals as goal

abbrev made : ℕ → ℕ → ℕ → ℕ → ℕ → ℕ
made turned n v c z = bit_or (bit_or (bit_xor (n * 0x2_c000) (v * 0x4_c000)) (bit_xor (c * 0x1_2000) turned)) (z * 0x8_a000)

abbrev told : ℕ → ℕ → ℕ → ℕ → ℕ → ℕ
told borrow n v c z =
    (choose borrow (max (1 - c) z) (max c z) + xor n v * 2 + max (xor n v) z * 4) * 2 ^ 13 + c * 2 ^ 16 + n * 2 ^ 17 + v * 2 ^ 18 + z * 2 ^ 19

abbrev Right : ℕ → ℕ → ℕ → ℕ → ℕ → Type 0
Right n v c borrow z = (made (choose borrow 0x2000 0) n v c z ≡ told borrow n v c z) × (made (choose borrow 0x2000 0) n v c z < 2 ^ 20)

-- two flags at once
four : (P : ℕ → ℕ → Type 0) → P 0 0 → P 0 1 → P 1 0 → P 1 1 → (f g : ℕ) → f < 2 → g < 2 → P f g
four P p₀ p₁ p₂ p₃ f g hf hg = by_flag (λ (f : ℕ). P f g) (by_flag (P 0) p₀ p₁ g hg) (by_flag (P 1) p₂ p₃ g hg) f hf

right : (n v c : ℕ) → n < 2 → v < 2 → c < 2 → (borrow z : ℕ) → borrow < 2 → z < 2 → Right n v c borrow z
right =
    by_flags (λ n v c. (borrow z : ℕ) → borrow < 2 → z < 2 → Right n v c borrow z)
    (four (Right 0 0 0) (refl, lit< tt) (refl, lit< tt) (refl, lit< tt) (refl, lit< tt))
    (four (Right 0 0 1) (refl, lit< tt) (refl, lit< tt) (refl, lit< tt) (refl, lit< tt))
    (four (Right 0 1 0) (refl, lit< tt) (refl, lit< tt) (refl, lit< tt) (refl, lit< tt))
    (four (Right 0 1 1) (refl, lit< tt) (refl, lit< tt) (refl, lit< tt) (refl, lit< tt))
    (four (Right 1 0 0) (refl, lit< tt) (refl, lit< tt) (refl, lit< tt) (refl, lit< tt))
    (four (Right 1 0 1) (refl, lit< tt) (refl, lit< tt) (refl, lit< tt) (refl, lit< tt))
    (four (Right 1 1 0) (refl, lit< tt) (refl, lit< tt) (refl, lit< tt) (refl, lit< tt))
    (four (Right 1 1 1) (refl, lit< tt) (refl, lit< tt) (refl, lit< tt) (refl, lit< tt))

every : (borrow n v c z : ℕ) → n < 2 → v < 2 → c < 2 → z < 2 → Right n v c borrow z
every zero n v c z hn hv hc hz = right n v c hn hv hc 0 z (lit< tt) hz
every (suc k) n v c z hn hv hc hz = right n v c hn hv hc 1 z (lit< tt) hz

pub returns : goal.returns
returns c = let s = c.args.self in
    let g = c.requires in
    rw c.turn-turned.ensures (every c.args.borrow s.n s.v s.c s.z g.n g.v g.c g.z)
