-- A status that is read and loaded again is the same status, whichever mode it was read in; and what is loaded is in range.
use mathlib.Core.Path.{◌≡◌, sym, ap, ◌∙◌}
use Prim.Native.Nat.{ℕ, zero, suc, ◌+◌, ◌*◌, ◌/◌, ◌%◌, ◌^◌, ◌<◌}
use native.Mathlib.Nat.{div-one}
use native.Mathlib.Omega.{arith}
use lib.Pow.{high, low}
use Rattle.machine.specs.declared.Status.{Status}
use Rattle.machine.specs.Status.{worked_out, gathered, spread_out, as_read, loaded, Good, with_nibbles}
use Rattle.machine.proofs.Nibbles.{gathered-lt, apart-spread}

pub worked-out-lt : (borrow : ℕ) (s : Status) → Good s → worked_out borrow s < 8
worked-out-lt zero s g = omega arith
worked-out-lt (suc k) s g = omega arith

-- a field of j bits above k
pub field_at : (k j hi f lo x : ℕ) → x ≡ (hi * 2 ^ j + f) * 2 ^ k + lo → lo < 2 ^ k → f < 2 ^ j → x / 2 ^ k % 2 ^ j ≡ f
field_at k j hi f lo x e h l = ap (λ (y : ℕ). y / 2 ^ k % 2 ^ j) e ∙ ap (λ (y : ℕ). y % 2 ^ j) (high (hi * 2 ^ j + f) k h) ∙ low hi j l

-- the fields of a word put together from numbers within their bits
module _ (p w d c n v z l m s b : ℕ) (hp : p < 256) (hw : w < 32) (hd : d < 8) (hc : c < 2) (hn : n < 2) (hv : v < 2) (hz : z < 2) (hl : l < 2) (hm : m < 2) (hs : s < 2) where
  abbrev word : ℕ
  word = p + w * 2 ^ 8 + d * 2 ^ 13 + c * 2 ^ 16 + n * 2 ^ 17 + v * 2 ^ 18 + z * 2 ^ 19 + l * 2 ^ 20 + m * 2 ^ 21 + s * 2 ^ 22 + b * 2 ^ 24

  pub fields_of_lem : ◌≡◌ {A = Status} (loaded word) (record { position = p; width = w; c = c; n = n; v = v; z = z; l = l; m = m; s = s; nibbles = spread_out 8 b })
  unfolding loaded
  fields_of_lem =
      let e0 : word % 2 ^ 8 ≡ p = ap (λ (y : ℕ). y % 2 ^ 8) (sym (div-one word)) ∙ field_at 0 8 (w + d * 2 ^ 5 + c * 2 ^ 8 + n * 2 ^ 9 + v * 2 ^ 10 + z * 2 ^ 11 + l * 2 ^ 12 + m * 2 ^ 13 + s * 2 ^ 14 + b * 2 ^ 16) p 0 word (omega arith) (omega arith) hp in
      let e1 : word / 2 ^ 8 % 2 ^ 5 ≡ w = field_at 8 5 (d + c * 2 ^ 3 + n * 2 ^ 4 + v * 2 ^ 5 + z * 2 ^ 6 + l * 2 ^ 7 + m * 2 ^ 8 + s * 2 ^ 9 + b * 2 ^ 11) w (p) word (omega arith) (omega arith) hw in
      let e2 : word / 2 ^ 16 % 2 ^ 1 ≡ c = field_at 16 1 (n + v * 2 ^ 1 + z * 2 ^ 2 + l * 2 ^ 3 + m * 2 ^ 4 + s * 2 ^ 5 + b * 2 ^ 7) c (p + w * 2 ^ 8 + d * 2 ^ 13) word (omega arith) (omega arith) hc in
      let e3 : word / 2 ^ 17 % 2 ^ 1 ≡ n = field_at 17 1 (v + z * 2 ^ 1 + l * 2 ^ 2 + m * 2 ^ 3 + s * 2 ^ 4 + b * 2 ^ 6) n (p + w * 2 ^ 8 + d * 2 ^ 13 + c * 2 ^ 16) word (omega arith) (omega arith) hn in
      let e4 : word / 2 ^ 18 % 2 ^ 1 ≡ v = field_at 18 1 (z + l * 2 ^ 1 + m * 2 ^ 2 + s * 2 ^ 3 + b * 2 ^ 5) v (p + w * 2 ^ 8 + d * 2 ^ 13 + c * 2 ^ 16 + n * 2 ^ 17) word (omega arith) (omega arith) hv in
      let e5 : word / 2 ^ 19 % 2 ^ 1 ≡ z = field_at 19 1 (l + m * 2 ^ 1 + s * 2 ^ 2 + b * 2 ^ 4) z (p + w * 2 ^ 8 + d * 2 ^ 13 + c * 2 ^ 16 + n * 2 ^ 17 + v * 2 ^ 18) word (omega arith) (omega arith) hz in
      let e6 : word / 2 ^ 20 % 2 ^ 1 ≡ l = field_at 20 1 (m + s * 2 ^ 1 + b * 2 ^ 3) l (p + w * 2 ^ 8 + d * 2 ^ 13 + c * 2 ^ 16 + n * 2 ^ 17 + v * 2 ^ 18 + z * 2 ^ 19) word (omega arith) (omega arith) hl in
      let e7 : word / 2 ^ 21 % 2 ^ 1 ≡ m = field_at 21 1 (s + b * 2 ^ 2) m (p + w * 2 ^ 8 + d * 2 ^ 13 + c * 2 ^ 16 + n * 2 ^ 17 + v * 2 ^ 18 + z * 2 ^ 19 + l * 2 ^ 20) word (omega arith) (omega arith) hm in
      let e8 : word / 2 ^ 22 % 2 ^ 1 ≡ s = field_at 22 1 (b * 2 ^ 1) s (p + w * 2 ^ 8 + d * 2 ^ 13 + c * 2 ^ 16 + n * 2 ^ 17 + v * 2 ^ 18 + z * 2 ^ 19 + l * 2 ^ 20 + m * 2 ^ 21) word (omega arith) (omega arith) hs in
      let e9 : word / 2 ^ 24 ≡ b = omega arith in
      λ i. record { position = e0 i; width = e1 i; c = e2 i; n = e3 i; v = e4 i; z = e5 i; l = e6 i; m = e7 i; s = e8 i; nibbles = spread_out 8 (e9 i) }

pub loaded-read : (borrow : ℕ) (s : Status) → Good s → loaded (as_read borrow s) ≡ s
unfolding as_read
loaded-read borrow s g =
    fields_of_lem s.position s.width (worked_out borrow s) s.c s.n s.v s.z s.l s.m s.s (gathered 8 s.nibbles)
    g.position g.width (worked-out-lt borrow s g) g.c g.n g.v g.z g.l g.m g.s
    ∙ ap (λ (b : ℕ). with_nibbles b s) g.nibbles

pub loaded_good : (x : ℕ) → Good (loaded x)
unfolding loaded
loaded_good x = record {
  position = omega arith;
  width = omega arith;
  c = omega arith;
  n = omega arith;
  v = omega arith;
  z = omega arith;
  l = omega arith;
  m = omega arith;
  s = omega arith;
  nibbles = apart-spread 8 (x / 2 ^ 24);
}

pub read-lt : (borrow : ℕ) (s : Status) → Good s → as_read borrow s < 2 ^ 32
unfolding as_read
read-lt borrow s g = omega (arith, worked-out-lt borrow s g, gathered-lt 8 s.nibbles)
