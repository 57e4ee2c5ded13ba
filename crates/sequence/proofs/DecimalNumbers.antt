-- Decimal sums and differences come out exact, on numbers of k nibbles: with its 6 where digit, digit and carry reach ten, each nibble is the
-- decimal digit, and the carry goes on.
use mathlib.Core.Path.{◌≡◌, refl, sym, ap, ◌∙◌, subst}
use mathlib.Core.Bool.{Bool, true, false}
use Prim.Native.Nat.{ℕ, zero, suc, ◌+◌, ◌-◌, ◌*◌, ◌/◌, ◌%◌, ◌^◌, ◌<◌, ◌≤◌}
use native.Mathlib.Omega.{arith}
use native.Mathlib.Nat.{div-one, suc-add, mul_assoc}
use lib.Dec.{ltb}
use lib.Arith.{digits_div, digits_mod, mod-mul}
use lib.Pow.{shr-shr, field, mod-mod-pow}
use borrow.Author.Tests.{ltb-true, ltb-false, lt-ltb, le-ltb}
use Rattle.bits.specs.Bits.{flag, bit_of}
use Rattle.arithmetic.specs.Nibbles.{nibble_carries, nibble_borrows}
use Rattle.sequence.specs.Decimal.{Digits, value, decimal_borrow}

-- ---- tests
pub data Test (p : Type 0) (t : Bool) : Type 0 where
  holds : p → t ≡ true → Test p t
  fails : ¬ p → t ≡ false → Test p t

pub test_lt : (a b : ℕ) → Test (a < b) (ltb a b)
test_lt a b = go (ltb a b) refl
  where
    go : (t : Bool) → ltb a b ≡ t → Test (a < b) (ltb a b)
    go true e = holds (ltb-true a b e) e
    go false e = fails (omega (arith, ltb-false a b e)) e

pub flag-lt : (t : Bool) → flag t < 2
flag-lt true = omega arith
flag-lt false = omega arith

-- 1 from ten on, else 0
abbrev pub ten : ℕ → ℕ
ten x = flag (ltb 9 x)

pub data Ten (x n : ℕ) : Type 0 where
  less : n ≡ 0 → x < 10 → Ten x n
  more : n ≡ 1 → 10 ≤ x → Ten x n

pub ten_is : (x : ℕ) → Ten x (ten x)
ten_is x = go (test_lt 9 x)
  where
    go : Test (9 < x) (ltb 9 x) → Ten x (flag (ltb 9 x))
    go (holds h e) = rw e (more refl h)
    go (fails h e) = rw e (less refl (omega arith))

-- ---- one nibble: the sum of the digits and the carry in, with its 6, is a digit and the carry out
unfoldable pub cout : ℕ → ℕ → ℕ → ℕ
cout zero c nc = c
cout (suc k) c nc = cout k (nc % 2) (nc / 16)

pub record Sum (k c A B nc : ℕ) : Type 0 where
  digits : ℕ
  out : ℕ
  binary : A + B + c + 6 * nc ≡ digits + 16 ^ k * out
  decimal : value k A + value k B + c ≡ value k digits + 10 ^ k * out
  valid : Digits k digits
  fits : digits < 16 ^ k
  out< : out < 2
  carry : out ≡ cout k c nc

-- a digit in front of k digits
module _ (k d D : ℕ) (hd : d < 10) where
  mod16 : (d + 16 * D) % 16 ≡ d
  mod16 = omega arith

  div16 : (d + 16 * D) / 16 ≡ D
  div16 = omega arith

  digits-suc : Digits k D → Digits (suc k) (d + 16 * D)
  digits-suc v = (omega arith, subst (λ (x : ℕ). Digits k x) (sym div16) v)

  value-suc : value (suc k) (d + 16 * D) ≡ d + 10 * value k D
  unfolding value
  value-suc = rw (mod16, div16)

  fits_suc : D < 16 ^ k → d + 16 * D < 16 ^ suc k
  fits_suc h = omega arith

-- a nibble bit in front of k of them
pub cout-suc : (k c n m : ℕ) → n < 2 → cout (suc k) c (n + 16 * m) ≡ cout k n m
unfolding cout
cout-suc k c n m h = rw (e0, e1)
  where
    e0 : (n + 16 * m) % 2 ≡ n
    e0 = omega arith

    e1 : (n + 16 * m) / 16 ≡ m
    e1 = omega arith

pub cout-top : (k c nc : ℕ) → cout (suc k) c nc ≡ bit_of (4 * k) nc
unfolding cout
cout-top zero c nc = ap (λ (x : ℕ). x % 2) (sym (div-one nc))
cout-top (suc k) c nc = cout-top k (nc % 2) (nc / 16) ∙ ap (λ (x : ℕ). x % 2) (shr-shr nc 4 (4 * k) ∙ ap (λ (x : ℕ). nc / 2 ^ x) e)
  where
    e : 4 + 4 * k ≡ 4 * suc k
    e = omega arith

p16 : (k x : ℕ) → 16 ^ suc k * x ≡ 16 * (16 ^ k * x)
p16 k x = omega (arith, ap (λ (y : ℕ). y * x) e)
  where
    e : 16 ^ suc k ≡ 16 * 16 ^ k
    e = omega arith

p10 : (k x : ℕ) → 10 ^ suc k * x ≡ 10 * (10 ^ k * x)
p10 k x = omega (arith, ap (λ (y : ℕ). y * x) e)
  where
    e : 10 ^ suc k ≡ 10 * 10 ^ k
    e = omega arith

value_is : (k x : ℕ) → value (suc k) x ≡ x % 16 + 10 * value k (x / 16)
unfolding value
value_is k x = refl

sum_step : (k c A B n m d : ℕ) → d + 10 * n ≡ A % 16 + B % 16 + c → d < 10 → n < 2 → Sum k n (A / 16) (B / 16) m → Sum (suc k) c A B (n + 16 * m)
sum_step k c A B n m d e hd hn r = record {
  digits = d + 16 * r.digits;
  out = r.out;
  binary = omega (arith, r.binary, p16 k r.out);
  decimal = omega (arith, r.decimal, value-suc k d r.digits hd, value_is k A, value_is k B, p10 k r.out);
  valid = digits-suc k d r.digits hd r.valid;
  fits = fits_suc k d r.digits hd r.fits;
  out< = r.out<;
  carry = r.carry ∙ sym (cout-suc k c n m hn);
}

sum-ten : (k c A B n m : ℕ) → c < 2 → A % 16 < 10 → B % 16 < 10 → Ten (A % 16 + B % 16 + c) n → Sum k n (A / 16) (B / 16) m → Sum (suc k) c A B (n + 16 * m)
sum-ten k c A B n m hc ha hb (less e h) r = sum_step k c A B n m (A % 16 + B % 16 + c) (omega arith) h (omega arith) r
sum-ten k c A B n m hc ha hb (more e h) r = sum_step k c A B n m (A % 16 + B % 16 + c - 10) (omega arith) (omega arith) (omega arith) r

pub sums : (k c A B : ℕ) → c < 2 → A < 16 ^ k → B < 16 ^ k → Digits k A → Digits k B → Sum k c A B (nibble_carries k A B c)
unfolding nibble_carries value cout
sums zero c A B hc hA hB vA vB = record { digits = 0; out = c; binary = omega arith; decimal = omega arith; valid = tt; fits = omega arith; out< = hc; carry = refl }
sums (suc k) c A B hc hA hB vA vB =
    sum-ten k c A B _ _ hc vA.0 vB.0 (ten_is (A % 16 + B % 16 + c))
    (sums k (ten (A % 16 + B % 16 + c)) (A / 16) (B / 16) (flag-lt (ltb 9 (A % 16 + B % 16 + c))) (omega arith) (omega arith) vA.1 vB.1)

-- k digits are below 10 ^ k
pub value-lt : (k x : ℕ) → Digits k x → value k x < 10 ^ k
unfolding value
value-lt zero x v = omega arith
value-lt (suc k) x v = omega (arith, v.0, value-lt k (x / 16) v.1)

-- some digits of k
pub digits-fewer : (j k x : ℕ) → j ≤ k → Digits k x → Digits j x
digits-fewer zero k x h v = tt
digits-fewer (suc j) zero x h v = absurd (omega arith)
digits-fewer (suc j) (suc k) x h v = (v.0, digits-fewer j k (x / 16) (omega arith) v.1)

-- ---- an addition and its correction
pub record SumCorrected (k c A B Y C : ℕ) : Type 0 where
  pub valid : Digits k Y
  pub sum : value k Y ≡ (value k A + value k B + c) % 10 ^ k
  pub carry : C ≡ (value k A + value k B + c) / 10 ^ k

pub sum-end : (k c A B nc Y C : ℕ) → Sum (suc k) c A B nc → Y ≡ (A + B + c + 6 * nc) % 16 ^ suc k → C ≡ bit_of (4 * k) nc → SumCorrected (suc k) c A B Y C
sum-end k c A B nc Y C r hY hC = record {
  valid = subst (λ (x : ℕ). Digits (suc k) x) (sym e) r.valid;
  sum = ap (λ (x : ℕ). value (suc k) x) e ∙ sym (ap (λ (x : ℕ). x % 10 ^ suc k) dec ∙ digits_mod r.out (value-lt (suc k) r.digits r.valid));
  carry = hC ∙ sym (r.carry ∙ cout-top k c nc) ∙ sym (ap (λ (x : ℕ). x / 10 ^ suc k) dec ∙ digits_div r.out (value-lt (suc k) r.digits r.valid));
}
  where
    dec : value (suc k) A + value (suc k) B + c ≡ r.out * 10 ^ suc k + value (suc k) r.digits
    dec = omega (arith, r.decimal)

    bin : A + B + c + 6 * nc ≡ r.out * 16 ^ suc k + r.digits
    bin = omega (arith, r.binary)

    e : Y ≡ r.digits
    e = hY ∙ ap (λ (x : ℕ). x % 16 ^ suc k) bin ∙ digits_mod r.out r.fits

-- ---- a subtraction and its correction
pub record Dif (k c A B nc : ℕ) : Type 0 where
  digits : ℕ
  out : ℕ
  binary : digits + 6 * nc + B + c ≡ A + 16 ^ k * out
  decimal : value k digits + value k B + c ≡ value k A + 10 ^ k * out
  valid : Digits k digits
  fits : digits < 16 ^ k
  out< : out < 2
  carry : out ≡ cout k c nc

dif_step : (k c A B n m d : ℕ) → d + B % 16 + c ≡ A % 16 + 10 * n → d < 10 → n < 2 → Dif k n (A / 16) (B / 16) m → Dif (suc k) c A B (n + 16 * m)
dif_step k c A B n m d e hd hn r = record {
  digits = d + 16 * r.digits;
  out = r.out;
  binary = omega (arith, r.binary, p16 k r.out);
  decimal = omega (arith, r.decimal, value-suc k d r.digits hd, value_is k A, value_is k B, p10 k r.out);
  valid = digits-suc k d r.digits hd r.valid;
  fits = fits_suc k d r.digits hd r.fits;
  out< = r.out<;
  carry = r.carry ∙ sym (cout-suc k c n m hn);
}

dif_test : (k c A B m : ℕ) (t : Bool) → c < 2 → A % 16 < 10 → B % 16 < 10 → Test (A % 16 < B % 16 + c) t → Dif k (flag t) (A / 16) (B / 16) m → Dif (suc k) c A B (flag t + 16 * m)
dif_test k c A B m t hc ha hb (holds h e) r = dif_step k c A B (flag t) m (A % 16 + 10 - (B % 16 + c)) (omega (arith, ap flag e)) (omega arith) (flag-lt t) r
dif_test k c A B m t hc ha hb (fails h e) r = dif_step k c A B (flag t) m (A % 16 - (B % 16 + c)) (omega (arith, ap flag e)) (omega arith) (flag-lt t) r

pub difs : (k c A B : ℕ) → c < 2 → A < 16 ^ k → B < 16 ^ k → Digits k A → Digits k B → Dif k c A B (nibble_borrows k A B c)
unfolding nibble_borrows value cout
difs zero c A B hc hA hB vA vB = record { digits = 0; out = c; binary = omega arith; decimal = omega arith; valid = tt; fits = omega arith; out< = hc; carry = refl }
difs (suc k) c A B hc hA hB vA vB =
    dif_test k c A B _ _ hc vA.0 vB.0 (test_lt (A % 16) (B % 16 + c))
    (difs k (flag (ltb (A % 16) (B % 16 + c))) (A / 16) (B / 16) (flag-lt (ltb (A % 16) (B % 16 + c))) (omega arith) (omega arith) vA.1 vB.1)

-- the difference modulo 10 ^ k is the one number below it that B and c bring to A, or to A and 10 ^ k where that borrows
pub record DiffCorrected (k c A B Y N : ℕ) : Type 0 where
  pub valid : Digits k Y
  pub difference : value k Y ≡ (value k A + (10 ^ k - (value k B + c))) % 10 ^ k
  pub balance : value k Y + value k B + c ≡ value k A + 10 ^ k * N

-- what is borrowed
pub borrow_is : (k c A B Y N : ℕ) → N < 2 → DiffCorrected k c A B Y N → N ≡ decimal_borrow k A B c
borrow_is k c A B Y zero h d = sym (ap flag (le-ltb (value k A) (value k B + c) (omega (arith, d.balance))))
borrow_is k c A B Y (suc zero) h d = sym (ap flag (lt-ltb (value k A) (value k B + c) (omega (arith, d.balance, value-lt k Y d.valid))))
borrow_is k c A B Y (suc (suc N)) h d = absurd (omega arith)

pub dif-end :
    (k c A B nc Y : ℕ) → c < 2 → B < 16 ^ suc k → Digits (suc k) B → 6 * nc < 16 ^ suc k → Dif (suc k) c A B nc →
    Y ≡ (A + (16 ^ suc k - (B + c)) + (16 ^ suc k - 6 * nc)) % 16 ^ suc k → DiffCorrected (suc k) c A B Y (bit_of (4 * k) nc)
dif-end k c A B nc Y hc hB vB six r hY = record {
  valid = subst (λ (x : ℕ). Digits (suc k) x) (sym e) r.valid;
  difference = ap (λ (x : ℕ). value (suc k) x) e ∙ sym (ap (λ (x : ℕ). x % 10 ^ suc k) (dec r.out r.out< r.decimal) ∙ digits_mod (1 - r.out) (value-lt (suc k) r.digits r.valid));
  balance = rw (e, ← (r.carry ∙ cout-top k c nc)) r.decimal;
}
  where
    dec : (o : ℕ) → o < 2 → value (suc k) r.digits + value (suc k) B + c ≡ value (suc k) A + 10 ^ suc k * o → value (suc k) A + (10 ^ suc k - (value (suc k) B + c)) ≡ (1 - o) * 10 ^ suc k + value (suc k) r.digits
    dec zero ho h = omega (arith, value-lt (suc k) B vB)
    dec (suc zero) ho h = omega (arith, value-lt (suc k) B vB)
    dec (suc (suc o)) ho h = absurd (omega arith)

    bin : (o : ℕ) → o < 2 → r.digits + 6 * nc + B + c ≡ A + 16 ^ suc k * o → A + (16 ^ suc k - (B + c)) + (16 ^ suc k - 6 * nc) ≡ (2 - o) * 16 ^ suc k + r.digits
    bin zero ho h = omega arith
    bin (suc zero) ho h = omega arith
    bin (suc (suc o)) ho h = absurd (omega arith)

    e : Y ≡ r.digits
    e = hY ∙ ap (λ (x : ℕ). x % 16 ^ suc k) (bin r.out r.out< r.binary) ∙ digits_mod (2 - r.out) r.fits

-- ---- only the low k nibbles count
pub pow16_pos : (k : ℕ) → 0 < 16 ^ k
pow16_pos zero = omega arith
pow16_pos (suc k) = omega (arith, pow16_pos k)

pub split16 : (k x : ℕ) → x % 16 ^ suc k ≡ (x / 16 % 16 ^ k) * 16 + x % 16
split16 k x = ap (λ (y : ℕ). x % y) e ∙ mod-mul x (pow16_pos k) (omega arith)
  where
    e : 16 ^ suc k ≡ 16 ^ k * 16
    e = omega arith

low16 : (k x : ℕ) → x % 16 ^ suc k % 16 ≡ x % 16
low16 k x = omega (arith, split16 k x)

high16 : (k x : ℕ) → x % 16 ^ suc k / 16 ≡ x / 16 % 16 ^ k
high16 k x = omega (arith, split16 k x)

pub digits-cut : (k x : ℕ) → Digits k x → Digits k (x % 16 ^ k)
digits-cut zero x v = tt
digits-cut (suc k) x v = (subst (λ (d : ℕ). d < 10) (sym (low16 k x)) v.0, subst (λ (y : ℕ). Digits k y) (sym (high16 k x)) (digits-cut k (x / 16) v.1))

pub digits-whole : (k x : ℕ) → Digits k (x % 16 ^ k) → Digits k x
digits-whole zero x v = tt
digits-whole (suc k) x v = (subst (λ (d : ℕ). d < 10) (low16 k x) v.0, digits-whole k (x / 16) (subst (λ (y : ℕ). Digits k y) (high16 k x) v.1))

pub value-cut : (k x : ℕ) → value k (x % 16 ^ k) ≡ value k x
unfolding value
value-cut zero x = refl
value-cut (suc k) x = rw (low16 k x, high16 k x) (ap (λ (y : ℕ). x % 16 + 10 * y) (value-cut k (x / 16)))

pub carries-cut : (k A B c : ℕ) → nibble_carries k (A % 16 ^ k) (B % 16 ^ k) c ≡ nibble_carries k A B c
unfolding nibble_carries
carries-cut zero A B c = refl
carries-cut (suc k) A B c =
    rw (low16 k A, low16 k B, high16 k A, high16 k B)
    (ap (λ (x : ℕ). ten (A % 16 + B % 16 + c) + 16 * x) (carries-cut k (A / 16) (B / 16) (ten (A % 16 + B % 16 + c))))

-- one nibble of the borrows
abbrev pub nb : ℕ → ℕ → ℕ → ℕ
nb A B c = flag (ltb (A % 16) (B % 16 + c))

pub borrows-cut : (k A B c : ℕ) → nibble_borrows k (A % 16 ^ k) (B % 16 ^ k) c ≡ nibble_borrows k A B c
unfolding nibble_borrows
borrows-cut zero A B c = refl
borrows-cut (suc k) A B c =
    rw (low16 k A, low16 k B, high16 k A, high16 k B) (ap (λ (x : ℕ). nb A B c + 16 * x) (borrows-cut k (A / 16) (B / 16) (nb A B c)))

-- k nibbles of 4 bits
pub pow16 : (k : ℕ) → 2 ^ (4 * k) ≡ 16 ^ k
pow16 zero = refl
pow16 (suc k) = ap (λ (x : ℕ). 2 ^ x) e ∙ omega (arith, pow16 k)
  where
    e : 4 * suc k ≡ suc (suc (suc (suc (4 * k))))
    e = omega arith

-- ---- of the nibble bits x of more nibbles, y are those of the low k
pub record Low (k x y : ℕ) : Type 0 where
  above : ℕ
  is : x ≡ above * 16 ^ k + y
  pub small : 15 * y < 16 ^ k

low-suc : (k n x y : ℕ) → n < 2 → Low k x y → Low (suc k) (n + 16 * x) (n + 16 * y)
low-suc k n x y h l = record {
  above = l.above;
  is = omega (arith, l.is, ap (λ (v : ℕ). l.above * v) e, p16 k l.above);
  small = omega (arith, l.small);
}
  where
    e : 16 ^ suc k ≡ 16 * 16 ^ k
    e = omega arith

pub carries-low : (k j A B c : ℕ) → Low k (nibble_carries (k + j) A B c) (nibble_carries k A B c)
unfolding nibble_carries
carries-low zero j A B c = record { above = nibble_carries (zero + j) A B c; is = omega arith; small = omega arith }
carries-low (suc k) j A B c =
    subst (λ (m : ℕ). Low (suc k) (nibble_carries m A B c) (nibble_carries (suc k) A B c)) (sym (suc-add k j))
    (low-suc k (ten (A % 16 + B % 16 + c)) _ _ (flag-lt (ltb 9 (A % 16 + B % 16 + c))) (carries-low k j (A / 16) (B / 16) (ten (A % 16 + B % 16 + c))))

pub borrows-suc : (k A B c : ℕ) → nibble_borrows (suc k) A B c ≡ nb A B c + 16 * nibble_borrows k (A / 16) (B / 16) (nb A B c)
unfolding nibble_borrows
borrows-suc k A B c = refl

pub borrows-low : (k j A B c : ℕ) → Low k (nibble_borrows (k + j) A B c) (nibble_borrows k A B c)
unfolding nibble_borrows
borrows-low zero j A B c = record { above = nibble_borrows (zero + j) A B c; is = omega arith; small = omega arith }
borrows-low (suc k) j A B c =
    subst (λ (m : ℕ). Low (suc k) (nibble_borrows m A B c) (nibble_borrows (suc k) A B c)) (sym (suc-add k j))
    (low-suc k (nb A B c) _ _ (flag-lt (ltb (A % 16) (B % 16 + c))) (borrows-low k j (A / 16) (B / 16) (nb A B c)))

-- the correction word of more nibbles, cut to k of them
pub six_low : (k x y : ℕ) → Low k x y → 6 * x % 16 ^ k ≡ 6 * y
six_low k x y l = ap (λ (v : ℕ). v % 16 ^ k) e ∙ digits_mod (6 * l.above) (omega (arith, l.small))
  where
    e : 6 * x ≡ 6 * l.above * 16 ^ k + 6 * y
    e = omega (arith, l.is, mul_assoc 6 l.above (16 ^ k))

-- the highest of them
pub top-low : (k x y : ℕ) → Low (suc k) x y → bit_of (4 * k) x ≡ bit_of (4 * k) y
top-low k x y l =
    sym (ap (λ (v : ℕ). v / 2 ^ (4 * k) % 2) cut ∙ ap (λ (v : ℕ). v % 2) (field x 4 (4 * k)) ∙ mod-mod-pow (x / 2 ^ (4 * k)) 3 1)
  where
    e : 16 ^ suc k ≡ 2 ^ (4 + 4 * k)
    e = sym (pow16 (suc k)) ∙ ap (λ (v : ℕ). 2 ^ v) (omega arith)

    cut : y ≡ x % 2 ^ (4 + 4 * k)
    cut = sym (ap (λ (v : ℕ). x % v) (sym e) ∙ ap (λ (v : ℕ). v % 16 ^ suc k) l.is ∙ digits_mod l.above (omega (arith, l.small)))
