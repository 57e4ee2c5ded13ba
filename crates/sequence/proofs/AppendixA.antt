-- Appendix A's way to the nibble bits and the definition's come to the same, for nibbles above 9 too: its two conditions for a nibble-carry say
-- that digit, digit and nibble-carry reach ten, and a nibble-borrow is the complement of the carry between nibbles.
use mathlib.Core.Path.{◌≡◌, refl, sym, ap, ◌∙◌, subst}
use mathlib.Core.Bool.{Bool, true, false, ◌&&◌, ◌||◌}
use Prim.Native.Nat.{ℕ, zero, suc, ◌+◌, ◌-◌, ◌*◌, ◌/◌, ◌%◌, ◌^◌, ◌≤◌, ◌<◌}
use native.Mathlib.Nat.{mod-lt, mod-one, div-eq_of_lt}
use native.Mathlib.Omega.{arith}
use lib.Dec.{ltb, eqb}
use lib.Arith.{digits_div}
use lib.Pow.{pow_pos}
use borrow.Author.Tests.{eqb-true, eqb-false}
use Rattle.bits.specs.Bits.{flag, bit_of, not_of, carry_of}
use Rattle.arithmetic.specs.Nibbles.{nibble_carries, nibble_borrows}
use Rattle.sequence.specs.AppendixA.{printed_carry, printed_carries}
use Rattle.sequence.proofs.Lists.{not-cut}
use Rattle.sequence.proofs.DecimalNumbers.{Test, Test.holds, Test.fails, test_lt, flag-lt, ten, Ten, Ten.less, Ten.more, ten_is, cout, cout-suc, cout-top, nb, borrows-suc, borrows-low, top-low, split16, pow16}

-- ---- nibble-carries
test_eq : (a b : ℕ) → Test (a ≡ b) (eqb a b)
test_eq a b = go (eqb a b) refl
  where
    go : (t : Bool) → eqb a b ≡ t → Test (a ≡ b) (eqb a b)
    go true e = holds (eqb-true a b e) e
    go false e = fails (eqb-false a b e) e

or_never : (p q : Bool) → flag (p || (q && false)) ≡ flag p
or_never true q = refl
or_never false true = refl
or_never false false = refl

or_nine : (a b : ℕ) (p q r : Bool) → Test (9 < a + b + 0) p → Test (a + b ≡ 9) q → Test (9 < a + b + 1) r → flag (p || (q && true)) ≡ flag r
or_nine a b p q r (holds x ep) tq (holds y er) = rw (ep, er)
or_nine a b p q r (holds x ep) tq (fails y er) = absurd (omega arith)
or_nine a b p q r (fails x ep) (holds z eq) (holds y er) = rw (ep, eq, er)
or_nine a b p q r (fails x ep) (holds z eq) (fails y er) = absurd (omega arith)
or_nine a b p q r (fails x ep) (fails z eq) (holds y er) = absurd (omega arith)
or_nine a b p q r (fails x ep) (fails z eq) (fails y er) = rw (ep, eq, er)

-- a binary carry in comes with a nibble-carry in
rule_is : (a b binary nibble : ℕ) → binary ≤ nibble → nibble < 2 → printed_carry a b binary nibble ≡ ten (a + b + nibble)
unfolding printed_carry
rule_is a b zero zero hb hn = or_never (ltb 9 (a + b + 0)) (eqb (a + b) 9)
rule_is a b zero (suc zero) hb hn = or_nine a b (ltb 9 (a + b + 0)) (eqb (a + b) 9) (ltb 9 (a + b + 1)) (test_lt 9 (a + b + 0)) (test_eq (a + b) 9) (test_lt 9 (a + b + 1))
rule_is a b (suc zero) (suc zero) hb hn = or_never (ltb 9 (a + b + 1)) (eqb (a + b) 9)
rule_is a b (suc binary) zero hb hn = absurd (omega arith)
rule_is a b zero (suc (suc nibble)) hb hn = absurd (omega arith)
rule_is a b (suc zero) (suc (suc nibble)) hb hn = absurd (omega arith)
rule_is a b (suc (suc binary)) (suc nibble) hb hn = absurd (omega arith)

-- so does the binary carry out
binary_le : (a b binary nibble n : ℕ) → a < 16 → b < 16 → binary ≤ nibble → nibble < 2 → Ten (a + b + nibble) n → (a + b + binary) / 16 ≤ n
binary_le a b binary nibble n ha hb h hn (less e l) = omega arith
binary_le a b binary nibble n ha hb h hn (more e l) = omega arith

carries_are : (k a b binary nibble : ℕ) → binary ≤ nibble → nibble < 2 → printed_carries k a b binary nibble ≡ nibble_carries k a b nibble
unfolding printed_carries nibble_carries
carries_are zero a b binary nibble hb hn = refl
carries_are (suc k) a b binary nibble hb hn =
    rw (rule_is (a % 16) (b % 16) binary nibble hb hn)
    (ap (λ (x : ℕ). ten (a % 16 + b % 16 + nibble) + 16 * x)
    (carries_are k (a / 16) (b / 16) ((a % 16 + b % 16 + binary) / 16) (ten (a % 16 + b % 16 + nibble))
    (binary_le (a % 16) (b % 16) binary nibble (ten (a % 16 + b % 16 + nibble)) (omega arith) (omega arith) hb hn (ten_is (a % 16 + b % 16 + nibble)))
    (flag-lt (ltb 9 (a % 16 + b % 16 + nibble)))))

-- NIBBLE CARRIES. For any k nibbles, above 9 too, the nibble carries of the definition are those of appendix A's two conditions, where the carry in
-- counts as a binary carry and as a nibble-carry into the lowest nibble.
pub carries_as_printed : (k a b c : ℕ) → c < 2 → nibble_carries k a b c ≡ printed_carries k a b c c
carries_as_printed k a b c h = sym (carries_are k a b c c (omega arith) h)

-- ---- nibble-borrows
same-lt : (x y u v : ℕ) → Test (x < y) (ltb x y) → Test (u < v) (ltb u v) → (x < y → u < v) → (u < v → x < y) → flag (ltb x y) ≡ flag (ltb u v)
same-lt x y u v (holds h e) (holds k f) p q = ap flag (e ∙ sym f)
same-lt x y u v (holds h e) (fails k f) p q = absurd (k (p h))
same-lt x y u v (fails h e) (holds k f) p q = absurd (h (q k))
same-lt x y u v (fails h e) (fails k f) p q = ap flag (e ∙ sym f)

-- a nibble in front: n tells whether a is below b and c
lt-cons : (A' B' a b c n : ℕ) → a < 16 → b < 16 → c < 2 → Test (a < b + c) (ltb a (b + c)) → n ≡ flag (ltb a (b + c)) → flag (ltb A' (B' + n)) ≡ flag (ltb (A' * 16 + a) (B' * 16 + b + c))
lt-cons A' B' a b c n ha hb hc (holds h e) hn =
    same-lt _ _ _ _ (test_lt _ _) (test_lt _ _) (λ (x : A' < B' + n). omega (arith, ap flag e)) (λ (x : A' * 16 + a < B' * 16 + b + c). omega (arith, ap flag e))
lt-cons A' B' a b c n ha hb hc (fails h e) hn =
    same-lt _ _ _ _ (test_lt _ _) (test_lt _ _) (λ (x : A' < B' + n). omega (arith, ap flag e)) (λ (x : A' * 16 + a < B' * 16 + b + c). omega (arith, ap flag e))

-- the borrow out of the low k nibbles: they are below what is taken away
borrow-out : (k c a b : ℕ) → c < 2 → cout k c (nibble_borrows k a b c) ≡ flag (ltb (a % 16 ^ k) (b % 16 ^ k + c))
unfolding cout
borrow-out zero zero a b hc = rw (mod-one a, mod-one b)
borrow-out zero (suc zero) a b hc = rw (mod-one a, mod-one b)
borrow-out zero (suc (suc c)) a b hc = absurd (omega arith)
borrow-out (suc k) c a b hc =
    ap (λ (x : ℕ). cout (suc k) c x) (borrows-suc k a b c) ∙ cout-suc k c (nb a b c) _ (flag-lt (ltb (a % 16) (b % 16 + c)))
    ∙ borrow-out k (nb a b c) (a / 16) (b / 16) (flag-lt (ltb (a % 16) (b % 16 + c)))
    ∙ lt-cons (a / 16 % 16 ^ k) (b / 16 % 16 ^ k) (a % 16) (b % 16) c (nb a b c) (omega arith) (omega arith) hc (test_lt (a % 16) (b % 16 + c)) refl
    ∙ sym (rw (split16 k a, split16 k b))

-- it is the complement of the carry out of the sum with the complement
complement : (W A B c : ℕ) → A < W → B < W → c < 2 → Test (A < B + c) (ltb A (B + c)) → flag (ltb A (B + c)) ≡ 1 - (A + ((W - 1) - B) + (1 - c)) / W
complement W A B c hA hB hc (holds h e) = ap flag e ∙ sym (ap (λ (x : ℕ). 1 - x) (div-eq_of_lt (omega arith)))
complement W A B c hA hB hc (fails h e) = ap flag e ∙ sym (ap (λ (x : ℕ). 1 - x) (ap (λ (x : ℕ). x / W) whole ∙ digits_div 1 {m = W} {r = A - (B + c)} (omega arith)))
  where
    whole : A + ((W - 1) - B) + (1 - c) ≡ 1 * W + (A - (B + c))
    whole = omega arith

-- NIBBLE BORROWS. Bit 4 i of the nibble borrows of a - b - w is the complement of the carry out of nibble i while the chip adds a, the complement of b,
-- and the carry in, as appendix A says that it is implemented.
pub borrows_as_implemented : (i a b w : ℕ) → i < 8 → w < 2 → b < 2 ^ 32 → bit_of (4 * i) (nibble_borrows 8 a b w) ≡ 1 - carry_of (4 * suc i) a (not_of b) (1 - w)
unfolding carry_of
borrows_as_implemented i a b w hi hw hb =
    subst (λ (k : ℕ). bit_of (4 * i) (nibble_borrows k a b w) ≡ bit_of (4 * i) (nibble_borrows (suc i) a b w)) (omega arith) (top-low i _ _ (borrows-low (suc i) (7 - i) a b w))
    ∙ sym (cout-top i w (nibble_borrows (suc i) a b w)) ∙ borrow-out (suc i) w a b hw
    ∙ ap (λ (v : ℕ). flag (ltb (a % v) (b % v + w))) (sym (pow16 (suc i)))
    ∙ complement (2 ^ (4 * suc i)) (a % 2 ^ (4 * suc i)) (b % 2 ^ (4 * suc i)) w (mod-lt a (pow_pos (4 * suc i))) (mod-lt b (pow_pos (4 * suc i))) hw (test_lt _ _)
    ∙ ap (λ (v : ℕ). 1 - (a % 2 ^ (4 * suc i) + v + (1 - w)) / 2 ^ (4 * suc i)) (sym (not-cut (4 * suc i) b (omega arith) hb))
