-- No second result meets what is said of the signed sequences: it determines every register, Q and the status register.
use mathlib.Core.Path.{◌≡◌, sym, ap, ap₂, ◌∙◌}
use Prim.Native.Nat.{ℕ, ◌+◌, ◌*◌, ◌/◌, ◌%◌, ◌^◌, ◌≤◌, ◌<◌}
use native.Mathlib.Nat.{mod-lt, mod-eq_of_lt, div-add-mod'}
use native.Mathlib.Decide.{ℕ_discrete}
use native.Mathlib.Omega.{arith}
use lib.Arith.{digits_div, digits_mod, digits_lt}
use lib.Pow.{pow_pos, pow-add}
use lib.IntN.{ℤ}
use Rattle.machine.specs.declared.Status.{Status}
use Rattle.chip.specs.Lists.{State, read_at}
use Rattle.sequence.specs.Sequences.{Registers}
use Rattle.sequence.specs.Signed.{together, signed_long}
use Rattle.sequence.specs.Results.{register, low_q, uncorrected, signed_divided_status, SignedMultiplied, SignedDivided}
use Rattle.sequence.proofs.Integers.{signed_once}

-- two halves with one signed value are the same halves
halves_once : (n h l j k : ℕ) → 1 ≤ n → h < 2 ^ n → l < 2 ^ n → j < 2 ^ n → k < 2 ^ n → signed_long n h l ≡ signed_long n j k → (h ≡ j) × (l ≡ k)
halves_once n h l j k hn hh hl hj hk e =
    (sym (digits_div h hl) ∙ ap (λ (v : ℕ). v / 2 ^ n) same ∙ digits_div j hk, sym (digits_mod h hl) ∙ ap (λ (v : ℕ). v % 2 ^ n) same ∙ digits_mod j hk)
  where
    whole : (h l : ℕ) → h < 2 ^ n → l < 2 ^ n → together n h l % 2 ^ (2 * n) ≡ together n h l
    whole h l hh hl = ap (λ (p : ℕ). together n h l % p) (ap (λ (k : ℕ). 2 ^ k) (omega arith) ∙ pow-add 2 n n) ∙ mod-eq_of_lt (digits_lt hh hl)

    same : together n h l ≡ together n j k
    same = sym (whole h l hh hl) ∙ signed_once (2 * n) (together n h l) (together n j k) (omega arith) e ∙ whole j k hj hk

-- a word by its selected and its unselected bits
both_parts : (n x y : ℕ) → x % 2 ^ n ≡ y % 2 ^ n → x / 2 ^ n ≡ y / 2 ^ n → x ≡ y
both_parts n x y low high = sym (div-add-mod' x (2 ^ n)) ∙ ap₂ (λ (h l : ℕ). h * 2 ^ n + l) high low ∙ div-add-mod' y (2 ^ n)

-- every register, Q and the status register of two states are the same
pub record Same (u v : State) : Type 0 where
  pub file : (k : ℕ) → read_at u.file k ≡ read_at v.file k
  pub q : u.core.q ≡ v.core.q
  pub status : u.core.status ≡ v.core.status

pub product_once : (n a b : ℕ) (t u v : State) → 1 ≤ n → SignedMultiplied n a b t u → SignedMultiplied n a b t v → Same u v
product_once n a b t u v h p q = record {
  file = λ k. pick k (ℕ_discrete k b);
  q = both_parts n u.core.q v.core.q same.1 (p.rest.above-q ∙ sym q.rest.above-q);
  status = p.status ∙ sym q.status;
}
  where
    same : (register n b u ≡ register n b v) × (low_q n u ≡ low_q n v)
    same = halves_once n (register n b u) (low_q n u) (register n b v) (low_q n v) h (mod-lt _ (pow_pos n)) (mod-lt _ (pow_pos n)) (mod-lt _ (pow_pos n)) (mod-lt _ (pow_pos n)) (p.product ∙ sym q.product)

    pick : (k : ℕ) → Dec (k ≡ b) → read_at u.file k ≡ read_at v.file k
    pick k (yes e) = rw e (both_parts n (read_at u.file b) (read_at v.file b) same.0 (p.rest.above-b ∙ sym q.rest.above-b))
    pick k (no e) = p.rest.others k e ∙ sym (q.rest.others k e)

pub quotient_once : (n : ℕ) (X : ℤ) (r : Registers) (t u v : State) → 1 ≤ n → SignedDivided n X r t u → SignedDivided n X r t v → Same u v
quotient_once n X r t u v h p q = record {
  file = λ k. pick k (ℕ_discrete k r.R) (ℕ_discrete k r.K);
  q = both_parts n u.core.q v.core.q (p.q ∙ ap₂ (uncorrected n) (ap (λ (s : Status). s.m) status) in_k_lem ∙ sym q.q) (p.rest.above-q ∙ sym q.rest.above-q);
  status = status;
}
  where
    in_k_lem : register n r.K u ≡ register n r.K v
    in_k_lem = signed_once n (read_at u.file r.K) (read_at v.file r.K) h (p.quotient ∙ sym q.quotient)

    in_r : register n r.R u ≡ register n r.R v
    in_r = signed_once n (read_at u.file r.R) (read_at v.file r.R) h (p.remainder ∙ sym q.remainder)

    whole-r : read_at u.file r.R ≡ read_at v.file r.R
    whole-r = both_parts n (read_at u.file r.R) (read_at v.file r.R) in_r (p.rest.above-r ∙ sym q.rest.above-r)

    whole-k : read_at u.file r.K ≡ read_at v.file r.K
    whole-k = both_parts n (read_at u.file r.K) (read_at v.file r.K) in_k_lem (p.rest.above-k ∙ sym q.rest.above-k)

    status : u.core.status ≡ v.core.status
    status = p.status ∙ ap₂ (λ (k y : ℕ). signed_divided_status n X (read_at t.file r.D) k y t.core.status) whole-k whole-r ∙ sym q.status

    pick : (k : ℕ) → Dec (k ≡ r.R) → Dec (k ≡ r.K) → read_at u.file k ≡ read_at v.file k
    pick k (yes e) f = rw e whole-r
    pick k (no e) (yes f) = rw f whole-k
    pick k (no e) (no f) = p.rest.others k e f ∙ sym (q.rest.others k e f)
